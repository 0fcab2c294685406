-- What holds of every plan that is accepted. This project's own.
use Rattle.std.specs.Prelude.{◌≢◌, ℕ, ◌<◌, ◌≤◌, ⊤, List, [], ◌∷◌, length, IfSome}
use Rattle.std.specs.List.{AllByRecursion}
use Rattle.plan_model.specs.declared.plan.FeedFrom.{FeedFrom}
use Rattle.plan_model.specs.declared.plan.FeedFrom.TheVariants.{File, Tcp}
use Rattle.plan_model.specs.declared.plan.FeedLine.{FeedLine}
use Rattle.plan_model.specs.declared.plan.Plan.{Plan}
use Rattle.plan_model.specs.PlanLine.{ring_limit, batch_limit, id_limit, port_limit, sample_limit}

-- a number from 1 up to the most that it may be
abbrev pub IsUpTo : ℕ → ℕ → Type 0
IsUpTo most n = (1 ≤ n) × (n ≤ most)

-- a file that isn't the output; an outlet at a port
abbrev pub IsFrom : List ℕ → FeedFrom → Type 0
IsFrom out (File path) = path ≢ out
IsFrom out (Tcp host port uid) = IsUpTo port_limit port

-- a feed's numbers are in their ranges, and none of its paths is the output's name
pub record IsFeed (out : List ℕ) (feed : FeedLine) : Type 0 where
  pub id : IsUpTo id_limit feed.id
  pub doc : feed.doc ≢ out
  pub from : IsFrom out feed.from
  pub limit : IfSome feed.limit (IsUpTo sample_limit)

-- feeds of which no two have the same id
abbrev pub AreFeeds : List ℕ → List FeedLine → Type 0
AreFeeds out [] = ⊤
AreFeeds out (feed ∷ more) = IsFeed out feed × AllByRecursion (λ other. other.id ≢ feed.id) more × AreFeeds out more

-- 1 to 64 such feeds, and numbers in their ranges
pub record IsPlan (out : List ℕ) (plan : Plan) : Type 0 where
  pub ring : IsUpTo ring_limit plan.ring
  pub batch : IsUpTo batch_limit plan.batch
  pub some : 0 < length plan.feeds
  pub few : length plan.feeds ≤ 64
  pub feeds : AreFeeds out plan.feeds
