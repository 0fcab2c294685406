-- Plans that were read.
use Rattle.std.proofs.Common.{◌≡◌, ℕ, ◌<◌, true, List, [], ◌∷◌, length, Option, Some, Ok, Err, refl, subst, arith, nat_lt}
use Rattle.rec_base.specs.declared.name.Name.TheVariants as name
use Rattle.rec_base.specs.Contents.{Contents, Opens}
use Rattle.dock_calls.specs.Places.{IsAfter}
use Rattle.dock_calls.proofs.Places.{IsAfter-none, IsAfter-opened}
use Rattle.plan_model.specs.declared.plan.Plan.{Plan}
use Rattle.plan_model.specs.declared.top.Top.TheVariants.{Record}
use Rattle.plan_model.specs.Plan.{plan_in}
use Rattle.plan_model.specs.Commands.{command_in, record_plan}
use Rattle.record_call.specs.Plans.{IsPlanned}
use Rattle.record_call.proofs.Feeds.{first_input}

-- a text that is too long is refused
pub too_long : (text out : List ℕ) (line why : ℕ) → 1_048_576 < length text → 0 ≡ line → 10 ≡ why → plan_in text out ≡ Err (line, why)
unfolding plan_in
too_long text out line why long first second =
    let over : nat_lt 1_048_576 (length text) ≡ true = grind (arith, long) in
    let P : ℕ → ℕ → Type 0 = λ l w. plan_in text out ≡ Err (l, w) in
    subst (λ (l : ℕ). P l why) first (subst (λ (w : ℕ). P 0 w) second (rw over refl))

module _ (a b : Option Contents) (words : List (List ℕ)) (path out : List ℕ) (plan : Plan) (command : command_in Record words ≡ Ok (record_plan path out))
    (read : (text : List ℕ) × Opens a b (name.File path) (Some text) × (plan_in text out ≡ Ok plan)) where
  pub planned : IsPlanned a words path out plan
  planned = record { command = command; text = read.0; input = first_input a b (name.File path) read.0 read.1; read = read.2 }

  pub after_plan : IsAfter a b (name.File path ∷ [])
  after_plan = IsAfter-opened a a b [] (name.File path) (Some read.0) (IsAfter-none a) read.1
