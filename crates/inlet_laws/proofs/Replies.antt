-- How many bytes a whole reply takes.
use Rattle.std.proofs.Common.{◌≡◌, ℕ, suc, ◌+◌, ◌<◌, ◌≤◌, Bool, true, false, cond, eqb, List, [], ◌∷◌, length, Option, Some, None, Result, Ok, Err, refl, ltb, ◌∙◌, arith, inl, inr, nat_eq}
use Rattle.std.specs.List.{starts_with}
use Rattle.std.proofs.lemmas.Bool.{cases_lt, lt-ltb, le-ltb}
use Rattle.xdf_model.specs.Reading.{◌>>=◌}
use Rattle.feed_model.specs.declared.Order.{Order}
use Rattle.reply_model.specs.declared.ReplyWhy.{ReplyWhy}
use Rattle.reply_model.specs.declared.Refusal.{Refusal}
use Rattle.reply_model.specs.declared.Reply.{Reply}
use Rattle.reply_model.specs.declared.ReplyStep.TheVariants.{Done}
use Rattle.reply_model.specs.Lines.{Lines, rest, line, line_end, with_byte, lines_in}
use Rattle.reply_model.specs.Reply.{refused_at, behind_line, accepts_line, empty_line, agreed, step_of, judged, reply_in}

-- the bytes of lines with their ends, and of what stands behind them
size_of : Lines → ℕ
size_of (rest b) = length b
size_of (line text more) = length text + 2 + size_of more

byte_size : (x : ℕ) (u : Lines) → size_of (with_byte x u) ≡ 1 + size_of u
unfolding size_of
byte_size x (rest b) = omega arith
byte_size x (line text more) = omega arith

branch_size : (c : Bool) (x n m : ℕ) (u v : Lines) → size_of u ≡ n → size_of v ≡ m → m ≡ n + 1 → size_of (cond c (line [] u) (with_byte x v)) ≡ n + 2
unfolding size_of
branch_size true x n m u v a b e = omega (arith, a)
branch_size false x n m u v a b e = omega (arith, b, e, byte_size x v)

lines_size : (b : List ℕ) → size_of (lines_in b) ≡ length b
unfolding lines_in size_of
lines_size [] = refl
lines_size (x ∷ []) = refl
lines_size (x ∷ y ∷ b) = branch_size (starts_with nat_eq (x ∷ y ∷ b) line_end) x (length b) (length (y ∷ b)) (lines_in b) (lines_in (y ∷ b)) (lines_size b) (lines_size (y ∷ b)) (omega arith) ∙ omega arith

rest_ends : (number at e : ℕ) (b : List ℕ) → empty_line number at (rest b) ≡ Ok (Some e) → ⊥
unfolding empty_line
rest_ends number at e b h = elim (cases_lt 4097 (length b)) [
  | inl lt ↦ let t : ltb 4097 (length b) ≡ true = lt-ltb _ _ lt in let k = rw t at h in cc
  | inr le ↦ let t : ltb 4097 (length b) ≡ false = le-ltb _ _ le in let k = rw t at h in cc
]

by_line : (at e m size : ℕ) (r : Result (Unit {0}) ReplyWhy) (c : Bool) (p : Result (Option ℕ) Refusal) → at + 2 ≤ size → (p ≡ Ok (Some e) → e + 2 ≤ size) → (refused_at at r >>= λ _. cond c (Ok (Some at)) p) ≡ Ok (Some e) → e + 2 ≤ size
by_line at e m size (Err why) c p here there h = absurd cc
by_line at e m size (Ok x) true p here there h = let is : at ≡ e = cc in omega (arith, here, is)
by_line at e m size (Ok x) false p here there h = there h

empty_within : (number at e : ℕ) (u : Lines) → empty_line number at u ≡ Ok (Some e) → e + 2 ≤ at + size_of u
unfolding empty_line size_of
empty_within number at e (rest b) h = absurd (rest_ends number at e b h)
empty_within number at e (line text more) h =
    by_line at e 0 (at + (length text + 2 + size_of more)) (accepts_line number text) (eqb (length text) 0) (empty_line (suc number) (behind_line at text) more) (omega arith)
    (λ k. omega (arith, empty_within (suc number) (behind_line at text) e more k)) h

by_step : (e : ℕ) (r : Result Order Refusal) (reply : Reply) (used : ℕ) → step_of e r ≡ Done reply used → e + 2 ≡ used
by_step e (Ok order) reply used h = cc
by_step e (Err refusal) reply used h = absurd cc

by_judged : (uid : Option (List ℕ)) (u : Lines) (r : Result (Option ℕ) Refusal) (reply : Reply) (used : ℕ) → empty_line 0 0 u ≡ r → judged uid u r ≡ Done reply used → (0 < used) × (used ≤ size_of u)
by_judged uid u (Err refusal) reply used e h = absurd cc
by_judged uid u (Ok None) reply used e h = absurd cc
by_judged uid u (Ok (Some at)) reply used e h =
    let is = by_step at (agreed uid at u) reply used h in
    let within = empty_within 0 0 at u e in
    (omega (arith, is), omega (arith, is, within))

pub reply_size : (uid : Option (List ℕ)) (b : List ℕ) (reply : Reply) (used : ℕ) → reply_in uid b ≡ Done reply used → (0 < used) × (used ≤ length b)
unfolding reply_in
reply_size uid b reply used h =
    let k = by_judged uid (lines_in b) (empty_line 0 0 (lines_in b)) reply used refl h in
    (k.0, omega (arith, k.1, lines_size b))
