-- Lines that are text.
use Rattle.std.proofs.Common.{◌≡◌, ℕ, ◌||◌, Bool, true, false, not, List, refl, nat_lt, nat_eq}
use Rattle.std.specs.List.{list_any}
use Rattle.std.specs.Str.{IsUtf8, is_utf8}
use Rattle.std.proofs.lemmas.Str.{IsUtf8-from_is_utf8, is_utf8-from_IsUtf8}
use Rattle.plan_model.specs.PlanLine.{is_no_text}

abbrev has_control : List ℕ → Bool
has_control line = list_any (λ b. nat_lt b 32 || nat_eq b 127) line

or_true : (a b : Bool) → b ≡ true → (a || b) ≡ true
or_true true b e = refl
or_true false b e = e

pub control_byte : (line : List ℕ) → has_control line ≡ true → is_no_text line ≡ true
unfolding is_no_text
control_byte line e = or_true (not (is_utf8 line)) (has_control line) e

pub text_line : (line : List ℕ) → has_control line ≡ false → IsUtf8 line → is_no_text line ≡ false
unfolding is_no_text
text_line line e u = let t : is_utf8 line ≡ true = is_utf8-from_IsUtf8 line u in rw (t, e) refl

not_utf8 : (line : List ℕ) (b : Bool) → is_utf8 line ≡ b → (IsUtf8 line → ⊥) → is_utf8 line ≡ false
not_utf8 line true e h = absurd (h (IsUtf8-from_is_utf8 line e))
not_utf8 line false e h = e

pub no_text : (line : List ℕ) → (IsUtf8 line → ⊥) → is_no_text line ≡ true
unfolding is_no_text
no_text line h = let t : is_utf8 line ≡ false = not_utf8 line (is_utf8 line) refl h in rw t refl
