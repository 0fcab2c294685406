-- The value of a line.
use Rattle.std.proofs.Common.{◌≡◌, ℕ, ◌+◌, ◌<◌, true, ltb, List, length, take, drop, Some, map, refl, ap, ◌∙◌, nat_eq}
use Rattle.std.specs.Char.{to_ascii_lowercase}
use Rattle.std.specs.Cmp.Lexicographic.{pointwise, bytes_decides}
use Rattle.std.proofs.lemmas.Bool.{lt-ltb}
use Rattle.reply_model.specs.Header.{trimmed, length_before, name_in, value_in, value_of}

pub named : (name text : List ℕ) → length_before 58 text < length text → map to_ascii_lowercase (name_in text) ≡ map to_ascii_lowercase name → Some (value_in text) ≡ value_of name text
unfolding value_of
named name text colon same =
    let t : ltb (length_before 58 text) (length text) ≡ true = lt-ltb _ _ colon in
    let u : pointwise nat_eq (map to_ascii_lowercase (name_in text)) (map to_ascii_lowercase name) ≡ true = (bytes_decides (map to_ascii_lowercase (name_in text)) (map to_ascii_lowercase name)).1 same in
    rw (t, u) refl

pub name_is : (text : List ℕ) (colon : ℕ) (r : List ℕ) → colon ≡ length_before 58 text → r ≡ trimmed (take colon text) → r ≡ name_in text
name_is text colon r e g = g ∙ ap (λ (k : ℕ). trimmed (take k text)) e

pub value_is : (text : List ℕ) (colon n : ℕ) (r : List ℕ) → colon ≡ length_before 58 text → n ≡ length_before 59 (drop (colon + 1) text) → r ≡ trimmed (take n (drop (colon + 1) text)) → r ≡ value_in text
value_is text colon n r e f g = g ∙ ap (λ (m : ℕ). trimmed (take m (drop (colon + 1) text))) f ∙ ap (λ (k : ℕ). trimmed (take (length_before 59 (drop (k + 1) text)) (drop (k + 1) text))) e
