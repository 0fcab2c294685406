-- Appending samples.
use Rattle.std.proofs.Common.{◌≡◌, List, ℕ, ◌++◌, length, take, drop, refl, sym, ap, ◌∙◌, append_assoc}
use Rattle.std.proofs.lemmas.List.{take_at, take-append-drop}
use Rattle.sample_values.specs.View.{KeepsFront}

pub front_kept : (a x m b : List ℕ) → m ≡ a ++ x → KeepsFront m b → KeepsFront a b
front_kept a x m b e kept =
    let parts : b ≡ a ++ (x ++ drop (length m) b) = sym (take-append-drop (length m) b) ∙ ap (λ (t : List ℕ). t ++ drop (length m) b) (kept ∙ e) ∙ append_assoc a x (drop (length m) b) in
    ap (take (length a)) parts ∙ take_at a (x ++ drop (length m) b) (length a) refl

pub front_on : (a m b : List ℕ) → KeepsFront a m → KeepsFront m b → KeepsFront a b
front_on a m b first then_kept =
    let parts : m ≡ a ++ drop (length a) m = sym (take-append-drop (length a) m) ∙ ap (λ (t : List ℕ). t ++ drop (length a) m) first in
    front_kept a (drop (length a) m) m b parts then_kept

pub front_more : (a m x b : List ℕ) → KeepsFront a m → b ≡ m ++ x → KeepsFront a b
front_more a m x b first e = front_on a m b first (ap (take (length m)) e ∙ take_at m x (length m) refl)
