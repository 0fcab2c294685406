-- The words of numbers that stand one after the other.
use Rattle.std.proofs.Common.{◌≡◌, ℕ, suc, List, ◌++◌, drop, sym, ap, ◌∙◌, append_assoc}
use Rattle.std.specs.List.{flat_map}
use Rattle.byteorder.specs.Endian.{little_number}
use Rattle.xdf_model.specs.Sample.{Value, number}
use Rattle.sample_values.specs.Numbers.{numbers_in}

-- the word of one number more
pub next_number : (size : ℕ) (w : Value → List ℕ) (line more all rest : List ℕ) (count left : ℕ) → count ≡ suc left → line ++ flat_map w (numbers_in size count rest) ≡ all
    → more ≡ line ++ w (number (little_number size rest)) → more ++ flat_map w (numbers_in size left (drop size rest)) ≡ all
next_number size w line more all rest count left one so_far last =
    let first : List ℕ = w (number (little_number size rest)) in
    let others : List ℕ = flat_map w (numbers_in size left (drop size rest)) in
    ap (λ (t : List ℕ). t ++ others) last ∙ append_assoc line first others ∙ ap (λ (n : ℕ). line ++ flat_map w (numbers_in size n rest)) (sym one) ∙ so_far
