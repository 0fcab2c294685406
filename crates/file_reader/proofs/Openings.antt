-- What was taken before a file was told to be none.
use Rattle.std.proofs.Common.{◌≡◌, ℕ, ◌<◌, ◌≤◌, true, false, not, ap, ◌∙◌, List, nat_eq, length, Option, inl, inr, arith}
use Rattle.std.proofs.lemmas.Bool.{cases_lt}
use Rattle.std.specs.Cmp.Lexicographic.{pointwise}
use Rattle.std.specs.Io.KnownBytes.{Consumes, IsAtEnd}
use Rattle.chunk_grammar.specs.Chunk.{magic}
use Rattle.file_reader.specs.FileInlet.{IsNotXdf}

pub is_not_xdf : (before left : Option (List ℕ)) (taken : List ℕ) → Consumes before left taken → length taken ≤ 4 → (length taken < 4 → IsAtEnd left) → (taken ≡ magic → ⊥) → IsNotXdf before left
is_not_xdf before left taken lost le ends other = record {
  taken = taken;
  lost = lost;
  other = elim (cases_lt (length taken) 4) [
    | inl few ↦ inr (few, ends few)
    | inr enough ↦ inl (omega arith, other)
  ];
}

-- bytes that are told apart from the magic aren't the magic
pub unequal : (x y taken : List ℕ) → x ≡ taken → y ≡ magic → true ≡ not (pointwise nat_eq x y) → taken ≡ magic → ⊥
unequal x y taken seen right other is =
    let both : not (pointwise nat_eq x y) ≡ false = ap (λ (l : List ℕ). not (pointwise nat_eq l y)) (seen ∙ is) ∙ ap (λ (l : List ℕ). not (pointwise nat_eq magic l)) right in
    let wrong : true ≡ false = other ∙ both in cc
