-- A repair that nothing hinders is done.
use Rattle.std.proofs.Common.{◌≡◌, ◌≢◌, ℕ, zero, suc, ◌≤◌, ◌==◌, ◌||◌, List, ◌++◌, length, Option, Some, refl, ap, inl, inr, arith}
use Rattle.std.proofs.lemmas.Bool.Decides.{nat_tests}
use Rattle.std.specs.Prelude.{slice_get, IsTrue, ◌⊎◌}
use Rattle.rec_base.specs.Causes.{Rose}
use Rattle.rec_base.specs.Contents.{Contents, Given}
use Rattle.dock_calls.specs.Asking.{HasReadFault}
use Rattle.rec_base.specs.declared.name.Name.TheVariants.{File}
use Rattle.chunk_grammar.specs.Chunk.{magic}
use Rattle.file_call.specs.Files.{IsToldOther}
use Rattle.file_call.specs.Repaired.{byte_limit, is_repaired, is_repair_status, CompletesRepair, IsToldLong, NoneFailed}

by_status : (n : ℕ) → IsTrue (is_repair_status n) → n ≢ 3 → n ≢ 4 → n ≢ 5 → n ≢ 7 → n ≢ 8 → IsTrue (is_repaired n || n == 9)
by_status zero s a b c d e = refl
by_status (suc zero) s a b c d e = refl
by_status (suc (suc zero)) s a b c d e = absurd cc
by_status (suc (suc (suc zero))) s a b c d e = absurd (a refl)
by_status (suc (suc (suc (suc zero)))) s a b c d e = absurd (b refl)
by_status (suc (suc (suc (suc (suc zero))))) s a b c d e = absurd (c refl)
by_status (suc (suc (suc (suc (suc (suc zero)))))) s a b c d e = absurd cc
by_status (suc (suc (suc (suc (suc (suc (suc zero))))))) s a b c d e = absurd (d refl)
by_status (suc (suc (suc (suc (suc (suc (suc (suc zero)))))))) s a b c d e = absurd (e refl)
by_status (suc (suc (suc (suc (suc (suc (suc (suc (suc zero))))))))) s a b c d e = refl
by_status (suc (suc (suc (suc (suc (suc (suc (suc (suc (suc n)))))))))) s a b c d e = absurd (grind (arith, nat_tests, s))

no_other : (contents : Option Contents) (texts : Contents) (name rest : List ℕ) → contents ≡ Some texts → slice_get (texts (File name)) 0 ≡ Some (magic ++ rest) → IsToldOther contents name → ⊥
no_other contents texts name rest told there other =
    let k = other texts told in
    let is : k.0 ≡ magic ++ rest = cc (k.1, there) in
    k.2 rest is

not_long : (contents : Option Contents) (texts : Contents) (name text : List ℕ) → contents ≡ Some texts → slice_get (texts (File name)) 0 ≡ Some text → length text ≤ byte_limit → IsToldLong contents name → ⊥
not_long contents texts name text told there within long =
    let k = long texts told in
    let is : k.0 ≡ text = cc (k.1, there) in
    let size : length k.0 ≡ length text = ap length is in
    omega (arith, k.2, size, within)

module _ {S M I : Type 0} (left_of : S → Option (List ℕ)) (faults_of : S → ℕ) (mark_of : S → M) (input_mark_of : S → I) (contents : Option Contents) (marks : Option (Given I)) (name : List ℕ) (opens opens' writes writes' says says' : ℕ) where
  pub completes : (n : ℕ) → IsTrue (is_repair_status n) → (n ≡ 3 → IsToldOther contents name)
      → (n ≡ 4 → Rose opens opens' ⊎ HasReadFault left_of faults_of mark_of input_mark_of contents marks (File name) 0)
      → (n ≡ 5 → Rose writes writes') → (n ≡ 7 → IsToldLong contents name) → (n ≡ 8 → Rose says says')
      → CompletesRepair left_of faults_of mark_of input_mark_of contents marks name opens opens' writes writes' says says' n
  completes n status three four five seven eight = λ texts rest told there within none.
      by_status n status (λ e. no_other contents texts name rest told there (three e)) (λ e. by_read none (four e)) (λ e. none.writing (five e))
      (λ e. not_long contents texts name (magic ++ rest) told there within (seven e)) (λ e. none.saying (eight e))
    where
      by_read : NoneFailed left_of faults_of mark_of input_mark_of contents marks name opens opens' writes writes' says says'
          → Rose opens opens' ⊎ HasReadFault left_of faults_of mark_of input_mark_of contents marks (File name) 0 → ⊥
      by_read none (inl rose) = none.opening rose
      by_read none (inr k) = none.reading k
