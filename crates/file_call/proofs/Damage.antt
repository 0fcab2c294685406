-- A search over a file that was damaged between whole chunks.
use Rattle.std.proofs.Common.{◌≡◌, ℕ, zero, suc, ◌+◌, ◌<◌, List, ◌++◌, length, Option, Some, refl, ap, ◌∙◌, subst, arith}
use Rattle.std.specs.Prelude.{slice_get}
use Rattle.std.proofs.lemmas.List.{length-append}
use Rattle.std.specs.Io.KnownBytes.{Appends}
use Rattle.rec_base.specs.Contents.{Contents, IsInput}
use Rattle.rec_base.specs.Known.{Becomes, printed_line}
use Rattle.rec_base.specs.declared.name.Name.TheVariants.{File}
use Rattle.chunk_grammar.specs.Chunk.{magic, boundary_bytes}
use Rattle.boundary_search.specs.Parts.{Part, AreSalvageParts, kept_bytes, kept_chunks, skipped_size}
use Rattle.boundary_search.proofs.LawsOfDamage.{over_damage}
use Rattle.boundary_search.proofs.LawsOfParts.{salvage_one}
use Rattle.file_call.specs.Repaired.{repaired_line, repaired_status}
use Rattle.file_call.specs.Searched.{GoesOverDamage, IsSearched}

-- the text that contents tell is the one that was read
same_text : (contents : Option Contents) (texts : Contents) (from all text : List ℕ) → contents ≡ Some texts → IsInput contents (File from) 0 all → slice_get (texts (File from)) 0 ≡ Some text → all ≡ text
same_text contents texts from all text told read there =
    let P : Option Contents → Type 0 = λ c. IsInput c (File from) 0 all in
    let here : slice_get (texts (File from)) 0 ≡ Some all = subst P told read in
    cc (here, there)

some_left_out : (n : ℕ) → 0 < n → repaired_status n ≡ 1
some_left_out zero h = absurd (omega arith)
some_left_out (suc n) h = refl

pub goes_over : {S : Type 0} (left_of : S → Option (List ℕ)) (contents : Option Contents) (from out : List ℕ) (target target' held held' printed printed' : Option (List ℕ)) (chunks bytes skipped status : ℕ)
    → IsSearched left_of contents from out target target' held held' chunks bytes skipped → status ≡ repaired_status skipped → Appends printed printed' (printed_line (repaired_line chunks bytes skipped))
    → GoesOverDamage contents from out target target' held held' printed printed' status
goes_over left_of contents from out target target' held held' printed printed' chunks bytes skipped status r status_is said texts cs ds before damage behind told there first after none ends =
    let law = over_damage cs ds before damage behind first after none ends in
    let all : r.all ≡ magic ++ before ++ damage ++ behind = same_text contents texts from r.all (magic ++ before ++ damage ++ behind) told r.input there in
    let one : r.parts ≡ law.0 = salvage_one (magic ++ before ++ damage ++ behind) r.parts law.0 (subst (λ (b : List ℕ). AreSalvageParts b r.parts) all r.salvaged) law.1 in
    let kept : kept_bytes r.parts ≡ before ++ behind = ap kept_bytes one ∙ law.4 in
    let count : chunks ≡ length cs + length ds = r.chunk_count ∙ ap (λ (ps : List Part). length (kept_chunks ps)) one ∙ ap length law.3 ∙ length-append cs ds in
    let size : bytes ≡ length (magic ++ before ++ behind) = r.byte_count ∙ ap (λ (t : List ℕ). length (magic ++ t)) kept in
    let gone : skipped ≡ length damage = r.skipped_count ∙ ap skipped_size one ∙ law.5 in
    let some : 0 < length damage = omega (arith, ap length ends.ends, length-append ends.front boundary_bytes) in (
      status_is ∙ ap repaired_status gone ∙ some_left_out (length damage) some,
      r.created,
      subst (λ (t : List ℕ). Becomes held held' (magic ++ t)) kept r.written,
      subst (λ (n : ℕ). Appends printed printed' (printed_line (repaired_line (length cs + length ds) (length (magic ++ before ++ behind)) n))) gone
          (subst (λ (n : ℕ). Appends printed printed' (printed_line (repaired_line (length cs + length ds) n skipped))) size
          (subst (λ (n : ℕ). Appends printed printed' (printed_line (repaired_line n bytes skipped))) count said)),
    )
