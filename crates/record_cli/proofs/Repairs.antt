-- The plain repair of a recording that was cut.
use Rattle.std.proofs.Common.{◌≡◌, ℕ, zero, suc, ◌-◌, ◌≤◌, ◌==◌, ◌||◌, false, List, [], ◌∷◌, ◌++◌, length, take, Option, Some, slice_get, inl, inr, refl, sym, ap, ◌∙◌, subst, append_assoc, arith, ◌↔◌}
use Rattle.std.proofs.lemmas.Bool.Decides.{nat_tests}
use Rattle.std.proofs.lemmas.List.{append_cancel_right, length-append, length-take-le}
use Rattle.std.specs.Prelude.{IsTrue, ◌⊎◌}
use Rattle.std.specs.Io.KnownBytes.{Appends}
use Rattle.rec_base.specs.Contents.{Contents, IsInput}
use Rattle.rec_base.specs.Known.{AppendsFront, Becomes, printed_line}
use Rattle.rec_base.specs.declared.name.Name.TheVariants.{File}
use Rattle.chunk_grammar.specs.declared.chunk.Chunk.{Chunk}
use Rattle.chunk_grammar.specs.Chunk.{IsFileText, magic, least_chunk_texts, least_file_text}
use Rattle.chunk_grammar.specs.Standing.{context_after_all, IsFront}
use Rattle.file_laws.proofs.Cuts.{take_within}
use Rattle.file_laws.proofs.Fronts.{end_not_whole, one_front}
use Rattle.file_call.specs.Repaired.{IsRepaired, NoneFailed, byte_limit, is_repaired, repaired_line, repaired_status}
use Rattle.record_cli.proofs.Cut.{cut_chunks}
use Rattle.record_cli.specs.Repairs.{AreWholeWithin, IsChunkEnd, IsRepairOfCut, IsRepairedCut, RepairsCuts, cut_off, kept_line}
use Rattle.record_cli.specs.Shown.{Shown}
use Rattle.record_cli.specs.Statuses.{is_written}

-- ---- the file that is cut

-- the first p bytes of the file of the chunks, with those that lie whole in them
record CutFile (chunks : List Chunk) (p : ℕ) : Type 0 where
  kept : List Chunk
  whole : AreWholeWithin p chunks kept
  rest : List ℕ
  taken : take p (least_file_text chunks) ≡ least_file_text kept ++ rest
  front : IsFront (take p (least_file_text chunks)) kept rest
  at_an_end : IsChunkEnd p chunks → length (least_file_text kept) ≡ p

cut_file : (chunks : List Chunk) (p : ℕ) → IsFileText chunks (least_file_text chunks) → 4 ≤ p → CutFile chunks p
cut_file chunks p file low =
    let k = cut_chunks [] chunks file.0 (p - 4) file.1 in
    let text = least_chunk_texts [] k.kept in
    let taken : take p (least_file_text chunks) ≡ least_file_text k.kept ++ k.rest =
    take_within p magic (least_chunk_texts [] chunks) low ∙ ap (λ (t : List ℕ). magic ++ t) k.taken ∙ sym (append_assoc magic text k.rest) in
    record {
      kept = k.kept;
      whole = record {
        behind = k.behind;
        parts = k.parts;
        fit = omega (arith, low, k.fit, length-append magic text);
        next = λ c more e. omega (arith, low, k.next c more e, length-append magic (least_chunk_texts [] (k.kept ++ c ∷ [])));
      };
      rest = k.rest;
      taken = taken;
      front = record { text = text; chunks = k.texts; whole = taken; ends = end_not_whole (context_after_all [] k.kept) k.rest k.ends };
      at_an_end = λ e.
          let first = least_chunk_texts [] e.front in
          let size : length first ≡ p - 4 = omega (arith, low, e.size, length-append magic first) in
          omega (arith, low, k.at_an_end e.front e.behind e.parts size, length-append magic text);
    }

-- ---- the repair

-- a repair whose input is told to be these bytes took these
input_is : (contents : Option Contents) (texts : Contents) (name all bytes : List ℕ) → contents ≡ Some texts
    → slice_get (texts (File name)) 0 ≡ Some bytes → IsInput contents (File name) 0 all → all ≡ bytes
input_is contents texts name all bytes told there input =
    let here : slice_get (texts (File name)) 0 ≡ Some all = subst (λ (o : Option Contents). IsInput o (File name) 0 all) told input in
    cc (here, there)

repaired_whole : (n : ℕ) → repaired_status n ≡ 0 → n ≡ 0
repaired_whole zero e = refl
repaired_whole (suc n) e = absurd cc

-- what a repair has of a file that was cut
record Kept (p : ℕ) (kept : List Chunk) (held held' : Option (List ℕ)) (count bytes skipped : ℕ) : Type 0 where
  written : Becomes held held' (least_file_text kept)
  count_is : count ≡ length kept
  bytes_is : bytes ≡ length (least_file_text kept)
  skipped_is : skipped ≡ cut_off p kept

kept_of : {S : Type 0} {left_of : S → Option (List ℕ)} {contents : Option Contents} {from out : List ℕ} {target target' held held' : Option (List ℕ)}
    → {count bytes skipped : ℕ} (chunks : List Chunk) (p : ℕ) (k : CutFile chunks p) → p ≤ length (least_file_text chunks)
    → (r : IsRepaired left_of contents from out target target' held held' count bytes skipped) → r.all ≡ take p (least_file_text chunks)
    → Kept p k.kept held held' count bytes skipped
kept_of chunks p k high r same =
    let text = least_file_text k.kept in
    let mine : IsFront r.all k.kept k.rest = subst (λ (t : List ℕ). IsFront t k.kept k.rest) (sym same) k.front in
    let one = one_front r.all r.cs k.kept r.rest k.rest r.front mine in
    let parts : (magic ++ r.front.text) ++ r.rest ≡ text ++ r.rest = sym r.front.whole ∙ same ∙ k.taken ∙ ap (λ (t : List ℕ). text ++ t) (sym one.1) in
    let whole : magic ++ r.front.text ≡ text = append_cancel_right (magic ++ r.front.text) text r.rest parts in
    let left : length k.rest ≡ cut_off p k.kept =
    omega (arith, length-take-le p (least_file_text chunks) high, ap length k.taken, length-append text k.rest) in
    record {
      written = subst (Becomes _ _) whole r.written;
      count_is = r.chunk_count ∙ ap length one.0;
      bytes_is = r.byte_count ∙ ap length whole;
      skipped_is = r.skipped_count ∙ ap length one.1 ∙ left;
    }

-- the line has the numbers of what was kept
line_is : {p : ℕ} {kept : List Chunk} {held held' : Option (List ℕ)} {count bytes skipped : ℕ} → Kept p kept held held' count bytes skipped
    → printed_line (repaired_line count bytes skipped) ≡ kept_line p kept
line_is {p} {kept} {held} {held'} {count} {bytes} {skipped} k =
    let line : ℕ → ℕ → ℕ → List ℕ = λ a b c. printed_line (repaired_line a b c) in
    let size = length (least_file_text kept) in
    ap (λ (n : ℕ). line n bytes skipped) k.count_is ∙ ap (λ (n : ℕ). line (length kept) n skipped) k.bytes_is ∙ ap (line (length kept) size) k.skipped_is

-- the status is 0 just where a chunk ends
zero_at_an_end : (chunks : List Chunk) (p status : ℕ) (k : CutFile chunks p) → status ≡ repaired_status (cut_off p k.kept)
    → (status ≡ 0) ↔ IsChunkEnd p chunks
zero_at_an_end chunks p status k is = (
  λ none. record {
    front = k.kept;
    behind = k.whole.behind;
    parts = k.whole.parts;
    size = omega (arith, repaired_whole (cut_off p k.kept) (sym is ∙ none), k.whole.fit);
  },
  λ ends. let none : cut_off p k.kept ≡ 0 = omega (arith, k.at_an_end ends) in is ∙ ap repaired_status none,
)

pub written_cases : (n : ℕ) → IsTrue (is_written n) → IsTrue (is_repaired n) ⊎ (n ≡ 8)
written_cases zero is = inl refl
written_cases (suc zero) is = inl refl
written_cases (suc (suc n)) is = inr (grind (arith, nat_tests, is))

repaired_not_8 : (n : ℕ) → IsTrue (is_repaired n) → n ≡ 8 → ⊥
repaired_not_8 n is e = grind (arith, nat_tests, is, e)

module _ {S M I : Type 0} (left_of : S → Option (List ℕ)) (faults_of : S → ℕ) (mark_of : S → M) (input_mark_of : S → I) (chunks : List Chunk) where
  -- a repair that wrote, by its numbers and by how much of its line was said
  repaired_cut : (p : ℕ) (words : List (List ℕ)) (from out : List ℕ) (before after : Shown I) (status : ℕ) → CutFile chunks p
      → IsRepairOfCut left_of faults_of mark_of input_mark_of chunks p words from out before after status → (count bytes skipped : ℕ)
      → IsRepaired left_of before.contents from out before.target after.target before.held after.held count bytes skipped
      → (IsTrue (is_repaired status) → (status ≡ repaired_status skipped) × Appends before.printed after.printed (printed_line (repaired_line count bytes skipped)))
      → (status ≡ 8 → AppendsFront before.printed after.printed (printed_line (repaired_line count bytes skipped)))
      → IsRepairedCut chunks p out before after status
  repaired_cut p words from out before after status k r count bytes skipped repaired all front =
      let bytes_left = take p (least_file_text chunks) in
      let kept = kept_of chunks p k r.high repaired (input_is before.contents r.texts from repaired.all bytes_left r.told r.input repaired.input) in
      let status_is : IsTrue (is_repaired status) → status ≡ repaired_status (cut_off p k.kept) = λ is. (all is).0 ∙ ap repaired_status kept.skipped_is in
      record {
        kept = k.kept;
        whole = k.whole;
        created = repaired.created;
        written = kept.written;
        status_is = status_is;
        at_an_end = λ is. zero_at_an_end chunks p status k (status_is is);
        said = λ is. subst (Appends before.printed after.printed) (line_is kept) (all is).1;
        say_fault = λ is. subst (AppendsFront before.printed after.printed) (line_is kept) (front is);
      }

  repair_keeps : IsFileText chunks (least_file_text chunks)
      → (p : ℕ) (words : List (List ℕ)) (from out : List ℕ) (before after : Shown I) (status : ℕ)
      → IsRepairOfCut left_of faults_of mark_of input_mark_of chunks p words from out before after status → IsTrue (is_written status)
      → IsRepairedCut chunks p out before after status
  repair_keeps file p words from out before after status r is =
      let k = cut_file chunks p file r.low in
      elim (written_cases status is) [
        | inl done ↦
            let a = r.answer.repaired false from out r.asks done in
            repaired_cut p words from out before after status k r a.0 a.1 a.2 a.4 (λ _. (a.3, a.5)) (λ eight. absurd (repaired_not_8 status done eight))
        | inr eight ↦
            let a = r.answer.repair_say_fault false from out r.asks eight in
            repaired_cut p words from out before after status k r a.1 a.2 a.3 a.4 (λ done. absurd (repaired_not_8 status done eight)) (λ _. a.5)
      ]

  -- what is left of the file begins with the magic
  repair_completes : (p : ℕ) (words : List (List ℕ)) (from out : List ℕ) (before after : Shown I) (status : ℕ)
      → IsRepairOfCut left_of faults_of mark_of input_mark_of chunks p words from out before after status → p ≤ byte_limit
      → NoneFailed left_of faults_of mark_of input_mark_of before.contents before.marks from before.opens after.opens before.writes after.writes before.says after.says
      → IsTrue (is_repaired status || status == 9)
  repair_completes p words from out before after status r within none =
      let rest = take (p - 4) (least_chunk_texts [] chunks) in
      let begins : take p (least_file_text chunks) ≡ magic ++ rest = take_within p magic (least_chunk_texts [] chunks) r.low in
      let size : length (magic ++ rest) ≤ byte_limit = omega (arith, within, ap length begins, length-take-le p (least_file_text chunks) r.high) in
      r.answer.repair_completes false from out r.asks r.texts rest r.told (r.input ∙ ap (λ (t : List ℕ). Some t) begins) size none

  pub repairs_cuts : IsFileText chunks (least_file_text chunks) → RepairsCuts left_of faults_of mark_of input_mark_of chunks
  repairs_cuts file = record { keeps = repair_keeps file; completes = repair_completes }
