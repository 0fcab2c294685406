-- A file that was read, by its parts.
use Rattle.std.proofs.Common.{◌≡◌, ◌≢◌, ℕ, ◌<◌, List, [], ◌∷◌, ◌++◌, length, Option, None, Some, inl, inr, refl, sym, ap, ◌∙◌, subst, append_assoc, arith}
use Rattle.std.specs.Prelude.{slice_get, ◌⊎◌}
use Rattle.std.proofs.lemmas.List.{append-nil, length-append}
use Rattle.std.specs.Io.KnownBytes.{Consumes, IsAtEnd}
use Rattle.std.proofs.KnownBytes.{Consumes-trans}
use Rattle.rec_base.specs.Causes.{Rose}
use Rattle.rec_base.specs.Contents.{Contents, Given, IsMarked, IsOpened}
use Rattle.rec_base.specs.Known.{Loses}
use Rattle.rec_base.proofs.Taken.{Loses-more}
use Rattle.dock_calls.specs.Asking.{HasReadFault}
use Rattle.rec_base.specs.declared.name.Name.TheVariants.{File}
use Rattle.reading_model.specs.Outlook.{How, ended, failed, Kind, final, at_end, at_fault, at_limit}
use Rattle.reading_model.specs.Read.{Reader, EndsSo, IsRead, IsReadingOf}
use Rattle.piece_reader.proofs.Ending.{reading_of}
use Rattle.chunk_grammar.specs.Chunk.{magic}
use Rattle.file_model.specs.declared.end.FileEnd.{FileEnd}
use Rattle.file_model.specs.Reader.{ChunkAt, file_counted, file_kind}
use Rattle.file_reader.specs.FileInlet.{FileInlet, IsNotXdf, outlook}
use Rattle.report_model.specs.Check.{AreFirstCheckLines, check_lines}
use Rattle.report_model.specs.Shown.{show_lines, AreFirstLines}
use Rattle.file_call.specs.Files.{chunk_limit, file_chunks, FirstLines, IsBegun, IsEntered, IsTold, IsFileOf, IsFileFrom, IsOtherFile, IsToldOther}

-- what comes behind the magic
behind : (taken : List ℕ) (how : How) → file_chunks (magic ++ taken) how ≡ file_counted chunk_limit taken how
behind taken how = refl

-- what a reader that went past the magic gives is what the whole file gives
module _ (reader : Reader ChunkAt FileEnd) (all : (more : List ℕ) (how : How) → reader more how ≡ file_counted chunk_limit more how) where
  whole_ends : (kind : Kind) (taken : List ℕ) (left : Option (List ℕ)) (chunks : List ChunkAt) (e : FileEnd) → EndsSo kind reader taken left chunks e → EndsSo kind file_chunks (magic ++ taken) left chunks e
  whole_ends final taken left chunks e h = λ more how. sym (all (taken ++ more) how) ∙ h more how
  whole_ends at_limit taken left chunks e h = λ more how. sym (all (taken ++ more) how) ∙ h more how
  whole_ends at_end taken left chunks e h = (h.0, sym (all taken ended) ∙ h.1)
  whole_ends at_fault taken left chunks e h = sym (all taken failed) ∙ h

  show_first : (taken : List ℕ) (lines : List (List ℕ)) → AreFirstLines reader taken lines → AreFirstLines file_chunks (magic ++ taken) lines
  show_first taken lines h = λ more how. let k = h more how in (k.0, ap show_lines (sym (all (taken ++ more) how)) ∙ k.1)

  check_first : (taken : List ℕ) (lines : List (List ℕ)) → AreFirstCheckLines reader taken lines → AreFirstCheckLines file_chunks (magic ++ taken) lines
  check_first taken lines h = λ more how. let k = h more how in (k.0, ap check_lines (sym (all (taken ++ more) how)) ∙ k.1)

-- a source that was opened where contents are told has the text there
told_left : (texts : Contents) (name : List ℕ) (left last : Option (List ℕ)) (rest : List ℕ) (chunks : List ChunkAt) (e : FileEnd)
    → IsOpened (Some texts) (File name) 0 left → Consumes left last (magic ++ rest) → EndsSo (file_kind e) file_chunks (magic ++ rest) last chunks e
    → (text : List ℕ) × (slice_get (texts (File name)) 0 ≡ Some text) × ((more : List ℕ) × (text ≡ magic ++ more)) × IsReadingOf file_kind file_chunks text chunks e
told_left texts name None last rest chunks e opened lost h = absurd (cc opened.1)
told_left texts name (Some xs) None rest chunks e opened lost h = absurd lost
told_left texts name (Some xs) (Some ys) rest chunks e opened lost h =
    let is : xs ≡ opened.0 = cc opened.1 in (
      opened.0,
      opened.2,
      (rest ++ ys, sym is ∙ lost ∙ append_assoc magic rest ys),
      reading_of file_chunks opened.0 (magic ++ rest) ys chunks e (sym is ∙ lost) file_kind h,
    )

told_of : (contents : Option Contents) (name : List ℕ) (left last : Option (List ℕ)) (rest : List ℕ) (chunks : List ChunkAt) (e : FileEnd)
    → IsOpened contents (File name) 0 left → Consumes left last (magic ++ rest) → EndsSo (file_kind e) file_chunks (magic ++ rest) last chunks e
    → IsTold contents name chunks e
told_of contents name left last rest chunks e opened lost h = λ texts told.
    let P : Option Contents → Type 0 = λ c. IsOpened c (File name) 0 left in
    let k = told_left texts name left last rest chunks e (subst P told opened) lost h in
    (k.0, k.1, k.2, k.3)

module _ {S M : Type 0} {left_of : S → Option (List ℕ)} {faults_of : S → ℕ} {mark_of : S → M} {contents : Option Contents} {name : List ℕ} {source : S} {file : FileInlet} (begun : IsBegun left_of faults_of mark_of contents name source file) (last : S) where
  pub file_of : (chunks : List ChunkAt) (e : FileEnd) → IsRead left_of faults_of mark_of file_kind (outlook file).coming source last chunks e → IsFileOf left_of faults_of mark_of contents name chunks e
  file_of chunks e read =
      let lost = Consumes-trans (left_of begun.entered.first) (left_of source) (left_of last) magic read.taken begun.entered.lost read.lost in
      let ends = whole_ends (outlook file).coming begun.all (file_kind e) read.taken (left_of last) chunks e read.ends in
      record {
        first = begun.entered.first;
        last = last;
        opened = begun.entered.opened;
        read = record {
          marked = read.marked ∙ begun.entered.marked;
          later = omega (arith, begun.entered.quiet, read.later);
          taken = magic ++ read.taken;
          lost = lost;
          ends = ends;
          cause = λ is. omega (arith, begun.entered.quiet, read.cause is);
          quiet = λ whole. read.quiet whole ∙ begun.entered.quiet;
        };
        rest = read.taken;
        begins = refl;
        told = told_of contents name (left_of begun.entered.first) (left_of last) read.taken chunks e begun.entered.opened lost ends;
      }

  file_from : (are_first : FirstLines) (taken : List ℕ) (lines : List (List ℕ)) → Consumes (left_of source) (left_of last) taken → are_first file_chunks (magic ++ taken) lines → IsFileFrom are_first left_of contents name lines
  file_from are_first taken lines lost lines_first = record {
    first = begun.entered.first;
    last = last;
    opened = begun.entered.opened;
    rest = taken;
    lost = Consumes-trans (left_of begun.entered.first) (left_of source) (left_of last) magic taken begun.entered.lost lost;
    lines_first = lines_first;
  }

  pub shown_from : (taken : List ℕ) (lines : List (List ℕ)) → Consumes (left_of source) (left_of last) taken → AreFirstLines (outlook file).coming taken lines → IsFileFrom AreFirstLines left_of contents name lines
  shown_from taken lines lost lines_first = file_from AreFirstLines taken lines lost (show_first (outlook file).coming begun.all taken lines lines_first)

  pub checked_from : (taken : List ℕ) (lines : List (List ℕ)) → Consumes (left_of source) (left_of last) taken → AreFirstCheckLines (outlook file).coming taken lines → IsFileFrom AreFirstCheckLines left_of contents name lines
  checked_from taken lines lost lines_first = file_from AreFirstCheckLines taken lines lost (check_first (outlook file).coming begun.all taken lines lines_first)

-- a read failed of a file that was opened, and of which the magic was taken
pub read_failed : {S M I : Type 0} {left_of : S → Option (List ℕ)} {faults_of : S → ℕ} {mark_of : S → M} (input_mark_of : S → I) {contents : Option Contents} (marks : Option (Given I)) {name : List ℕ} {source : S}
    (keeps : (a b : S) → mark_of b ≡ mark_of a → input_mark_of b ≡ input_mark_of a) (entered : IsEntered left_of faults_of mark_of contents name source) → IsMarked marks (File name) 0 (input_mark_of source)
    → (last : S) → mark_of last ≡ mark_of source → Rose (faults_of source) (faults_of last) → Loses (left_of source) (left_of last)
    → HasReadFault left_of faults_of mark_of input_mark_of contents marks (File name) 0
read_failed {left_of = left_of} {faults_of = faults_of} input_mark_of marks {name = name} {source = source} keeps entered marked last same rose loses =
    let P : _ → Type 0 = λ i. IsMarked marks (File name) 0 i in
    record {
      first = entered.first;
      last = last;
      source = entered.opened;
      marked = subst P (keeps entered.first source entered.marked) marked;
      failed = record {
        marked = same ∙ entered.marked;
        rose = omega (arith, entered.quiet, rose);
        taken = Loses-more (left_of entered.first) (left_of source) (left_of last) magic entered.lost loses;
      };
    }

-- ---- a file that doesn't begin so

four : length magic ≡ 4
four = refl

not_short : (taken rest : List ℕ) → length taken < 4 → taken ≡ magic ++ rest → ⊥
not_short taken rest short is = omega (arith, short, ap length is, length-append magic rest, four)

other_four : (taken ys rest : List ℕ) → length taken ≡ 4 → (taken ≡ magic → ⊥) → taken ++ ys ≡ magic ++ rest → ⊥
other_four (a ∷ b ∷ c ∷ d ∷ []) ys rest long not is = let same : (a ∷ b ∷ c ∷ d ∷ []) ≡ magic = cc is in not same
other_four [] ys rest long not is = omega (arith, long)
other_four (a ∷ []) ys rest long not is = omega (arith, long)
other_four (a ∷ b ∷ []) ys rest long not is = omega (arith, long)
other_four (a ∷ b ∷ c ∷ []) ys rest long not is = omega (arith, long)
other_four (a ∷ b ∷ c ∷ d ∷ e ∷ more) ys rest long not is = omega (arith, long)

not_magic : (text : List ℕ) (last : Option (List ℕ)) → IsNotXdf (Some text) last → (rest : List ℕ) → text ≢ magic ++ rest
not_magic text None k rest is = absurd k.lost
not_magic text (Some ys) k rest is =
    let parts : k.taken ++ ys ≡ magic ++ rest = sym k.lost ∙ is in
    by_case k.other parts
  where
    by_case : ((length k.taken ≡ 4) × (k.taken ≡ magic → ⊥)) ⊎ ((length k.taken < 4) × IsAtEnd (Some ys)) → k.taken ++ ys ≡ magic ++ rest → ⊥
    by_case (inl o) parts = other_four k.taken ys rest o.0 o.1 parts
    by_case (inr o) parts = not_short k.taken rest o.0 (sym (append-nil k.taken) ∙ ap (λ (t : List ℕ). k.taken ++ t) (sym o.1) ∙ parts)

not_magic_told : (texts : Contents) (name : List ℕ) (left last : Option (List ℕ)) → IsOpened (Some texts) (File name) 0 left → IsNotXdf left last
    → (text : List ℕ) × (slice_get (texts (File name)) 0 ≡ Some text) × ((rest : List ℕ) → text ≢ magic ++ rest)
not_magic_told texts name left last opened k =
    let P : Option (List ℕ) → Type 0 = λ l. IsNotXdf l last in
    (opened.0, opened.2, not_magic opened.0 last (subst P opened.1 k))

pub told_other : {S : Type 0} (left_of : S → Option (List ℕ)) (contents : Option Contents) (name : List ℕ) → IsOtherFile left_of contents name → IsToldOther contents name
told_other left_of contents name o = λ texts told.
    let P : Option Contents → Type 0 = λ c. IsOpened c (File name) 0 (left_of o.first) in
    let k = not_magic_told texts name (left_of o.first) (left_of o.last) (subst P told o.opened) o.other in
    (k.0, k.1, k.2)
