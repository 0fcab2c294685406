-- Whether a read fails of the sources of a dock in memory: where a piece of them is a failure, and else never.
use Rattle.std.proofs.Common.{◌≡◌, ℕ, zero, suc, Bool, true, false, cond, List, [], ◌∷◌, count_by, slice_get, Some, refl, ap, ◌∙◌, subst, arith}
use Rattle.std.specs.List.{AllByRecursion}
use Rattle.std.proofs.lemmas.List.Sums.{sum_by-take-le}
use Rattle.rec_base.specs.declared.name.Name.{Name}
use Rattle.rec_base.specs.declared.name.Name.TheVariants.{File}
use Rattle.rec_base.specs.declared.piece.Piece.{Piece}
use Rattle.rec_base.specs.declared.piece.Piece.TheVariants.{Fail}
use Rattle.rec_base.specs.Files.{marks_of, same_name, texts_of}
use Rattle.rec_base.specs.MemSource.{SourceState, bytes_left, faults_of}
use Rattle.rec_base.specs.Pieces.{is_fail}
use Rattle.dock_calls.specs.Asking.{HasReadFault}
use Rattle.dock_calls.proofs.Places.{same_name-refl}

-- the sources were made of pieces of which none is a failure
abbrev pub NoneFails : List (Name × SourceState) → Type 0
NoneFails files = AllByRecursion (λ file. count_by is_fail file.1.made ≡ 0) files

-- a read failed of the source of a dock in memory that was opened under this name
abbrev pub HasMemFault : List (Name × SourceState) → Name → ℕ → Type 0
HasMemFault files name place = HasReadFault (λ (s : SourceState). Some (bytes_left s)) faults_of (λ (s : SourceState). s.made) (λ (s : SourceState). s.made) (Some (texts_of files)) (Some (marks_of files)) name place

-- the marks at each name are those of the files
no_mark : (place : ℕ) (made : List Piece) → slice_get {X = List Piece} [] place ≡ Some made → ⊥
no_mark zero made is = absurd cc
no_mark (suc n) made is = absurd cc

-- the first mark, or one behind it
mark_in : (made first : List Piece) (rest : List (List Piece)) (place : ℕ) → count_by is_fail first ≡ 0 → ((n : ℕ) → slice_get rest n ≡ Some made → count_by is_fail made ≡ 0)
    → (b : Bool) → slice_get (cond b (first ∷ rest) rest) place ≡ Some made → count_by is_fail made ≡ 0
mark_in made first rest place none behind false is = behind place is
mark_in made first rest zero none behind true is = let same : first ≡ made = cc is in subst (λ (ps : List Piece). count_by is_fail ps ≡ 0) same none
mark_in made first rest (suc n) none behind true is = behind n is

mark_of_none : (files : List (Name × SourceState)) (name : Name) (made : List Piece) → NoneFails files → (place : ℕ) → slice_get (marks_of files name) place ≡ Some made → count_by is_fail made ≡ 0
mark_of_none [] name made none place there = absurd (no_mark place made there)
mark_of_none (file ∷ files) name made none place there =
    mark_in made file.1.made (marks_of files name) place none.0 (mark_of_none files name made none.1) (same_name file.0 name) there

-- where no piece is a failure, no read failed
pub no_mem_fault : (files : List (Name × SourceState)) (name : Name) (place : ℕ) → NoneFails files → HasMemFault files name place → ⊥
no_mem_fault files name place none fault =
    let made : count_by is_fail fault.first.made ≡ 0 = mark_of_none files name fault.first.made none place fault.marked in
    let same : count_by is_fail fault.last.made ≡ 0 = ap (λ (ps : List Piece). count_by is_fail ps) fault.failed.marked ∙ made in
    let most = sum_by-take-le (λ (p : Piece). cond (is_fail p) 1 0) fault.last.made fault.last.passed in
    let rose = fault.failed.rose in
    omega (arith, same, most, rose)

-- where the one piece of a source is a failure, a read of it may have failed
abbrev pub one_failure : SourceState
one_failure = record { made = Fail ∷ []; passed = 0; given = 0 }

pub a_mem_fault : (path : List ℕ) → HasMemFault ((File path, one_failure) ∷ []) (File path) 0
a_mem_fault path =
    let same = same_name-refl (File path) in
    record {
      first = one_failure;
      last = record { made = Fail ∷ []; passed = 1; given = 0 };
      source = ([], refl, ap (λ (b : Bool). slice_get (cond b ([] ∷ []) []) 0) same);
      marked = ap (λ (b : Bool). slice_get (cond b ((Fail ∷ []) ∷ []) []) 0) same;
      failed = record { marked = refl; rose = omega arith; taken = ([], refl) };
    }
