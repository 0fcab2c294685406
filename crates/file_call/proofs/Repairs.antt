-- A repair by its parts.
use Rattle.std.proofs.Common.{◌≡◌, ℕ, ◌<◌, Bool, true, false, List, [], ◌++◌, length, take, Option, None, Some, Ok, Err, ◌+◌, refl, sym, ap, ◌∙◌, subst, arith}
use Rattle.std.specs.Prelude.{slice_get, Result, IfOk}
use Rattle.std.proofs.Math.Seq.{take-length}
use Rattle.std.proofs.lemmas.List.{append-nil, length-append}
use Rattle.std.specs.Io.KnownBytes.{Consumes, IsAtEnd}
use Rattle.std.proofs.KnownBytes.{Consumes-trans}
use Rattle.rec_base.specs.Causes.{Rose}
use Rattle.rec_base.specs.Contents.{Contents, IsInput, IsOpened}
use Rattle.rec_base.specs.Known.{AppendsFront, Becomes, BecomesFront}
use Rattle.rec_base.specs.declared.name.Name.TheVariants.{File}
use Rattle.rec_base.proofs.Taken.{Becomes-appends}
use Rattle.chunk_grammar.specs.Chunk.{magic}
use Rattle.boundary_search.specs.Parts.{AreCountedParts, kept_bytes}
use Rattle.xdf_repair.specs.declared.repaired.Repaired.{Repaired}
use Rattle.xdf_repair.specs.declared.repaired.Repaired.TheVariants as answer
use Rattle.xdf_repair.specs.Repair.{IsRepair, IsCutOff, RepairedSo}
use Rattle.xdf_repair.specs.Search.{IsSearch, IsSearchCut, SearchedSo}
use Rattle.file_call.specs.declared.repair.Kept.{Kept}
use Rattle.file_call.specs.declared.fault.RepairFault.{RepairFault}
use Rattle.file_call.specs.Files.{IsEntered}
use Rattle.file_call.specs.Repaired.{byte_limit, IsRepaired, IsCutRepair, IsFailedRepair, IsLongRepair, IsToldLong}
use Rattle.file_call.specs.Searched.{IsSearched, IsCutSearch, IsFailedSearch, IsLongSearch, IsKept, IsCut, IsFailed, IsLong, WroteSo}
use Rattle.file_call.proofs.Kept.{rose_from}

-- all that a source had is what the dock's contents tell
input_of : (contents : Option Contents) (name : List ℕ) (left last : Option (List ℕ)) (all : List ℕ) → IsOpened contents (File name) 0 left → Consumes left last all → IsAtEnd last → IsInput contents (File name) 0 all
input_of None name left last all opened lost at_end = tt
input_of (Some texts) name None last all opened lost at_end = absurd (cc opened.1)
input_of (Some texts) name (Some xs) None all opened lost at_end = absurd lost
input_of (Some texts) name (Some xs) (Some ys) all opened lost at_end =
    let is : xs ≡ opened.0 = cc opened.1 in
    let whole : xs ≡ all = lost ∙ ap (λ (t : List ℕ). all ++ t) at_end ∙ append-nil all in
    opened.2 ∙ ap (λ (t : List ℕ). Some t) (sym is ∙ whole)

-- a source of which so many bytes were taken has so many
long_of : (texts : Contents) (name : List ℕ) (left last : Option (List ℕ)) (taken : List ℕ) → IsOpened (Some texts) (File name) 0 left → Consumes left last taken → byte_limit < length taken
    → (text : List ℕ) × (slice_get (texts (File name)) 0 ≡ Some text) × (byte_limit < length text)
long_of texts name None last taken opened lost long = absurd (cc opened.1)
long_of texts name (Some xs) None taken opened lost long = absurd lost
long_of texts name (Some xs) (Some ys) taken opened lost long =
    let is : xs ≡ opened.0 = cc opened.1 in
    let size : length opened.0 ≡ length taken + length ys = ap length (sym is ∙ lost) ∙ length-append taken ys in
    (opened.0, opened.2, omega (arith, size, long))

pub told_long : (contents : Option Contents) (name : List ℕ) (left last : Option (List ℕ)) (taken : List ℕ) → IsOpened contents (File name) 0 left → Consumes left last taken → byte_limit < length taken → IsToldLong contents name
told_long contents name left last taken opened lost long = λ texts told.
    let P : Option Contents → Type 0 = λ c. IsOpened c (File name) 0 left in
    long_of texts name left last taken (subst P told opened) lost long

becomes_front : (a b c : Option (List ℕ)) (xs : List ℕ) → Becomes a b [] → AppendsFront b c xs → BecomesFront a c xs
becomes_front a b c xs first front = (front.0, Becomes-appends a b c [] (take front.0 xs) first front.1)

pub becomes_from : (a b c : Option (List ℕ)) (xs : List ℕ) → b ≡ a → Becomes b c xs → Becomes a c xs
becomes_from a b c xs same becomes = let P : Option (List ℕ) → Type 0 = λ o. Becomes o c xs in subst P same becomes

becomes_still : (a b c : Option (List ℕ)) (xs : List ℕ) → c ≡ b → Becomes a b xs → Becomes a c xs
becomes_still a b c xs same becomes = let P : Option (List ℕ) → Type 0 = λ o. Becomes a o xs in subst P (sym same) becomes

-- what an answer of either form says
pub wrote_front : (search : Bool) (a b held held' : Option (List ℕ)) (limit n : ℕ) (is : Repaired) → search ≡ false → limit ≡ n → RepairedSo a b held held' limit is → WroteSo search a b held held' n is
wrote_front search a b held held' limit n is front same so =
    let P : Bool → Type 0 = λ form. WroteSo form a b held held' n is in
    let Q : ℕ → Type 0 = λ m. RepairedSo a b held held' m is in
    subst P (sym front) (subst Q same so)

pub wrote_found : (search : Bool) (a b held held' : Option (List ℕ)) (limit n : ℕ) (is : Repaired) → search ≡ true → limit ≡ n → SearchedSo a b held held' limit is → WroteSo search a b held held' n is
wrote_found search a b held held' limit n is found same so =
    let P : Bool → Type 0 = λ form. WroteSo form a b held held' n is in
    let Q : ℕ → Type 0 = λ m. SearchedSo a b held held' m is in
    subst P (sym found) (subst Q same so)

-- what follows from what an answer is
if_ok_so : {T E : Type 0} {P Q : T → Type 0} (r : Result T E) → ((x : T) → P x → Q x) → IfOk r P → IfOk r Q
if_ok_so (Ok x) so is = so x is
if_ok_so (Err e) so is = is

-- the input was opened and the output created, and then it was repaired
module _ {S M : Type 0} {left_of : S → Option (List ℕ)} {faults_of : S → ℕ} {mark_of : S → M} {contents : Option Contents} {from : List ℕ} {source : S} (entered : IsEntered left_of faults_of mark_of contents from source)
    (out : List ℕ) (target between created target' held middle empty held' : Option (List ℕ)) (same_target : between ≡ target) (same_held : middle ≡ held)
    (made : Becomes between created out) (emptied : Becomes middle empty []) (still : target' ≡ created) (last : S) where
  output : Becomes target target' out
  output = becomes_still target created target' out still (becomes_from target between created out same_target made)

  nothing : Becomes held empty []
  nothing = becomes_from held middle empty [] same_held emptied

  pub repaired_of : (limit chunks bytes skipped : ℕ) → limit ≡ byte_limit → IsRepair (left_of source) (left_of last) empty held' limit chunks bytes skipped
      → IsRepaired left_of contents from out target target' held held' chunks bytes skipped
  repaired_of limit chunks bytes skipped limit_is r =
      let lost = Consumes-trans (left_of entered.first) (left_of source) (left_of last) magic r.taken entered.lost r.lost in
      record {
        first = entered.first;
        last = last;
        opened = entered.opened;
        all = magic ++ r.taken;
        lost = lost;
        at_end = r.all;
        input = input_of contents from (left_of entered.first) (left_of last) (magic ++ r.taken) entered.opened lost r.all;
        within = omega (arith, r.within, limit_is);
        cs = r.cs;
        rest = r.rest;
        front = r.front;
        created = output;
        written = Becomes-appends held empty held' [] (magic ++ r.front.text) nothing r.written;
        chunk_count = r.chunk_count;
        byte_count = r.byte_count;
        skipped_count = r.skipped_count;
      }

  pub cut_of : IsCutOff (left_of source) (left_of last) empty held' → IsCutRepair left_of contents from out target target' held held'
  cut_of r = record {
    first = entered.first;
    last = last;
    opened = entered.opened;
    taken = magic ++ r.taken;
    lost = Consumes-trans (left_of entered.first) (left_of source) (left_of last) magic r.taken entered.lost r.lost;
    cs = r.cs;
    text = r.text;
    chunks = r.chunks;
    rest = r.rest;
    whole = ap (λ (t : List ℕ). magic ++ t) r.whole;
    created = output;
    written = becomes_front held empty held' (magic ++ r.text) nothing r.written;
  }

  pub failed_of : IsCutOff (left_of source) (left_of last) empty held' → mark_of last ≡ mark_of source → Rose (faults_of source) (faults_of last)
      → IsFailedRepair left_of faults_of mark_of contents from out target target' held held'
  unfolding cut_of
  failed_of r marked rose =
      let cut = cut_of r in
      record {
        cut = cut;
        failed = record { marked = marked ∙ entered.marked; rose = rose_from (faults_of entered.first) (faults_of source) (faults_of last) entered.quiet rose; taken = (cut.taken, cut.lost) };
      }

  pub too_long_of : (limit : ℕ) → limit ≡ byte_limit → (r : IsCutOff (left_of source) (left_of last) empty held') → limit < length (magic ++ r.taken)
      → IsLongRepair left_of contents from out target target' held held'
  unfolding cut_of
  too_long_of limit limit_is r long =
      let cut = cut_of r in
      let more : byte_limit < length cut.taken = subst (λ n. n < length (magic ++ r.taken)) limit_is long in
      record { cut = cut; more = more; told = told_long contents from (left_of cut.first) (left_of cut.last) cut.taken cut.opened cut.lost more }

  pub searched_of : (limit chunks bytes skipped : ℕ) → limit ≡ byte_limit → IsSearch (left_of source) (left_of last) empty held' limit chunks bytes skipped
      → IsSearched left_of contents from out target target' held held' chunks bytes skipped
  searched_of limit chunks bytes skipped limit_is r =
      let lost = Consumes-trans (left_of entered.first) (left_of source) (left_of last) magic r.taken entered.lost r.lost in
      record {
        first = entered.first;
        last = last;
        opened = entered.opened;
        all = magic ++ r.taken;
        lost = lost;
        at_end = r.all;
        input = input_of contents from (left_of entered.first) (left_of last) (magic ++ r.taken) entered.opened lost r.all;
        within = omega (arith, r.within, limit_is);
        parts = r.parts;
        salvaged = r.salvaged;
        created = output;
        written = Becomes-appends held empty held' [] (magic ++ kept_bytes r.parts) nothing r.written;
        chunk_count = r.chunk_count;
        byte_count = r.byte_count;
        skipped_count = r.skipped_count;
      }

  pub search_cut_of : IsSearchCut (left_of source) (left_of last) empty held' → IsCutSearch left_of contents from out target target' held held'
  search_cut_of r = record {
    first = entered.first;
    last = last;
    opened = entered.opened;
    taken = magic ++ r.taken;
    lost = Consumes-trans (left_of entered.first) (left_of source) (left_of last) magic r.taken entered.lost r.lost;
    met = r.taken;
    begins = refl;
    ended = r.ended;
    all = r.all;
    parts = r.parts;
    rest = r.rest;
    first_parts = r.first;
    created = output;
    written = becomes_front held empty held' (magic ++ kept_bytes r.parts) nothing r.written;
  }

  pub failed_search_of : IsSearchCut (left_of source) (left_of last) empty held' → mark_of last ≡ mark_of source → Rose (faults_of source) (faults_of last)
      → IsFailedSearch left_of faults_of mark_of contents from out target target' held held'
  unfolding search_cut_of
  failed_search_of r marked rose =
      let cut = search_cut_of r in
      record {
        cut = cut;
        failed = record { marked = marked ∙ entered.marked; rose = rose_from (faults_of entered.first) (faults_of source) (faults_of last) entered.quiet rose; taken = (cut.taken, cut.lost) };
      }

  pub long_search_of : (limit : ℕ) → limit ≡ byte_limit → (r : IsSearchCut (left_of source) (left_of last) empty held') → limit < length (magic ++ r.taken) → AreCountedParts (magic ++ r.taken) limit r.parts
      → IsLongSearch left_of contents from out target target' held held'
  unfolding search_cut_of
  long_search_of limit limit_is r long counted =
      let cut = search_cut_of r in
      let more : byte_limit < length cut.taken = subst (λ n. n < length (magic ++ r.taken)) limit_is long in
      record {
        cut = cut;
        more = more;
        counted = subst (λ n. AreCountedParts (magic ++ r.taken) n r.parts) limit_is counted;
        told = told_long contents from (left_of cut.first) (left_of cut.last) cut.taken cut.opened cut.lost more;
      }

  -- ---- of either form

  kept_by : (form : Bool) (limit chunks bytes skipped : ℕ) → limit ≡ byte_limit → WroteSo form (left_of source) (left_of last) empty held' limit (answer.Done chunks bytes skipped)
      → IsKept form left_of contents from out target target' held held' chunks bytes skipped
  kept_by false limit chunks bytes skipped limit_is r = repaired_of limit chunks bytes skipped limit_is r
  kept_by true limit chunks bytes skipped limit_is r = searched_of limit chunks bytes skipped limit_is r

  failed_by : (form : Bool) (limit : ℕ) → WroteSo form (left_of source) (left_of last) empty held' limit answer.ReadFault → mark_of last ≡ mark_of source → Rose (faults_of source) (faults_of last)
      → IsFailed form left_of faults_of mark_of contents from out target target' held held'
  failed_by false limit r marked rose = failed_of r.0 marked rose
  failed_by true limit r marked rose = failed_search_of r.0 marked rose

  written_by : (form : Bool) (limit : ℕ) → WroteSo form (left_of source) (left_of last) empty held' limit answer.WriteFault → IsCut form left_of contents from out target target' held held'
  written_by false limit r = cut_of r
  written_by true limit r = search_cut_of r

  forgot_by : (form : Bool) (limit : ℕ) → WroteSo form (left_of source) (left_of last) empty held' limit answer.Memory → IsCut form left_of contents from out target target' held held'
  forgot_by false limit r = cut_of r
  forgot_by true limit r = search_cut_of r

  long_by : (form : Bool) (limit : ℕ) → limit ≡ byte_limit → WroteSo form (left_of source) (left_of last) empty held' limit answer.SizeLimit → IsLong form left_of contents from out target target' held held'
  long_by false limit limit_is r = too_long_of limit limit_is r.0 r.1
  long_by true limit limit_is r = long_search_of limit limit_is r.0 r.1 r.2

  -- and where what the form is and what the answer is are known
  module _ (form form' : Bool) (form_is : form' ≡ form) (limit : ℕ) (is : Repaired) (so : WroteSo form (left_of source) (left_of last) empty held' limit is) where
    so_at : (is' : Repaired) → is ≡ is' → WroteSo form (left_of source) (left_of last) empty held' limit is'
    so_at is' same = let P : Repaired → Type 0 = λ a. WroteSo form (left_of source) (left_of last) empty held' limit a in subst P same so

    pub kept_so : limit ≡ byte_limit → (result : Result Kept RepairFault) → IfOk result (λ k. is ≡ answer.Done k.chunks k.bytes k.skipped)
        → IfOk result (λ k. IsKept form' left_of contents from out target target' held held' k.chunks k.bytes k.skipped)
    kept_so limit_is result done =
        if_ok_so result (λ k same.
        let P : Bool → Type 0 = λ f. IsKept f left_of contents from out target target' held held' k.chunks k.bytes k.skipped in
        subst P (sym form_is) (kept_by form limit k.chunks k.bytes k.skipped limit_is (so_at (answer.Done k.chunks k.bytes k.skipped) same))) done

    pub failed_so : is ≡ answer.ReadFault → mark_of last ≡ mark_of source → Rose (faults_of source) (faults_of last)
        → IsFailed form' left_of faults_of mark_of contents from out target target' held held'
    failed_so same marked rose =
        let P : Bool → Type 0 = λ f. IsFailed f left_of faults_of mark_of contents from out target target' held held' in
        subst P (sym form_is) (failed_by form limit (so_at answer.ReadFault same) marked rose)

    pub written_so : is ≡ answer.WriteFault → IsCut form' left_of contents from out target target' held held'
    written_so same =
        let P : Bool → Type 0 = λ f. IsCut f left_of contents from out target target' held held' in
        subst P (sym form_is) (written_by form limit (so_at answer.WriteFault same))

    pub forgot_so : is ≡ answer.Memory → IsCut form' left_of contents from out target target' held held'
    forgot_so same =
        let P : Bool → Type 0 = λ f. IsCut f left_of contents from out target target' held held' in
        subst P (sym form_is) (forgot_by form limit (so_at answer.Memory same))

    pub long_so : limit ≡ byte_limit → is ≡ answer.SizeLimit → IsLong form' left_of contents from out target target' held held'
    long_so limit_is same =
        let P : Bool → Type 0 = λ f. IsLong f left_of contents from out target target' held held' in
        subst P (sym form_is) (long_by form limit limit_is (so_at answer.SizeLimit same))

-- a call behind it that leaves the output leaves that it was cut
pub cut_still : {S : Type 0} (form : Bool) (left_of : S → Option (List ℕ)) (contents : Option Contents) (from out : List ℕ) (target target' target'' held held' held'' : Option (List ℕ)) → target'' ≡ target' → held'' ≡ held'
    → IsCut form left_of contents from out target target' held held' → IsCut form left_of contents from out target target'' held held''
cut_still form left_of contents from out target target' target'' held held' held'' same_target same_held cut =
    let P : Option (List ℕ) → Type 0 = λ t. IsCut form left_of contents from out target t held held'' in
    let Q : Option (List ℕ) → Type 0 = λ h. IsCut form left_of contents from out target target' held h in
    subst P (sym same_target) (subst Q (sym same_held) cut)

-- an output that is complete is one that may be cut
cut_of_repaired : {S : Type 0} {left_of : S → Option (List ℕ)} {contents : Option Contents} {from out : List ℕ} {target target' held held' : Option (List ℕ)} {chunks bytes skipped : ℕ} → IsRepaired left_of contents from out target target' held held' chunks bytes skipped → IsCutRepair left_of contents from out target target' held held'
cut_of_repaired {held = held} {held' = held'} r = record {
  first = r.first;
  last = r.last;
  opened = r.opened;
  taken = r.all;
  lost = r.lost;
  cs = r.cs;
  text = r.front.text;
  chunks = r.front.chunks;
  rest = r.rest;
  whole = r.front.whole;
  created = r.created;
  written = (length (magic ++ r.front.text), subst (λ t. Becomes held held' t) (sym (take-length (magic ++ r.front.text))) r.written);
}

cut_of_searched : {S : Type 0} {left_of : S → Option (List ℕ)} {contents : Option Contents} {from out : List ℕ} {target target' held held' : Option (List ℕ)} {chunks bytes skipped : ℕ} → IsSearched left_of contents from out target target' held held' chunks bytes skipped → IsCutSearch left_of contents from out target target' held held'
cut_of_searched {held = held} {held' = held'} r = record {
  first = r.first;
  last = r.last;
  opened = r.opened;
  taken = r.all;
  lost = r.lost;
  met = r.salvaged.rest;
  begins = r.salvaged.begins;
  ended = true;
  all = λ t. r.at_end;
  parts = r.parts;
  rest = [];
  first_parts = r.salvaged.all;
  created = r.created;
  written = (length (magic ++ kept_bytes r.parts), subst (λ t. Becomes held held' t) (sym (take-length (magic ++ kept_bytes r.parts))) r.written);
}

pub cut_of_kept : {S : Type 0} (form : Bool) (left_of : S → Option (List ℕ)) (contents : Option Contents) (from out : List ℕ) (target target' held held' : Option (List ℕ)) (chunks bytes skipped : ℕ) → IsKept form left_of contents from out target target' held held' chunks bytes skipped → IsCut form left_of contents from out target target' held held'
cut_of_kept false left_of contents from out target target' held held' chunks bytes skipped r = cut_of_repaired r
cut_of_kept true left_of contents from out target target' held held' chunks bytes skipped r = cut_of_searched r

-- what a fault of either form tells of the input
pub long_input : {S : Type 0} (form : Bool) (left_of : S → Option (List ℕ)) (contents : Option Contents) (from out : List ℕ) (target target' held held' : Option (List ℕ)) → IsLong form left_of contents from out target target' held held' → IsToldLong contents from
long_input false left_of contents from out target target' held held' r = r.told
long_input true left_of contents from out target target' held held' r = r.told
