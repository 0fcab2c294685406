-- A repair that searches behind damage, part by part.
use Rattle.std.proofs.Common.{◌≡◌, ℕ, zero, suc, ◌+◌, ◌-◌, ◌≤◌, take, inl, inr, Bool, false, true, IsTrue, List, [], ◌∷◌, ◌++◌, length, Option, refl, sym, ap, ◌∙◌, subst, append_assoc, arith}
use Rattle.std.proofs.lemmas.Bool.{cases_Bool}
use Rattle.std.proofs.lemmas.List.{length-append, take_all}
use Rattle.std.specs.Io.KnownBytes.{Appends, Consumes, IsAtEnd}
use Rattle.std.proofs.KnownBytes.{Appends-nil, Appends-trans, Consumes-nil, Consumes-trans}
use Rattle.rec_base.specs.Known.{AppendsFront, Loses}
use Rattle.chunk_grammar.specs.Chunk.{Context, context_after, magic, IsChunkText}
use Rattle.chunk_grammar.specs.Standing.{standing_at}
use Rattle.file_reader.specs.AsNext.{chunk_of}
use Rattle.file_reader.specs.FileInlet.{FileInlet}
use Rattle.boundary_search.specs.declared.step.Salvaged.{Salvaged}
use Rattle.boundary_search.specs.declared.step.Salvaged.TheVariants.{Chunk, Skipped, End, ReadFault, SizeLimit, Memory}
use Rattle.boundary_search.specs.Parts.{Part, kept, skipped, part_bytes, AreCountedParts, AreFirstParts, IsPart, IsStuck, context_behind_all, kept_bytes}
use Rattle.boundary_search.proofs.Searching.{take_split}
use Rattle.boundary_search.specs.Salvage.{Salvage, Goes, counted, IsChunkFound, IsEndFound, IsBroken, IsFound, IsFresh, IsPastLimit, IsRangeSkipped}
use Rattle.xdf_repair.specs.declared.repaired.Repaired.{Repaired}
use Rattle.xdf_repair.specs.declared.repaired.Repaired.TheVariants as repaired
use Rattle.xdf_repair.specs.Copying.{Gathers}
use Rattle.xdf_repair.specs.Search.{IsSearch, IsSearchCut, SearchedSo}
use Rattle.xdf_repair.specs.Searching.{ArePassed, AreGathered}
use Rattle.xdf_repair.proofs.Copies.{front_all, front_behind, long_text}
use Rattle.xdf_repair.proofs.Parts.{context_and_one, count_and_chunk, count_and_range, first_and_one, first_counted, first_grow, kept_and_chunk, kept_and_range, part_by, part_of_first, skipped_and_chunk, skipped_and_range}

-- ---- the magic

take_none : (n : ℕ) → take {A = ℕ} n [] ≡ []
take_none zero = refl
take_none (suc n) = refl

pub gathered_magic : {S : Type 0} (a held : Option (List ℕ)) (now : Salvage S) (waiting : List ℕ) → IsFresh now → waiting ≡ magic → AreGathered a a held held now.ended now.file 0 4 0 waiting
gathered_magic a held now waiting f is = record {
  passed = record {
    first_counted = λ e. take_none (now.file.byte_limit - 4) ∙ sym (ap (take (now.file.byte_limit - now.file.place)) f.3 ∙ take_none (now.file.byte_limit - now.file.place));
    within = λ e. let wrong : false ≡ true = sym f.4 ∙ e in absurd cc;
    taken = [];
    lost = Consumes-nil a;
    all = λ e. let wrong : false ≡ true = sym f.4 ∙ e in absurd cc;
    parts = [];
    first = sym f.3;
    context = f.0;
    size = omega (arith, f.1, ap length f.3);
    chunk_count = refl;
    byte_count = refl;
    skipped_count = refl;
    both = omega (arith, f.1);
    few = omega arith;
  };
  went = [];
  whole = sym is;
  written = Appends-nil held;
}

-- ---- an answer of the salvager

-- each answer goes past some bytes
pub found_goes : {S : Type 0} (before left : Option (List ℕ)) (old new : Salvage S) (r : Salvaged) → IsFound before left old new r → (gone : List ℕ) × Goes before left old.ended old.file new.file gone
found_goes before left old new (Chunk at) h = (new.file.last, h.goes)
found_goes before left old new (Skipped from to) h = (h.past.range, h.past.goes)
found_goes before left old new End h = ([], h.goes)
found_goes before left old new ReadFault h = (h.0.gone, h.0.goes)
found_goes before left old new SizeLimit h = (h.0.gone, h.0.goes)
found_goes before left old new Memory h = ([], h.goes)

module _ {S : Type 0} (left : S → Option (List ℕ)) (a : Option (List ℕ)) (old new : Salvage S) (chunks bytes skips : ℕ) (k : ArePassed a (left old.source) old.ended old.file chunks bytes skips) where
  module _ (gone : List ℕ) (goes : Goes (left old.source) (left new.source) old.ended old.file new.file gone) where
    lost_more : Consumes a (left new.source) (k.taken ++ goes.taken)
    lost_more = Consumes-trans a (left old.source) (left new.source) k.taken goes.taken k.lost goes.lost

    first_more : (ended : Bool) → (IsTrue old.ended → IsTrue ended) → AreFirstParts ended [] k.parts (k.taken ++ goes.taken) (gone ++ new.file.ahead)
    first_more ended still =
        subst (λ (l : List ℕ). AreFirstParts ended [] k.parts (k.taken ++ goes.taken) l) goes.all
        (first_grow old.ended ended [] k.parts k.taken old.file.ahead goes.taken still goes.none k.first)

    size_more : new.file.place + length new.file.ahead ≡ 4 + length (k.taken ++ goes.taken)
    size_more =
        omega (arith, k.size, goes.place, ap length goes.all, length-append old.file.ahead goes.taken, length-append gone new.file.ahead, length-append k.taken goes.taken)

    within_still : IsTrue old.ended → new.file.place + length new.file.ahead ≤ new.file.byte_limit
    within_still e = omega (arith, k.within e, ap length (goes.none e), ap length goes.all, goes.place, goes.limit, length-append old.file.ahead goes.taken, length-append gone new.file.ahead)

    -- of all bytes that count, those that were gone past and those behind them
    counted_goes : new.file.place ≤ new.file.byte_limit → take (old.file.byte_limit - old.file.place) (old.file.ahead ++ goes.taken) ≡ gone ++ counted new.file
    counted_goes low =
        let room = old.file.byte_limit - old.file.place in
        let left : room - length gone ≡ new.file.byte_limit - new.file.place = omega (arith, goes.place, goes.limit) in
        ap (take room) goes.all ∙ take_split room gone new.file.ahead
        ∙ ap (λ (l : List ℕ). l ++ take (room - length gone) new.file.ahead) (take_all room gone (omega (arith, low, goes.place, goes.limit)))
        ∙ ap (λ (n : ℕ). gone ++ take n new.file.ahead) left

    counted_more : old.ended ≡ false → AreFirstParts false [] k.parts (take (old.file.byte_limit - 4) (k.taken ++ goes.taken)) (take (old.file.byte_limit - old.file.place) (old.file.ahead ++ goes.taken))
    counted_more e =
        first_counted [] k.parts (old.file.byte_limit - 4) (old.file.byte_limit - old.file.place) k.taken old.file.ahead goes.taken (omega (arith, k.size)) (k.first_counted e)

    -- and one part more
    counted_and_one : (p : Part) → part_bytes p ≡ gone → new.file.place ≤ new.file.byte_limit → old.ended ≡ false → IsPart false (context_behind_all [] k.parts) p (counted new.file)
        → AreFirstParts false [] (k.parts ++ p ∷ []) (take (new.file.byte_limit - 4) (k.taken ++ goes.taken)) (counted new.file)
    counted_and_one p is low e part =
        let b = k.taken ++ goes.taken in
        let behind : take (old.file.byte_limit - old.file.place) (old.file.ahead ++ goes.taken) ≡ part_bytes p ++ counted new.file = counted_goes low ∙ ap (λ (l : List ℕ). l ++ counted new.file) (sym is) in
        let first = subst (λ (l : List ℕ). AreFirstParts false [] k.parts (take (old.file.byte_limit - 4) b) l) behind (counted_more e) in
        subst (λ (n : ℕ). AreFirstParts false [] (k.parts ++ p ∷ []) (take (n - 4) b) (counted new.file)) (sym goes.limit)
        (first_and_one false [] k.parts p (take (old.file.byte_limit - 4) b) (counted new.file) first part)

    pub cut_behind : (IsTrue old.ended → (new.source ≡ old.source) × IsTrue new.ended) → (held held' : Option (List ℕ)) → AppendsFront held held' (magic ++ kept_bytes k.parts) → IsSearchCut a (left new.source) held held'
    cut_behind still held held' some = record {
      taken = k.taken ++ goes.taken;
      lost = lost_more;
      ended = old.ended;
      all = λ e. subst (λ (s : S). IsAtEnd (left s)) (sym (still e).0) (k.all e);
      parts = k.parts;
      rest = gone ++ new.file.ahead;
      first = first_more old.ended (λ e. e);
      written = some;
    }

  module _ (closed : old.ended ≡ false → IsTrue new.ended → IsAtEnd (left new.source)) (still : IsTrue old.ended → (new.source ≡ old.source) × IsTrue new.ended) where
    end_by : (ended : Bool) → old.ended ≡ ended → IsTrue new.ended → IsAtEnd (left new.source)
    end_by false is e = closed is e
    end_by true is e = subst (λ (s : S). IsAtEnd (left s)) (sym (still is).0) (k.all is)

    not_ended : new.ended ≡ false → old.ended ≡ false
    not_ended e = elim (cases_Bool old.ended) [ inl t ↦ let wrong : true ≡ false = sym (still t).1 ∙ e in absurd cc | inr f ↦ f ]

    all_more : IsTrue new.ended → IsAtEnd (left new.source)
    all_more = end_by old.ended refl

    pub chunk_passed : (at : ℕ) → IsChunkFound (left old.source) (left new.source) old new at → (m : ArePassed a (left new.source) new.ended new.file (chunks + 1) (bytes + length new.file.last) skips) × (kept_bytes m.parts ≡ kept_bytes k.parts ++ new.file.last)
    chunk_passed at h =
        let text = new.file.last in
        let c = chunk_of (standing_at old.file.context text) in
        let here : IsChunkText (context_behind_all [] k.parts) c text = subst (λ (x : Context). IsChunkText x c text) k.context h.text in
        let long = long_text old.file.context c text h.text in
        let size : length (kept_bytes (k.parts ++ kept c text ∷ [])) ≡ length (kept_bytes k.parts) + length text = ap length (kept_and_chunk k.parts c text) ∙ length-append (kept_bytes k.parts) text in (
          record {
            taken = k.taken ++ h.goes.taken;
            lost = lost_more text h.goes;
            all = all_more;
            parts = k.parts ++ kept c text ∷ [];
            first = first_and_one new.ended [] k.parts (kept c text) (k.taken ++ h.goes.taken) new.file.ahead (first_more text h.goes new.ended (λ e. (still e).1)) here;
            first_counted = λ e. counted_and_one text h.goes (kept c text) refl h.within (sym h.ended ∙ e) here;
            within = λ e. within_still text h.goes (sym h.ended ∙ e);
            context = h.context ∙ ap (λ (x : Context). context_after x c) k.context ∙ sym (context_and_one [] k.parts (kept c text));
            size = size_more text h.goes;
            chunk_count = omega (arith, k.chunk_count, count_and_chunk k.parts c text);
            byte_count = omega (arith, k.byte_count, size);
            skipped_count = k.skipped_count ∙ sym (skipped_and_chunk k.parts c text);
            both = omega (arith, k.both, h.goes.place);
            few = omega (arith, k.few, h.goes.place, long);
          },
          kept_and_chunk k.parts c text,
        )

    -- the range is a part before all that is held
    range_here : (from to : ℕ) (h : IsRangeSkipped (left old.source) (left new.source) old new from to) → IsPart new.ended (context_behind_all [] k.parts) (skipped h.past.range) new.file.ahead
    range_here from to h =
        let p = skipped h.past.range in
        subst (λ (x : Context). IsPart new.ended x p new.file.ahead) k.context
        (part_by new.ended old.file.context p new.file.ahead (λ e. part_of_first old.file.context p (new.file.byte_limit - new.file.place) new.file.ahead (h.past.sure e)) h.past.all)

    pub range_passed : (from to : ℕ) → IsRangeSkipped (left old.source) (left new.source) old new from to → (m : ArePassed a (left new.source) new.ended new.file chunks bytes (skips + (to - from))) × (kept_bytes m.parts ≡ kept_bytes k.parts)
    range_passed from to h =
        let p = skipped h.past.range in
        let same = kept_and_range k.parts h.past.range in (
          record {
            taken = k.taken ++ h.past.goes.taken;
            lost = lost_more h.past.range h.past.goes;
            all = all_more;
            parts = k.parts ++ p ∷ [];
            first = first_and_one new.ended [] k.parts p (k.taken ++ h.past.goes.taken) new.file.ahead (first_more h.past.range h.past.goes new.ended (λ e. (still e).1)) (range_here from to h);
            first_counted = λ e.
                counted_and_one h.past.range h.past.goes p refl h.past.within (not_ended e)
                (subst (λ (x : Context). IsPart false x p (counted new.file)) k.context (h.past.sure e));
            within = h.past.counts;
            context = h.past.context ∙ k.context ∙ sym (context_and_one [] k.parts p);
            size = size_more h.past.range h.past.goes;
            chunk_count = k.chunk_count ∙ ap length (sym (count_and_range k.parts h.past.range));
            byte_count = omega (arith, k.byte_count, ap length same);
            skipped_count = omega (arith, k.skipped_count, skipped_and_range k.parts h.past.range, h.begins, h.ends, h.past.goes.place);
            both = omega (arith, k.both, h.begins, h.ends, h.past.goes.place);
            few = omega (arith, k.few, h.past.goes.place);
          },
          same,
        )

    -- ---- how it ends

    pub done_so : (held held' : Option (List ℕ)) (limit : ℕ) → old.file.byte_limit ≡ limit → IsEndFound (left old.source) (left new.source) old new → Appends held held' (magic ++ kept_bytes k.parts) → IsSearch a (left new.source) held held' limit chunks bytes skips
    done_so held held' limit same h all =
        let taken = k.taken ++ h.goes.taken in
        let first : AreFirstParts true [] k.parts taken new.file.ahead = first_more [] h.goes true (λ e. refl) in
        record {
          taken = taken;
          lost = lost_more [] h.goes;
          all = all_more h.ended;
          within = omega (arith, size_more [] h.goes, length-append magic taken, ap length h.nothing, h.within, h.goes.limit, same);
          parts = k.parts;
          salvaged = record {
            rest = taken;
            begins = refl;
            all = subst (λ (l : List ℕ). AreFirstParts true [] k.parts taken l) h.nothing first;
          };
          written = all;
          chunk_count = k.chunk_count;
          byte_count = omega (arith, k.byte_count, length-append magic (kept_bytes k.parts));
          skipped_count = k.skipped_count;
        }

  pub fault_so : (IsTrue old.ended → (new.source ≡ old.source) × IsTrue new.ended) → (held held' : Option (List ℕ)) (limit : ℕ) → old.file.byte_limit ≡ limit → IsBroken (left old.source) (left new.source) old.ended old.file new.file → Appends held held' (magic ++ kept_bytes k.parts) → SearchedSo a (left new.source) held held' limit repaired.ReadFault
  unfolding cut_behind
  fault_so still held held' limit same h all = (
    cut_behind h.gone h.goes still held held' (front_all held held' (magic ++ kept_bytes k.parts) all),
    omega (arith, size_more h.gone h.goes, length-append magic (k.taken ++ h.goes.taken), h.within, h.goes.limit, same),
  )

  pub limit_so : (IsTrue old.ended → (new.source ≡ old.source) × IsTrue new.ended) → (held held' : Option (List ℕ)) (limit : ℕ) → old.file.byte_limit ≡ limit → old.file.place ≤ old.file.byte_limit → IsPastLimit (left old.source) (left new.source) old.ended old.file new.file
      → Appends held held' (magic ++ kept_bytes k.parts) → SearchedSo a (left new.source) held held' limit repaired.SizeLimit
  unfolding cut_behind
  limit_so still held held' limit same low h all =
      let taken = k.taken ++ h.goes.taken in
      let going : old.ended ≡ false = elim (cases_Bool old.ended) [ inl t ↦ absurd (omega (arith, within_still h.gone h.goes t, h.more)) | inr f ↦ f ] in
      let four : 4 ≤ old.file.byte_limit = omega (arith, low, k.both, k.byte_count) in
      let begins : take old.file.byte_limit (magic ++ taken) ≡ magic ++ take (old.file.byte_limit - 4) taken =
      take_split old.file.byte_limit magic taken ∙ ap (λ (l : List ℕ). l ++ take (old.file.byte_limit - length magic) taken) (take_all old.file.byte_limit magic (omega (arith, four))) in
      let counts : AreCountedParts (magic ++ taken) old.file.byte_limit k.parts = record {
        rest = take (old.file.byte_limit - 4) taken;
        left = take (old.file.byte_limit - old.file.place) (h.gone ++ new.file.ahead);
        begins = begins;
        first = subst (λ (l : List ℕ). AreFirstParts false [] k.parts (take (old.file.byte_limit - 4) taken) (take (old.file.byte_limit - old.file.place) l)) h.goes.all (counted_more h.gone h.goes going);
        stuck = subst (λ (x : Context). IsStuck x (take (old.file.byte_limit - old.file.place) (h.gone ++ new.file.ahead))) k.context h.stuck;
      } in (
        cut_behind h.gone h.goes still held held' (front_all held held' (magic ++ kept_bytes k.parts) all),
        omega (arith, size_more h.gone h.goes, length-append magic taken, h.more, h.goes.limit, same),
        subst (λ (n : ℕ). AreCountedParts (magic ++ taken) n k.parts) same counts,
      )

-- ---- the same with what waits

module _ {S : Type 0} (left : S → Option (List ℕ)) (a held held' : Option (List ℕ)) (old new : Salvage S) (chunks bytes skips : ℕ) (waiting : List ℕ) (k : AreGathered a (left old.source) held held' old.ended old.file chunks bytes skips waiting) (closed : old.ended ≡ false → IsTrue new.ended → IsAtEnd (left new.source)) (still : IsTrue old.ended → (new.source ≡ old.source) × IsTrue new.ended) where
  module _ (at : ℕ) (h : IsChunkFound (left old.source) (left new.source) old new at) (text : List ℕ) (same : text ≡ new.file.last) where
    behind : (m : ArePassed a (left new.source) new.ended new.file (chunks + 1) (bytes + length new.file.last) skips) × (kept_bytes m.parts ≡ kept_bytes k.passed.parts ++ new.file.last)
    behind = chunk_passed left a old new chunks bytes skips k.passed closed still at h

    whole_text : magic ++ kept_bytes behind.0.parts ≡ k.went ++ (waiting ++ text)
    whole_text =
        ap (λ (l : List ℕ). magic ++ l) behind.1 ∙ sym (append_assoc magic (kept_bytes k.passed.parts) new.file.last)
        ∙ ap (λ (l : List ℕ). l ++ new.file.last) k.whole ∙ append_assoc k.went waiting new.file.last
        ∙ ap (λ (l : List ℕ). k.went ++ (waiting ++ l)) (sym same)

    pub gathered_chunk : (held'' : Option (List ℕ)) (more : List ℕ) → Gathers held' held'' (waiting ++ text) more → AreGathered a (left new.source) held held'' new.ended new.file (chunks + 1) (bytes + length text) skips more
    gathered_chunk held'' more g =
        let Q : List ℕ → Type 0 = λ t. AreGathered a (left new.source) held held'' new.ended new.file (chunks + 1) (bytes + length t) skips more in
        subst Q (sym same) (record {
          passed = behind.0;
          went = k.went ++ g.went;
          whole = whole_text ∙ ap (λ (l : List ℕ). k.went ++ l) g.all ∙ sym (append_assoc k.went g.went more);
          written = Appends-trans held held' held'' k.went g.went k.written g.written;
        })

    -- a write failed
    pub cut_chunk : (held'' : Option (List ℕ)) → AppendsFront held' held'' (waiting ++ text) → IsSearchCut a (left new.source) held held''
    cut_chunk held'' some =
        let P : List ℕ → Type 0 = λ t. AppendsFront held held'' t in
        record {
          taken = behind.0.taken;
          lost = behind.0.lost;
          ended = new.ended;
          all = behind.0.all;
          parts = behind.0.parts;
          rest = new.file.ahead;
          first = behind.0.first;
          written = subst P (sym whole_text) (front_behind held held' held'' k.went (waiting ++ text) k.written some);
        }

  pub gathered_range : (from to : ℕ) → IsRangeSkipped (left old.source) (left new.source) old new from to → AreGathered a (left new.source) held held' new.ended new.file chunks bytes (skips + (to - from)) waiting
  gathered_range from to h =
      let m = range_passed left a old new chunks bytes skips k.passed closed still from to h in
      record { passed = m.0; went = k.went; whole = ap (λ (l : List ℕ). magic ++ l) m.1 ∙ k.whole; written = k.written }

-- ---- what waited is written

module _ (a b held held' : Option (List ℕ)) (ended : Bool) (now : FileInlet) (chunks bytes skips : ℕ) (waiting : List ℕ) (k : AreGathered a b held held' ended now chunks bytes skips waiting) (held'' : Option (List ℕ)) where
  pub written_all : Appends held' held'' waiting → Appends held held'' (magic ++ kept_bytes k.passed.parts)
  written_all more =
      let P : List ℕ → Type 0 = λ t. Appends held held'' t in
      subst P (sym k.whole) (Appends-trans held held' held'' k.went waiting k.written more)

  pub written_front : AppendsFront held' held'' waiting → AppendsFront held held'' (magic ++ kept_bytes k.passed.parts)
  written_front some =
      let P : List ℕ → Type 0 = λ t. AppendsFront held held'' t in
      subst P (sym k.whole) (front_behind held held' held'' k.went waiting k.written some)

pub searched_loses : (a c held held' : Option (List ℕ)) (limit : ℕ) (r : Repaired) → SearchedSo a c held held' limit r → Loses a c
searched_loses a c held held' limit (repaired.Done chunks bytes skips) h = (h.taken, h.lost)
searched_loses a c held held' limit repaired.ReadFault h = (h.0.taken, h.0.lost)
searched_loses a c held held' limit repaired.SizeLimit h = (h.0.taken, h.0.lost)
searched_loses a c held held' limit repaired.WriteFault h = (h.taken, h.lost)
searched_loses a c held held' limit repaired.Memory h = (h.taken, h.lost)
