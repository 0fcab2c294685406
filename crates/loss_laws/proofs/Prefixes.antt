-- The first chunks of a recording hold the first samples of each feed without those that their ledger names.
use Rattle.std.proofs.Common.{◌≡◌, ◌⊎◌, ℕ, suc, ◌+◌, ◌^◌, ◌<◌, ◌≤◌, true, false, nat_lt, List, [], ◌∷◌, ◌++◌, length, map, take, Some, slice_get, if◌then◌else◌, inl, inr, refl, sym, ap, ◌∙◌, subst, append_assoc, arith}
use Rattle.std.specs.List.{AllByRecursion}
use Rattle.std.proofs.lemmas.Bool.{eq-eqb, ne_eqb, cases_eq}
use Rattle.std.proofs.lemmas.List.{append-nil, length-map}
use Rattle.std.proofs.lemmas.Option.{slice_get_within}
use Rattle.xdf_model.specs.Sample.{Sample}
use Rattle.chunk_grammar.specs.declared.chunk.Chunk.{Chunk}
use Rattle.chunk_grammar.specs.declared.chunk.Chunk.TheVariants.{Samples, Boundary, StreamFooter}
use Rattle.chunk_grammar.specs.Chunk.{Context, least_file_text}
use Rattle.chunk_grammar.specs.Standing.{context_after_all}
use Rattle.recording_model.specs.declared.row.Row.{Row}
use Rattle.recording_model.specs.declared.stream.StreamDoc.{StreamDoc}
use Rattle.recording_model.specs.Ledger.{stream_samples, all_rows, ledger_rows}
use Rattle.recording_model.specs.Batch.{Entry, Batch, Group, samples_in, end_of, entries_from}
use Rattle.recording_model.specs.Layout.{ChunkSamples, boundary_gap, samples_text, with_boundaries, expected, expected_from, row_before, id_at, with_rows}
use Rattle.recording_model.specs.Recording.{headers, footer_document, lost_in, AreStreams, IsRecording}
use Rattle.loss_model.specs.Loss.{entries_at, AreOf, entries_without, AreApart, accounted, IsFeedPrefix}
use Rattle.loss_laws.proofs.Entries.{gap, gaps, gaps_to, IsFrom, behind, behind_within, counts, to_apart, to_count, entries_to}
use Rattle.loss_laws.proofs.Chunks.{samples_append, headers_none, footers_none, held, held_append, own_samples, body_samples}
use Rattle.loss_laws.proofs.Groups.{entries_of, samples_of, rows_in, rows_append, row_quiet, row_is, row_isnt, entries_own, entries_other, stream_fine, own_id, other_id, samples_are, rows_are}
use Rattle.loss_laws.proofs.Batches.{of_append, divided_entries, divided_known, in_order_from}

-- ---- fronts of lists

-- where the front of two lists, one behind the other, ends
split_of : {A : Type 0} (xs ys front more : List A) → xs ++ ys ≡ front ++ more → ((r : List A) × (xs ≡ front ++ r)) ⊎ ((r : List A) × (front ≡ xs ++ r) × (ys ≡ r ++ more))
split_of [] ys front more e = inr (front, refl, e)
split_of (x ∷ xs) ys [] more e = inl (x ∷ xs, refl)
split_of (x ∷ xs) ys (y ∷ front) more e =
    let head : x ≡ y = cc in
    let tail : xs ++ ys ≡ front ++ more = cc in
    elim (split_of xs ys front more tail) [
      | inl k ↦ inl (k.0, ap (λ t. x ∷ t) k.1 ∙ ap (λ h. h ∷ front ++ k.0) head)
      | inr k ↦ inr (k.0, ap (λ t. y ∷ t) k.1 ∙ ap (λ h. h ∷ xs ++ k.0) (sym head), k.2)
    ]

front_empty : {A : Type 0} (front more : List A) → [] ≡ front ++ more → front ≡ []
front_empty [] more e = refl
front_empty (x ∷ front) more e = absurd (cc)

all_front : {A : Type 0} (P : A → Type 0) (xs ys : List A) → AllByRecursion P (xs ++ ys) → AllByRecursion P xs
all_front P [] ys all = tt
all_front P (x ∷ xs) ys all = (all.0, all_front P xs ys all.1)

all_back : {A : Type 0} (P : A → Type 0) (xs ys : List A) → AllByRecursion P (xs ++ ys) → AllByRecursion P ys
all_back P [] ys all = all
all_back P (x ∷ xs) ys all = all_back P xs ys all.1

from_front : (n : ℕ) (xs ys : List Entry) → IsFrom n (xs ++ ys) → IsFrom n xs
from_front n [] ys from = tt
from_front n (x ∷ xs) ys from = (from.0, from.1, from_front (x.position + 1) xs ys from.2)

from_back : (n : ℕ) (xs ys : List Entry) → IsFrom n (xs ++ ys) → IsFrom (behind n xs) ys
from_back n [] ys from = from
from_back n (x ∷ xs) ys from = from_back (x.position + 1) xs ys from.2

-- ---- the Samples chunks of the first chunks of a recording

-- these chunks hold of each stream what the first of the Samples chunks hold
record Pieces (ps : List ChunkSamples) (cs : List Chunk) : Type 0 where
  front : List ChunkSamples
  more : List ChunkSamples
  all : ps ≡ front ++ more
  same : (id : ℕ) → stream_samples id cs ≡ held id front

no_piece : (ps : List ChunkSamples) (cs : List Chunk) → ((id : ℕ) → stream_samples id cs ≡ []) → Pieces ps cs
no_piece ps cs none = record { front = []; more = ps; all = refl; same = none }

piece_more : (p : ChunkSamples) (ps : List ChunkSamples) (d : Chunk) (ds : List Chunk) → Samples p.id p.samples ≡ d → Pieces ps ds → Pieces (p ∷ ps) (d ∷ ds)
piece_more p ps d ds e k = record {
  front = p ∷ k.front;
  more = k.more;
  all = ap (λ (t : List ChunkSamples). p ∷ t) k.all;
  same = λ id. ap (λ (c : Chunk). stream_samples id (c ∷ ds)) (sym e) ∙ ap (λ (t : List Sample). own_samples id p ++ t) (k.same id);
}

behind_boundary : (ps : List ChunkSamples) (body ds more : List Chunk) → Boundary ∷ body ≡ ds ++ more → ((es : List Chunk) → body ≡ es ++ more → Pieces ps es) → Pieces ps ds
behind_boundary ps body [] more e find = no_piece ps [] (λ id. refl)
behind_boundary ps body (d ∷ ds) more e find =
    let head : Boundary ≡ d = cc in
    let k = find ds (cc) in
    record { front = k.front; more = k.more; all = k.all; same = λ id. ap (λ (c : Chunk). stream_samples id (c ∷ ds)) (sym head) ∙ k.same id }

body_front : (ctx : Context) (since : ℕ) (ps : List ChunkSamples) (ds more : List Chunk) → with_boundaries ctx since ps ≡ ds ++ more → Pieces ps ds
body_front ctx since [] ds more e = no_piece [] ds (λ id. ap (stream_samples id) (front_empty ds more e))
body_front ctx since (p ∷ ps) [] more e = no_piece (p ∷ ps) [] (λ id. refl)
body_front ctx since (p ∷ ps) (d ∷ ds) more e =
    let c : Chunk = Samples p.id p.samples in
    let n = since + length (samples_text ctx p) in
    elim (nat_lt n boundary_gap) as (λ b. (if b then c ∷ with_boundaries ctx n ps else c ∷ Boundary ∷ with_boundaries ctx 0 ps) ≡ d ∷ ds ++ more → Pieces (p ∷ ps) (d ∷ ds)) [
      | true ↦ λ f.
          let tail : with_boundaries ctx n ps ≡ ds ++ more = cc in
          piece_more p ps d ds (cc) (body_front ctx n ps ds more tail)
      | false ↦ λ f.
          let tail : Boundary ∷ with_boundaries ctx 0 ps ≡ ds ++ more = cc in
          piece_more p ps d ds (cc) (behind_boundary ps (with_boundaries ctx 0 ps) ds more tail (λ es g. body_front ctx 0 ps es more g))
    ] e

-- no samples are in the front of chunks that have none
front_none : (id : ℕ) (whole front more : List Chunk) → stream_samples id whole ≡ [] → whole ≡ front ++ more → stream_samples id front ≡ []
front_none id whole front more none e = front_empty (stream_samples id front) (stream_samples id more) (sym none ∙ ap (stream_samples id) e ∙ samples_append id front more)

recorded_front : (streams : List StreamDoc) (ctx : Context) (since : ℕ) (ps : List ChunkSamples) (body whole cs more : List Chunk) (doc : List ℕ) (docs : StreamDoc → List ℕ)
    → body ≡ with_boundaries ctx since ps
    → whole ≡ headers streams ++ body ++ (StreamFooter 0 doc ∷ map (λ (s : StreamDoc). StreamFooter s.id (docs s)) streams) → whole ≡ cs ++ more → Pieces ps cs
recorded_front streams ctx since ps body whole cs more doc docs laid is begins =
    let H = headers streams in
    let F : List Chunk = StreamFooter 0 doc ∷ map (λ (s : StreamDoc). StreamFooter s.id (docs s)) streams in
    elim (split_of (H ++ body) F cs more (sym is ∙ begins)) [
      | inl k ↦ elim (split_of H body cs k.0 k.1) [
        | inl j ↦ no_piece ps cs (λ id. front_none id H cs j.0 (headers_none id streams) j.1)
        | inr j ↦
            let p = body_front ctx since ps j.0 k.0 (sym laid ∙ j.2) in
            record {
              front = p.front;
              more = p.more;
              all = p.all;
              same = λ id.
                  ap (stream_samples id) j.1 ∙ samples_append id H j.0 ∙ ap (λ (t : List Sample). t ++ stream_samples id j.0) (headers_none id streams) ∙ p.same id;
            }
      ]
      | inr k ↦ record {
        front = ps;
        more = [];
        all = sym (append-nil ps);
        same = λ id.
            ap (stream_samples id) k.1
            ∙ samples_append id (H ++ body) k.0
            ∙ ap (λ (t : List Sample). stream_samples id (H ++ body) ++ t) (front_none id F k.0 more (footers_none id docs streams) k.2)
            ∙ append-nil (stream_samples id (H ++ body))
            ∙ samples_append id H body
            ∙ ap (λ (t : List Sample). t ++ stream_samples id body) (headers_none id streams)
            ∙ ap (stream_samples id) laid
            ∙ body_samples ctx since id ps;
      }
    ]

-- ---- their groups

-- nothing, or the row before the next group
abbrev IsLast : List StreamDoc → List Group → List Group → List ChunkSamples → Type 0
IsLast streams done [] row = row ≡ []
IsLast streams done (g ∷ gs) row = (row ≡ []) ⊎ (row ≡ row_before (id_at streams g.place) (expected g.place done) g.first)

-- these Samples chunks are those of whole groups, each with its row, and perhaps one more row
record Rows (streams : List StreamDoc) (before gs : List Group) (qs : List ChunkSamples) : Type 0 where
  front : List Group
  more : List Group
  all : gs ≡ front ++ more
  row : List ChunkSamples
  parts : qs ≡ with_rows streams before front ++ row
  last : IsLast streams (before ++ front) more row

row_front : (i n p : ℕ) (qs rs : List ChunkSamples) → row_before i n p ≡ qs ++ rs → (qs ≡ []) ⊎ (qs ≡ row_before i n p)
row_front i n p qs rs e = of_short (row_before i n p) qs rs e (short n p i)
  where
    short : (n p i : ℕ) → length (row_before i n p) ≤ 1
    short n p i = elim (cases_eq n p) [ inl same ↦ (let test = eq-eqb n p same in rw test (omega arith)) | inr differs ↦ (let test = ne_eqb n p differs in rw test (omega arith)) ]

    of_short : (xs qs rs : List ChunkSamples) → xs ≡ qs ++ rs → length xs ≤ 1 → (qs ≡ []) ⊎ (qs ≡ xs)
    of_short xs [] rs e few = inl refl
    of_short xs (q ∷ qs) [] e few = inr (sym (e ∙ append-nil (q ∷ qs)))
    of_short xs (q ∷ []) (r ∷ rs) e few = absurd (let long = ap length e in omega (arith, long, few))
    of_short xs (q ∷ p ∷ qs) (r ∷ rs) e few = absurd (let long = ap length e in omega (arith, long, few))

-- none of the groups is whole
no_group : (streams : List StreamDoc) (before : List Group) (g : Group) (gs : List Group) (qs : List ChunkSamples)
    → (qs ≡ []) ⊎ (qs ≡ row_before (id_at streams g.place) (expected g.place before) g.first) → Rows streams before (g ∷ gs) qs
no_group streams before g gs qs e = record {
  front = [];
  more = g ∷ gs;
  all = refl;
  row = qs;
  parts = refl;
  last = subst (λ (done : List Group). IsLast streams done (g ∷ gs) qs) (sym (append-nil before)) e;
}

one_group : (streams : List StreamDoc) (before : List Group) (g : Group) (gs : List Group) (qs : List ChunkSamples) → Rows streams (before ++ g ∷ []) gs qs
    → Rows streams before (g ∷ gs) (row_before (id_at streams g.place) (expected g.place before) g.first ++ record { id = id_at streams g.place; samples = samples_in g } ∷ qs)
one_group streams before g gs qs k =
    let B = row_before (id_at streams g.place) (expected g.place before) g.first in
    let p : ChunkSamples = record { id = id_at streams g.place; samples = samples_in g } in
    record {
      front = g ∷ k.front;
      more = k.more;
      all = ap (λ (t : List Group). g ∷ t) k.all;
      row = k.row;
      parts = ap (λ (t : List ChunkSamples). B ++ p ∷ t) k.parts ∙ sym (append_assoc B (p ∷ with_rows streams (before ++ g ∷ []) k.front) k.row);
      last = subst (λ (done : List Group). IsLast streams done k.more k.row) (append_assoc before (g ∷ []) k.front) k.last;
    }

rows_front : (streams : List StreamDoc) (before gs : List Group) (qs rs : List ChunkSamples) → with_rows streams before gs ≡ qs ++ rs → Rows streams before gs qs
rows_front streams before [] qs rs e = record { front = []; more = []; all = refl; row = []; parts = front_empty qs rs e; last = refl }
rows_front streams before (g ∷ gs) qs rs e =
    let i = id_at streams g.place in
    let n = expected g.place before in
    let B = row_before i n g.first in
    let p : ChunkSamples = record { id = i; samples = samples_in g } in
    let behind_row : (t : List ChunkSamples) → qs ≡ B ++ t → p ∷ with_rows streams (before ++ g ∷ []) gs ≡ t ++ rs → Rows streams before (g ∷ gs) qs =
    λ t. elim t as (λ u. qs ≡ B ++ u → p ∷ with_rows streams (before ++ g ∷ []) gs ≡ u ++ rs → Rows streams before (g ∷ gs) qs) [
      | [] ↦ λ parts f. no_group streams before g gs qs (inr (parts ∙ append-nil B))
      | q ∷ u ↦ λ parts f.
          let head : p ≡ q = cc in
          let k = one_group streams before g gs u (rows_front streams (before ++ g ∷ []) gs u rs (cc)) in
          subst (λ (xs : List ChunkSamples). Rows streams before (g ∷ gs) xs) (sym (parts ∙ ap (λ (c : ChunkSamples). B ++ c ∷ u) (sym head))) k
    ] in
    elim (split_of B (p ∷ with_rows streams (before ++ g ∷ []) gs) qs rs e) [
      | inl k ↦ no_group streams before g gs qs (row_front i n g.first qs k.0 k.1)
      | inr k ↦ behind_row k.0 k.1 k.2
    ]

-- ---- the position behind the last group of a place

run_behind : (n : ℕ) (xs : List Sample) (es : List Entry) → behind n (entries_from n xs ++ es) ≡ behind (n + length xs) es
run_behind n [] es = ap (λ (m : ℕ). behind m es) (omega arith)
run_behind n (x ∷ xs) es =
    let same : (n + 1) + length xs ≡ n + suc (length xs) = omega arith in
    run_behind (n + 1) xs es ∙ ap (λ (m : ℕ). behind m es) same

expected_is : (place n : ℕ) (gs : List Group) → expected_from place n gs ≡ behind n (entries_of place gs)
expected_is place n [] = refl
expected_is place n (g ∷ gs) =
    let E = entries_of place gs in
    elim (cases_eq g.place place) [
      | inl e ↦
          let end : (g.first + 1) + length g.more ≡ end_of g = omega arith in
          (let test = eq-eqb g.place place e in rw test (expected_is place (end_of g) gs))
          ∙ sym (ap (behind n) (entries_own place g gs e) ∙ run_behind (g.first + 1) g.more E ∙ ap (λ (m : ℕ). behind m E) end)
      | inr e ↦ (let test = ne_eqb g.place place e in rw test (expected_is place n gs)) ∙ sym (ap (behind n) (entries_other place g gs e))
    ]

-- ---- the first samples of a feed

-- the chunks hold these entries of a feed, and name what is missing up to an end
record Holds (samples : List Sample) (cs : List Chunk) (id : ℕ) : Type 0 where
  entries : List Entry
  end : ℕ
  from : IsFrom 0 entries
  of : AreOf samples entries
  low : behind 0 entries ≤ end
  high : end ≤ length samples
  kept : stream_samples id cs ≡ samples_of entries
  lost : ledger_rows id cs ≡ gaps_to id 0 entries end

holds_prefix : (samples : List Sample) (cs : List Chunk) (id : ℕ) → Holds samples cs id → IsFeedPrefix samples cs id
holds_prefix samples cs id h =
    let G = gaps_to id 0 h.entries h.end in
    let total : accounted id cs ≡ h.end =
    let kept = ap length h.kept ∙ length-map h.entries (λ (e : Entry). e.sample) in
    let lost : lost_in id cs ≡ counts G = ap counts h.lost in
    let all = to_count id 0 h.entries h.end h.from h.low in
    omega (arith, kept, lost, all) in
    let entries_kept : entries_without (ledger_rows id cs) (take (accounted id cs) samples) ≡ h.entries =
    ap (λ (rows : List Row). entries_without rows (take (accounted id cs) samples)) h.lost
    ∙ ap (λ (n : ℕ). entries_without G (take n samples)) total
    ∙ entries_to samples id h.entries h.end h.from h.low h.of in
    record {
      rows = subst (λ (n : ℕ). AreApart 0 (ledger_rows id cs) n) (sym total) (subst (λ (rows : List Row). AreApart 0 rows h.end) (sym h.lost) (to_apart id 0 h.entries h.end h.from h.low));
      within = subst (λ (n : ℕ). n ≤ length samples) (sym total) h.high;
      kept = h.kept ∙ sym (ap samples_of entries_kept);
    }

module _ (streams : List StreamDoc) (place : ℕ) (s : StreamDoc) (samples : List Sample) (are : AreStreams streams) (is : slice_get streams place ≡ Some s) where
  -- what the row behind the last whole group says of the stream
  record LastRow (n : ℕ) (row : List ChunkSamples) : Type 0 where
    end : ℕ
    low : n ≤ end
    high : end ≤ length samples
    kept : held s.id row ≡ []
    lost : rows_in s.id (held 0 row) ≡ gap s.id n end

  no_row : (n : ℕ) (row : List ChunkSamples) → n ≤ length samples → row ≡ [] → LastRow n row
  no_row n row high e = record {
    end = n;
    low = omega arith;
    high = high;
    kept = ap (held s.id) e;
    lost = ap (λ (ps : List ChunkSamples). rows_in s.id (held 0 ps)) e ∙ (let test = eq-eqb n n refl in rw test refl);
  }

  own_row : (done : List Group) (g : Group) (row : List ChunkSamples) → g.place ≡ place → expected place done ≤ g.first → g.first < 2 ^ 62 → g.first ≤ length samples
      → row ≡ row_before (id_at streams g.place) (expected g.place done) g.first → LastRow (expected place done) row
  own_row done g row e low bound high is_row =
      let fine = stream_fine streams place s are is in
      let same : row ≡ row_before s.id (expected place done) g.first =
      is_row ∙ ap (λ (q : ℕ). row_before (id_at streams q) (expected q done) g.first) e ∙ ap (λ (i : ℕ). row_before i (expected place done) g.first) (own_id streams place s are is place refl) in
      record {
        end = g.first;
        low = low;
        high = high;
        kept = ap (held s.id) same ∙ row_quiet s.id s.id (expected place done) g.first fine.low;
        lost = ap (λ (ps : List ChunkSamples). rows_in s.id (held 0 ps)) same ∙ row_is s.id (expected place done) g.first fine.low fine.high low bound;
      }

  other_row : (done : List Group) (g : Group) (row : List ChunkSamples) → (g.place ≡ place → ⊥) → expected place done ≤ length samples
      → row ≡ row_before (id_at streams g.place) (expected g.place done) g.first → LastRow (expected place done) row
  other_row done g row e high is_row =
      let fine = stream_fine streams place s are is in
      record {
        end = expected place done;
        low = omega arith;
        high = high;
        kept = ap (held s.id) is_row ∙ row_quiet s.id (id_at streams g.place) (expected g.place done) g.first fine.low;
        lost =
            ap (λ (ps : List ChunkSamples). rows_in s.id (held 0 ps)) is_row
            ∙ row_isnt s.id (id_at streams g.place) (expected g.place done) g.first (other_id streams place s are is g.place e)
            ∙ (let test = eq-eqb (expected place done) (expected place done) refl in rw test refl);
      }

  last_row : (done more : List Group) (row : List ChunkSamples) → IsFrom (expected place done) (entries_of place more) → AreOf samples (entries_of place more)
      → expected place done ≤ length samples → IsLast streams done more row → LastRow (expected place done) row
  last_row done [] row from of high last = no_row (expected place done) row high last
  last_row done (g ∷ more) row from of high last = elim last [
    | inl none ↦ no_row (expected place done) row high none
    | inr is_row ↦ elim (cases_eq g.place place) [
      | inl e ↦
          let first : Entry = record { position = g.first; sample = g.sample } in
          let is_all = entries_own place g more e in
          let all : IsFrom (expected place done) (first ∷ (entries_from (g.first + 1) g.more ++ entries_of place more)) = subst (IsFrom (expected place done)) is_all from in
          let its : AreOf samples (first ∷ (entries_from (g.first + 1) g.more ++ entries_of place more)) = subst (AreOf samples) is_all of in
          let here = slice_get_within samples g.first g.sample its.0 in
          own_row done g row e all.0 all.1 (omega (arith, here)) is_row
      | inr e ↦ other_row done g row e high is_row
    ]
  ]

  groups_hold : (cs : List Chunk) (groups : List Group) (qs : List ChunkSamples) → AllByRecursion (λ g. 1 ≤ id_at streams g.place) groups
      → IsFrom 0 (entries_of place groups) → AreOf samples (entries_of place groups) → ((id : ℕ) → stream_samples id cs ≡ held id qs) → Rows streams [] groups qs → Holds samples cs s.id
  groups_hold cs groups qs known from of same r =
      let es = entries_of place r.front in
      let os = entries_of place r.more in
      let parts : entries_of place groups ≡ es ++ os = ap (entries_of place) r.all ∙ of_append place r.front r.more in
      let from_all : IsFrom 0 (es ++ os) = subst (IsFrom 0) parts from in
      let of_all : AreOf samples (es ++ os) = subst (AreOf samples) parts of in
      let first : IsFrom 0 es = from_front 0 es os from_all in
      let own : AreOf samples es = all_front (λ (e : Entry). slice_get samples e.position ≡ Some e.sample) es os of_all in
      let end : expected place r.front ≡ behind 0 es = expected_is place 0 r.front in
      let up : behind 0 es ≤ length samples = behind_within samples 0 es (omega arith) own in
      let l = last_row r.front r.more r.row (subst (λ (n : ℕ). IsFrom n os) (sym end) (from_back 0 es os from_all))
      (all_back (λ (e : Entry). slice_get samples e.position ≡ Some e.sample) es os of_all) (subst (λ (n : ℕ). n ≤ length samples) (sym end) up) r.last in
      let P = with_rows streams [] r.front in
      record {
        entries = es;
        end = l.end;
        from = first;
        of = own;
        low = subst (λ (n : ℕ). n ≤ l.end) end l.low;
        high = l.high;
        kept =
            same s.id ∙ ap (held s.id) r.parts ∙ held_append s.id P r.row
            ∙ ap (λ (t : List Sample). held s.id P ++ t) l.kept ∙ append-nil (held s.id P)
            ∙ samples_are streams place s are is [] r.front;
        lost =
            ap (rows_in s.id) (same 0 ∙ ap (held 0) r.parts ∙ held_append 0 P r.row)
            ∙ rows_append s.id (held 0 P) (held 0 r.row)
            ∙ ap (λ (t : List Row). t ++ rows_in s.id (held 0 r.row))
            (rows_are streams place s are is [] r.front (all_front (λ (g : Group). 1 ≤ id_at streams g.place) r.front r.more (subst (AllByRecursion (λ g. 1 ≤ id_at streams g.place)) r.all known)) first)
            ∙ ap (λ (t : List Row). gaps s.id 0 es ++ t) (l.lost ∙ ap (λ (n : ℕ). gap s.id n l.end) end);
      }

-- the first chunks of a recording hold the first samples of a feed
pub front_is_prefix : (streams : List StreamDoc) (batches : List Batch) (whole cs more : List Chunk) (place : ℕ) (s : StreamDoc) (samples : List Sample) → IsRecording streams batches whole → whole ≡ cs ++ more
    → slice_get streams place ≡ Some s → AreOf samples (entries_at place batches) → length samples < 2 ^ 62 → IsFeedPrefix samples cs s.id
front_is_prefix streams batches whole cs more place s samples r begins is of few =
    let ps = with_rows streams [] r.groups in
    let entries_same : entries_of place r.groups ≡ entries_at place batches = divided_entries streams place batches r.groups r.divided in
    let p = recorded_front streams (context_after_all [] (headers streams)) (length (least_file_text (headers streams))) ps r.body whole cs more
    (footer_document (length (all_rows r.body)) 0) (λ t. footer_document (length (stream_samples t.id r.body)) (lost_in t.id r.body)) r.laid r.whole begins in
    holds_prefix samples cs s.id (groups_hold streams place s samples r.are is cs r.groups p.front (divided_known streams batches r.groups r.are r.divided)
    (subst (IsFrom 0) (sym entries_same) (in_order_from samples place batches few (r.in_order place) of)) (subst (AreOf samples) (sym entries_same) of)
    p.same (rows_front streams [] r.groups p.front p.more p.all))
