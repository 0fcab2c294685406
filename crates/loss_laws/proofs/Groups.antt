-- The groups of a place: their samples, and the rows between them.
use Rattle.std.proofs.Common.{◌≡◌, ◌≢◌, ℕ, zero, suc, ◌+◌, ◌-◌, ◌^◌, ◌<◌, ◌≤◌, ◌==◌, true, false, List, [], ◌∷◌, ◌++◌, length, map, filter, Option, Some, None, slice_get, if◌then◌else◌, inl, inr, refl, sym, ap, ◌∙◌, subst, arith}
use Rattle.std.specs.List.{AllByRecursion, filter_map}
use Rattle.std.proofs.lemmas.Bool.{lt-ltb, le-leb, eq-eqb, ne_eqb, cases_eq}
use Rattle.std.proofs.lemmas.List.{map-append}
use Rattle.std.proofs.lemmas.List.Elements.{filter-append, filter_map-append}
use Rattle.xdf_model.specs.Sample.{Sample}
use Rattle.recording_model.specs.declared.row.Row.{Row}
use Rattle.recording_model.specs.declared.stream.StreamDoc.{StreamDoc}
use Rattle.recording_model.specs.Ledger.{is_in_range, row_sample, row_in}
use Rattle.recording_model.specs.Batch.{Entry, Group, samples_in, end_of, entries_in, entries_from}
use Rattle.recording_model.specs.Layout.{ChunkSamples, expected, expected_from, row_before, id_of, id_at, with_rows}
use Rattle.recording_model.specs.Recording.{IsStream, AreStreams}
use Rattle.loss_laws.proofs.Entries.{gap, gaps, IsFrom}
use Rattle.loss_laws.proofs.Chunks.{held, held_append}

-- the entries of a place in these groups, in order
abbrev pub entries_of : ℕ → List Group → List Entry
entries_of place [] = []
entries_of place (g ∷ gs) = (if g.place == place then entries_in g else []) ++ entries_of place gs

abbrev pub samples_of : List Entry → List Sample
samples_of es = map (λ (e : Entry). e.sample) es

-- ---- streams and their ids

pub stream_at : (streams : List StreamDoc) (p : ℕ) (s : StreamDoc) → AreStreams streams → slice_get streams p ≡ Some s → IsStream s
stream_at [] p s are e = absurd (cc)
stream_at (t ∷ streams) zero s are e = subst (λ (u : StreamDoc). IsStream u) (cc) are.0
stream_at (t ∷ streams) (suc p) s are e = stream_at streams p s are.2 e

all_at : {A : Type 0} (P : A → Type 0) (xs : List A) (i : ℕ) (x : A) → AllByRecursion P xs → slice_get xs i ≡ Some x → P x
all_at P [] i x all e = absurd (cc)
all_at P (y ∷ xs) zero x all e = subst P (cc) all.0
all_at P (y ∷ xs) (suc i) x all e = all_at P xs i x all.1 e

other_stream : (streams : List StreamDoc) (p q : ℕ) (s t : StreamDoc) → AreStreams streams → slice_get streams p ≡ Some s → slice_get streams q ≡ Some t → p ≢ q → s.id ≢ t.id
other_stream [] p q s t are a b e = absurd (cc)
other_stream (u ∷ streams) zero zero s t are a b e = absurd (e refl)
other_stream (u ∷ streams) zero (suc q) s t are a b e =
    λ (same : s.id ≡ t.id). all_at (λ (o : StreamDoc). o.id ≢ u.id) streams q t are.1 b (sym same ∙ ap (λ (o : StreamDoc). o.id) (let k : s ≡ u = cc in k))
other_stream (u ∷ streams) (suc p) zero s t are a b e =
    λ (same : s.id ≡ t.id). all_at (λ (o : StreamDoc). o.id ≢ u.id) streams p s are.1 a (same ∙ ap (λ (o : StreamDoc). o.id) (let k : t ≡ u = cc in k))
other_stream (u ∷ streams) (suc p) (suc q) s t are a b e = other_stream streams p q s t are.2 a b (λ (same : p ≡ q). e (ap suc same))

-- ---- rows as samples

-- the rows that name a stream, of the ledger's samples
abbrev pub rows_in : ℕ → List Sample → List Row
rows_in id ss = filter (λ (row : Row). row.stream == id) (filter_map row_in ss)

pub rows_append : (id : ℕ) (xs ys : List Sample) → rows_in id (xs ++ ys) ≡ rows_in id xs ++ rows_in id ys
rows_append id xs ys =
    ap (filter (λ (row : Row). row.stream == id)) (filter_map-append row_in xs ys)
    ∙ filter-append (λ (row : Row). row.stream == id) (filter_map row_in xs) (filter_map row_in ys)

record InRange (row : Row) : Type 0 where
  low : 1 ≤ row.stream
  high : row.stream ≤ 65_535
  first : row.first < 2 ^ 62
  some : 1 ≤ row.count
  count : row.count ≤ 2 ^ 62

range_is : (row : Row) → InRange row → is_in_range row ≡ true
range_is row r =
    let a = le-leb 1 row.stream r.low in
    let b = le-leb row.stream 65_535 r.high in
    let c = lt-ltb row.first (2 ^ 62) r.first in
    let d = le-leb 1 row.count r.some in
    let e = le-leb row.count (2 ^ 62) r.count in
    rw (a, b, c, d, e) refl

row_own : (row : Row) → InRange row → rows_in row.stream (row_sample row ∷ []) ≡ row ∷ []
row_own row r =
    let test : is_in_range row ≡ true = range_is row r in
    let same = eq-eqb row.stream row.stream refl in
    rw (test, same) refl

row_other : (id : ℕ) (row : Row) → row.stream ≢ id → rows_in id (row_sample row ∷ []) ≡ []
row_other id row differs =
    let test = ne_eqb row.stream id differs in
    elim (is_in_range row) as (λ b. is_in_range row ≡ b → rows_in id (row_sample row ∷ []) ≡ []) [ true ↦ λ e. rw (e, test) refl | false ↦ λ e. rw e refl ] refl

-- ---- the row before a group

row_absent : (i n p : ℕ) → n ≡ p → row_before i n p ≡ []
row_absent i n p e = let test = eq-eqb n p e in rw test refl

row_present : (i n p : ℕ) → n ≢ p → row_before i n p ≡ record { id = 0; samples = row_sample (record { stream = i; first = n; count = p - n }) ∷ [] } ∷ []
row_present i n p e = let test = ne_eqb n p e in rw test refl

gap_absent : (i n p : ℕ) → n ≡ p → gap i n p ≡ []
gap_absent i n p e = let test = eq-eqb n p e in rw test refl

gap_present : (i n p : ℕ) → n ≢ p → gap i n p ≡ record { stream = i; first = n; count = p - n } ∷ []
gap_present i n p e = let test = ne_eqb n p e in rw test refl

-- it holds nothing of a stream that isn't the ledger
pub row_quiet : (id i n p : ℕ) → 1 ≤ id → held id (row_before i n p) ≡ []
row_quiet id i n p low = elim (cases_eq n p) [
  | inl e ↦ ap (held id) (row_absent i n p e)
  | inr e ↦ ap (held id) (row_present i n p e) ∙ (let test = ne_eqb 0 id (λ h. omega arith) in rw test refl)
]

pub row_is : (id n p : ℕ) → 1 ≤ id → id ≤ 65_535 → n ≤ p → p < 2 ^ 62 → rows_in id (held 0 (row_before id n p)) ≡ gap id n p
row_is id n p low high first bound = elim (cases_eq n p) [
  | inl e ↦ ap (λ (ps : List ChunkSamples). rows_in id (held 0 ps)) (row_absent id n p e) ∙ sym (gap_absent id n p e)
  | inr e ↦
      let row : Row = record { stream = id; first = n; count = p - n } in
      ap (λ (ps : List ChunkSamples). rows_in id (held 0 ps)) (row_present id n p e)
      ∙ row_own row (record { low = low; high = high; first = omega arith; some = omega arith; count = omega arith })
      ∙ sym (gap_present id n p e)
]

pub row_isnt : (id i n p : ℕ) → i ≢ id → rows_in id (held 0 (row_before i n p)) ≡ []
row_isnt id i n p differs = elim (cases_eq n p) [
  | inl e ↦ ap (λ (ps : List ChunkSamples). rows_in id (held 0 ps)) (row_absent i n p e)
  | inr e ↦ ap (λ (ps : List ChunkSamples). rows_in id (held 0 ps)) (row_present i n p e) ∙ row_other id (record { stream = i; first = n; count = p - n }) differs
]

-- ---- entries at positions that follow each other

samples_back : (n : ℕ) (xs : List Sample) → samples_of (entries_from n xs) ≡ xs
samples_back n [] = refl
samples_back n (x ∷ xs) = ap (λ (t : List Sample). x ∷ t) (samples_back (n + 1) xs)

run_from : (n : ℕ) (xs : List Sample) (es : List Entry) → IsFrom n (entries_from n xs ++ es) → IsFrom (n + length xs) es
run_from n [] es from = subst (λ (m : ℕ). IsFrom m es) (omega arith) from
run_from n (x ∷ xs) es from =
    let same : (n + 1) + length xs ≡ n + suc (length xs) = omega arith in
    subst (λ (m : ℕ). IsFrom m es) same (run_from (n + 1) xs es from.2)

run_gaps : (id n : ℕ) (xs : List Sample) (es : List Entry) → gaps id n (entries_from n xs ++ es) ≡ gaps id (n + length xs) es
run_gaps id n [] es = ap (λ (m : ℕ). gaps id m es) (omega arith)
run_gaps id n (x ∷ xs) es =
    let same : (n + 1) + length xs ≡ n + suc (length xs) = omega arith in
    ap (λ (rows : List Row). rows ++ gaps id (n + 1) (entries_from (n + 1) xs ++ es)) (gap_absent id n n refl)
    ∙ run_gaps id (n + 1) xs es ∙ ap (λ (m : ℕ). gaps id m es) same

expected_more : (p n : ℕ) (gs : List Group) (g : Group) → expected_from p n (gs ++ g ∷ []) ≡ (if g.place == p then end_of g else expected_from p n gs)
expected_more p n [] g = refl
expected_more p n (h ∷ gs) g = expected_more p (if h.place == p then end_of h else n) gs g

expected_own : (p : ℕ) (gs : List Group) (g : Group) → g.place ≡ p → expected p (gs ++ g ∷ []) ≡ end_of g
expected_own p gs g e = expected_more p 0 gs g ∙ (let test = eq-eqb g.place p e in rw test refl)

expected_other : (p : ℕ) (gs : List Group) (g : Group) → g.place ≢ p → expected p (gs ++ g ∷ []) ≡ expected p gs
expected_other p gs g e = expected_more p 0 gs g ∙ (let test = ne_eqb g.place p e in rw test refl)

pub entries_own : (place : ℕ) (g : Group) (gs : List Group) → g.place ≡ place → entries_of place (g ∷ gs) ≡ entries_in g ++ entries_of place gs
entries_own place g gs e = let test = eq-eqb g.place place e in rw test refl

pub entries_other : (place : ℕ) (g : Group) (gs : List Group) → g.place ≢ place → entries_of place (g ∷ gs) ≡ entries_of place gs
entries_other place g gs e = let test = ne_eqb g.place place e in rw test refl

held_own : (id : ℕ) (p : ChunkSamples) (ps : List ChunkSamples) → p.id ≡ id → held id (p ∷ ps) ≡ p.samples ++ held id ps
held_own id p ps e = let test = eq-eqb p.id id e in rw test refl

held_other : (id : ℕ) (p : ChunkSamples) (ps : List ChunkSamples) → p.id ≢ id → held id (p ∷ ps) ≡ held id ps
held_other id p ps e = let test = ne_eqb p.id id e in rw test refl

-- ---- all groups

module _ (streams : List StreamDoc) (place : ℕ) (s : StreamDoc) (are : AreStreams streams) (is : slice_get streams place ≡ Some s) where
  pub stream_fine : IsStream s
  stream_fine = stream_at streams place s are is

  pub own_id : (p : ℕ) → p ≡ place → id_at streams p ≡ s.id
  own_id p e = ap (id_at streams) e ∙ ap id_of is

  other_of : (p : ℕ) (o : Option StreamDoc) → slice_get streams p ≡ o → p ≢ place → id_of o ≢ s.id
  other_of p None e differs = λ h. let low = stream_fine.low in omega (arith, low, h)
  other_of p (Some t) e differs = other_stream streams p place t s are e is differs

  pub other_id : (p : ℕ) → p ≢ place → id_at streams p ≢ s.id
  other_id p differs = other_of p (slice_get streams p) refl differs

  -- what is held of the stream are the samples of its entries
  pub samples_are : (before gs : List Group) → held s.id (with_rows streams before gs) ≡ samples_of (entries_of place gs)
  samples_are before [] = refl
  samples_are before (g ∷ gs) =
      let i = id_at streams g.place in
      let B = row_before i (expected g.place before) g.first in
      let p : ChunkSamples = record { id = i; samples = samples_in g } in
      let R = with_rows streams (before ++ g ∷ []) gs in
      let ih = samples_are (before ++ g ∷ []) gs in
      held_append s.id B (p ∷ R)
      ∙ ap (λ (t : List Sample). t ++ held s.id (p ∷ R)) (row_quiet s.id i (expected g.place before) g.first stream_fine.low)
      ∙ elim (cases_eq g.place place) [
        | inl e ↦
            held_own s.id p R (own_id g.place e)
            ∙ ap (λ (t : List Sample). samples_in g ++ t) ih
            ∙ sym (ap samples_of (entries_own place g gs e)
            ∙ map-append (λ (x : Entry). x.sample) (entries_in g) (entries_of place gs)
            ∙ ap (λ (t : List Sample). t ++ samples_of (entries_of place gs)) (samples_back g.first (samples_in g)))
        | inr e ↦ held_other s.id p R (other_id g.place e) ∙ ih ∙ sym (ap samples_of (entries_other place g gs e))
      ]

  -- the rows that name the stream are what is missing between its entries
  pub rows_are : (before gs : List Group) → AllByRecursion (λ g. 1 ≤ id_at streams g.place) gs → IsFrom (expected place before) (entries_of place gs)
      → rows_in s.id (held 0 (with_rows streams before gs)) ≡ gaps s.id (expected place before) (entries_of place gs)
  rows_are before [] known from = refl
  rows_are before (g ∷ gs) known from =
      let i = id_at streams g.place in
      let B = row_before i (expected g.place before) g.first in
      let p : ChunkSamples = record { id = i; samples = samples_in g } in
      let R = with_rows streams (before ++ g ∷ []) gs in
      let E = entries_of place gs in
      let n = expected place before in
      let low = known.0 in
      let split : rows_in s.id (held 0 (B ++ p ∷ R)) ≡ rows_in s.id (held 0 B) ++ rows_in s.id (held 0 R) =
      ap (rows_in s.id) (held_append 0 B (p ∷ R) ∙ ap (λ (t : List Sample). held 0 B ++ t) (held_other 0 p R (λ h. omega (arith, low, h))))
      ∙ rows_append s.id (held 0 B) (held 0 R) in
      split ∙ elim (cases_eq g.place place) [
        | inl e ↦
            let first : Entry = record { position = g.first; sample = g.sample } in
            let is_all = entries_own place g gs e in
            let all : IsFrom n (first ∷ (entries_from (g.first + 1) g.more ++ E)) = subst (IsFrom n) is_all from in
            let end : (g.first + 1) + length g.more ≡ expected place (before ++ g ∷ []) = (let k : (g.first + 1) + length g.more ≡ end_of g = omega arith in k) ∙ sym (expected_own place before g e) in
            let more = rows_are (before ++ g ∷ []) gs known.1 (subst (λ (m : ℕ). IsFrom m E) end (run_from (g.first + 1) g.more E all.2)) in
            let row : rows_in s.id (held 0 B) ≡ gap s.id n g.first =
            ap (λ (q : ℕ). rows_in s.id (held 0 (row_before (id_at streams q) (expected q before) g.first))) e
            ∙ ap (λ (j : ℕ). rows_in s.id (held 0 (row_before j n g.first))) (own_id place refl)
            ∙ row_is s.id n g.first stream_fine.low stream_fine.high all.0 all.1 in
            ap (λ (t : List Row). t ++ rows_in s.id (held 0 R)) row
            ∙ ap (λ (t : List Row). gap s.id n g.first ++ t) (more ∙ sym (run_gaps s.id (g.first + 1) g.more E ∙ ap (λ (m : ℕ). gaps s.id m E) end))
            ∙ sym (ap (gaps s.id n) is_all)
        | inr e ↦
            let stays = expected_other place before g e in
            let is_all = entries_other place g gs e in
            let same : IsFrom (expected place (before ++ g ∷ [])) E = subst (λ (m : ℕ). IsFrom m E) (sym stays) (subst (IsFrom n) is_all from) in
            ap (λ (t : List Row). t ++ rows_in s.id (held 0 R)) (row_isnt s.id i (expected g.place before) g.first (other_id g.place e))
            ∙ rows_are (before ++ g ∷ []) gs known.1 same
            ∙ ap (λ (m : ℕ). gaps s.id m E) stays
            ∙ sym (ap (gaps s.id n) is_all)
      ]
