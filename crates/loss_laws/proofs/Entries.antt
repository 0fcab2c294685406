-- The rows between entries that rise name just the positions that no entry has.
use Rattle.std.proofs.Common.{◌≡◌, ◌≢◌, ℕ, zero, suc, ◌+◌, ◌-◌, ◌^◌, ◌<◌, ◌≤◌, ◌==◌, ◌&&◌, ◌||◌, Bool, true, false, not, nat_le, nat_lt, List, [], ◌∷◌, ◌++◌, length, take, filter, sum_by, Some, slice_get, if◌then◌else◌, inl, inr, refl, sym, ap, ◌∙◌, subst, arith}
use Rattle.std.specs.Prelude.{⊤}
use Rattle.std.specs.List.{AllByRecursion, list_any}
use Rattle.std.proofs.lemmas.Bool.{lt-ltb, le-ltb, le-leb, lt-leb, eq-eqb, ne_eqb, cases_lt, cases_eq}
use Rattle.std.proofs.lemmas.List.Folds.{list_any-append}
use Rattle.std.proofs.lemmas.List.Sums.{sum_by-append}
use Rattle.std.proofs.lemmas.Option.{slice_get_within}
use Rattle.std.proofs.Math.Bool.{or-false, or-true}
use Rattle.xdf_model.specs.Sample.{Sample}
use Rattle.recording_model.specs.declared.row.Row.{Row}
use Rattle.recording_model.specs.Batch.{Entry, entries_from}
use Rattle.loss_model.specs.Loss.{behind_last, AreOf, is_named, entries_without, AreApart}

-- the row of the positions from n to the one before p, where there are any
abbrev pub gap : ℕ → ℕ → ℕ → List Row
gap id n p = if n == p then [] else record { stream = id; first = n; count = p - n } ∷ []

-- the rows of what is missing between entries, from n on
abbrev pub gaps : ℕ → ℕ → List Entry → List Row
gaps id n [] = []
gaps id n (e ∷ es) = gap id n e.position ++ gaps id (e.position + 1) es

-- the positions of the entries rise from n on, and a row can tell them
abbrev pub IsFrom : ℕ → List Entry → Type 0
IsFrom n [] = ⊤
IsFrom n (e ∷ es) = (n ≤ e.position) × (e.position < 2 ^ 62) × IsFrom (e.position + 1) es

-- the position behind the last entry, n where there is none
abbrev pub behind : ℕ → List Entry → ℕ
behind n [] = n
behind n (e ∷ es) = behind (e.position + 1) es

-- an entry has the position
abbrev pub has : ℕ → List Entry → Bool
has q es = list_any (λ (e : Entry). q == e.position) es

-- ---- one row

no_gap : (id n p : ℕ) → n ≡ p → gap id n p ≡ []
no_gap id n p e = let test = eq-eqb n p e in rw test refl

one_gap : (id n p : ℕ) → n ≢ p → gap id n p ≡ record { stream = id; first = n; count = p - n } ∷ []
one_gap id n p e = let test = ne_eqb n p e in rw test refl

abbrev row_names : ℕ → ℕ → ℕ → Bool
row_names n p q = is_named (record { stream = 0; first = n; count = p - n } ∷ []) q

named_low : (n p q : ℕ) → q < n → row_names n p q ≡ false
named_low n p q low = let a = lt-leb n q low in rw a refl

named_in : (n p q : ℕ) → n ≤ q → q < p → row_names n p q ≡ true
named_in n p q low high =
    let a = le-leb n q low in
    let b = lt-ltb q (n + (p - n)) (omega arith) in
    rw (a, b) refl

named_high : (n p q : ℕ) → n ≤ p → p ≤ q → row_names n p q ≡ false
named_high n p q low high =
    let a = le-leb n q (omega arith) in
    let b = le-ltb q (n + (p - n)) (omega arith) in
    rw (a, b) refl

gap_low : (id n p q : ℕ) → q < n → is_named (gap id n p) q ≡ false
gap_low id n p q low = elim (cases_eq n p) [
  | inl e ↦ ap (λ (rows : List Row). is_named rows q) (no_gap id n p e)
  | inr e ↦ ap (λ (rows : List Row). is_named rows q) (one_gap id n p e) ∙ named_low n p q low
]

gap_in : (id n p q : ℕ) → n ≤ q → q < p → is_named (gap id n p) q ≡ true
gap_in id n p q low high = ap (λ (rows : List Row). is_named rows q) (one_gap id n p (λ e. omega arith)) ∙ named_in n p q low high

gap_high : (id n p q : ℕ) → n ≤ p → p ≤ q → is_named (gap id n p) q ≡ false
gap_high id n p q low high = elim (cases_eq n p) [
  | inl e ↦ ap (λ (rows : List Row). is_named rows q) (no_gap id n p e)
  | inr e ↦ ap (λ (rows : List Row). is_named rows q) (one_gap id n p e) ∙ named_high n p q low high
]

-- ---- all rows

named_append : (xs ys : List Row) (q : ℕ) → is_named (xs ++ ys) q ≡ (is_named xs q || is_named ys q)
named_append xs ys q = list_any-append (λ (row : Row). nat_le row.first q && nat_lt q (row.first + row.count)) xs ys

below_none : (id n : ℕ) (es : List Entry) (q : ℕ) → IsFrom n es → q < n → is_named (gaps id n es) q ≡ false
below_none id n [] q from low = refl
below_none id n (e ∷ es) q from low =
    let first = from.0 in
    named_append (gap id n e.position) (gaps id (e.position + 1) es) q
    ∙ ap (λ (b : Bool). b || is_named (gaps id (e.position + 1) es) q) (gap_low id n e.position q low)
    ∙ below_none id (e.position + 1) es q from.2 (omega (arith, first))

pub has_none : (n : ℕ) (es : List Entry) (q : ℕ) → IsFrom n es → q < n → has q es ≡ false
has_none n [] q from low = refl
has_none n (e ∷ es) q from low =
    let first = from.0 in
    ap (λ (b : Bool). b || has q es) (ne_eqb q e.position (λ h. omega (arith, first))) ∙ has_none (e.position + 1) es q from.2 (omega (arith, first))

has_first : (e : Entry) (es : List Entry) (q : ℕ) → q ≡ e.position → has q (e ∷ es) ≡ true
has_first e es q same = ap (λ (b : Bool). b || has q es) (eq-eqb q e.position same)

has_later : (e : Entry) (es : List Entry) (q : ℕ) → q ≢ e.position → has q (e ∷ es) ≡ has q es
has_later e es q differs = ap (λ (b : Bool). b || has q es) (ne_eqb q e.position differs)

-- a position is named where no entry has it
pub named : (id n : ℕ) (es : List Entry) (q : ℕ) → IsFrom n es → n ≤ q → q < behind n es → is_named (gaps id n es) q ≡ not (has q es)
named id n [] q from low high = absurd (omega arith)
named id n (e ∷ es) q from low high =
    let p = e.position in
    let R = gaps id (p + 1) es in
    let first = from.0 in
    named_append (gap id n p) R q ∙ elim (cases_lt q p) [
      | inl before ↦
          ap (λ (b : Bool). b || is_named R q) (gap_in id n p q low before)
          ∙ sym (ap not (has_later e es q (λ h. omega arith) ∙ has_none (p + 1) es q from.2 (omega arith)))
      | inr after ↦ ap (λ (b : Bool). b || is_named R q) (gap_high id n p q first after) ∙ elim (cases_eq q p) [
        | inl here ↦ below_none id (p + 1) es q from.2 (omega arith) ∙ sym (ap not (has_first e es q here))
        | inr there ↦ named id (p + 1) es q from.2 (omega arith) high ∙ sym (ap not (has_later e es q there))
      ]
    ]

-- ---- the entries are those that a test passes

first_is : (x : Sample) (xs : List Sample) (n : ℕ) (e : Entry) → n ≡ e.position → slice_get (x ∷ xs) (e.position - n) ≡ Some e.sample → record { position = n; sample = x } ≡ e
first_is x xs n e here at =
    let zero_is : e.position - n ≡ 0 = omega arith in
    let got : slice_get (x ∷ xs) 0 ≡ Some e.sample = ap (slice_get (x ∷ xs)) (sym zero_is) ∙ at in
    let same : x ≡ e.sample = cc in
    let F : ℕ → Sample → Entry = λ q s. record { position = q; sample = s } in
    ap (λ (q : ℕ). F q x) here ∙ ap (F e.position) same

shifted : (n m : ℕ) (x : Sample) (xs : List Sample) (es : List Entry) → n + 1 ≤ m → IsFrom m es → AllByRecursion (λ e. slice_get (x ∷ xs) (e.position - n) ≡ Some e.sample) es
    → AllByRecursion (λ e. slice_get xs (e.position - (n + 1)) ≡ Some e.sample) es
shifted n m x xs [] low from at = tt
shifted n m x xs (e ∷ es) low from at =
    let first = from.0 in
    let less : suc (e.position - (n + 1)) ≡ e.position - n = omega (arith, first, low) in
    (ap (slice_get (x ∷ xs)) less ∙ at.0, shifted n (e.position + 1) x xs es (omega (arith, first, low)) from.2 at.1)

pub filter_own : (f : ℕ → Bool) (n : ℕ) (xs : List Sample) (es : List Entry) → IsFrom n es → AllByRecursion (λ e. slice_get xs (e.position - n) ≡ Some e.sample) es
    → ((q : ℕ) → n ≤ q → q < n + length xs → f q ≡ has q es) → filter (λ (e : Entry). f e.position) (entries_from n xs) ≡ es
filter_own f n [] [] from at hits = refl
filter_own f n [] (e ∷ es) from at hits = let none = at.0 in absurd (cc)
filter_own f n (x ∷ xs) [] from at hits =
    let here : f n ≡ false = hits n (omega arith) (omega arith) in
    rw here (filter_own f (n + 1) xs [] tt tt (λ q low high. hits q (omega arith) (omega arith)))
filter_own f n (x ∷ xs) (e ∷ es) from at hits =
    let p = e.position in
    let first = from.0 in
    elim (cases_eq n p) [
      | inl same ↦
          let here : f n ≡ true = hits n (omega arith) (omega arith) ∙ has_first e es n same in
          let more = filter_own f (n + 1) xs es (subst (λ (k : ℕ). IsFrom (k + 1) es) (sym same) from.2)
          (shifted n (n + 1) x xs es (omega arith) (subst (λ (k : ℕ). IsFrom (k + 1) es) (sym same) from.2) at.1)
          (λ q low high. hits q (omega arith) (omega arith) ∙ has_later e es q (λ h. omega arith)) in
          rw here (ap (λ (d : Entry). d ∷ filter (λ (c : Entry). f c.position) (entries_from (n + 1) xs)) (first_is x xs n e same at.0) ∙ ap (λ (t : List Entry). e ∷ t) more)
      | inr differs ↦
          let here : f n ≡ false = hits n (omega arith) (omega arith) ∙ has_none p (e ∷ es) n (omega arith, from.1, from.2) (omega (arith, first)) in
          let low : n + 1 ≤ p = omega (arith, first) in
          rw here (filter_own f (n + 1) xs (e ∷ es) (low, from.1, from.2) (shifted n p x xs (e ∷ es) low (omega arith, from.1, from.2) at)
          (λ q least most. hits q (omega arith) (omega arith)))
    ]

-- ---- the rows lie apart

apart_lower : (m n : ℕ) (rows : List Row) (end : ℕ) → n ≤ m → AreApart m rows end → AreApart n rows end
apart_lower m n [] end low a = omega (arith, a)
apart_lower m n (row ∷ rows) end low a = let first = a.0 in (omega (arith, first), a.1)

gaps_apart : (id n : ℕ) (es : List Entry) → IsFrom n es → AreApart n (gaps id n es) (behind n es)
gaps_apart id n [] from = omega arith
gaps_apart id n (e ∷ es) from =
    let p = e.position in
    let R = gaps id (p + 1) es in
    let end = behind (p + 1) es in
    let first = from.0 in
    let more = gaps_apart id (p + 1) es from.2 in
    elim (cases_eq n p) [
      | inl same ↦ subst (λ (rows : List Row). AreApart n (rows ++ R) end) (sym (no_gap id n p same)) (apart_lower (p + 1) n R end (omega arith) more)
      | inr differs ↦ subst (λ (rows : List Row). AreApart n (rows ++ R) end) (sym (one_gap id n p differs)) (omega arith, apart_lower (p + 1) (n + (p - n)) R end (omega (arith, first)) more)
    ]

-- ---- how many positions there are

abbrev pub counts : List Row → ℕ
counts rows = sum_by (λ (row : Row). row.count) rows

gap_count : (id n p : ℕ) → n ≤ p → counts (gap id n p) ≡ p - n
gap_count id n p low = elim (cases_eq n p) [
  | inl same ↦ ap counts (no_gap id n p same) ∙ omega arith
  | inr differs ↦ ap counts (one_gap id n p differs) ∙ omega arith
]

pub gaps_count : (id n : ℕ) (es : List Entry) → IsFrom n es → (length es + counts (gaps id n es)) + n ≡ behind n es
gaps_count id n [] from = omega arith
gaps_count id n (e ∷ es) from =
    let p = e.position in
    let first = from.0 in
    let more = gaps_count id (p + 1) es from.2 in
    let parts = sum_by-append (λ (row : Row). row.count) (gap id n p) (gaps id (p + 1) es) in
    let own = gap_count id n p first in
    omega (arith, more, parts, own, first)

pub behind_up : (n : ℕ) (es : List Entry) → IsFrom n es → n ≤ behind n es
behind_up n [] from = omega arith
behind_up n (e ∷ es) from = let first = from.0 in let more = behind_up (e.position + 1) es from.2 in omega (arith, first, more)

behind_same : (e : Entry) (es : List Entry) → behind_last (e ∷ es) ≡ behind (e.position + 1) es
behind_same e [] = refl
behind_same e (f ∷ es) = behind_same f es

pub behind_is : (es : List Entry) → behind_last es ≡ behind 0 es
behind_is [] = refl
behind_is (e ∷ es) = behind_same e es

pub behind_within : (samples : List Sample) (n : ℕ) (es : List Entry) → n ≤ length samples → AreOf samples es → behind n es ≤ length samples
behind_within samples n [] low of = low
behind_within samples n (e ∷ es) low of = let here = slice_get_within samples e.position e.sample of.0 in behind_within samples (e.position + 1) es (omega (arith, here)) of.1

-- ---- together

get_front : {A : Type 0} (n p : ℕ) (xs : List A) → p < n → slice_get (take n xs) p ≡ slice_get xs p
get_front zero p xs high = absurd (omega arith)
get_front (suc n) p [] high = refl
get_front (suc n) zero (x ∷ xs) high = refl
get_front (suc n) (suc p) (x ∷ xs) high = get_front n p xs (omega arith)

front_length : {A : Type 0} (n : ℕ) (xs : List A) → length (take n xs) ≤ n
front_length zero xs = omega arith
front_length (suc n) [] = omega arith
front_length (suc n) (x ∷ xs) = let k = front_length n xs in omega (arith, k)

of_front : (samples : List Sample) (n end : ℕ) (es : List Entry) → IsFrom n es → behind n es ≤ end → AreOf samples es → AllByRecursion (λ e. slice_get (take end samples) (e.position - 0) ≡ Some e.sample) es
of_front samples n end [] from high of = tt
of_front samples n end (e ∷ es) from high of =
    let up = behind_up (e.position + 1) es from.2 in
    let same : e.position - 0 ≡ e.position = omega arith in
    (ap (slice_get (take end samples)) same ∙ get_front end e.position samples (omega (arith, up, high)) ∙ of.0, of_front samples (e.position + 1) end es from.2 high of.1)

twice : (b c : Bool) → b ≡ not c → not b ≡ c
twice b true e = ap not e
twice b false e = ap not e

pub entries_are : (samples : List Sample) (id : ℕ) (es : List Entry) → IsFrom 0 es → AreOf samples es → entries_without (gaps id 0 es) (take (behind 0 es) samples) ≡ es
entries_are samples id es from of =
    let end = behind 0 es in
    let rows = gaps id 0 es in
    let long = front_length end samples in
    filter_own (λ q. not (is_named rows q)) 0 (take end samples) es from (of_front samples 0 end es from (omega arith) of)
    (λ q low high. twice (is_named rows q) (has q es) (named id 0 es q from low (omega (arith, long, high))))

-- ---- with a row behind the last entry

-- the rows of what is missing between entries, and behind the last one up to an end
abbrev pub gaps_to : ℕ → ℕ → List Entry → ℕ → List Row
gaps_to id n es end = gaps id n es ++ gap id (behind n es) end

has_above : (n : ℕ) (es : List Entry) (q : ℕ) → IsFrom n es → behind n es ≤ q → has q es ≡ false
has_above n [] q from high = refl
has_above n (e ∷ es) q from high =
    let up = behind_up (e.position + 1) es from.2 in
    has_later e es q (λ h. omega (arith, up)) ∙ has_above (e.position + 1) es q from.2 high

named_to : (id n : ℕ) (es : List Entry) (end q : ℕ) → IsFrom n es → n ≤ q → q < end → is_named (gaps_to id n es end) q ≡ not (has q es)
named_to id n es end q from low high =
    let G = gaps id n es in
    named_append G (gap id (behind n es) end) q ∙ elim (cases_lt q (behind n es)) [
      | inl below ↦ ap (λ (b : Bool). is_named G q || b) (gap_low id (behind n es) end q below) ∙ or-false (is_named G q) ∙ named id n es q from low below
      | inr above ↦
          ap (λ (b : Bool). is_named G q || b) (gap_in id (behind n es) end q above high)
          ∙ or-true (is_named G q)
          ∙ sym (ap not (has_above n es q from above))
    ]

apart_append : (n m : ℕ) (xs ys : List Row) (end : ℕ) → AreApart n xs m → AreApart m ys end → AreApart n (xs ++ ys) end
apart_append n m [] ys end a b = apart_lower m n ys end a b
apart_append n m (row ∷ xs) ys end a b = (a.0, apart_append (row.first + row.count) m xs ys end a.1 b)

gap_apart : (id n p : ℕ) → n ≤ p → AreApart n (gap id n p) p
gap_apart id n p low = elim (cases_eq n p) [
  | inl same ↦ subst (λ (rows : List Row). AreApart n rows p) (sym (no_gap id n p same)) low
  | inr differs ↦ subst (λ (rows : List Row). AreApart n rows p) (sym (one_gap id n p differs)) (omega arith, omega arith)
]

pub to_apart : (id n : ℕ) (es : List Entry) (end : ℕ) → IsFrom n es → behind n es ≤ end → AreApart n (gaps_to id n es end) end
to_apart id n es end from low = apart_append n (behind n es) (gaps id n es) (gap id (behind n es) end) end (gaps_apart id n es from) (gap_apart id (behind n es) end low)

pub to_count : (id n : ℕ) (es : List Entry) (end : ℕ) → IsFrom n es → behind n es ≤ end → (length es + counts (gaps_to id n es end)) + n ≡ end
to_count id n es end from low =
    let first = gaps_count id n es from in
    let parts = sum_by-append (λ (row : Row). row.count) (gaps id n es) (gap id (behind n es) end) in
    let last = gap_count id (behind n es) end low in
    omega (arith, first, parts, last, low)

pub entries_to : (samples : List Sample) (id : ℕ) (es : List Entry) (end : ℕ) → IsFrom 0 es → behind 0 es ≤ end → AreOf samples es → entries_without (gaps_to id 0 es end) (take end samples) ≡ es
entries_to samples id es end from low of =
    let rows = gaps_to id 0 es end in
    let long = front_length end samples in
    filter_own (λ q. not (is_named rows q)) 0 (take end samples) es from (of_front samples 0 end es from low of)
    (λ q least most. twice (is_named rows q) (has q es) (named_to id 0 es end q from least (omega (arith, long, most))))
