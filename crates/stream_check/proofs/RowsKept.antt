-- Rows of the ledger, by what is kept of the streams.
use Rattle.std.proofs.Common.{◌≡◌, ℕ, ◌+◌, ◌&&◌, ◌||◌, ◌==◌, Bool, true, false, not, List, [], ◌∷◌, ◌++◌, map, max, Option, Some, None, is_some, nat_le, nat_eq, refl, sym, ap, ◌∙◌, arith, inl, inr, cond, if◌then◌else◌}
use Rattle.std.specs.List.{list_any, list_all, filter}
use Rattle.std.specs.Option.{option_map}
use Rattle.std.specs.Prelude.{sum_by}
use Rattle.std.proofs.lemmas.List.Elements.{filter-append}
use Rattle.std.proofs.lemmas.List.Sums.{sum_by-append}
use Rattle.std.proofs.lemmas.Bool.{cases_Bool, eqb-true, leb-true, le-leb, true≢false, or_left, or_right}
use Rattle.std.proofs.lemmas.Bool.Decides.{nat_tests}
use Rattle.xdf_model.specs.Sample.{Sample}
use Rattle.chunk_grammar.specs.Chunk.{Context, shape_of}
use Rattle.recording_model.specs.declared.row.Row.{Row}
use Rattle.recording_model.specs.Ledger.{row_in}
use Rattle.report_model.specs.GoodRows.{is_good, if_good, good_row, with_row, rows_behind, has_bad_row, lost_among}
use Rattle.stream_check.specs.declared.kept.Kept.{Kept}
use Rattle.stream_check.specs.Kept.{stilled, end_among, takes, rowed, kept_row, taken_row, kept_rows, bad_rows}
use Rattle.stream_check.specs.Survey.{kept_by, footer_view}

pub eq_sym : (a b : ℕ) → nat_eq a b ≡ nat_eq b a
eq_sym a b = grind (arith, nat_tests)

pub stilled_more : (n m : ℕ) → stilled (stilled n + m) ≡ stilled (n + m)
stilled_more n m = omega arith

pub stilled_again : (n : ℕ) → stilled (n + 0) ≡ stilled n
stilled_again n = omega arith

-- ---- the end and the count of one row more

max_swap : (a b c : ℕ) → max a (max b c) ≡ max b (max a c)
max_swap a b c = omega arith

end_push_same : (id : ℕ) (good : List Row) (r : Row) → nat_eq r.stream id ≡ true → end_among id (good ++ r ∷ []) ≡ max (r.first + r.count) (end_among id good)
end_push_same id [] r e = rw e refl
end_push_same id (g ∷ good) r e = elim (cases_Bool (nat_eq g.stream id)) [
  | inl t ↦ rw t (ap (max (g.first + g.count)) (end_push_same id good r e) ∙ max_swap (g.first + g.count) (r.first + r.count) (end_among id good))
  | inr f ↦ rw f (end_push_same id good r e)
]

end_push_other : (id : ℕ) (good : List Row) (r : Row) → nat_eq r.stream id ≡ false → end_among id (good ++ r ∷ []) ≡ end_among id good
end_push_other id [] r e = rw e refl
end_push_other id (g ∷ good) r e = ap (λ (m : ℕ). cond (nat_eq g.stream id) (max (g.first + g.count) m) m) (end_push_other id good r e)

lost_push : (id : ℕ) (good : List Row) (r : Row) → lost_among id (good ++ r ∷ []) ≡ lost_among id good + lost_among id (r ∷ [])
lost_push id good r =
    ap (sum_by (λ (row : Row). row.count)) (filter-append (λ (row : Row). row.stream == id) good (r ∷ []))
    ∙ sum_by-append (λ (row : Row). row.count) (filter (λ (row : Row). row.stream == id) good) (filter (λ (row : Row). row.stream == id) (r ∷ []))

lost_push_same : (id : ℕ) (good : List Row) (r : Row) → nat_eq r.stream id ≡ true → lost_among id (good ++ r ∷ []) ≡ lost_among id good + r.count
lost_push_same id good r e =
    let one : lost_among id (r ∷ []) ≡ r.count = rw e (omega arith) in
    lost_push id good r ∙ ap (λ (n : ℕ). lost_among id good + n) one

lost_push_other : (id : ℕ) (good : List Row) (r : Row) → nat_eq r.stream id ≡ false → lost_among id (good ++ r ∷ []) ≡ lost_among id good
lost_push_other id good r e =
    let none : lost_among id (r ∷ []) ≡ 0 = rw e refl in
    lost_push id good r ∙ ap (λ (n : ℕ). lost_among id good + n) none ∙ omega arith

-- ---- which rows are good

max_below : (a b n : ℕ) → (nat_le a n && nat_le b n) ≡ nat_le (max a b) n
max_below a b n = grind (arith, nat_tests)

none_below : (n : ℕ) → true ≡ nat_le 0 n
none_below n = sym (le-leb 0 n (omega arith))

-- no good row of the stream ends behind a place
below_all : (x n : ℕ) (good : List Row) → list_all (λ g. not (g.stream == x) || nat_le (g.first + g.count) n) good ≡ nat_le (end_among x good) n
below_all x n [] = none_below n
below_all x n (g ∷ good) = elim (cases_Bool (nat_eq g.stream x)) [
  | inl t ↦ rw t (ap (λ (b : Bool). nat_le (g.first + g.count) n && b) (below_all x n good) ∙ max_below (g.first + g.count) (end_among x good) n)
  | inr f ↦ rw f (below_all x n good)
]

or_same : (b r m : Bool) → r ≡ (m && b) → (b || r) ≡ b
or_same true r m h = refl
or_same false r true h = h
or_same false r false h = h

-- a test of each stream with an id is one of that id
pub any_among : (p : ℕ → Bool) (x : ℕ) (hs : List (ℕ × ℕ)) → list_any (λ h. x == h.1 && p h.1) hs ≡ (list_any (λ h. x == h.1) hs && p x)
any_among p x [] = refl
any_among p x (h ∷ hs) = elim (cases_Bool (nat_eq x h.1)) [
  | inl t ↦ rw t (ap (λ (b : Bool). b || list_any (λ h. x == h.1 && p h.1) hs) (ap p (sym (eqb-true x h.1 t))) ∙ or_same (p x) (list_any (λ h. x == h.1 && p h.1) hs) (list_any (λ h. x == h.1) hs) (any_among p x hs))
  | inr f ↦ rw f (any_among p x hs)
]

-- ---- a row that comes

-- the streams with these headers, of which so many samples and these footers came
module _ (n : ℕ → ℕ) (f : ℕ → Option (ℕ × List ℕ)) where
  any_takes : (good : List Row) (row : Row) (hs : List (ℕ × ℕ)) → list_any (takes row) (map (λ h. kept_by (n h.1) good (f h.1) h) hs) ≡ list_any (λ h. row.stream == h.1 && nat_le (end_among h.1 good) row.first) hs
  any_takes good row [] = refl
  any_takes good row (h ∷ hs) = ap (λ (b : Bool). (row.stream == h.1 && nat_le (end_among h.1 good) row.first) || b) (any_takes good row hs)

-- the context declares the streams with these headers
abbrev pub Declares : Context → List (ℕ × ℕ) → Type 0
Declares ctx hs = (x : ℕ) → list_any (λ h. x == h.1) hs ≡ is_some (shape_of ctx x)

good_is : (ctx : Context) (good : List Row) (row : Row) → is_good ctx good row ≡ (is_some (shape_of ctx row.stream) && nat_le (end_among row.stream good) row.first)
good_is ctx good row = ap (λ (b : Bool). is_some (shape_of ctx row.stream) && b) (below_all row.stream row.first good)

some_cond : (b : Bool) (row : Row) → is_some (if b then Some row else None) ≡ b
some_cond true row = refl
some_cond false row = refl

some_if : (ctx : Context) (good : List Row) (row : Row) → is_some (if_good ctx good (Some row)) ≡ is_good ctx good row
some_if ctx good row = some_cond (is_good ctx good row) row

pub taken_some : (n : ℕ → ℕ) (f : ℕ → Option (ℕ × List ℕ)) (ctx : Context) (good : List Row) (row : Row) (hs : List (ℕ × ℕ)) → Declares ctx hs
    → list_any (takes row) (map (λ h. kept_by (n h.1) good (f h.1) h) hs) ≡ is_some (if_good ctx good (Some row))
taken_some n f ctx good row hs declares =
    any_takes n f good row hs
    ∙ any_among (λ (x : ℕ). nat_le (end_among x good) row.first) row.stream hs
    ∙ ap (λ (b : Bool). b && nat_le (end_among row.stream good) row.first) (declares row.stream)
    ∙ sym (good_is ctx good row)
    ∙ sym (some_if ctx good row)

own_good : (n : ℕ) (f : Option (ℕ × List ℕ)) (good : List Row) (row : Row) (h : ℕ × ℕ) → nat_eq row.stream h.1 ≡ true → nat_le (end_among h.1 good) row.first ≡ true → rowed row (kept_by n good f h) ≡ kept_by n (good ++ row ∷ []) f h
own_good n f good row h t e =
    let lost = lost_push_same h.1 good row t in
    let end = end_push_same h.1 good row t in
    let low = leb-true (end_among h.1 good) row.first e in
    let sum : stilled (stilled (lost_among h.1 good) + row.count) ≡ stilled (lost_among h.1 (good ++ row ∷ [])) = stilled_more (lost_among h.1 good) row.count ∙ ap stilled (sym lost) in
    let last : row.first + row.count ≡ end_among h.1 (good ++ row ∷ []) = omega (arith, end, low) in
    rw (t, e) (ap (λ (l : ℕ). record { id = h.1; at = h.0; samples = stilled n; lost = l; end = row.first + row.count; footer = option_map footer_view f }) sum
    ∙ ap (λ (l : ℕ). record { id = h.1; at = h.0; samples = stilled n; lost = stilled (lost_among h.1 (good ++ row ∷ [])); end = l; footer = option_map footer_view f }) last)

own_bad : (n : ℕ) (f : Option (ℕ × List ℕ)) (good : List Row) (row : Row) (h : ℕ × ℕ) → nat_eq row.stream h.1 ≡ true → nat_le (end_among h.1 good) row.first ≡ false → rowed row (kept_by n good f h) ≡ kept_by n good f h
own_bad n f good row h t e = rw (t, e) refl

other_same : (n : ℕ) (f : Option (ℕ × List ℕ)) (good : List Row) (row : Row) (h : ℕ × ℕ) → nat_eq row.stream h.1 ≡ false → rowed row (kept_by n good f h) ≡ kept_by n good f h
other_same n f good row h g = rw g refl

other_push : (n : ℕ) (f : Option (ℕ × List ℕ)) (good : List Row) (row : Row) (h : ℕ × ℕ) → nat_eq row.stream h.1 ≡ false → kept_by n good f h ≡ kept_by n (good ++ row ∷ []) f h
other_push n f good row h g =
    ap (λ (l : ℕ). record { id = h.1; at = h.0; samples = stilled n; lost = stilled l; end = end_among h.1 good; footer = option_map footer_view f }) (sym (lost_push_other h.1 good row g))
    ∙ ap (λ (l : ℕ). record { id = h.1; at = h.0; samples = stilled n; lost = stilled (lost_among h.1 (good ++ row ∷ [])); end = l; footer = option_map footer_view f }) (sym (end_push_other h.1 good row g))

other : (n : ℕ) (f : Option (ℕ × List ℕ)) (good : List Row) (row : Row) (h : ℕ × ℕ) → nat_eq row.stream h.1 ≡ false → (b : Bool) → rowed row (kept_by n good f h) ≡ kept_by n (with_row good (if b then Some row else None)) f h
other n f good row h g true = other_same n f good row h g ∙ other_push n f good row h g
other n f good row h g false = other_same n f good row h g

own : (n : ℕ) (f : Option (ℕ × List ℕ)) (good : List Row) (row : Row) (h : ℕ × ℕ) (e : Bool) → nat_eq row.stream h.1 ≡ true → e ≡ nat_le (end_among row.stream good) row.first → (d : Bool) → d ≡ true
    → rowed row (kept_by n good f h) ≡ kept_by n (with_row good (if d && e then Some row else None)) f h
own n f good row h e t is false q = absurd cc
own n f good row h true t is true q = own_good n f good row h t (ap (λ (x : ℕ). nat_le (end_among x good) row.first) (sym (eqb-true row.stream h.1 t)) ∙ sym is)
own n f good row h false t is true q = own_bad n f good row h t (ap (λ (x : ℕ). nat_le (end_among x good) row.first) (sym (eqb-true row.stream h.1 t)) ∙ sym is)

-- one stream, by whether the row is its own
rowed_one : (n : ℕ) (f : Option (ℕ × List ℕ)) (good : List Row) (row : Row) (h : ℕ × ℕ) (d e : Bool) → e ≡ nat_le (end_among row.stream good) row.first → (nat_eq row.stream h.1 ≡ true → d ≡ true)
    → rowed row (kept_by n good f h) ≡ kept_by n (with_row good (if d && e then Some row else None)) f h
rowed_one n f good row h d e is known = elim (cases_Bool (nat_eq row.stream h.1)) [
  | inl t ↦ own n f good row h e t is d (known t)
  | inr g ↦ other n f good row h g (d && e)
]

rowed_all : (n : ℕ → ℕ) (f : ℕ → Option (ℕ × List ℕ)) (good : List Row) (row : Row) (hs : List (ℕ × ℕ)) (d e : Bool) → e ≡ nat_le (end_among row.stream good) row.first → (list_any (λ h. row.stream == h.1) hs ≡ true → d ≡ true)
    → map (rowed row) (map (λ h. kept_by (n h.1) good (f h.1) h) hs) ≡ map (λ h. kept_by (n h.1) (with_row good (if d && e then Some row else None)) (f h.1) h) hs
rowed_all n f good row [] d e is known = refl
rowed_all n f good row (h ∷ hs) d e is known =
    let head = rowed_one (n h.1) (f h.1) good row h d e is (λ t. known (or_left (row.stream == h.1) (list_any (λ h. row.stream == h.1) hs) t)) in
    let tail = rowed_all n f good row hs d e is (λ t. known (or_right (row.stream == h.1) (list_any (λ h. row.stream == h.1) hs) t)) in
    ap (λ (k : Kept). k ∷ map (rowed row) (map (λ h. kept_by (n h.1) good (f h.1) h) hs)) head
    ∙ ap (λ (l : List Kept). kept_by (n h.1) (with_row good (if d && e then Some row else None)) (f h.1) h ∷ l) tail

-- a row that comes adds to the good rows, where it is one
module _ (n : ℕ → ℕ) (f : ℕ → Option (ℕ × List ℕ)) (ctx : Context) (hs : List (ℕ × ℕ)) (declares : Declares ctx hs) where
  pub kept_one : (good : List Row) (r : Option Row) → kept_row r (map (λ h. kept_by (n h.1) good (f h.1) h) hs) ≡ map (λ h. kept_by (n h.1) (with_row good (if_good ctx good r)) (f h.1) h) hs
  kept_one good None = refl
  kept_one good (Some row) =
      rowed_all n f good row hs (is_some (shape_of ctx row.stream)) (nat_le (end_among row.stream good) row.first) refl (λ t. sym (declares row.stream) ∙ t)
      ∙ ap (λ (b : Bool). map (λ h. kept_by (n h.1) (with_row good (if b then Some row else None)) (f h.1) h) hs) (sym (good_is ctx good row))

  pub taken_one : (good : List Row) (r : Option Row) → taken_row r (map (λ h. kept_by (n h.1) good (f h.1) h) hs) ≡ is_some (if_good ctx good r)
  taken_one good None = refl
  taken_one good (Some row) = taken_some n f ctx good row hs declares

  pub kept_all : (good : List Row) (ss : List Sample) → kept_rows ss (map (λ h. kept_by (n h.1) good (f h.1) h) hs) ≡ map (λ h. kept_by (n h.1) (rows_behind ctx good ss) (f h.1) h) hs
  kept_all good [] = refl
  kept_all good (s ∷ ss) = ap (kept_rows ss) (kept_one good (row_in s)) ∙ kept_all (with_row good (good_row ctx good s)) ss

  pub bad_all : (good : List Row) (ss : List Sample) → bad_rows ss (map (λ h. kept_by (n h.1) good (f h.1) h) hs) ≡ has_bad_row ctx good ss
  bad_all good [] = refl
  bad_all good (s ∷ ss) =
      ap (λ (b : Bool). not b || bad_rows ss (kept_row (row_in s) (map (λ h. kept_by (n h.1) good (f h.1) h) hs))) (taken_one good (row_in s))
      ∙ ap (λ (l : List Kept). not (is_some (good_row ctx good s)) || bad_rows ss l) (kept_one good (row_in s))
      ∙ ap (λ (b : Bool). not (is_some (good_row ctx good s)) || b) (bad_all (with_row good (good_row ctx good s)) ss)

-- ---- streams without a header

named_not : (id : ℕ) (ctx : Context) (row : Row) → shape_of ctx id ≡ None → is_some (shape_of ctx row.stream) ≡ true → nat_eq row.stream id ≡ false
named_not id ctx row none some = elim (cases_Bool (nat_eq row.stream id)) [
  | inl t ↦ absurd (true≢false (sym some ∙ ap (λ (x : ℕ). is_some (shape_of ctx x)) (eqb-true row.stream id t) ∙ ap is_some none))
  | inr g ↦ g
]

same_with : (id : ℕ) (ctx : Context) (good : List Row) (row : Row) (d e : Bool) → shape_of ctx id ≡ None → d ≡ is_some (shape_of ctx row.stream)
    → (lost_among id (with_row good (if d && e then Some row else None)) ≡ lost_among id good) × (end_among id (with_row good (if d && e then Some row else None)) ≡ end_among id good)
same_with id ctx good row true true none is = let g = named_not id ctx row none (sym is) in (lost_push_other id good row g, end_push_other id good row g)
same_with id ctx good row true false none is = (refl, refl)
same_with id ctx good row false e none is = (refl, refl)

same_if : (id : ℕ) (ctx : Context) (good : List Row) (r : Option Row) → shape_of ctx id ≡ None
    → (lost_among id (with_row good (if_good ctx good r)) ≡ lost_among id good) × (end_among id (with_row good (if_good ctx good r)) ≡ end_among id good)
same_if id ctx good None none = (refl, refl)
same_if id ctx good (Some row) none = same_with id ctx good row (is_some (shape_of ctx row.stream)) (list_all (λ g. not (g.stream == row.stream) || nat_le (g.first + g.count) row.first) good) none refl

-- no good row names a stream that isn't declared
pub same_behind : (id : ℕ) (ctx : Context) (good : List Row) (ss : List Sample) → shape_of ctx id ≡ None
    → (lost_among id (rows_behind ctx good ss) ≡ lost_among id good) × (end_among id (rows_behind ctx good ss) ≡ end_among id good)
same_behind id ctx good [] none = (refl, refl)
same_behind id ctx good (s ∷ ss) none =
    let one = same_if id ctx good (row_in s) none in
    let all = same_behind id ctx (with_row good (good_row ctx good s)) ss none in
    (all.0 ∙ one.0, all.1 ∙ one.1)
