-- What a ring holds, gave and dropped are together what was put, each at its position.
use Rattle.std.proofs.Common.{◌≡◌, ◌≢◌, ℕ, zero, suc, ◌+◌, ◌-◌, ◌<◌, ◌≤◌, ◌==◌, ◌||◌, Bool, true, false, not, List, [], ◌∷◌, ◌++◌, length, map, take, drop, filter, Some, slice_get, refl, sym, ap, ◌∙◌, subst, arith, append_assoc, length-append, length-drop}
use Rattle.std.specs.List.{AllByRecursion, list_any}
use Rattle.std.proofs.lemmas.Bool.{eq-eqb, ne_eqb}
use Rattle.std.proofs.lemmas.List.{append-nil, map-append}
use Rattle.std.proofs.lemmas.List.Elements.{filter-append}
use Rattle.std.proofs.lemmas.List.Folds.{list_any-append}
use Rattle.ring_model.specs.declared.entry.Entry.{Entry}
use Rattle.ring_model.specs.Ring.{RingState, RingEvent, Put, Drop, Take, new_ring, after, RingStep, RingRun, IsReached}
use Rattle.recording_model.specs.Batch.{IsRising}
use Rattle.loss_model.specs.Loss.{positions_below}

-- one of the positions is q
abbrev pub among : ℕ → List ℕ → Bool
among q ns = list_any (λ (n : ℕ). q == n) ns

-- ---- the positions below a number

pub filter_below : (f g : ℕ → Bool) (n : ℕ) → ((p : ℕ) → p < n → f p ≡ g p) → filter f (positions_below n) ≡ filter g (positions_below n)
filter_below f g zero same = refl
filter_below f g (suc n) same =
    let here : f n ≡ g n = same n (omega arith) in
    let last : filter f (n ∷ []) ≡ filter g (n ∷ []) = rw here refl in
    filter-append f (positions_below n) (n ∷ [])
    ∙ ap (λ (t : List ℕ). t ++ filter f (n ∷ [])) (filter_below f g n (λ p low. same p (omega arith)))
    ∙ ap (λ (t : List ℕ). filter g (positions_below n) ++ t) last
    ∙ sym (filter-append g (positions_below n) (n ∷ []))

among_more : (q n : ℕ) (ns : List ℕ) → q ≢ n → among q (ns ++ n ∷ []) ≡ among q ns
among_more q n ns differs =
    list_any-append (λ (m : ℕ). q == m) ns (n ∷ []) ∙ (let test = ne_eqb q n differs in rw test (last (among q ns)))
  where
    last : (b : Bool) → (b || false) ≡ b
    last true = refl
    last false = refl

among_last : (q : ℕ) (ns : List ℕ) → among q (ns ++ q ∷ []) ≡ true
among_last q ns =
    list_any-append (λ (m : ℕ). q == m) ns (q ∷ []) ∙ (let test = eq-eqb q q refl in rw test (last (among q ns)))
  where
    last : (b : Bool) → (b || true) ≡ true
    last true = refl
    last false = refl

among_none : (q : ℕ) (ns : List ℕ) → AllByRecursion (λ n. n < q) ns → among q ns ≡ false
among_none q [] below = refl
among_none q (n ∷ ns) below =
    let here = below.0 in
    ap (λ (b : Bool). b || among q ns) (ne_eqb q n (λ e. omega (arith, here))) ∙ among_none q ns below.1

below_more : (n : ℕ) (ns : List ℕ) → AllByRecursion (λ m. m < n) ns → AllByRecursion (λ m. m < n + 1) (ns ++ n ∷ [])
below_more n [] below = (omega arith, tt)
below_more n (m ∷ ns) below = (let here = below.0 in omega (arith, here), below_more n ns below.1)

below_up : (n : ℕ) (ns : List ℕ) → AllByRecursion (λ m. m < n) ns → AllByRecursion (λ m. m < n + 1) ns
below_up n [] below = tt
below_up n (m ∷ ns) below = (let here = below.0 in omega (arith, here), below_up n ns below.1)

-- the positions that aren't among these
abbrev rest_of : List ℕ → ℕ → List ℕ
rest_of ns n = filter (λ q. not (among q ns)) (positions_below n)

rest_split : (ns : List ℕ) (n : ℕ) → rest_of ns (n + 1) ≡ rest_of ns n ++ filter (λ q. not (among q ns)) (n ∷ [])
rest_split ns n =
    let one : n + 1 ≡ suc n = omega arith in
    ap (rest_of ns) one ∙ filter-append (λ q. not (among q ns)) (positions_below n) (n ∷ [])

-- the next position is one of them
rest_given : (ns : List ℕ) (n : ℕ) → rest_of (ns ++ n ∷ []) (n + 1) ≡ rest_of ns n
rest_given ns n =
    rest_split (ns ++ n ∷ []) n
    ∙ (let test = among_last n ns in rw test (append-nil (rest_of (ns ++ n ∷ []) n)))
    ∙ filter_below (λ q. not (among q (ns ++ n ∷ []))) (λ q. not (among q ns)) n (λ p low. ap not (among_more p n ns (λ e. omega arith)))

-- it isn't
rest_left : (ns : List ℕ) (n : ℕ) → AllByRecursion (λ m. m < n) ns → rest_of ns (n + 1) ≡ rest_of ns n ++ n ∷ []
rest_left ns n below = rest_split ns n ∙ (let test = among_none n ns below in rw test refl)

rising_more : (n : ℕ) (ns : List ℕ) → IsRising ns → AllByRecursion (λ m. m < n) ns → IsRising (ns ++ n ∷ [])
rising_more n [] rises below = tt
rising_more n (m ∷ []) rises below = (below.0, tt)
rising_more n (m ∷ k ∷ ns) rises below = (rises.0, rising_more n (k ∷ ns) rises.1 below.1)

module _ {V : Type 0} where
  -- values at consecutive positions from n on
  abbrev pub values_from : ℕ → List V → List (Entry V)
  values_from n [] = []
  values_from n (v ∷ vs) = record { position = n; value = v } ∷ values_from (n + 1) vs

  -- each entry has the value that was put at its position
  abbrev pub ArePut : List V → List (Entry V) → Type 0
  ArePut puts es = AllByRecursion (λ e. slice_get puts e.position ≡ Some e.value) es

  abbrev pub places_of : List (Entry V) → List ℕ
  places_of es = map (λ (e : Entry V). e.position) es

  values_length : (n : ℕ) (vs : List V) → length (values_from n vs) ≡ length vs
  values_length n [] = refl
  values_length n (v ∷ vs) = ap suc (values_length (n + 1) vs)

  values_more : (n : ℕ) (vs : List V) (v : V) → values_from n (vs ++ v ∷ []) ≡ values_from n vs ++ record { position = n + length vs; value = v } ∷ []
  values_more n [] v = ap (λ (m : ℕ). let e : Entry V = record { position = m; value = v } in e ∷ []) (omega arith)
  values_more n (w ∷ vs) v =
      let head : Entry V = record { position = n; value = w } in
      let shift : (n + 1) + length vs ≡ n + suc (length vs) = omega arith in
      ap (λ (es : List (Entry V)). head ∷ es) (values_more (n + 1) vs v ∙ ap (λ (m : ℕ). let e : Entry V = record { position = m; value = v } in values_from (n + 1) vs ++ e ∷ []) shift)

  get_more : (puts : List V) (v w : V) (p : ℕ) → slice_get puts p ≡ Some w → slice_get (puts ++ v ∷ []) p ≡ Some w
  get_more [] v w p e = absurd (cc)
  get_more (u ∷ puts) v w zero e = e
  get_more (u ∷ puts) v w (suc p) e = get_more puts v w p e

  put_more : (puts : List V) (v : V) (es : List (Entry V)) → ArePut puts es → ArePut (puts ++ v ∷ []) es
  put_more puts v [] are = tt
  put_more puts v (e ∷ es) are = (get_more puts v e.value e.position are.0, put_more puts v es are.1)

  put_joined : (puts : List V) (es : List (Entry V)) (e : Entry V) → ArePut puts es → slice_get puts e.position ≡ Some e.value → ArePut puts (es ++ e ∷ [])
  put_joined puts [] e are own = (own, tt)
  put_joined puts (d ∷ es) e are own = (are.0, put_joined puts es e are.1 own)

  drop_front : (n : ℕ) (xs ys : List V) → n ≤ length xs → drop n (xs ++ ys) ≡ drop n xs ++ ys
  drop_front zero xs ys le = refl
  drop_front (suc n) [] ys le = absurd (omega arith)
  drop_front (suc n) (x ∷ xs) ys le = drop_front n xs ys (omega arith)

  -- the value at a position, and those behind it
  record At (n : ℕ) (puts : List V) : Type 0 where
    value : V
    split : drop n puts ≡ value ∷ drop (n + 1) puts
    own : slice_get puts n ≡ Some value

  at : (n : ℕ) (puts : List V) → n < length puts → At n puts
  at n [] low = absurd (omega arith)
  at zero (v ∷ puts) low = record { value = v; split = ap (λ (m : ℕ). v ∷ drop m (v ∷ puts)) (let one : 1 ≡ zero + 1 = omega arith in one); own = refl }
  at (suc n) (v ∷ puts) low =
      let more = at n puts (omega arith) in
      let one : suc (n + 1) ≡ suc n + 1 = omega arith in
      record { value = more.value; split = more.split ∙ ap (λ (m : ℕ). more.value ∷ drop m (v ∷ puts)) one; own = more.own }

  values_put : (puts : List V) (n : ℕ) (vs : List V) → vs ≡ drop n puts → ArePut puts (values_from n vs)
  values_put puts n [] e = tt
  values_put puts n (v ∷ vs) e =
      let long : suc (length vs) ≡ length puts - n = ap length e ∙ length-drop n puts in
      let here = at n puts (omega (arith, long)) in
      let both = e ∙ here.split in
      let own : v ≡ here.value = cc in
      let more : vs ≡ drop (n + 1) puts = cc in
      (here.own ∙ ap (λ (w : V). Some w) (sym own), values_put puts (n + 1) vs more)

  -- what holds of a ring at any moment: its queue are the last values, from a position on; below that one each position was given or dropped
  pub record IsKept (s : RingState V) : Type 0 where
    pub front : ℕ
    pub queue : s.queue ≡ values_from front (drop front s.puts)
    pub within : front ≤ length s.puts
    pub taken : ArePut s.puts s.taken
    pub dropped : ArePut s.puts s.dropped
    pub below : AllByRecursion (λ n. n < front) (places_of s.taken)
    pub rises : IsRising (places_of s.taken)
    pub rest : places_of s.dropped ≡ filter (λ q. not (among q (places_of s.taken))) (positions_below front)
    pub count : length s.taken + length s.dropped ≡ front

  -- the oldest entry of a queue that isn't empty
  record IsOldest (s : RingState V) (front : ℕ) : Type 0 where
    value : V
    some : front < length s.puts
    own : slice_get s.puts front ≡ Some value
    first : take 1 s.queue ≡ record { position = front; value = value } ∷ []
    more : drop 1 s.queue ≡ values_from (front + 1) (drop (front + 1) s.puts)

  oldest : (s : RingState V) (k : IsKept s) → s.queue ≢ [] → IsOldest s k.front
  oldest s k some =
      let n = k.front in
      let long : length s.queue ≡ length s.puts - n = ap length k.queue ∙ values_length n (drop n s.puts) ∙ length-drop n s.puts in
      let has : 1 ≤ length s.queue = one_in s.queue some in
      let low : n < length s.puts = omega (arith, long, has) in
      let here = at n s.puts low in
      let first : Entry V = record { position = n; value = here.value } in
      let is : s.queue ≡ first ∷ values_from (n + 1) (drop (n + 1) s.puts) = k.queue ∙ ap (values_from n) here.split in
      record { value = here.value; some = low; own = here.own; first = ap (take 1) is; more = ap (drop 1) is }
    where
      one_in : (xs : List (Entry V)) → xs ≢ [] → 1 ≤ length xs
      one_in [] some = absurd (some refl)
      one_in (x ∷ xs) some = omega arith

  joined_places : (es : List (Entry V)) (e : Entry V) → places_of (es ++ e ∷ []) ≡ places_of es ++ e.position ∷ []
  joined_places es e = map-append (λ (x : Entry V). x.position) es (e ∷ [])

  kept_put : (capacity : ℕ) (s : RingState V) (v : V) → IsKept s → IsKept (after capacity s (Put v))
  kept_put capacity s v k =
      let n = k.front in
      let long = length-drop n s.puts in
      let low = k.within in
      let place : n + length (drop n s.puts) ≡ length s.puts = omega (arith, long, low) in
      let new : ℕ → List (Entry V) = λ m. record { position = m; value = v } ∷ [] in
      let more = length-append s.puts (v ∷ []) in
      record {
        front = n;
        queue =
            ap (λ (es : List (Entry V)). es ++ new (length s.puts)) k.queue
            ∙ ap (λ (m : ℕ). values_from n (drop n s.puts) ++ new m) (sym place)
            ∙ sym (ap (values_from n) (drop_front n s.puts (v ∷ []) low) ∙ values_more n (drop n s.puts) v);
        within = omega (arith, more, low);
        taken = put_more s.puts v s.taken k.taken;
        dropped = put_more s.puts v s.dropped k.dropped;
        below = k.below;
        rises = k.rises;
        rest = k.rest;
        count = k.count;
      }

  kept_drop : (capacity : ℕ) (s : RingState V) → IsKept s → s.queue ≢ [] → IsKept (after capacity s Drop)
  kept_drop capacity s k some =
      let n = k.front in
      let o = oldest s k some in
      let e : Entry V = record { position = n; value = o.value } in
      let now : s.dropped ++ take 1 s.queue ≡ s.dropped ++ e ∷ [] = ap (λ (es : List (Entry V)). s.dropped ++ es) o.first in
      let long = ap length now in
      let more = length-append s.dropped (e ∷ []) in
      let count = k.count in
      record {
        front = n + 1;
        queue = o.more;
        within = let low = o.some in omega (arith, low);
        taken = k.taken;
        dropped = subst (λ (es : List (Entry V)). ArePut s.puts es) (sym now) (put_joined s.puts s.dropped e k.dropped o.own);
        below = below_up n (places_of s.taken) k.below;
        rises = k.rises;
        rest =
            ap places_of now ∙ joined_places s.dropped e ∙ ap (λ (ns : List ℕ). ns ++ n ∷ []) k.rest
            ∙ sym (rest_left (places_of s.taken) n k.below);
        count = omega (arith, long, more, count);
      }

  kept_take : (capacity : ℕ) (s : RingState V) → IsKept s → s.queue ≢ [] → IsKept (after capacity s Take)
  kept_take capacity s k some =
      let n = k.front in
      let o = oldest s k some in
      let e : Entry V = record { position = n; value = o.value } in
      let now : s.taken ++ take 1 s.queue ≡ s.taken ++ e ∷ [] = ap (λ (es : List (Entry V)). s.taken ++ es) o.first in
      let places = ap places_of now ∙ joined_places s.taken e in
      let long = ap length now in
      let more = length-append s.taken (e ∷ []) in
      let count = k.count in
      record {
        front = n + 1;
        queue = o.more;
        within = let low = o.some in omega (arith, low);
        taken = subst (λ (es : List (Entry V)). ArePut s.puts es) (sym now) (put_joined s.puts s.taken e k.taken o.own);
        dropped = k.dropped;
        below = subst (λ (ns : List ℕ). AllByRecursion (λ m. m < n + 1) ns) (sym places) (below_more n (places_of s.taken) k.below);
        rises = subst IsRising (sym places) (rising_more n (places_of s.taken) k.rises k.below);
        rest = k.rest ∙ sym (ap (λ (ns : List ℕ). rest_of ns (n + 1)) places ∙ rest_given (places_of s.taken) n);
        count = omega (arith, long, more, count);
      }

  kept_step : (capacity : ℕ) (s : RingState V) (event : RingEvent V) (t : RingState V) → IsKept s → RingStep capacity s event t → IsKept t
  kept_step capacity s (Put v) t k step = subst (λ (u : RingState V). IsKept u) (sym step.change) (kept_put capacity s v k)
  kept_step capacity s Drop t k step = subst (λ (u : RingState V). IsKept u) (sym step.change) (kept_drop capacity s k step.allowed.1)
  kept_step capacity s Take t k step = subst (λ (u : RingState V). IsKept u) (sym step.change) (kept_take capacity s k step.allowed)

  kept_run : (capacity : ℕ) (events : List (RingEvent V)) (s t : RingState V) → IsKept s → RingRun capacity s events t → IsKept t
  kept_run capacity [] s t k run = subst (λ (u : RingState V). IsKept u) (sym run) k
  kept_run capacity (event ∷ more) s t k run = kept_run capacity more run.0 t (kept_step capacity s event run.0 k run.1) run.2

  kept_first : IsKept new_ring
  kept_first = record { front = 0; queue = refl; within = omega arith; taken = tt; dropped = tt; below = tt; rises = tt; rest = refl; count = omega arith }

  pub kept_reached : (capacity : ℕ) (s : RingState V) → IsReached capacity s → IsKept s
  kept_reached capacity s r = kept_run capacity r.events new_ring s kept_first r.run

  -- nothing is lost but what is dropped
  pub all_put : (capacity : ℕ) (s : RingState V) → IsReached capacity s
      → ArePut s.puts s.taken × ArePut s.puts s.dropped × ArePut s.puts s.queue × ((length s.taken + length s.dropped) + length s.queue ≡ length s.puts)
  all_put capacity s r =
      let k = kept_reached capacity s r in
      let n = k.front in
      let long : length s.queue ≡ length s.puts - n = ap length k.queue ∙ values_length n (drop n s.puts) ∙ length-drop n s.puts in
      let low = k.within in
      let count = k.count in (
        k.taken,
        k.dropped,
        subst (λ (es : List (Entry V)). ArePut s.puts es) (sym k.queue) (values_put s.puts n (drop n s.puts) refl),
        omega (arith, long, low, count),
      )

  -- of an empty queue the front is behind all that was put
  pub front_last : (s : RingState V) (k : IsKept s) → s.queue ≡ [] → k.front ≡ length s.puts
  front_last s k none =
      let n = k.front in
      let long : length s.queue ≡ length s.puts - n = ap length k.queue ∙ values_length n (drop n s.puts) ∙ length-drop n s.puts in
      let zero_is = ap length none in
      let low = k.within in
      omega (arith, long, zero_is, low)

  -- ---- the order

  rest_queue : (ns : List ℕ) (n : ℕ) (vs : List V) → AllByRecursion (λ m. m < n) ns → rest_of ns n ++ places_of (values_from n vs) ≡ rest_of ns (n + length vs)
  rest_queue ns n [] below = append-nil (rest_of ns n) ∙ ap (rest_of ns) (let none : n ≡ n + 0 = omega arith in none)
  rest_queue ns n (v ∷ vs) below =
      let rest = places_of (values_from (n + 1) vs) in
      let same : (n + 1) + length vs ≡ n + suc (length vs) = omega arith in
      sym (append_assoc (rest_of ns n) (n ∷ []) rest)
      ∙ ap (λ (t : List ℕ). t ++ rest) (sym (rest_left ns n below))
      ∙ rest_queue ns (n + 1) vs (below_up n ns below)
      ∙ ap (rest_of ns) same

  among_is : (q : ℕ) (es : List (Entry V)) → among q (places_of es) ≡ list_any (λ (e : Entry V). q == e.position) es
  among_is q [] = refl
  among_is q (e ∷ es) = ap (λ (b : Bool). (q == e.position) || b) (among_is q es)

  pub in_order : (capacity : ℕ) (s : RingState V) → IsReached capacity s
      → IsRising (places_of s.taken) × (places_of (s.dropped ++ s.queue) ≡ filter (λ n. not (list_any (λ (e : Entry V). n == e.position) s.taken)) (positions_below (length s.puts)))
  in_order capacity s r =
      let k = kept_reached capacity s r in
      let n = k.front in
      let T = places_of s.taken in
      let vs = drop n s.puts in
      let long = length-drop n s.puts in
      let low = k.within in
      let end : n + length vs ≡ length s.puts = omega (arith, long, low) in (
        k.rises,
        map-append (λ (e : Entry V). e.position) s.dropped s.queue
            ∙ ap (λ (t : List ℕ). t ++ places_of s.queue) k.rest
            ∙ ap (λ (es : List (Entry V)). rest_of T n ++ places_of es) k.queue
            ∙ rest_queue T n vs k.below
            ∙ ap (rest_of T) end
            ∙ filter_below (λ q. not (among q T)) (λ q. not (list_any (λ (e : Entry V). q == e.position) s.taken)) (length s.puts) (λ p below. ap not (among_is p s.taken)),
      )
