-- A push and a take of blocks, seen as those of samples.
use Rattle.std.proofs.Common.{◌≡◌, ℕ, ◌+◌, ◌-◌, ◌≤◌, ◌==◌, Bool, true, false, List, [], ◌∷◌, ◌++◌, length, map, drop, Option, None, Some, if◌then◌else◌, refl, sym, ap, ◌∙◌, subst, arith}
use Rattle.std.specs.List.{slice_get, AllByRecursion}
use Rattle.std.proofs.lemmas.List.{length-map, length-append, length-drop, map-append, drop-map}
use Rattle.std.proofs.lemmas.Bool.{eqb-true, eq-eqb}
use Rattle.xdf_model.specs.declared.types.Shape.{Shape}
use Rattle.xdf_model.specs.Sample.{Sample}
use Rattle.ring_model.specs.declared.entry.Entry.{Entry}
use Rattle.ring_model.specs.Ring.{RingState, RingRun}
use Rattle.inlet_ring.specs.Lone.{Lone, StandsFor, is_full, with_room, push_events, take_events}
use Rattle.inlet_ring.proofs.Steps.{push_steps, pushed, take_steps, taken_from}
use Rattle.sample_pool.specs.Block.{BlockValue}
use Rattle.sample_ring.specs.Seen.{sample_in, entry_in, mapped}

module _ {V : Type 0} (P : Entry V → Type 0) where
  all_drop : (xs : List (Entry V)) → AllByRecursion P xs → AllByRecursion P (drop 1 xs)
  all_drop [] all = tt
  all_drop (x ∷ xs) all = all.1

  all_room : (b : Bool) (xs : List (Entry V)) → AllByRecursion P xs → AllByRecursion P (if b then drop 1 xs else xs)
  all_room true xs all = all_drop xs all
  all_room false xs all = all

  all_more : (xs : List (Entry V)) (x : Entry V) → AllByRecursion P xs → P x → AllByRecursion P (xs ++ x ∷ [])
  all_more [] x all one = (one, tt)
  all_more (y ∷ xs) x all one = (all.0, all_more xs x all.1 one)

  pub all_pushed : (ring : Lone V) (x : Entry V) (new : List (Entry V)) → new ≡ with_room ring ++ x ∷ [] → AllByRecursion P ring.queue → P x → AllByRecursion P new
  all_pushed ring x new is all one = subst (λ (xs : List (Entry V)). AllByRecursion P xs) (sym is) (all_more (with_room ring) x (all_room (is_full ring) ring.queue all) one)

  pub all_taken : (xs : List (Entry V)) (o : Option (Entry V)) (x : Entry V) → o ≡ slice_get xs 0 → o ≡ Some x → AllByRecursion P xs → P x
  all_taken [] o x is some all = absurd cc
  all_taken (y ∷ xs) o x is some all = let same : y ≡ x = cc in subst P same all.0

module _ {V : Type 0} where
  full_if : (b : Bool) (o : Option (Entry V)) (e : Entry V) → Some e ≡ (if b then o else None) → b ≡ true
  full_if true o e is = refl
  full_if false o e is = absurd cc

  open_if : (b : Bool) (xs : List (Entry V)) → (if b then slice_get xs 0 else None) ≡ None → 1 ≤ length xs → b ≡ false
  open_if true [] is some = absurd (omega arith)
  open_if true (x ∷ xs) is some = absurd cc
  open_if false xs is some = refl

  -- a push that dropped one
  pub was_full : (ring : Lone V) (e : Entry V) → Some e ≡ (if is_full ring then slice_get ring.queue 0 else None) → length ring.queue ≡ ring.capacity
  was_full ring e is = eqb-true (length ring.queue) ring.capacity (full_if (is_full ring) (slice_get ring.queue 0) e is)

  not_full : (b : Bool) (ring : Lone V) → is_full ring ≡ b → (if b then slice_get ring.queue 0 else None) ≡ None → 1 ≤ ring.capacity → b ≡ false
  not_full false ring e is some = refl
  not_full true ring e is some = let full = eqb-true (length ring.queue) ring.capacity e in open_if true ring.queue is (omega arith)

  -- a push that dropped none
  pub was_open : (ring : Lone V) (o : Option (Entry V)) → o ≡ (if is_full ring then slice_get ring.queue 0 else None) → o ≡ None → 1 ≤ ring.capacity → is_full ring ≡ false
  was_open ring o is none some = not_full (is_full ring) ring refl (sym is ∙ none) some

  room_size : (b : Bool) (xs : List (Entry V)) → length (if b then drop 1 xs else xs) ≡ (if b then length xs - 1 else length xs)
  room_size true xs = length-drop 1 xs
  room_size false xs = refl

  pub size_full : (ring : Lone V) (x : Entry V) (new : List (Entry V)) → new ≡ with_room ring ++ x ∷ [] → length ring.queue ≡ ring.capacity → 1 ≤ ring.capacity → length new ≡ length ring.queue
  size_full ring x new is full some =
      let b : is_full ring ≡ true = eq-eqb (length ring.queue) ring.capacity full in
      let room : length (with_room ring) ≡ length ring.queue - 1 = ap (λ (c : Bool). length (if c then drop 1 ring.queue else ring.queue)) b ∙ length-drop 1 ring.queue in
      let long = length-append (with_room ring) (x ∷ []) in
      omega (arith, ap length is, room, long)

  pub size_open : (ring : Lone V) (x : Entry V) (new : List (Entry V)) → new ≡ with_room ring ++ x ∷ [] → is_full ring ≡ false → length new ≡ length ring.queue + 1
  size_open ring x new is b =
      let room : length (with_room ring) ≡ length ring.queue = ap (λ (c : Bool). length (if c then drop 1 ring.queue else ring.queue)) b in
      let long = length-append (with_room ring) (x ∷ []) in
      omega (arith, ap length is, room, long)

abbrev lone : List (Entry Sample) → ℕ → ℕ → Lone Sample
lone queue pushes capacity = record { queue = queue; pushes = pushes; capacity = capacity }

map_room : (f : Entry BlockValue → Entry Sample) (b : Bool) (xs : List (Entry BlockValue)) → map f (if b then drop 1 xs else xs) ≡ (if b then drop 1 (map f xs) else map f xs)
map_room f true xs = sym (drop-map f 1 xs)
map_room f false xs = refl

pub same_full : (shape : Shape) (ring : Lone BlockValue) → is_full (mapped shape ring) ≡ is_full ring
same_full shape ring = ap (λ (n : ℕ). n == ring.capacity) (length-map ring.queue (entry_in shape))

pub push_seen : (shape : Shape) (ring new : Lone BlockValue) (block : BlockValue) → 1 ≤ ring.capacity → length ring.queue ≤ ring.capacity
    → new.queue ≡ with_room ring ++ record { position = ring.pushes; value = block } ∷ [] → new.pushes ≡ ring.pushes + 1 → new.capacity ≡ ring.capacity
    → (s : RingState Sample) → StandsFor (mapped shape ring) s
    → (t : RingState Sample) × RingRun ring.capacity s (push_events (mapped shape ring) (sample_in shape block.bytes)) t × StandsFor (mapped shape new) t
push_seen shape ring new block some within queue pushes capacity s st =
    let f = entry_in shape in
    let e : Entry BlockValue = record { position = ring.pushes; value = block } in
    let v : Sample = sample_in shape block.bytes in
    let size = length-map ring.queue f in
    let room : map f (with_room ring) ≡ with_room (mapped shape ring) =
    map_room f (is_full ring) ring.queue ∙ ap (λ (b : Bool). if b then drop 1 (map f ring.queue) else map f ring.queue) (sym (same_full shape ring)) in
    let last : map f new.queue ≡ with_room (mapped shape ring) ++ f e ∷ [] =
    ap (map f) queue ∙ map-append f (with_room ring) (e ∷ []) ∙ ap (λ (q : List (Entry Sample)). q ++ f e ∷ []) room in
    let now : mapped shape new ≡ pushed (mapped shape ring) v =
    ap (λ (q : List (Entry Sample)). lone q new.pushes new.capacity) last
    ∙ ap (λ (n : ℕ). lone (with_room (mapped shape ring) ++ f e ∷ []) n new.capacity) pushes
    ∙ ap (λ (n : ℕ). lone (with_room (mapped shape ring) ++ f e ∷ []) (ring.pushes + 1) n) capacity in
    push_steps (mapped shape ring) (mapped shape new) v s st some (omega arith) now

pub take_seen : (shape : Shape) (ring new : Lone BlockValue) → new.queue ≡ drop 1 ring.queue → new.pushes ≡ ring.pushes → new.capacity ≡ ring.capacity
    → (s : RingState Sample) → StandsFor (mapped shape ring) s
    → (t : RingState Sample) × RingRun ring.capacity s (take_events (mapped shape ring).queue) t × StandsFor (mapped shape new) t
take_seen shape ring new queue pushes capacity s st =
    let f = entry_in shape in
    let rest : map f new.queue ≡ drop 1 (map f ring.queue) = ap (map f) queue ∙ sym (drop-map f 1 ring.queue) in
    let now : mapped shape new ≡ taken_from (mapped shape ring) =
    ap (λ (q : List (Entry Sample)). lone q new.pushes new.capacity) rest
    ∙ ap (λ (n : ℕ). lone (drop 1 (map f ring.queue)) n new.capacity) pushes
    ∙ ap (λ (n : ℕ). lone (drop 1 (map f ring.queue)) ring.pushes n) capacity in
    take_steps (mapped shape ring) (mapped shape new) s st now
