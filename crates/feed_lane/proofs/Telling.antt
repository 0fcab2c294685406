-- Blocks in a ring, told as the samples whose texts they hold.
use Rattle.std.proofs.Common.{◌≡◌, ◌≢◌, ℕ, ◌+◌, ◌-◌, ◌<◌, ◌≤◌, List, [], ◌∷◌, ◌++◌, length, map, take, drop, Option, Some, refl, sym, ap, ◌∙◌, subst, arith}
use Rattle.std.specs.Prelude.{slice_get}
use Rattle.std.specs.List.{AllByRecursion}
use Rattle.std.proofs.lemmas.List.{length-map, map-append, drop-map}
use Rattle.xdf_model.specs.declared.types.Shape.{Shape}
use Rattle.xdf_model.specs.Sample.{Sample}
use Rattle.ring_model.specs.declared.entry.Entry.{Entry as RingEntry}
use Rattle.ring_model.specs.Ring.{RingState, RingEvent, Put, Drop, Take, IsAllowed, after, new_ring, RingStep, RingRun, IsReached}
use Rattle.loss_model.specs.Loss.{behind_last}
use Rattle.sample_pool.specs.Block.{BlockValue}
use Rattle.sample_ring.specs.Seen.{sample_in, entry_in, IsFull}
use Rattle.thread_ring.specs.Rule.{Meets}
use Rattle.run_model.specs.Rings.{ring_entry}
use Rattle.run_model.specs.Fitting.{IsFitting}
use Rattle.run_model.proofs.Lists.{cons_of}
use Rattle.feed_lane.specs.declared.terms.FullBlocks.{FullBlocks}
use Rattle.feed_lane.specs.declared.terms.FittingSamples.{FittingSamples}
use Rattle.thread_ring.specs.Ends.{AreFew}
use Rattle.feed_lane.specs.Lanes.{LastView}
use Rattle.feed_lane.specs.Kinds.{longest, block_terms, text_terms, told_by, told_state}

-- ---- the position behind what was taken

pub behind_below : (xs : List (RingEntry Sample)) (n : ℕ) → AllByRecursion (λ f. f.position < n) xs → behind_last (map ring_entry xs) ≤ n
behind_below [] n all = omega arith
behind_below (x ∷ []) n all = let low = all.0 in omega (arith, low)
behind_below (x ∷ y ∷ xs) n all = behind_below (y ∷ xs) n all.1

pub behind_told : (shape : Shape) (xs : List (RingEntry BlockValue)) (n : ℕ) → AllByRecursion (λ f. f.position < n) xs → behind_last (map ring_entry (map (entry_in shape) xs)) ≤ n
behind_told shape [] n all = omega arith
behind_told shape (x ∷ []) n all = let low = all.0 in omega (arith, low)
behind_told shape (x ∷ y ∷ xs) n all = behind_told shape (y ∷ xs) n all.1

-- ---- what the terms of a ring say

pub meets_full : (terms : Option FullBlocks) (shape : Shape) (b : BlockValue) → terms ≡ block_terms shape → Meets (λ (t : FullBlocks) (x : BlockValue). IsFull t.shape t.size x) terms b → IsFull shape (longest shape) b
meets_full terms shape b is meets = subst (λ (t : Option FullBlocks). Meets (λ (f : FullBlocks) (x : BlockValue). IsFull f.shape f.size x) t b) is meets

pub full_meets : (terms : Option FullBlocks) (shape : Shape) (b : BlockValue) → terms ≡ block_terms shape → IsFull shape (longest shape) b → Meets (λ (t : FullBlocks) (x : BlockValue). IsFull t.shape t.size x) terms b
full_meets terms shape b is full = subst (λ (t : Option FullBlocks). Meets (λ (f : FullBlocks) (x : BlockValue). IsFull f.shape f.size x) t b) (sym is) full

pub meets_fits : (terms : Option FittingSamples) (shape : Shape) (s : Sample) → terms ≡ text_terms shape → Meets (λ (t : FittingSamples) (v : Sample). IsFitting t.shape v) terms s → IsFitting shape s
meets_fits terms shape s is meets = subst (λ (t : Option FittingSamples). Meets (λ (f : FittingSamples) (v : Sample). IsFitting f.shape v) t s) is meets

-- ---- a take

-- what a take of both ends together does
pub took : {V : Type 0} (capacity : ℕ) (old new : RingState V) (e : RingEntry V) → RingStep capacity old Take new → Some e ≡ slice_get old.queue 0
    → (new.taken ≡ old.taken ++ e ∷ []) × (new.puts ≡ old.puts) × (new.dropped ≡ old.dropped)
took {V} capacity old new e step is =
    let one : take 1 old.queue ≡ e ∷ [] = ap (take 1) (cons_of old.queue e (sym is)) in (
      ap (λ (s : RingState V). s.taken) step.change ∙ ap (λ (l : List (RingEntry V)). old.taken ++ l) one,
      ap (λ (s : RingState V). s.puts) step.change,
      ap (λ (s : RingState V). s.dropped) step.change,
    )

-- ---- a state that is reached

abbrev told_event : Shape → RingEvent BlockValue → RingEvent Sample
told_event shape (Put b) = Put (sample_in shape b.bytes)
told_event shape Drop = Drop
told_event shape Take = Take

take_told : (shape : Shape) (q : List (RingEntry BlockValue)) → map (entry_in shape) (take 1 q) ≡ take 1 (map (entry_in shape) q)
take_told shape [] = refl
take_told shape (e ∷ q) = refl

some_told : (shape : Shape) (q : List (RingEntry BlockValue)) → q ≢ [] → map (entry_in shape) q ≢ []
some_told shape [] some = absurd (some refl)
some_told shape (e ∷ q) some = λ h. absurd cc

abbrev state : List Sample → List (RingEntry Sample) → List (RingEntry Sample) → List (RingEntry Sample) → ℕ → RingState Sample
state puts queue taken dropped level = record { puts = puts; queue = queue; taken = taken; dropped = dropped; level = level }

allowed_told : (shape : Shape) (capacity : ℕ) (s : RingState BlockValue) (event : RingEvent BlockValue) → IsAllowed capacity s event → IsAllowed capacity (told_state shape s) (told_event shape event)
allowed_told shape capacity s (Put b) can = let long = length-map s.queue (entry_in shape) in omega (arith, can, long)
allowed_told shape capacity s Drop can = (can.0, some_told shape s.queue can.1)
allowed_told shape capacity s Take can = some_told shape s.queue can

after_told : (shape : Shape) (capacity : ℕ) (s : RingState BlockValue) (event : RingEvent BlockValue) → told_state shape (after capacity s event) ≡ after capacity (told_state shape s) (told_event shape event)
after_told shape capacity s (Put b) =
    let f = entry_in shape in
    let F : BlockValue → Sample = λ x. sample_in shape x.bytes in
    let one : RingEntry BlockValue = record { position = length s.puts; value = b } in
    let puts : told_by shape (s.puts ++ b ∷ []) ≡ told_by shape s.puts ++ F b ∷ [] = map-append F s.puts (b ∷ []) in
    let at : length s.puts ≡ length (told_by shape s.puts) = sym (length-map s.puts F) in
    let queue : map f (s.queue ++ one ∷ []) ≡ map f s.queue ++ record { position = length (told_by shape s.puts); value = F b } ∷ [] =
    map-append f s.queue (one ∷ []) ∙ ap (λ (n : ℕ). map f s.queue ++ record { position = n; value = F b } ∷ []) at in
    let level : length s.queue + 1 ≡ length (map f s.queue) + 1 = ap (λ (n : ℕ). n + 1) (sym (length-map s.queue f)) in
    ap (λ (l : List Sample). state l (map f (s.queue ++ one ∷ [])) (map f s.taken) (map f s.dropped) (length s.queue + 1)) puts
    ∙ ap (λ (q : List (RingEntry Sample)). state (told_by shape s.puts ++ F b ∷ []) q (map f s.taken) (map f s.dropped) (length s.queue + 1)) queue
    ∙ ap (λ (n : ℕ). state (told_by shape s.puts ++ F b ∷ []) (map f s.queue ++ record { position = length (told_by shape s.puts); value = F b } ∷ []) (map f s.taken) (map f s.dropped) n) level
after_told shape capacity s Drop =
    let f = entry_in shape in
    let puts = told_by shape s.puts in
    let rest : map f (drop 1 s.queue) ≡ drop 1 (map f s.queue) = sym (drop-map f 1 s.queue) in
    let gone : map f (s.dropped ++ take 1 s.queue) ≡ map f s.dropped ++ take 1 (map f s.queue) =
    map-append f s.dropped (take 1 s.queue) ∙ ap (λ (l : List (RingEntry Sample)). map f s.dropped ++ l) (take_told shape s.queue) in
    ap (λ (q : List (RingEntry Sample)). state puts q (map f s.taken) (map f (s.dropped ++ take 1 s.queue)) (capacity - 1)) rest
    ∙ ap (λ (d : List (RingEntry Sample)). state puts (drop 1 (map f s.queue)) (map f s.taken) d (capacity - 1)) gone
after_told shape capacity s Take =
    let f = entry_in shape in
    let puts = told_by shape s.puts in
    let rest : map f (drop 1 s.queue) ≡ drop 1 (map f s.queue) = sym (drop-map f 1 s.queue) in
    let gone : map f (s.taken ++ take 1 s.queue) ≡ map f s.taken ++ take 1 (map f s.queue) =
    map-append f s.taken (take 1 s.queue) ∙ ap (λ (l : List (RingEntry Sample)). map f s.taken ++ l) (take_told shape s.queue) in
    ap (λ (q : List (RingEntry Sample)). state puts q (map f (s.taken ++ take 1 s.queue)) (map f s.dropped) s.level) rest
    ∙ ap (λ (d : List (RingEntry Sample)). state puts (drop 1 (map f s.queue)) d (map f s.dropped) s.level) gone

run_told : (shape : Shape) (capacity : ℕ) (s t : RingState BlockValue) (events : List (RingEvent BlockValue)) → RingRun capacity s events t → RingRun capacity (told_state shape s) (map (told_event shape) events) (told_state shape t)
run_told shape capacity s t [] run = ap (told_state shape) run
run_told shape capacity s t (event ∷ more) run = (
  told_state shape run.0,
  record {
    allowed = allowed_told shape capacity s event run.1.allowed;
    change = ap (told_state shape) run.1.change ∙ after_told shape capacity s event;
  },
  run_told shape capacity run.0 t more run.2,
)

-- where a state of a ring of blocks is reached, so is that of the samples that they tell
pub reached_told : (shape : Shape) (capacity : ℕ) (t : RingState BlockValue) → IsReached capacity t → IsReached capacity (told_state shape t)
reached_told shape capacity t r = record { events = map (told_event shape) r.events; run = run_told shape capacity new_ring t r.events r.run }

-- ---- what is dropped

all_told : (shape : Shape) (n : ℕ) (es : List (RingEntry BlockValue)) → AllByRecursion (λ e. e.position + 1 < n) es → AllByRecursion (λ e. e.position + 1 < n) (map (entry_in shape) es)
all_told shape n [] all = tt
all_told shape n (e ∷ es) all = (all.0, all_told shape n es all.1)

pub few_told : (shape : Shape) (capacity : ℕ) (puts : List BlockValue) (dropped : List (RingEntry BlockValue)) → AreFew capacity puts dropped → AreFew capacity (told_by shape puts) (map (entry_in shape) dropped)
few_told shape capacity puts dropped few =
    let F : BlockValue → Sample = λ b. sample_in shape b.bytes in
    let long = length-map puts F in
    record {
      count = omega (arith, few.count, long, length-map dropped (entry_in shape));
      before = subst (λ (n : ℕ). AllByRecursion (λ (e : RingEntry Sample). e.position + 1 < n) (map (entry_in shape) dropped)) (sym long) (all_told shape (length puts) dropped few.before);
    }

-- ---- both ends in one

abbrev pub last_view : Shape → ℕ → RingState Sample → LastView
last_view shape capacity state = record { capacity = capacity; shape = shape; state = state }
