-- A bounded ring that drops its oldest entry where it is full. This project's own.
use Rattle.std.specs.Prelude.{◌≡◌, ◌≢◌, ℕ, ◌+◌, ◌-◌, ◌<◌, List, [], ◌∷◌, ◌++◌, length, take, drop}
use Rattle.ring_model.specs.declared.entry.Entry.{Entry}

-- the values that were put; the entries in the ring, the oldest first; those that were taken and those that were dropped, in order;
-- and the level, which is the queue's length right after a put: no more are in the ring before the next one
pub record RingState (V : Type 0) : Type 0 where
  pub puts : List V
  pub queue : List (Entry V)
  pub taken : List (Entry V)
  pub dropped : List (Entry V)
  pub level : ℕ

-- a value goes in, or the oldest entry is dropped or taken
pub data RingEvent (V : Type 0) : Type 0 where
  Put : V → RingEvent V
  Drop : RingEvent V
  Take : RingEvent V

module _ {V : Type 0} where
  -- before any event
  abbrev pub new_ring : RingState V
  new_ring = record { puts = []; queue = []; taken = []; dropped = []; level = 0 }

  -- a put has room; a drop comes only where the ring was full at the last put; a drop and a take have an entry
  abbrev pub IsAllowed : ℕ → RingState V → RingEvent V → Type 0
  IsAllowed capacity s (Put v) = length s.queue < capacity
  IsAllowed capacity s Drop = (s.level ≡ capacity) × (s.queue ≢ [])
  IsAllowed capacity s Take = s.queue ≢ []

  -- what an event makes of a state
  abbrev pub after : ℕ → RingState V → RingEvent V → RingState V
  after capacity s (Put v) = record s { puts = s.puts ++ v ∷ []; queue = s.queue ++ record { position = length s.puts; value = v } ∷ []; level = length s.queue + 1 }
  after capacity s Drop = record s { queue = drop 1 s.queue; dropped = s.dropped ++ take 1 s.queue; level = capacity - 1 }
  after capacity s Take = record s { queue = drop 1 s.queue; taken = s.taken ++ take 1 s.queue }

  -- the event may come, and leads from s to t
  pub record RingStep (capacity : ℕ) (s : RingState V) (event : RingEvent V) (t : RingState V) : Type 0 where
    pub allowed : IsAllowed capacity s event
    pub change : t ≡ after capacity s event

  -- the events lead from s to t, one after the other
  abbrev pub RingRun : ℕ → RingState V → List (RingEvent V) → RingState V → Type 0
  RingRun capacity s [] t = t ≡ s
  RingRun capacity s (event ∷ more) t = (m : RingState V) × RingStep capacity s event m × RingRun capacity m more t

  -- some events lead to the state from the first one
  pub record IsReached (capacity : ℕ) (t : RingState V) : Type 0 where
    pub events : List (RingEvent V)
    pub run : RingRun capacity new_ring events t
