-- What contracts see of the two ends of a ring, and what their calls do. This project's own.
use Rattle.std.specs.Prelude.{◌≡◌, ℕ, ◌+◌, ◌-◌, ◌<◌, ◌≤◌, List, [], ◌∷◌, length, drop, Option}
use Rattle.std.specs.List.{AllByRecursion}
use Rattle.atomic_table.specs.Seated.{TableId}
use Rattle.ring_model.specs.declared.entry.Entry.{Entry}
use Rattle.ring_model.specs.Ring.{RingState, Put, Drop, Take, RingStep, IsReached}
use Rattle.thread_ring.specs.declared.rule.Knows.{Knows}

-- the end that puts: which ring it is of; the ring's capacity and terms; what it put, the entries that it dropped, and the level
pub record TailView (V T : Type 0) : Type 0 where
  pub ring : TableId
  pub capacity : ℕ
  pub terms : Option T
  pub puts : List V
  pub dropped : List (Entry V)
  pub level : ℕ

-- the end that takes, with what it took
pub record HeadView (V T : Type 0) : Type 0 where
  pub ring : TableId
  pub capacity : ℕ
  pub terms : Option T
  pub taken : List (Entry V)

-- both ends in one: the whole state
pub record LastView (V T : Type 0) : Type 0 where
  pub capacity : ℕ
  pub terms : Option T
  pub state : RingState V

-- the values with their positions, from n on
abbrev pub numbered : {V : Type 0} → ℕ → List V → List (Entry V)
numbered n [] = []
numbered n (v ∷ vs) = record { position = n; value = v } ∷ numbered (n + 1) vs

module _ {V T : Type 0} where
  -- the view of an end, by what its pass knows
  abbrev pub tail_view : TableId → Knows V T → TailView V T
  tail_view ring v = record { ring = ring; capacity = v.capacity; terms = v.terms; puts = v.puts; dropped = v.dropped; level = v.level }

  abbrev pub head_view : TableId → Knows V T → HeadView V T
  head_view ring v = record { ring = ring; capacity = v.capacity; terms = v.terms; taken = v.taken }

  -- the state that both ends know: what is left are the values behind those that were taken or dropped
  abbrev pub state_of : Knows V T → RingState V
  state_of v = record { puts = v.puts; queue = drop (length v.taken + length v.dropped) (numbered 0 v.puts); taken = v.taken; dropped = v.dropped; level = v.level }

  -- the ring reaches this state, of which the end knows its part
  pub record ShowsTail (v : TailView V T) (s : RingState V) : Type 0 where
    pub reached : IsReached v.capacity s
    pub puts : v.puts ≡ s.puts
    pub dropped : v.dropped ≡ s.dropped
    pub level : v.level ≡ s.level

  pub record ShowsHead (v : HeadView V T) (s : RingState V) : Type 0 where
    pub reached : IsReached v.capacity s
    pub taken : v.taken ≡ s.taken

  -- at one moment of the call the value was put
  pub record PutsAt (old : TailView V T) (x : V) (new : TailView V T) : Type 0 where
    pub from : RingState V
    pub to : RingState V
    pub before : ShowsTail old from
    pub step : RingStep old.capacity from (Put x) to
    pub behind : ShowsTail new to

  -- at one moment the oldest entry was dropped, and at a later one, before which the head may have taken some, the value was put
  pub record DropsAt (old : TailView V T) (e : Entry V) (x : V) (new : TailView V T) : Type 0 where
    pub from : RingState V
    pub to : RingState V
    pub rest : List (Entry V)
    pub before : ShowsTail old from
    pub step : RingStep old.capacity from Drop to
    pub oldest : from.queue ≡ e ∷ rest
    pub middle : TailView V T
    pub between : ShowsTail middle to
    pub put : PutsAt middle x new

  -- at one moment the oldest entry was taken
  pub record TakesAt (old : HeadView V T) (e : Entry V) (new : HeadView V T) : Type 0 where
    pub from : RingState V
    pub to : RingState V
    pub rest : List (Entry V)
    pub before : ShowsHead old from
    pub step : RingStep old.capacity from Take to
    pub oldest : from.queue ≡ e ∷ rest
    pub behind : ShowsHead new to

  -- at one moment there was no entry
  pub record FindsNone (old : HeadView V T) : Type 0 where
    pub state : RingState V
    pub shows : ShowsHead old state
    pub empty : state.queue ≡ []

-- the drops are no more than the puts past the capacity, and each was dropped before the last put
pub record AreFew {V : Type 0} (capacity : ℕ) (puts : List V) (dropped : List (Entry V)) : Type 0 where
  pub count : length dropped ≤ length puts - capacity
  pub before : AllByRecursion (λ e. e.position + 1 < length puts) dropped
