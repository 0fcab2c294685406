-- What the two ends of a ring know of it, and the rule that each of their steps keeps. This project's own.
use Rattle.std.specs.Prelude.{◌≡◌, ◌⊎◌, ℕ, ◌^◌, ◌<◌, true, false, List, [], ◌∷◌, length, Option, None, Some}
use Rattle.std.specs.List.{AllByRecursion}
use mathlib.Core.Option.{some}
use lib.ListN.{get_elem?}
use Rattle.ring_model.specs.declared.entry.Entry.{Entry}
use Rattle.ring_model.specs.Ring.{RingState, Put, Drop, Take, after, IsReached}
use Rattle.thread_ring.specs.declared.rule.Knows.{Knows}

-- a value meets the terms of a ring
abbrev pub Meets : {T V : Type 0} → (T → V → Type 0) → Option T → V → Type 0
Meets meets None v = ⊥
Meets meets (Some terms) v = meets terms v

-- what is known of each entry in a ring: its position is one that a writer takes, and its value meets the terms
pub record IsCarried {V T : Type 0} (meets : T → V → Type 0) (terms : Option T) (e : Entry V) : Type 0 where
  pub position : e.position < 2 ^ 41
  pub value : Meets meets terms e.value

module _ {V T : Type 0} where
  -- what the tail knows of a state, what the head knows, and what is known where no end was made yet, or none is left
  abbrev pub tail_knows : ℕ → Option T → RingState V → Knows V T
  tail_knows capacity terms s = record { is_new = false; pushes = true; takes = false; capacity = capacity; terms = terms; puts = s.puts; dropped = s.dropped; level = s.level; taken = [] }

  abbrev pub head_knows : ℕ → Option T → RingState V → Knows V T
  head_knows capacity terms s = record { is_new = false; pushes = false; takes = true; capacity = capacity; terms = terms; puts = []; dropped = []; level = 0; taken = s.taken }

  abbrev pub newborn : Knows V T
  newborn = record { is_new = true; pushes = false; takes = false; capacity = 0; terms = None; puts = []; dropped = []; level = 0; taken = [] }

  abbrev pub spent : Knows V T
  spent = record { is_new = false; pushes = false; takes = false; capacity = 0; terms = None; puts = []; dropped = []; level = 0; taken = [] }

  -- what both ends know together
  abbrev pub joined : Knows V T → Knows V T → Knows V T
  joined v w = record { is_new = false; pushes = true; takes = true; capacity = v.capacity; terms = v.terms; puts = v.puts; dropped = v.dropped; level = v.level; taken = w.taken }

  -- what a tail, and a head, know once the state is t
  abbrev pub after_tail : Knows V T → RingState V → Knows V T
  after_tail v t = record { is_new = false; pushes = v.pushes; takes = v.takes; capacity = v.capacity; terms = v.terms; puts = t.puts; dropped = t.dropped; level = t.level; taken = v.taken }

  abbrev pub after_head : Knows V T → RingState V → Knows V T
  after_head v t = record { is_new = false; pushes = v.pushes; takes = v.takes; capacity = v.capacity; terms = v.terms; puts = v.puts; dropped = v.dropped; level = v.level; taken = t.taken }

  -- the ring reaches a state of which the tail knows just this; so for the head, and for both
  pub record TailAt (v : Knows V T) (s : RingState V) : Type 0 where
    pub reached : IsReached v.capacity s
    pub puts : v.puts ≡ s.puts
    pub dropped : v.dropped ≡ s.dropped
    pub level : v.level ≡ s.level

  pub record HeadAt (v : Knows V T) (s : RingState V) : Type 0 where
    pub reached : IsReached v.capacity s
    pub taken : v.taken ≡ s.taken

  pub record LastAt (v : Knows V T) (s : RingState V) : Type 0 where
    pub tail : TailAt v s
    pub taken : v.taken ≡ s.taken

  -- what an end learns of the queue at a step that moves nothing
  pub record TailSees (v : Knows V T) (items : List (Entry V)) : Type 0 where
    pub state : RingState V
    pub queue : state.queue ≡ items
    pub at : TailAt v state

  pub record HeadSees (v : Knows V T) (items : List (Entry V)) : Type 0 where
    pub state : RingState V
    pub queue : state.queue ≡ items
    pub at : HeadAt v state

  pub record LastSees (v : Knows V T) (items : List (Entry V)) : Type 0 where
    pub state : RingState V
    pub queue : state.queue ≡ items
    pub at : LastAt v state

  -- the tail put x: from some state that fits what it knew
  pub record HasPut (v : Knows V T) (x : Entry V) (w : Knows V T) : Type 0 where
    pub from : RingState V
    pub at : TailAt v from
    pub room : length from.queue < v.capacity
    pub now : w ≡ after_tail v (after v.capacity from (Put x.value))

  -- an end is one that pushes, or one that takes
  abbrev pub IsTail : Knows V T → Type 0
  IsTail v = (v.is_new ≡ false) × (v.pushes ≡ true)

  abbrev pub IsHead : Knows V T → Type 0
  IsHead v = (v.is_new ≡ false) × (v.takes ≡ true)

module _ {V T : Type 0} (meets : T → V → Type 0) where
  -- the tail dropped x, the oldest
  pub record HasDropped (v : Knows V T) (x : Entry V) (w : Knows V T) : Type 0 where
    pub from : RingState V
    pub at : TailAt v from
    pub full : from.level ≡ v.capacity
    pub rest : List (Entry V)
    pub queue : from.queue ≡ x ∷ rest
    pub carried : IsCarried meets v.terms x
    pub now : w ≡ after_tail v (after v.capacity from Drop)

  -- the head took x, the oldest
  pub record HasTaken (v : Knows V T) (x : Entry V) (w : Knows V T) : Type 0 where
    pub from : RingState V
    pub at : HeadAt v from
    pub rest : List (Entry V)
    pub queue : from.queue ≡ x ∷ rest
    pub carried : IsCarried meets v.terms x
    pub now : w ≡ after_head v (after v.capacity from Take)

  -- both ends together took x
  pub record HasTakenLast (v : Knows V T) (x : Entry V) (w : Knows V T) : Type 0 where
    pub from : RingState V
    pub at : LastAt v from
    pub rest : List (Entry V)
    pub queue : from.queue ≡ x ∷ rest
    pub carried : IsCarried meets v.terms x
    pub now : w ≡ after_head v (after v.capacity from Take)

  -- one pass at most pushes, and one at most takes; each knows its own part of the state
  pub record Fits (capacity : ℕ) (terms : Option T) (tail head : ℕ) (s : RingState V) (port : ℕ) (v : Knows V T) : Type 0 where
    pub old : v.is_new ≡ false
    pub pushes : v.pushes ≡ true → (port ≡ tail) × (v.capacity ≡ capacity) × (v.terms ≡ terms) × (v.puts ≡ s.puts) × (v.dropped ≡ s.dropped) × (v.level ≡ s.level)
    pub takes : v.takes ≡ true → (port ≡ head) × (v.capacity ≡ capacity) × (v.terms ≡ terms) × (v.taken ≡ s.taken)

  -- the queue is that of a state that the ring reaches, its entries meet the terms, and each pass knows its part of that state
  pub record IsRunning (items : List (Entry V)) (views : List (Knows V T)) : Type 0 where
    pub capacity : ℕ
    pub terms : Option T
    pub tail : ℕ
    pub head : ℕ
    pub state : RingState V
    pub queue : state.queue ≡ items
    pub reached : IsReached capacity state
    pub carried : AllByRecursion (IsCarried meets terms) items
    pub each : (port : ℕ) (v : Knows V T) → get_elem? views port ≡ some v → Fits capacity terms tail head state port v

  -- the rule: before the ends are made there are one pass and no entry, and from then on the ring runs
  abbrev pub IsKept : List (Entry V) → List (Knows V T) → Type 0
  IsKept items views = ((items ≡ []) × (views ≡ newborn ∷ [])) ⊎ IsRunning items views
