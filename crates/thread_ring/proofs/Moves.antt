-- Each kind of step keeps the rule.
use Rattle.std.proofs.Common.{◌≡◌, ◌≢◌, inl, inr, ℕ, zero, suc, ◌+◌, ◌<◌, true, false, true≢false, List, [], ◌∷◌, ◌++◌, length, drop, set, sym, refl, ap, ◌∙◌, subst, ⊎_elim, arith}
use Rattle.std.specs.Prelude.{Option, Some, None, Result, Ok, Err, MatchResult, MatchOption}
use Rattle.std.specs.List.{AllByRecursion}
use mathlib.Core.Option.{some, some-injective, some-ne-none}
use lib.ListN.{get_elem?}
use Rattle.crossbeam_queue.specs.Fifo.{Pushes, Pops, Forks, Merges, Learns, Held}
use Rattle.crossbeam_queue.proofs.Lists.{at_set}
use Rattle.ring_model.specs.declared.entry.Entry.{Entry}
use Rattle.ring_model.specs.Ring.{RingState, Put, Drop, Take, new_ring, after, IsReached}
use Rattle.thread_ring.specs.declared.rule.Knows.{Knows}
use Rattle.thread_ring.specs.Rule.{IsCarried, tail_knows, head_knows, newborn, spent, joined, after_tail, after_head, TailAt, HeadAt, LastAt, TailSees, HeadSees, LastSees, HasPut, HasDropped, HasTaken, HasTakenLast, Fits, IsRunning, IsKept}
use Rattle.thread_ring.specs.Ends.{state_of, numbered}
use Rattle.thread_ring.proofs.Reached.{all_more, reached_step, sound_reached, new_reached}

module _ {A : Type 0} where
  only : (x a : A) (j : ℕ) → get_elem? (x ∷ []) j ≡ some a → (j ≡ 0) × (x ≡ a)
  only x a zero e = (refl, some-injective x a e)
  only x a (suc j) e = absurd (some-ne-none a (sym e))

  abbrev Each : (ℕ → A → Type 0) → List A → Type 0
  Each F views = (port : ℕ) (v : A) → get_elem? views port ≡ some v → F port v

  all_set : (F : ℕ → A → Type 0) (views : List A) (port : ℕ) (w : A) → F port w → ((j : ℕ) (u : A) → j ≢ port → get_elem? views j ≡ some u → F j u) → Each F (set views port w)
  all_set F views port w mine others j u e = ⊎_elim (λ (x : (j ≡ port) × (w ≡ u)). subst (λ (y : ℕ × A). F y.0 y.1) (λ i. (sym x.0 i, x.1 i)) mine)
      (λ (x : (j ≢ port) × (get_elem? views j ≡ some u)). others j u x.0 x.1) (at_set views port j w u e)

  no_items : (l : List A) → length l ≡ 0 → l ≡ []
  no_items [] e = refl
  no_items (x ∷ xs) e = absurd (omega arith)

  pub some_in : (q : List A) (x : A) (rest : List A) → q ≡ x ∷ rest → q ≢ []
  some_in q x rest is none = let e : x ∷ rest ≡ [] = sym is ∙ none in absurd cc

module _ {V T : Type 0} (meets : T → V → Type 0) where
  -- once a view is no newborn's, the ring runs
  runs : (items : List (Entry V)) (views : List (Knows V T)) (port : ℕ) (v : Knows V T) → v.is_new ≡ false → IsKept meets items views → get_elem? views port ≡ some v → IsRunning meets items views
  runs items views port v old kept at = ⊎_elim
      (λ (x : (items ≡ []) × (views ≡ newborn ∷ [])).
      let o = only newborn v port (ap (λ (l : List (Knows V T)). get_elem? l port) (sym x.1) ∙ at) in
      absurd (true≢false (ap (λ (k : Knows V T). k.is_new) o.1 ∙ old)))
      (λ (x : IsRunning meets items views). x) kept

  pub begins : IsKept meets [] (newborn ∷ [])
  begins = inl (refl, refl)

  -- what an end knows, beside the state
  tail_at : (items : List (Entry V)) (views : List (Knows V T)) (port : ℕ) (v : Knows V T) → v.pushes ≡ true → (r : IsRunning meets items views) → get_elem? views port ≡ some v
      → TailAt v r.state × (port ≡ r.tail) × (v.capacity ≡ r.capacity) × (v.terms ≡ r.terms)
  tail_at items views port v may r at =
      let mine = (r.each port v at).pushes may in
      (record { reached = subst (λ (n : ℕ). IsReached n r.state) (sym mine.1) r.reached; puts = mine.3; dropped = mine.4; level = mine.5 }, mine.0, mine.1, mine.2)

  head_at : (items : List (Entry V)) (views : List (Knows V T)) (port : ℕ) (v : Knows V T) → v.takes ≡ true → (r : IsRunning meets items views) → get_elem? views port ≡ some v
      → HeadAt v r.state × (port ≡ r.head) × (v.capacity ≡ r.capacity) × (v.terms ≡ r.terms)
  head_at items views port v may r at =
      let mine = (r.each port v at).takes may in
      (record { reached = subst (λ (n : ℕ). IsReached n r.state) (sym mine.1) r.reached; taken = mine.3 }, mine.0, mine.1, mine.2)

  pub tail_learns : (port : ℕ) (v : Knows V T) → v.is_new ≡ false → v.pushes ≡ true → Learns (IsKept meets) port v (TailSees v)
  tail_learns port v old may items views kept at =
      let r = runs items views port v old kept at in
      record { state = r.state; queue = r.queue; at = (tail_at items views port v may r at).0 }

  pub head_learns : (port : ℕ) (v : Knows V T) → v.is_new ≡ false → v.takes ≡ true → Learns (IsKept meets) port v (HeadSees v)
  head_learns port v old may items views kept at =
      let r = runs items views port v old kept at in
      record { state = r.state; queue = r.queue; at = (head_at items views port v may r at).0 }

  pub last_learns : (port : ℕ) (v : Knows V T) → v.is_new ≡ false → v.pushes ≡ true → v.takes ≡ true → Learns (IsKept meets) port v (LastSees v)
  last_learns port v old a b items views kept at =
      let r = runs items views port v old kept at in
      record { state = r.state; queue = r.queue; at = record { tail = (tail_at items views port v a r at).0; taken = (head_at items views port v b r at).0.taken } }

  -- a step of the tail, after which the state is t
  tail_moves : (items : List (Entry V)) (views : List (Knows V T)) (port : ℕ) (v : Knows V T) (now : List (Entry V)) (t : RingState V) → v.pushes ≡ true → (r : IsRunning meets items views) → get_elem? views port ≡ some v
      → t.queue ≡ now → t.taken ≡ r.state.taken → IsReached v.capacity t → AllByRecursion (IsCarried meets v.terms) now → IsKept meets now (set views port (after_tail v t))
  tail_moves items views port v now t may r at queue taken reached carried =
      let mine = tail_at items views port v may r at in
      let w = after_tail v t in
      inr (record {
        capacity = v.capacity;
        terms = v.terms;
        tail = r.tail;
        head = r.head;
        state = t;
        queue = queue;
        reached = reached;
        carried = carried;
        each = all_set (Fits meets v.capacity v.terms r.tail r.head t) views port w
            (record { old = refl; pushes = λ _. (mine.1, refl, refl, refl, refl, refl); takes = λ h. let f = (r.each port v at).takes h in (f.0, refl, refl, f.3 ∙ sym taken) })
            (λ j u other e. let f = r.each j u e in
            record { old = f.old; pushes = λ h. absurd (other ((f.pushes h).0 ∙ sym mine.1)); takes = λ h. let k = f.takes h in (k.0, k.1 ∙ sym mine.2, k.2 ∙ sym mine.3, k.3 ∙ sym taken) });
      })

  -- a step of the head, after which the state is t
  head_moves : (items : List (Entry V)) (views : List (Knows V T)) (port : ℕ) (v : Knows V T) (now : List (Entry V)) (t : RingState V) → v.takes ≡ true → (r : IsRunning meets items views) → get_elem? views port ≡ some v
      → t.queue ≡ now → t.puts ≡ r.state.puts → t.dropped ≡ r.state.dropped → t.level ≡ r.state.level → IsReached v.capacity t → AllByRecursion (IsCarried meets v.terms) now → IsKept meets now (set views port (after_head v t))
  head_moves items views port v now t may r at queue puts dropped level reached carried =
      let mine = head_at items views port v may r at in
      let w = after_head v t in
      inr (record {
        capacity = v.capacity;
        terms = v.terms;
        tail = r.tail;
        head = r.head;
        state = t;
        queue = queue;
        reached = reached;
        carried = carried;
        each = all_set (Fits meets v.capacity v.terms r.tail r.head t) views port w
            (record { old = refl; pushes = λ h. let f = (r.each port v at).pushes h in (f.0, refl, refl, f.3 ∙ sym puts, f.4 ∙ sym dropped, f.5 ∙ sym level); takes = λ _. (mine.1, refl, refl, refl) })
            (λ j u other e. let f = r.each j u e in
            record { old = f.old; pushes = λ h. let k = f.pushes h in (k.0, k.1 ∙ sym mine.2, k.2 ∙ sym mine.3, k.3 ∙ sym puts, k.4 ∙ sym dropped, k.5 ∙ sym level); takes = λ h. absurd (other ((f.takes h).0 ∙ sym mine.1)) });
      })

  pub puts : (n port : ℕ) (v : Knows V T) (x : Entry V) → v.is_new ≡ false → v.pushes ≡ true → v.capacity ≡ n → x.position ≡ length v.puts → IsCarried meets v.terms x → Pushes (IsKept meets) n port v x (HasPut v x)
  puts n port v x old may size pos carried items views room kept at =
      let r = runs items views port v old kept at in
      let mine = tail_at items views port v may r at in
      let s = r.state in
      let t = after v.capacity s (Put x.value) in
      let q : length s.queue ≡ length items = ap length r.queue in
      let less : length s.queue < v.capacity = omega (arith, q, room, size) in
      let new : ℕ → Entry V = λ k. record { position = k; value = x.value } in
      let same : new (length s.puts) ≡ x = ap new (ap length (sym mine.0.puts) ∙ sym pos) in
      let queue : t.queue ≡ items ++ x ∷ [] = ap (λ (l : List (Entry V)). l ++ new (length s.puts) ∷ []) r.queue ∙ ap (λ (e : Entry V). items ++ e ∷ []) same in
      let reached = reached_step v.capacity (Put x.value) s t mine.0.reached (record { allowed = less; change = refl }) in
      let all = all_more (IsCarried meets v.terms) items x (subst (λ (k : Option T). AllByRecursion (IsCarried meets k) items) (sym mine.3) r.carried) carried in (
        after_tail v t,
        tail_moves items views port v (items ++ x ∷ []) t may r at queue refl reached all,
        record { from = s; at = mine.0; room = less; now = refl },
      )

  pub drops : (port : ℕ) (v : Knows V T) → v.is_new ≡ false → v.pushes ≡ true → v.level ≡ v.capacity → Pops (IsKept meets) port v (HasDropped meets v)
  drops port v old may full x items views kept at =
      let r = runs (x ∷ items) views port v old kept at in
      let mine = tail_at (x ∷ items) views port v may r at in
      let s = r.state in
      let level : s.level ≡ v.capacity = sym mine.0.level ∙ full in
      let t = after v.capacity s Drop in
      let reached = reached_step v.capacity Drop s t mine.0.reached (record { allowed = (level, some_in s.queue x items r.queue); change = refl }) in
      let carried = subst (λ (k : Option T). AllByRecursion (IsCarried meets k) (x ∷ items)) (sym mine.3) r.carried in (
        after_tail v t,
        tail_moves (x ∷ items) views port v items t may r at (ap (drop 1) r.queue) refl reached carried.1,
        record { from = s; at = mine.0; full = level; rest = items; queue = r.queue; carried = carried.0; now = refl },
      )

  pub takes : (port : ℕ) (v : Knows V T) → v.is_new ≡ false → v.takes ≡ true → Pops (IsKept meets) port v (HasTaken meets v)
  takes port v old may x items views kept at =
      let r = runs (x ∷ items) views port v old kept at in
      let mine = head_at (x ∷ items) views port v may r at in
      let s = r.state in
      let t = after v.capacity s Take in
      let reached = reached_step v.capacity Take s t mine.0.reached (record { allowed = some_in s.queue x items r.queue; change = refl }) in
      let carried = subst (λ (k : Option T). AllByRecursion (IsCarried meets k) (x ∷ items)) (sym mine.3) r.carried in (
        after_head v t,
        head_moves (x ∷ items) views port v items t may r at (ap (drop 1) r.queue) refl refl refl reached carried.1,
        record { from = s; at = mine.0; rest = items; queue = r.queue; carried = carried.0; now = refl },
      )

  pub last_takes : (port : ℕ) (v : Knows V T) → v.is_new ≡ false → v.pushes ≡ true → v.takes ≡ true → Pops (IsKept meets) port v (HasTakenLast meets v)
  last_takes port v old a b x items views kept at =
      let r = runs (x ∷ items) views port v old kept at in
      let h = takes port v old b x items views kept at in
      let tail = tail_at (x ∷ items) views port v a r at in
      let mine = head_at (x ∷ items) views port v b r at in
      let s = r.state in
      let t = after v.capacity s Take in
      let reached = reached_step v.capacity Take s t mine.0.reached (record { allowed = some_in s.queue x items r.queue; change = refl }) in
      let carried = subst (λ (k : Option T). AllByRecursion (IsCarried meets k) (x ∷ items)) (sym mine.3) r.carried in (
        after_head v t,
        head_moves (x ∷ items) views port v items t b r at (ap (drop 1) r.queue) refl refl refl reached carried.1,
        record { from = s; at = record { tail = tail.0; taken = mine.0.taken }; rest = items; queue = r.queue; carried = carried.0; now = refl },
      )

  two : (capacity : ℕ) (terms : Option T) (port : ℕ) (v : Knows V T) → get_elem? (tail_knows capacity terms new_ring ∷ head_knows capacity terms new_ring ∷ []) port ≡ some v → Fits meets capacity terms 0 1 new_ring port v
  two capacity terms zero v e =
      subst (λ (k : Knows V T). Fits meets capacity terms 0 1 new_ring zero k) (some-injective (tail_knows capacity terms new_ring) v e)
      (record { old = refl; pushes = λ _. (refl, refl, refl, refl, refl, refl); takes = λ h. absurd (true≢false (sym h)) })
  two capacity terms (suc zero) v e =
      subst (λ (k : Knows V T). Fits meets capacity terms 0 1 new_ring (suc zero) k) (some-injective (head_knows capacity terms new_ring) v e)
      (record { old = refl; pushes = λ h. absurd (true≢false (sym h)); takes = λ _. (refl, refl, refl, refl) })
  two capacity terms (suc (suc port)) v e = absurd (some-ne-none v (sym e))

  pub forks : (port capacity : ℕ) (terms : Option T) (v : Knows V T) → v ≡ newborn → Forks (IsKept meets) port v (tail_knows capacity terms new_ring) (head_knows capacity terms new_ring)
  forks port capacity terms v new items views kept at = ⊎_elim
      (λ (x : (items ≡ []) × (views ≡ newborn ∷ [])).
      let o = only newborn v port (ap (λ (l : List (Knows V T)). get_elem? l port) (sym x.1) ∙ at) in
      let l : Knows V T = tail_knows capacity terms new_ring in
      let r : Knows V T = head_knows capacity terms new_ring in
      let is : set views port l ++ r ∷ [] ≡ l ∷ r ∷ [] = (λ i. set (x.1 i) (o.0 i) l ++ r ∷ []) in
      subst (λ (z : List (Knows V T)). IsKept meets items z) (sym is)
      (inr (record { capacity = capacity; terms = terms; tail = 0; head = 1; state = new_ring; queue = sym x.0; reached = new_reached capacity; carried = subst (λ (q : List (Entry V)). AllByRecursion (IsCarried meets terms) q) (sym x.0) tt; each = two capacity terms })))
      (λ (x : IsRunning meets items views). absurd (true≢false (ap (λ (k : Knows V T). k.is_new) (sym new) ∙ (x.each port v at).old))) kept

  pub merges : (port : ℕ) (v : Knows V T) (other : ℕ) (u : Knows V T) → v.is_new ≡ false → v.pushes ≡ true → u.takes ≡ true → Merges (IsKept meets) port v other u (joined v u) spent
  merges port v other u old a b items views kept at two at' =
      let r = runs items views port v old kept at in
      let mine = tail_at items views port v a r at in
      let both : Knows V T = joined v u in
      let vs : List (Knows V T) = set views port both in
      let was : get_elem? views other ≡ some u = ⊎_elim (λ x. absurd (two x.0)) (λ x. x.1) (at_set views port other both u at') in
      let theirs = head_at items views other u b r was in
      let F : ℕ → Knows V T → Type 0 = Fits meets v.capacity v.terms r.tail port r.state in
      let Now : ℕ → Knows V T → Type 0 = λ j y. j ≢ other → F j y in
      let now : Each Now vs = all_set Now views port both
      (λ _. record { old = refl; pushes = λ _. (mine.1, refl, refl, mine.0.puts, mine.0.dropped, mine.0.level); takes = λ _. (refl, refl, refl, theirs.0.taken) })
      (λ j y here e apart. let f = r.each j y e in
      record { old = f.old; pushes = λ h. absurd (here ((f.pushes h).0 ∙ sym mine.1)); takes = λ h. absurd (apart ((f.takes h).0 ∙ sym theirs.1)) }) in
      inr (record {
        capacity = v.capacity;
        terms = v.terms;
        tail = r.tail;
        head = port;
        state = r.state;
        queue = r.queue;
        reached = mine.0.reached;
        carried = subst (λ (k : Option T). AllByRecursion (IsCarried meets k) items) (sym mine.3) r.carried;
        each = all_set F vs other spent (record { old = refl; pushes = λ h. absurd (true≢false (sym h)); takes = λ h. absurd (true≢false (sym h)) }) (λ j y apart e. now j y e apart);
      })

  -- ---- what the calls of the queue answer

  pub none_taken : (r : Option (Entry V)) (v w : Knows V T) → MatchOption r ((w ≡ v) × Held 0 (HeadSees v)) (λ e. HasTaken meets v e w) → MatchOption r ((w ≡ v) × HeadSees v []) (λ e. HasTaken meets v e w)
  none_taken None v w h = let sees = h.1.2 in (h.0, record { state = sees.state; queue = sees.queue ∙ no_items h.1.0 h.1.1; at = sees.at })
  none_taken (Some e) v w h = h

module _ {V T : Type 0} where
  -- the state that both know is the one that they see
  pub state_is : (v : Knows V T) (s : RingState V) → LastAt v s → state_of v ≡ s
  state_is v s at =
      let t = at.tail in
      let window = (sound_reached v.capacity s t.reached).window in
      let queue : drop (length v.taken + length v.dropped) (numbered 0 v.puts) ≡ s.queue = (λ i. drop (length (at.taken i) + length (t.dropped i)) (numbered 0 (t.puts i))) ∙ sym window in
      λ i. record { puts = t.puts i; queue = queue i; taken = at.taken i; dropped = t.dropped i; level = t.level i }

  -- what both know is reached
  pub last_reached : (v : Knows V T) (items : List (Entry V)) → LastSees v items → IsReached v.capacity (state_of v)
  last_reached v items sees = subst (λ (s : RingState V). IsReached v.capacity s) (sym (state_is v sees.state sees.at)) sees.at.tail.reached

  pub last_sees : (r : Option (Entry V)) (v w : Knows V T) (P : Entry V → Type 0) → MatchOption r ((w ≡ v) × Held 0 (LastSees v)) P → MatchOption r ((w ≡ v) × ((state_of v).queue ≡ [])) P
  last_sees None v w P h = let sees = h.1.2 in (h.0, ap (λ (s : RingState V). s.queue) (state_is v sees.state sees.at) ∙ sees.queue ∙ no_items h.1.0 h.1.1)
  last_sees (Some e) v w P h = h

  pub none_dropped : (r : Option (Entry V)) (v w : Knows V T) (P : Entry V → Type 0) → MatchOption r ((w ≡ v) × Held 0 (TailSees v)) P → MatchOption r (w ≡ v) P
  none_dropped None v w P h = h.0
  none_dropped (Some e) v w P h = h

  -- a full queue shows the tail that its level is the capacity
  full_level : (n : ℕ) (v : Knows V T) (items : List (Entry V)) → v.capacity ≡ n → length items ≡ n → TailSees v items → v.level ≡ v.capacity
  full_level n v items size full sees =
      let q = ap length sees.queue in
      let sound = sound_reached v.capacity sees.state sees.at.reached in
      omega (arith, q, full, size, sound.within, sound.low, sees.at.level)

  pub refused : (r : Result (Unit {0}) (Entry V)) (v w : Knows V T) (n : ℕ) (entry : Entry V) → v.capacity ≡ n
      → MatchResult r (λ _. HasPut v entry w) (λ e. (e ≡ entry) × (w ≡ v) × Held n (TailSees v))
      → MatchResult r (λ _. HasPut v entry w) (λ e. (e ≡ entry) × (w ≡ v) × (v.level ≡ v.capacity))
  refused (Ok _) v w n entry size h = h
  refused (Err e) v w n entry size h = (h.0, h.1, full_level n v h.2.0 size h.2.1 h.2.2)
