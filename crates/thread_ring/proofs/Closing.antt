-- What the steps of an end come to, in the words of its contract.
use Rattle.std.proofs.Common.{◌≡◌, ℕ, ◌+◌, ◌<◌, List, [], ◌∷◌, ◌++◌, length, take, slice_get, sym, refl, ap, ◌∙◌, subst, arith, length-append}
use Rattle.std.specs.Prelude.{Option, Some, None, MatchOption, IfSome}
use Rattle.std.specs.List.{AllByRecursion}
use Rattle.atomic_table.specs.Seated.{TableId}
use Rattle.ring_model.specs.declared.entry.Entry.{Entry}
use Rattle.ring_model.specs.Ring.{RingState, Put, Drop, Take, after, RingStep, IsReached}
use Rattle.thread_ring.specs.declared.rule.Knows.{Knows}
use Rattle.thread_ring.specs.Rule.{IsCarried, IsTail, IsHead, TailAt, HeadAt, after_tail, after_head, HeadSees, HasPut, HasDropped, HasTaken, HasTakenLast}
use Rattle.thread_ring.specs.Ends.{TailView, HeadView, tail_view, head_view, state_of, ShowsTail, ShowsHead, PutsAt, DropsAt, TakesAt, FindsNone, AreFew}
use Rattle.thread_ring.proofs.Reached.{all_more, all_map, reached_step, sound_reached, front_at}
use Rattle.thread_ring.proofs.Moves.{some_in, state_is}

module _ {V : Type 0} where
  -- the drops are few again once one more was put
  few_more : (capacity now : ℕ) (puts all : List V) (dropped same : List (Entry V)) (x : V) → now ≡ capacity → all ≡ puts ++ x ∷ [] → same ≡ dropped → AreFew capacity puts dropped → AreFew now all same
  few_more capacity now puts all dropped same x c p d few =
      let n : length all ≡ length puts + 1 = ap length p ∙ length-append puts (x ∷ []) in
      let k : length same ≡ length dropped = ap length d in
      let P : Entry V → Type 0 = λ e. e.position + 1 < length all in
      record {
        count = omega (arith, n, k, c, few.count);
        before = subst (λ (l : List (Entry V)). AllByRecursion P l) (sym d) (all_map (λ e. e.position + 1 < length puts) P dropped (λ e h. omega (arith, h, n)) few.before);
      }

  pub one_more : (l m : List (Entry V)) (x : Entry V) (n : ℕ) → n ≡ length l → m ≡ l ++ x ∷ [] → n + 1 ≡ length m
  one_more l m x n e f = let g : length m ≡ length l + 1 = ap length f ∙ length-append l (x ∷ []) in omega arith

module _ {V T : Type 0} where
  -- ---- the tail

  pub record IsTailAfter (v : Knows V T) (x : V) (w : Knows V T) : Type 0 where
    pub tail : IsTail w
    pub capacity : w.capacity ≡ v.capacity
    pub terms : w.terms ≡ v.terms
    pub puts : w.puts ≡ v.puts ++ x ∷ []
    pub few : AreFew w.capacity w.puts w.dropped

  pub put_is : (v w : Knows V T) (e : Entry V) → IsTail v → AreFew v.capacity v.puts v.dropped → HasPut v e w → IsTailAfter v e.value w × (w.dropped ≡ v.dropped)
  put_is v w e tail few p =
      let capacity : w.capacity ≡ v.capacity = ap (λ (z : Knows V T). z.capacity) p.now in
      let puts : w.puts ≡ v.puts ++ e.value ∷ [] = ap (λ (z : Knows V T). z.puts) p.now ∙ ap (λ (l : List V). l ++ e.value ∷ []) (sym p.at.puts) in
      let dropped : w.dropped ≡ v.dropped = ap (λ (z : Knows V T). z.dropped) p.now ∙ sym p.at.dropped in (
        record {
          tail = (ap (λ (z : Knows V T). z.is_new) p.now, ap (λ (z : Knows V T). z.pushes) p.now ∙ tail.1);
          capacity = capacity;
          terms = ap (λ (z : Knows V T). z.terms) p.now;
          puts = puts;
          few = few_more v.capacity w.capacity v.puts w.puts v.dropped w.dropped e.value capacity puts dropped few;
        },
        dropped,
      )

  -- the same where the oldest entry was dropped before
  pub drop_is : (meets : T → V → Type 0) (v m w : Knows V T) (x e : Entry V) → IsTail v → AreFew v.capacity v.puts v.dropped → HasDropped meets v x m → HasPut m e w
      → IsTailAfter v e.value w × (w.dropped ≡ v.dropped ++ x ∷ []) × (v.level ≡ v.capacity)
  drop_is meets v m w x e tail few d p =
      let s = d.from in
      let sound = sound_reached v.capacity s d.at.reached in
      let at = front_at v.capacity s x d.rest d.queue sound in
      let one : take 1 s.queue ≡ x ∷ [] = ap (take 1) d.queue in
      let long = ap length d.queue in
      let m_puts : m.puts ≡ v.puts = ap (λ (z : Knows V T). z.puts) d.now ∙ sym d.at.puts in
      let m_dropped : m.dropped ≡ v.dropped ++ x ∷ [] = ap (λ (z : Knows V T). z.dropped) d.now ∙ ap (λ (l : List (Entry V)). s.dropped ++ l) one ∙ ap (λ (l : List (Entry V)). l ++ x ∷ []) (sym d.at.dropped) in
      let capacity : w.capacity ≡ v.capacity = ap (λ (z : Knows V T). z.capacity) p.now ∙ ap (λ (z : Knows V T). z.capacity) d.now in
      let puts : w.puts ≡ v.puts ++ e.value ∷ [] = ap (λ (z : Knows V T). z.puts) p.now ∙ ap (λ (l : List V). l ++ e.value ∷ []) (sym p.at.puts ∙ m_puts) in
      let dropped : w.dropped ≡ v.dropped ++ x ∷ [] = ap (λ (z : Knows V T). z.dropped) p.now ∙ (sym p.at.dropped ∙ m_dropped) in
      let n : length w.puts ≡ length v.puts + 1 = ap length puts ∙ length-append v.puts (e.value ∷ []) in
      let k : length w.dropped ≡ length v.dropped + 1 = ap length dropped ∙ length-append v.dropped (x ∷ []) in
      let same_puts : length v.puts ≡ length s.puts = ap length d.at.puts in
      let same_dropped : length v.dropped ≡ length s.dropped = ap length d.at.dropped in
      let P : Entry V → Type 0 = λ f. f.position + 1 < length w.puts in (
        record {
          tail = (ap (λ (z : Knows V T). z.is_new) p.now, ap (λ (z : Knows V T). z.pushes) p.now ∙ ap (λ (z : Knows V T). z.pushes) d.now ∙ tail.1);
          capacity = capacity;
          terms = ap (λ (z : Knows V T). z.terms) p.now ∙ ap (λ (z : Knows V T). z.terms) d.now;
          puts = puts;
          few = record {
            count = let full = d.full in omega (arith, n, k, capacity, same_puts, same_dropped, full, sound.account);
            before = subst (λ (l : List (Entry V)). AllByRecursion P l) (sym dropped)
                (all_more P v.dropped x (all_map (λ f. f.position + 1 < length v.puts) P v.dropped (λ f h. omega (arith, h, n)) few.before) (omega (arith, at, n, same_puts, long, sound.count)));
          };
        },
        dropped,
        d.at.level ∙ d.full,
      )

  shows_tail : (ring : TableId) (v : Knows V T) (s : RingState V) → TailAt v s → ShowsTail (tail_view ring v) s
  shows_tail ring v s at = record { reached = at.reached; puts = at.puts; dropped = at.dropped; level = at.level }

  shows_after : (ring : TableId) (v w : Knows V T) (t : RingState V) → w ≡ after_tail v t → IsReached v.capacity t → ShowsTail (tail_view ring w) t
  shows_after ring v w t is reached = subst (λ (k : Knows V T). ShowsTail (tail_view ring k) t) (sym is) (record { reached = reached; puts = refl; dropped = refl; level = refl })

  puts_at : (ring : TableId) (v w : Knows V T) (e : Entry V) → HasPut v e w → PutsAt (tail_view ring v) e.value (tail_view ring w)
  puts_at ring v w e p =
      let t = after v.capacity p.from (Put e.value) in
      let step : RingStep v.capacity p.from (Put e.value) t = record { allowed = p.room; change = refl } in
      record { from = p.from; to = t; before = shows_tail ring v p.from p.at; step = step; behind = shows_after ring v w t p.now (reached_step v.capacity (Put e.value) p.from t p.at.reached step) }

  drops_at : (meets : T → V → Type 0) (ring : TableId) (v m w : Knows V T) (x e : Entry V) → HasDropped meets v x m → HasPut m e w → DropsAt (tail_view ring v) x e.value (tail_view ring w)
  drops_at meets ring v m w x e d p =
      let t = after v.capacity d.from Drop in
      let step : RingStep v.capacity d.from Drop t = record { allowed = (d.full, some_in d.from.queue x d.rest d.queue); change = refl } in
      record {
        from = d.from;
        to = t;
        rest = d.rest;
        before = shows_tail ring v d.from d.at;
        step = step;
        oldest = d.queue;
        middle = tail_view ring m;
        between = shows_after ring v m t d.now (reached_step v.capacity Drop d.from t d.at.reached step);
        put = puts_at ring m w e p;
      }

  pub puts_seen : (ring : TableId) (old : TailView V T) (v w : Knows V T) (e : Entry V) → tail_view ring v ≡ old → HasPut v e w → PutsAt old e.value (tail_view ring w)
  puts_seen ring old v w e is p = subst (λ (o : TailView V T). PutsAt o e.value (tail_view ring w)) is (puts_at ring v w e p)

  pub drops_seen : (meets : T → V → Type 0) (ring : TableId) (old : TailView V T) (v m w : Knows V T) (x e : Entry V) → tail_view ring v ≡ old → HasDropped meets v x m → HasPut m e w → DropsAt old x e.value (tail_view ring w)
  drops_seen meets ring old v m w x e is d p = subst (λ (o : TailView V T). DropsAt o x e.value (tail_view ring w)) is (drops_at meets ring v m w x e d p)

  -- the numbers beside the view
  pub counts : (v w : Knows V T) (x : V) (n capacity : ℕ) → IsTailAfter v x w → n ≡ length v.puts → capacity ≡ v.capacity → 0 < v.capacity → (capacity ≡ w.capacity) × (0 < w.capacity) × (n + 1 ≡ length w.puts)
  counts v w x n capacity k pos same some =
      let c = k.capacity in
      let l : length w.puts ≡ length v.puts + 1 = ap length k.puts ∙ length-append v.puts (x ∷ []) in
      (omega arith, omega arith, omega arith)

module _ {V T : Type 0} (meets : T → V → Type 0) where
  -- ---- the head

  above_all : (v : Knows V T) (s : RingState V) (e : Entry V) (rest : List (Entry V)) → HeadAt v s → s.queue ≡ e ∷ rest → AllByRecursion (λ f. f.position < e.position) v.taken
  above_all v s e rest at queue =
      let sound = sound_reached v.capacity s at.reached in
      let front = front_at v.capacity s e rest queue sound in
      let P : Entry V → Type 0 = λ f. f.position < e.position in
      subst (λ (l : List (Entry V)). AllByRecursion P l) (sym at.taken) (all_map (λ f. f.position < length s.taken + length s.dropped) P s.taken (λ f h. omega (arith, h, front)) sound.below)

  took : (v : Knows V T) (s : RingState V) (e : Entry V) (rest : List (Entry V)) (w : Knows V T) → v.taken ≡ s.taken → s.queue ≡ e ∷ rest → w ≡ after_head v (after v.capacity s Take) → w.taken ≡ v.taken ++ e ∷ []
  took v s e rest w taken queue now =
      ap (λ (z : Knows V T). z.taken) now ∙ ap (λ (l : List (Entry V)). s.taken ++ l) (ap (take 1) queue) ∙ ap (λ (l : List (Entry V)). l ++ e ∷ []) (sym taken)

  pub record IsHeadAfter (v : Knows V T) (e : Entry V) (w : Knows V T) : Type 0 where
    pub head : IsHead w
    pub capacity : w.capacity ≡ v.capacity
    pub terms : w.terms ≡ v.terms
    pub taken : w.taken ≡ v.taken ++ e ∷ []
    pub carried : IsCarried meets v.terms e
    pub above : AllByRecursion (λ f. f.position < e.position) v.taken

  pub take_is : (v w : Knows V T) (e : Entry V) → IsHead v → HasTaken meets v e w → IsHeadAfter v e w
  take_is v w e head p = record {
    head = (ap (λ (z : Knows V T). z.is_new) p.now, ap (λ (z : Knows V T). z.takes) p.now ∙ head.1);
    capacity = ap (λ (z : Knows V T). z.capacity) p.now;
    terms = ap (λ (z : Knows V T). z.terms) p.now;
    taken = took v p.from e p.rest w p.at.taken p.queue p.now;
    carried = p.carried;
    above = above_all v p.from e p.rest p.at p.queue;
  }

  takes_at : (ring : TableId) (v w : Knows V T) (e : Entry V) → HasTaken meets v e w → TakesAt (head_view ring v) e (head_view ring w)
  takes_at ring v w e p =
      let t = after v.capacity p.from Take in
      let step : RingStep v.capacity p.from Take t = record { allowed = some_in p.from.queue e p.rest p.queue; change = refl } in
      record {
        from = p.from;
        to = t;
        rest = p.rest;
        before = record { reached = p.at.reached; taken = p.at.taken };
        step = step;
        oldest = p.queue;
        behind = subst (λ (k : Knows V T). ShowsHead (head_view ring k) t) (sym p.now) (record { reached = reached_step v.capacity Take p.from t p.at.reached step; taken = refl });
      }

  pub head_moments : (ring : TableId) (old : HeadView V T) (v w : Knows V T) (r : Option (Entry V)) → head_view ring v ≡ old → MatchOption r ((w ≡ v) × HeadSees v []) (λ e. HasTaken meets v e w)
      → MatchOption r (FindsNone old) (λ e. TakesAt old e (head_view ring w))
  head_moments ring old v w None is h =
      let sees = h.1 in
      subst (λ (o : HeadView V T). FindsNone o) is (record { state = sees.state; shows = record { reached = sees.at.reached; taken = sees.at.taken }; empty = sees.queue })
  head_moments ring old v w (Some e) is h = subst (λ (o : HeadView V T). TakesAt o e (head_view ring w)) is (takes_at ring v w e h)

  pub record HeadSays (v w : Knows V T) (r : Option (Entry V)) : Type 0 where
    pub head : IsHead w
    pub capacity : w.capacity ≡ v.capacity
    pub terms : w.terms ≡ v.terms
    pub taken : MatchOption r (w.taken ≡ v.taken) (λ e. w.taken ≡ v.taken ++ e ∷ [])
    pub carried : IfSome r (IsCarried meets v.terms)
    pub above : IfSome r (λ e. AllByRecursion (λ f. f.position < e.position) v.taken)

  pub head_says : (v w : Knows V T) (r : Option (Entry V)) → IsHead v → MatchOption r ((w ≡ v) × HeadSees v []) (λ e. HasTaken meets v e w) → HeadSays v w r
  head_says v w None head h =
      subst (λ (k : Knows V T). HeadSays v k None) (sym h.0) (record { head = head; capacity = refl; terms = refl; taken = refl; carried = tt; above = tt })
  head_says v w (Some e) head h =
      let k = take_is v w e head h in
      record { head = k.head; capacity = k.capacity; terms = k.terms; taken = k.taken; carried = k.carried; above = k.above }

  -- ---- both ends together

  pub record LastSays (v w : Knows V T) (r : Option (Entry V)) : Type 0 where
    pub tail : IsTail w
    pub head : IsHead w
    pub capacity : w.capacity ≡ v.capacity
    pub terms : w.terms ≡ v.terms
    pub puts : w.puts ≡ v.puts
    pub dropped : w.dropped ≡ v.dropped
    pub oldest : r ≡ slice_get (state_of v).queue 0
    pub step : MatchOption r (state_of w ≡ state_of v) (λ e. RingStep v.capacity (state_of v) Take (state_of w))
    pub carried : IfSome r (IsCarried meets v.terms)
    pub above : IfSome r (λ e. AllByRecursion (λ f. f.position < e.position) (state_of v).taken)
    pub reached : IsReached w.capacity (state_of w)

  pub last_says : (v w : Knows V T) (r : Option (Entry V)) → IsTail v → IsHead v → IsReached v.capacity (state_of v)
      → MatchOption r ((w ≡ v) × ((state_of v).queue ≡ [])) (λ e. HasTakenLast meets v e w) → LastSays v w r
  last_says v w None tail head reached h =
      subst (λ (k : Knows V T). LastSays v k None) (sym h.0)
      (record { tail = tail; head = head; capacity = refl; terms = refl; puts = refl; dropped = refl; oldest = ap (λ (q : List (Entry V)). slice_get q 0) (sym h.1); step = refl; carried = tt; above = tt; reached = reached })
  last_says v w (Some e) tail head reached h =
      let s = h.from in
      let t = after v.capacity s Take in
      let a = h.at.tail in
      let is = state_is v s h.at in
      let step : RingStep v.capacity s Take t = record { allowed = some_in s.queue e h.rest h.queue; change = refl } in
      let now : Knows V T = after_head v t in
      let next : IsReached v.capacity t = reached_step v.capacity Take s t a.reached step in
      let now_is : state_of now ≡ t = state_is now t (record { tail = record { reached = next; puts = a.puts; dropped = a.dropped; level = a.level }; taken = refl }) in
      subst (λ (k : Knows V T). LastSays v k (Some e)) (sym h.now) (record {
        tail = (refl, tail.1);
        head = (refl, head.1);
        capacity = refl;
        terms = refl;
        puts = refl;
        dropped = refl;
        oldest = sym (ap (λ (z : RingState V). slice_get z.queue 0) is ∙ ap (λ (q : List (Entry V)). slice_get q 0) h.queue);
        step = subst (λ (z : RingState V). RingStep v.capacity z Take (state_of now)) (sym is) (subst (λ (z : RingState V). RingStep v.capacity s Take z) (sym now_is) step);
        carried = h.carried;
        above = above_all v s e h.rest (record { reached = a.reached; taken = h.at.taken }) h.queue;
        reached = subst (λ (z : RingState V). IsReached v.capacity z) (sym now_is) next;
      })
