-- What holds of every state that a ring reaches.
use Rattle.std.proofs.Common.{◌≡◌, ◌≢◌, ℕ, zero, suc, ◌+◌, ◌<◌, ◌≤◌, List, [], ◌∷◌, ◌++◌, length, take, drop, sym, refl, ap, ◌∙◌, subst, arith, length-append, add-zero}
use Rattle.std.proofs.lemmas.List.{drop-append-le, drop-drop}
use Rattle.std.specs.List.{AllByRecursion}
use Rattle.ring_model.specs.declared.entry.Entry.{Entry}
use Rattle.ring_model.specs.Ring.{RingState, RingEvent, Put, Drop, Take, new_ring, after, RingStep, RingRun, IsReached}
use Rattle.thread_ring.specs.Ends.{numbered}

pub all_more : {A : Type 0} (P : A → Type 0) (xs : List A) (x : A) → AllByRecursion P xs → P x → AllByRecursion P (xs ++ x ∷ [])
all_more P [] x all one = (one, tt)
all_more P (y ∷ xs) x all one = (all.0, all_more P xs x all.1 one)

pub all_map : {A : Type 0} (P Q : A → Type 0) (xs : List A) → ((x : A) → P x → Q x) → AllByRecursion P xs → AllByRecursion Q xs
all_map P Q [] f all = tt
all_map P Q (x ∷ xs) f all = (f x all.0, all_map P Q xs f all.1)

module _ {V : Type 0} where
  -- ---- lists of events

  pub run_more : (capacity : ℕ) (es more : List (RingEvent V)) (s t u : RingState V) → RingRun capacity s es t → RingRun capacity t more u → RingRun capacity s (es ++ more) u
  run_more capacity [] more s t u run next = subst (λ (m : RingState V). RingRun capacity m more u) run next
  run_more capacity (e ∷ es) more s t u run next = (run.0, run.1, run_more capacity es more run.0 t u run.2 next)

  pub reached_more : (capacity : ℕ) (more : List (RingEvent V)) (t u : RingState V) → IsReached capacity t → RingRun capacity t more u → IsReached capacity u
  reached_more capacity more t u r next = record { events = r.events ++ more; run = run_more capacity r.events more new_ring t u r.run next }

  pub reached_step : (capacity : ℕ) (e : RingEvent V) (t u : RingState V) → IsReached capacity t → RingStep capacity t e u → IsReached capacity u
  reached_step capacity e t u r step = reached_more capacity (e ∷ []) t u r (u, step, refl)

  -- ---- numbered values

  abbrev new_entry : ℕ → V → Entry V
  new_entry n v = record { position = n; value = v }

  numbered_length : (n : ℕ) (vs : List V) → length (numbered n vs) ≡ length vs
  numbered_length n [] = refl
  numbered_length n (v ∷ vs) = ap suc (numbered_length (n + 1) vs)

  numbered_more : (n : ℕ) (vs : List V) (v : V) (k : ℕ) → k ≡ n + length vs → numbered n (vs ++ v ∷ []) ≡ numbered n vs ++ new_entry k v ∷ []
  numbered_more n [] v k e = ap (λ (j : ℕ). new_entry j v ∷ []) (let h : n ≡ k = omega arith in h)
  numbered_more n (u ∷ vs) v k e = ap (λ (l : List (Entry V)). new_entry n u ∷ l) (numbered_more (n + 1) vs v k (omega arith))

  numbered_at : (n k : ℕ) (vs : List V) (x : Entry V) (rest : List (Entry V)) → drop k (numbered n vs) ≡ x ∷ rest → x.position ≡ n + k
  numbered_at n zero [] x rest e = absurd cc
  numbered_at n (suc k) [] x rest e = absurd cc
  numbered_at n zero (v ∷ vs) x rest e = let p : new_entry n v ≡ x = cc in ap (λ (z : Entry V). z.position) (sym p) ∙ sym (add-zero n)
  numbered_at n (suc k) (v ∷ vs) x rest e = let h = numbered_at (n + 1) k vs x rest e in omega (arith, h)

  -- ---- the front of a queue

  pub record IsFront (q : List (Entry V)) : Type 0 where
    pub oldest : Entry V
    pub is : q ≡ oldest ∷ drop 1 q
    pub one : take 1 q ≡ oldest ∷ []
    pub less : length (drop 1 q) + 1 ≡ length q

  pub front_of : (q : List (Entry V)) → q ≢ [] → IsFront q
  front_of [] some = absurd (some refl)
  front_of (x ∷ q) some = record { oldest = x; is = refl; one = refl; less = omega arith }

  -- ---- what holds of a state that is reached

  pub record IsSound (capacity : ℕ) (s : RingState V) : Type 0 where
    pub within : length s.queue ≤ s.level
    pub low : s.level ≤ capacity
    pub account : length s.dropped + s.level ≤ length s.puts
    pub count : length s.taken + length s.dropped + length s.queue ≡ length s.puts
    pub window : s.queue ≡ drop (length s.taken + length s.dropped) (numbered 0 s.puts)
    pub below : AllByRecursion (λ e. e.position < length s.taken + length s.dropped) s.taken

  -- the oldest entry has the number of those that left as its position
  pub front_at : (capacity : ℕ) (s : RingState V) (x : Entry V) (rest : List (Entry V)) → s.queue ≡ x ∷ rest → IsSound capacity s → x.position ≡ length s.taken + length s.dropped
  front_at capacity s x rest q h = let p = numbered_at 0 (length s.taken + length s.dropped) s.puts x rest (sym h.window ∙ q) in omega (arith, p)

  drop_more : (n : ℕ) (xs : List (Entry V)) → drop 1 (drop n xs) ≡ drop (n + 1) xs
  drop_more n xs = drop-drop 1 n xs

  sound_put : (capacity : ℕ) (s : RingState V) (v : V) → length s.queue < capacity → IsSound capacity s → IsSound capacity (after capacity s (Put v))
  sound_put capacity s v room h =
      let n = length s.puts in
      let gone = length s.taken + length s.dropped in
      let e = numbered_more 0 s.puts v n (omega arith) in
      let all = h.count in
      let cut = drop-append-le gone (numbered 0 s.puts) (new_entry n v ∷ []) (let long = numbered_length 0 s.puts in omega arith) in
      let queue = length-append s.queue (new_entry n v ∷ []) in
      let puts = length-append s.puts (v ∷ []) in
      record {
        within = omega arith;
        low = omega arith;
        account = omega arith;
        count = omega arith;
        window = ap (λ (l : List (Entry V)). l ++ new_entry n v ∷ []) h.window ∙ sym cut ∙ ap (drop gone) (sym e);
        below = h.below;
      }

  sound_drop : (capacity : ℕ) (s : RingState V) → s.level ≡ capacity → s.queue ≢ [] → IsSound capacity s → IsSound capacity (after capacity s Drop)
  sound_drop capacity s full some h =
      let f = front_of s.queue some in
      let gone = length s.taken + length s.dropped in
      let dropped : length (s.dropped ++ take 1 s.queue) ≡ length s.dropped + 1 = ap (λ (l : List (Entry V)). length (s.dropped ++ l)) f.one ∙ length-append s.dropped (f.oldest ∷ []) in
      let more : gone + 1 ≡ length s.taken + length (s.dropped ++ take 1 s.queue) = omega (arith, dropped) in
      let less = f.less in
      record {
        within = let a = h.within in omega arith;
        low = omega arith;
        account = let a = h.account in let b = h.within in omega (arith, dropped);
        count = let a = h.count in omega (arith, dropped);
        window = ap (drop 1) h.window ∙ drop_more gone (numbered 0 s.puts) ∙ ap (λ (k : ℕ). drop k (numbered 0 s.puts)) more;
        below = all_map (λ e. e.position < gone) (λ e. e.position < length s.taken + length (s.dropped ++ take 1 s.queue)) s.taken (λ e k. omega (arith, k, more)) h.below;
      }

  sound_take : (capacity : ℕ) (s : RingState V) → s.queue ≢ [] → IsSound capacity s → IsSound capacity (after capacity s Take)
  sound_take capacity s some h =
      let f = front_of s.queue some in
      let x = f.oldest in
      let gone = length s.taken + length s.dropped in
      let now : s.taken ++ take 1 s.queue ≡ s.taken ++ x ∷ [] = ap (λ (l : List (Entry V)). s.taken ++ l) f.one in
      let taken : length (s.taken ++ take 1 s.queue) ≡ length s.taken + 1 = ap length now ∙ length-append s.taken (x ∷ []) in
      let more : gone + 1 ≡ length (s.taken ++ take 1 s.queue) + length s.dropped = omega (arith, taken) in
      let less = f.less in
      let at = front_at capacity s x (drop 1 s.queue) f.is h in
      let P : Entry V → Type 0 = λ e. e.position < length (s.taken ++ take 1 s.queue) + length s.dropped in
      record {
        within = let a = h.within in omega arith;
        low = h.low;
        account = h.account;
        count = let a = h.count in omega (arith, taken);
        window = ap (drop 1) h.window ∙ drop_more gone (numbered 0 s.puts) ∙ ap (λ (k : ℕ). drop k (numbered 0 s.puts)) more;
        below = subst (λ (l : List (Entry V)). AllByRecursion P l) (sym now) (all_more P s.taken x (all_map (λ e. e.position < gone) P s.taken (λ e k. omega (arith, k, more)) h.below) (omega (arith, at, more)));
      }

  sound_step : (capacity : ℕ) (s : RingState V) (e : RingEvent V) (t : RingState V) → IsSound capacity s → RingStep capacity s e t → IsSound capacity t
  sound_step capacity s (Put v) t h step = subst (λ (u : RingState V). IsSound capacity u) (sym step.change) (sound_put capacity s v step.allowed h)
  sound_step capacity s Drop t h step = subst (λ (u : RingState V). IsSound capacity u) (sym step.change) (sound_drop capacity s step.allowed.0 step.allowed.1 h)
  sound_step capacity s Take t h step = subst (λ (u : RingState V). IsSound capacity u) (sym step.change) (sound_take capacity s step.allowed h)

  sound_run : (capacity : ℕ) (es : List (RingEvent V)) (s t : RingState V) → IsSound capacity s → RingRun capacity s es t → IsSound capacity t
  sound_run capacity [] s t h run = subst (λ (u : RingState V). IsSound capacity u) (sym run) h
  sound_run capacity (e ∷ es) s t h run = sound_run capacity es run.0 t (sound_step capacity s e run.0 h run.1) run.2

  pub sound_reached : (capacity : ℕ) (s : RingState V) → IsReached capacity s → IsSound capacity s
  sound_reached capacity s r =
      sound_run capacity r.events new_ring s
      (record { within = omega arith; low = omega arith; account = omega arith; count = omega arith; window = refl; below = tt }) r.run

  pub new_reached : (capacity : ℕ) → IsReached {V = V} capacity new_ring
  new_reached capacity = record { events = []; run = refl }
