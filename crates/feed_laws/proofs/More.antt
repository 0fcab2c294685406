-- More bytes behind an answer other than short don't change it, and what is told stands within the bytes.
use Rattle.std.proofs.Common.{◌≡◌, ℕ, ◌≤◌, true, false, cond, ltb, List, [], ◌++◌, length, take, drop, Ok, Err, refl, sym, ap, ◌∙◌, subst, append_assoc, arith, inl, inr}
use Rattle.std.proofs.lemmas.Bool.{cases_lt, le-ltb, lt-ltb}
use Rattle.std.proofs.lemmas.List.{length-append, take-append-le, drop-append-le, take-append-drop}
use Rattle.xdf_model.specs.Reading.{◌>>=◌}
use Rattle.feed_model.specs.declared.Order.{Order}
use Rattle.feed_model.specs.FeedReading.{FeedFault, short, bad_tag, bad_width, too_long, Taken, ordered_number, ordered_at, bytes_at}
use Rattle.feed_laws.specs.Followed.{followed, StandsWithin}
use Rattle.feed_laws.proofs.Ordered.{ordered_number-append}
use Rattle.feed_laws.proofs.Steps.{taken, failed, same_rest}

-- what a reader tells of some bytes is told of every longer input, and stands within them
pub record IsSteady {A : Type 0} (read : List ℕ → Taken A) : Type 0 where
  pub more : (b more : List ℕ) → (read b ≡ failed short → ⊥) → read (b ++ more) ≡ followed more (read b)
  pub rest : (b : List ℕ) (a : A) (rest : List ℕ) → read b ≡ taken a rest → (x : List ℕ) × (b ≡ x ++ rest)
  pub fault : (b : List ℕ) (f : FeedFault) → read b ≡ failed f → StandsWithin (length b) f

-- ---- nothing is read

pub steady_none : {A : Type 0} (a : A) → IsSteady (λ b. taken a b)
steady_none a = record {
  more = λ b more h. refl;
  rest = λ b x rest e. ([], same_rest e);
  fault = λ b f e. absurd cc;
}

-- ---- one after the other

pub within_more : (m n : ℕ) (f : FeedFault) → m ≤ n → StandsWithin m f → StandsWithin n f
within_more m n short le h = tt
within_more m n (bad_tag left byte) le h = (h.0, omega (arith, h.1))
within_more m n (bad_width left byte) le h = (h.0, omega (arith, h.1))
within_more m n (too_long left) le h = (h.0, omega (arith, h.1))

then_more : {A B : Type 0} (next : A → List ℕ → Taken B) (steady : (a : A) → IsSteady (next a)) (longer : Taken A) (more : List ℕ) (r : Taken A) → ((r ≡ failed short → ⊥) → longer ≡ followed more r) → ((r >>= λ x. next x.0 x.1) ≡ failed short → ⊥)
    → (longer >>= λ x. next x.0 x.1) ≡ followed more (r >>= λ x. next x.0 x.1)
then_more next steady longer more (Ok x) e h =
    let same = e (λ wrong. absurd cc) in
    rw same ((steady x.0).more x.1 more h)
then_more next steady longer more (Err f) e h =
    let same = e (λ wrong. h (let k : f ≡ short = cc in ap failed k)) in
    rw same refl

then_rest : {A B : Type 0} (next : A → List ℕ → Taken B) (steady : (a : A) → IsSteady (next a)) (b : List ℕ) (r : Taken A) → ((a : A) (rest : List ℕ) → r ≡ taken a rest → (x : List ℕ) × (b ≡ x ++ rest)) → (c : B) (rest : List ℕ)
    → (r >>= λ x. next x.0 x.1) ≡ taken c rest → (x : List ℕ) × (b ≡ x ++ rest)
then_rest next steady b (Ok x) whole c rest e =
    let first = whole x.0 x.1 refl in
    let second = (steady x.0).rest x.1 c rest e in
    (first.0 ++ second.0, first.1 ∙ ap (λ (t : List ℕ). first.0 ++ t) second.1 ∙ sym (append_assoc first.0 second.0 rest))
then_rest next steady b (Err f) whole c rest e = absurd cc

then_fault : {A B : Type 0} (next : A → List ℕ → Taken B) (steady : (a : A) → IsSteady (next a)) (b : List ℕ) (r : Taken A) → ((a : A) (rest : List ℕ) → r ≡ taken a rest → (x : List ℕ) × (b ≡ x ++ rest))
    → ((f : FeedFault) → r ≡ failed f → StandsWithin (length b) f) → (f : FeedFault) → (r >>= λ x. next x.0 x.1) ≡ failed f → StandsWithin (length b) f
then_fault next steady b (Ok x) whole fault f e =
    let first = whole x.0 x.1 refl in
    let shorter : length x.1 ≤ length b = omega (arith, ap length first.1, length-append first.0 x.1) in
    within_more (length x.1) (length b) f shorter ((steady x.0).fault x.1 f e)
then_fault next steady b (Err g) whole fault f e = fault f (let k : g ≡ f = cc in ap failed k)

pub steady_then : {A B : Type 0} (read : List ℕ → Taken A) (next : A → List ℕ → Taken B) → IsSteady read → ((a : A) → IsSteady (next a)) → IsSteady (λ b. read b >>= λ x. next x.0 x.1)
steady_then read next one steady = record {
  more = λ b more h. then_more next steady (read (b ++ more)) more (read b) (one.more b more) h;
  rest = λ b c rest e. then_rest next steady b (read b) (one.rest b) c rest e;
  fault = λ b f e. then_fault next steady b (read b) (one.rest b) (one.fault b) f e;
}

-- ---- so many bytes

steady_bytes : {A : Type 0} (n : ℕ) (value : List ℕ → A) → ((b more : List ℕ) → n ≤ length b → value (b ++ more) ≡ value b) → IsSteady (λ b. cond (ltb (length b) n) (failed short) (taken (value b) (drop n b)))
steady_bytes n value same = record {
  more = λ b more h. elim (cases_lt (length b) n) [
    | inl few ↦ let t : ltb (length b) n ≡ true = lt-ltb _ _ few in absurd (h (rw t refl))
    | inr enough ↦
        let t : ltb (length b) n ≡ false = le-ltb _ _ enough in
        let u : ltb (length (b ++ more)) n ≡ false = le-ltb _ _ (omega (arith, length-append b more)) in
        rw (t, u, same b more enough, drop-append-le n b more enough) refl
  ];
  rest = λ b a rest e. elim (cases_lt (length b) n) [
    | inl few ↦ let t : ltb (length b) n ≡ true = lt-ltb _ _ few in absurd (let k = rw t at e in cc)
    | inr enough ↦
        let t : ltb (length b) n ≡ false = le-ltb _ _ enough in
        let k : taken (value b) (drop n b) ≡ taken a rest = rw t at e in
        (take n b, sym (take-append-drop n b) ∙ ap (λ (y : List ℕ). take n b ++ y) (same_rest k))
  ];
  fault = λ b f e. elim (cases_lt (length b) n) [
    | inl few ↦ let t : ltb (length b) n ≡ true = lt-ltb _ _ few in let k : failed short ≡ failed f = rw t at e in let g : short ≡ f = cc in subst (StandsWithin (length b)) g tt
    | inr enough ↦ let t : ltb (length b) n ≡ false = le-ltb _ _ enough in absurd (let k = rw t at e in cc)
  ];
}

pub steady_ordered : (order : Order) (k : ℕ) → IsSteady (ordered_at order k)
unfolding ordered_at
steady_ordered order k =
    let s = steady_bytes k (ordered_number order k) (ordered_number-append order k) in
    record { more = s.more; rest = s.rest; fault = s.fault }

pub steady_front : (n : ℕ) → IsSteady (bytes_at n)
unfolding bytes_at
steady_front n =
    let s = steady_bytes n (take n) (take-append-le n) in
    record { more = s.more; rest = s.rest; fault = s.fault }
