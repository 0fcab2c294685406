-- A reader that fits a relation: what it finds stands there, and what stands there it finds.
use Rattle.std.proofs.Common.{◌≡◌, ℕ, zero, suc, ◌+◌, ◌^◌, ◌<◌, ◌≤◌, Bool, true, false, cond, ltb, List, [], ◌∷◌, ◌++◌, length, get_or, take, drop, Result, Ok, Err, refl, sym, ap, ◌∙◌, subst, append_assoc, arith, add-one}
use Rattle.std.proofs.lemmas.Bool.{ltb-false, le-ltb, lt-ltb}
use Rattle.std.proofs.lemmas.List.{take_at, drop_at, take-append-drop, length-append, length-take}
use Rattle.byteorder.specs.Endian.{little_bytes, little_number}
use Rattle.xdf_model.specs.declared.types.Why.{Why}
use Rattle.xdf_model.specs.declared.types.NumRead.TheVariants.{Read, Short, BadWidth}
use Rattle.xdf_model.specs.Varlen.{is_width, IsVarlen, varlen_at}
use Rattle.xdf_model.specs.Reading.{Fault, outside, wrong, Found, ◌>>=◌, front_at, number_at, length_from, length_at, many_at, told}
use Rattle.xdf_model.specs.Sample.{Joined}
use Rattle.xdf_model_laws.proofs.Bytes.{IsBytes, IsBytes-rest, IsBytes-tail, little_bytes-little_number, length-little_bytes, little_number-back, little_number-again, little_number-take, little_number-lt}

abbrev pub found : {A : Type 0} → A → List ℕ → Found A
found a rest = Ok (a, rest)

abbrev pub ok : {A E : Type 0} → A → Result A E
ok a = Ok a

pub record IsReader {A : Type 0} (R : A → List ℕ → Type 0) (read : List ℕ → Found A) : Type 0 where
  pub sound : (b : List ℕ) (a : A) (rest : List ℕ) → IsBytes b → read b ≡ found a rest → (x : List ℕ) × R a x × (b ≡ x ++ rest)
  pub complete : (a : A) (x rest : List ℕ) → R a x → read (x ++ rest) ≡ found a rest

-- the value of a step that did not fail
pub bind_ok : {A B E : Type 0} (r : Result A E) (f : A → Result B E) (y : B) → (r >>= f) ≡ Ok y → (x : A) × (r ≡ Ok x) × (f x ≡ Ok y)
bind_ok (Ok x) f y e = (x, refl, e)
bind_ok (Err d) f y e = absurd cc

-- a test that did not fail
pub guard_ok : {A E : Type 0} (b : Bool) (d : E) (x y : A) → cond b (Err d) (Ok x) ≡ Ok y → (b ≡ false) × (x ≡ y)
guard_ok true d x y e = absurd cc
guard_ok false d x y e = (refl, cc)

pub ok_is : {A E : Type 0} (x y : A) → ok {E = E} x ≡ ok y → x ≡ y
ok_is x y e = cc

pub pair_0 : {A : Type 0} {x y : A} {s t : List ℕ} → found x s ≡ found y t → x ≡ y
pair_0 {A} {x} {y} {s} {t} e = ap (λ (p : A × List ℕ). p.0) (ok_is (x, s) (y, t) e)

pub pair_1 : {A : Type 0} {x y : A} {s t : List ℕ} → found x s ≡ found y t → s ≡ t
pair_1 {A} {x} {y} {s} {t} e = ap (λ (p : A × List ℕ). p.1) (ok_is (x, s) (y, t) e)

-- ---- the first n bytes

abbrev pub OfLength : ℕ → List ℕ → List ℕ → Type 0
OfLength n t b = (length t ≡ n) × (b ≡ t)

pub reads_front : (n : ℕ) → IsReader (OfLength n) (front_at n)
unfolding front_at
reads_front n = record {
  sound = λ b a rest h e.
      let g = guard_ok (ltb (length b) n) outside (take n b, drop n b) (a, rest) e in
      let long : n ≤ length b = ltb-false _ _ g.0 in
      let a-is : take n b ≡ a = ap (λ (p : List ℕ × List ℕ). p.0) g.1 in
      let rest-is : drop n b ≡ rest = ap (λ (p : List ℕ × List ℕ). p.1) g.1 in
      (take n b, (rw (← a-is) (omega (arith, length-take n b)), a-is), rw (← rest-is) (sym (take-append-drop n b)));
  complete = λ a x rest r.
      let len : length x ≡ n = ap length r.1 ∙ r.0 in
      let long : ltb (length (x ++ rest)) n ≡ false = le-ltb _ _ (omega (arith, length-append x rest)) in
      rw (long, take_at x rest n len, drop_at x rest n len, r.1) refl;
}

-- ---- a number of n bytes

abbrev pub IsNumberOf : ℕ → ℕ → List ℕ → Type 0
IsNumberOf k n b = (n < 256 ^ k) × (b ≡ little_bytes k n)

pub reads_number : (k : ℕ) → IsReader (IsNumberOf k) (number_at k)
unfolding number_at front_at
reads_number k = record {
  sound = λ b a rest h e.
      let g = bind_ok (front_at k b) (λ x. found (little_number k x.0) x.1) (a, rest) e in
      let f = guard_ok (ltb (length b) k) outside (take k b, drop k b) g.0 g.1 in
      let long : k ≤ length b = ltb-false _ _ f.0 in
      let x-is : take k b ≡ g.0.0 = ap (λ (p : List ℕ × List ℕ). p.0) f.1 in
      let y-is : drop k b ≡ g.0.1 = ap (λ (p : List ℕ × List ℕ). p.1) f.1 in
      let n-is : little_number k g.0.0 ≡ a = pair_0 g.2 in
      let rest-is : g.0.1 ≡ rest = pair_1 g.2 in
      let value : little_number k b ≡ a = sym (little_number-take k b long) ∙ ap (little_number k) x-is ∙ n-is in (
        take k b,
        (rw (← value) (little_number-lt k b h), sym (little_bytes-little_number k b h long) ∙ ap (little_bytes k) value),
        sym (take-append-drop k b) ∙ ap (λ (t : List ℕ). take k b ++ t) (y-is ∙ rest-is),
      );
  complete = λ a x rest r.
      let len : length x ≡ k = ap length r.1 ∙ length-little_bytes k a in
      let f = (reads_front k).complete x x rest (len, refl) in
      let again : little_number k x ≡ a = ap (little_number k) r.1 ∙ little_number-back k a r.0 in
      rw (f, again) refl;
}

-- ---- a number with its width

length_cases : (b : List ℕ) (good short : Bool) (w n used a : ℕ) (rest : List ℕ) → length_from b (cond good (cond short Short (Read n used)) (BadWidth w)) ≡ found a rest → (good ≡ true) × (short ≡ false) × (n ≡ a) × (drop used b ≡ rest)
length_cases b false short w n used a rest e = absurd cc
length_cases b true true w n used a rest e = absurd cc
length_cases b true false w n used a rest e = (refl, refl, pair_0 e, pair_1 e)

length_sound : (b : List ℕ) (a : ℕ) (rest : List ℕ) → IsBytes b → length_at b ≡ found a rest → (x : List ℕ) × IsVarlen a x × (b ≡ x ++ rest)
unfolding length_at varlen_at
length_sound [] a rest h e = absurd cc
length_sound (w ∷ b) a rest h e =
    let k = length_cases (w ∷ b) (is_width w) (ltb (length b) w) w (little_number w b) (w + 1) a rest e in
    let long : w ≤ length b = ltb-false _ _ k.1 in
    let fits = IsBytes-tail w b h in
    let text : w ∷ take w b ≡ w ∷ little_bytes w a = ap (λ (t : List ℕ). w ∷ t) (sym (little_bytes-little_number w b fits long) ∙ ap (little_bytes w) k.2) in
    let below : a < 256 ^ w = rw (← k.2) (little_number-lt w b fits) in
    let rest-is : drop w b ≡ rest = rw add-one at k.3 in
    (w ∷ take w b, record { width = w; width_is_one = k.0; fits = below; text = text }, ap (λ (t : List ℕ). w ∷ t) (sym (take-append-drop w b) ∙ ap (λ (t : List ℕ). take w b ++ t) rest-is))

length_complete : (a : ℕ) (x rest : List ℕ) → IsVarlen a x → length_at (x ++ rest) ≡ found a rest
unfolding length_at varlen_at
length_complete a x rest r =
    let w = r.width in
    let good : is_width w ≡ true = r.width_is_one in
    let len = length-little_bytes w a in
    let long : ltb (length (little_bytes w a ++ rest)) w ≡ false = le-ltb _ _ (omega (arith, length-append (little_bytes w a) rest)) in
    let value = little_number-again w a rest r.fits in
    rw (r.text, good, long, value, add-one) (rw (drop_at (little_bytes w a) rest w len) refl)

pub reads_length : IsReader IsVarlen length_at
reads_length = record { sound = length_sound; complete = length_complete }

-- ---- the front of some bytes as a number with its width

num_cases : (good short : Bool) (w n used a m : ℕ) → cond good (cond short Short (Read n used)) (BadWidth w) ≡ Read a m → (good ≡ true) × (short ≡ false) × (n ≡ a) × (used ≡ m)
num_cases false short w n used a m e = absurd cc
num_cases true true w n used a m e = absurd cc
num_cases true false w n used a m e = (refl, refl, cc, cc)

pub num_sound : (b : List ℕ) (n used : ℕ) → IsBytes b → varlen_at b ≡ Read n used → (x : List ℕ) × IsVarlen n x × (length x ≡ used) × (b ≡ x ++ drop used b)
unfolding varlen_at
num_sound [] n used h e = absurd cc
num_sound (w ∷ b) n used h e =
    let k = num_cases (is_width w) (ltb (length b) w) w (little_number w b) (w + 1) n used e in
    let long : w ≤ length b = ltb-false _ _ k.1 in
    let fits = IsBytes-tail w b h in
    let text : w ∷ take w b ≡ w ∷ little_bytes w n = ap (λ (t : List ℕ). w ∷ t) (sym (little_bytes-little_number w b fits long) ∙ ap (little_bytes w) k.2) in
    let below : n < 256 ^ w = rw (← k.2) (little_number-lt w b fits) in
    let size : suc w ≡ used = rw add-one at k.3 in
    let len : length (w ∷ take w b) ≡ used = omega (arith, length-take w b) in
    let num : IsVarlen n (w ∷ take w b) = record { width = w; width_is_one = k.0; fits = below; text = text } in
    (w ∷ take w b, num, len, ap (λ (t : List ℕ). w ∷ t) (sym (take-append-drop w b)) ∙ ap (λ (m : ℕ). w ∷ take w b ++ drop m (w ∷ b)) size)

pub num_again : (n : ℕ) (x rest : List ℕ) → IsVarlen n x → varlen_at (x ++ rest) ≡ Read n (length x)
unfolding varlen_at
num_again n x rest r =
    let w = r.width in
    let good : is_width w ≡ true = r.width_is_one in
    let len = length-little_bytes w n in
    let long : ltb (length (little_bytes w n ++ rest)) w ≡ false = le-ltb _ _ (omega (arith, length-append (little_bytes w n) rest)) in
    let value = little_number-again w n rest r.fits in
    let size : w + 1 ≡ length (w ∷ little_bytes w n) = omega (arith, len) in
    rw (r.text, good, long, value, size) refl

-- too few bytes of a number
pub num_torn : (n : ℕ) (p q : List ℕ) → IsVarlen n (p ++ q) → 0 < length q → varlen_at p ≡ Short
unfolding varlen_at
num_torn n [] q r more = refl
num_torn n (w ∷ p) q r more =
    let w-is : w ≡ r.width = ap (λ (t : List ℕ). get_or t 0 0) r.text in
    let good : is_width w ≡ true = ap is_width w-is ∙ r.width_is_one in
    let len : suc (length p + length q) ≡ suc r.width = omega (arith, ap length r.text, length-append p q, length-little_bytes r.width n) in
    let short : ltb (length p) w ≡ true = lt-ltb _ _ (omega (arith, w-is)) in
    rw (good, short) refl

-- ---- several values, one after the other

abbrev pub IsJoined : {A : Type 0} → (A → List ℕ → Type 0) → ℕ → List A → List ℕ → Type 0
IsJoined R n items b = (length items ≡ n) × Joined R items b

many_sound : {A : Type 0} (R : A → List ℕ → Type 0) (read : List ℕ → Found A) → IsReader R read → (n : ℕ) (b : List ℕ) (items : List A) (rest : List ℕ) → IsBytes b → many_at read n b ≡ found items rest → (x : List ℕ) × IsJoined R n items x × (b ≡ x ++ rest)
unfolding many_at
many_sound {A} R read reader zero b items rest h e =
    ([], subst (λ (l : List A). IsJoined R zero l []) (pair_0 e) (refl, refl), pair_1 e)
many_sound {A} R read reader (suc n) b items rest h e =
    let g = bind_ok (read b) (λ x. many_at read n x.1 >>= λ xs. found (x.0 ∷ xs.0) xs.1) (items, rest) e in
    let k = bind_ok (many_at read n g.0.1) (λ xs. found (g.0.0 ∷ xs.0) xs.1) (items, rest) g.2 in
    let one = reader.sound b g.0.0 g.0.1 h g.1 in
    let more = many_sound R read reader n g.0.1 k.0.0 k.0.1 (IsBytes-rest one.0 g.0.1 b h one.2) k.1 in
    let as-is : g.0.0 ∷ k.0.0 ≡ items = pair_0 k.2 in
    let rest-is : k.0.1 ≡ rest = pair_1 k.2 in
    let joined : IsJoined R (suc n) (g.0.0 ∷ k.0.0) (one.0 ++ more.0) = (omega (arith, more.1.0), (one.0, more.0, one.1, more.1.1, refl)) in
    let parts : b ≡ (one.0 ++ more.0) ++ rest = one.2 ∙ ap (λ (t : List ℕ). one.0 ++ t) (more.2 ∙ ap (λ (t : List ℕ). more.0 ++ t) rest-is) ∙ sym (append_assoc one.0 more.0 rest) in
    (one.0 ++ more.0, subst (λ (l : List A). IsJoined R (suc n) l (one.0 ++ more.0)) as-is joined, parts)

many_complete : {A : Type 0} (R : A → List ℕ → Type 0) (read : List ℕ → Found A) → IsReader R read → (n : ℕ) (items : List A) (x rest : List ℕ) → IsJoined R n items x → many_at read n (x ++ rest) ≡ found items rest
unfolding many_at
many_complete {A} R read reader n [] x rest r = rw (← r.0, r.1) refl
many_complete {A} R read reader n (a ∷ items) x rest r =
    let parts : x ++ rest ≡ r.1.0 ++ (r.1.1 ++ rest) = ap (λ (t : List ℕ). t ++ rest) r.1.4 ∙ append_assoc r.1.0 r.1.1 rest in
    let first = reader.complete a r.1.0 (r.1.1 ++ rest) r.1.2 in
    let others = many_complete R read reader (length items) items r.1.1 rest (refl, r.1.3) in
    rw (← r.0, parts, first, others) refl

pub reads_many : {A : Type 0} (R : A → List ℕ → Type 0) (read : List ℕ → Found A) → IsReader R read → (n : ℕ) → IsReader (IsJoined R n) (many_at read n)
reads_many R read reader n = record {
  sound = many_sound R read reader n;
  complete = many_complete R read reader n;
}

-- ---- a reason for a byte that lies outside

pub told_ok : {A : Type 0} (left : ℕ) (reason : Why) (r : Result A Fault) (y : A) → told left reason r ≡ ok y → r ≡ ok y
told_ok left reason (Ok x) y e = e
told_ok left reason (Err outside) y e = absurd cc
told_ok left reason (Err (wrong at other)) y e = absurd cc

pub reads_told : {A : Type 0} (R : A → List ℕ → Type 0) (read : List ℕ → Found A) (left : List ℕ → ℕ) (reason : Why) → IsReader R read → IsReader R (λ b. told (left b) reason (read b))
reads_told R read left reason reader = record {
  sound = λ b a rest h e. reader.sound b a rest h (told_ok (left b) reason (read b) (a, rest) e);
  complete = λ a x rest r. rw (reader.complete a x rest r) refl;
}

-- ---- what is read has one reading

length_of : {A : Type 0} (a x b y : List A) → a ++ x ≡ b ++ y → x ≡ y → length a ≡ length b
length_of a x b y e same = omega (arith, ap length e, length-append a x, length-append b y, ap length same)

front_same : (a x b y : List ℕ) → a ++ x ≡ b ++ y → length a ≡ length b → a ≡ b
front_same a x b y e same = sym (take_at a x (length a) refl) ∙ ap (take (length a)) e ∙ take_at b y (length a) (sym same)

-- where a reader fits a relation, no text begins another, and a text has one value
pub one_reading : {A : Type 0} (R : A → List ℕ → Type 0) (read : List ℕ → Found A) → IsReader R read → (s t : A) (a b x y : List ℕ) → R s a → R t b → a ++ x ≡ b ++ y → (s ≡ t) × (a ≡ b)
one_reading R read reader s t a b x y r q e =
    let same : found s x ≡ found t y = sym (reader.complete s a x r) ∙ ap read e ∙ reader.complete t b y q in
    (pair_0 same, front_same a x b y e (length_of a x b y e (pair_1 same)))

pub one_number : (m n : ℕ) (a b x y : List ℕ) → IsVarlen m a → IsVarlen n b → a ++ x ≡ b ++ y → (m ≡ n) × (a ≡ b)
one_number m n a b x y r q e = one_reading IsVarlen length_at reads_length m n a b x y r q e
