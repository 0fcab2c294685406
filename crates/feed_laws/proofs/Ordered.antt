-- Numbers in a feed's order: what is written is read, and what was read stands there.
use Rattle.std.proofs.Common.{◌≡◌, ℕ, zero, suc, ◌+◌, ◌-◌, ◌*◌, ◌/◌, ◌%◌, ◌^◌, ◌<◌, ◌≤◌, List, [], ◌∷◌, ◌++◌, length, take, refl, sym, ap, ◌∙◌, arith, pow-add}
use Rattle.std.proofs.Math.Nat.{mul-add-div, mul-add-mod_self_left, mod-eq_of_lt, div-eq_of_lt, div-one, one-le-pow, pow-succ', mul_left_comm, mul_comm}
use Rattle.std.specs.Int.{byte_at, bytes_high_first}
use Rattle.byteorder.specs.Endian.{big_number, big_bytes, big_from}
use Rattle.byteorder.specs.Numbers.{big_from-cons, big_from-append, big_from-lt, big_number-reads_back, little_from-append, length-bytes_high_first}
use Rattle.xdf_model_laws.proofs.Bytes.{IsBytes, IsBytes-tail, little_bytes-little_number, length-little_bytes, little_number-again, little_number-lt}
use Rattle.feed_model.specs.declared.Order.{Order}
use Rattle.feed_model.specs.declared.Order.TheVariants.{Little, Big}
use Rattle.feed_model.specs.Feed.{ordered_bytes}
use Rattle.feed_model.specs.FeedReading.{ordered_number}

byte_at-div : (n x : ℕ) → byte_at n x ≡ x / 256 ^ n % 256
byte_at-div zero x = ap (λ (y : ℕ). y % 256) (sym (div-one x))
byte_at-div (suc n) x = refl

above_zero : (n : ℕ) → 0 < 256 ^ n
above_zero n = let h = one-le-pow n 256 (omega arith) in omega arith

-- a byte doesn't see what lies above it
byte_at-above : (n d c m : ℕ) → byte_at n (c * 256 ^ (n + suc d) + m) ≡ byte_at n m
byte_at-above n d c m =
    let power : 256 ^ (n + suc d) ≡ 256 ^ n * (256 * 256 ^ d) = pow-add 256 n (suc d) ∙ ap (λ (p : ℕ). 256 ^ n * p) (pow-succ' 256 d) in
    let front : c * 256 ^ (n + suc d) ≡ 256 ^ n * (256 * (c * 256 ^ d)) =
    ap (λ (p : ℕ). c * p) power ∙ mul_left_comm c (256 ^ n) (256 * 256 ^ d) ∙ ap (λ (p : ℕ). 256 ^ n * p) (mul_left_comm c 256 (256 ^ d)) in
    let divided : (c * 256 ^ (n + suc d) + m) / 256 ^ n ≡ 256 * (c * 256 ^ d) + m / 256 ^ n =
    ap (λ (p : ℕ). (p + m) / 256 ^ n) front ∙ mul-add-div (above_zero n) (256 * (c * 256 ^ d)) m in
    byte_at-div n (c * 256 ^ (n + suc d) + m) ∙ ap (λ (p : ℕ). p % 256) divided ∙ mul-add-mod_self_left 256 (c * 256 ^ d) (m / 256 ^ n) ∙ sym (byte_at-div n m)

bytes_high_first-above : (n p c m : ℕ) → n ≤ p → bytes_high_first n (c * 256 ^ p + m) ≡ bytes_high_first n m
bytes_high_first-above zero p c m le = refl
bytes_high_first-above (suc n) p c m le =
    let at : n + suc (p - suc n) ≡ p = omega arith in
    let head : byte_at n (c * 256 ^ p + m) ≡ byte_at n m = ap (λ (q : ℕ). byte_at n (c * 256 ^ q + m)) (sym at) ∙ byte_at-above n (p - suc n) c m in
    let tail = bytes_high_first-above n p c m (omega arith) in
    rw (head, tail) refl

big_bytes-big_number : (k : ℕ) (b : List ℕ) → IsBytes b → k ≤ length b → big_bytes k (big_number k b) ≡ take k b
big_bytes-big_number zero b h le = refl
big_bytes-big_number (suc k) [] h le = absurd (omega arith)
big_bytes-big_number (suc k) (c ∷ b) h le =
    let m = big_number k b in
    let moved : big_from 1 k (c ∷ b) ≡ m = big_from-cons 0 k c b in
    let low : c < 256 = h 0 in
    let below : m < 256 ^ k = big_from-lt 0 k b (IsBytes-tail c b h) in
    let quotient : (c * 256 ^ k + m) / 256 ^ k ≡ c =
    ap (λ (p : ℕ). (p + m) / 256 ^ k) (mul_comm c (256 ^ k)) ∙ mul-add-div (above_zero k) c m ∙ ap (λ (q : ℕ). c + q) (div-eq_of_lt below) ∙ omega arith in
    let head : byte_at k (c * 256 ^ k + m) ≡ c = byte_at-div k (c * 256 ^ k + m) ∙ ap (λ (q : ℕ). q % 256) quotient ∙ mod-eq_of_lt low in
    let tail : bytes_high_first k (c * 256 ^ k + m) ≡ take k b = bytes_high_first-above k k c m (omega arith) ∙ big_bytes-big_number k b (IsBytes-tail c b h) (omega arith) in
    rw (moved, head, tail) refl

-- what was read is what stands there
pub ordered_bytes-ordered_number : (order : Order) (k : ℕ) (b : List ℕ) → IsBytes b → k ≤ length b → ordered_bytes order k (ordered_number order k b) ≡ take k b
ordered_bytes-ordered_number Little k b h le = little_bytes-little_number k b h le
ordered_bytes-ordered_number Big k b h le = big_bytes-big_number k b h le

-- what was written is read
pub ordered_number-again : (order : Order) (k n : ℕ) (rest : List ℕ) → n < 256 ^ k → ordered_number order k (ordered_bytes order k n ++ rest) ≡ n
ordered_number-again Little k n rest lt = little_number-again k n rest lt
ordered_number-again Big k n rest lt = big_number-reads_back k n rest lt

-- the number reads only its bytes
pub ordered_number-append : (order : Order) (k : ℕ) (b more : List ℕ) → k ≤ length b → ordered_number order k (b ++ more) ≡ ordered_number order k b
ordered_number-append Little k b more le = little_from-append k b more le
ordered_number-append Big k b more le = big_from-append k b more le

pub ordered_number-lt : (order : Order) (k : ℕ) (b : List ℕ) → IsBytes b → ordered_number order k b < 256 ^ k
ordered_number-lt Little k b h = little_number-lt k b h
ordered_number-lt Big k b h = big_from-lt 0 k b h

pub length-ordered_bytes : (order : Order) (k n : ℕ) → length (ordered_bytes order k n) ≡ k
length-ordered_bytes Little k n = length-little_bytes k n
length-ordered_bytes Big k n = length-bytes_high_first k n
