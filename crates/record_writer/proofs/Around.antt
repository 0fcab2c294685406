-- A chunk's texts with what stands before them, and with the boundary behind.
use Rattle.std.proofs.Common.{◌≡◌, ℕ, ◌+◌, ◌-◌, ◌≤◌, List, ◌++◌, length, take, drop, sym, ap, ◌∙◌, length-append, length-drop, arith}
use Rattle.std.proofs.lemmas.List.{drop-append-le, take_all, take_at, length-take-le}
use Rattle.std.proofs.lemmas.Slice.{drop-put_mid}
use borrow.Rule.Slice.PartMut.{put_mid, same_len_mid}
use Rattle.record_writer.specs.Texts.{head_text, raw_text, with_boundary, due_text}

-- what is written: head, texts and boundary
sealed : (old before all head : List ℕ) (from since size : ℕ) → drop from before ≡ head ++ drop 24 old → length before ≡ length old → from + length head ≡ 24 → 24 ≤ length old
    → size ≡ length old - from → all ≡ before ++ due_text (since + size) → drop from all ≡ with_boundary since (head ++ drop 24 old)
sealed old before all head from since size is same place long sized due =
    let text = head ++ drop 24 old in
    let count : size ≡ length text = omega (arith, place, long, sized, length-append head (drop 24 old), length-drop 24 old) in
    ap (λ (t : List ℕ). drop from t) due
    ∙ drop-append-le from before (due_text (since + size)) (omega (arith, same, place, long))
    ∙ ap (λ (t : List ℕ). t ++ due_text (since + size)) is
    ∙ ap (λ (n : ℕ). text ++ due_text (since + n)) count

-- the texts stay where what stands before them is laid
pub texts_stay : (n a k : ℕ) (old now head rest : List ℕ) → now ≡ old → n ≡ length old → a + k ≡ 24 → 24 ≤ length old → length head ≡ k → drop 24 (take n (put_mid a k now head ++ rest)) ≡ drop 24 old
texts_stay n a k old now head rest is all place long size =
    let here : length now ≡ length old = ap length is in
    let behind = length-drop a now in
    let part : length (take k (drop a now)) ≡ k = length-take-le k (drop a now) (omega (arith, behind, here, place, long)) in
    let whole : length (put_mid a k now head) ≡ length now = same_len_mid a k now head (size ∙ sym part) in
    let front : take n (put_mid a k now head ++ rest) ≡ put_mid a k now head = take_at (put_mid a k now head) rest n (whole ∙ here ∙ sym all) in
    ap (λ (t : List ℕ). drop 24 t) front
    ∙ drop-put_mid a k now head 24 (omega (arith, place)) (omega (arith, here, place, long)) size
    ∙ ap (λ (t : List ℕ). drop 24 t) is

-- the same, by what the head is
pub chunk_is : (old before all head seen : List ℕ) (from since size id count len : ℕ) → drop from before ≡ head ++ drop 24 old → length before ≡ length old → from + length head ≡ 24 → 24 ≤ length old
    → size ≡ length old - from → all ≡ before ++ due_text (since + size) → head ≡ head_text id count len → len ≡ length old - 24 → seen ≡ all
    → take (length seen - from) (drop from seen) ≡ with_boundary since (raw_text id count (drop 24 old))
chunk_is old before all head seen from since size id count len is same place long sized due heads counted sees =
    let texts = drop 24 old in
    let k : len ≡ length texts = omega (arith, counted, long, length-drop 24 old) in
    let rest : length (drop from seen) ≤ length seen - from = omega (arith, length-drop from seen) in
    take_all (length seen - from) (drop from seen) rest
    ∙ ap (λ (t : List ℕ). drop from t) sees
    ∙ sealed old before all head from since size is same place long sized due
    ∙ ap (λ (h : List ℕ). with_boundary since (h ++ texts)) (heads ∙ ap (λ (n : ℕ). head_text id count n) k)

-- how many bytes head and texts are
pub chunk_size : (old head : List ℕ) (from size id count len : ℕ) → from + length head ≡ 24 → 24 ≤ length old → size ≡ length old - from → head ≡ head_text id count len → len ≡ length old - 24
    → size ≡ length (raw_text id count (drop 24 old))
chunk_size old head from size id count len place long sized heads counted =
    let texts = drop 24 old in
    let k : len ≡ length texts = omega (arith, counted, long, length-drop 24 old) in
    let all : size ≡ length (head ++ texts) = omega (arith, place, long, sized, length-append head texts, length-drop 24 old) in
    all ∙ ap (λ (h : List ℕ). length (h ++ texts)) (heads ∙ ap (λ (n : ℕ). head_text id count n) k)
