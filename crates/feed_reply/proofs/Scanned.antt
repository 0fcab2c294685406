-- What a scan knows, and what it knows after a line.
use Rattle.std.proofs.Common.{◌≡◌, ℕ, zero, suc, ◌+◌, ◌-◌, ◌<◌, ◌≤◌, inl, inr, ◌⊎◌, Bool, true, false, cond, add-one, List, [], ◌∷◌, ◌++◌, length, take, drop, get_or, take_all, Some, None, Ok, refl, sym, ap, ◌∙◌, subst, append_assoc, arith, nat_eq}
use Rattle.std.specs.List.{starts_with}
use Rattle.std.proofs.lemmas.List.{append-nil, length-append, length-take-le, length-drop, drop-drop, take-append-le, drop-append-le, take_more}
use Rattle.reply_model.specs.Lines.{Lines, rest, line, line_end, with_byte, lines_in}
use Rattle.reply_model.specs.Reply.{accepts_line, empty_line, behind_line}
use Rattle.feed_reply.specs.declared.scan.ReplyScan.{ReplyScan}
use Rattle.feed_reply.specs.Views.{IsFirstLine, with_front}
use Rattle.feed_reply.specs.Scan.{IsScanOf}
use Rattle.feed_reply.proofs.FirstLine.{no_front}
use Rattle.feed_reply.proofs.Walk.{goes_on}

abbrev pub scan_of : ℕ → ℕ → ℕ → ReplyScan
scan_of at number seen = record { at = at; number = number; seen = seen }

pub scan_new : (b : List ℕ) → IsScanOf b (scan_of 0 0 0)
scan_new b = record { there = omega arith; few = omega arith; lines = λ more. refl; line = λ more. no_front (lines_in (b ++ more)) }

-- ---- longer inputs

pub scan_longer : (b more : List ℕ) (scan : ReplyScan) → IsScanOf b scan → IsScanOf (b ++ more) scan
scan_longer b more scan k =
    let at = scan.at in
    let seen = scan.seen in
    let c = drop scan.at b in
    let there = k.there in
    let begin : drop at (b ++ more) ≡ c ++ more = drop-append-le at b more (omega (arith, there)) in
    let size : seen ≤ length c = omega (arith, there, length-drop at b) in
    record {
      there = omega (arith, there, length-append b more);
      few = k.few;
      lines = λ last. ap (λ (t : List ℕ). empty_line 0 0 (lines_in t)) (append_assoc b more last) ∙ k.lines (more ++ last)
          ∙ ap (λ (t : List ℕ). empty_line scan.number at (lines_in t)) (sym (append_assoc c more last) ∙ ap (λ (t : List ℕ). t ++ last) (sym begin));
      line = λ last.
          let one : lines_in ((c ++ more) ++ last) ≡ with_front (take seen (c ++ more)) (lines_in (drop seen (c ++ more) ++ last)) =
          ap lines_in (append_assoc c more last) ∙ k.line (more ++ last)
          ∙ ap (λ (t : List ℕ). with_front t (lines_in (drop seen c ++ (more ++ last)))) (sym (take-append-le seen c more size))
          ∙ ap (λ (t : List ℕ). with_front (take seen (c ++ more)) (lines_in t)) (sym (append_assoc (drop seen c) more last) ∙ ap (λ (t : List ℕ). t ++ last) (sym (drop-append-le seen c more size))) in
          subst (λ (t : List ℕ). lines_in (t ++ last) ≡ with_front (take seen t) (lines_in (drop seen t ++ last))) (sym begin) one;
    }

-- ---- the line that was looked at

-- no line end begins at the bytes that were looked at
pub seen_front : (b : List ℕ) (scan : ReplyScan) → IsScanOf b scan → lines_in (drop scan.at b) ≡ with_front (take scan.seen (drop scan.at b)) (lines_in (drop scan.seen (drop scan.at b)))
seen_front b scan k =
    let c = drop scan.at b in
    ap lines_in (sym (append-nil c)) ∙ k.line [] ∙ ap (λ (t : List ℕ). with_front (take scan.seen c) (lines_in t)) (append-nil (drop scan.seen c))

pub lines_here : (b : List ℕ) (scan : ReplyScan) → IsScanOf b scan → empty_line 0 0 (lines_in b) ≡ empty_line scan.number scan.at (lines_in (drop scan.at b))
lines_here b scan k =
    ap (λ (t : List ℕ). empty_line 0 0 (lines_in t)) (sym (append-nil b)) ∙ k.lines [] ∙ ap (λ (t : List ℕ). empty_line scan.number scan.at (lines_in t)) (append-nil (drop scan.at b))

push_byte : (x : ℕ) (xs : List ℕ) (u : Lines) → with_byte x (with_front xs u) ≡ with_front (x ∷ xs) u
push_byte x xs (rest b) = refl
push_byte x xs (line text more) = refl

-- where the first of two bytes begins no line end and there is none behind it
end_not_here : (c : Bool) (x : ℕ) (u v : Lines) (b : List ℕ) → cond c (line [] u) (with_byte x v) ≡ rest (x ∷ b) → (c ≡ false) × (v ≡ rest b)
end_not_here true x u v b e = absurd cc
end_not_here false x u (rest d) b e = (refl, cc)
end_not_here false x u (line text more) b e = absurd cc

-- a line end may begin at the last byte alone
no_end : (n : ℕ) (c more : List ℕ) → lines_in c ≡ rest c → n ≤ length c - 1 → lines_in (c ++ more) ≡ with_front (take n c) (lines_in (drop n c ++ more))
unfolding lines_in
no_end zero c more e le = no_front (lines_in (c ++ more))
no_end (suc n) [] more e le = absurd (omega (arith, le))
no_end (suc n) (x ∷ []) more e le = absurd (omega (arith, le))
no_end (suc n) (x ∷ y ∷ b) more e le =
    let k = end_not_here (starts_with nat_eq (x ∷ y ∷ b) line_end) x (lines_in b) (lines_in (y ∷ b)) (y ∷ b) e in
    let next = no_end n (y ∷ b) more k.1 (omega (arith, le)) in
    let first : lines_in (x ∷ y ∷ (b ++ more)) ≡ with_byte x (lines_in (y ∷ (b ++ more))) = rw k.0 refl in
    first ∙ ap (with_byte x) next ∙ push_byte x (take n (y ∷ b)) (lines_in (drop n (y ∷ b) ++ more))

pub scan_seen : (b : List ℕ) (scan : ReplyScan) (seen : ℕ) → IsScanOf b scan → IsFirstLine (drop scan.at b) None → seen ≡ length b - scan.at - 1 → IsScanOf b (scan_of scan.at scan.number seen)
scan_seen b scan seen k first e =
    let there = k.there in
    record {
      there = omega (arith, there, e);
      few = k.few;
      lines = k.lines;
      line = λ more. no_end seen (drop scan.at b) more first (omega (arith, e, length-drop scan.at b));
    }

-- ---- a line that is complete

line_not_here : (c : Bool) (x : ℕ) (u v : Lines) (text : List ℕ) (more : Lines) → cond c (line [] u) (with_byte x v) ≡ line text more → ((c ≡ true) × (text ≡ [])) ⊎ ((c ≡ false) × (t : List ℕ) × (v ≡ line t more) × (text ≡ x ∷ t))
line_not_here true x u v text more e = inl (refl, cc)
line_not_here false x u (rest d) text more e = absurd cc
line_not_here false x u (line t w) text more e = inr (refl, t, let k : w ≡ more = cc in ap (line t) k, cc)

-- it is complete in every longer text, and the same
line_longer : (c more text : List ℕ) (u : Lines) → lines_in c ≡ line text u → lines_in (c ++ more) ≡ line text (lines_in (drop (length text + 2) c ++ more))
unfolding lines_in
line_longer [] more text u e = absurd cc
line_longer (x ∷ []) more text u e = absurd cc
line_longer (x ∷ y ∷ b) more text u e =
    elim (line_not_here (starts_with nat_eq (x ∷ y ∷ b) line_end) x (lines_in b) (lines_in (y ∷ b)) text u e) [
      | inl k ↦ rw (k.0, k.1) refl
      | inr k ↦
          let next = line_longer (y ∷ b) more k.1 u k.2 in
          let first : lines_in (x ∷ y ∷ (b ++ more)) ≡ with_byte x (lines_in (y ∷ (b ++ more))) = rw k.0 refl in
          let size : length (x ∷ k.1) + 2 ≡ suc (length k.1 + 2) = omega arith in
          let place : drop (length (x ∷ k.1) + 2) (x ∷ y ∷ b) ≡ drop (length k.1 + 2) (y ∷ b) = ap (λ (n : ℕ). drop n (x ∷ y ∷ b)) size in
          first ∙ ap (with_byte x) next ∙ ap (λ (t : List ℕ). line (x ∷ k.1) (lines_in (t ++ more))) (sym place) ∙ ap (λ (t : List ℕ). line t (lines_in (drop (length t + 2) (x ∷ y ∷ b) ++ more))) (sym k.3)
    ]

pub scan_past : (b : List ℕ) (scan : ReplyScan) (size : ℕ) → IsScanOf b scan → IsFirstLine (drop scan.at b) (Some size) → accepts_line scan.number (take size (drop scan.at b)) ≡ Ok tt → 0 < size
    → IsScanOf b (scan_of (scan.at + (size + 2)) (scan.number + 1) 0)
scan_past b scan size k first e some =
    let at = scan.at in
    let number = scan.number in
    let c = drop scan.at b in
    let t = take size c in
    let there = k.there in
    let few = k.few in
    let size_is : length t ≡ size = length-take-le size c (omega (arith, first.0)) in
    let place : behind_line at t ≡ at + (size + 2) = omega (arith, size_is) in
    record {
      there = omega (arith, there, first.0, length-drop at b);
      few = omega (arith, few);
      lines = λ more.
          let next = line_longer c more t (lines_in (drop (size + 2) c)) first.1 in
          let behind : drop (length t + 2) c ≡ drop (at + (size + 2)) b = ap (λ (n : ℕ). drop (n + 2) c) size_is ∙ drop-drop (size + 2) at b in
          k.lines more ∙ ap (empty_line number at) next ∙ goes_on number at t (lines_in (drop (length t + 2) c ++ more)) e (omega (arith, size_is))
          ∙ ap (λ (p : ℕ). empty_line (suc number) p (lines_in (drop (length t + 2) c ++ more))) place
          ∙ ap (λ (n : ℕ). empty_line n (at + (size + 2)) (lines_in (drop (length t + 2) c ++ more))) (sym (add-one number))
          ∙ ap (λ (l : List ℕ). empty_line (number + 1) (at + (size + 2)) (lines_in (l ++ more))) behind;
      line = λ more. no_front (lines_in (drop (at + (size + 2)) b ++ more));
    }

pub scan_one_more : (b : List ℕ) (n : ℕ) (scan : ReplyScan) → n < length b → IsScanOf (take n b) scan → IsScanOf (take (n + 1) b) scan
scan_one_more b n scan lt k = subst (λ (t : List ℕ). IsScanOf t scan) (sym (take_more b n 0 lt)) (scan_longer (take n b) (get_or b n 0 ∷ []) scan k)

pub scan_of_all : (b : List ℕ) (n : ℕ) (scan : ReplyScan) → length b ≤ n → IsScanOf (take n b) scan → IsScanOf b scan
scan_of_all b n scan le k = subst (λ (t : List ℕ). IsScanOf t scan) (take_all n b le) k
