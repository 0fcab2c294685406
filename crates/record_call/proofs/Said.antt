-- What is said grows line by line.
use Rattle.std.proofs.Common.{◌≡◌, ℕ, zero, suc, ◌+◌, ◌≤◌, List, [], ◌∷◌, ◌++◌, length, take, drop, map, Option, Some, refl, sym, ap, ◌∙◌, subst, append-nil, take-append-drop, arith, String, inl, inr}
use Rattle.std.specs.Prelude.{slice_get, string_bytes}
use Rattle.std.specs.Option.{option_map}
use Rattle.std.proofs.Math.Seq.{take-append-add}
use Rattle.std.proofs.KnownBytes.{Appends-trans}
use Rattle.std.proofs.lemmas.Option.{slice_get-map}
use Rattle.std.proofs.lemmas.Grind.{flat_map-append}
use Rattle.std.specs.Io.KnownBytes.{Appends}
use Rattle.rec_base.specs.Causes.{Rose}
use Rattle.rec_base.specs.Known.{AppendsFront, printed_line}
use Rattle.report_model.specs.Shown.{printed_lines}
use Rattle.std.specs.Prelude.{Err, IsErr, IsErrOf, ◌⊎◌}
use Rattle.dock_calls.specs.Said.{SaysFault}
use Rattle.record_call.specs.declared.fault.RecordFault.{RecordFault}
use Rattle.record_call.specs.declared.fault.RecordFault.TheVariants.{Say}
use Rattle.record_call.proofs.Lists.{take_next}

-- all of one text, and a front of the next
pub front_behind : (a b c : Option (List ℕ)) (xs ys : List ℕ) → Appends a b xs → AppendsFront b c ys → AppendsFront a c (xs ++ ys)
front_behind a b c xs ys first second =
    let P : List ℕ → Type 0 = λ t. Appends a c t in
    (length xs + second.0, subst P (sym (take-append-add xs ys second.0)) (Appends-trans a b c _ _ first second.1))

front_of : (n : ℕ) (xs ys : List ℕ) → (m : ℕ) × (take m (xs ++ ys) ≡ take n xs)
front_of zero xs ys = (0, refl)
front_of (suc n) [] ys = (0, refl)
front_of (suc n) (x ∷ xs) ys = let r = front_of n xs ys in (suc r.0, ap (λ (t : List ℕ). x ∷ t) r.1)

-- a front of a text is one of a longer text
pub front_longer : (a b : Option (List ℕ)) (xs ys : List ℕ) → AppendsFront a b xs → AppendsFront a b (xs ++ ys)
front_longer a b xs ys front =
    let m = front_of front.0 xs ys in
    let P : List ℕ → Type 0 = λ t. Appends a b t in
    (m.0, subst P (sym m.1) front.1)

-- the printed lines of one line more
printed_more : (ls : List (List ℕ)) (i : ℕ) (l : List ℕ) → slice_get ls i ≡ Some l → printed_lines (take i ls) ++ printed_line l ≡ printed_lines (take (i + 1) ls)
printed_more ls i l e =
    ap (λ (t : List ℕ). printed_lines (take i ls) ++ t) (sym (append-nil (printed_line l))) ∙ sym (flat_map-append printed_line (take i ls) (l ∷ [])) ∙ ap printed_lines (sym (take_next ls i l e))

-- one line more was said
said_next : (a b c : Option (List ℕ)) (ls : List (List ℕ)) (i : ℕ) (l : List ℕ) → slice_get ls i ≡ Some l → Appends a b (printed_lines (take i ls)) → Appends b c (printed_line l) → Appends a c (printed_lines (take (i + 1) ls))
said_next a b c ls i l e so_far last =
    let P : List ℕ → Type 0 = λ t. Appends a c t in subst P (printed_more ls i l e) (Appends-trans a b c _ _ so_far last)

-- a front of one line more was said
front_next : (a b c : Option (List ℕ)) (ls : List (List ℕ)) (i : ℕ) (l : List ℕ) → slice_get ls i ≡ Some l → Appends a b (printed_lines (take i ls)) → AppendsFront b c (printed_line l) → AppendsFront a c (printed_lines ls)
front_next a b c ls i l e so_far last =
    let P : List ℕ → Type 0 = λ t. AppendsFront a c t in
    let rest = drop (i + 1) ls in
    let up = subst P (printed_more ls i l e) (front_behind a b c _ _ so_far last) in
    let whole : printed_lines (take (i + 1) ls) ++ printed_lines rest ≡ printed_lines ls = sym (flat_map-append printed_line (take (i + 1) ls) rest) ∙ ap printed_lines (take-append-drop (i + 1) ls) in
    subst P whole (front_longer a c _ (printed_lines rest) up)

-- the count rose since an earlier moment too
pub rose_later : (a b n : ℕ) → a ≤ b → Rose b n → Rose a n
rose_later a b n le rose = omega (arith, le, rose)

-- one line more, and a front of it
pub said_line : {Z : Type 0} (a b c : Option (List ℕ)) (ls : List (String Z)) (i : ℕ) (l : String Z) → slice_get ls i ≡ Some l
    → Appends a b (printed_lines (take i (map string_bytes ls))) → Appends b c (printed_line (string_bytes l)) → Appends a c (printed_lines (take (i + 1) (map string_bytes ls)))
said_line {Z} a b c ls i l e = said_next a b c (map string_bytes ls) i (string_bytes l) (slice_get-map string_bytes ls i ∙ ap (λ (o : Option (String Z)). option_map string_bytes o) e)

pub front_line : {Z : Type 0} (a b c : Option (List ℕ)) (ls : List (String Z)) (i : ℕ) (l : String Z) → slice_get ls i ≡ Some l
    → Appends a b (printed_lines (take i (map string_bytes ls))) → AppendsFront b c (printed_line (string_bytes l)) → AppendsFront a c (printed_lines (map string_bytes ls))
front_line {Z} a b c ls i l e = front_next a b c (map string_bytes ls) i (string_bytes l) (slice_get-map string_bytes ls i ∙ ap (λ (o : Option (String Z)). option_map string_bytes o) e)

-- nothing was said before it
pub says_first : (a b c : Option (List ℕ)) (k m n : ℕ) (line line' : List ℕ) → (b ≡ a) × (m ≡ k) → line ≡ line' → SaysFault b c m n line → SaysFault a c k n line'
says_first a b c k m n line line' same is said =
    let P : Option (List ℕ) → Type 0 = λ p. SaysFault p c k n line' in
    let Q : ℕ → Type 0 = λ count. SaysFault b c count n line' in
    let R : List ℕ → Type 0 = λ t. SaysFault b c m n t in
    subst P same.0 (subst Q same.1 (subst R is said))

pub appends_from : (a b c : Option (List ℕ)) (xs ys : List ℕ) → b ≡ a → xs ≡ ys → Appends b c xs → Appends a c ys
appends_from a b c xs ys same is appends =
    let P : Option (List ℕ) → Type 0 = λ o. Appends o c ys in
    let Q : List ℕ → Type 0 = λ t. Appends b c t in
    subst P same (subst Q is appends)

pub appends_front_from : (a b c : Option (List ℕ)) (xs ys : List ℕ) → b ≡ a → xs ≡ ys → AppendsFront b c xs → AppendsFront a c ys
appends_front_from a b c xs ys same is appends =
    let P : Option (List ℕ) → Type 0 = λ o. AppendsFront o c ys in
    let Q : List ℕ → Type 0 = λ t. AppendsFront b c t in
    subst P same (subst Q is appends)

pub rose_from : (a b c : ℕ) → b ≡ a → Rose b c → Rose a c
rose_from a b c same rose = let P : ℕ → Type 0 = λ n. Rose n c in subst P same rose

-- before these faults are told, nothing was said
kept_of : {T A : Type 0} (e f : RecordFault) → e ≡ f → (f ≡ Say → ⊥) → IsErrOf {T = T} (Err e) Say ⊎ A → A
kept_of e f is apart (inl say) = let same : f ≡ Say = cc (is, say) in absurd (apart same)
kept_of e f is apart (inr kept) = kept

pub unsaid : {T A : Type 0} (e f : RecordFault) → e ≡ f → (f ≡ Say → ⊥) → (IsErr {T = T} (Err e) → IsErrOf {T = T} (Err e) Say ⊎ A) → A
unsaid e f is apart told = kept_of e f is apart (told refl)
