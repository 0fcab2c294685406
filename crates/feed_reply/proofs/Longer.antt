-- What stays where more bytes follow.
use Rattle.std.proofs.Common.{◌≡◌, ℕ, suc, ◌+◌, ◌<◌, ◌≤◌, Bool, true, false, cond, eqb, ltb, List, [], ◌∷◌, ◌++◌, length, Option, Some, None, Result, Ok, Err, refl, sym, ap, ◌∙◌, arith, inl, inr, nat_eq}
use Rattle.std.specs.Prelude.{codes}
use Rattle.std.specs.List.{starts_with}
use Rattle.std.proofs.lemmas.Bool.{cases_lt, lt-ltb, le-ltb}
use Rattle.xdf_model.specs.Reading.{◌>>=◌}
use Rattle.reply_model.specs.declared.ReplyWhy.{ReplyWhy}
use Rattle.reply_model.specs.declared.ReplyWhy.TheVariants.{LineTooLong}
use Rattle.reply_model.specs.declared.Refusal.{Refusal}
use Rattle.reply_model.specs.declared.ReplyStep.TheVariants.{More}
use Rattle.reply_model.specs.Lines.{Lines, rest, line, line_end, with_byte, lines_in}
use Rattle.reply_model.specs.Header.{value_of, accepts_status}
use Rattle.reply_model.specs.Reply.{refused_at, behind_line, accepts_line, empty_line, Found, later, at_place, last_of, header, agreed, step_of, judged, reply_in}
use Rattle.feed_reply.proofs.Walk.{not_zero}

-- the complete lines stay, and the unfinished one is as long, but for a CR that may end it
abbrev IsLonger : Lines → Lines → Type 0
IsLonger (rest b) (rest c) = length b ≤ length c
IsLonger (rest b) (line text more) = length b ≤ length text + 1
IsLonger (line text more) (rest c) = ⊥
IsLonger (line text more) (line text' more') = (text ≡ text') × IsLonger more more'

with_byte_longer : (x : ℕ) (u v : Lines) → IsLonger u v → IsLonger (with_byte x u) (with_byte x v)
with_byte_longer x (rest b) (rest c) h = omega (arith, h)
with_byte_longer x (rest b) (line text more) h = omega (arith, h)
with_byte_longer x (line text more) (rest c) h = absurd h
with_byte_longer x (line text more) (line text' more') h = (ap (λ (t : List ℕ). x ∷ t) h.0, h.1)

nothing_longer : (u : Lines) → IsLonger (rest []) u
nothing_longer (rest b) = omega arith
nothing_longer (line text more) = omega arith

one_longer : (x : ℕ) (u : Lines) → IsLonger (rest (x ∷ [])) (with_byte x u)
one_longer x (rest b) = omega arith
one_longer x (line text more) = omega arith

one_branch : (c : Bool) (x : ℕ) (u v : Lines) → IsLonger (rest (x ∷ [])) (cond c (line [] u) (with_byte x v))
one_branch true x u v = omega arith
one_branch false x u v = one_longer x v

branches : (c : Bool) (x : ℕ) (u v u' v' : Lines) → IsLonger u u' → IsLonger v v' → IsLonger (cond c (line [] u) (with_byte x v)) (cond c (line [] u') (with_byte x v'))
branches true x u v u' v' h k = (refl, h)
branches false x u v u' v' h k = with_byte_longer x v v' k

longer : (b more : List ℕ) → IsLonger (lines_in b) (lines_in (b ++ more))
unfolding lines_in
longer [] more = nothing_longer (lines_in more)
longer (x ∷ []) [] = omega arith
longer (x ∷ []) (y ∷ more) = one_branch (starts_with nat_eq (x ∷ y ∷ more) line_end) x (lines_in more) (lines_in (y ∷ more))
longer (x ∷ y ∷ b) more = branches (starts_with nat_eq (x ∷ y ∷ b) line_end) x (lines_in b) (lines_in (y ∷ b)) (lines_in (b ++ more)) (lines_in (y ∷ (b ++ more))) (longer b more) (longer (y ∷ b) more)

-- ---- the first empty line

line_long : (number : ℕ) (text : List ℕ) → 4096 < length text → accepts_line number text ≡ Err LineTooLong
unfolding accepts_line
line_long number text lt = let t : ltb 4096 (length text) ≡ true = lt-ltb _ _ lt in rw t refl

empty_by : (at : ℕ) (r : Result (Unit {0}) ReplyWhy) (c : Bool) (p q : Result (Option ℕ) Refusal) → ((p ≡ Ok None → ⊥) → q ≡ p)
    → ((refused_at at r >>= λ _. cond c (Ok (Some at)) p) ≡ Ok None → ⊥) → (refused_at at r >>= λ _. cond c (Ok (Some at)) q) ≡ (refused_at at r >>= λ _. cond c (Ok (Some at)) p)
empty_by at (Err why) c p q same h = refl
empty_by at (Ok x) true p q same h = refl
empty_by at (Ok x) false p q same h = same h

rest_by : (number at : ℕ) (b : List ℕ) (v : Lines) → IsLonger (rest b) v → 4097 < length b → empty_line number at v ≡ Err (record { at = at; why = LineTooLong })
unfolding empty_line
rest_by number at b (rest c) h lt = let t : ltb 4097 (length c) ≡ true = lt-ltb _ _ (omega (arith, h, lt)) in rw t refl
rest_by number at b (line text more) h lt = rw (line_long number text (omega (arith, h, lt))) refl

rest_none : (number at : ℕ) (b : List ℕ) → length b ≤ 4097 → empty_line number at (rest b) ≡ Ok None
unfolding empty_line
rest_none number at b le = let t : ltb 4097 (length b) ≡ false = le-ltb _ _ le in rw t refl

rest_same : (number at : ℕ) (b : List ℕ) (v : Lines) → IsLonger (rest b) v → (empty_line number at (rest b) ≡ Ok None → ⊥) → empty_line number at v ≡ empty_line number at (rest b)
rest_same number at b v h some = elim (cases_lt 4097 (length b)) [
  | inl lt ↦ rest_by number at b v h lt ∙ sym (rest_by number at b (rest b) (omega arith) lt)
  | inr le ↦ absurd (some (rest_none number at b le))
]

empty_same : (number at : ℕ) (u v : Lines) → IsLonger u v → (empty_line number at u ≡ Ok None → ⊥) → empty_line number at v ≡ empty_line number at u
unfolding empty_line
empty_same number at (rest b) v h some = rest_same number at b v h some
empty_same number at (line text more) (rest c) h some = absurd h
empty_same number at (line text more) (line text' more') h some =
    let p = empty_line (suc number) (behind_line at text) more in
    let q = empty_line (suc number) (behind_line at text) more' in
    let same = empty_by at (accepts_line number text) (eqb (length text) 0) p q (empty_same (suc number) (behind_line at text) more more' h.1) some in
    ap (λ (t : List ℕ). empty_line number at (line t more')) (sym h.0) ∙ same

-- ---- the last line of a name

last_by : (at e : ℕ) (r : Result (Unit {0}) ReplyWhy) (c : Bool) (p : Result (Option ℕ) Refusal) (x y z : Found) → (p ≡ Ok (Some e) → z ≡ y)
    → (refused_at at r >>= λ _. cond c (Ok (Some at)) p) ≡ Ok (Some e) → cond c None (later x z) ≡ cond c None (later x y)
last_by at e (Err why) c p x y z same h = absurd cc
last_by at e (Ok t) true p x y z same h = refl
last_by at e (Ok t) false p x y z same h = ap (later x) (same h)

rest_ends : (number at e : ℕ) (b : List ℕ) → empty_line number at (rest b) ≡ Ok (Some e) → ⊥
unfolding empty_line
rest_ends number at e b h = elim (cases_lt 4097 (length b)) [
  | inl lt ↦ let t : ltb 4097 (length b) ≡ true = lt-ltb _ _ lt in let k = rw t at h in cc
  | inr le ↦ let t : ltb 4097 (length b) ≡ false = le-ltb _ _ le in let k = rw t at h in cc
]

last_same : (name : List ℕ) (number at e : ℕ) (u v : Lines) → IsLonger u v → empty_line number at u ≡ Ok (Some e) → last_of name at v ≡ last_of name at u
unfolding empty_line last_of
last_same name number at e (rest b) v h there = absurd (rest_ends number at e b there)
last_same name number at e (line text more) (rest c) h there = absurd h
last_same name number at e (line text more) (line text' more') h there =
    let next = behind_line at text in
    let same = last_by at e (accepts_line number text) (eqb (length text) 0) (empty_line (suc number) next more) (at_place at (value_of name text)) (last_of name next more) (last_of name next more') (last_same name (suc number) next e more more' h.1) there in
    ap (λ (t : List ℕ). last_of name at (line t more')) (sym h.0) ∙ same

-- the first line isn't empty where the empty line is there
past_status : (e : ℕ) (r : Result (Unit {0}) ReplyWhy) (c : Bool) (p : Result (Option ℕ) Refusal) → c ≡ false → (refused_at 0 r >>= λ _. cond c (Ok (Some 0)) p) ≡ Ok (Some e) → p ≡ Ok (Some e)
past_status e (Err why) c p some h = absurd cc
past_status e (Ok x) true p some h = absurd cc
past_status e (Ok x) false p some h = h

header_same : (name : List ℕ) (e : ℕ) (u v : Lines) → IsLonger u v → empty_line 0 0 u ≡ Ok (Some e) → header name v ≡ header name u
unfolding empty_line accepts_line accepts_status
header_same name e (rest b) v h there = absurd (rest_ends 0 0 e b there)
header_same name e (line text more) (rest c) h there = absurd h
header_same name e (line [] more) (line text' more') h there = absurd cc
header_same name e (line (x ∷ text) more) (line text' more') h there =
    let next = behind_line 0 (x ∷ text) in
    let some : eqb (length (x ∷ text)) 0 ≡ false = not_zero (length (x ∷ text)) (omega arith) in
    let past = past_status e (accepts_line 0 (x ∷ text)) (eqb (length (x ∷ text)) 0) (empty_line 1 next more) some there in
    ap (λ (t : List ℕ). last_of name (behind_line 0 t) more') (sym h.0) ∙ last_same name 1 next e more more' h.1 past

-- ---- the reply

agreed_same : (uid : Option (List ℕ)) (e : ℕ) (u v : Lines) → IsLonger u v → empty_line 0 0 u ≡ Ok (Some e) → agreed uid e v ≡ agreed uid e u
unfolding agreed
agreed_same uid e u v h there =
    let stream = header_same (codes "UID") e u v h there in
    let protocol = header_same (codes "Data-Protocol-Version") e u v h there in
    let order = header_same (codes "Byte-Order") e u v h there in
    let subnormals = header_same (codes "Suppress-Subnormals") e u v h there in
    rw (stream, protocol, order, subnormals) refl

judged_same : (uid : Option (List ℕ)) (u v : Lines) (r : Result (Option ℕ) Refusal) → r ≡ empty_line 0 0 u → ((r ≡ Ok None → ⊥) → empty_line 0 0 v ≡ r) → IsLonger u v → (judged uid u r ≡ More → ⊥) → judged uid v (empty_line 0 0 v) ≡ judged uid u r
judged_same uid u v (Err refusal) e same h some = ap (judged uid v) (same (λ wrong. absurd cc))
judged_same uid u v (Ok None) e same h some = absurd (some refl)
judged_same uid u v (Ok (Some at)) e same h some = ap (judged uid v) (same (λ wrong. absurd cc)) ∙ ap (step_of at) (agreed_same uid at u v h (sym e))

pub more_bytes : (uid : Option (List ℕ)) (b more : List ℕ) → (reply_in uid b ≡ More → ⊥) → reply_in uid (b ++ more) ≡ reply_in uid b
unfolding reply_in
more_bytes uid b more some =
    let u = lines_in b in
    let v = lines_in (b ++ more) in
    judged_same uid u v (empty_line 0 0 u) refl (empty_same 0 0 u v (longer b more)) (longer b more) some
