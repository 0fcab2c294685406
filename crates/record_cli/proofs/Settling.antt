-- What is said and counted at the end.
use Rattle.std.proofs.Common.{◌≡◌, ◌⊎◌, inl, inr, arith, ℕ, List, Option, None, Some, Bool, true, false, Result, Ok, Err, ◌∙◌, sym, OnErr, OnOk, is_ok, IsTrue, ◌||◌, refl, subst, length}
use Rattle.std.specs.Io.KnownBytes.{Appends, Keeps}
use Rattle.rec_base.specs.Causes.{HasCause, Rose}
use Rattle.rec_base.specs.Known.{AppendsFront, printed_line}
use Rattle.dock_calls.specs.Said.{SaysFault}
use Rattle.std.proofs.Math.Seq.{take-length}

-- what is said stays said when it is put out
pub Appends-kept : (a b c : Option (List ℕ)) (bs : List ℕ) → Appends a b bs → Keeps b c → Appends a c bs
Appends-kept None b c bs p q = tt
Appends-kept (Some x) None c bs p q = absurd p
Appends-kept (Some x) (Some y) None bs p q = absurd q
Appends-kept (Some x) (Some y) (Some z) bs p q = q ∙ p

pub AppendsFront-kept : (a b c : Option (List ℕ)) (bs : List ℕ) → AppendsFront a b bs → Keeps b c → AppendsFront a c bs
AppendsFront-kept a b c bs front kept = (front.0, Appends-kept a b c _ front.1 kept)

-- what holds of an answer by whether it is `Ok`
pub at_err : {T E : Type 0} (r : Result T E) (P : Type 0) → is_ok r ≡ false → OnErr r P → P
at_err (Ok x) P is p = absurd (cc is)
at_err (Err e) P is p = p

pub at_ok : {T E : Type 0} (r : Result T E) (P : Type 0) → is_ok r ≡ true → OnOk r P → P
at_ok (Ok x) P is p = p
at_ok (Err e) P is p = absurd (cc is)

pub true_of : (b : Bool) → IsTrue b → b ≡ true
true_of true is = refl
true_of false is = absurd (cc is)

pub or_true : (a b : Bool) → IsTrue a → IsTrue (a || b)
or_true true b is = refl
or_true false b is = absurd (cc is)

-- a call that fails raises the count, and one that doesn't leaves it
pub raised : {T E : Type 0} (r : Result T E) (before now : ℕ) → HasCause before now r → (now ≡ before) ⊎ Rose before now
raised (Ok x) before now cause = inl cause.quiet
raised (Err e) before now cause = inr cause.failed

-- the line of a fault stays said when it is put out
still_said : (a b c : Option (List ℕ)) (first before now : ℕ) (line : List ℕ) → (now ≡ before) ⊎ Rose before now
    → (Appends a b line × (before ≡ first)) ⊎ (AppendsFront a b line × Rose first before) → Keeps b c
    → (Appends a c line × (now ≡ first)) ⊎ (AppendsFront a c line × Rose first now)
still_said a b c first before now line (inl same) (inl whole) kept =
    inl (Appends-kept a b c line whole.0 kept, same ∙ whole.1)
still_said a b c first before now line (inl same) (inr front) kept =
    inr (AppendsFront-kept a b c line front.0 kept, let rose = front.1 in omega (arith, rose, same))
still_said a b c first before now line (inr rose) (inl whole) kept =
    inr ((length line, subst (Appends a c) (sym (take-length line)) (Appends-kept a b c line whole.0 kept)), let same = whole.1 in omega (arith, rose, same))
still_said a b c first before now line (inr rose) (inr front) kept =
    inr (AppendsFront-kept a b c line front.0 kept, let risen = front.1 in omega (arith, rose, risen))

pub SaysFault-kept : (a b c : Option (List ℕ)) (first before now : ℕ) (text : List ℕ) → (now ≡ before) ⊎ Rose before now
    → SaysFault a b first before text → Keeps b c → SaysFault a c first now text
SaysFault-kept a b c first before now text ends fault kept =
    record { said = still_said a b c first before now (printed_line text) ends fault.said kept }
