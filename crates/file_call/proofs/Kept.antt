-- What a dock that was kept so far still has.
use Rattle.std.proofs.Common.{◌≡◌, ℕ, ◌≤◌, Bool, false, List, [], take, Option, Err, refl, sym, ap, subst, arith}
use Rattle.std.specs.Prelude.{IsErrOf, IsTrue}
use Rattle.std.specs.Io.KnownBytes.{Appends}
use Rattle.rec_base.specs.declared.asked.Asked.{Asked}
use Rattle.rec_base.specs.Asked.{AsksAll, AsksFront}
use Rattle.rec_base.specs.Causes.{Rose}
use Rattle.rec_base.specs.Known.{AppendsFront}
use Rattle.report_model.specs.Shown.{printed_lines}
use Rattle.stream_check.specs.Ends.{SaysSome}
use Rattle.dock_calls.specs.Asking.{IsCaused}
use Rattle.dock_calls.proofs.Asking.{AsksAll-none}
use Rattle.dock_calls.specs.Said.{SaysFault, SaysBehind}
use Rattle.file_call.specs.Said.{SaysSomeBehind}

pub appends_from : (a b c : Option (List ℕ)) (xs : List ℕ) → b ≡ a → Appends b c xs → Appends a c xs
appends_from a b c xs same appends = let P : Option (List ℕ) → Type 0 = λ o. Appends o c xs in subst P same appends

pub appends_front_from : (a b c : Option (List ℕ)) (xs : List ℕ) → b ≡ a → AppendsFront b c xs → AppendsFront a c xs
appends_front_from a b c xs same appends = let P : Option (List ℕ) → Type 0 = λ o. AppendsFront o c xs in subst P same appends

pub some_from : (a b c : Option (List ℕ)) (lines : List (List ℕ)) → b ≡ a → SaysSome b c lines → SaysSome a c lines
some_from a b c lines same said = (said.0, said.1, said.2, appends_from a b c (printed_lines said.0) same said.3)

pub rose_from : (a b c : ℕ) → b ≡ a → Rose b c → Rose a c
rose_from a b c same rose = let P : ℕ → Type 0 = λ n. Rose n c in subst P same rose

-- the count rose since an earlier moment too
pub rose_later : (a b n : ℕ) → a ≤ b → Rose b n → Rose a n
rose_later a b n le rose = omega (arith, le, rose)

-- nothing was said before the line of a fault
pub says_first : (a b c : Option (List ℕ)) (k m n : ℕ) (line : List ℕ) → b ≡ a → m ≡ k → SaysFault b c m n line → SaysFault a c k n line
says_first a b c k m n line same is said =
    let P : Option (List ℕ) → Type 0 = λ p. SaysFault p c k n line in
    let Q : ℕ → Type 0 = λ count. SaysFault b c count n line in
    subst P same (subst Q is said)

-- the line of a fault stands behind these lines
pub says_behind : (a b c : Option (List ℕ)) (k m n : ℕ) (lines : List (List ℕ)) (line : List ℕ) → Appends a b (printed_lines lines) → m ≡ k → SaysFault b c m n line → SaysBehind a c k n lines line
says_behind a b c k m n lines line said same fault =
    let P : ℕ → Type 0 = λ count. SaysFault b c count n line in
    record { between = b; lines_said = said; fault = subst P same fault }

pub says_some_behind : (a b c : Option (List ℕ)) (k m n : ℕ) (lines : List (List ℕ)) (line : List ℕ) → SaysSome a b lines → m ≡ k → SaysFault b c m n line → SaysSomeBehind a c k n lines line
says_some_behind a b c k m n lines line said same fault = (said.0, said.1, said.2, says_behind a b c k m n said.0 line said.3 same fault)

-- nothing was asked for, and no count rose but that of the lines
pub caused_still : (said : Bool) (status : ℕ) (a b : Option (List Asked)) (o p w x s t : ℕ) → b ≡ a → p ≡ o → x ≡ w → (status ≡ 5 → ⊥) → (IsTrue said → t ≡ s) → (all : Bool) → IsCaused all said [] a b o p w x s t status
caused_still said status a b o p w x s t same opens writes five saying all =
    let none = subst (λ (k : Option (List Asked)). AsksAll a k []) (sym same) (AsksAll-none a) in
    record {
      asks = (0, none);
      asks_all = λ _. none;
      opening = λ _. opens;
      writing = record { later = omega (arith, writes); rose = λ e. absurd (five e); quiet = λ _. writes };
      saying = saying;
    }

-- the line of a fault was said behind a read that failed
pub caused_read : (order : List Asked) (a b c : Option (List Asked)) (o p w x s t : ℕ) → c ≡ b → x ≡ w → AsksFront a b order → IsCaused false false order a c o p w x s t 4
caused_read order a b c o p w x s t same writes front = record {
  asks = (front.0, subst (λ (k : Option (List Asked)). AsksAll a k (take front.0 order)) (sym same) front.1);
  asks_all = λ all. absurd cc;
  opening = λ other. absurd (other refl);
  writing = record { later = omega (arith, writes); rose = λ e. absurd (omega (arith, e)); quiet = λ _. writes };
  saying = λ all. absurd cc;
}

-- an error is the same one, whatever might have come in its place
pub err_again : {T U E : Type 0} (f o : E) → IsErrOf {T = T} (Err f) o → IsErrOf {T = U} (Err f) o
err_again f o is = let q : f ≡ o = cc in ap Err q
