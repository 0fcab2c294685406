-- What is said of a line that isn't taken whole.
use Rattle.std.proofs.Common.{◌≡◌, ℕ, ◌+◌, ◌≤◌, List, [], ◌∷◌, ◌++◌, length, take, Option, sym, ◌∙◌, subst}
use Rattle.std.proofs.lemmas.List.{take-append-le}
use Rattle.std.proofs.Math.Seq.{take-append-add}
use Rattle.std.proofs.KnownBytes.{Appends-trans}
use Rattle.std.specs.Io.KnownBytes.{Appends}
use Rattle.rec_base.specs.Known.{AppendsFront, printed_line}

-- a front of its text was written
pub text_cut : (a b : Option (List ℕ)) (line : List ℕ) (went : ℕ) → Appends a b (take went line) → went ≤ length line → AppendsFront a b (printed_line line)
text_cut a b line went front within = (went, subst (Appends a b) (sym (take-append-le went line (10 ∷ []) within)) front)

-- its text was, and a front of the line feed
pub feed_cut : (a b c : Option (List ℕ)) (line : List ℕ) (went : ℕ) → Appends a b line → Appends b c (take went (10 ∷ [])) → AppendsFront a c (printed_line line)
feed_cut a b c line went text feed =
    (length line + went, subst (Appends a c) (sym (take-append-add line (10 ∷ []) went)) (Appends-trans a b c line (take went (10 ∷ [])) text feed))
