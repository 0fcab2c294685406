-- A chunk's lines are its first line and the ones behind it.
use Rattle.std.proofs.Common.{◌≡◌, ℕ, suc, List, ◌∷◌, take, Option, refl, sym, subst}
use Rattle.std.proofs.KnownBytes.{Appends-trans}
use Rattle.std.specs.Io.KnownBytes.{Appends}
use Rattle.rec_base.specs.Known.{AppendsFront, printed_line}
use Rattle.chunk_grammar.specs.declared.chunk.Chunk.{Chunk}
use Rattle.chunk_grammar.specs.declared.chunk.Chunk.TheVariants.{FileHeader, StreamHeader, Samples, ClockOffset, Boundary, StreamFooter, Other}
use Rattle.chunk_grammar.specs.Chunk.{Context}
use Rattle.report_model.specs.Lines.{chunk_lines}
use Rattle.report_model.specs.Shown.{printed_lines}
use Rattle.stream_report.specs.Parts.{first_line, later_lines}
use Rattle.stream_report.proofs.Said.{front_behind, front_longer}

lines_of : (ctx : Context) (at : ℕ) (c : Chunk) → chunk_lines ctx at c ≡ first_line at c ∷ later_lines ctx c
lines_of ctx at (FileHeader doc) = refl
lines_of ctx at (StreamHeader id doc) = refl
lines_of ctx at (Samples id samples) = refl
lines_of ctx at (ClockOffset id time offset) = refl
lines_of ctx at Boundary = refl
lines_of ctx at (StreamFooter id doc) = refl
lines_of ctx at (Other tag body) = refl

-- the first line and then the ones behind it were said
pub said_both : (ctx : Context) (at : ℕ) (chunk : Chunk) (a b c : Option (List ℕ)) → Appends a b (printed_line (first_line at chunk)) → Appends b c (printed_lines (later_lines ctx chunk))
    → Appends a c (printed_lines (chunk_lines ctx at chunk))
said_both ctx at chunk a b c first others =
    let P : List (List ℕ) → Type 0 = λ t. Appends a c (printed_lines t) in subst P (sym (lines_of ctx at chunk)) (Appends-trans a b c _ _ first others)

-- a front of the first line was said
pub front_first : (ctx : Context) (at : ℕ) (chunk : Chunk) (a b : Option (List ℕ)) → AppendsFront a b (printed_line (first_line at chunk)) → AppendsFront a b (printed_lines (chunk_lines ctx at chunk))
front_first ctx at chunk a b front =
    let P : List (List ℕ) → Type 0 = λ t. AppendsFront a b (printed_lines t) in subst P (sym (lines_of ctx at chunk)) (front_longer a b (printed_line (first_line at chunk)) (printed_lines (later_lines ctx chunk)) front)

-- the first line was said, and a front of the ones behind it
pub front_both : (ctx : Context) (at : ℕ) (chunk : Chunk) (a b c : Option (List ℕ)) → Appends a b (printed_line (first_line at chunk)) → AppendsFront b c (printed_lines (later_lines ctx chunk))
    → AppendsFront a c (printed_lines (chunk_lines ctx at chunk))
front_both ctx at chunk a b c first front =
    let P : List (List ℕ) → Type 0 = λ t. AppendsFront a c (printed_lines t) in subst P (sym (lines_of ctx at chunk)) (front_behind a b c (printed_line (first_line at chunk)) (printed_lines (later_lines ctx chunk)) first front)

-- the first line was said, and some of the ones behind it
pub some_both : (ctx : Context) (at : ℕ) (chunk : Chunk) (a b c : Option (List ℕ)) → Appends a b (printed_line (first_line at chunk)) → (n : ℕ) → Appends b c (printed_lines (take n (later_lines ctx chunk)))
    → (m : ℕ) × Appends a c (printed_lines (take m (chunk_lines ctx at chunk)))
some_both ctx at chunk a b c first n others =
    let P : List (List ℕ) → Type 0 = λ t. Appends a c (printed_lines (take (suc n) t)) in (suc n, subst P (sym (lines_of ctx at chunk)) (Appends-trans a b c _ _ first others))
