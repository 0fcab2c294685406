use Rattle.std.proofs.Common.{◌≡◌, List, ℕ, ◌++◌, length, codes, string_bytes, append_assoc, ap, sym, ◌∙◌}
use Rattle.std.specs.Fmt.{decimal}
use Rattle.chunk_grammar.specs.declared.chunk.Chunk.TheVariants.{FileHeader, StreamFooter, Other}
use Rattle.stream_report.specs.Parts.{first_line}
use Rattle.stream_report.proofs.chunk.chunk_line.Goals as goal

pub returns-in_ok-format-in-FileHeader : goal.returns-in_ok-format-in-FileHeader
returns-in_ok-format-in-FileHeader c =
    let text : string_bytes c.in_ok-format-in-FileHeader.field-0 ≡ decimal c.args.at ++ codes " file-header bytes " ++ decimal (length c.bytes.result.now) = c.in_ok-format-in-FileHeader.ensures.ok ∙ simp append_assoc in
    text ∙ ap (λ (b : List ℕ). first_line c.args.at (FileHeader b)) c.bytes.ensures ∙ ap (first_line c.args.at) (sym c.in-FileHeader.is)

pub returns-in_ok-format-in-Samples : goal.returns-in_ok-format-in-Samples
returns-in_ok-format-in-Samples c =
    let text : string_bytes c.in_ok-format-in-Samples.field-0 ≡ decimal c.args.at ++ codes " samples id " ++ decimal c.in-Samples.id ++ codes " count " ++ decimal c.len-count.result = c.in_ok-format-in-Samples.ensures.ok ∙ simp append_assoc in
    text ∙ ap (λ (n : ℕ). decimal c.args.at ++ codes " samples id " ++ decimal c.in-Samples.id ++ codes " count " ++ decimal n) c.len-count.ensures ∙ ap (first_line c.args.at) (sym c.in-Samples.is)

pub returns-in-ClockOffset : goal.returns-in-ClockOffset
returns-in-ClockOffset c = rw c.in-ClockOffset.is c.offset_line.ensures

pub returns-in_ok-format-in-StreamFooter : goal.returns-in_ok-format-in-StreamFooter
returns-in_ok-format-in-StreamFooter c =
    let text : string_bytes c.in_ok-format-in-StreamFooter.field-0 ≡ decimal c.args.at ++ codes " stream-footer id " ++ decimal c.in-StreamFooter.id ++ codes " bytes " ++ decimal (length c.bytes-in-StreamFooter.result.now) = c.in_ok-format-in-StreamFooter.ensures.ok ∙ simp append_assoc in
    text ∙ ap (λ (b : List ℕ). first_line c.args.at (StreamFooter c.in-StreamFooter.id b)) c.bytes-in-StreamFooter.ensures ∙ ap (first_line c.args.at) (sym c.in-StreamFooter.is)

pub returns-in_ok-format-in-Other : goal.returns-in_ok-format-in-Other
returns-in_ok-format-in-Other c =
    let text : string_bytes c.in_ok-format-in-Other.field-0 ≡ decimal c.args.at ++ codes " other tag " ++ decimal c.in-Other.tag ++ codes " bytes " ++ decimal (length c.bytes-in-Other.result.now) = c.in_ok-format-in-Other.ensures.ok ∙ simp append_assoc in
    text ∙ ap (λ (b : List ℕ). first_line c.args.at (Other c.in-Other.tag b)) c.bytes-in-Other.ensures ∙ ap (first_line c.args.at) (sym c.in-Other.is)
