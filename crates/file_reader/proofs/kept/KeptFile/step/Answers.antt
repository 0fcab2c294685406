use Rattle.std.proofs.Common.{◌∙◌, ◌-◌, ℕ, List, take, drop, ap, refl}
use Rattle.std.proofs.lemmas.List.{take_rest}
use Rattle.piece_reader.specs.Held.{HeldBytes}
use Rattle.chunk_decoder.specs.Viewed.{chunk_in}
use Rattle.file_reader.proofs.Passing.{chunk_passed}
use Rattle.file_reader.proofs.Ahead.{bad_told}
use Rattle.file_reader.proofs.kept.KeptFile.step.Goals as goal

pub stop-requires-clause-tells : goal.stop-requires-clause-tells
stop-requires-clause-tells c =
    let i = c.self.inside in
    let count = i.byte_limit - i.place in
    let seen = rw take_rest at c.counted-bytes.ensures ∙ ap (λ (b : List ℕ). take count (drop i.last b)) c.bytes.ensures in
    bad_told c.args.self.now i.ending i.context i.place i.last i.held.bytes i.byte_limit c.in-Bad.at c.in-Bad.why c.counted-bytes.result.now c.self.view_is seen c.in-Bad.ensures.exact

pub returns-else-not-pass_chunk-clause-does : goal.returns-else-not-pass_chunk-clause-does
returns-else-not-pass_chunk-clause-does c =
    let i = c.self.inside in
    let text = c.in-Whole.ensures.whole c.in-Whole.chunk c.in-Whole.used refl in
    let count = i.byte_limit - i.place in
    (chunk_passed c.args.self.now i.ending i.context c.pass_chunk.new.context i.place i.last c.in-Whole.used i.byte_limit i.held.bytes c.pass.new.self.bytes c.counted-bytes.result.now (chunk_in c.in-Whole.chunk) c.self.view_is c.requires.going
    c.self.invariant.1 (rw take_rest at c.counted-bytes.ensures ∙ ap (λ (b : List ℕ). take count (drop i.last b)) c.bytes.ensures) c.in-Whole.ensures.exact text (ap (λ (h : HeldBytes). h.bytes) c.pass.ensures) (c.if-not-pass_chunk.ensures.ok refl)).does c.in-Ok.value

pub returns-else-not-pass_chunk-clause-values : goal.returns-else-not-pass_chunk-clause-values
returns-else-not-pass_chunk-clause-values c = λ wanted.
    let i = c.self.inside in
    let text = c.in-Whole.ensures.whole c.in-Whole.chunk c.in-Whole.used refl in
    let count = i.byte_limit - i.place in
    (chunk_passed c.args.self.now i.ending i.context c.pass_chunk.new.context i.place i.last c.in-Whole.used i.byte_limit i.held.bytes c.pass.new.self.bytes c.counted-bytes.result.now (chunk_in c.in-Whole.chunk) c.self.view_is c.requires.going
    c.self.invariant.1 (rw take_rest at c.counted-bytes.ensures ∙ ap (λ (b : List ℕ). take count (drop i.last b)) c.bytes.ensures) c.in-Whole.ensures.exact text (ap (λ (h : HeldBytes). h.bytes) c.pass.ensures) (c.if-not-pass_chunk.ensures.ok refl)).values c.in-Ok.value (c.in-Ok.ensures wanted)
