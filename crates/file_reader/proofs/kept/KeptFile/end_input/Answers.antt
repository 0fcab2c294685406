use Rattle.std.proofs.Common.{sym, ap, ◌∙◌, arith, length}
use Rattle.reading_model.specs.Reading.{done}
use Rattle.file_model.specs.declared.end.FileEnd.{FileEnd}
use Rattle.file_model.specs.Reader.{end_reading}
use Rattle.file_reader.specs.Kept.{with_reading}
use Rattle.file_reader.proofs.Passing.{torn_end}
use Rattle.file_reader.proofs.Outlooks.{wants_going}
use Rattle.file_reader.proofs.kept.KeptFile.end_input.Goals as goal

pub returns-else-left-eq0-clause-told : goal.returns-else-left-eq0-clause-told
returns-else-left-eq0-clause-told c = λ context text.
    let i = c.self.inside in
    let is = torn_end c.args.self.now i.ending i.context i.place i.last i.held.bytes i.byte_limit _ c.self.view_is (wants_going c.args.self.now.reading c.requires) (omega (arith, ap length c.bytes.ensures)) (omega (arith, ap length c.bytes.ensures)) in
    c.finish-else-left-eq0.ensures.told context text ∙ ap end_reading (sym is)

pub returns-else-left-eq0-clause-over : goal.returns-else-left-eq0-clause-over
returns-else-left-eq0-clause-over c =
    let i = c.self.inside in
    let is = torn_end c.args.self.now i.ending i.context i.place i.last i.held.bytes i.byte_limit _ c.self.view_is (wants_going c.args.self.now.reading c.requires) (omega (arith, ap length c.bytes.ensures)) (omega (arith, ap length c.bytes.ensures)) in
    c.finish-else-left-eq0.ensures.over ∙ ap (λ (e : FileEnd). with_reading c.args.self.now (done e)) (sym is)
