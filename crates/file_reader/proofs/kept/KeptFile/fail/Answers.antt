use Rattle.file_reader.proofs.Ahead.{fault_told}
use Rattle.file_reader.proofs.kept.KeptFile.fail.Goals as goal

pub returns-clause-tells : goal.returns-clause-tells
returns-clause-tells c = λ context text.
    let i = c.self.inside in
    fault_told c.args.self.now c.finish.new.self _ i.ending i.context i.place i.last i.held.bytes i.byte_limit c.self.view_is c.requires c.self.invariant.1 (c.finish.ensures.told context text) c.finish.ensures.over
