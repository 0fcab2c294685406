use Rattle.file_call.proofs.Repairs.{wrote_found, wrote_front}
use Rattle.file_call.proofs.repair.write_whole.Goals as goal

pub returns-then-search-clause-wrote : goal.returns-then-search-clause-wrote
returns-then-search-clause-wrote g c =
    let e = c.repair_search.ensures in
    let found = rw c.over-salvager.ensures at e.repaired in
    let marked = rw c.over-salvager.ensures at e.marked in
    let fault = rw c.over-salvager.ensures at e.read_fault in
    let lost = rw c.over-salvager.ensures at e.left in
    (c.repair_search.new.salvager.source, wrote_found c.args.search _ _ _ _ c.args.reader.file.byte_limit _ c.repair_search.result c.if-search.true c.requires.limit found, marked, fault, lost)

pub returns-clause-wrote : goal.returns-clause-wrote
returns-clause-wrote g c =
    let e = c.repair_front.ensures in
    (c.repair_front.new.reader.source, wrote_front c.args.search _ _ _ _ c.args.reader.file.byte_limit _ c.repair_front.result c.if-search.false c.requires.limit e.repaired, e.marked, e.read_fault, e.left)
