use Rattle.boundary_search.proofs.Found.{found_from, none_from}
use Rattle.boundary_search.proofs.find.find_boundary.Goals as goal

pub returns-in-Some : goal.returns-in-Some
returns-in-Some c = found_from c.args.bytes.now c.args.from c.in-Some.place c.requires c.in-Some.ensures

pub returns-in-None : goal.returns-in-None
returns-in-None c = none_from c.args.bytes.now c.args.from c.requires c.in-None.ensures
