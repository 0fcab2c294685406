use Rattle.std.proofs.Common.{sym}
use Rattle.sample_values.proofs.Cuts.{parts_ok, parts_some}
use Rattle.sample_values.proofs.raw_view.parts_of.Goals as goal

pub unreachable-requires : goal.unreachable-requires
unreachable-requires c = parts_some c.args.shape.now c.args.bytes.now _ c.in-Err.ensures c.requires

pub returns-clause-stamp : goal.returns-clause-stamp
returns-clause-stamp c = sym (parts_ok c.args.shape.now c.args.bytes.now _ _ c.in-Ok.ensures c.requires).0

pub returns-clause-values : goal.returns-clause-values
returns-clause-values c = (parts_ok c.args.shape.now c.args.bytes.now _ _ c.in-Ok.ensures c.requires).1
