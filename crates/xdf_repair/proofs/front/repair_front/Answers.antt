use Rattle.xdf_repair.proofs.Copies.{done_so, fault_so, limit_so}
use Rattle.xdf_repair.proofs.front.repair_front.Goals as goal

pub returns-in-End-clause-repaired : goal.returns-in-End-clause-repaired
returns-in-End-clause-repaired g c =
    done_so _ _ _ _ c.copy_chunks.new.reader.file _ _ c.in-Ok.ensures.copied _ _ c.copy_chunks.ensures.limit c.in-End.size c.in-Ok.ensures.all (c.in-End.ensures.first c.in-Ok.ensures.fresh)

pub returns-in-ReadFault-clause-repaired : goal.returns-in-ReadFault-clause-repaired
returns-in-ReadFault-clause-repaired g c =
    fault_so _ _ _ _ c.copy_chunks.new.reader.file _ _ c.in-Ok.ensures.copied _ _ c.copy_chunks.ensures.limit (c.in-ReadFault.ensures.first c.in-Ok.ensures.fresh)

pub returns-in-SizeLimit-clause-repaired : goal.returns-in-SizeLimit-clause-repaired
returns-in-SizeLimit-clause-repaired g c =
    limit_so _ _ _ _ c.copy_chunks.new.reader.file _ _ c.in-Ok.ensures.copied _ _ c.copy_chunks.ensures.limit (c.in-SizeLimit.ensures.first c.in-Ok.ensures.fresh)

pub returns-in-End-clause-left : goal.returns-in-End-clause-left
returns-in-End-clause-left g c = let r = returns-in-End-clause-repaired g c in (r.taken, r.lost)

pub returns-in-ReadFault-clause-left : goal.returns-in-ReadFault-clause-left
returns-in-ReadFault-clause-left g c = let r = returns-in-ReadFault-clause-repaired g c in (r.0.taken, r.0.lost)

pub returns-in-SizeLimit-clause-left : goal.returns-in-SizeLimit-clause-left
returns-in-SizeLimit-clause-left g c = let r = returns-in-SizeLimit-clause-repaired g c in (r.0.taken, r.0.lost)
