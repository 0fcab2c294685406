use Rattle.std.proofs.Common.{[], refl}
use Rattle.xdf_repair.proofs.Copies.{front_behind, front_failed, front_less, gathers_all, went_well}
use Rattle.xdf_repair.proofs.waiting.gather.Goals as goal

pub returns-then-is_err-clause-front : goal.returns-then-is_err-clause-front
returns-then-is_err-clause-front g c = front_less _ _ _ c.args.bytes.now (front_failed _ _ _ c.write_all_of.result c.if-is_err.ensures.value c.write_all_of.ensures.err)

pub returns-then-is_err-2-clause-front : goal.returns-then-is_err-2-clause-front
returns-then-is_err-2-clause-front g c =
    front_behind _ _ _ _ c.args.bytes.now (went_well c.write_all_of.result c.if-is_err.ensures.value c.write_all_of.ensures.ok)
    (front_failed _ _ _ c.write_all_of-2.result c.if-is_err-2.ensures.value c.write_all_of-2.ensures.err)

pub returns-clause-gathers : goal.returns-clause-gathers
returns-clause-gathers g c =
    gathers_all _ _ _ _ c.args.bytes.now [] (went_well c.write_all_of.result c.if-is_err.ensures.value c.write_all_of.ensures.ok)
    (went_well c.write_all_of-2.result c.if-is_err-2.ensures.value c.write_all_of-2.ensures.ok) refl
