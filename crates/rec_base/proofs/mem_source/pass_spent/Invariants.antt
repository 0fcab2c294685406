use Rattle.std.proofs.Common.{◌≡◌, ◌≤◌, ◌-◌, length, drop, take, count_by}
use Rattle.rec_base.specs.Pieces.{after_given, front_bytes, is_fail, without_empty}
use Rattle.rec_base.proofs.mem_source.pass_spent.Given as goal

abbrev pub invariant-loop-passed : goal.invariant-loop-passed
invariant-loop-passed l = record {
  at : l.passed ≤ length l.pieces;
  within : l.given ≤ length (front_bytes (drop l.passed l.pieces));
  left : without_empty (after_given (drop l.passed l.pieces) l.given) ≡ without_empty (after_given (drop l.initial.passed l.pieces) l.initial.given);
  faults : count_by is_fail (take l.passed l.pieces) ≡ count_by is_fail (take l.initial.passed l.pieces);
}

abbrev pub decreases-loop-passed : goal.decreases-loop-passed
decreases-loop-passed l = length l.pieces - l.passed
