use Rattle.std.proofs.Common.{◌≡◌, ◌+◌, ◌≤◌, [], length}
use Rattle.plan_words.specs.Drafts.{drafted, draft_of}
use Rattle.plan_words.proofs.LineByLine.{said_from}
use Rattle.plan_words.proofs.plan.read_lines.Given as goal

abbrev pub invariant-loop-rest : goal.invariant-loop-rest
invariant-loop-rest l = record {
  within : l.number + length l.rest ≤ length l.text;
  same : drafted l.out (draft_of []) (said_from 1 l.text) ≡ drafted l.out l.draft (said_from (l.number + 1) l.rest);
}

abbrev pub decreases-loop-rest : goal.decreases-loop-rest
decreases-loop-rest l = length l.rest
