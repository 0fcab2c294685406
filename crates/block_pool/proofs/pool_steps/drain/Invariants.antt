use Rattle.std.proofs.Common.{◌≡◌}
use Rattle.crossbeam_queue.specs.Passes.{view, IsSamePass}
use Rattle.block_pool.specs.Rule.{after_taking}
use Rattle.block_pool.proofs.pool_steps.drain.Given as goal

abbrev pub invariant-loop : goal.invariant-loop
invariant-loop g l = IsSamePass l.initial.pass l.pass × (view l.pass ≡ after_taking (view l.initial.pass) l.home)
