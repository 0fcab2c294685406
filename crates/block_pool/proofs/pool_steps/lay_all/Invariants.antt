use Rattle.std.proofs.Common.{◌≡◌}
use Rattle.crossbeam_queue.specs.Passes.{view, IsSamePass}
use Rattle.block_pool.specs.Rule.{after_giving}
use Rattle.block_pool.proofs.pool_steps.lay_all.Given as goal

abbrev pub invariant-laying : goal.invariant-laying
invariant-laying l = IsSamePass l.initial.pass l.pass × (view l.pass ≡ after_giving (view l.initial.pass) l.counter)
