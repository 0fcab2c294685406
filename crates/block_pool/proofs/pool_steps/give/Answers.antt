use Rattle.std.proofs.Common.{sym, subst, ap, ◌∙◌}
use Rattle.block_pool.specs.declared.rule.Knows.{Knows}
use Rattle.sample_pool.specs.Block.{BlockValue}
use Rattle.block_pool.specs.Rule.{IsGiver}
use Rattle.block_pool.proofs.Moves.{gives}
use Rattle.block_pool.proofs.pool_steps.give.Goals as goal

pub push_as-requires-clause-rule : goal.push_as-requires-clause-rule
push_as-requires-clause-rule g c =
    let i = c.loop.invariant in (
      gives _ _ _ _ (subst (λ (k : Knows). IsGiver k) (sym i.1) c.requires.pass.1) (c.requires.room ∙ sym (ap (λ (k : Knows). k.room) i.1))
          (ap (λ (b : BlockValue). b.length) i.2 ∙ c.requires.size ∙ sym (ap (λ (k : Knows). k.size) i.1)),
      λ items views kept at. tt,
    )
