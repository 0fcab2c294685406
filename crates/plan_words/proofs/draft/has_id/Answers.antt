use Rattle.std.proofs.Common.{sym, nat_eq, arith}
use Rattle.std.proofs.lemmas.Bool.{ne_eqb}
use Rattle.std.proofs.lemmas.Bool.Decides.{Decides-eqb}
use Rattle.plan_words.proofs.Found.{found, not_so_far, is_there}
use Rattle.plan_words.proofs.draft.has_id.Goals as goal

pub returns-in_default : goal.returns-in_default
returns-in_default c = absurd (is_there c.args.feeds.now c.loop-i.i (omega (arith, c.loop-i-test.true, c.len-i-end.ensures)) c.in_default.ensures)

pub returns-then-feed-id : goal.returns-then-feed-id
returns-then-feed-id c = sym (found (λ feed. nat_eq feed.id c.args.id) c.args.feeds.now c.loop-i.i c.in-Some.feed.now c.in-Some.ensures ((Decides-eqb c.in-Some.feed.now.id c.args.id).1 c.if-feed-id.true))

pub loop-i-preserved : goal.loop-i-preserved
loop-i-preserved c = not_so_far (λ feed. nat_eq feed.id c.args.id) c.args.feeds.now c.loop-i.i c.in-Some.feed.now c.in-Some.ensures (ne_eqb c.in-Some.feed.now.id c.args.id c.if-feed-id.false) c.loop-i.invariant
