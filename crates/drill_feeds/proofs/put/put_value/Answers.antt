use Rattle.std.proofs.Common.{arith, rules}
use Rattle.drill_feeds.proofs.Growing.{text_put}
use Rattle.drill_feeds.proofs.put.put_value.Goals as goal

pub returns-in_default : goal.returns-in_default
returns-in_default c = text_put c.put_text.result c.args.id c.args.samples c.args.position c.args.channel c.number_at-n.result _ _ (search (rules, arith)) (search (rules, arith)) c.number_at-n.ensures c.put_text.ensures
