use Rattle.std.proofs.Common.{◌∙◌, sym, ap, length}
use Rattle.std.specs.Arc.{arc_value}
use Rattle.crossbeam_queue.specs.Passes.{view}
use Rattle.thread_ring.proofs.Closing.{put_is, drop_is, puts_seen, drops_seen, counts, one_more}
use Rattle.thread_ring.proofs.ends.Tail.push.Goals as goal

pub invariant_of-self : goal.invariant_of-self
invariant_of-self g c =
    let i = c.self.invariant in
    let same = c.in_default.ensures.pass in
    let v = view c.self.inside.pass in
    let w = view c.put.new.pass in
    let k = put_is v w (record { position = c.self.inside.position; value = c.args.value }) i.1 i.6 c.in_default.ensures.put in
    let n = counts v w c.args.value c.self.inside.position _ k.0 i.4 i.2 i.3 in
    ((same.0 ∙ i.0.0, same.2 ∙ i.0.1), k.0.tail, n.0, n.1, n.2, i.5 ∙ sym (ap length k.1), k.0.few)

pub returns-in_default-clause-few : goal.returns-in_default-clause-few
returns-in_default-clause-few g c =
    (put_is (view c.self.inside.pass) (view c.put.new.pass) (record { position = c.self.inside.position; value = c.args.value }) c.self.invariant.1 c.self.invariant.6 c.in_default.ensures.put).0.few

pub returns-in_default-clause-moments : goal.returns-in_default-clause-moments
returns-in_default-clause-moments g c =
    puts_seen (arc_value c.self.inside.ring).table.shared.table_id c.args.self.now (view c.self.inside.pass) (view c.put.new.pass) (record { position = c.self.inside.position; value = c.args.value }) c.self.view_is c.in_default.ensures.put

pub invariant_of-self-2 : goal.invariant_of-self-2
invariant_of-self-2 g c =
    let i = c.self.invariant in
    let same = c.in-Some.ensures.pass in
    let h = c.in-Some.ensures.put in
    let v = view c.self.inside.pass in
    let w = view c.put.new.pass in
    let k = drop_is g.T.Terms.meets v h.0 w c.in-Some.oldest (record { position = c.self.inside.position; value = c.args.value }) i.1 i.6 h.1 h.2 in
    let n = counts v w c.args.value c.self.inside.position _ k.0 i.4 i.2 i.3 in
    ((same.0 ∙ i.0.0, same.2 ∙ i.0.1), k.0.tail, n.0, n.1, n.2, one_more v.dropped w.dropped c.in-Some.oldest c.self.inside.drops i.5 k.1, k.0.few)

pub returns-clause-few : goal.returns-clause-few
returns-clause-few g c =
    let h = c.in-Some.ensures.put in
    (drop_is g.T.Terms.meets (view c.self.inside.pass) h.0 (view c.put.new.pass) c.in-Some.oldest (record { position = c.self.inside.position; value = c.args.value }) c.self.invariant.1 c.self.invariant.6 h.1 h.2).0.few

pub returns-clause-moments : goal.returns-clause-moments
returns-clause-moments g c =
    let h = c.in-Some.ensures.put in
    drops_seen g.T.Terms.meets (arc_value c.self.inside.ring).table.shared.table_id c.args.self.now (view c.self.inside.pass) h.0 (view c.put.new.pass) c.in-Some.oldest (record { position = c.self.inside.position; value = c.args.value }) c.self.view_is h.1 h.2
