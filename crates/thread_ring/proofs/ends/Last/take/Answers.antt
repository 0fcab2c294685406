use Rattle.std.proofs.Common.{◌∙◌, sym, ap, length}
use Rattle.thread_ring.proofs.Closing.{last_says}
use Rattle.thread_ring.proofs.ends.Last.take.Goals as goal

pub invariant_of-self : goal.invariant_of-self
invariant_of-self g c =
    let i = c.self.invariant in
    let same = c.take_last.ensures.pass in
    let k = last_says g.T.Terms.meets _ _ c.take_last.result i.1 i.2 i.5 c.take_last.ensures.taken in
    ((same.0 ∙ i.0.0, same.2 ∙ i.0.1), k.tail, k.head, i.3 ∙ sym (ap length k.puts), i.4 ∙ sym (ap length k.dropped), k.reached)

pub returns-clause-oldest : goal.returns-clause-oldest
returns-clause-oldest g c =
    let i = c.self.invariant in
    rw (← c.self.view_is) (last_says g.T.Terms.meets _ _ c.take_last.result i.1 i.2 i.5 c.take_last.ensures.taken).oldest

pub returns-clause-step : goal.returns-clause-step
returns-clause-step g c =
    let i = c.self.invariant in
    rw (← c.self.view_is) (last_says g.T.Terms.meets _ _ c.take_last.result i.1 i.2 i.5 c.take_last.ensures.taken).step

pub returns-clause-above : goal.returns-clause-above
returns-clause-above g c =
    let i = c.self.invariant in
    rw (← c.self.view_is) (last_says g.T.Terms.meets _ _ c.take_last.result i.1 i.2 i.5 c.take_last.ensures.taken).above

pub returns-clause-reached : goal.returns-clause-reached
returns-clause-reached g c =
    let i = c.self.invariant in
    (last_says g.T.Terms.meets _ _ c.take_last.result i.1 i.2 i.5 c.take_last.ensures.taken).reached
