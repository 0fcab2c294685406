use Rattle.std.proofs.Common.{◌∙◌, arith}
use Rattle.thread_run.proofs.feeds.FeedThreads.open.Goals as goal

pub returns-clause-halt : goal.returns-clause-halt
returns-clause-halt g c =
    let halt = c.in_ok-raiser.ensures in
    let works = c.in_ok-works.ensures in
    let stay = c.new_lanes.ensures.same in
    record {
      down = halt.raiser;
      same = stay.0 ∙ halt.list.0;
      none = works.none;
      room = omega (arith, works.count.0, stay.1, halt.list.1);
      each = λ p w e. let u = works.unseen p w e in (u.0 ∙ halt.list.0, u.1);
    }
