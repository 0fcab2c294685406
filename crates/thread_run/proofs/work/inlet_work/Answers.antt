use Rattle.std.proofs.Common.{◌≡◌, List, [], ◌∷◌, length, length-append, sym, ap, ◌∙◌, subst, arith}
use Rattle.piece_reader.proofs.Ending.{ends_so}
use Rattle.xdf_model.specs.Sample.{Sample}
use Rattle.reading_model.specs.Outlook.{Answered}
use Rattle.reading_model.specs.Read.{IsRead}
use Rattle.inlet_model.specs.declared.end.FeedEnd.TheVariants.{ReadFault}
use Rattle.inlet_model.specs.Inlet.{feed_kind}
use Rattle.feed_samples.specs.declared.step.FeedStep.{FeedStep}
use Rattle.feed_samples.specs.Inlet.{got, outlook}
use Rattle.feed_lane.specs.declared.step.LaneStep.TheVariants as lane
use Rattle.run_model.proofs.Ends.{fault_alone}
use Rattle.thread_run.proofs.Reading.{sample_put, end_met, begun_sample, begun_memory, received_sample, received_end, received_memory}
use Rattle.thread_run.proofs.work.inlet_work.Goals as goal

pub loop-preserved : goal.loop-preserved
loop-preserved g c =
    let L = g.S.Source.left in
    let i = c.loop.invariant in
    let n = c.in-Sample.ensures in
    let r = (outlook c.args.reader.now.inlet).coming in
    let new = c.take_from.new.reader in
    record {
      begun = begun_sample r (outlook c.loop.reader.inlet) (outlook new.inlet) (L c.args.reader.now.source) (L c.loop.reader.source) (L new.source) c.loop.tail c.take_from.new.self n.put.0 i.begun n.put.2 n.put.1;
      marked = n.marked ∙ i.marked;
      quiet = n.cause.quiet (λ h. absurd (cc h.1)) ∙ i.quiet;
      shape = n.same_shape.0 ∙ i.shape;
      limit = n.same_shape.1 ∙ i.limit;
      received = received_sample c.loop.tail c.take_from.new.self n.put.0 c.loop.reader.inlet.received new.inlet.received n.put.1 i.received n.put.4;
      bounded = omega (arith, n.bounded, n.same_shape.1, i.limit);
      lane = n.same ∙ i.lane;
      word = c.seen.ensures.word ∙ i.word;
      looks = let p = sample_put c.loop.tail c.take_from.new.self n.put.0 n.put.1 in omega (arith, c.seen.ensures.looks, i.looks, ap length p.2, length-append c.loop.tail.puts (p.0 ∷ []));
    }

pub returns-in-End-clause-put : goal.returns-in-End-clause-put
returns-in-End-clause-put g c =
    let L = g.S.Source.left in
    let i = c.loop.invariant in
    let n = c.in-End.ensures in
    let r = (outlook c.args.reader.now.inlet).coming in
    let new = c.take_from.new.reader in
    let met = end_met c.loop.tail c.take_from.new.self n.put.0 c.in-End.end n.put.1 in
    let answered = subst (λ (x : FeedStep). Answered feed_kind (outlook c.loop.reader.inlet) (outlook new.inlet) (L c.loop.reader.source) (L new.source) (got x)) met.0 n.put.2 in
    let e = ends_so feed_kind r (outlook c.loop.reader.inlet) (outlook new.inlet) (L c.args.reader.now.source) (L c.loop.reader.source) (L new.source) c.loop.tail.puts c.in-End.end i.begun answered in
    subst (λ (l : List Sample). IsRead L g.S.Source.faults g.S.Source.mark feed_kind r c.args.reader.now.source new.source l c.in-End.end) (sym met.1) (record {
      marked = n.marked ∙ i.marked;
      later = omega (arith, n.cause.later, i.quiet);
      taken = e.0;
      lost = e.1;
      ends = e.2;
      cause = λ is. let rose = n.cause.rose (i.begun.goes, ap lane.End (fault_alone c.in-End.end is)) in omega (arith, rose, i.quiet);
      quiet = λ whole. n.cause.quiet (λ h. whole (let same : c.in-End.end ≡ ReadFault = cc h.1 in ap feed_kind same)) ∙ i.quiet;
    })

pub returns-in-Memory-clause-put : goal.returns-in-Memory-clause-put
returns-in-Memory-clause-put g c =
    let L = g.S.Source.left in
    let r = (outlook c.args.reader.now.inlet).coming in
    let n = c.in-Memory.ensures in
    let new = c.take_from.new.reader in (
      begun_memory r (outlook c.loop.reader.inlet) (outlook new.inlet) (L c.args.reader.now.source) (L c.loop.reader.source) (L new.source) c.loop.tail c.take_from.new.self n.put.0 c.loop.invariant.begun n.put.2 n.put.1,
      n.cause.quiet (λ h. absurd (cc h.1)) ∙ c.loop.invariant.quiet,
    )

pub returns-in-End-clause-counts : goal.returns-in-End-clause-counts
returns-in-End-clause-counts g c =
    let i = c.loop.invariant in
    let n = c.in-End.ensures in
    let new = c.take_from.new.reader in
    (received_end c.loop.tail c.take_from.new.self n.put.0 c.in-End.end c.loop.reader.inlet.received new.inlet.received n.put.1 i.received n.put.4, omega (arith, n.bounded, n.same_shape.1, i.limit))

pub returns-in-Memory-clause-counts : goal.returns-in-Memory-clause-counts
returns-in-Memory-clause-counts g c =
    let i = c.loop.invariant in
    let n = c.in-Memory.ensures in
    let new = c.take_from.new.reader in
    (received_memory c.loop.tail c.take_from.new.self n.put.0 c.loop.reader.inlet.received new.inlet.received n.put.1 i.received n.put.4, omega (arith, n.bounded, n.same_shape.1, i.limit))
