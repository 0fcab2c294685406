use Rattle.file_call.proofs.Drills.{recorded_of}
use Rattle.file_call.proofs.recorded.record_drill.Goals as goal

pub returns-in-Done : goal.returns-in-Done
returns-in-Done c =
    recorded_of c.args.number c.args.sink.now.held c.run_turns.new.sink.held c.in_ok-streams.streams.items c.in_ok-feeds.feeds.items c.in-Done.reports c.in-Done.sources c.in-Done.bytes c.in-Done.chunks _ _ c.in_ok-feeds.ensures.samples c.requires.empty c.in_ok-streams.ensures.streams c.in_ok-feeds.ensures.feeds c.totals-kept.ensures.kept c.totals-kept.ensures.lost
    (c.in-Done.ensures.done 64 100 c.in_ok-streams.streams.items c.in_ok-feeds.feeds.items c.in_ok-recorder.ensures)
