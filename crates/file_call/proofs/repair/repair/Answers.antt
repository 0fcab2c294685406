use Rattle.file_call.proofs.Repairs.{cut_still, cut_of_kept}
use Rattle.file_call.proofs.repair.repair.Goals as goal

pub returns-in-Err-say_kept-clause-memory : goal.returns-in-Err-say_kept-clause-memory
returns-in-Err-say_kept-clause-memory g c = λ _.
    cut_still c.args.search _ _ _ _ _ _ _ _ _ _ (g.met.D.Dock.say_keeps_target c.write_kept.new.dock c.say_kept.new.dock c.say_kept.ensures.rest) (g.met.D.Dock.say_keeps_held c.write_kept.new.dock c.say_kept.new.dock c.say_kept.ensures.rest) (cut_of_kept c.args.search _ _ _ _ _ _ _ _ c.in-Ok.kept.chunks c.in-Ok.kept.bytes c.in-Ok.kept.skipped c.in-Ok.ensures.kept)
