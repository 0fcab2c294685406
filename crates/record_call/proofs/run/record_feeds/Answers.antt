use Rattle.rec_base.specs.Asked.{AsksAll}
use Rattle.rec_base.specs.declared.asked.Asked.{Asked}
use Rattle.rec_base.specs.declared.asked.Asked.TheVariants.{Creation}
use Rattle.std.proofs.Common.{◌≡◌, ◌∷◌, [], inr, refl, sym, subst, ◌∙◌, arith, List, ℕ, Option}
use Rattle.chunk_grammar.specs.Chunk.{least_file_text}
use Rattle.rec_base.specs.Known.{Becomes}
use Rattle.rec_base.proofs.Taken.{Becomes-appends}
use Rattle.record_call.proofs.Records.{cut_of, opened_in}
use Rattle.record_call.proofs.run.record_feeds.Goals as goal

pub run-requires-clause-mode : goal.run-requires-clause-mode
run-requires-clause-mode g c = λ κs within. opened_in c.args.settings.mode c.args.settings.ring c.args.settings.batch c.args.streams.items c.args.feeds.items c.in_ok-recorder.recorder c.in_ok-recorder.ensures

pub returns-in-Done-clause-written : goal.returns-in-Done-clause-written
returns-in-Done-clause-written g c =
    let done = c.in-Done.ensures.done c.args.settings.ring c.args.settings.batch c.args.streams.items c.args.feeds.items c.in_ok-recorder.ensures in
    let P : Option (List ℕ) → Type 0 = λ t. Becomes (g.D.Dock.target c.args.dock.now) t c.args.out.now in
    record {
      fed = done.fed;
      chunks = done.chunks;
      run = done.run;
      created = subst P (sym (g.met.D.Dock.write_keeps_target c.create.new.self c.run.new.sink c.run.ensures.rest)) c.in-Ok.ensures.target;
      text = Becomes-appends _ _ _ [] (least_file_text done.chunks) c.in-Ok.ensures.held done.written;
      told = done.told;
      size = done.size;
      chunk_count = done.chunk_count;
    }

pub returns-in-Done-clause-printed : goal.returns-in-Done-clause-printed
returns-in-Done-clause-printed g c = g.met.D.Dock.write_keeps_printed c.create.new.self c.run.new.sink c.run.ensures.rest ∙ c.in-Ok.ensures.printed

pub returns-in-Done-clause-print_faults : goal.returns-in-Done-clause-print_faults
returns-in-Done-clause-print_faults g c = g.met.D.Dock.write_keeps_print_faults c.create.new.self c.run.new.sink c.run.ensures.rest ∙ c.in-Ok.ensures.print_faults

pub returns-in-WriteFault-clause-not_written : goal.returns-in-WriteFault-clause-not_written
returns-in-WriteFault-clause-not_written g c = λ _.
    let stopped = c.in-WriteFault.ensures.stopped c.args.settings.ring c.args.settings.batch c.args.streams.items c.args.feeds.items c.in_ok-recorder.ensures in
    let P : Option (List ℕ) → Type 0 = λ t. Becomes (g.D.Dock.target c.args.dock.now) t c.args.out.now in
    let target = subst P (sym (g.met.D.Dock.write_keeps_target c.create.new.self c.run.new.sink c.run.ensures.rest)) c.in-Ok.ensures.target in
    (c.create.new.self, (c.in-Ok.ensures.target, c.in-Ok.ensures.held), c.in-WriteFault.ensures.cause.rose refl, cut_of g.D.Source.Source.left c.args.streams.items c.args.feeds.items c.args.out.now _ _ _ _ _ target c.in-Ok.ensures.held stopped)

pub returns-in-WriteFault-clause-printed : goal.returns-in-WriteFault-clause-printed
returns-in-WriteFault-clause-printed g c = g.met.D.Dock.write_keeps_printed c.create.new.self c.run.new.sink c.run.ensures.rest ∙ c.in-Ok.ensures.printed

pub returns-in-WriteFault-clause-print_faults : goal.returns-in-WriteFault-clause-print_faults
returns-in-WriteFault-clause-print_faults g c = g.met.D.Dock.write_keeps_print_faults c.create.new.self c.run.new.sink c.run.ensures.rest ∙ c.in-Ok.ensures.print_faults

pub returns-clause-memory : goal.returns-clause-memory
returns-clause-memory g c = λ _.
    let stopped = c.in-Memory.ensures.stopped c.args.settings.ring c.args.settings.batch c.args.streams.items c.args.feeds.items c.in_ok-recorder.ensures in
    let P : Option (List ℕ) → Type 0 = λ t. Becomes (g.D.Dock.target c.args.dock.now) t c.args.out.now in
    let target = subst P (sym (g.met.D.Dock.write_keeps_target c.create.new.self c.run.new.sink c.run.ensures.rest)) c.in-Ok.ensures.target in
    inr (cut_of g.D.Source.Source.left c.args.streams.items c.args.feeds.items c.args.out.now _ _ _ _ _ target c.in-Ok.ensures.held stopped)

pub returns-clause-printed : goal.returns-clause-printed
returns-clause-printed g c = g.met.D.Dock.write_keeps_printed c.create.new.self c.run.new.sink c.run.ensures.rest ∙ c.in-Ok.ensures.printed

pub returns-clause-print_faults : goal.returns-clause-print_faults
returns-clause-print_faults g c = g.met.D.Dock.write_keeps_print_faults c.create.new.self c.run.new.sink c.run.ensures.rest ∙ c.in-Ok.ensures.print_faults

pub returns-clause-numbers : goal.returns-clause-numbers
returns-clause-numbers g c = λ _.
    inr (λ numbers. c.in-Memory.ensures.memory c.args.settings.ring c.args.settings.batch c.args.streams.items c.args.feeds.items c.in_ok-recorder.ensures numbers refl)

pub returns-in-Err-clause-not_created : goal.returns-in-Err-clause-not_created
returns-in-Err-clause-not_created g c = λ _.
    (record { count = 0; some = omega arith; asks = c.in-Err.ensures.asks; rose = c.in-Err.ensures.cause.failed }, c.in-Err.ensures.same_target, c.in-Err.ensures.same_held)

-- what was asked for stays with a run
run_asked : (old made last : Option (List Asked)) (out : List ℕ) → last ≡ made → AsksAll old made (Creation out ∷ []) → AsksAll old last (Creation out ∷ [])
run_asked old made last out same asks = subst (λ (a : Option (List Asked)). AsksAll old a (Creation out ∷ [])) (sym same) asks

pub returns-in-Done-clause-asks : goal.returns-in-Done-clause-asks
returns-in-Done-clause-asks g c = (1, run_asked _ _ _ c.args.out.now (g.met.D.Dock.write_keeps_asked c.create.new.self c.run.new.sink c.run.ensures.rest) c.in-Ok.ensures.asks)

pub returns-in-Done-clause-asks_all : goal.returns-in-Done-clause-asks_all
returns-in-Done-clause-asks_all g c = λ _. run_asked _ _ _ c.args.out.now (g.met.D.Dock.write_keeps_asked c.create.new.self c.run.new.sink c.run.ensures.rest) c.in-Ok.ensures.asks

pub returns-in-Done-clause-quiet : goal.returns-in-Done-clause-quiet
returns-in-Done-clause-quiet g c = λ _. g.met.D.Dock.write_keeps_open_faults c.create.new.self c.run.new.sink c.run.ensures.rest ∙ c.in-Ok.ensures.cause.quiet

pub returns-clause-asks : goal.returns-clause-asks
returns-clause-asks g c = (1, run_asked _ _ _ c.args.out.now (g.met.D.Dock.write_keeps_asked c.create.new.self c.run.new.sink c.run.ensures.rest) c.in-Ok.ensures.asks)

pub returns-clause-quiet : goal.returns-clause-quiet
returns-clause-quiet g c = λ _. g.met.D.Dock.write_keeps_open_faults c.create.new.self c.run.new.sink c.run.ensures.rest ∙ c.in-Ok.ensures.cause.quiet
