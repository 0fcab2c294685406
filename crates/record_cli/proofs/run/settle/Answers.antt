use Rattle.std.proofs.Common.{◌≡◌, List, ℕ, Option, ap, sym, ◌∙◌, subst, arith}
use Rattle.std.specs.Io.KnownBytes.{Keeps}
use Rattle.rec_base.specs.Causes.{Rose}
use Rattle.record_cli.proofs.Settling.{SaysFault-kept, at_err, at_ok, or_true, raised, true_of}
use Rattle.record_cli.proofs.run.settle.Goals as goal

pub returns : goal.returns
returns g c =
    let D = g.met.D.Dock in
    let old = c.args.dock.now in
    let forced = c.force.new.self in
    let spoken = c.say_unforced.new.dock in
    let now = c.flush.new.self in
    let f = c.force.ensures in
    let s = c.say_unforced.ensures in
    let e = c.flush.ensures in
    let printed : g.D.Lines.printed forced ≡ g.D.Lines.printed old = D.write_keeps_printed old forced f.rest in
    let same : g.D.Lines.print_faults forced ≡ g.D.Lines.print_faults old = D.write_keeps_print_faults old forced f.rest in
    let writes : g.D.Sink.write_faults now ≡ g.D.Sink.write_faults forced = D.say_keeps_write_faults spoken now e.rest ∙ D.say_keeps_write_faults forced spoken s.rest in
    record {
      forced = c.is_ok-forced.result;
      told = c.is_ok-told.result;
      is = c.last_status.ensures;
      disk = λ is. e.forced ∙ ap g.D.Settle.is_forced (s.unspoken (or_true _ _ is)) ∙ at_ok c.force.result _ (sym c.is_ok-forced.ensures.value ∙ true_of _ is) f.forced;
      all_out = λ is. at_ok c.flush.result _ (sym c.is_ok-told.ensures.value ∙ true_of _ is) e.out;
      contents = D.say_keeps_contents spoken now e.rest ∙ D.say_keeps_contents forced spoken s.rest ∙ D.write_keeps_contents old forced f.rest;
      marks = D.say_keeps_marks spoken now e.rest ∙ D.say_keeps_marks forced spoken s.rest ∙ D.write_keeps_marks old forced f.rest;
      asked = D.say_keeps_asked spoken now e.rest ∙ D.say_keeps_asked forced spoken s.rest ∙ D.write_keeps_asked old forced f.rest;
      held = D.say_keeps_held spoken now e.rest ∙ D.say_keeps_held forced spoken s.rest ∙ f.held;
      target = D.say_keeps_target spoken now e.rest ∙ D.say_keeps_target forced spoken s.rest ∙ D.write_keeps_target old forced f.rest;
      unspoken = λ is. subst (λ (p : Option (List ℕ)). Keeps p (g.D.Lines.printed now)) (ap g.D.Lines.printed (s.unspoken is) ∙ printed) e.said;
      spoken = λ no is. SaysFault-kept _ _ _ _ _ _ _ (raised c.flush.result _ _ e.cause) (rw (← printed) (rw (← same) (s.spoken no is))) e.said;
      opens = D.say_keeps_open_faults spoken now e.rest ∙ D.say_keeps_open_faults forced spoken s.rest ∙ D.write_keeps_open_faults old forced f.rest;
      write_rose = λ is. let rose = at_err c.force.result _ (sym c.is_ok-forced.ensures.value ∙ is) f.cause.failed in subst (Rose (g.D.Sink.write_faults old)) (sym writes) rose;
      write_quiet = λ is. writes ∙ at_ok c.force.result _ (sym c.is_ok-forced.ensures.value ∙ true_of _ is) f.cause.quiet;
      say_rose = λ is. let rose = at_err c.flush.result _ (sym c.is_ok-told.ensures.value ∙ is) e.cause.failed in omega (arith, rose, s.later, same);
    }
