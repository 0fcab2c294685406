use Rattle.record_cli.specs.Shown.{Shown}
use Rattle.record_cli.proofs.run.answer.Goals as goal

pub returns-then-is_record : goal.returns-then-is_record
returns-then-is_record g c =
    let e = c.record_main.ensures in
    rw (← c.if-is_record.ensures) (record {
      statuses = e.statuses;
      caused = e.caused;
      all_asked = e.all_asked;
      recorded = e.recorded;
      used = e.used;
      usage = e.usage;
      refused = e.refused;
      open_fault = e.open_fault;
      write_fault = λ is. let f = e.write_fault is in let created : Shown _ = record { contents = g.D.Dock.contents f.1; marks = g.D.Dock.marks f.1; asked = g.D.Dock.asked f.1; target = g.D.Dock.target f.1; held = g.D.Sink.held f.1; printed = g.D.Lines.printed f.1; opens = g.D.Dock.open_faults f.1; writes = g.D.Sink.write_faults f.1; says = g.D.Lines.print_faults f.1 } in (f.0, created, f.2, f.3);
      no_document = e.no_document;
      cost = e.cost;
      say_fault = e.say_fault;
      memory = e.memory;
      numbers = e.numbers;
      completes = e.completes;
      no_file = e.no_file;
      fault_line = e.fault_line;
    })

pub returns-else-is_record : goal.returns-else-is_record
returns-else-is_record g c =
    let e = c.file_main.ensures in
    rw (← c.if-is_record.ensures) (record {
      caused = e.caused;
      usage = e.usage;
      usage_line = e.usage_line;
      usage_writes_nothing = e.usage_writes_nothing;
      show_statuses = e.show_statuses;
      shown = e.shown;
      show_not_xdf = e.show_not_xdf;
      show_open_fault = e.show_open_fault;
      show_size_limit = e.show_size_limit;
      show_say_fault = e.show_say_fault;
      show_memory = e.show_memory;
      show_writes_nothing = e.show_writes_nothing;
      check_statuses = e.check_statuses;
      checked = e.checked;
      check_not_xdf = e.check_not_xdf;
      check_open_fault = e.check_open_fault;
      check_size_limit = e.check_size_limit;
      check_say_fault = e.check_say_fault;
      check_memory = e.check_memory;
      check_writes_nothing = e.check_writes_nothing;
      repair_statuses = e.repair_statuses;
      repaired = e.repaired;
      repair_not_xdf = e.repair_not_xdf;
      repair_open_fault = e.repair_open_fault;
      repair_write_fault = λ search from out asked is. let f = e.repair_write_fault search from out asked is in let created : Shown _ = record { contents = g.D.Dock.contents f.0.0; marks = g.D.Dock.marks f.0.0; asked = g.D.Dock.asked f.0.0; target = g.D.Dock.target f.0.0; held = g.D.Sink.held f.0.0; printed = g.D.Lines.printed f.0.0; opens = g.D.Dock.open_faults f.0.0; writes = g.D.Sink.write_faults f.0.0; says = g.D.Lines.print_faults f.0.0 } in ((created, f.0.1, f.0.2, f.0.3, f.0.4), f.1);
      repair_size_limit = e.repair_size_limit;
      repair_say_fault = e.repair_say_fault;
      repair_memory = e.repair_memory;
      search_goes_over_damage = e.search_goes_over_damage;
      repair_completes = e.repair_completes;
      drill_statuses = e.drill_statuses;
      drilled = e.drilled;
      drill_say_fault = e.drill_say_fault;
      drill_memory = e.drill_memory;
      drill_writes_nothing = e.drill_writes_nothing;
    })
