use Rattle.std.proofs.Common.{sym, ◌∙◌}
use Rattle.plan_words.proofs.Texts.{control_byte, text_line, no_text}
use Rattle.plan_words.proofs.text.read_text.Goals as goal

pub returns-then-has_control : goal.returns-then-has_control
returns-then-has_control c = control_byte c.args.line.now (sym c.has_control.ensures ∙ c.if-has_control.true)

pub returns-in-Ok : goal.returns-in-Ok
returns-in-Ok c = (text_line c.args.line.now (sym c.has_control.ensures ∙ c.if-has_control.false) c.in-Ok.ensures.cases.1, c.in-Ok.ensures.cases.0)

pub returns-in-Err : goal.returns-in-Err
returns-in-Err c = no_text c.args.line.now c.in-Err.ensures.cases.0
