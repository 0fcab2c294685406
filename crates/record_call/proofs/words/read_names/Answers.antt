use Rattle.plan_model.specs.declared.top.Top.TheVariants.{Record as top_record}
use Rattle.record_call.proofs.Commands.{not_other, usage_known}
use Rattle.record_call.proofs.words.read_names.Goals as goal

pub returns-in-Err-clause-known : goal.returns-in-Err-clause-known
returns-in-Err-clause-known c = usage_known top_record c.args.words.now c.in-Err.usage.why c.in-Err.ensures

pub returns-in_default-clause-names : goal.returns-in_default-clause-names
returns-in_default-clause-names c = absurd (not_other c.args.words.now c.in-Ok.command c.in_default.not-Record c.in-Ok.ensures)
