use Rattle.std.proofs.Common.{rules}
use Rattle.file_call.proofs.open.open_file.Goals as goal

pub returns-in-Ok-open-2-clause-asks : goal.returns-in-Ok-open-2-clause-asks
returns-in-Ok-open-2-clause-asks g c = (1, search rules)

pub returns-in-Err-NotXdf-clause-asks : goal.returns-in-Err-NotXdf-clause-asks
returns-in-Err-NotXdf-clause-asks g c = (1, search rules)

pub returns-in-Err-ReadFault-clause-asks : goal.returns-in-Err-ReadFault-clause-asks
returns-in-Err-ReadFault-clause-asks g c = (1, search rules)
