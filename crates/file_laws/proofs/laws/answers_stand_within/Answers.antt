use Rattle.file_laws.proofs.Sizes.{whole_within, bad_within}
use Rattle.file_laws.proofs.laws.answers_stand_within.Goals as goal

pub returns-clause-whole : goal.returns-clause-whole
returns-clause-whole c = whole_within

pub returns-clause-bad : goal.returns-clause-bad
returns-clause-bad c = bad_within
