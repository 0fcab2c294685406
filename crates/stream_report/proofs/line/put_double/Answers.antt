use Rattle.std.proofs.Common.{◌∷◌, sym, ap, List, ℕ}
use Rattle.std.proofs.lemmas.Str.{IsAscii-append}
use Rattle.stream_report.specs.Words.{double_word}
use Rattle.stream_report.proofs.Digits.{digits_apart}
use Rattle.stream_report.proofs.line.put_double.Goals as goal

pub returns-clause-word : goal.returns-clause-word
unfolding double_word
returns-clause-word c = rw (c.put_float.ensures.word, c.put_eight.ensures.digits) (ap (λ (t : List ℕ). 32 ∷ t) (sym (digits_apart 8 8 c.args.bits)))

pub returns-clause-ascii : goal.returns-clause-ascii
returns-clause-ascii c = IsAscii-append _ _ c.put_float.ensures.ascii c.put_eight.ensures.ascii
