use Rattle.std.proofs.Common.{◌≡◌, ◌++◌, sym, subst}
use Rattle.std.specs.Str.{IsAscii}
use Rattle.report_model.specs.Lines.{hex_digits}
use Rattle.stream_report.proofs.Digits.{digits_apart, digits_ascii}
use Rattle.stream_report.proofs.places.put_eight.Goals as goal

pub returns-clause-digits : goal.returns-clause-digits
returns-clause-digits c = rw (c.put_four.ensures, c.put_four-2.ensures) (sym (digits_apart 4 4 c.args.number))

pub returns-clause-ascii : goal.returns-clause-ascii
returns-clause-ascii c =
    let all : c.put_four.new.out ++ c.put_four-2.new.out ≡ hex_digits 8 c.args.number = rw (c.put_four.ensures, c.put_four-2.ensures) (sym (digits_apart 4 4 c.args.number)) in
    subst IsAscii (sym all) (digits_ascii 8 c.args.number)
