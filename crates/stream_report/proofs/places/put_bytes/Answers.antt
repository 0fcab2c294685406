use Rattle.std.proofs.Common.{sym, subst, arith}
use Rattle.std.specs.Str.{IsAscii}
use Rattle.stream_report.proofs.Digits.{all_bytes, bytes_ascii}
use Rattle.stream_report.proofs.places.put_bytes.Goals as goal

pub returns-clause-ascii : goal.returns-clause-ascii
returns-clause-ascii c =
    let all = all_bytes c.loop-i.out c.args.bytes.now c.loop-i.i (omega arith) c.loop-i.invariant.room c.loop-i.invariant.digits in
    subst IsAscii (sym all) (bytes_ascii c.args.bytes.now)
