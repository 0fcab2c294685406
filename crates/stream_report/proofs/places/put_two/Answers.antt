use Rattle.std.proofs.Common.{◌∙◌, ◌%◌, arith}
use Rattle.stream_report.proofs.Digits.{pair_at, two_places, last_two}
use Rattle.stream_report.proofs.places.put_two.Goals as goal

pub returns : goal.returns
returns c =
    let p = pair_at (c.args.number % 256) (omega arith) in
    rw (p.0, p.1) (two_places c.args.out.now _ _ c.requires ∙ last_two c.args.number)
