use Rattle.std.proofs.Common.{◌-◌, length, ◌∙◌, ap, arith}
use Rattle.record_writer.proofs.Around.{texts_stay}
use Rattle.record_writer.proofs.piece.put_before.Goals as goal

pub returns-clause-texts : goal.returns-clause-texts
returns-clause-texts c =
    let value = c.deref_mut.ensures.value in
    let short = c.requires.head in
    let free = c.requires.free in
    texts_stay c.args.bytes.now.len (24 - length c.args.head.now) (24 - (24 - length c.args.head.now)) c.args.bytes.now.items c.deref_mut.result.now c.copy_from_slice.new.self _
    value (omega (arith, c.deref_mut.ensures.len, ap length value)) (omega (arith, short)) free (ap length c.copy_from_slice.ensures.after ∙ omega (arith, short))
