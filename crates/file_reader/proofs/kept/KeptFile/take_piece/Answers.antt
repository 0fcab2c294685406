use Rattle.std.proofs.Common.{ap, arith, length, length-drop}
use Rattle.std.proofs.lemmas.List.{take_rest}
use Rattle.file_reader.proofs.Rooms.{grown, no_last, rest_size}
use Rattle.file_reader.proofs.kept.KeptFile.take_piece.Goals as goal

pub invariant_of-self : goal.invariant_of-self
invariant_of-self g c =
    let i = c.self.inside in
    let none = no_last c.args.self.now i.ending i.context i.place i.last i.held.bytes i.byte_limit c.self.view_is c.requires.fresh c.self.invariant.0 in
    let size = rest_size c.args.self.now i.ending i.context i.place i.last i.held.bytes i.byte_limit c.self.view_is c.requires.wants in
    let wanted = (rw (take_rest, c.bytes.ensures) at c.missing.ensures.within) size.0 in
    let grows = grown c.read.result _ _ i.held.bytes c.read.new.self.bytes _ c.read.ensures.moves c.read.ensures.within c.read.ensures.kept in
    let seen = ap length c.bytes.ensures in
    let rest = length-drop i.last i.held.bytes in
    let count = ap length c.bytes-2.ensures in (
      omega (arith, grows.0, c.self.invariant.0),
      c.self.invariant.1,
      c.self.invariant.2,
      omega (arith, grows.1, none, size.1, seen, rest, c.min-most.ensures, c.self.invariant.1, c.self.invariant.3),
      omega (arith, grows.1, none, size.0, wanted, seen, rest, count, c.min-most.ensures, c.max.ensures, c.saturating_sub-ahead.ensures, c.missing.ensures.some),
      omega (arith, c.read.ensures.places, c.self.invariant),
    )
