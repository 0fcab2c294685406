use Rattle.std.proofs.Common.{◌≡◌, ℕ, List, ◌++◌, drop, ap, ◌∙◌}
use Rattle.std.proofs.lemmas.List.{drop-append-le}
use Rattle.record_writer.specs.ChunkRoom.{ChunkRoomState}
use Rattle.record_writer.proofs.chunk_room.ChunkRoom.put.Goals as goal

pub returns : goal.returns
returns c =
    let old = c.self.inside.bytes.items in
    let texts : drop 24 c.put_bytes.new.out.items ≡ drop 24 old ++ c.args.text.now =
    ap (λ (t : List ℕ). drop 24 t) c.put_bytes.ensures.items ∙ drop-append-le 24 old c.args.text.now c.self.invariant.0 in
    rw (← c.self.view_is) (ap (λ (t : List ℕ). let r : ChunkRoomState = record { texts = t; room = c.self.inside.room } in r) texts)
