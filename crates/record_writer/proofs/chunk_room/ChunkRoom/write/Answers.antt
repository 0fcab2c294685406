use Rattle.std.proofs.Common.{ℕ, List, ◌∙◌, subst, arith}
use Rattle.std.specs.Io.KnownBytes.{Appends}
use Rattle.rec_base.specs.Known.{AppendsFront}
use Rattle.record_writer.proofs.Around.{chunk_is, chunk_size}
use Rattle.record_writer.proofs.chunk_room.ChunkRoom.write.Goals as goal

pub returns-in_err-done-clause-front : goal.returns-in_err-done-clause-front
returns-in_err-done-clause-front g c =
    let old = c.self.inside.bytes.items in
    let text = chunk_is old c.put_before-from.new.bytes.items c.put_due.new.bytes.items c.deref.result.now c.deref-2.result.now c.put_before-from.result c.args.since _ c.args.id c.args.count _
    c.put_before-from.ensures.is c.put_before-from.ensures.len c.put_before-from.ensures.place c.self.invariant.0 (omega (arith, c.len-end.ensures)) c.put_due.ensures.items
    (c.deref.ensures.value ∙ c.put_head.ensures.items) (omega (arith, c.len-end.ensures)) c.deref-2.ensures.value in
    rw (← c.self.view_is) (subst (λ (t : List ℕ). AppendsFront (g.K.Sink.held c.args.sink.now) (g.K.Sink.held c.write_all-done.new.sink) t) text c.write_all-done.ensures.front)

pub returns-clause-front : goal.returns-clause-front
returns-clause-front g c =
    let old = c.self.inside.bytes.items in
    let text = chunk_is old c.put_before-from.new.bytes.items c.put_due.new.bytes.items c.deref.result.now c.deref-2.result.now c.put_before-from.result c.args.since _ c.args.id c.args.count _
    c.put_before-from.ensures.is c.put_before-from.ensures.len c.put_before-from.ensures.place c.self.invariant.0 (omega (arith, c.len-end.ensures)) c.put_due.ensures.items
    (c.deref.ensures.value ∙ c.put_head.ensures.items) (omega (arith, c.len-end.ensures)) c.deref-2.ensures.value in
    rw (← c.self.view_is) (subst (λ (t : List ℕ). AppendsFront (g.K.Sink.held c.args.sink.now) (g.K.Sink.held c.write_all-done.new.sink) t) text c.write_all-done.ensures.front)

pub returns-clause-ok : goal.returns-clause-ok
returns-clause-ok g c =
    let old = c.self.inside.bytes.items in
    let text = chunk_is old c.put_before-from.new.bytes.items c.put_due.new.bytes.items c.deref.result.now c.deref-2.result.now c.put_before-from.result c.args.since _ c.args.id c.args.count _
    c.put_before-from.ensures.is c.put_before-from.ensures.len c.put_before-from.ensures.place c.self.invariant.0 (omega (arith, c.len-end.ensures)) c.put_due.ensures.items
    (c.deref.ensures.value ∙ c.put_head.ensures.items) (omega (arith, c.len-end.ensures)) c.deref-2.ensures.value in
    rw (← c.self.view_is) (subst (λ (t : List ℕ). Appends (g.K.Sink.held c.args.sink.now) (g.K.Sink.held c.write_all-done.new.sink) t) text c.in_ok-done.ensures.ok)

pub returns-clause-size : goal.returns-clause-size
returns-clause-size g c =
    let old = c.self.inside.bytes.items in
    let size = chunk_size old c.deref.result.now c.put_before-from.result _ c.args.id c.args.count _ c.put_before-from.ensures.place c.self.invariant.0 (omega (arith, c.len-end.ensures))
    (c.deref.ensures.value ∙ c.put_head.ensures.items) (omega (arith, c.len-end.ensures)) in
    rw (← c.self.view_is) size
