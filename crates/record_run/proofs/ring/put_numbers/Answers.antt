use Rattle.std.proofs.Common.{◌≡◌, [], ◌∷◌, length, refl, sym, ap, subst, arith, Some}
use Rattle.xdf_model.specs.declared.types.Shape.{Shape}
use Rattle.xdf_model.specs.Sample.{Sample, FitsShape, least_sample_text}
use Rattle.ring_model.specs.declared.entry.Entry.{Entry}
use Rattle.sample_ring.specs.Seen.{RingSeen, entry_in, sample_in}
use Rattle.record_writer.specs.Standing.{closed, with_entry}
use Rattle.record_run.specs.FeedRings.{IsTake}
use Rattle.run_model.proofs.Batches.{place_at, cut_with}
use Rattle.run_model.proofs.Texts.{text_small}
use Rattle.record_run.proofs.Cutting.{cut_longer}
use Rattle.record_run.proofs.ring.put_numbers.Goals as goal

pub put_block-put-requires-clause-position : goal.put_block-put-requires-clause-position
put_block-put-requires-clause-position g c = (c.requires.taken (entry_in c.args.ring.now.shape c.in-Some.entry) (sym c.in-Some.ensures.oldest)).0

pub put_block-put-requires-clause-low : goal.put_block-put-requires-clause-low
put_block-put-requires-clause-low g c = (c.requires.taken (entry_in c.args.ring.now.shape c.in-Some.entry) (sym c.in-Some.ensures.oldest)).1

pub put_block-put-requires-clause-short : goal.put_block-put-requires-clause-short
put_block-put-requires-clause-short g c =
    let r = c.args.ring.now in
    let f = c.in-Some.ensures.full in
    let small = text_small r.shape (sample_in r.shape c.in-Some.entry.value.bytes) c.requires.numeric c.requires.count f.2.0 in
    omega (arith, small, ap length f.1)

pub returns-in-Ok-clause-out : goal.returns-in-Ok-clause-out
returns-in-Ok-clause-out g c =
    let r = c.args.ring.now in
    let e : Entry Sample = entry_in r.shape c.in-Some.entry in
    let t = c.in-Some.ensures in
    let k = c.requires.taken e (sym t.oldest) in
    let x = place_at c.args.writer.now.room.desk.places c.args.place r.shape k.2 in
    let L : Shape → Type 0 = λ s. c.in-Some.entry.value.bytes ≡ least_sample_text s e.value in
    let F : Shape → Type 0 = λ s. FitsShape s e.value in
    let o = c.in-Ok.ensures in
    let take : IsTake r.ring c.take.new.self.ring e = record { oldest = sym t.oldest; queue = t.queue; pushes = t.pushes; capacity = t.capacity; steps = t.steps } in
    let T : RingSeen → Type 0 = λ s. IsTake r.ring s.ring e in (
      e,
      subst T (sym c.give.ensures) take,
      record {
        put = λ streams base batches current st. o.put streams base batches current e.value x.0 st x.1 (subst L (sym x.2) t.full.1) (subst F (sym x.2) t.full.2.0);
        next = o.next;
        shapes = o.shapes;
        place_is = o.open.1;
        whole = o.whole;
      },
    )

pub returns-in-Err-clause-cut : goal.returns-in-Err-clause-cut
returns-in-Err-clause-cut g c = λ streams base batches current st.
    let r = c.args.ring.now in
    let e : Entry Sample = entry_in r.shape c.in-Some.entry in
    let t = c.in-Some.ensures in
    let k = c.requires.taken e (sym t.oldest) in
    let x = place_at c.args.writer.now.room.desk.places c.args.place r.shape k.2 in
    let L : Shape → Type 0 = λ s. c.in-Some.entry.value.bytes ≡ least_sample_text s e.value in
    let F : Shape → Type 0 = λ s. FitsShape s e.value in
    let f = c.in-Err.ensures in
    let free = c.requires.free in
    let one = cut_with c.args.place e streams base (g.K.Sink.held c.args.writer.now.sink.now) c.args.writer.now.room.desk batches current st free [] (e ∷ []) refl in (
      closed batches (Some (with_entry c.args.place current e.position e.value)),
      f.cut streams base batches current e.value x.0 st x.1 (subst L (sym x.2) t.full.1) (subst F (sym x.2) t.full.2.0),
      cut_longer c.args.place e r.ring.queue _ _ (sym t.oldest) one,
    )
