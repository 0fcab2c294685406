use Rattle.std.proofs.Common.{◌≡◌, sym, ap, ◌∙◌, subst, Some}
use Rattle.std.specs.Prelude.{slice_get}
use Rattle.xdf_model.specs.declared.types.Shape.{Shape}
use Rattle.record_run.specs.declared.ring.Rooms.{Rooms}
use Rattle.record_run.specs.FeedRings.{FeedRingView, lone_in, AreRoomsFor}
use Rattle.run_model.specs.Putting.{IsTakenAt}
use Rattle.record_run.proofs.ring.FeedRing.put_oldest.Goals as goal

pub put_numbers-requires-clause-taken : goal.put_numbers-requires-clause-taken
put_numbers-requires-clause-taken g c = λ e oldest.
    let desk = c.args.writer.now.room.desk in
    let P : FeedRingView → Type 0 = λ r. slice_get r.lone.queue 0 ≡ Some e → IsTakenAt desk c.args.place r.shape e in
    let here = subst P (sym c.self.view_is) (c.requires.taken e) in
    let rooms = c.in-Numbers.is in
    let own = subst (λ (r : Rooms). AreRoomsFor c.self.inside.shape r) rooms c.self.invariant in
    subst (λ (s : Shape). IsTakenAt desk c.args.place s e) (sym own.0) (here (ap (λ (r : Rooms). slice_get (lone_in r).queue 0) rooms ∙ oldest))

pub put_texts-requires-clause-taken : goal.put_texts-requires-clause-taken
put_texts-requires-clause-taken g c = λ e oldest.
    let desk = c.args.writer.now.room.desk in
    let P : FeedRingView → Type 0 = λ r. slice_get r.lone.queue 0 ≡ Some e → IsTakenAt desk c.args.place r.shape e in
    let here = subst P (sym c.self.view_is) (c.requires.taken e) in
    here (ap (λ (r : Rooms). slice_get (lone_in r).queue 0) c.in-Texts.is ∙ oldest)
