-- What a run holds that was stopped.
use Rattle.std.proofs.Common.{◌≡◌, ℕ, List, [], length, map, Option, refl, subst, arith, Result, Ok, Err}
use Rattle.std.specs.Prelude.{OnErr}
use Rattle.std.proofs.lemmas.Option.{slice_get_within}
use Rattle.reading_model.specs.Outlook.{Outlook, ended}
use Rattle.reading_model.specs.Read.{Reader}
use Rattle.xdf_model.specs.Sample.{Sample}
use Rattle.inlet_model.specs.declared.end.FeedEnd.{FeedEnd}
use Rattle.inlet_model.specs.Inlet.{feed_kind}
use Rattle.feed_samples.specs.Inlet.{outlook}
use Rattle.recording_model.specs.declared.stream.StreamDoc.{StreamDoc}
use Rattle.recording_model.specs.Batch.{Entry}
use Rattle.loss_model.specs.Loss.{AreOf, entries_at}
use Rattle.loss_laws.proofs.Rings.{all_put}
use Rattle.record_writer.specs.Desk.{DeskState}
use Rattle.record_writer.specs.Standing.{IsCut}
use Rattle.run_model.specs.declared.feed.FeedSource.{FeedSource}
use Rattle.run_model.specs.Run.{feed_of}
use Rattle.run_model.specs.Outcomes.{AreFirstOf, IsCutOff}
use Rattle.run_model.proofs.Cuts.{HasFirst, cut_off}
use Rattle.run_model.proofs.Fed.{are_of_taken}
use Rattle.run_model.proofs.Firsts.{first_ended, first_begun}
use Rattle.run_model.proofs.Lists.{item_at}
use Rattle.thread_run.specs.declared.work.InletDone.{InletDone}
use Rattle.thread_run.specs.declared.work.InletDone.TheVariants.{Ended, Memory, Halted}
use Rattle.thread_run.specs.declared.work.Work.{Work}
use Rattle.thread_run.specs.declared.work.Worked.{Worked}
use Rattle.thread_run.specs.declared.lane.CountedHead.{CountedHead}
use Rattle.thread_run.specs.declared.settle.Joined.{Joined}
use Rattle.thread_run.specs.Work.{HasEnded, HasWorked}
use Rattle.thread_run.specs.Opening.{IsNewLane, ThreadsView, AreThreadsFor}
use Rattle.thread_run.specs.Concluded.{HaveCut, HaveSettled}

module _ {S M : Type 0} (left_of : S → Option (List ℕ)) (faults_of : S → ℕ) (mark_of : S → M) where
  -- what an inlet put comes first of what its source would have given
  first_put : (d : InletDone) (stream : StreamDoc) (feed : FeedSource S) (last : S) (now : Outlook Sample FeedEnd) (puts : List Sample)
      → HasEnded left_of faults_of mark_of (feed_of stream feed) feed.source last now puts d → AreFirstOf left_of (feed_of stream feed) feed.source puts
  first_put (Ended e) stream feed last now puts h = first_ended stream feed left_of (feed_kind e) last h.taken puts e h.lost h.ends
  first_put Memory stream feed last now puts h = first_begun stream feed left_of now last puts h.0
  first_put Halted stream feed last now puts h = first_begun stream feed left_of now last puts h.0

  has_first : (ring : ℕ) (stream : StreamDoc) (feed : FeedSource S) (work : Work S) (head : CountedHead) (worked : Worked S) (entries : List Entry) → IsNewLane ring stream feed work head
      → HasWorked left_of faults_of mark_of work worked → AreOf worked.tail.puts entries → HasFirst left_of stream feed entries
  has_first ring stream feed work head worked entries new did of =
      let coming = (outlook work.reader.inlet).coming in
      let last = worked.reader.source in
      let now = outlook worked.reader.inlet in
      let puts = worked.tail.puts in
      let same : coming ≡ feed_of stream feed = λ i more how. new.all more how i in
      let a = subst (λ (r : Reader Sample FeedEnd). HasEnded left_of faults_of mark_of r work.reader.source last now puts worked.done) same did.put in
      let b = subst (λ (x : S). HasEnded left_of faults_of mark_of (feed_of stream feed) x last now puts worked.done) new.source a in
      record {
        samples = puts;
        of = of;
        few = omega (arith, did.received, did.few);
        first = first_put worked.done stream feed last now puts b;
      }

  -- a run that was stopped somewhere
  pub part_of : (ring batch : ℕ) (streams : List StreamDoc) (feeds : List (FeedSource S)) (desk : DeskState) (v : ThreadsView S) → AreThreadsFor ring batch streams feeds desk v
      → (base held : Option (List ℕ)) → HaveCut left_of faults_of mark_of streams base held v.works → IsCutOff left_of streams feeds base held
  part_of ring batch streams feeds desk v k base held h = cut_off left_of streams feeds base held h.some k.feed_count h.cut (λ p stream feed es ef.
      let low = slice_get_within streams p stream es in
      let w = item_at v.works p (omega (arith, low, k.work_count)) in
      let c = item_at v.heads p (omega (arith, low, k.head_count)) in
      let r = item_at h.worked p (omega (arith, low, k.work_count, h.are_worked.count)) in
      has_first ring stream feed w.0 c.0 r.0 (entries_at p h.some) (k.each p stream feed w.0 c.0 es ef w.1 c.1) (h.are_worked.each p w.0 r.0 w.1 r.1) (h.each p r.0 r.1))

  -- one that was stopped once all lanes were empty
  pub cut_at_last : (batch : ℕ) (streams : List StreamDoc) (base held now : Option (List ℕ)) (desk : DeskState) (works : List (Work S)) (all : List (Joined S))
      → (h : HaveSettled left_of faults_of mark_of batch streams base held desk works all) → IsCut streams base now h.batches → HaveCut left_of faults_of mark_of streams base now works
  cut_at_last batch streams base held now desk works all h cut = record {
    some = h.batches;
    cut = cut;
    worked = h.worked;
    are_worked = h.are_worked;
    each = λ p w ew.
        let s = item_at all p (omega (arith, slice_get_within h.worked p w ew, h.are_settled.count)) in
        let is = h.are_settled.each p w s.0 ew s.1 in
        let state = s.0.lane.last.state in
        let all_of : AreOf state.puts (map _ state.taken) = are_of_taken state.puts state.taken (all_put s.0.lane.last.capacity state is.0.reached).0 in
        subst (λ (l : List Sample). AreOf l (entries_at p h.batches)) is.0.puts (subst (AreOf state.puts) is.1 all_of);
  }

-- where an error came
pub part_if : {S M R E : Type 0} (left_of : S → Option (List ℕ)) (faults_of : S → ℕ) (mark_of : S → M) (r : Result R E) (ring batch : ℕ) (streams : List StreamDoc) (feeds : List (FeedSource S)) (desk : DeskState) (v : ThreadsView S)
    → AreThreadsFor ring batch streams feeds desk v → (base held : Option (List ℕ)) → OnErr r (HaveCut left_of faults_of mark_of streams base held v.works) → OnErr r (IsCutOff left_of streams feeds base held)
part_if left_of faults_of mark_of (Ok x) ring batch streams feeds desk v k base held h = tt
part_if left_of faults_of mark_of (Err e) ring batch streams feeds desk v k base held h = part_of left_of faults_of mark_of ring batch streams feeds desk v k base held h

-- one whose headers weren't all written
pub part_of_none : {S : Type 0} (left_of : S → Option (List ℕ)) (streams : List StreamDoc) (feeds : List (FeedSource S)) (base held : Option (List ℕ)) → length feeds ≡ length streams → IsCut streams base held [] → IsCutOff left_of streams feeds base held
part_of_none left_of streams feeds base held same cut = cut_off left_of streams feeds base held [] same cut (λ p stream feed es ef. record {
  samples = [];
  of = tt;
  few = omega arith;
  first = λ text is. ((feed_of stream feed text ended).0, refl);
})
