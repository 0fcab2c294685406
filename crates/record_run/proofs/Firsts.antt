-- A turn that was cut off wrote first samples of its feeds.
use Rattle.std.proofs.Common.{◌≡◌, ℕ, List, [], ◌∷◌, ◌++◌, length, length-append, map, slice_get, Option, None, Some, refl, sym, ap, ◌∙◌, subst, arith}
use Rattle.std.specs.List.{AllByRecursion}
use Rattle.std.proofs.lemmas.Option.{slice_get_within}
use Rattle.reading_model.specs.Outlook.{ended}
use Rattle.xdf_model.specs.Sample.{Sample}
use Rattle.inlet_model.specs.declared.end.FeedEnd.{FeedEnd}
use Rattle.inlet_model.specs.Inlet.{feed_kind}
use Rattle.feed_samples.specs.Inlet.{outlook}
use Rattle.ring_model.specs.declared.entry.Entry.{Entry as RingEntry}
use Rattle.recording_model.specs.declared.stream.StreamDoc.{StreamDoc}
use Rattle.recording_model.specs.Batch.{Entry}
use Rattle.turns_model.specs.Turns.{first_turns}
use Rattle.loss_model.specs.Loss.{entries_at, AreOf}
use Rattle.loss_laws.proofs.Rings.{all_put}
use Rattle.record_writer.specs.Desk.{DeskState}
use Rattle.record_writer.specs.Standing.{IsCut}
use Rattle.record_writer.proofs.Stopped.{stands_cut}
use Rattle.run_model.specs.declared.feed.FeedSource.{FeedSource}
use Rattle.run_model.specs.Run.{feed_of}
use Rattle.run_model.specs.Rings.{ring_entry}
use Rattle.run_model.specs.Outcomes.{AreFirstOf, IsCutOff}
use Rattle.run_model.proofs.Lists.{item_at}
use Rattle.run_model.proofs.Firsts.{first_begun, first_ended}
use Rattle.run_model.specs.Putting.{AreFirst}
use Rattle.run_model.proofs.Cuts.{HasFirst, of_first, cut_off}
use Rattle.record_run.specs.Kept.{kept_up_to}
use Rattle.record_run.specs.Inlets.{InletView, HasGiven, IsFilled}
use Rattle.record_run.specs.Cutting.{IsCutQueues}
use Rattle.record_run.specs.Turning.{IsTurned, AreTurned}
use Rattle.record_run.proofs.Beside.{entries_turns}

-- ---- entries of samples

of_ring : (samples puts : List Sample) (es : List (RingEntry Sample)) → puts ≡ samples → AllByRecursion (λ e. slice_get puts e.position ≡ Some e.value) es → AreOf samples (map ring_entry es)
of_ring samples puts [] is all = tt
of_ring samples puts (e ∷ es) is all = (ap (λ (l : List Sample). slice_get l e.position) (sym is) ∙ all.0, of_ring samples puts es is all.1)

of_both : (samples : List Sample) (es fs : List Entry) → AreOf samples es → AreOf samples fs → AreOf samples (es ++ fs)
of_both samples [] fs a b = b
of_both samples (e ∷ es) fs a b = (a.0, of_both samples es fs a.1 b)

-- ---- one feed

module _ {S M : Type 0} (left_of : S → Option (List ℕ)) (faults_of : S → ℕ) (mark_of : S → M) where
  given_first : (stream : StreamDoc) (feed : FeedSource S) (x : InletView S) (given : List Sample) (e : Option FeedEnd) → HasGiven left_of faults_of (feed_of stream feed) feed.source x given e
      → AreFirstOf left_of (feed_of stream feed) feed.source given
  given_first stream feed x given None h = first_begun stream feed left_of (outlook x.inlet) x.source given h.0
  given_first stream feed x given (Some e) h = first_ended stream feed left_of (feed_kind e) x.source h.0.0 given e h.0.1 h.0.2

  module _ (ring batch turns : ℕ) (stream : StreamDoc) (feed : FeedSource S) (samples : List Sample) (x : InletView S) (k : IsTurned left_of faults_of mark_of ring batch turns stream feed samples x) where
    -- between two turns
    turned_first : HasFirst left_of stream feed (kept_up_to ring batch samples turns)
    turned_first = record {
      samples = samples;
      of = subst (AreOf samples) k.taken (of_ring samples k.state.puts k.state.taken k.puts (all_put x.ring.capacity k.state k.stands.reached).0);
      few = omega (arith, k.bounded);
      first = given_first stream feed x samples x.end k.given;
    }

    -- in the pass that writes
    filled_first : (y : InletView S) (es : List Entry) → IsFilled left_of faults_of mark_of batch x y → AreFirst es (kept_up_to ring batch samples turns ++ map ring_entry y.ring.queue)
        → HasFirst left_of stream feed es
    filled_first y es f first =
        let t = f.states k.state k.stands in
        let all = samples ++ f.more in
        let puts : t.0.puts ≡ all = t.2 ∙ ap (λ (l : List Sample). l ++ f.more) k.puts in
        let put = all_put y.ring.capacity t.0 t.1.reached in
        let taken = subst (AreOf all) (ap (map ring_entry) t.3 ∙ k.taken) (of_ring all t.0.puts t.0.taken puts put.0) in
        let queue = subst (AreOf all) (ap (map ring_entry) (sym t.1.queue)) (of_ring all t.0.puts t.0.queue puts put.2) in
        record {
          samples = all;
          of = of_first all es first.0 (subst (AreOf all) first.1 (of_both all (kept_up_to ring batch samples turns) (map ring_entry y.ring.queue) taken queue));
          few = omega (arith, length-append samples f.more, k.pushes, f.pushes, f.bounded);
          first = given_first stream feed y all y.end (f.given (feed_of stream feed) feed.source samples k.given);
        }

-- ---- all feeds

module _ {S M : Type 0} (left_of : S → Option (List ℕ)) (faults_of : S → ℕ) (mark_of : S → M) where
  -- the headers weren't written whole
  pub begun_cut_off : (streams : List StreamDoc) (feeds : List (FeedSource S)) (base held : Option (List ℕ)) → length feeds ≡ length streams → IsCut streams base held []
      → IsCutOff left_of streams feeds base held
  begun_cut_off streams feeds base held same cut =
      cut_off left_of streams feeds base held [] same cut (λ p stream feed a b. record { samples = []; of = tt; few = omega arith; first = λ text is. ((feed_of stream feed text ended).0, refl) })

  module _ (ring batch turns : ℕ) (streams : List StreamDoc) (feeds : List (FeedSource S)) (base held : Option (List ℕ)) (desk : DeskState) (lists : List (List Sample)) (xs : List (InletView S))
      (k : AreTurned left_of faults_of mark_of ring batch turns streams feeds base held desk lists xs) where
    -- the file can't be finished
    pub finish_cut_off : (now : Option (List ℕ)) → IsCut streams base now (first_turns ring batch lists turns) → IsCutOff left_of streams feeds base now
    finish_cut_off now cut = cut_off left_of streams feeds base now (first_turns ring batch lists turns) k.feed_count cut (λ p stream feed es ed.
        let within = slice_get_within streams p stream es in
        let l = item_at lists p (omega (arith, within, k.list_count)) in
        let x = item_at xs p (omega (arith, within, k.inlet_count)) in
        subst (HasFirst left_of stream feed) (sym (entries_turns ring batch p turns lists l.0 l.1))
        (turned_first left_of faults_of mark_of ring batch turns stream feed l.0 x.0 (k.each p stream feed l.0 x.0 es ed l.1 x.1)))

    -- nothing more was written
    pub turned_cut_off : IsCutOff left_of streams feeds base held
    turned_cut_off = finish_cut_off held (stands_cut streams base held desk (first_turns ring batch lists turns) None k.written)

    -- the pass that writes failed
    pub queues_cut_off : (ys : List (InletView S)) (now : Option (List ℕ)) → length ys ≡ length xs
        → ((p : ℕ) (x y : InletView S) → slice_get xs p ≡ Some x → slice_get ys p ≡ Some y → IsFilled left_of faults_of mark_of batch x y)
        → IsCutQueues streams base now ys (first_turns ring batch lists turns) → IsCutOff left_of streams feeds base now
    queues_cut_off ys now count filled q = cut_off left_of streams feeds base now q.some k.feed_count q.cut (λ p stream feed es ed.
        let within = slice_get_within streams p stream es in
        let l = item_at lists p (omega (arith, within, k.list_count)) in
        let x = item_at xs p (omega (arith, within, k.inlet_count)) in
        let y = item_at ys p (omega (arith, within, k.inlet_count, count)) in
        let P : List Entry → Type 0 = λ before. AreFirst (entries_at p q.some) (before ++ map ring_entry y.0.ring.queue) in
        let first = subst P (entries_turns ring batch p turns lists l.0 l.1) (q.each p y.0 y.1) in
        filled_first left_of faults_of mark_of ring batch turns stream feed l.0 x.0 (k.each p stream feed l.0 x.0 es ed l.1 x.1) y.0 (entries_at p q.some) (filled p x.0 y.0 x.1 y.1) first)
