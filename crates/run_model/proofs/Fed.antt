-- One feed, once its ring is empty and the file is finished, in both modes.
use Rattle.std.proofs.Common.{◌≡◌, ℕ, ◌+◌, ◌-◌, ◌^◌, ◌≤◌, List, [], ◌∷◌, length, map, take, slice_get, Option, Some, sym, ap, ◌∙◌, subst, arith}
use Rattle.std.specs.List.{AllByRecursion}
use Rattle.std.proofs.lemmas.List.{take_all, length-map}
use Rattle.reading_model.specs.Read.{IsRead}
use Rattle.xdf_model.specs.Sample.{Sample}
use Rattle.chunk_grammar.specs.declared.chunk.Chunk.{Chunk}
use Rattle.inlet_model.specs.declared.end.FeedEnd.{FeedEnd}
use Rattle.inlet_model.specs.Inlet.{feed_kind}
use Rattle.ring_model.specs.declared.entry.Entry.{Entry as RingEntry}
use Rattle.ring_model.specs.Ring.{RingState, IsReached}
use Rattle.recording_model.specs.declared.row.Row.{Row}
use Rattle.recording_model.specs.declared.stream.StreamDoc.{StreamDoc}
use Rattle.recording_model.specs.Ledger.{stream_samples, ledger_rows}
use Rattle.recording_model.specs.Batch.{Entry, Batch}
use Rattle.recording_model.specs.Recording.{IsRecording, lost_in}
use Rattle.loss_model.specs.Loss.{IsFeedPrefix, AreOf, accounted, behind_last, entries_at, entries_without}
use Rattle.loss_laws.proofs.Feeds.{of_its_feed}
use Rattle.loss_laws.proofs.Dropped.{dropped_is}
use Rattle.loss_laws.proofs.Rings.{all_put}
use Rattle.run_model.specs.declared.feed.FeedSource.{FeedSource}
use Rattle.run_model.specs.declared.report.FeedReport.{FeedReport}
use Rattle.run_model.specs.Run.{feed_of, IsFed, report_of}
use Rattle.run_model.specs.Rings.{ring_entry}

-- what a ring took out is of its feed
pub are_of_taken : (samples : List Sample) (es : List (RingEntry Sample)) → AllByRecursion (λ e. slice_get samples e.position ≡ Some e.value) es → AreOf samples (map ring_entry es)
are_of_taken samples [] all = tt
are_of_taken samples (e ∷ es) all = (all.0, are_of_taken samples es all.1)

abbrev report : ℕ → ℕ → ℕ → ℕ → FeedEnd → FeedReport
report i a c m e = record { id = i; received = a; kept = c; lost = m; end = e }

pub same_report : (i j a b c d m n : ℕ) (e f : FeedEnd) → i ≡ j → a ≡ b → c ≡ d → m ≡ n → e ≡ f → report i a c m e ≡ report j b d n f
same_report i j a b c d m n e f p q r s t =
    ap (λ (v : ℕ). report v a c m e) p ∙ ap (λ (v : ℕ). report j v c m e) q ∙ ap (λ (v : ℕ). report j b v m e) r ∙ ap (λ (v : ℕ). report j b d v e) s ∙ ap (report j b d n) t

module _ {S M : Type 0} (left_of : S → Option (List ℕ)) (faults_of : S → ℕ) (mark_of : S → M) (ring place : ℕ) (streams : List StreamDoc) (batches : List Batch) (chunks : List Chunk)
    (stream : StreamDoc) (feed : FeedSource S) (samples : List Sample) (last : S) (e : FeedEnd) (state : RingState Sample)
    (recording : IsRecording streams batches chunks) (has_stream : slice_get streams place ≡ Some stream)
    (reached : IsReached ring state) (puts : state.puts ≡ samples) (empty : state.queue ≡ []) (taken : map ring_entry state.taken ≡ entries_at place batches)
    (behind : behind_last (map ring_entry state.taken) ≡ length samples) (few : length state.dropped ≤ length samples - ring) (short : length samples ≤ 2 ^ 40)
    (read : IsRead left_of faults_of mark_of feed_kind (feed_of stream feed) feed.source last samples e) where
  are_of : AreOf samples (entries_at place batches)
  are_of =
      let all = (all_put ring state reached).0 in
      subst (AreOf samples) taken (are_of_taken samples state.taken (subst (λ (l : List Sample). AllByRecursion (λ e. slice_get l e.position ≡ Some e.value) state.taken) puts all))

  abbrev rows : List Row
  rows = ledger_rows stream.id chunks

  law : IsFeedPrefix samples chunks stream.id × (accounted stream.id chunks ≡ behind_last (entries_at place batches)) × (entries_at place batches ≡ entries_without rows (take (accounted stream.id chunks) samples))
  law = of_its_feed streams batches chunks place stream samples recording has_stream are_of (omega (arith, short))

  all : accounted stream.id chunks ≡ length samples
  all = law.1 ∙ ap behind_last (sym taken) ∙ behind

  given : entries_at place batches ≡ entries_without rows samples
  given = law.2 ∙ ap (λ (n : ℕ). entries_without rows (take n samples)) all ∙ ap (entries_without rows) (take_all (length samples) samples (omega arith))

  -- how many are in the file
  kept_count : length (stream_samples stream.id chunks) ≡ length state.taken
  kept_count =
      let one = ap length law.0.kept ∙ length-map (entries_without rows (take (accounted stream.id chunks) samples)) (λ (f : Entry). f.sample) in
      let two = ap length (sym law.2 ∙ sym taken) ∙ length-map state.taken ring_entry in
      one ∙ two

  counts : length state.taken + length state.dropped ≡ length samples
  counts = let sum = (all_put ring state reached).3 in let none = ap length empty in let long = ap length puts in omega (arith, sum, none, long)

  -- how many the ledger names
  pub lost_count : lost_in stream.id chunks ≡ length state.dropped
  lost_count = omega (arith, all, kept_count, counts)

  pub fed_is : IsFed left_of faults_of mark_of ring batches chunks place (record { stream = stream; feed = feed; last = last; samples = samples; end = e })
  fed_is = record {
    read = read;
    whole = record { prefix = law.0; all = all };
    dropped = record {
      state = state;
      reached = reached;
      puts = puts;
      queue = empty;
      taken = taken;
      dropped = dropped_is ring state rows samples reached puts empty (taken ∙ given);
    };
    few = omega (arith, lost_count, few);
  }

  -- what is to be reported of it, by what the ring counts
  pub report_is : (id received kept lost : ℕ) (end : FeedEnd) → id ≡ stream.id → received ≡ length samples → kept ≡ length state.taken → lost ≡ length state.dropped → end ≡ e
      → report id received kept lost end ≡ report_of chunks (record { stream = stream; feed = feed; last = last; samples = samples; end = e })
  report_is id received kept lost end a b c d f =
      same_report id stream.id received (length samples) kept (length (stream_samples stream.id chunks)) lost (lost_in stream.id chunks) end e a b (c ∙ sym kept_count) (d ∙ sym lost_count) f
