-- The recording of a drill, and its check.
use Rattle.std.proofs.Common.{◌≡◌, ℕ, zero, suc, ◌+◌, ◌≤◌, ◌^◌, List, [], ◌∷◌, ◌++◌, length, map, Option, None, Some, refl, sym, ap, ◌∙◌, subst, arith}
use Rattle.std.specs.Prelude.{Ok}
use Rattle.reading_model.specs.Outlook.{ended, Kind, at_fault}
use Rattle.reading_model.specs.Read.{Reader, IsRead}
use Rattle.piece_reader.proofs.Ending.{reading_of}
use Rattle.xdf_model.specs.Sample.{Sample}
use Rattle.chunk_grammar.specs.declared.chunk.Chunk.{Chunk}
use Rattle.chunk_grammar.specs.Chunk.{IsFileText, least_file_text}
use Rattle.xdf_model.specs.Shape.{shape_in}
use Rattle.stream_check.specs.Ends.{told_count}
use Rattle.inlet_model.specs.declared.end.FeedEnd.{FeedEnd}
use Rattle.inlet_model.specs.declared.end.FeedEnd.TheVariants.{Whole}
use Rattle.inlet_model.specs.Inlet.{feed_kind, feed_within}
use Rattle.recording_model.specs.declared.stream.StreamDoc.{StreamDoc}
use Rattle.recording_model.specs.Ledger.{stream_samples}
use Rattle.recording_model.specs.Recording.{AreStreams, IsRecording, IsStream, lost_in}
use Rattle.turns_model.specs.Turns.{turn_batches}
use Rattle.run_model.specs.declared.feed.FeedSource.{FeedSource}
use Rattle.run_model.specs.declared.report.FeedReport.{FeedReport}
use Rattle.run_model.specs.Run.{Fed, IsRun, feed_of, report_of}
use Rattle.run_model.specs.Outcomes.{IsRecorded}
use Rattle.run_model.proofs.BothModes.{IsRunByTurns, of_turns}
use Rattle.plan_model.specs.declared.plan.Mode.TheVariants.{Turns}
use Rattle.drill_feeds.specs.Drill.{drill_bytes, drill_document, drill_samples, drill_shape}
use Rattle.file_call.specs.Drilled.{drill_ring, drill_batch, drill_ids, drill_stream, drill_streams, drill_source, drill_sources, all_kept, all_lost, kept_at, lost_at}

pub three : {A : Type 0} {a b c d e f : A} → a ≡ d → b ≡ e → c ≡ f → a ∷ b ∷ c ∷ [] ≡ d ∷ e ∷ f ∷ []
three p q r = cc (p, q, r)

-- what holds of each of three ids
pub each_id : (P : ℕ → Type 0) → P 1 → P 2 → P 3 → (id : ℕ) → 1 ≤ id → id ≤ 3 → P id
each_id P first second third zero low high = absurd (omega (arith, low))
each_id P first second third (suc zero) low high = first
each_id P first second third (suc (suc zero)) low high = second
each_id P first second third (suc (suc (suc zero))) low high = third
each_id P first second third (suc (suc (suc (suc n)))) low high = absurd (omega (arith, high))

-- what a source that never fails has: all that it tells
abbrev pub left_of : List ℕ → Option (List ℕ)
left_of s = Some s

abbrev pub no_faults : List ℕ → ℕ
no_faults s = 0

abbrev pub no_mark : List ℕ → Unit {0}
no_mark s = tt

-- what was read of it is what its bytes give
pub never_fails : {I E : Type 0} (kind : E → Kind) (reader : Reader I E) (bytes last : List ℕ) (items : List I) (e : E) → IsRead left_of no_faults no_mark kind reader bytes last items e → reader bytes ended ≡ (items, e)
never_fails kind reader bytes last items e read =
    let sound : kind e ≡ at_fault → ⊥ = λ is. let rose = read.cause is in omega (arith, rose) in
    (reading_of reader bytes read.taken last items e read.lost kind read.ends).whole sound

-- ---- the feeds

samples_of : (number id : ℕ) (x : Fed (List ℕ)) → x.stream ≡ drill_stream id → x.feed ≡ drill_source number id
    → feed_within None (drill_shape id) None (2 ^ 40) (drill_bytes number id) ≡ (drill_samples number id, Whole)
    → IsRead left_of no_faults no_mark feed_kind (feed_of x.stream x.feed) x.feed.source x.last x.samples x.end → x.samples ≡ drill_samples number id
samples_of number id x stream feed law read =
    let P : StreamDoc → FeedSource (List ℕ) → Type 0 = λ s f. feed_of s f f.source ended ≡ (x.samples, x.end) in
    let all : feed_of x.stream x.feed x.feed.source ended ≡ (x.samples, x.end) = never_fails feed_kind (feed_of x.stream x.feed) x.feed.source x.last x.samples x.end read in
    let known : P (drill_stream id) (drill_source number id) = subst (λ f. P (drill_stream id) f) feed (subst (λ s. P s x.feed) stream all) in
    ap (λ (t : List Sample × FeedEnd). t.0) (sym known ∙ law)

pub are_streams : (streams : List StreamDoc) → streams ≡ drill_streams → shape_in (drill_document 1) ≡ Ok (drill_shape 1) → shape_in (drill_document 2) ≡ Ok (drill_shape 2) → shape_in (drill_document 3) ≡ Ok (drill_shape 3) → AreStreams streams
are_streams streams is first second third =
    let one : IsStream (drill_stream 1) = record { low = omega arith; high = omega arith; shape = first } in
    let two : IsStream (drill_stream 2) = record { low = omega arith; high = omega arith; shape = second } in
    let three : IsStream (drill_stream 3) = record { low = omega arith; high = omega arith; shape = third } in
    subst AreStreams (sym is) (one, ((λ e. absurd cc), ((λ e. absurd cc), tt)), (two, ((λ e. absurd cc), tt), (three, tt, tt)))

-- a run of three feeds
module _ (number : ℕ) (chunks : List Chunk) (law : (id : ℕ) → 1 ≤ id → id ≤ 3 → feed_within None (drill_shape id) None (2 ^ 40) (drill_bytes number id) ≡ (drill_samples number id, Whole)) where
  abbrev Run : List (Fed (List ℕ)) → Type 0
  Run fed = IsRunByTurns left_of no_faults no_mark drill_ring drill_batch drill_streams (drill_sources number) fed chunks

  fed_samples : (fed : List (Fed (List ℕ))) → Run fed → map (λ x. x.samples) fed ≡ map (drill_samples number) drill_ids
  fed_samples [] run = absurd (let e = run.each_stream in cc e)
  fed_samples (a ∷ []) run = absurd (let e = run.each_stream in cc e)
  fed_samples (a ∷ b ∷ []) run = absurd (let e = run.each_stream in cc e)
  fed_samples (a ∷ b ∷ c ∷ d ∷ more) run = absurd (let e = run.each_stream in cc e)
  fed_samples (a ∷ b ∷ c ∷ []) run =
      let streams = run.each_stream in
      let feeds = run.each_feed in
      three
      (samples_of number 1 a (cc streams) (cc feeds) (law 1 (omega arith) (omega arith)) (run.each 0 a refl).read)
      (samples_of number 2 b (cc streams) (cc feeds) (law 2 (omega arith) (omega arith)) (run.each 1 b refl).read)
      (samples_of number 3 c (cc streams) (cc feeds) (law 3 (omega arith) (omega arith)) (run.each 2 c refl).read)

  fed_kept : (fed : List (Fed (List ℕ))) (reports : List FeedReport) → Run fed → reports ≡ map (report_of chunks) fed → kept_at reports 0 + kept_at reports 1 + kept_at reports 2 ≡ all_kept chunks
  fed_kept [] reports run told = absurd (let e = run.each_stream in cc e)
  fed_kept (a ∷ []) reports run told = absurd (let e = run.each_stream in cc e)
  fed_kept (a ∷ b ∷ []) reports run told = absurd (let e = run.each_stream in cc e)
  fed_kept (a ∷ b ∷ c ∷ d ∷ more) reports run told = absurd (let e = run.each_stream in cc e)
  fed_kept (a ∷ b ∷ c ∷ []) reports run told =
      let streams = run.each_stream in
      let first : a.stream ≡ drill_stream 1 = cc streams in
      let second : b.stream ≡ drill_stream 2 = cc streams in
      let third : c.stream ≡ drill_stream 3 = cc streams in
      let K : StreamDoc → ℕ = λ s. length (stream_samples s.id chunks) in
      ap (λ r. kept_at r 0 + kept_at r 1 + kept_at r 2) told ∙ ap (λ s. K s + K b.stream + K c.stream) first ∙ ap (λ s. K (drill_stream 1) + K s + K c.stream) second ∙ ap (λ s. K (drill_stream 1) + K (drill_stream 2) + K s) third

  fed_lost : (fed : List (Fed (List ℕ))) (reports : List FeedReport) → Run fed → reports ≡ map (report_of chunks) fed → lost_at reports 0 + lost_at reports 1 + lost_at reports 2 ≡ all_lost chunks
  fed_lost [] reports run told = absurd (let e = run.each_stream in cc e)
  fed_lost (a ∷ []) reports run told = absurd (let e = run.each_stream in cc e)
  fed_lost (a ∷ b ∷ []) reports run told = absurd (let e = run.each_stream in cc e)
  fed_lost (a ∷ b ∷ c ∷ d ∷ more) reports run told = absurd (let e = run.each_stream in cc e)
  fed_lost (a ∷ b ∷ c ∷ []) reports run told =
      let streams = run.each_stream in
      let first : a.stream ≡ drill_stream 1 = cc streams in
      let second : b.stream ≡ drill_stream 2 = cc streams in
      let third : c.stream ≡ drill_stream 3 = cc streams in
      let K : StreamDoc → ℕ = λ s. lost_in s.id chunks in
      ap (λ r. lost_at r 0 + lost_at r 1 + lost_at r 2) told ∙ ap (λ s. K s + K b.stream + K c.stream) first ∙ ap (λ s. K (drill_stream 1) + K s + K c.stream) second ∙ ap (λ s. K (drill_stream 1) + K (drill_stream 2) + K s) third

pub recorded_of : (number : ℕ) (before now : List ℕ) (streams : List StreamDoc) (feeds : List (FeedSource (List ℕ))) (reports : List FeedReport) (sources : List (List ℕ)) (bytes count kept lost : ℕ)
    → ((id : ℕ) → 1 ≤ id → id ≤ 3 → feed_within None (drill_shape id) None (2 ^ 40) (drill_bytes number id) ≡ (drill_samples number id, Whole)) → before ≡ [] → streams ≡ drill_streams → feeds ≡ drill_sources number
    → kept ≡ told_count (kept_at reports 0 + kept_at reports 1 + kept_at reports 2) → lost ≡ told_count (lost_at reports 0 + lost_at reports 1 + lost_at reports 2)
    → IsRecorded left_of no_faults no_mark Turns drill_ring drill_batch streams feeds (Some before) (Some now) reports bytes count sources
    → (cs : List Chunk) × IsRecording drill_streams (turn_batches drill_ring drill_batch (map (drill_samples number) drill_ids)) cs × IsFileText cs (least_file_text cs) × (now ≡ least_file_text cs) × (count ≡ told_count (length cs))
    × (kept ≡ told_count (all_kept cs)) × (lost ≡ told_count (all_lost cs))
recorded_of number before now streams feeds reports sources bytes count kept lost law empty streams_are feeds_are kept_is lost_is r =
    let R : List StreamDoc → List (FeedSource (List ℕ)) → Type 0 = λ s f. IsRun left_of no_faults no_mark Turns drill_ring drill_batch s f r.fed r.chunks in
    let known : R drill_streams (drill_sources number) = subst (λ f. R drill_streams f) feeds_are (subst (λ s. R s feeds) streams_are r.run) in
    let run = of_turns left_of no_faults no_mark drill_ring drill_batch drill_streams (drill_sources number) r.fed r.chunks known in
    let samples = fed_samples number r.chunks law r.fed run in (
      r.chunks,
      subst (λ lists. IsRecording drill_streams (turn_batches drill_ring drill_batch lists) r.chunks) samples run.recording,
      run.text,
      r.written ∙ ap (λ (t : List ℕ). t ++ least_file_text r.chunks) empty,
      r.chunk_count,
      kept_is ∙ ap told_count (fed_kept number r.chunks law r.fed reports run r.told),
      lost_is ∙ ap told_count (fed_lost number r.chunks law r.fed reports run r.told),
    )
