-- A recording holds of each feed the samples without those that its ledger names.
use Rattle.std.proofs.Common.{◌≡◌, ℕ, ◌^◌, ◌<◌, List, [], length, take, Some, slice_get, sym, ap, ◌∙◌, subst, arith}
use Rattle.std.proofs.lemmas.List.{append-nil, length-map}
use Rattle.xdf_model.specs.Sample.{Sample}
use Rattle.chunk_grammar.specs.declared.chunk.Chunk.{Chunk}
use Rattle.chunk_grammar.specs.Chunk.{least_file_text}
use Rattle.chunk_grammar.specs.Standing.{context_after_all}
use Rattle.recording_model.specs.declared.row.Row.{Row}
use Rattle.recording_model.specs.declared.stream.StreamDoc.{StreamDoc}
use Rattle.recording_model.specs.Ledger.{stream_samples, all_rows, ledger_rows}
use Rattle.recording_model.specs.Batch.{Entry, Batch}
use Rattle.recording_model.specs.Layout.{with_rows}
use Rattle.recording_model.specs.Recording.{headers, footer_document, lost_in, IsRecording}
use Rattle.loss_model.specs.Loss.{entries_at, behind_last, AreOf, entries_without, accounted, IsFeedPrefix}
use Rattle.loss_laws.proofs.Entries.{gaps, IsFrom, behind, counts, gaps_count, behind_is, entries_are}
use Rattle.loss_laws.proofs.Chunks.{held, recorded}
use Rattle.loss_laws.proofs.Groups.{entries_of, samples_of, rows_in, samples_are, rows_are}
use Rattle.loss_laws.proofs.Batches.{divided_entries, divided_known, in_order_from}
use Rattle.loss_laws.proofs.Prefixes.{front_is_prefix}

module _ (streams : List StreamDoc) (batches : List Batch) (cs : List Chunk) (place : ℕ) (s : StreamDoc) (samples : List Sample)
    (r : IsRecording streams batches cs) (is : slice_get streams place ≡ Some s) (of : AreOf samples (entries_at place batches)) (few : length samples < 2 ^ 62) where
  abbrev entries : List Entry
  entries = entries_at place batches

  held_is : (id : ℕ) → stream_samples id cs ≡ held id (with_rows streams [] r.groups)
  held_is id =
      recorded id streams (context_after_all [] (headers streams)) (length (least_file_text (headers streams))) (with_rows streams [] r.groups) r.body cs
      (footer_document (length (all_rows r.body)) 0) (λ t. footer_document (length (stream_samples t.id r.body)) (lost_in t.id r.body)) r.laid r.whole

  from : IsFrom 0 entries
  from = in_order_from samples place batches few (r.in_order place) of

  entries_same : entries_of place r.groups ≡ entries
  entries_same = divided_entries streams place batches r.groups r.divided

  samples_held : stream_samples s.id cs ≡ samples_of entries
  samples_held = held_is s.id ∙ samples_are streams place s r.are is [] r.groups ∙ ap samples_of entries_same

  rows_held : ledger_rows s.id cs ≡ gaps s.id 0 entries
  rows_held =
      ap (rows_in s.id) (held_is 0)
      ∙ rows_are streams place s r.are is [] r.groups (divided_known streams batches r.groups r.are r.divided) (subst (λ (es : List Entry). IsFrom 0 es) (sym entries_same) from)
      ∙ ap (gaps s.id 0) entries_same

  accounted_is : accounted s.id cs ≡ behind 0 entries
  accounted_is =
      let kept = ap length samples_held ∙ length-map entries (λ (e : Entry). e.sample) in
      let lost : lost_in s.id cs ≡ counts (gaps s.id 0 entries) = ap counts rows_held in
      let all = gaps_count s.id 0 entries from in
      omega (arith, kept, lost, all)

  entries_kept : entries_without (ledger_rows s.id cs) (take (accounted s.id cs) samples) ≡ entries
  entries_kept =
      ap (λ (rows : List Row). entries_without rows (take (accounted s.id cs) samples)) rows_held
      ∙ ap (λ (n : ℕ). entries_without (gaps s.id 0 entries) (take n samples)) accounted_is
      ∙ entries_are samples s.id entries from of

  pub of_its_feed : IsFeedPrefix samples cs s.id
      × (accounted s.id cs ≡ behind_last (entries_at place batches))
      × (entries_at place batches ≡ entries_without (ledger_rows s.id cs) (take (accounted s.id cs) samples))
  of_its_feed = (front_is_prefix streams batches cs cs [] place s samples r (sym (append-nil cs)) is of few, accounted_is ∙ sym (behind_is entries), sym entries_kept)
