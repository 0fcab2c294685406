-- By turns the batches of a run are those of the turns.
use Rattle.std.proofs.Common.{◌≡◌, ℕ, List, map, Option, refl, subst}
use Rattle.std.specs.Prelude.{slice_get, Some}
use Rattle.chunk_grammar.specs.declared.chunk.Chunk.{Chunk}
use Rattle.chunk_grammar.specs.Chunk.{IsFileText, least_file_text}
use Rattle.plan_model.specs.declared.plan.Mode.TheVariants.{Turns}
use Rattle.recording_model.specs.declared.stream.StreamDoc.{StreamDoc}
use Rattle.recording_model.specs.Batch.{Batch}
use Rattle.recording_model.specs.Recording.{IsRecording}
use Rattle.turns_model.specs.Turns.{turn_batches}
use Rattle.run_model.specs.declared.feed.FeedSource.{FeedSource}
use Rattle.run_model.specs.Run.{Fed, IsFed, IsRun}

-- the batches that a run by turns has
abbrev pub batches_by_turns : {S : Type 0} → ℕ → ℕ → List (Fed S) → List Batch
batches_by_turns {S = S} ring batch fed = turn_batches ring batch (map (λ (x : Fed S). x.samples) fed)

-- a run by turns, with its batches spelled out
pub record IsRunByTurns {S M : Type 0} (left_of : S → Option (List ℕ)) (faults_of : S → ℕ) (mark_of : S → M) (ring batch : ℕ) (streams : List StreamDoc) (feeds : List (FeedSource S)) (fed : List (Fed S)) (chunks : List Chunk) : Type 0 where
  pub each_stream : map (λ (x : Fed S). x.stream) fed ≡ streams
  pub each_feed : map (λ (x : Fed S). x.feed) fed ≡ feeds
  pub recording : IsRecording streams (batches_by_turns ring batch fed) chunks
  pub text : IsFileText chunks (least_file_text chunks)
  pub each : (place : ℕ) (x : Fed S) → slice_get fed place ≡ Some x → IsFed left_of faults_of mark_of ring (batches_by_turns ring batch fed) chunks place x

module _ {S M : Type 0} (left_of : S → Option (List ℕ)) (faults_of : S → ℕ) (mark_of : S → M) (ring batch : ℕ) (streams : List StreamDoc) (feeds : List (FeedSource S)) (fed : List (Fed S)) (chunks : List Chunk) where
  pub by_turns : IsRunByTurns left_of faults_of mark_of ring batch streams feeds fed chunks → IsRun left_of faults_of mark_of Turns ring batch streams feeds fed chunks
  by_turns r = record {
    each_stream = r.each_stream;
    each_feed = r.each_feed;
    batches = batches_by_turns ring batch fed;
    are = refl;
    recording = r.recording;
    text = r.text;
    each = r.each;
  }

  pub of_turns : IsRun left_of faults_of mark_of Turns ring batch streams feeds fed chunks → IsRunByTurns left_of faults_of mark_of ring batch streams feeds fed chunks
  of_turns r = record {
    each_stream = r.each_stream;
    each_feed = r.each_feed;
    recording = subst (λ (bs : List Batch). IsRecording streams bs chunks) r.are r.recording;
    text = r.text;
    each = λ place x is. subst (λ (bs : List Batch). IsFed left_of faults_of mark_of ring bs chunks place x) r.are (r.each place x is);
  }
