-- Streams and batches have one recording.
use Rattle.std.proofs.Common.{◌≡◌, List, [], ◌∷◌, ◌++◌, length, sym, ap, ◌∙◌, subst}
use Rattle.chunk_grammar.specs.declared.chunk.Chunk.{Chunk}
use Rattle.chunk_grammar.specs.Chunk.{least_file_text}
use Rattle.chunk_grammar.specs.Standing.{context_after_all}
use Rattle.recording_model.specs.declared.stream.StreamDoc.{StreamDoc}
use Rattle.recording_model.specs.Batch.{Batch, Group, AreLongest, Divides, AreDivided}
use Rattle.recording_model.specs.Layout.{laid_chunks}
use Rattle.recording_model.specs.Recording.{headers, footers, IsRecording}
use Rattle.recording_laws.proofs.Groups.{same_groups}

one_batch : (streams : List StreamDoc) (b : Batch) (gs hs : List Group) → Divides streams b gs → Divides streams b hs → gs ≡ hs
one_batch streams b gs hs d e =
    let stream : e.stream ≡ d.stream = let p = d.is_stream in let q = e.is_stream in cc in
    same_groups d.stream.shape b.place gs hs (sym d.all ∙ e.all) d.longest (subst (λ (s : StreamDoc). AreLongest s.shape b.place hs) stream e.longest)

pub one_division : (streams : List StreamDoc) (bs : List Batch) (gs hs : List Group) → AreDivided streams bs gs → AreDivided streams bs hs → gs ≡ hs
one_division streams [] gs hs d e = d ∙ sym e
one_division streams (b ∷ bs) gs hs d e =
    d.4
    ∙ ap (λ (xs : List Group). xs ++ d.1) (one_batch streams b d.0 e.0 d.2 e.2)
    ∙ ap (λ (ys : List Group). e.0 ++ ys) (one_division streams bs d.1 e.1 d.3 e.3)
    ∙ sym e.4

pub one_recording : (streams : List StreamDoc) (bs : List Batch) (cs ds : List Chunk) → IsRecording streams bs cs → IsRecording streams bs ds → cs ≡ ds
one_recording streams bs cs ds r q =
    let same = one_division streams bs r.groups q.groups r.divided q.divided in
    let body : r.body ≡ q.body =
    r.laid ∙ ap (laid_chunks (context_after_all [] (headers streams)) (length (least_file_text (headers streams))) streams) same ∙ sym q.laid in
    r.whole ∙ ap (λ (b : List Chunk). headers streams ++ b ++ footers streams b) body ∙ sym q.whole
