-- What the chunks of a recording hold of a stream is what the Samples chunks of its body hold.
use Rattle.std.proofs.Common.{◌≡◌, ℕ, ◌+◌, ◌==◌, true, false, nat_lt, List, [], ◌∷◌, ◌++◌, length, map, if◌then◌else◌, refl, sym, ap, ◌∙◌, append_assoc}
use Rattle.std.proofs.lemmas.List.{append-nil}
use Rattle.xdf_model.specs.Sample.{Sample}
use Rattle.chunk_grammar.specs.declared.chunk.Chunk.{Chunk}
use Rattle.chunk_grammar.specs.declared.chunk.Chunk.TheVariants.{FileHeader, StreamHeader, Samples, ClockOffset, Boundary, StreamFooter, Other}
use Rattle.chunk_grammar.specs.Chunk.{Context}
use Rattle.recording_model.specs.declared.stream.StreamDoc.{StreamDoc}
use Rattle.recording_model.specs.Ledger.{stream_samples}
use Rattle.recording_model.specs.Layout.{ChunkSamples, boundary_gap, samples_text, with_boundaries}
use Rattle.recording_model.specs.Recording.{headers}

pub samples_append : (id : ℕ) (xs ys : List Chunk) → stream_samples id (xs ++ ys) ≡ stream_samples id xs ++ stream_samples id ys
samples_append id [] ys = refl
samples_append id (Samples stream samples ∷ xs) ys =
    let own : List Sample = if stream == id then samples else [] in
    ap (λ (t : List Sample). own ++ t) (samples_append id xs ys) ∙ sym (append_assoc own (stream_samples id xs) (stream_samples id ys))
samples_append id (FileHeader doc ∷ xs) ys = samples_append id xs ys
samples_append id (StreamHeader stream doc ∷ xs) ys = samples_append id xs ys
samples_append id (ClockOffset stream time offset ∷ xs) ys = samples_append id xs ys
samples_append id (Boundary ∷ xs) ys = samples_append id xs ys
samples_append id (StreamFooter stream doc ∷ xs) ys = samples_append id xs ys
samples_append id (Other tag body ∷ xs) ys = samples_append id xs ys

-- no header and no footer holds samples

pub headers_none : (id : ℕ) (streams : List StreamDoc) → stream_samples id (map (λ (s : StreamDoc). StreamHeader s.id s.doc) streams) ≡ []
headers_none id [] = refl
headers_none id (s ∷ streams) = headers_none id streams

pub footers_none : (id : ℕ) (doc : StreamDoc → List ℕ) (streams : List StreamDoc) → stream_samples id (map (λ (s : StreamDoc). StreamFooter s.id (doc s)) streams) ≡ []
footers_none id doc [] = refl
footers_none id doc (s ∷ streams) = footers_none id doc streams

abbrev pub own_samples : ℕ → ChunkSamples → List Sample
own_samples id p = if p.id == id then p.samples else []

-- the samples of a stream in these Samples chunks, in order
abbrev pub held : ℕ → List ChunkSamples → List Sample
held id [] = []
held id (p ∷ ps) = own_samples id p ++ held id ps

pub held_append : (id : ℕ) (ps qs : List ChunkSamples) → held id (ps ++ qs) ≡ held id ps ++ held id qs
held_append id [] qs = refl
held_append id (p ∷ ps) qs = ap (λ (t : List Sample). own_samples id p ++ t) (held_append id ps qs) ∙ sym (append_assoc (own_samples id p) (held id ps) (held id qs))

pub body_samples : (ctx : Context) (since id : ℕ) (ps : List ChunkSamples) → stream_samples id (with_boundaries ctx since ps) ≡ held id ps
body_samples ctx since id [] = refl
body_samples ctx since id (p ∷ ps) =
    let c : Chunk = Samples p.id p.samples in
    let n = since + length (samples_text ctx p) in
    let own = own_samples id p in
    elim (nat_lt n boundary_gap) as (λ b. stream_samples id (if b then c ∷ with_boundaries ctx n ps else c ∷ Boundary ∷ with_boundaries ctx 0 ps) ≡ own ++ held id ps) [
      | true ↦ ap (λ (t : List Sample). own ++ t) (body_samples ctx n id ps)
      | false ↦ ap (λ (t : List Sample). own ++ t) (body_samples ctx 0 id ps)
    ]

pub recorded : (id : ℕ) (streams : List StreamDoc) (ctx : Context) (since : ℕ) (ps : List ChunkSamples) (body cs : List Chunk) (doc : List ℕ) (docs : StreamDoc → List ℕ) → body ≡ with_boundaries ctx since ps
    → cs ≡ headers streams ++ body ++ (StreamFooter 0 doc ∷ map (λ (s : StreamDoc). StreamFooter s.id (docs s)) streams) → stream_samples id cs ≡ held id ps
recorded id streams ctx since ps body cs doc docs laid whole =
    let H = headers streams in
    let F : List Chunk = StreamFooter 0 doc ∷ map (λ (s : StreamDoc). StreamFooter s.id (docs s)) streams in
    ap (stream_samples id) whole
    ∙ samples_append id (H ++ body) F
    ∙ ap (λ (t : List Sample). stream_samples id (H ++ body) ++ t) (footers_none id docs streams)
    ∙ append-nil (stream_samples id (H ++ body))
    ∙ samples_append id H body
    ∙ ap (λ (t : List Sample). t ++ stream_samples id body) (headers_none id streams)
    ∙ ap (stream_samples id) laid
    ∙ body_samples ctx since id ps
