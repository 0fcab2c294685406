-- The file of a recording, from its first header to its last footer. The documents and their order are this project's own.
use Rattle.std.specs.Prelude.{◌≡◌, ◌≢◌, ◌≤◌, ⊤, ℕ, List, [], ◌∷◌, ◌++◌, length, map, sum_by, codes, Ok}
use Rattle.std.specs.List.{AllByRecursion}
use Rattle.std.specs.Fmt.{decimal}
use Rattle.xdf_model.specs.Shape.{shape_in}
use Rattle.chunk_grammar.specs.declared.chunk.Chunk.{Chunk}
use Rattle.chunk_grammar.specs.declared.chunk.Chunk.TheVariants.{FileHeader, StreamHeader, StreamFooter}
use Rattle.chunk_grammar.specs.Chunk.{least_file_text}
use Rattle.chunk_grammar.specs.Standing.{context_after_all}
use Rattle.recording_model.specs.declared.stream.StreamDoc.{StreamDoc}
use Rattle.recording_model.specs.Ledger.{stream_samples, all_rows, ledger_rows}
use Rattle.recording_model.specs.Batch.{Batch, Group, AreDivided, AreInOrder}
use Rattle.recording_model.specs.Layout.{laid_chunks}

abbrev pub file_document : List ℕ
file_document = codes "<?xml version=\"1.0\"?><info><version>1.0</version></info>"

abbrev pub ledger_document : List ℕ
ledger_document = codes "<?xml version=\"1.0\"?><info><name>overruns</name><type>ledger</type><channel_count>3</channel_count><nominal_srate>0</nominal_srate><channel_format>int64</channel_format></info>"

abbrev pub footer_document : ℕ → ℕ → List ℕ
footer_document kept lost =
    codes "<?xml version=\"1.0\"?><info><sample_count>" ++ (decimal kept ++ (codes "</sample_count><overruns>" ++ (decimal lost ++ codes "</overruns></info>")))

-- the file header, the ledger's header, and the headers of the streams in order
abbrev pub headers : List StreamDoc → List Chunk
headers streams = FileHeader file_document ∷ StreamHeader 0 ledger_document ∷ map (λ s. StreamHeader s.id s.doc) streams

-- how many positions of a stream the ledger names
abbrev pub lost_in : ℕ → List Chunk → ℕ
lost_in id cs = sum_by (λ row. row.count) (ledger_rows id cs)

-- the ledger's footer counts its rows; a stream's footer counts its samples and its lost positions
abbrev pub footers : List StreamDoc → List Chunk → List Chunk
footers streams body =
    StreamFooter 0 (footer_document (length (all_rows body)) 0)
    ∷ map (λ s. StreamFooter s.id (footer_document (length (stream_samples s.id body)) (lost_in s.id body))) streams

-- the stream of a feed: an id that isn't the ledger's, and the shape that its header document tells
pub record IsStream (stream : StreamDoc) : Type 0 where
  pub low : 1 ≤ stream.id
  pub high : stream.id ≤ 65_535
  pub shape : shape_in stream.doc ≡ Ok stream.shape

-- the streams of a recording: no two have the same id
abbrev pub AreStreams : List StreamDoc → Type 0
AreStreams [] = ⊤
AreStreams (s ∷ more) = IsStream s × AllByRecursion (λ other. other.id ≢ s.id) more × AreStreams more

-- cs is the recording of these batches
pub record IsRecording (streams : List StreamDoc) (batches : List Batch) (cs : List Chunk) : Type 0 where
  pub are : AreStreams streams
  pub in_order : AreInOrder batches
  pub groups : List Group
  pub divided : AreDivided streams batches groups
  pub body : List Chunk
  pub laid : body ≡ laid_chunks (context_after_all [] (headers streams)) (length (least_file_text (headers streams))) streams groups
  pub whole : cs ≡ headers streams ++ body ++ footers streams body
