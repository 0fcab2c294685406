-- What a command that reads a file is told of it. This project's own.
use Rattle.std.specs.Prelude.{◌≡◌, ◌≢◌, ℕ, List, ◌++◌, drop, Option, Some, slice_get}
use Rattle.std.specs.Io.KnownBytes.{Consumes}
use Rattle.rec_base.specs.declared.name.Name.TheVariants.{File}
use Rattle.rec_base.specs.Contents.{Contents, IsOpened}
use Rattle.reading_model.specs.Outlook.{How}
use Rattle.reading_model.specs.Read.{Reader, IsRead, IsReadingOf}
use Rattle.chunk_grammar.specs.Chunk.{magic}
use Rattle.file_model.specs.declared.end.FileEnd.{FileEnd}
use Rattle.file_model.specs.Reader.{ChunkAt, file_counted, file_kind}
use Rattle.file_reader.specs.FileInlet.{FileInlet, IsNotXdf, outlook}

-- the most bytes of a file that count behind its first four: 2 to the 40 in all
abbrev pub chunk_limit : ℕ
chunk_limit = 1_099_511_627_772

-- the chunks of some bytes of a file behind its first four, and the end, where the input goes on so behind them
abbrev pub file_chunks : Reader ChunkAt FileEnd
file_chunks b how = file_counted chunk_limit (drop 4 b) how

-- the file of this name was opened, and just its magic was taken of it
pub record IsEntered {S M : Type 0} (left_of : S → Option (List ℕ)) (faults_of : S → ℕ) (mark_of : S → M) (contents : Option Contents) (name : List ℕ) (source : S) : Type 0 where
  pub first : S
  pub opened : IsOpened contents (File name) 0 (left_of first)
  pub lost : Consumes (left_of first) (left_of source) magic
  pub marked : mark_of source ≡ mark_of first
  pub quiet : faults_of source ≡ faults_of first

-- and all its chunks are to come
pub record IsBegun {S M : Type 0} (left_of : S → Option (List ℕ)) (faults_of : S → ℕ) (mark_of : S → M) (contents : Option Contents) (name : List ℕ) (source : S) (file : FileInlet) : Type 0 where
  pub entered : IsEntered left_of faults_of mark_of contents name source
  pub all : (more : List ℕ) (how : How) → (outlook file).coming more how ≡ file_counted chunk_limit more how

-- where contents are told, the first text at the name begins with the magic, and has these chunks and this end
abbrev pub IsTold : Option Contents → List ℕ → List ChunkAt → FileEnd → Type 0
IsTold contents name chunks end =
    (texts : Contents) → contents ≡ Some texts → (text : List ℕ) × (slice_get (texts (File name)) 0 ≡ Some text)
    × ((rest : List ℕ) × (text ≡ magic ++ rest)) × IsReadingOf file_kind file_chunks text chunks end

-- the file of this name begins with the magic, and has these chunks and this end
pub record IsFileOf {S M : Type 0} (left_of : S → Option (List ℕ)) (faults_of : S → ℕ) (mark_of : S → M) (contents : Option Contents) (name : List ℕ) (chunks : List ChunkAt) (end : FileEnd) : Type 0 where
  pub first : S
  pub last : S
  pub opened : IsOpened contents (File name) 0 (left_of first)
  pub read : IsRead left_of faults_of mark_of file_kind file_chunks first last chunks end
  pub rest : List ℕ
  pub begins : read.taken ≡ magic ++ rest
  pub told : IsTold contents name chunks end

-- first lines of a report on a file of which some bytes were taken, whatever follows
abbrev pub FirstLines : Type 1
FirstLines = Reader ChunkAt FileEnd → List ℕ → List (List ℕ) → Type 0

-- the file of this name begins with the magic, and these are first lines of a report on it, whatever it has behind the bytes that were taken
pub record IsFileFrom {S : Type 0} (are_first : FirstLines) (left_of : S → Option (List ℕ)) (contents : Option Contents) (name : List ℕ) (lines : List (List ℕ)) : Type 0 where
  pub first : S
  pub last : S
  pub opened : IsOpened contents (File name) 0 (left_of first)
  pub rest : List ℕ
  pub lost : Consumes (left_of first) (left_of last) (magic ++ rest)
  pub lines_first : are_first file_chunks (magic ++ rest) lines

-- the file of this name doesn't begin with the magic
pub record IsOtherFile {S : Type 0} (left_of : S → Option (List ℕ)) (contents : Option Contents) (name : List ℕ) : Type 0 where
  pub first : S
  pub last : S
  pub opened : IsOpened contents (File name) 0 (left_of first)
  pub other : IsNotXdf (left_of first) (left_of last)

-- where contents are told, the first text at the name doesn't begin with the magic
abbrev pub IsToldOther : Option Contents → List ℕ → Type 0
IsToldOther contents name =
    (texts : Contents) → contents ≡ Some texts → (text : List ℕ) × (slice_get (texts (File name)) 0 ≡ Some text) × ((rest : List ℕ) → text ≢ magic ++ rest)
