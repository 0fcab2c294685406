-- Chunks and files of chunks (XDF, "Chunk layout"); the context and the limit are this project's own.
use Rattle.std.specs.Prelude.{◌≡◌, ⊤, ℕ, ◌+◌, ◌<◌, ◌≤◌, ◌^◌, ◌==◌, ◌||◌, Bool, List, [], ◌∷◌, ◌++◌, length, Option, Some, None, Result, Ok, Err, if◌then◌else◌, IsTrue, nat_lt, codes}
use Rattle.std.specs.List.{flat_map}
use Rattle.byteorder.specs.Endian.{little_bytes}
use Rattle.xdf_model.specs.declared.types.Shape.{Shape}
use Rattle.xdf_model.specs.declared.types.NoShape.{NoShape}
use Rattle.xdf_model.specs.Varlen.{IsVarlen, least_varlen}
use Rattle.xdf_model.specs.Shape.{shape_in}
use Rattle.xdf_model.specs.Sample.{Sample, IsSampleText, Joined, least_sample_text}
use Rattle.chunk_grammar.specs.declared.chunk.Chunk.{Chunk}
use Rattle.chunk_grammar.specs.declared.chunk.Chunk.TheVariants.{FileHeader, StreamHeader, Samples, ClockOffset, Boundary, StreamFooter, Other}

-- the streams whose headers came before, in order
abbrev pub Context : Type 0
Context = List (ℕ × Shape)

-- the shape of the first stream with an id
abbrev pub shape_of : Context → ℕ → Option Shape
shape_of [] id = None
shape_of (s ∷ more) id = if s.0 == id then Some s.1 else shape_of more id

-- no two streams have one id
abbrev pub HasDistinctIds : Context → Type 0
HasDistinctIds [] = ⊤
HasDistinctIds (s ∷ more) = (shape_of more s.0 ≡ None) × HasDistinctIds more

abbrev pub with_shape : Context → ℕ → Result Shape NoShape → Context
with_shape ctx id (Ok shape) = ctx ++ (id, shape) ∷ []
with_shape ctx id (Err reason) = ctx

-- the context after a chunk
abbrev pub context_after : Context → Chunk → Context
context_after ctx (StreamHeader id doc) = with_shape ctx id (shape_in doc)
context_after ctx _ = ctx

-- the most that a Length may be, in bytes of tag and content
abbrev pub length_limit : ℕ
length_limit = 67_108_864

-- the content of a boundary (XDF, "Boundary chunk")
abbrev pub boundary_bytes : List ℕ
boundary_bytes = 0x43 ∷ 0xA5 ∷ 0x46 ∷ 0xDC ∷ 0xCB ∷ 0xF5 ∷ 0x41 ∷ 0x0F ∷ 0xB3 ∷ 0x0E ∷ 0xD5 ∷ 0x46 ∷ 0x73 ∷ 0x83 ∷ 0xCB ∷ 0xE4 ∷ []

-- the tag of a chunk's kind
abbrev pub tag_of : Chunk → ℕ
tag_of (FileHeader doc) = 1
tag_of (StreamHeader id doc) = 2
tag_of (Samples id samples) = 3
tag_of (ClockOffset id time offset) = 4
tag_of Boundary = 5
tag_of (StreamFooter id doc) = 6
tag_of (Other tag body) = tag

-- a tag that is none of the six
abbrev pub is_other : ℕ → Bool
is_other tag = tag == 0 || nat_lt 6 tag

-- b is a content of the chunk
abbrev pub IsContentText : Context → Chunk → List ℕ → Type 0
IsContentText ctx (FileHeader doc) b = b ≡ doc
IsContentText ctx (StreamHeader id doc) b =
    (id < 2 ^ 32) × (shape_of ctx id ≡ None) × (shape : Shape) × (shape_in doc ≡ Ok shape) × (b ≡ little_bytes 4 id ++ doc)
IsContentText ctx (Samples id samples) b =
    (id < 2 ^ 32) × (shape : Shape) × (shape_of ctx id ≡ Some shape)
    × (count : List ℕ) × (texts : List ℕ) × IsVarlen (length samples) count × Joined (IsSampleText shape) samples texts
    × (b ≡ little_bytes 4 id ++ count ++ texts)
IsContentText ctx (ClockOffset id time offset) b =
    (id < 2 ^ 32) × (time < 2 ^ 64) × (offset < 2 ^ 64) × (b ≡ little_bytes 4 id ++ little_bytes 8 time ++ little_bytes 8 offset)
IsContentText ctx Boundary b = b ≡ boundary_bytes
IsContentText ctx (StreamFooter id doc) b =
    (id < 2 ^ 32) × (shape : Shape) × (shape_of ctx id ≡ Some shape) × (b ≡ little_bytes 4 id ++ doc)
IsContentText ctx (Other tag body) b = (tag < 2 ^ 16) × IsTrue (is_other tag) × (b ≡ body)

-- b is a text of the chunk: its length, its tag and its content
pub record IsChunkText (ctx : Context) (c : Chunk) (b : List ℕ) : Type 0 where
  pub len : List ℕ
  pub content : List ℕ
  pub number : IsVarlen (2 + length content) len
  pub limit : 2 + length content ≤ length_limit
  pub kind : IsContentText ctx c content
  pub whole : b ≡ len ++ little_bytes 2 (tag_of c) ++ content

-- texts of the chunks, one directly after the other, each in the context that the ones before it leave
abbrev pub AreChunkTexts : Context → List Chunk → List ℕ → Type 0
AreChunkTexts ctx [] b = b ≡ []
AreChunkTexts ctx (c ∷ more) b =
    (x : List ℕ) × (y : List ℕ) × IsChunkText ctx c x × AreChunkTexts (context_after ctx c) more y × (b ≡ x ++ y)

-- the first four bytes of a file (XDF, "File structure")
abbrev pub magic : List ℕ
magic = codes "XDF:"

-- b is a file of these chunks
abbrev pub IsFileText : List Chunk → List ℕ → Type 0
IsFileText cs b = (y : List ℕ) × AreChunkTexts [] cs y × (b ≡ magic ++ y)

-- the same with the least widths, which are this project's own

abbrev pub texts_in : Option Shape → List Sample → List ℕ
texts_in None samples = []
texts_in (Some shape) samples = flat_map (least_sample_text shape) samples

abbrev pub least_content_text : Context → Chunk → List ℕ
least_content_text ctx (FileHeader doc) = doc
least_content_text ctx (StreamHeader id doc) = little_bytes 4 id ++ doc
least_content_text ctx (Samples id samples) = little_bytes 4 id ++ least_varlen (length samples) ++ texts_in (shape_of ctx id) samples
least_content_text ctx (ClockOffset id time offset) = little_bytes 4 id ++ little_bytes 8 time ++ little_bytes 8 offset
least_content_text ctx Boundary = boundary_bytes
least_content_text ctx (StreamFooter id doc) = little_bytes 4 id ++ doc
least_content_text ctx (Other tag body) = body

abbrev pub framed : ℕ → List ℕ → List ℕ
framed tag content = least_varlen (2 + length content) ++ little_bytes 2 tag ++ content

unfoldable pub least_chunk_text : Context → Chunk → List ℕ
least_chunk_text ctx c = framed (tag_of c) (least_content_text ctx c)

abbrev pub least_chunk_texts : Context → List Chunk → List ℕ
least_chunk_texts ctx [] = []
least_chunk_texts ctx (c ∷ more) = least_chunk_text ctx c ++ least_chunk_texts (context_after ctx c) more

-- the file of these chunks with the least widths
abbrev pub least_file_text : List Chunk → List ℕ
least_file_text cs = magic ++ least_chunk_texts [] cs
