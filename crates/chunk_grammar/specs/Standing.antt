-- What stands at a place of a file, told from left to right. The reasons, their places and their order are this
-- project's own.
use Rattle.std.specs.Prelude.{◌≡◌, ℕ, ◌+◌, ◌-◌, ◌==◌, List, [], ◌∷◌, ◌++◌, length, take, drop, Option, Some, None, Result, Ok, Err, if◌then◌else◌, nat_lt}
use Rattle.byteorder.specs.Endian.{little_number}
use Rattle.xdf_model.specs.declared.types.Shape.{Shape}
use Rattle.xdf_model.specs.declared.types.NoShape.{NoShape}
use Rattle.xdf_model.specs.declared.types.Why.{Why}
use Rattle.xdf_model.specs.declared.types.Why.TheVariants as why
use Rattle.xdf_model.specs.declared.types.NumRead.{NumRead}
use Rattle.xdf_model.specs.declared.types.NumRead.TheVariants.{Read, Short, BadWidth}
use Rattle.xdf_model.specs.Varlen.{varlen_at}
use Rattle.xdf_model.specs.Shape.{shape_in}
use Rattle.xdf_model.specs.Reading.{Fault, outside, wrong, ◌>>=◌, number_at, length_at, told}
use Rattle.xdf_model.specs.Sample.{samples_at}
use Rattle.chunk_grammar.specs.declared.chunk.Chunk.{Chunk}
use Rattle.chunk_grammar.specs.declared.chunk.Chunk.TheVariants.{FileHeader, StreamHeader, Samples, ClockOffset, Boundary, StreamFooter, Other}
use Rattle.chunk_grammar.specs.Chunk.{Context, shape_of, length_limit, boundary_bytes, AreChunkTexts, context_after, magic}

-- a chunk or the first fault, for all the bytes of a content
abbrev pub Judged : Type 0
Judged = Result Chunk Fault

-- the shape of a stream whose header came before
abbrev pub known : ℕ → Option Shape → Result Shape Fault
known left None = Err (wrong left why.UnknownStream)
known left (Some shape) = Ok shape

-- no header of the stream came before
abbrev pub new_stream : ℕ → Option Shape → Result ℕ Fault
new_stream left None = Ok 0
new_stream left (Some shape) = Err (wrong left why.RepeatedStream)

-- the document has a shape
abbrev pub has_shape : ℕ → Result Shape NoShape → Result Shape Fault
has_shape left (Ok shape) = Ok shape
has_shape left (Err reason) = Err (wrong left why.NoShape)

-- nothing is left
abbrev pub ended : Chunk → List ℕ → Judged
ended c [] = Ok c
ended c (x ∷ b) = Err (wrong (length b + 1) why.ExtraBytes)

-- a content of a size
abbrev pub sized : ℕ → List ℕ → Judged → Judged
sized size b judged =
    if nat_lt (length b) size then Err (wrong (length b) why.ShortContent)
    else if nat_lt size (length b) then Err (wrong (length b - size) why.ExtraBytes)
    else judged

-- the bytes are the boundary bytes
abbrev pub same_bytes : List ℕ → List ℕ → Judged
same_bytes [] b = Ok Boundary
same_bytes (w ∷ ws) [] = Ok Boundary
same_bytes (w ∷ ws) (x ∷ b) = if w == x then same_bytes ws b else Err (wrong (length b + 1) why.BadBoundary)

unfoldable pub stream_header_at : Context → List ℕ → Judged
stream_header_at ctx b = do
  id ← told (length b) why.ShortContent (number_at 4 b)
  first ← new_stream (length b) (shape_of ctx id.0)
  shape ← has_shape (length id.1) (shape_in id.1)
  Ok (StreamHeader id.0 id.1)

unfoldable pub samples_chunk_at : Context → List ℕ → Judged
samples_chunk_at ctx b = do
  id ← told (length b) why.ShortContent (number_at 4 b)
  shape ← known (length b) (shape_of ctx id.0)
  count ← told (length id.1) why.ShortContent (length_at id.1)
  samples ← samples_at shape count.0 count.1
  ended (Samples id.0 samples.0) samples.1

unfoldable pub clock_offset_at : List ℕ → Judged
clock_offset_at b = sized 20 b (number_at 4 b >>= λ id.
    number_at 8 id.1 >>= λ time. number_at 8 time.1 >>= λ offset. ended (ClockOffset id.0 time.0 offset.0) offset.1)

unfoldable pub boundary_at : List ℕ → Judged
boundary_at b = sized 16 b (same_bytes boundary_bytes b)

unfoldable pub stream_footer_at : Context → List ℕ → Judged
stream_footer_at ctx b = do
  id ← told (length b) why.ShortContent (number_at 4 b)
  shape ← known (length b) (shape_of ctx id.0)
  Ok (StreamFooter id.0 id.1)

-- the content of a chunk with a tag
unfoldable pub content_at : Context → ℕ → List ℕ → Judged
content_at ctx tag b =
    if tag == 1 then Ok (FileHeader b)
    else if tag == 2 then stream_header_at ctx b
    else if tag == 3 then samples_chunk_at ctx b
    else if tag == 4 then clock_offset_at b
    else if tag == 5 then boundary_at b
    else if tag == 6 then stream_footer_at ctx b
    else Ok (Other tag b)

-- a chunk and its size, too few bytes, or a place and a reason
pub data Standing : Type 0 where
  whole : Chunk → ℕ → Standing
  torn : Standing
  bad : ℕ → Why → Standing

-- the answer of a content that ends at a place
abbrev pub answer_of : ℕ → Judged → Standing
answer_of end (Ok c) = whole c end
answer_of end (Err outside) = torn
answer_of end (Err (wrong left reason)) = bad (end - left) reason

-- n bytes from a place on
abbrev pub chunk_at : Context → ℕ → ℕ → List ℕ → Standing
chunk_at ctx n place b =
    if nat_lt n 2 then bad 0 why.LengthUnderTwo
    else if nat_lt length_limit n then bad 0 why.TooLong
    else if nat_lt (length b) n then torn
    else answer_of (place + n) (content_at ctx (little_number 2 b) (take (n - 2) (drop 2 b)))

abbrev pub standing_from : Context → List ℕ → NumRead → Standing
standing_from ctx b (Read n used) = chunk_at ctx n used (drop used b)
standing_from ctx b Short = torn
standing_from ctx b (BadWidth w) = bad 0 why.BadWidth

-- what stands at the front of b
unfoldable pub standing_at : Context → List ℕ → Standing
standing_at ctx b = standing_from ctx b (varlen_at b)

-- the chunks at the front of a file, and a rest that begins with no whole chunk
abbrev pub IsWhole : Standing → Type 0
IsWhole (whole c used) = Unit {0}
IsWhole torn = ⊥
IsWhole (bad place reason) = ⊥

abbrev pub context_after_all : Context → List Chunk → Context
context_after_all ctx [] = ctx
context_after_all ctx (c ∷ more) = context_after_all (context_after ctx c) more

pub record IsFront (b : List ℕ) (cs : List Chunk) (rest : List ℕ) : Type 0 where
  pub text : List ℕ
  pub chunks : AreChunkTexts [] cs text
  pub whole : b ≡ magic ++ text ++ rest
  pub ends : IsWhole (standing_at (context_after_all [] cs) rest) → ⊥
