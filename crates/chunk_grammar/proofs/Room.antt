-- How much room texts leave.
use Rattle.std.proofs.Common.{◌≡◌, ℕ, ◌+◌, ◌-◌, ◌^◌, ◌<◌, ◌≤◌, ◌↔◌, true, leb, IsTrue, SomeIff, is_some, List, ◌++◌, length, Option, Some, None, Ok, refl, ap, subst, arith, lit≤}
use Rattle.std.proofs.lemmas.Bool.Decides.{nat_tests}
use Rattle.std.specs.List.{flat_map, AllByRecursion}
use Rattle.std.proofs.lemmas.List.{length-append}
use Rattle.byteorder.specs.Numbers.{length-bytes_low_first}
use Rattle.byteorder.specs.Endian.{little_bytes}
use Rattle.xdf_model.specs.declared.types.Shape.{Shape}
use Rattle.xdf_model.specs.Shape.{shape_in}
use Rattle.xdf_model.specs.Varlen.{least_width, least_varlen}
use Rattle.xdf_model.specs.Sample.{Sample, FitsShape, least_sample_text}
use Rattle.xdf_model_laws.proofs.LeastTexts.{samples_fit}
use Rattle.chunk_grammar.specs.declared.chunk.Chunk.{Chunk}
use Rattle.chunk_grammar.specs.declared.chunk.Chunk.TheVariants.{FileHeader, StreamHeader, Samples, ClockOffset, Boundary, StreamFooter, Other}
use Rattle.chunk_grammar.specs.Chunk.{Context, shape_of, length_limit, is_other, IsContentText, IsChunkText, texts_in, least_content_text, least_chunk_text}
use Rattle.chunk_grammar.proofs.LeastChunks.{content_least, content_limit}
use Rattle.chunk_grammar.proofs.Spelled.{chunk_spelled, samples_content}
use Rattle.xdf_lengths.proofs.Lengths.{length-least_varlen}

-- the least content is one, and its length is within the limit
abbrev HasLeast : Context → Chunk → Type 0
HasLeast ctx c = IsContentText ctx c (least_content_text ctx c) × (2 + length (least_content_text ctx c) ≤ length_limit)

-- a chunk has a text exactly where P holds
abbrev pub HasText : Type 0 → Context → Chunk → Type 0
HasText P ctx c = P ↔ ((b : List ℕ) × IsChunkText ctx c b)

has_text : (P : Type 0) (ctx : Context) (c : Chunk) → (P → HasLeast ctx c) → (HasLeast ctx c → P) → HasText P ctx c
has_text P ctx c to from = (
  λ p. (least_chunk_text ctx c, chunk_spelled ctx c (to p).0 (to p).1),
  λ t. from ((content_least ctx c t.1.content t.1.kind).0, content_limit ctx c t.0 t.1),
)

within : (a b : ℕ) → IsTrue (leb a b) ↔ (a ≤ b)
within a b = (λ t. grind (arith, nat_tests), λ le. grind (arith, nat_tests))

pub file_header_text : (ctx : Context) (doc : List ℕ) → HasText (IsTrue (leb (length doc) 67_108_862)) ctx (FileHeader doc)
file_header_text ctx doc =
    let w = within (length doc) 67_108_862 in
    has_text _ ctx (FileHeader doc) (λ t. (refl, omega (arith, w.0 t))) (λ r. w.1 (omega (arith, r.1)))

four_more : (id : ℕ) (doc : List ℕ) → length (little_bytes 4 id ++ doc) ≡ 4 + length doc
four_more id doc = omega (arith, length-append (little_bytes 4 id) doc, length-bytes_low_first 0 4 id)

pub stream_header_text : (ctx : Context) (id : ℕ) (doc : List ℕ) (shape : Shape) → id < 2 ^ 32 → shape_of ctx id ≡ None → shape_in doc ≡ Ok shape
    → HasText (IsTrue (leb (length doc) 67_108_858)) ctx (StreamHeader id doc)
stream_header_text ctx id doc shape small new told =
    let w = within (length doc) 67_108_858 in
    has_text _ ctx (StreamHeader id doc) (λ t. ((small, new, shape, told, refl), omega (arith, w.0 t, four_more id doc))) (λ r. w.1 (omega (arith, r.1, four_more id doc)))

pub stream_footer_text : (ctx : Context) (id : ℕ) (doc : List ℕ) (shape : Shape) → id < 2 ^ 32 → shape_of ctx id ≡ Some shape
    → HasText (IsTrue (leb (length doc) 67_108_858)) ctx (StreamFooter id doc)
stream_footer_text ctx id doc shape small known =
    let w = within (length doc) 67_108_858 in
    has_text _ ctx (StreamFooter id doc) (λ t. ((small, shape, known, refl), omega (arith, w.0 t, four_more id doc))) (λ r. w.1 (omega (arith, r.1, four_more id doc)))

pub other_text : (ctx : Context) (tag : ℕ) (body : List ℕ) → tag < 2 ^ 16 → IsTrue (is_other tag) → HasText (IsTrue (leb (length body) 67_108_862)) ctx (Other tag body)
other_text ctx tag body small other =
    let w = within (length body) 67_108_862 in
    has_text _ ctx (Other tag body) (λ t. ((small, other, refl), omega (arith, w.0 t))) (λ r. w.1 (omega (arith, r.1)))

pub clock_offset_text : (ctx : Context) (id time offset : ℕ) → id < 2 ^ 32 → time < 2 ^ 64 → offset < 2 ^ 64 → HasText (IsTrue true) ctx (ClockOffset id time offset)
clock_offset_text ctx id time offset small early near = has_text _ ctx (ClockOffset id time offset) (λ t. ((small, early, near, refl), lit≤ tt)) (λ r. refl)

pub boundary_text : (ctx : Context) → HasText (IsTrue true) ctx Boundary
boundary_text ctx = has_text _ ctx Boundary (λ t. (refl, lit≤ tt)) (λ r. refl)

samples_have : (ctx : Context) (id : ℕ) (shape : Shape) (samples : List Sample) (b : List ℕ) → shape_of ctx id ≡ Some shape → IsContentText ctx (Samples id samples) b → AllByRecursion (FitsShape shape) samples
samples_have ctx id shape samples b known r =
    let same : r.1 ≡ shape = cc (r.2, known) in
    subst (λ (s : Shape). AllByRecursion (FitsShape s) samples) same (samples_fit r.1 samples r.4 r.6)

-- samples that fit, and that the room behind the id and their count holds
abbrev pub SamplesFit : Shape → List Sample → Type 0
SamplesFit shape samples = AllByRecursion (FitsShape shape) samples × (length (flat_map (least_sample_text shape) samples) ≤ 67_108_858 - (1 + least_width (length samples)))

samples_size : (ctx : Context) (id : ℕ) (shape : Shape) (samples : List Sample) → shape_of ctx id ≡ Some shape
    → length (least_content_text ctx (Samples id samples)) ≡ 5 + least_width (length samples) + length (flat_map (least_sample_text shape) samples)
samples_size ctx id shape samples known =
    let count = least_varlen (length samples) in
    omega (
      arith,
      ap (λ (o : Option Shape). length (texts_in o samples)) known,
      length-append (little_bytes 4 id ++ count) (texts_in (shape_of ctx id) samples),
      length-append (little_bytes 4 id) count,
      length-least_varlen (length samples),
      length-bytes_low_first 0 4 id,
    )

pub samples_text : (ctx : Context) (id : ℕ) (shape : Shape) (samples : List Sample) → id < 2 ^ 32 → length samples < 2 ^ 64 → shape_of ctx id ≡ Some shape
    → HasText (SamplesFit shape samples) ctx (Samples id samples)
samples_text ctx id shape samples small few known =
    let size = samples_size ctx id shape samples known in
    let width : least_width (length samples) ≤ 8 = grind (arith, nat_tests) in
    has_text _ ctx (Samples id samples)
    (λ t. (samples_content ctx id shape samples small known t.0 few (omega (arith, t.1)), omega (arith, t.1, size, width)))
    (λ r. (samples_have ctx id shape samples _ known r.0, omega (arith, r.1, size)))

some_is : {X : Type 0} (o : Option X) (P : Type 0) (v : X) → SomeIff o P v → IsTrue (is_some o) ↔ P
some_is None P v r = (λ t. absurd cc, λ p. absurd (r p))
some_is (Some x) P v r = (λ t. r.0, λ p. refl)

-- what the room leaves tells whether the samples fit
pub room_tells : (ctx : Context) (id : ℕ) (shape : Shape) (samples : List Sample) (left : Option ℕ) (v : ℕ) → id < 2 ^ 32 → length samples < 2 ^ 64 → shape_of ctx id ≡ Some shape
    → SomeIff left (SamplesFit shape samples) v → HasText (IsTrue (is_some left)) ctx (Samples id samples)
room_tells ctx id shape samples left v small few known tells =
    let some = some_is left (SamplesFit shape samples) v tells in
    let text = samples_text ctx id shape samples small few known in
    (λ t. text.0 (some.0 t), λ t. some.1 (text.1 t))
