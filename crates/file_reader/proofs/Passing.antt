-- What a step does, told of the fields.
use Rattle.std.proofs.Common.{◌≡◌, ℕ, zero, suc, ◌+◌, ◌-◌, ◌≤◌, List, [], ◌∷◌, length, take, drop, Option, Some, None, refl, sym, ap, ◌∙◌, subst, arith}
use Rattle.std.proofs.lemmas.List.{append-nil, length-take, length-drop}
use Rattle.reading_model.specs.Outlook.{ended}
use Rattle.reading_model.specs.Reading.{Reading, going}
use Rattle.piece_reader.specs.Steps.{Passes, end_of}
use Rattle.chunk_grammar.specs.declared.chunk.Chunk.{Chunk as ChunkValue}
use Rattle.chunk_grammar.specs.Chunk.{Context, context_after, IsChunkText}
use Rattle.chunk_grammar.specs.Standing.{standing_at, whole}
use Rattle.file_model.specs.declared.end.FileEnd.{FileEnd}
use Rattle.file_model.specs.declared.end.FileEnd.TheVariants.{Torn}
use Rattle.file_model.specs.declared.next.Next.TheVariants.{Chunk}
use Rattle.file_model.specs.Reader.{FileState, behind_chunk, by_standing, file_end, file_rules}
use Rattle.chunk_laws.proofs.Places.{at_complete}
use Rattle.file_reader.specs.declared.passed.Passed.TheVariants as passed
use Rattle.file_reader.specs.declared.kept.Inner.TheVariants.{Answer}
use Rattle.file_reader.specs.FileInlet.{FileInlet}
use Rattle.file_reader.specs.AsNext.{HasValue, chunk_of, next_in}
use Rattle.file_reader.specs.Kept.{Answers, Does, IsGoing, reading_of}

abbrev pub seen : Option FileEnd → Context → ℕ → ℕ → List ℕ → ℕ → FileInlet
seen ending context place last bytes limit = record {
  context = context;
  place = place;
  last = take last bytes;
  ahead = drop last bytes;
  reading = reading_of ending (record { context = context; place = place }) (drop last bytes) (limit - place);
  byte_limit = limit;
}

-- ---- the end within a chunk

torn_here : (s : FileState) (b : List ℕ) (left : ℕ) → length b ≡ left → (left ≡ 0 → ⊥) → file_end s b ended ≡ Torn s.place left
torn_here s [] left size some = absurd (some (sym size))
torn_here s (x ∷ b) left size some = ap (λ (n : ℕ). Torn s.place n) (omega arith)

pub torn_end : (now : FileInlet) (ending : Option FileEnd) (context : Context) (place last : ℕ) (bytes : List ℕ) (limit left : ℕ) → seen ending context place last bytes limit ≡ now → IsGoing now.reading
    → length bytes - last ≡ left → (left ≡ 0 → ⊥) → end_of file_rules now.reading ended ≡ Torn place left
torn_end now (Some e) context place last bytes limit left v g size some = absurd (subst (λ (x : FileInlet). IsGoing x.reading) (sym v) g)
torn_end now None context place last bytes limit left v g size some =
    let here = torn_here (record { context = context; place = place }) (drop last bytes) left (length-drop last bytes ∙ size) some in
    subst (λ (x : FileInlet). end_of file_rules x.reading ended ≡ Torn place left) v here

-- ---- a whole chunk

take_fewer : (u n : ℕ) (xs : List ℕ) → u ≤ n → take u (take n xs) ≡ take u xs
take_fewer zero n xs le = refl
take_fewer (suc u) zero xs le = absurd (omega arith)
take_fewer (suc u) (suc n) [] le = refl
take_fewer (suc u) (suc n) (x ∷ xs) le = let lower : u ≤ n = omega arith in ap (λ (l : List ℕ). x ∷ l) (take_fewer u n xs lower)

-- the reading behind something
abbrev goes_on : FileState → List ℕ → ℕ → Reading FileState FileEnd
goes_on s rest room = going s rest room

passes_here : (context after : Context) (place last used limit : ℕ) (bytes rest : List ℕ) (c : ChunkValue) → standing_at context (take (limit - place) (drop last bytes)) ≡ whole c used → rest ≡ drop last bytes → after ≡ context_after context c
    → Passes file_rules (goes_on (record { context = context; place = place }) (drop last bytes) (limit - place)) (Some (place, c)) (goes_on (record { context = after; place = place + used }) (drop used rest) (limit - (place + used)))
passes_here context after place last used limit bytes rest c found left is =
    let s : FileState = record { context = context; place = place } in
    let room : limit - (place + used) ≡ limit - place - used = omega arith in
    let t : FileState = record { context = after; place = place + used } in (
      used,
      behind_chunk s c used,
      ap (by_standing s) found,
      ap (λ (l : List ℕ). goes_on t (drop used l) (limit - (place + used))) left ∙ ap (λ (n : ℕ). goes_on t (drop used (drop last bytes)) n) room
          ∙ ap (λ (x : Context). goes_on (record { context = x; place = place + used }) (drop used (drop last bytes)) (limit - place - used)) is,
    )

chunk_answered : (now : FileInlet) (ending : Option FileEnd) (context after : Context) (place last used limit : ℕ) (bytes rest counted : List ℕ) (c : ChunkValue) → seen ending context place last bytes limit ≡ now → IsGoing now.reading
    → place ≤ limit → counted ≡ take (limit - place) (drop last bytes) → standing_at context counted ≡ whole c used → (used ≤ length counted) × IsChunkText context c (take used counted) → rest ≡ drop last bytes
    → after ≡ context_after context c → Answers now (seen ending after (place + used) used rest limit) (Chunk place c)
chunk_answered now (Some e) context after place last used limit bytes rest counted c v g low is found text left then = absurd (subst (λ (x : FileInlet). IsGoing x.reading) (sym v) g)
chunk_answered now None context after place last used limit bytes rest counted c v g low is found text left then =
    let new : FileInlet = seen None after (place + used) used rest limit in
    let long : length counted ≡ length (take (limit - place) (drop last bytes)) = ap length is in
    let in_room : used ≤ limit - place = omega (arith, text.0, long, length-take (limit - place) (drop last bytes)) in
    let in_rest : used ≤ length rest = omega (arith, text.0, long, ap length left, length-take (limit - place) (drop last bytes)) in
    let same : take used counted ≡ take used rest = ap (take used) is ∙ take_fewer used (limit - place) (drop last bytes) in_room ∙ ap (take used) (sym left) in
    let here : Answers (seen None context place last bytes limit) new (Chunk place c) = (
      passes_here context after place last used limit bytes rest c (ap (standing_at context) (sym is) ∙ found) left then,
      (
        refl,
        subst (λ (x : List ℕ). IsChunkText context c x) same text.1,
        omega (arith, length-take used rest, in_rest),
        omega (arith, in_room, low),
        then,
      ),
      refl,
    ) in
    subst (λ (x : FileInlet). Answers x new (Chunk place c)) v here

pub same_chunk : (context : Context) (c : ChunkValue) (text : List ℕ) → IsChunkText context c text → chunk_of (standing_at context text) ≡ c
same_chunk context c text is = ap chunk_of (ap (standing_at context) (sym (append-nil text)) ∙ at_complete context c text [] is)

pub record ChunkPassed (now new : FileInlet) (place : ℕ) (c : ChunkValue) : Type 0 where
  pub does : (value : Option ChunkValue) → Does now new (Answer (passed.Chunk place) value)
  pub values : (value : Option ChunkValue) → value ≡ Some c → HasValue (next_in now new (passed.Chunk place)) value

chunk_so : (now new : FileInlet) (place : ℕ) (c : ChunkValue) → Answers now new (Chunk place c) → ChunkPassed now new place c
chunk_so now new place c a =
    let is : c ≡ chunk_of (standing_at now.context new.last) = sym (same_chunk now.context c new.last a.1.1) in
    record {
      does = λ value. subst (λ (d : ChunkValue). Answers now new (Chunk place d)) is a;
      values = λ value e. e ∙ ap (λ (d : ChunkValue). Some d) is;
    }

pub chunk_passed : (now : FileInlet) (ending : Option FileEnd) (context after : Context) (place last used limit : ℕ) (bytes rest counted : List ℕ) (c : ChunkValue) → seen ending context place last bytes limit ≡ now → IsGoing now.reading
    → place ≤ limit → counted ≡ take (limit - place) (drop last bytes) → standing_at context counted ≡ whole c used → (used ≤ length counted) × IsChunkText context c (take used counted) → rest ≡ drop last bytes
    → after ≡ context_after context c → ChunkPassed now (seen ending after (place + used) used rest limit) place c
chunk_passed now ending context after place last used limit bytes rest counted c v g low is found text left then =
    chunk_so now (seen ending after (place + used) used rest limit) place c (chunk_answered now ending context after place last used limit bytes rest counted c v g low is found text left then)

-- the same count of bytes that are held
pub used_within : (limit place last used : ℕ) (bytes counted : List ℕ) → counted ≡ take (limit - place) (drop last bytes) → used ≤ length counted → (used ≤ limit - place) × (used ≤ length bytes - last)
used_within limit place last used bytes counted is le =
    let long : length counted ≡ length (take (limit - place) (drop last bytes)) = ap length is in
    (omega (arith, le, long, length-take (limit - place) (drop last bytes)), omega (arith, le, long, length-take (limit - place) (drop last bytes), length-drop last bytes))
