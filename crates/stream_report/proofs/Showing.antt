-- Chunks, one after the other, and their lines.
use Rattle.std.proofs.Common.{◌≡◌, ℕ, ◌+◌, ◌*◌, ◌≤◌, false, List, [], ◌∷◌, ◌++◌, length, take, drop, Option, refl, sym, ap, ◌∙◌, subst, append_assoc, take-append-drop, arith}
use Rattle.std.proofs.lemmas.List.{append-nil, length-append}
use Rattle.std.proofs.lemmas.Grind.{flat_map-append}
use Rattle.std.specs.Io.KnownBytes.{Appends}
use Rattle.std.proofs.KnownBytes.{Appends-nil, Appends-trans}
use Rattle.byteorder.specs.Endian.{little_bytes}
use Rattle.rec_base.specs.Known.{AppendsFront, printed_line}
use Rattle.reading_model.specs.Outlook.{How, Outlook, item, Answered}
use Rattle.reading_model.specs.Read.{Reader}
use Rattle.piece_reader.specs.Steps.{Begun}
use Rattle.piece_reader.proofs.Collecting.{begun_item}
use Rattle.piece_reader.proofs.Ending.{fresh, begun_fresh}
use Rattle.xdf_model_laws.proofs.Bytes.{length-little_bytes}
use Rattle.chunk_grammar.specs.declared.chunk.Chunk.{Chunk as ChunkValue}
use Rattle.chunk_grammar.specs.declared.chunk.Chunk.TheVariants.{FileHeader, StreamHeader, Samples, ClockOffset, Boundary, StreamFooter, Other}
use Rattle.chunk_grammar.specs.Chunk.{Context, context_after, IsChunkText, tag_of}
use Rattle.file_model.specs.declared.end.FileEnd.{FileEnd}
use Rattle.file_model.specs.declared.next.Next.TheVariants as next
use Rattle.file_model.specs.Reader.{ChunkAt, file_kind}
use Rattle.file_reader.specs.FileInlet.{FileInlet, outlook, IsGiven}
use Rattle.report_model.specs.Lines.{chunk_lines}
use Rattle.report_model.specs.Shown.{context_behind, lines_of_chunks, end_lines, show_lines, printed_lines, AreFirstLines}
use Rattle.stream_report.proofs.Said.{front_behind}

-- the lines of a stream header don't look at the context, and no other chunk changes it
pub same_lines : (ctx : Context) (at : ℕ) (c : ChunkValue) → chunk_lines (context_after ctx c) at c ≡ chunk_lines ctx at c
same_lines ctx at (FileHeader doc) = refl
same_lines ctx at (StreamHeader id doc) = refl
same_lines ctx at (Samples id samples) = refl
same_lines ctx at (ClockOffset id time offset) = refl
same_lines ctx at Boundary = refl
same_lines ctx at (StreamFooter id doc) = refl
same_lines ctx at (Other tag body) = refl

context_more : (ctx : Context) (xs ys : List ChunkAt) → context_behind ctx (xs ++ ys) ≡ context_behind (context_behind ctx xs) ys
context_more ctx [] ys = refl
context_more ctx (x ∷ xs) ys = context_more (context_after ctx x.1) xs ys

lines_more : (ctx : Context) (xs ys : List ChunkAt) → lines_of_chunks ctx (xs ++ ys) ≡ lines_of_chunks ctx xs ++ lines_of_chunks (context_behind ctx xs) ys
lines_more ctx [] ys = refl
lines_more ctx (x ∷ xs) ys =
    ap (λ (l : List (List ℕ)). chunk_lines ctx x.0 x.1 ++ l) (lines_more (context_after ctx x.1) xs ys)
    ∙ sym (append_assoc (chunk_lines ctx x.0 x.1) (lines_of_chunks (context_after ctx x.1) xs) (lines_of_chunks (context_behind (context_after ctx x.1) xs) ys))

lines_one : (items : List ChunkAt) (at : ℕ) (c : ChunkValue) → lines_of_chunks [] (items ++ (at, c) ∷ []) ≡ lines_of_chunks [] items ++ chunk_lines (context_behind [] items) at c
lines_one items at c = lines_more [] items ((at, c) ∷ []) ∙ ap (λ (l : List (List ℕ)). lines_of_chunks [] items ++ l) (append-nil (chunk_lines (context_behind [] items) at c))

pub printed_both : (xs ys : List (List ℕ)) → printed_lines (xs ++ ys) ≡ printed_lines xs ++ printed_lines ys
printed_both xs ys = flat_map-append printed_line xs ys

-- these chunks were given and all their lines were said; all others are still to come
pub record ShownSo (reader : Reader ChunkAt FileEnd) (now : FileInlet) (before left printed printed' : Option (List ℕ)) (count : ℕ) : Type 0 where
  pub items : List ChunkAt
  pub begun : Begun (fresh reader) (outlook now) before left items
  pub said : Appends printed printed' (printed_lines (lines_of_chunks [] items))
  pub context : now.context ≡ context_behind [] items
  pub counted : count ≡ length items
  pub few : 2 * count ≤ now.place

-- a chunk's text has at least two bytes
pub long_text : (ctx : Context) (c : ChunkValue) (u : List ℕ) → IsChunkText ctx c u → 2 ≤ length u
long_text ctx c u text =
    omega (arith, ap length text.whole, length-append (text.len ++ little_bytes 2 (tag_of c)) text.content, length-append text.len (little_bytes 2 (tag_of c)), length-little_bytes 2 (tag_of c))

-- the lines of one chunk more, in the context that the reader has behind it
module _ (reader : Reader ChunkAt FileEnd) (now new : FileInlet) (a b c printed printed' : Option (List ℕ)) (count at : ℕ) (chunk : ChunkValue) (k : ShownSo reader now a b printed printed' count)
    (given : IsGiven now new (next.Chunk at chunk)) (answered : Answered file_kind (outlook now) (outlook new) b c (item (at, chunk))) where
  items : List ChunkAt
  items = k.items ++ (at, chunk) ∷ []

  pub begun_more : Begun (fresh reader) (outlook new) a c (k.items ++ (at, chunk) ∷ [])
  begun_more = begun_item file_kind (fresh reader) (outlook now) (outlook new) a b c k.items (at, chunk) k.begun answered

  -- the lines of the chunk, by the context before it
  in_context : chunk_lines new.context at chunk ≡ chunk_lines (context_behind [] k.items) at chunk
  in_context = ap (λ (x : Context). chunk_lines x at chunk) given.4 ∙ same_lines now.context at chunk ∙ ap (λ (x : Context). chunk_lines x at chunk) k.context

  pub all_lines : lines_of_chunks [] (k.items ++ (at, chunk) ∷ []) ≡ lines_of_chunks [] k.items ++ chunk_lines new.context at chunk
  all_lines = lines_one k.items at chunk ∙ ap (λ (l : List (List ℕ)). lines_of_chunks [] k.items ++ l) (sym in_context)

  all_printed : printed_lines (lines_of_chunks [] (k.items ++ (at, chunk) ∷ [])) ≡ printed_lines (lines_of_chunks [] k.items) ++ printed_lines (chunk_lines new.context at chunk)
  all_printed = ap printed_lines all_lines ∙ printed_both (lines_of_chunks [] k.items) (chunk_lines new.context at chunk)

  pub shown_more : (printed'' : Option (List ℕ)) → Appends printed' printed'' (printed_lines (chunk_lines new.context at chunk)) → ShownSo reader new a c printed printed'' (count + 1)
  shown_more printed'' said =
      let P : List ℕ → Type 0 = λ t. Appends printed printed'' t in
      let long = long_text now.context chunk new.last given.1 in
      let behind_it : new.context ≡ context_behind [] (k.items ++ (at, chunk) ∷ []) =
      given.4 ∙ ap (λ (x : Context). context_after x chunk) k.context ∙ sym (context_more [] k.items ((at, chunk) ∷ [])) in
      record {
        items = k.items ++ (at, chunk) ∷ [];
        begun = begun_more;
        said = subst P (sym all_printed) (Appends-trans printed printed' printed'' _ _ k.said said);
        context = behind_it;
        counted = omega (arith, k.counted, length-append k.items ((at, chunk) ∷ []));
        few = omega (arith, k.few, given.2, long);
      }

  pub front_more : (printed'' : Option (List ℕ)) → AppendsFront printed' printed'' (printed_lines (chunk_lines new.context at chunk)) → AppendsFront printed printed'' (printed_lines (lines_of_chunks [] (k.items ++ (at, chunk) ∷ [])))
  front_more printed'' said =
      let P : List ℕ → Type 0 = λ t. AppendsFront printed printed'' t in
      subst P (sym all_printed) (front_behind printed printed' printed'' _ _ k.said said)

-- the first lines, whatever follows
pub first_lines : (reader : Reader ChunkAt FileEnd) (now : Outlook ChunkAt FileEnd) (a b : Option (List ℕ)) (items : List ChunkAt) (k : Begun (fresh reader) now a b items) → AreFirstLines reader k.taken (lines_of_chunks [] items)
first_lines reader now a b items k = λ more how.
    let rest = now.coming more how in
    let ending : List (List ℕ) = end_lines (length (items ++ rest.0)) rest.1 in (
      lines_of_chunks (context_behind [] items) rest.0 ++ ending,
      ap show_lines (k.same more how) ∙ ap (λ (l : List (List ℕ)). l ++ ending) (lines_more [] items rest.0)
          ∙ append_assoc (lines_of_chunks [] items) (lines_of_chunks (context_behind [] items) rest.0) ending,
    )

-- some of the first lines are first lines
pub fewer_lines : (reader : Reader ChunkAt FileEnd) (taken : List ℕ) (xs ys : List (List ℕ)) (n : ℕ) → AreFirstLines reader taken (xs ++ ys) → AreFirstLines reader taken (xs ++ take n ys)
fewer_lines reader taken xs ys n first = λ more how.
    let f = first more how in
    let parts : (xs ++ ys) ++ f.0 ≡ (xs ++ take n ys) ++ (drop n ys ++ f.0) =
    ap (λ (l : List (List ℕ)). (xs ++ l) ++ f.0) (sym (take-append-drop n ys))
    ∙ ap (λ (l : List (List ℕ)). l ++ f.0) (sym (append_assoc xs (take n ys) (drop n ys)))
    ∙ append_assoc (xs ++ take n ys) (drop n ys) f.0 in
    (drop n ys ++ f.0, f.1 ∙ parts)

-- bytes that were taken behind them change no first line
pub later_taken : (reader : Reader ChunkAt FileEnd) (taken bytes : List ℕ) (lines : List (List ℕ)) → AreFirstLines reader taken lines → AreFirstLines reader (taken ++ bytes) lines
later_taken reader taken bytes lines first = λ more how.
    let f = first (bytes ++ more) how in
    (f.0, ap (λ (l : List ℕ). show_lines (reader l how)) (append_assoc taken bytes more) ∙ f.1)

pub begun_so : (reader : Reader ChunkAt FileEnd) (now : FileInlet) (a printed : Option (List ℕ)) → ((more : List ℕ) (how : How) → (outlook now).coming more how ≡ reader more how) → (outlook now).is_over ≡ false → now.context ≡ []
    → ShownSo reader now a a printed printed 0
begun_so reader now a printed all goes none =
    record {
      items = [];
      begun = begun_fresh reader (outlook now) a all goes;
      said = Appends-nil printed;
      context = none;
      counted = refl;
      few = omega arith;
    }
