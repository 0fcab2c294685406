-- What a recording holds that was stopped anywhere.
use Rattle.std.proofs.Common.{◌≡◌, ℕ, ◌-◌, ◌^◌, ◌<◌, ◌≤◌, List, [], ◌∷◌, ◌++◌, length, take, drop, Some, slice_get, inl, inr, refl, sym, ap, ◌∙◌, subst, append_assoc, arith}
use Rattle.std.proofs.lemmas.Bool.{cases_lt}
use Rattle.std.proofs.lemmas.List.{append-nil, length-drop, take-append-drop, take-append-le}
use Rattle.xdf_model.specs.Sample.{Sample}
use Rattle.chunk_grammar.specs.declared.chunk.Chunk.{Chunk}
use Rattle.chunk_grammar.specs.Chunk.{Context, context_after, IsChunkText, AreChunkTexts, IsFileText, magic, least_chunk_text, least_chunk_texts, least_file_text}
use Rattle.chunk_grammar.specs.Standing.{Standing, whole, torn, bad, standing_at, context_after_all}
use Rattle.chunk_laws.proofs.LeastChunks.{chunk_least}
use Rattle.chunk_laws.proofs.MoreBytes.{at_more}
use Rattle.chunk_laws.proofs.Places.{at_torn}
use Rattle.file_model.specs.Cut.{IsEndOrTorn}
use Rattle.file_laws.proofs.Cuts.{take_within}
use Rattle.file_laws.proofs.Fronts.{at_empty, end_not_whole}
use Rattle.recording_model.specs.declared.stream.StreamDoc.{StreamDoc}
use Rattle.recording_model.specs.Batch.{Batch}
use Rattle.recording_model.specs.Recording.{IsRecording}
use Rattle.loss_model.specs.Loss.{entries_at, AreOf}
use Rattle.loss_model.specs.Partial.{BeginsRecording, BeginsMagic, IsPartialRecording}
use Rattle.loss_laws.proofs.Prefixes.{front_is_prefix}

-- ---- a rest that is cut

-- what begins a torn rest is torn
front_torn : (ctx : Context) (front more : List ℕ) → standing_at ctx (front ++ more) ≡ torn → standing_at ctx front ≡ torn
front_torn ctx front more e = by_standing (standing_at ctx front) refl
  where
    by_standing : (s : Standing) → standing_at ctx front ≡ s → standing_at ctx front ≡ torn
    by_standing torn f = f
    by_standing (whole c used) f = absurd (let g = sym f ∙ sym (at_more ctx front more (λ h. let k = sym f ∙ h in cc)) ∙ e in cc)
    by_standing (bad place reason) f = absurd (let g = sym f ∙ sym (at_more ctx front more (λ h. let k = sym f ∙ h in cc)) ∙ e in cc)

rest_torn : (ctx : Context) (rest : List ℕ) → IsEndOrTorn ctx rest → standing_at ctx rest ≡ torn
rest_torn ctx rest ends = elim ends [ inl e ↦ ap (standing_at ctx) e ∙ at_empty ctx | inr e ↦ e ]

rest_cut : (ctx : Context) (rest : List ℕ) (n : ℕ) → IsEndOrTorn ctx rest → standing_at ctx (take n rest) ≡ torn
rest_cut ctx rest n ends = front_torn ctx (take n rest) (drop n rest) (ap (standing_at ctx) (take-append-drop n rest) ∙ rest_torn ctx rest ends)

-- ---- chunks that are cut

-- the bytes are the least texts of the first of the chunks, and nothing or a torn chunk behind them
record CutTo (ctx : Context) (cs : List Chunk) (b : List ℕ) : Type 0 where
  front : List Chunk
  more : List Chunk
  all : cs ≡ front ++ more
  texts : AreChunkTexts ctx front (least_chunk_texts ctx front)
  rest : List ℕ
  parts : b ≡ least_chunk_texts ctx front ++ rest
  ends : IsEndOrTorn (context_after_all ctx front) rest

cut_behind : (ctx : Context) (c : Chunk) (cs : List Chunk) (b more : List ℕ) → IsChunkText ctx c (least_chunk_text ctx c) → b ≡ least_chunk_text ctx c ++ more
    → CutTo (context_after ctx c) cs more → CutTo ctx (c ∷ cs) b
cut_behind ctx c cs b more text e k =
    let x = least_chunk_text ctx c in
    let y = least_chunk_texts (context_after ctx c) k.front in
    record {
      front = c ∷ k.front;
      more = k.more;
      all = ap (λ (t : List Chunk). c ∷ t) k.all;
      texts = (x, y, text, k.texts, refl);
      rest = k.rest;
      parts = e ∙ ap (λ (t : List ℕ). x ++ t) k.parts ∙ sym (append_assoc x y k.rest);
      ends = k.ends;
    }

cut_within : (ctx : Context) (c : Chunk) (cs : List Chunk) (y : List ℕ) (n : ℕ) → IsChunkText ctx c (least_chunk_text ctx c) → n < length (least_chunk_text ctx c)
    → CutTo ctx (c ∷ cs) (take n (least_chunk_text ctx c ++ y))
cut_within ctx c cs y n text short =
    let x = least_chunk_text ctx c in
    let here : take n (x ++ y) ≡ take n x = take-append-le n x y (omega arith) in
    let whole_text : IsChunkText ctx c (take n x ++ drop n x) = subst (IsChunkText ctx c) (sym (take-append-drop n x)) text in
    record {
      front = [];
      more = c ∷ cs;
      all = refl;
      texts = refl;
      rest = take n (x ++ y);
      parts = refl;
      ends = inr (ap (standing_at ctx) here ∙ at_torn ctx c (take n x) (drop n x) whole_text (omega (arith, length-drop n x)));
    }

cut_chunks : (ctx : Context) (cs : List Chunk) (text rest : List ℕ) (n : ℕ) → AreChunkTexts ctx cs text → IsEndOrTorn (context_after_all ctx cs) rest
    → CutTo ctx cs (take n (least_chunk_texts ctx cs ++ rest))
cut_chunks ctx [] text rest n are ends = record { front = []; more = []; all = refl; texts = refl; rest = take n rest; parts = refl; ends = inr (rest_cut ctx rest n ends) }
cut_chunks ctx (c ∷ cs) text rest n are ends =
    let x = least_chunk_text ctx c in
    let y = least_chunk_texts (context_after ctx c) cs in
    let own : IsChunkText ctx c x = (chunk_least ctx c are.0 are.2).0 in
    subst (λ (t : List ℕ). CutTo ctx (c ∷ cs) (take n t)) (sym (append_assoc x y rest)) (elim (cases_lt n (length x)) [
      | inl short ↦ cut_within ctx c cs (y ++ rest) n own short
      | inr long ↦ cut_behind ctx c cs (take n (x ++ (y ++ rest))) (take (n - length x) (y ++ rest)) own (take_within n x (y ++ rest) long)
          (cut_chunks (context_after ctx c) cs are.1 rest (n - length x) are.3 ends)
    ])

-- ---- recordings that are cut

-- fewer chunks begin it too
begins_front : (streams : List StreamDoc) (lists : List (List Sample)) (cs front more : List Chunk) → cs ≡ front ++ more → BeginsRecording streams lists cs → BeginsRecording streams lists front
begins_front streams lists cs front more e b =
    let begins : b.chunks ≡ front ++ (more ++ b.more) = b.begins ∙ ap (λ (t : List Chunk). t ++ b.more) e ∙ append_assoc front more b.more in
    record {
      batches = b.batches;
      chunks = b.chunks;
      recording = b.recording;
      more = more ++ b.more;
      begins = begins;
      entries = b.entries;
      each = λ place stream samples is given.
          let of = b.entries place samples given in
          front_is_prefix streams b.batches b.chunks front (more ++ b.more) place stream samples b.recording begins is of.0 of.1;
    }

magic_front : (n : ℕ) (b : List ℕ) → BeginsMagic b → BeginsMagic (take n b)
magic_front n b k = (drop n b ++ k.0, k.1 ∙ ap (λ (t : List ℕ). t ++ k.0) (sym (take-append-drop n b)) ∙ append_assoc (take n b) (drop n b) k.0)

-- the chunks of a recording that has begun, and behind them nothing or a torn chunk, cut anywhere
cut_partial : (streams : List StreamDoc) (lists : List (List Sample)) (cs : List Chunk) (text rest b : List ℕ) (n : ℕ) → AreChunkTexts [] cs text → IsEndOrTorn (context_after_all [] cs) rest
    → BeginsRecording streams lists cs → b ≡ least_file_text cs ++ rest → IsPartialRecording streams lists (take n b)
cut_partial streams lists cs text rest b n are ends begins e =
    let y = least_chunk_texts [] cs in
    let all : b ≡ magic ++ (y ++ rest) = e ∙ append_assoc magic y rest in
    elim (cases_lt n 4) [
      | inl short ↦
          let here : take n b ≡ take n magic = ap (take n) all ∙ take-append-le n magic (y ++ rest) (let four : n ≤ 4 = omega arith in four) in
          inl (subst BeginsMagic (sym here) (drop n magic, sym (take-append-drop n magic)))
      | inr long ↦
          let k = cut_chunks [] cs text rest (n - 4) are ends in
          let z = least_chunk_texts [] k.front in
          let parts : take n b ≡ (magic ++ z) ++ k.rest =
          ap (take n) all ∙ take_within n magic (y ++ rest) long ∙ ap (λ (t : List ℕ). magic ++ t) k.parts ∙ sym (append_assoc magic z k.rest) in
          inr (record {
            cs = k.front;
            rest = k.rest;
            front = record { text = z; chunks = k.texts; whole = parts; ends = end_not_whole (context_after_all [] k.front) k.rest k.ends };
            least = parts;
            ends = k.ends;
            begins = begins_front streams lists cs k.front k.more k.all begins;
          })
    ]

pub recording_begun : (streams : List StreamDoc) (batches : List Batch) (chunks some more : List Chunk) (lists : List (List Sample)) (n : ℕ) → IsRecording streams batches chunks → chunks ≡ some ++ more
    → IsFileText some (least_file_text some)
    → ((place : ℕ) (samples : List Sample) → slice_get lists place ≡ Some samples → AreOf samples (entries_at place batches) × (length samples < 2 ^ 62))
    → IsPartialRecording streams lists (take n (least_file_text some))
recording_begun streams batches chunks some more lists n r begins file of =
    cut_partial streams lists some file.0 [] (least_file_text some) n file.1 (inl refl)
    (record {
      batches = batches;
      chunks = chunks;
      recording = r;
      more = more;
      begins = begins;
      entries = of;
      each = λ place stream samples is given. let k = of place samples given in front_is_prefix streams batches chunks some more place stream samples r begins is k.0 k.1;
    }) (sym (append-nil (least_file_text some)))

pub partial_cut : (streams : List StreamDoc) (lists : List (List Sample)) (b : List ℕ) (n : ℕ) → IsPartialRecording streams lists b → IsPartialRecording streams lists (take n b)
partial_cut streams lists b n (inl k) = inl (magic_front n b k)
partial_cut streams lists b n (inr k) = cut_partial streams lists k.cs k.front.text k.rest b n k.front.chunks k.ends k.begins k.least
