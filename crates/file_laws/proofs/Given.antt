-- What a reader gives of a whole file is the file's readings.
use Rattle.std.proofs.Common.{◌≡◌, ℕ, zero, suc, ◌+◌, ◌-◌, ◌<◌, ◌≤◌, Bool, true, false, cond, ltb, List, [], ◌∷◌, ◌++◌, length, take, drop, refl, sym, ap, ◌∙◌, append_assoc, arith, inl, inr, subst}
use Rattle.std.proofs.lemmas.Bool.{cases_lt, le-ltb, lt-ltb}
use Rattle.std.proofs.lemmas.List.{length-append, length-take, length-drop, take-append-drop}
use Rattle.reading_model.specs.Outlook.{How, ended, over, All}
use Rattle.reading_model.specs.Rules.{by_front, all_by}
use Rattle.xdf_model_laws.proofs.Bytes.{IsBytes, IsBytes-rest, IsBytes-take}
use Rattle.chunk_grammar.specs.declared.chunk.Chunk.{Chunk as ChunkValue}
use Rattle.chunk_grammar.specs.Chunk.{Context, context_after, IsChunkText, AreChunkTexts, magic}
use Rattle.chunk_grammar.specs.Standing.{Standing, whole, torn, bad, standing_at, IsWhole, context_after_all, IsFront}
use Rattle.chunk_laws.proofs.Places.{at_exact}
use Rattle.file_model.specs.declared.end.FileEnd.{FileEnd}
use Rattle.file_model.specs.declared.next.Next.{Next}
use Rattle.file_model.specs.declared.next.Next.TheVariants.{Chunk}
use Rattle.file_model.specs.Readings.{placed, last_reading, AreReadings}
use Rattle.file_model.specs.Reader.{FileState, ChunkAt, behind_chunk, by_standing, end_reading, file_end, file_rules, file_within, readings_of}
use Rattle.file_laws.proofs.Cuts.{take_within}
use Rattle.file_laws.proofs.Fronts.{text_takes}

-- the chunks at the front of some bytes, and an end behind them, as they are given where more bytes follow than count or not
record Gives (longer : Bool) (ctx : Context) (place : ℕ) (b : List ℕ) (all : All ChunkAt FileEnd) : Type 0 where
  pub cs : List ChunkValue
  pub text : List ℕ
  pub rest : List ℕ
  pub chunks : AreChunkTexts ctx cs text
  pub parts : b ≡ text ++ rest
  pub ends : IsWhole (standing_at (context_after_all ctx cs) rest) → ⊥
  pub same : readings_of all ≡ placed ctx cs text chunks place ++ last_reading longer (place + length text) rest (standing_at (context_after_all ctx cs) rest) ∷ []

abbrev state : Context → ℕ → FileState
state ctx place = record { context = ctx; place = place }

-- how the input goes on behind the bytes that count
abbrev going_on : Bool → How
going_on longer = cond longer over ended

torn_end : (longer : Bool) (ctx : Context) (place : ℕ) (b : List ℕ) → end_reading (file_end (state ctx place) b (going_on longer)) ≡ last_reading longer place b torn
torn_end true ctx place b = refl
torn_end false ctx place [] = refl
torn_end false ctx place (x ∷ b) = refl

-- no chunk stands at the front
none_given : (longer : Bool) (ctx : Context) (place : ℕ) (b : List ℕ) (e : FileEnd) (s : Standing) → standing_at ctx b ≡ s → (IsWhole s → ⊥) → end_reading e ≡ last_reading longer place b s → Gives longer ctx place b ([], e)
none_given longer ctx place b e s is none last =
    let here : place ≡ place + 0 = omega arith in
    record {
      cs = [];
      text = [];
      rest = b;
      chunks = refl;
      parts = refl;
      ends = λ w. none (subst IsWhole is w);
      same = ap (λ (x : Next). x ∷ []) (last ∙ ap (last_reading longer place b) (sym is) ∙ ap (λ (n : ℕ). last_reading longer n b (standing_at ctx b)) here);
    }

one_given : (longer : Bool) (ctx : Context) (place : ℕ) (b : List ℕ) (c : ChunkValue) (u : ℕ) (all : All ChunkAt FileEnd) → u ≤ length b → IsChunkText ctx c (take u b) → Gives longer (context_after ctx c) (place + u) (drop u b) all
    → Gives longer ctx place b ((place, c) ∷ all.0, all.1)
one_given longer ctx place b c u all le is k =
    let x : List ℕ = take u b in
    let size : length x ≡ u = omega (arith, length-take u b, le) in
    let behind : place + u ≡ place + length x = omega (arith, size) in
    let far : place + u + length k.text ≡ place + length (x ++ k.text) = omega (arith, size, length-append x k.text) in
    let after : Context = context_after ctx c in
    let end : ℕ → Next = λ n. last_reading longer n k.rest (standing_at (context_after_all after k.cs) k.rest) in
    record {
      cs = c ∷ k.cs;
      text = x ++ k.text;
      rest = k.rest;
      chunks = (x, k.text, is, k.chunks, refl);
      parts = sym (take-append-drop u b) ∙ ap (λ (t : List ℕ). x ++ t) k.parts ∙ sym (append_assoc x k.text k.rest);
      ends = k.ends;
      same = ap (λ (l : List Next). Chunk place c ∷ l) (k.same ∙ ap (λ (n : ℕ). placed after k.cs k.text k.chunks n ++ end (place + u + length k.text) ∷ []) behind
          ∙ ap (λ (n : ℕ). placed after k.cs k.text k.chunks (place + length x) ++ end n ∷ []) far);
    }

gives : (k : ℕ) (longer : Bool) (ctx : Context) (place : ℕ) (b : List ℕ) → IsBytes b → length b < k → Gives longer ctx place b (all_by k file_rules (going_on longer) (state ctx place) b)
unfolding all_by
gives zero longer ctx place b h lt = absurd (omega arith)
gives (suc k) longer ctx place b h lt =
    let how : How = going_on longer in
    let s : FileState = state ctx place in
    let go : (x : Standing) → standing_at ctx b ≡ x → Gives longer ctx place b (by_front file_rules (λ t rest. all_by k file_rules how t rest) how s b (by_standing s x)) =
    λ x. elim x as (λ v. standing_at ctx b ≡ v → Gives longer ctx place b (by_front file_rules (λ t rest. all_by k file_rules how t rest) how s b (by_standing s v))) [
      | whole c u ↦ λ e.
          let text = (at_exact ctx b c u h).0 e in
          let some = text_takes ctx c (take u b) text.1 in
          let fewer : length (drop u b) < k = omega (arith, some, length-take u b, length-drop u b) in
          let rest : IsBytes (drop u b) = IsBytes-rest (take u b) (drop u b) b h (sym (take-append-drop u b)) in
          one_given longer ctx place b c u (all_by k file_rules how (behind_chunk s c u) (drop u b)) text.0 text.1 (gives k longer (context_after ctx c) (place + u) (drop u b) rest fewer)
      | torn ↦ λ e. none_given longer ctx place b (file_end s b how) torn e (λ w. w) (torn_end longer ctx place b)
      | bad from_here reason ↦ λ e. none_given longer ctx place b _ (bad from_here reason) e (λ w. w) refl
    ] in go (standing_at ctx b) refl

more_than_counts : (limit : ℕ) (y : List ℕ) → 4 ≤ limit → ltb (limit - 4) (length y) ≡ ltb limit (length (magic ++ y))
more_than_counts limit y low =
    elim (cases_lt (limit - 4) (length y)) [
      | inl lt ↦ lt-ltb _ _ lt ∙ sym (lt-ltb limit (length (magic ++ y)) (omega (arith, length-append magic y)))
      | inr le ↦ le-ltb _ _ le ∙ sym (le-ltb limit (length (magic ++ y)) (omega (arith, length-append magic y)))
    ]

same_flag : (answers front : List Next) (last : Bool → Next) (f g : Bool) → f ≡ g → answers ≡ front ++ last f ∷ [] → answers ≡ front ++ last g ∷ []
same_flag answers front last f g e same = same ∙ ap (λ (b : Bool). front ++ last b ∷ []) e

pub given_readings : (limit : ℕ) (y : List ℕ) → IsBytes y → 4 ≤ limit → AreReadings (magic ++ y) limit (readings_of (file_within limit y))
given_readings limit y h low =
    let counted : List ℕ = take (limit - 4) y in
    let k = gives (suc (length counted)) (ltb (limit - 4) (length y)) [] 4 counted (IsBytes-take (limit - 4) y h) (omega arith) in
    let front : IsFront (take limit (magic ++ y)) k.cs k.rest = record {
      text = k.text;
      chunks = k.chunks;
      whole = take_within limit magic y low ∙ ap (λ (t : List ℕ). magic ++ t) k.parts ∙ sym (append_assoc magic k.text k.rest);
      ends = k.ends;
    } in
    record {
      cs = k.cs;
      rest = k.rest;
      front = front;
      all = same_flag (readings_of (file_within limit y)) (placed [] k.cs k.text k.chunks 4) (λ f. last_reading f (4 + length k.text) k.rest (standing_at (context_after_all [] k.cs) k.rest))
          (ltb (limit - 4) (length y)) (ltb limit (length (magic ++ y))) (more_than_counts limit y low) k.same;
    }
