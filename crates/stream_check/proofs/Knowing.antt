-- What is kept of a file, one chunk more.
use Rattle.std.proofs.Common.{◌≡◌, ℕ, ◌+◌, ◌||◌, ◌==◌, Bool, true, false, List, [], ◌∷◌, ◌++◌, length, map, Option, Some, None, is_some, refl, sym, ap, ◌∙◌, arith, if◌then◌else◌}
use Rattle.std.specs.List.{list_any}
use Rattle.std.proofs.lemmas.List.{append-nil}
use Rattle.xdf_model.specs.declared.types.Shape.{Shape}
use Rattle.xdf_model.specs.Sample.{Sample}
use Rattle.chunk_grammar.specs.declared.chunk.Chunk.{Chunk}
use Rattle.chunk_grammar.specs.Chunk.{Context, shape_of, context_after}
use Rattle.recording_model.specs.declared.row.Row.{Row}
use Rattle.recording_model.specs.Ledger.{stream_samples}
use Rattle.file_model.specs.Reader.{ChunkAt}
use Rattle.report_model.specs.GoodRows.{has_ledger, is_ledger_header, good_rows, rows_after, lost_among}
use Rattle.report_model.specs.Notes.{chunks_in, is_file_header, headers_in, header_of, footer_of, or_else, first_footer, sample_count}
use Rattle.stream_check.specs.Kept.{end_among}
use Rattle.stream_check.specs.Survey.{kept_by, kept_of, context_of, IsFresh}
use Rattle.stream_check.proofs.Grown.{any_push, chunks_more, context_more, count_more, footer_more, rows_more, headers_more}
use Rattle.stream_check.proofs.RowsKept.{eq_sym}

-- what is kept, by equal parts
pub same_parts : (h : ℕ × ℕ) (n m : ℕ) (good rows : List Row) (f g : Option (ℕ × List ℕ)) → n ≡ m → good ≡ rows → f ≡ g → kept_by n good f h ≡ kept_by m rows g h
same_parts h n m good rows f g p q r = ap (λ (x : ℕ). kept_by x good f h) p ∙ ap (λ (x : List Row). kept_by m x f h) q ∙ ap (λ (x : Option (ℕ × List ℕ)). kept_by m rows x h) r

pub map_same : {X Y : Type 0} (f g : X → Y) (xs : List X) → ((x : X) → f x ≡ g x) → map f xs ≡ map g xs
map_same f g [] same = refl
map_same f g (x ∷ xs) same = ap (λ (y : _). y ∷ map f xs) (same x) ∙ ap (λ (l : List _). g x ∷ l) (map_same f g xs same)

pub map_both : {X Y Z : Type 0} (f : Y → Z) (g : X → Y) (xs : List X) → map f (map g xs) ≡ map (λ x. f (g x)) xs
map_both f g [] = refl
map_both f g (x ∷ xs) = ap (λ (l : List _). f (g x) ∷ l) (map_both f g xs)

-- ---- which streams are declared

by_ids : (x : ℕ) (hs : List (ℕ × ℕ)) → list_any (λ h. x == h.1) hs ≡ list_any (λ i. x == i) (map (λ h. h.1) hs)
by_ids x [] = refl
by_ids x (h ∷ hs) = ap (λ (b : Bool). x == h.1 || b) (by_ids x hs)

some_of : (b : Bool) (shape : Shape) (o : Option Shape) → (b || is_some o) ≡ is_some (if b then Some shape else o)
some_of true shape o = refl
some_of false shape o = refl

by_context : (x : ℕ) (ctx : Context) → list_any (λ i. x == i) (map (λ c. c.0) ctx) ≡ is_some (shape_of ctx x)
by_context x [] = refl
by_context x (c ∷ ctx) =
    ap (λ (b : Bool). x == c.0 || b) (by_context x ctx)
    ∙ ap (λ (b : Bool). b || is_some (shape_of ctx x)) (eq_sym x c.0)
    ∙ some_of (c.0 == x) c.1 (shape_of ctx x)

pub ids_declare : (x : ℕ) (hs : List (ℕ × ℕ)) (ctx : Context) → map (λ h. h.1) hs ≡ map (λ c. c.0) ctx → list_any (λ h. x == h.1) hs ≡ is_some (shape_of ctx x)
ids_declare x hs ctx same = by_ids x hs ∙ ap (list_any (λ i. x == i)) same ∙ by_context x ctx

-- ---- one chunk more

-- a chunk that adds nothing to any stream
pub record IsIdle (c : Chunk) : Type 0 where
  pub samples : (id : ℕ) → stream_samples id (c ∷ []) ≡ []
  pub rows : (before : List Chunk) (good : List Row) → rows_after before good c ≡ good
  pub footer : (id at : ℕ) → footer_of id at c ≡ None

pub none_behind : {A : Type 0} (o : Option A) → or_else o None ≡ o
none_behind None = refl
none_behind (Some x) = refl

no_header : (at : ℕ) (c : Chunk) → header_of at c ≡ None → headers_in ((at, c) ∷ []) ≡ []
no_header at c none = rw none refl

module _ (items : List ChunkAt) (at : ℕ) (c : Chunk) where
  idle_count : IsIdle c → (id : ℕ) → sample_count id (items ++ (at, c) ∷ []) ≡ sample_count id items
  idle_count idle id = count_more id items (at, c) ∙ ap (λ (l : List Sample). sample_count id items + length l) (idle.samples id) ∙ omega arith

  idle_rows : IsIdle c → good_rows (chunks_in (items ++ (at, c) ∷ [])) ≡ good_rows (chunks_in items)
  idle_rows idle = rows_more items (at, c) ∙ idle.rows (chunks_in items) (good_rows (chunks_in items))

  idle_footer : IsIdle c → (id : ℕ) → first_footer id (items ++ (at, c) ∷ []) ≡ first_footer id items
  idle_footer idle id = footer_more id items (at, c) ∙ ap (or_else (first_footer id items)) (idle.footer id at) ∙ none_behind (first_footer id items)

  pub idle_kept : IsIdle c → (h : ℕ × ℕ) → kept_of (items ++ (at, c) ∷ []) h ≡ kept_of items h
  idle_kept idle h = same_parts h _ _ _ _ _ _ (idle_count idle h.1) (idle_rows idle) (idle_footer idle h.1)

  pub idle_fresh : IsIdle c → (id : ℕ) → IsFresh id items → IsFresh id (items ++ (at, c) ∷ [])
  idle_fresh idle id fresh = record {
    samples = idle_count idle id ∙ fresh.samples;
    lost = ap (lost_among id) (idle_rows idle) ∙ fresh.lost;
    end = ap (end_among id) (idle_rows idle) ∙ fresh.end;
    footer = idle_footer idle id ∙ fresh.footer;
  }

  pub begun_more : list_any is_file_header (chunks_in (items ++ (at, c) ∷ [])) ≡ (list_any is_file_header (chunks_in items) || is_file_header c)
  begun_more = ap (list_any is_file_header) (chunks_more items (at, c)) ∙ any_push is_file_header (chunks_in items) c

  pub ledger_more : has_ledger (chunks_in (items ++ (at, c) ∷ [])) ≡ (has_ledger (chunks_in items) || is_ledger_header c)
  ledger_more = ap has_ledger (chunks_more items (at, c)) ∙ any_push is_ledger_header (chunks_in items) c

  -- a chunk that is no stream header leaves the headers and the context
  pub headers_same : header_of at c ≡ None → headers_in (items ++ (at, c) ∷ []) ≡ headers_in items
  headers_same none = headers_more items (at, c) ∙ ap (λ (l : List (ℕ × ℕ)). headers_in items ++ l) (no_header at c none) ∙ append-nil (headers_in items)

  pub ids_same : header_of at c ≡ None → ((ctx : Context) → context_after ctx c ≡ ctx) → map (λ h. h.1) (headers_in items) ≡ map (λ c. c.0) (context_of items)
      → map (λ h. h.1) (headers_in (items ++ (at, c) ∷ [])) ≡ map (λ c. c.0) (context_of (items ++ (at, c) ∷ []))
  ids_same none leaves ids =
      ap (map (λ (h : ℕ × ℕ). h.1)) (headers_same none) ∙ ids ∙ ap (map (λ (s : ℕ × Shape). s.0)) (sym (context_more items (at, c) ∙ leaves (context_of items)))
