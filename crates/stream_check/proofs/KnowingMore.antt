-- What is kept of a file, behind a chunk of each kind.
use Rattle.std.proofs.Common.{◌≡◌, ℕ, ◌+◌, ◌&&◌, ◌||◌, ◌==◌, Bool, true, false, List, [], ◌∷◌, ◌++◌, length, map, Option, Some, None, Ok, is_some, nat_eq, refl, sym, ap, ◌∙◌, arith, inl, inr, if◌then◌else◌}
use Rattle.std.specs.List.{list_any}
use Rattle.std.specs.Option.{option_map}
use Rattle.std.proofs.lemmas.Bool.{cases_Bool, eqb-true, true≢false}
use Rattle.std.proofs.lemmas.List.{map_push, append-nil}
use Rattle.xdf_model.specs.declared.types.Shape.{Shape}
use Rattle.xdf_model.specs.Shape.{shape_in}
use Rattle.xdf_model.specs.Sample.{Sample}
use Rattle.chunk_grammar.specs.declared.chunk.Chunk.{Chunk}
use Rattle.chunk_grammar.specs.declared.chunk.Chunk.TheVariants.{FileHeader, StreamHeader, Samples, ClockOffset, Boundary, StreamFooter, Other}
use Rattle.chunk_grammar.specs.Chunk.{Context, shape_of, with_shape, context_after}
use Rattle.recording_model.specs.declared.row.Row.{Row}
use Rattle.file_model.specs.Reader.{ChunkAt}
use Rattle.report_model.specs.GoodRows.{has_ledger, is_ledger_header, good_rows, rows_behind, has_bad_row, lost_among}
use Rattle.report_model.specs.Notes.{chunks_in, is_file_header, is_footer_of, headers_in, header_of, or_else, first_footer, sample_count}
use Rattle.stream_check.specs.declared.kept.Kept.{Kept}
use Rattle.stream_check.specs.declared.survey.Survey.{Survey}
use Rattle.stream_check.specs.Kept.{stilled, end_among, begun_at, counted, closed, kept_rows, bad_rows}
use Rattle.stream_check.specs.Survey.{footer_view, kept_by, kept_of, context_of, IsFresh, Knows}
use Rattle.stream_check.proofs.Grown.{context_more, count_more, footer_more, rows_more, headers_more}
use Rattle.stream_check.proofs.RowsKept.{stilled_more, stilled_again, any_among, Declares, kept_all, bad_all, same_behind}
use Rattle.stream_check.proofs.Knowing.{IsIdle, same_parts, map_same, map_both, ids_declare, idle_kept, idle_fresh, begun_more, ledger_more, headers_same, ids_same, none_behind}

or_true : (b : Bool) → (b || true) ≡ true
or_true true = refl
or_true false = refl

or_false : (b : Bool) → (b || false) ≡ b
or_false true = refl
or_false false = refl

-- an id that isn't declared isn't the one that is
not_declared : (ctx : Context) (id other : ℕ) (shape : Shape) → shape_of ctx id ≡ Some shape → shape_of ctx other ≡ None → nat_eq id other ≡ false
not_declared ctx id other shape some none = elim (cases_Bool (nat_eq id other)) [
  | inl t ↦ absurd (true≢false (sym (ap is_some (sym (ap (shape_of ctx) (eqb-true id other t)) ∙ some)) ∙ ap is_some none))
  | inr f ↦ f
]

-- ---- a chunk that is no stream header

module _ (items : List ChunkAt) (at : ℕ) (c : Chunk) (s t : Survey) (k : Knows items s) (none : header_of at c ≡ None) (leaves : (ctx : Context) → context_after ctx c ≡ ctx) where
  undeclared : (id : ℕ) → shape_of (context_of (items ++ (at, c) ∷ [])) id ≡ None → shape_of (context_of items) id ≡ None
  undeclared id h = ap (λ (ctx : Context). shape_of ctx id) (sym (context_more items (at, c) ∙ leaves (context_of items))) ∙ h

  pub knows_by : t.streams.items ≡ map (kept_of (items ++ (at, c) ∷ [])) (headers_in items) → t.begun ≡ (s.begun || is_file_header c) → t.ledger ≡ (s.ledger || is_ledger_header c)
      → ((id : ℕ) → shape_of (context_of items) id ≡ None → IsFresh id (items ++ (at, c) ∷ [])) → Knows (items ++ (at, c) ∷ []) t
  knows_by streams begun ledger fresh = record {
    streams = streams ∙ ap (map (kept_of (items ++ (at, c) ∷ []))) (sym (headers_same items at c none));
    begun = begun ∙ ap (λ (b : Bool). b || is_file_header c) k.begun ∙ sym (begun_more items at c);
    ledger = ledger ∙ ap (λ (b : Bool). b || is_ledger_header c) k.ledger ∙ sym (ledger_more items at c);
    ids = ids_same items at c none leaves k.ids;
    fresh = λ id h. fresh id (undeclared id h);
  }

  pub knows_idle : IsIdle c → t.streams.items ≡ s.streams.items → t.begun ≡ (s.begun || is_file_header c) → t.ledger ≡ (s.ledger || is_ledger_header c) → Knows (items ++ (at, c) ∷ []) t
  knows_idle idle streams begun ledger =
      knows_by
      (streams ∙ k.streams ∙ map_same (kept_of items) (kept_of (items ++ (at, c) ∷ [])) (headers_in items) (λ h. sym (idle_kept items at c idle h)))
      begun ledger (λ id h. idle_fresh items at c idle id (k.fresh id h))

pub knows_file : (items : List ChunkAt) (at : ℕ) (doc : List ℕ) (s t : Survey) → Knows items s → t.streams.items ≡ s.streams.items → t.begun ≡ true → t.ledger ≡ s.ledger → Knows (items ++ (at, FileHeader doc) ∷ []) t
knows_file items at doc s t k streams begun ledger =
    knows_idle items at (FileHeader doc) s t k refl (λ ctx. refl) (record { samples = λ id. refl; rows = λ before good. refl; footer = λ id at. refl }) streams (begun ∙ sym (or_true s.begun)) (ledger ∙ sym (or_false s.ledger))

-- ---- a stream header

begun_kept : (items : List ChunkAt) (at id : ℕ) → IsFresh id items → kept_of items (at, id) ≡ begun_at at id
begun_kept items at id fresh =
    ap (λ (n : ℕ). record { id = id; at = at; samples = stilled n; lost = stilled (lost_among id (good_rows (chunks_in items))); end = end_among id (good_rows (chunks_in items)); footer = option_map footer_view (first_footer id items) }) fresh.samples
    ∙ ap (λ (n : ℕ). record { id = id; at = at; samples = 0; lost = stilled n; end = end_among id (good_rows (chunks_in items)); footer = option_map footer_view (first_footer id items) }) fresh.lost
    ∙ ap (λ (n : ℕ). record { id = id; at = at; samples = 0; lost = 0; end = n; footer = option_map footer_view (first_footer id items) }) fresh.end
    ∙ ap (λ (f : Option (ℕ × List ℕ)). record { id = id; at = at; samples = 0; lost = 0; end = 0; footer = option_map footer_view f }) fresh.footer

by_head : (shape : Shape) (b : Bool) (o p : Option Shape) → (if b then Some shape else o) ≡ None → (o ≡ None → p ≡ None) → (if b then Some shape else p) ≡ None
by_head shape true o p h rest = h
by_head shape false o p h rest = rest h

none_before : (ctx more : Context) (id : ℕ) → shape_of (ctx ++ more) id ≡ None → shape_of ctx id ≡ None
none_before [] more id h = refl
none_before (c ∷ ctx) more id h = by_head c.1 (c.0 == id) (shape_of (ctx ++ more) id) (shape_of ctx id) h (λ q. none_before ctx more id q)

module _ (items : List ChunkAt) (at id : ℕ) (doc : List ℕ) (s t : Survey) (k : Knows items s) (shape : Shape) (none : shape_of (context_of items) id ≡ None) (has : shape_in doc ≡ Ok shape) where
  idle : IsIdle (StreamHeader id doc)
  idle = record { samples = λ id. refl; rows = λ before good. refl; footer = λ id at. refl }

  context_is : context_of (items ++ (at, StreamHeader id doc) ∷ []) ≡ context_of items ++ (id, shape) ∷ []
  context_is = context_more items (at, StreamHeader id doc) ∙ ap (with_shape (context_of items) id) has

  headers_are : headers_in (items ++ (at, StreamHeader id doc) ∷ []) ≡ headers_in items ++ (at, id) ∷ []
  headers_are = headers_more items (at, StreamHeader id doc)

  pub knows_header : t.streams.items ≡ s.streams.items ++ begun_at at id ∷ [] → t.begun ≡ s.begun → t.ledger ≡ (s.ledger || is_ledger_header (StreamHeader id doc)) → Knows (items ++ (at, StreamHeader id doc) ∷ []) t
  knows_header streams begun ledger =
      let c = StreamHeader id doc in
      let new = items ++ (at, c) ∷ [] in
      let old : map (kept_of new) (headers_in items) ≡ s.streams.items = map_same (kept_of new) (kept_of items) (headers_in items) (λ h. idle_kept items at c idle h) ∙ sym k.streams in
      let last : kept_of new (at, id) ≡ begun_at at id = idle_kept items at c idle (at, id) ∙ begun_kept items at id (k.fresh id none) in
      record {
        streams =
            streams ∙ ap (λ (l : List Kept). l ++ begun_at at id ∷ []) (sym old) ∙ ap (λ (x : Kept). map (kept_of new) (headers_in items) ++ x ∷ []) (sym last)
            ∙ sym (map_push (kept_of new) (headers_in items) (at, id)) ∙ ap (map (kept_of new)) (sym headers_are);
        begun = begun ∙ k.begun ∙ sym (or_false (list_any is_file_header (chunks_in items))) ∙ sym (begun_more items at c);
        ledger = ledger ∙ ap (λ (b : Bool). b || is_ledger_header c) k.ledger ∙ sym (ledger_more items at c);
        ids =
            ap (map (λ (h : ℕ × ℕ). h.1)) headers_are ∙ map_push (λ (h : ℕ × ℕ). h.1) (headers_in items) (at, id) ∙ ap (λ (l : List ℕ). l ++ id ∷ []) k.ids
            ∙ sym (map_push (λ (p : ℕ × Shape). p.0) (context_of items) (id, shape)) ∙ ap (map (λ (p : ℕ × Shape). p.0)) (sym context_is);
        fresh = λ other h. idle_fresh items at c idle other (k.fresh other (none_before (context_of items) ((id, shape) ∷ []) other (ap (λ (ctx : Context). shape_of ctx other) (sym context_is) ∙ h)));
      }

-- ---- samples

-- the good rows behind samples, by whether they are a ledger's
abbrev pub rows_if : Bool → Context → List Row → List Sample → List Row
rows_if b ctx good ss = if b then rows_behind ctx good ss else good

kept_if : (b : Bool) (n : ℕ → ℕ) (f : ℕ → Option (ℕ × List ℕ)) (ctx : Context) (hs : List (ℕ × ℕ)) (good : List Row) (ss : List Sample) → Declares ctx hs
    → (if b then kept_rows ss (map (λ h. kept_by (n h.1) good (f h.1) h) hs) else map (λ h. kept_by (n h.1) good (f h.1) h) hs) ≡ map (λ h. kept_by (n h.1) (rows_if b ctx good ss) (f h.1) h) hs
kept_if true n f ctx hs good ss declares = kept_all n f ctx hs declares good ss
kept_if false n f ctx hs good ss declares = refl

counted_by : (id n : ℕ) (more : List Sample) (good : List Row) (f : Option (ℕ × List ℕ)) (h : ℕ × ℕ) (b : Bool) → nat_eq id h.1 ≡ b
    → counted id (length more) (kept_by n good f h) ≡ kept_by (n + length ((if b then more else []) ++ [])) good f h
counted_by id n more good f h true e =
    rw e (ap (λ (m : ℕ). record { id = h.1; at = h.0; samples = m; lost = stilled (lost_among h.1 good); end = end_among h.1 good; footer = option_map footer_view f })
    (stilled_more n (length more) ∙ ap (λ (l : List Sample). stilled (n + length l)) (sym (append-nil more))))
counted_by id n more good f h false e =
    rw e (ap (λ (m : ℕ). record { id = h.1; at = h.0; samples = m; lost = stilled (lost_among h.1 good); end = end_among h.1 good; footer = option_map footer_view f }) (sym (stilled_again n)))

same_rows : (b : Bool) (id : ℕ) (ctx : Context) (good : List Row) (ss : List Sample) → shape_of ctx id ≡ None → (lost_among id (rows_if b ctx good ss) ≡ lost_among id good) × (end_among id (rows_if b ctx good ss) ≡ end_among id good)
same_rows true id ctx good ss none = same_behind id ctx good ss none
same_rows false id ctx good ss none = (refl, refl)

module _ (items : List ChunkAt) (at id : ℕ) (ss : List Sample) (s t : Survey) (k : Knows items s) (shape : Shape) (some : shape_of (context_of items) id ≡ Some shape) where
  declares : Declares (context_of items) (headers_in items)
  declares x = ids_declare x (headers_in items) (context_of items) k.ids

  footers_same : (x : ℕ) → first_footer x (items ++ (at, Samples id ss) ∷ []) ≡ first_footer x items
  footers_same x = footer_more x items (at, Samples id ss) ∙ none_behind (first_footer x items)

  samples_fresh : (x : ℕ) → shape_of (context_of items) x ≡ None → IsFresh x (items ++ (at, Samples id ss) ∷ [])
  samples_fresh x none =
      let fresh = k.fresh x none in
      let other = not_declared (context_of items) id x shape some none in
      let same = same_rows (has_ledger (chunks_in items) && id == 0) x (context_of items) (good_rows (chunks_in items)) ss none in
      record {
        samples =
            count_more x items (at, Samples id ss) ∙ ap (λ (b : Bool). sample_count x items + length ((if b then ss else []) ++ [])) other ∙ ap (λ (n : ℕ). n + 0) fresh.samples;
        lost = ap (lost_among x) (rows_more items (at, Samples id ss)) ∙ same.0 ∙ fresh.lost;
        end = ap (end_among x) (rows_more items (at, Samples id ss)) ∙ same.1 ∙ fresh.end;
        footer = footers_same x ∙ fresh.footer;
      }

  one_counted : (h : ℕ × ℕ) → counted id (length ss) (kept_by (sample_count h.1 items) (rows_if (has_ledger (chunks_in items) && id == 0) (context_of items) (good_rows (chunks_in items)) ss) (first_footer h.1 items) h)
      ≡ kept_of (items ++ (at, Samples id ss) ∷ []) h
  one_counted h =
      counted_by id (sample_count h.1 items) ss _ (first_footer h.1 items) h (id == h.1) refl
      ∙ same_parts h _ _ _ _ _ _ (sym (count_more h.1 items (at, Samples id ss))) (sym (rows_more items (at, Samples id ss))) (sym (footers_same h.1))

  pub knows_samples : t.streams.items ≡ map (counted id (length ss)) (if s.ledger && id == 0 then kept_rows ss s.streams.items else s.streams.items) → t.begun ≡ s.begun → t.ledger ≡ s.ledger → Knows (items ++ (at, Samples id ss) ∷ []) t
  knows_samples streams begun ledger =
      let b : Bool = has_ledger (chunks_in items) && id == 0 in
      let hs = headers_in items in
      knows_by items at (Samples id ss) s t k refl (λ ctx. refl)
      (streams
      ∙ ap (λ (l : Bool). map (counted id (length ss)) (if l && id == 0 then kept_rows ss s.streams.items else s.streams.items)) k.ledger
      ∙ ap (λ (l : List Kept). map (counted id (length ss)) (if has_ledger (chunks_in items) && id == 0 then kept_rows ss l else l)) k.streams
      ∙ ap (map (counted id (length ss))) (kept_if (has_ledger (chunks_in items) && id == 0) (λ x. sample_count x items) (λ x. first_footer x items) (context_of items) hs (good_rows (chunks_in items)) ss declares)
      ∙ map_both (counted id (length ss)) _ hs
      ∙ map_same _ (kept_of (items ++ (at, Samples id ss) ∷ [])) hs one_counted)
      (begun ∙ sym (or_false s.begun)) (ledger ∙ sym (or_false s.ledger)) samples_fresh

  pub bad_is : (s.ledger && id == 0 && bad_rows ss s.streams.items) ≡ (has_ledger (chunks_in items) && id == 0 && has_bad_row (context_of items) (good_rows (chunks_in items)) ss)
  bad_is =
      ap (λ (l : Bool). l && id == 0 && bad_rows ss s.streams.items) k.ledger
      ∙ ap (λ (l : List Kept). has_ledger (chunks_in items) && id == 0 && bad_rows ss l) k.streams
      ∙ ap (λ (b : Bool). has_ledger (chunks_in items) && id == 0 && b) (bad_all (λ x. sample_count x items) (λ x. first_footer x items) (context_of items) (headers_in items) declares (good_rows (chunks_in items)) ss)

-- ---- a footer

closed_by : (id at n : ℕ) (doc : List ℕ) (good : List Row) (f : Option (ℕ × List ℕ)) (h : ℕ × ℕ) (b : Bool) → nat_eq id h.1 ≡ b
    → closed id (footer_view (at, doc)) (kept_by n good f h) ≡ kept_by n good (or_else f (if b then Some (at, doc) else None)) h
closed_by id at n doc good None h true e = rw e refl
closed_by id at n doc good None h false e = rw e refl
closed_by id at n doc good (Some f) h true e = rw e refl
closed_by id at n doc good (Some f) h false e = rw e refl

some_mapped : {A B : Type 0} (g : A → B) (o : Option A) → is_some (option_map g o) ≡ is_some o
some_mapped g None = refl
some_mapped g (Some x) = refl

some_front : (b : Bool) (x : ℕ × List ℕ) (o : Option (ℕ × List ℕ)) → is_some (or_else (if b then Some x else None) o) ≡ (b || is_some o)
some_front true x o = refl
some_front false x o = refl

-- a first footer is there where a footer is
footer_there : (id : ℕ) (items : List ChunkAt) → is_some (first_footer id items) ≡ list_any (is_footer_of id) (chunks_in items)
footer_there id [] = refl
footer_there id ((at, StreamFooter stream doc) ∷ items) = some_front (stream == id) (at, doc) (first_footer id items) ∙ ap (λ (b : Bool). stream == id || b) (footer_there id items)
footer_there id ((at, FileHeader doc) ∷ items) = footer_there id items
footer_there id ((at, StreamHeader stream doc) ∷ items) = footer_there id items
footer_there id ((at, Samples stream ss) ∷ items) = footer_there id items
footer_there id ((at, ClockOffset stream time offset) ∷ items) = footer_there id items
footer_there id ((at, Boundary) ∷ items) = footer_there id items
footer_there id ((at, Other tag body) ∷ items) = footer_there id items

closed_kept : (id : ℕ) (items : List ChunkAt) (hs : List (ℕ × ℕ)) → list_any (λ kept. id == kept.id && is_some kept.footer) (map (kept_of items) hs) ≡ list_any (λ h. id == h.1 && is_some (first_footer h.1 items)) hs
closed_kept id items [] = refl
closed_kept id items (h ∷ hs) =
    ap (λ (b : Bool). (id == h.1 && b) || list_any (λ kept. id == kept.id && is_some kept.footer) (map (kept_of items) hs)) (some_mapped footer_view (first_footer h.1 items))
    ∙ ap (λ (b : Bool). (id == h.1 && is_some (first_footer h.1 items)) || b) (closed_kept id items hs)

module _ (items : List ChunkAt) (at id : ℕ) (doc : List ℕ) (s t : Survey) (k : Knows items s) (shape : Shape) (some : shape_of (context_of items) id ≡ Some shape) where
  count_same : (x : ℕ) → sample_count x (items ++ (at, StreamFooter id doc) ∷ []) ≡ sample_count x items
  count_same x = count_more x items (at, StreamFooter id doc) ∙ omega arith

  rows_same : good_rows (chunks_in (items ++ (at, StreamFooter id doc) ∷ [])) ≡ good_rows (chunks_in items)
  rows_same = rows_more items (at, StreamFooter id doc)

  footer_fresh : (x : ℕ) → shape_of (context_of items) x ≡ None → IsFresh x (items ++ (at, StreamFooter id doc) ∷ [])
  footer_fresh x none =
      let fresh = k.fresh x none in
      let other = not_declared (context_of items) id x shape some none in
      record {
        samples = count_same x ∙ fresh.samples;
        lost = ap (lost_among x) rows_same ∙ fresh.lost;
        end = ap (end_among x) rows_same ∙ fresh.end;
        footer = footer_more x items (at, StreamFooter id doc) ∙ ap (λ (b : Bool). or_else (first_footer x items) (if b then Some (at, doc) else None)) other ∙ none_behind (first_footer x items) ∙ fresh.footer;
      }

  one_closed : (h : ℕ × ℕ) → closed id (footer_view (at, doc)) (kept_of items h) ≡ kept_of (items ++ (at, StreamFooter id doc) ∷ []) h
  one_closed h =
      closed_by id at (sample_count h.1 items) doc (good_rows (chunks_in items)) (first_footer h.1 items) h (id == h.1) refl
      ∙ same_parts h _ _ _ _ _ _ (sym (count_same h.1)) (sym rows_same) (sym (footer_more h.1 items (at, StreamFooter id doc)))

  pub knows_footer : t.streams.items ≡ map (closed id (footer_view (at, doc))) s.streams.items → t.begun ≡ s.begun → t.ledger ≡ s.ledger → Knows (items ++ (at, StreamFooter id doc) ∷ []) t
  knows_footer streams begun ledger =
      knows_by items at (StreamFooter id doc) s t k refl (λ ctx. refl)
      (streams ∙ ap (map (closed id (footer_view (at, doc)))) k.streams ∙ map_both (closed id (footer_view (at, doc))) (kept_of items) (headers_in items) ∙ map_same _ (kept_of (items ++ (at, StreamFooter id doc) ∷ [])) (headers_in items) one_closed)
      (begun ∙ sym (or_false s.begun)) (ledger ∙ sym (or_false s.ledger)) footer_fresh

  pub closed_is : list_any (λ kept. id == kept.id && is_some kept.footer) s.streams.items ≡ list_any (is_footer_of id) (chunks_in items)
  closed_is =
      ap (list_any (λ kept. id == kept.id && is_some kept.footer)) k.streams
      ∙ closed_kept id items (headers_in items)
      ∙ any_among (λ x. is_some (first_footer x items)) id (headers_in items)
      ∙ ap (λ (b : Bool). b && is_some (first_footer id items)) (ids_declare id (headers_in items) (context_of items) k.ids ∙ ap is_some some)
      ∙ footer_there id items

-- a chunk that adds nothing and is none of the above
pub knows_other : (items : List ChunkAt) (at : ℕ) (c : Chunk) (s t : Survey) → Knows items s → IsIdle c → header_of at c ≡ None → ((ctx : Context) → context_after ctx c ≡ ctx) → is_file_header c ≡ false → is_ledger_header c ≡ false
    → t.streams.items ≡ s.streams.items → t.begun ≡ s.begun → t.ledger ≡ s.ledger → Knows (items ++ (at, c) ∷ []) t
knows_other items at c s t k idle none leaves not_file not_ledger streams begun ledger =
    knows_idle items at c s t k none leaves idle streams (begun ∙ sym (or_false s.begun) ∙ ap (λ (b : Bool). s.begun || b) (sym not_file)) (ledger ∙ sym (or_false s.ledger) ∙ ap (λ (b : Bool). s.ledger || b) (sym not_ledger))

pub knows_rest : (items : List ChunkAt) (at : ℕ) (c : Chunk) (s : Survey) → Knows items s → ((doc : List ℕ) → c ≡ FileHeader doc → ⊥) → ((id : ℕ) (doc : List ℕ) → c ≡ StreamHeader id doc → ⊥) → ((id : ℕ) (ss : List Sample) → c ≡ Samples id ss → ⊥)
    → ((id : ℕ) (doc : List ℕ) → c ≡ StreamFooter id doc → ⊥) → Knows (items ++ (at, c) ∷ []) s
knows_rest items at (FileHeader doc) s k file header samples footer = absurd (file doc refl)
knows_rest items at (StreamHeader id doc) s k file header samples footer = absurd (header id doc refl)
knows_rest items at (Samples id ss) s k file header samples footer = absurd (samples id ss refl)
knows_rest items at (StreamFooter id doc) s k file header samples footer = absurd (footer id doc refl)
knows_rest items at (ClockOffset id time offset) s k file header samples footer =
    knows_other items at (ClockOffset id time offset) s s k (record { samples = λ id. refl; rows = λ before good. refl; footer = λ id at. refl }) refl (λ ctx. refl) refl refl refl refl refl
knows_rest items at Boundary s k file header samples footer =
    knows_other items at Boundary s s k (record { samples = λ id. refl; rows = λ before good. refl; footer = λ id at. refl }) refl (λ ctx. refl) refl refl refl refl refl
knows_rest items at (Other tag body) s k file header samples footer =
    knows_other items at (Other tag body) s s k (record { samples = λ id. refl; rows = λ before good. refl; footer = λ id at. refl }) refl (λ ctx. refl) refl refl refl refl refl
