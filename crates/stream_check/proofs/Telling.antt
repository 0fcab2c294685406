-- Lines that are said one after the other.
use Rattle.std.proofs.Common.{◌≡◌, ℕ, ◌+◌, ◌≤◌, ◌<◌, Bool, true, false, List, [], ◌∷◌, ◌++◌, length, map, take, drop, get_or, Option, refl, sym, ap, ◌∙◌, subst, append_assoc, arith, if◌then◌else◌}
use Rattle.std.proofs.lemmas.List.{map-append, length-append, take_more, take-append-drop, append-nil}
use Rattle.std.proofs.lemmas.Grind.{flat_map-append}
use Rattle.std.specs.Io.KnownBytes.{Appends}
use Rattle.std.proofs.KnownBytes.{Appends-nil, Appends-trans}
use Rattle.rec_base.specs.Known.{AppendsFront}
use Rattle.stream_report.specs.declared.fault.SayFault.{SayFault}
use Rattle.stream_report.specs.declared.fault.SayFault.TheVariants.{Print, Memory}
use Rattle.stream_report.proofs.Said.{front_behind, front_longer, rose_later}
use Rattle.stream_report.proofs.Showing.{printed_both}
use Rattle.report_model.specs.declared.note.Note.{Note}
use Rattle.report_model.specs.Check.{note_line}
use Rattle.report_model.specs.Notes.{Table, notes_in}
use Rattle.report_model.specs.Shown.{printed_lines}
use Rattle.stream_check.specs.declared.kept.Kept.{Kept}
use Rattle.stream_check.specs.Telling.{Fails, kept_table, kept_notes}

-- some lines and then others were said
pub both_said : (a b c : Option (List ℕ)) (xs ys : List (List ℕ)) → Appends a b (printed_lines xs) → Appends b c (printed_lines ys) → Appends a c (printed_lines (xs ++ ys))
both_said a b c xs ys first second = subst (λ (t : List ℕ). Appends a c t) (sym (printed_both xs ys)) (Appends-trans a b c _ _ first second)

parts_of : (xs said rest zs : List (List ℕ)) → xs ++ ((said ++ rest) ++ zs) ≡ (xs ++ said) ++ (rest ++ zs)
parts_of xs said rest zs = ap (λ (l : List (List ℕ)). xs ++ l) (append_assoc said rest zs) ∙ sym (append_assoc xs said (rest ++ zs))

printed_three : (xs ys zs : List (List ℕ)) → (printed_lines xs ++ printed_lines ys) ++ printed_lines zs ≡ printed_lines (xs ++ (ys ++ zs))
printed_three xs ys zs =
    append_assoc (printed_lines xs) (printed_lines ys) (printed_lines zs)
    ∙ ap (λ (t : List ℕ). printed_lines xs ++ t) (sym (printed_both ys zs))
    ∙ sym (printed_both xs (ys ++ zs))

-- a call failed behind some lines, with others to come
pub within : (e : SayFault) (a b c : Option (List ℕ)) (m n o : ℕ) (xs ys zs : List (List ℕ)) → Appends a b (printed_lines xs) → m ≤ n → Fails e b c n o ys → Fails e a c m o (xs ++ (ys ++ zs))
within Print a b c m n o xs ys zs first le f =
    (subst (λ (t : List ℕ). AppendsFront a c t) (printed_three xs ys zs) (front_longer a c _ (printed_lines zs) (front_behind a b c _ _ first f.0)), rose_later m n o le f.1)
within Memory a b c m n o xs ys zs first le f =
    (xs ++ f.0, f.1 ++ zs, ap (λ (l : List (List ℕ)). xs ++ (l ++ zs)) f.2 ∙ parts_of xs f.0 f.1 zs, both_said a b c xs f.0 first f.3)

-- ---- tables

noted_cond : (b : Bool) (x : Note) (l m : List Note) → (if b then x ∷ (l ++ m) else (l ++ m)) ≡ (if b then x ∷ l else l) ++ m
noted_cond true x l m = refl
noted_cond false x l m = refl

pub notes_both : (s t : Table) → notes_in (s ++ t) ≡ notes_in s ++ notes_in t
notes_both [] t = refl
notes_both (row ∷ s) t = ap (λ (l : List Note). if row.0 then row.1 ∷ l else l) (notes_both s t) ∙ noted_cond row.0 row.1 (notes_in s) (notes_in t)

-- the notes of a list of things, one thing more
module _ {X : Type 0} (all : List X → List Note) (one : X → List Note) (both : (s t : List X) → all (s ++ t) ≡ all s ++ all t) (single : (x : X) → all (x ∷ []) ≡ one x)
    (t : List X) (i : ℕ) (x d : X) (lt : i < length t) (is : x ≡ get_or t i d) where
  next_is : take (i + 1) t ≡ take i t ++ x ∷ []
  next_is = take_more t i d lt ∙ ap (λ (r : X). take i t ++ r ∷ []) (sym is)

  notes_next : all (take (i + 1) t) ≡ all (take i t) ++ one x
  notes_next = ap all next_is ∙ both (take i t) (x ∷ []) ∙ ap (λ (l : List Note). all (take i t) ++ l) (single x)

  lines_next : map note_line (all (take i t)) ++ map note_line (one x) ≡ map note_line (all (take (i + 1) t))
  lines_next = sym (map-append note_line (all (take i t)) (one x)) ∙ ap (map note_line) (sym notes_next)

  pub things_said : (a b c : Option (List ℕ)) → Appends a b (printed_lines (map note_line (all (take i t)))) → Appends b c (printed_lines (map note_line (one x))) → Appends a c (printed_lines (map note_line (all (take (i + 1) t))))
  things_said a b c first second = subst (λ (l : List (List ℕ)). Appends a c (printed_lines l)) lines_next (both_said a b c _ _ first second)

  pub things_counted : (count n : ℕ) → count ≡ length (all (take i t)) → n ≡ length (one x) → count + n ≡ length (all (take (i + 1) t))
  things_counted count n so_far last = omega (arith, so_far, last, ap length notes_next, length-append (all (take i t)) (one x))

  lines_whole : map note_line (all (take i t)) ++ (map note_line (one x) ++ map note_line (all (drop (i + 1) t))) ≡ map note_line (all t)
  lines_whole =
      sym (append_assoc (map note_line (all (take i t))) (map note_line (one x)) (map note_line (all (drop (i + 1) t))))
      ∙ ap (λ (l : List (List ℕ)). l ++ map note_line (all (drop (i + 1) t))) lines_next
      ∙ sym (map-append note_line (all (take (i + 1) t)) (all (drop (i + 1) t)))
      ∙ ap (map note_line) (sym (both (take (i + 1) t) (drop (i + 1) t)))
      ∙ ap (λ (l : List X). map note_line (all l)) (take-append-drop (i + 1) t)

  pub things_fail : (e : SayFault) (a b c : Option (List ℕ)) (m n o : ℕ) → Appends a b (printed_lines (map note_line (all (take i t)))) → m ≤ n → Fails e b c n o (map note_line (one x)) → Fails e a c m o (map note_line (all t))
  things_fail e a b c m n o first le f =
      subst (Fails e a c m o) lines_whole (within e a b c m n o _ _ (map note_line (all (drop (i + 1) t))) first le f)

single_row : (row : Bool × Note) → notes_in (row ∷ []) ≡ notes_in (row ∷ [])
single_row row = refl

-- a table, one row more
module _ (t : Table) (i : ℕ) (row d : Bool × Note) (lt : i < length t) (is : row ≡ get_or t i d) where
  pub rows_said : (a b c : Option (List ℕ)) → Appends a b (printed_lines (map note_line (notes_in (take i t)))) → Appends b c (printed_lines (map note_line (notes_in (row ∷ [])))) → Appends a c (printed_lines (map note_line (notes_in (take (i + 1) t))))
  rows_said = things_said notes_in (λ r. notes_in (r ∷ [])) notes_both single_row t i row d lt is

  pub rows_counted : (count n : ℕ) → count ≡ length (notes_in (take i t)) → n ≡ length (notes_in (row ∷ [])) → count + n ≡ length (notes_in (take (i + 1) t))
  rows_counted = things_counted notes_in (λ r. notes_in (r ∷ [])) notes_both single_row t i row d lt is

  pub rows_fail : (e : SayFault) (a b c : Option (List ℕ)) (m n o : ℕ) → Appends a b (printed_lines (map note_line (notes_in (take i t)))) → m ≤ n → Fails e b c n o (map note_line (notes_in (row ∷ []))) → Fails e a c m o (map note_line (notes_in t))
  rows_fail = things_fail notes_in (λ r. notes_in (r ∷ [])) notes_both single_row t i row d lt is

-- the streams, one stream more
module _ (ledger : Bool) (ks : List Kept) (i : ℕ) (k d : Kept) (lt : i < length ks) (is : k ≡ get_or ks i d) where
  kept_both : (s t : List Kept) → kept_notes ledger (s ++ t) ≡ kept_notes ledger s ++ kept_notes ledger t
  kept_both s t = flat_map-append (λ (k : Kept). notes_in (kept_table ledger k)) s t

  kept_single : (k : Kept) → kept_notes ledger (k ∷ []) ≡ notes_in (kept_table ledger k)
  kept_single k = append-nil (notes_in (kept_table ledger k))

  pub streams_said : (a b c : Option (List ℕ)) → Appends a b (printed_lines (map note_line (kept_notes ledger (take i ks)))) → Appends b c (printed_lines (map note_line (notes_in (kept_table ledger k)))) → Appends a c (printed_lines (map note_line (kept_notes ledger (take (i + 1) ks))))
  streams_said = things_said (kept_notes ledger) (λ k. notes_in (kept_table ledger k)) kept_both kept_single ks i k d lt is

  pub streams_counted : (count n : ℕ) → count ≡ length (kept_notes ledger (take i ks)) → n ≡ length (notes_in (kept_table ledger k)) → count + n ≡ length (kept_notes ledger (take (i + 1) ks))
  streams_counted = things_counted (kept_notes ledger) (λ k. notes_in (kept_table ledger k)) kept_both kept_single ks i k d lt is

  pub streams_fail : (e : SayFault) (a b c : Option (List ℕ)) (m n o : ℕ) → Appends a b (printed_lines (map note_line (kept_notes ledger (take i ks)))) → m ≤ n → Fails e b c n o (map note_line (notes_in (kept_table ledger k))) → Fails e a c m o (map note_line (kept_notes ledger ks))
  streams_fail = things_fail (kept_notes ledger) (λ k. notes_in (kept_table ledger k)) kept_both kept_single ks i k d lt is

-- ---- the lines behind the notes of the chunks: of the end, of the streams, and the last one

module _ (xs ys : List Note) (zs : List (List ℕ)) (a b c d : Option (List ℕ)) (m n o p : ℕ) where
  parts : map note_line xs ++ (map note_line ys ++ zs) ≡ map note_line (xs ++ ys) ++ zs
  parts = sym (append_assoc (map note_line xs) (map note_line ys) zs) ∙ ap (λ (l : List (List ℕ)). l ++ zs) (sym (map-append note_line xs ys))

  pub last_said : Appends a b (printed_lines (map note_line xs)) → Appends b c (printed_lines (map note_line ys)) → Appends c d (printed_lines zs) → Appends a d (printed_lines (map note_line (xs ++ ys) ++ zs))
  last_said x y z = subst (λ (l : List (List ℕ)). Appends a d (printed_lines l)) parts (both_said a b d _ _ x (both_said b c d _ _ y z))

  pub first_fails : (e : SayFault) → Fails e a b m n (map note_line xs) → Fails e a b m n (map note_line (xs ++ ys) ++ zs)
  first_fails e f = subst (Fails e a b m n) parts (within e a a b m m n [] (map note_line xs) (map note_line ys ++ zs) (Appends-nil a) (omega arith) f)

  pub second_fails : (e : SayFault) → Appends a b (printed_lines (map note_line xs)) → m ≤ n → Fails e b c n o (map note_line ys) → Fails e a c m o (map note_line (xs ++ ys) ++ zs)
  second_fails e x le f = subst (Fails e a c m o) parts (within e a b c m n o (map note_line xs) (map note_line ys) zs x le f)

  pub third_fails : (e : SayFault) → Appends a b (printed_lines (map note_line xs)) → m ≤ n → Appends b c (printed_lines (map note_line ys)) → n ≤ o → Fails e c d o p zs → Fails e a d m p (map note_line (xs ++ ys) ++ zs)
  third_fails e x le y le2 f =
      let so_far = both_said a b c (map note_line xs) (map note_line ys) x y in
      subst (Fails e a d m p) (ap (λ (l : List (List ℕ)). (map note_line xs ++ map note_line ys) ++ l) (append-nil zs) ∙ ap (λ (l : List (List ℕ)). l ++ zs) (sym (map-append note_line xs ys)))
      (within e a c d m o p (map note_line xs ++ map note_line ys) zs [] so_far (omega arith) f)
