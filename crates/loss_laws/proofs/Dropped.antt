-- A ring that is empty again dropped just the positions that it didn't give.
use Rattle.std.proofs.Common.{◌≡◌, ℕ, ◌+◌, ◌<◌, ◌≤◌, ◌||◌, Bool, true, false, not, List, [], ◌∷◌, length, map, filter, inl, inr, refl, sym, ap, ◌∙◌, arith}
use Rattle.std.proofs.lemmas.Bool.{eq-eqb, ne_eqb, cases_eq}
use Rattle.xdf_model.specs.Sample.{Sample}
use Rattle.ring_model.specs.declared.entry.Entry.{Entry}
use Rattle.ring_model.specs.Ring.{RingState, IsReached}
use Rattle.recording_model.specs.declared.row.Row.{Row}
use Rattle.recording_model.specs.Batch.{Entry as Kept, entries_from}
use Rattle.loss_model.specs.Loss.{is_named, entries_without, positions_below, lost_positions}
use Rattle.loss_laws.proofs.Batches.{positions_of}
use Rattle.loss_laws.proofs.Rings.{among, filter_below, places_of, kept_reached, front_last}

-- the positions of the entries that a test passes
abbrev passed : (ℕ → Bool) → ℕ → List Sample → List ℕ
passed f n xs = positions_of (filter (λ (e : Kept). f e.position) (entries_from n xs))

passed_in : (f : ℕ → Bool) (n : ℕ) (x : Sample) (xs : List Sample) → f n ≡ true → passed f n (x ∷ xs) ≡ n ∷ passed f (n + 1) xs
passed_in f n x xs e = rw e refl

passed_out : (f : ℕ → Bool) (n : ℕ) (x : Sample) (xs : List Sample) → f n ≡ false → passed f n (x ∷ xs) ≡ passed f (n + 1) xs
passed_out f n x xs e = rw e refl

passed_low : (f : ℕ → Bool) (n : ℕ) (xs : List Sample) (q : ℕ) → q < n → among q (passed f n xs) ≡ false
passed_low f n [] q low = refl
passed_low f n (x ∷ xs) q low =
    let more = passed_low f (n + 1) xs q (omega arith) in
    elim (f n) as (λ b. f n ≡ b → among q (passed f n (x ∷ xs)) ≡ false) [
      | true ↦ λ e. ap (among q) (passed_in f n x xs e) ∙ ap (λ (b : Bool). b || among q (passed f (n + 1) xs)) (ne_eqb q n (λ h. omega arith)) ∙ more
      | false ↦ λ e. ap (among q) (passed_out f n x xs e) ∙ more
    ] refl

-- a position is among them exactly where it passes the test
passed_is : (f : ℕ → Bool) (n : ℕ) (xs : List Sample) (q : ℕ) → n ≤ q → q < n + length xs → among q (passed f n xs) ≡ f q
passed_is f n [] q low high = absurd (omega arith)
passed_is f n (x ∷ xs) q low high =
    let rest = passed f (n + 1) xs in
    elim (cases_eq q n) [
      | inl same ↦ elim (f n) as (λ b. f n ≡ b → among q (passed f n (x ∷ xs)) ≡ f q) [
        | true ↦ λ e. ap (among q) (passed_in f n x xs e) ∙ ap (λ (b : Bool). b || among q rest) (eq-eqb q n same) ∙ sym (ap f same ∙ e)
        | false ↦ λ e. ap (among q) (passed_out f n x xs e) ∙ passed_low f (n + 1) xs q (omega arith) ∙ sym (ap f same ∙ e)
      ] refl
      | inr differs ↦
          let more = passed_is f (n + 1) xs q (omega arith) (omega arith) in
          elim (f n) as (λ b. f n ≡ b → among q (passed f n (x ∷ xs)) ≡ f q) [
            | true ↦ λ e. ap (among q) (passed_in f n x xs e) ∙ ap (λ (b : Bool). b || among q rest) (ne_eqb q n differs) ∙ more
            | false ↦ λ e. ap (among q) (passed_out f n x xs e) ∙ more
          ] refl
    ]

-- an entry of a ring, as one of a recording
abbrev kept_entry : Entry Sample → Kept
kept_entry e = record { position = e.position; sample = e.value }

same_places : (es : List (Entry Sample)) → positions_of (map kept_entry es) ≡ places_of es
same_places [] = refl
same_places (e ∷ es) = ap (λ (ns : List ℕ). e.position ∷ ns) (same_places es)

twice : (b : Bool) → not (not b) ≡ b
twice true = refl
twice false = refl

pub dropped_is : (capacity : ℕ) (s : RingState Sample) (rows : List Row) (samples : List Sample) → IsReached capacity s → s.puts ≡ samples → s.queue ≡ []
    → map kept_entry s.taken ≡ entries_without rows samples → places_of s.dropped ≡ lost_positions rows (length samples)
dropped_is capacity s rows samples r puts none gave =
    let k = kept_reached capacity s r in
    let given : places_of s.taken ≡ passed (λ q. not (is_named rows q)) 0 samples = sym (same_places s.taken) ∙ ap positions_of gave in
    let end : k.front ≡ length samples = front_last s k none ∙ ap length puts in
    k.rest
    ∙ ap (λ (n : ℕ). filter (λ q. not (among q (places_of s.taken))) (positions_below n)) end
    ∙ filter_below (λ q. not (among q (places_of s.taken))) (is_named rows) (length samples)
    (λ p low. ap (λ (ns : List ℕ). not (among p ns)) given ∙ ap not (passed_is (λ q. not (is_named rows q)) 0 samples p (omega arith) (omega arith)) ∙ twice (is_named rows p))
