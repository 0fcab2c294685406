-- Entries of a place are divided into longest groups in only one way.
use Rattle.std.proofs.Common.{◌≡◌, ◌≢◌, ℕ, ◌+◌, ◌<◌, ◌≤◌, ◌⊎◌, List, [], ◌∷◌, ◌++◌, length, drop, inl, inr, refl, sym, ap, ◌∙◌, subst, arith, length-append}
use Rattle.std.specs.Prelude.{⊤}
use Rattle.std.specs.List.{flat_map}
use Rattle.std.proofs.lemmas.List.{append_cancel_left}
use Rattle.xdf_model.specs.declared.types.Shape.{Shape}
use Rattle.xdf_model.specs.Sample.{Sample, least_sample_text}
use Rattle.recording_model.specs.Batch.{Entry, Group, entries_from, entries_in, texts_of, group_limit, IsWithin, EndsBefore, AreLongest}

abbrev entry : ℕ → Sample → Entry
entry n s = record { position = n; sample = s }

-- how many bytes the texts of some samples have
abbrev size : Shape → List Sample → ℕ
size shape ss = length (texts_of shape ss)

size_more : (shape : Shape) (s : Sample) (ss : List Sample) → size shape (s ∷ ss) ≡ length (least_sample_text shape s) + size shape ss
size_more shape s ss = length-append (least_sample_text shape s) (texts_of shape ss)

-- ---- the samples of a group behind some that it shares with another

-- behind texts of t bytes, these have room
abbrev HasRoom : Shape → ℕ → List Sample → Type 0
HasRoom shape t ss = (ss ≡ []) ⊎ (t + size shape ss ≤ group_limit)

-- behind texts of t bytes and before position n, the first entry of the next group doesn't join these
abbrev Stops : Shape → ℕ → ℕ → List Sample → List Group → Type 0
Stops shape n t ss [] = ⊤
Stops shape n t ss (g ∷ gs) = (g.first ≢ n + length ss) ⊎ (group_limit < (t + size shape ss) + length (least_sample_text shape g.sample))

room_after : (shape : Shape) (t : ℕ) (s : Sample) (ss : List Sample) → HasRoom shape t (s ∷ ss) → t + size shape (s ∷ ss) ≤ group_limit
room_after shape t s ss room = elim room [
  | inl none ↦ absurd (cc)
  | inr fits ↦ fits
]

room_step : (shape : Shape) (t : ℕ) (s : Sample) (ss : List Sample) → HasRoom shape t (s ∷ ss) → HasRoom shape (t + length (least_sample_text shape s)) ss
room_step shape t s ss room =
    let fits = room_after shape t s ss room in
    let more = size_more shape s ss in
    inr (omega (arith, fits, more))

stops_step : (shape : Shape) (n t : ℕ) (s : Sample) (ss : List Sample) (gs : List Group) → Stops shape n t (s ∷ ss) gs → Stops shape (n + 1) (t + length (least_sample_text shape s)) ss gs
stops_step shape n t s ss [] stops = tt
stops_step shape n t s ss (g ∷ gs) stops =
    let more = size_more shape s ss in
    elim stops [
      | inl apart ↦ inl (λ (e : g.first ≡ (n + 1) + length ss). apart (omega (arith, e)))
      | inr full ↦ inr (omega (arith, full, more))
    ]

-- a group doesn't end where another goes on
goes_on : (shape : Shape) (n t : ℕ) (s : Sample) (ss : List Sample) (gs : List Group) (es : List Entry) → flat_map entries_in gs ≡ entry n s ∷ es → HasRoom shape t (s ∷ ss) → Stops shape n t [] gs → ⊥
goes_on shape n t s ss [] es same room stops = absurd (cc)
goes_on shape n t s ss (g ∷ gs) es same room stops =
    let front : entry g.first g.sample ≡ entry n s = cc in
    let here : g.first ≡ n = ap (λ (e : Entry). e.position) front in
    let text : length (least_sample_text shape g.sample) ≡ length (least_sample_text shape s) = ap (λ (e : Entry). length (least_sample_text shape e.sample)) front in
    let fits = room_after shape t s ss room in
    let more = size_more shape s ss in
    elim stops [
      | inl apart ↦ apart (omega (arith, here))
      | inr full ↦ omega (arith, full, fits, more, text)
    ]

same_more : (shape : Shape) (n t : ℕ) (xs ys : List Sample) (gs hs : List Group) → entries_from n xs ++ flat_map entries_in gs ≡ entries_from n ys ++ flat_map entries_in hs
    → HasRoom shape t xs → HasRoom shape t ys → Stops shape n t xs gs → Stops shape n t ys hs → xs ≡ ys
same_more shape n t [] [] gs hs same a b c d = refl
same_more shape n t [] (y ∷ ys) gs hs same a b c d = absurd (goes_on shape n t y ys gs (entries_from (n + 1) ys ++ flat_map entries_in hs) same b c)
same_more shape n t (x ∷ xs) [] gs hs same a b c d = absurd (goes_on shape n t x xs hs (entries_from (n + 1) xs ++ flat_map entries_in gs) (sym same) a d)
same_more shape n t (x ∷ xs) (y ∷ ys) gs hs same a b c d =
    let front : entry n x ≡ entry n y = cc in
    let s : x ≡ y = ap (λ (e : Entry). e.sample) front in
    let text : length (least_sample_text shape y) ≡ length (least_sample_text shape x) = ap (λ (z : Sample). length (least_sample_text shape z)) (sym s) in
    let T = t + length (least_sample_text shape x) in
    let more : xs ≡ ys =
    same_more shape (n + 1) T xs ys gs hs (ap (drop 1) same) (room_step shape t x xs a)
    (subst (λ (k : ℕ). HasRoom shape (t + k) ys) text (room_step shape t y ys b)) (stops_step shape n t x xs gs c)
    (subst (λ (k : ℕ). Stops shape (n + 1) (t + k) ys hs) text (stops_step shape n t y ys hs d)) in
    ap (λ (z : Sample). z ∷ xs) s ∙ ap (λ (zs : List Sample). y ∷ zs) more

-- ---- whole groups

within : (shape : Shape) (g : Group) → IsWithin shape g → HasRoom shape (length (least_sample_text shape g.sample)) g.more
within shape g is =
    let more = size_more shape g.sample g.more in
    elim is [
      | inl one ↦ inl one
      | inr fits ↦ inr (omega (arith, fits, more))
    ]

ends : (shape : Shape) (g : Group) (gs : List Group) → EndsBefore shape g gs → Stops shape (g.first + 1) (length (least_sample_text shape g.sample)) g.more gs
ends shape g [] is = tt
ends shape g (h ∷ gs) is =
    let more = size_more shape g.sample g.more in
    elim is [
      | inl apart ↦ inl (λ (e : h.first ≡ (g.first + 1) + length g.more). apart (omega (arith, e)))
      | inr full ↦ inr (omega (arith, full, more))
    ]

abbrev group : ℕ → ℕ → Sample → List Sample → Group
group place first sample more = record { place = place; first = first; sample = sample; more = more }

pub same_groups : (shape : Shape) (place : ℕ) (gs hs : List Group) → flat_map entries_in gs ≡ flat_map entries_in hs → AreLongest shape place gs → AreLongest shape place hs → gs ≡ hs
same_groups shape place [] [] same a b = refl
same_groups shape place [] (h ∷ hs) same a b = absurd (cc)
same_groups shape place (g ∷ gs) [] same a b = absurd (cc)
same_groups shape place (g ∷ gs) (h ∷ hs) same a b =
    let front : entry g.first g.sample ≡ entry h.first h.sample = cc in
    let first : g.first ≡ h.first = ap (λ (e : Entry). e.position) front in
    let sample : g.sample ≡ h.sample = ap (λ (e : Entry). e.sample) front in
    let t = length (least_sample_text shape g.sample) in
    let text : length (least_sample_text shape h.sample) ≡ t = ap (λ (z : Sample). length (least_sample_text shape z)) (sym sample) in
    let behind : entries_from (g.first + 1) g.more ++ flat_map entries_in gs ≡ entries_from (h.first + 1) h.more ++ flat_map entries_in hs = ap (drop 1) same in
    let back : entries_from (h.first + 1) h.more ++ flat_map entries_in hs ≡ entries_from (g.first + 1) h.more ++ flat_map entries_in hs =
    ap (λ (n : ℕ). entries_from (n + 1) h.more ++ flat_map entries_in hs) (sym first) in
    let more : g.more ≡ h.more =
    same_more shape (g.first + 1) t g.more h.more gs hs (behind ∙ back) (within shape g a.1) (subst (λ (k : ℕ). HasRoom shape k h.more) text (within shape h b.1))
    (ends shape g gs a.2) (subst (λ (n : ℕ). Stops shape (n + 1) t h.more hs) (sym first) (subst (λ (k : ℕ). Stops shape (h.first + 1) k h.more hs) text (ends shape h hs b.2))) in
    let rest : flat_map entries_in gs ≡ flat_map entries_in hs =
    append_cancel_left (entries_from (g.first + 1) g.more) (flat_map entries_in gs) (flat_map entries_in hs)
    (behind ∙ back ∙ ap (λ (zs : List Sample). entries_from (g.first + 1) zs ++ flat_map entries_in hs) (sym more)) in
    let one : g ≡ h =
    ap (λ (p : ℕ). group p g.first g.sample g.more) (a.0 ∙ sym b.0)
    ∙ ap (λ (n : ℕ). group h.place n g.sample g.more) first
    ∙ ap (λ (z : Sample). group h.place h.first z g.more) sample
    ∙ ap (group h.place h.first h.sample) more in
    ap (λ (d : Group). d ∷ gs) one ∙ ap (λ (ds : List Group). h ∷ ds) (same_groups shape place gs hs rest a.3 b.3)
