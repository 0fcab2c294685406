-- How many channels a header document may tell.
use Rattle.std.proofs.Common.{◌≡◌, ℕ, zero, suc, ◌≤◌, ◌&&◌, Bool, true, false, List, [], ◌∷◌, length, drop, Option, Some, None, Result, Ok, nat_lt, nat_eq, if◌then◌else◌, refl, ap, subst, arith}
use Rattle.std.specs.Prelude.{codes, slice_get}
use Rattle.std.specs.List.{starts_with}
use Rattle.std.specs.Str.Parse.{digits_value}
use Rattle.std.proofs.lemmas.Bool.{ltb-true}
use Rattle.xdf_model.specs.declared.types.NoShape.{NoShape}
use Rattle.xdf_model.specs.declared.types.NoShape.TheVariants.{NoCount, BadCount, NoFormat, BadFormat}
use Rattle.xdf_model.specs.declared.types.Shape.{Shape}
use Rattle.xdf_model.specs.declared.types.Format.{Format}
use Rattle.xdf_model.specs.Reading.{◌>>=◌}
use Rattle.xdf_model_laws.proofs.Readers.{bind_ok}
use Rattle.xdf_model.specs.Shape.{behind_first, count_in, digits_front, format_among, all_formats, or_else, shape_in}
use Rattle.recording_model.specs.declared.stream.StreamDoc.{StreamDoc}
use Rattle.recording_model.specs.Recording.{AreStreams}

or_ok : {A : Type 0} (why : NoShape) (o : Option A) (a : A) → or_else why o ≡ Ok a → o ≡ Some a
or_ok why None a e = absurd cc
or_ok why (Some x) a e = let same : x ≡ a = cc in ap Some same

second_of : (a b : Bool) → (a && b) ≡ true → b ≡ true
second_of true b e = e
second_of false b e = absurd cc

if_some : (b : Bool) (n m : ℕ) → (if b then Some n else None) ≡ Some m → (b ≡ true) × (n ≡ m)
if_some true n m e = (refl, cc)
if_some false n m e = absurd cc

small : (b : List ℕ) (n : ℕ) → count_in b ≡ Some n → n ≤ 4096
small b n e =
    let digits = digits_front b in
    let value = digits_value 10 digits in
    let front = nat_lt 0 (length digits) && nat_lt (length digits) 6 && starts_with nat_eq (drop (length digits) b) (codes "</channel_count>") && nat_lt 0 value in
    let i = if_some (nat_lt 0 (length digits) && nat_lt (length digits) 6 && starts_with nat_eq (drop (length digits) b) (codes "</channel_count>") && nat_lt 0 value && nat_lt value 4097) value n e in
    let last = second_of front (nat_lt value 4097) i.0 in
    omega (arith, ltb-true value 4097 last, i.1)

pub count_small : (doc : List ℕ) (shape : Shape) → shape_in doc ≡ Ok shape → shape.count ≤ 4096
unfolding shape_in
count_small doc shape e =
    let F : ℕ → Format → Result Shape NoShape = λ count format. Ok (record { count = count; format = format }) in
    let H : ℕ → List ℕ → Result Shape NoShape = λ count at_format. or_else BadFormat (format_among all_formats at_format) >>= F count in
    let G : ℕ → Result Shape NoShape = λ count. or_else NoFormat (behind_first (codes "<channel_format>") doc) >>= H count in
    let first = bind_ok (or_else NoCount (behind_first (codes "<channel_count>") doc)) (λ at_count. or_else BadCount (count_in at_count) >>= G) shape e in
    let count = bind_ok (or_else BadCount (count_in first.0)) G shape first.2 in
    let third = bind_ok (or_else NoFormat (behind_first (codes "<channel_format>") doc)) (H count.0) shape count.2 in
    let fourth = bind_ok (or_else BadFormat (format_among all_formats third.0)) (F count.0) shape third.2 in
    let same : count.0 ≡ shape.count = let is = fourth.2 in cc in
    omega (arith, small first.0 count.0 (or_ok BadCount (count_in first.0) count.0 count.1), same)

pub stream_small : (streams : List StreamDoc) → AreStreams streams → (p : ℕ) (s : StreamDoc) → slice_get streams p ≡ Some s → s.shape.count ≤ 4096
stream_small [] are p s e = absurd cc
stream_small (t ∷ more) are zero s e = let same : t ≡ s = cc in subst (λ (x : StreamDoc). x.shape.count ≤ 4096) same (count_small t.doc t.shape are.0.shape)
stream_small (t ∷ more) are (suc p) s e = stream_small more are.2 p s e
