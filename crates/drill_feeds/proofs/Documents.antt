-- The documents have their shapes.
use Rattle.std.proofs.Common.{◌≡◌, ℕ, Bool, true, false, cond, ◌∷◌, [], length, ◌==◌, codes, Ok, refl}
use Rattle.xdf_model.specs.declared.types.Format.TheVariants.{Double64, Text, Int16}
use Rattle.xdf_model.specs.Shape.{shape_in}
use Rattle.drill_feeds.specs.Drill.{drill_document, drill_shape}

shape_for : (one two : Bool) → shape_in (cond one (codes "<info><channel_count>2</channel_count><channel_format>int16</channel_format></info>")
    (cond two (codes "<info><channel_count>1</channel_count><channel_format>double64</channel_format></info>") (codes "<info><channel_count>1</channel_count><channel_format>string</channel_format></info>")))
    ≡ Ok (record { count = length {A = ℕ} (cond one (0 ∷ 1 ∷ []) (0 ∷ [])); format = cond one Int16 (cond two Double64 Text) })
unfolding shape_in
shape_for true two = refl
shape_for false true = refl
shape_for false false = refl

pub has_shape : (id : ℕ) → shape_in (drill_document id) ≡ Ok (drill_shape id)
has_shape id = shape_for (id == 1) (id == 2)
