use Rattle.std.proofs.Common.{◌<◌, ℕ, List, length, subst, ◌∙◌, ap, Err}
use Rattle.rec_base.specs.Contents.{IsInput}
use Rattle.rec_base.proofs.Opened.{IsInput-longer}
use Rattle.rec_base.specs.declared.name.Name.TheVariants.{File}
use Rattle.dock_calls.proofs.input.read_input.Goals as goal

pub returns-in-Err-TooLong-clause-too_long : goal.returns-in-Err-TooLong-clause-too_long
returns-in-Err-TooLong-clause-too_long g c = λ _.
    let P : List ℕ → Type 0 = λ word. (text : List ℕ) × IsInput (g.D.Dock.contents c.args.dock.now) (File word) 0 text × (c.args.limit < length text) in
    subst P (c.in-Ok.ensures ∙ c.bytes.ensures.bytes) (IsInput-longer _ _ _ _ _ _ c.in-Ok-open.ensures.gives (c.in-Err-TooLong.ensures.too_long (ap Err c.in-Err-TooLong.field-0-is)))
