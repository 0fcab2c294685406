use Rattle.std.proofs.Common.{◌≡◌, ℕ, sym, ap, ◌∙◌, subst}
use Rattle.xdf_model.specs.Reading.{many_at}
use Rattle.xdf_model.specs.Sample.{size_of, value_at}
use Rattle.sample_values.specs.Raw.{listed, IsAll}
use Rattle.sample_values.proofs.Numbers.{numbers_are}
use Rattle.sample_values.proofs.value.RawValues.numbers.Goals as goal

pub returns-then-size_of_format-size : goal.returns-then-size_of_format-size
returns-then-size_of_format-size c =
    let same : size_of c.self.inside.format ≡ c.args.size = sym c.size_of_format.ensures ∙ c.if-size_of_format-size.true in
    sym c.self.view_is ∙ ap (λ (s : ℕ). listed (many_at (value_at s) c.self.inside.left c.self.inside.rest.now)) same
    ∙ numbers_are c.args.size c.self.inside.left c.self.inside.rest.now c.requires (subst (λ (s : ℕ). IsAll (many_at (value_at s) c.self.inside.left c.self.inside.rest.now)) same c.self.invariant)
