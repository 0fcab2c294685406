use Rattle.std.proofs.Common.{List, ℕ, sym, ◌∙◌, subst}
use Rattle.std.specs.List.{AllByRecursion}
use Rattle.xdf_model.specs.Sample.{Value, FitsValue}
use Rattle.sample_values.proofs.TextLists.{texts_fit}
use Rattle.sample_values.proofs.texts.Texts.fit.Goals as goal

pub returns-then-size_of_format-eq0-clause-values : goal.returns-then-size_of_format-eq0-clause-values
returns-then-size_of_format-eq0-clause-values c = λ yes.
    subst (λ (n : ℕ). AllByRecursion (FitsValue n) c.args.self.now) (sym (sym c.size_of_format.ensures ∙ c.if-size_of_format-eq0.true))
    (subst (λ (l : List Value). AllByRecursion (FitsValue 0) l) c.self.view_is (texts_fit c.self.inside.count c.self.inside.bytes.items c.self.invariant))
