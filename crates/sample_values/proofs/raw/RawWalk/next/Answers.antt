use Rattle.std.proofs.Common.{◌≡◌, ℕ, suc, ◌-◌, ◌∷◌, sym, ap, ◌∙◌, subst, arith}
use Rattle.xdf_model.specs.Sample.{Sample, samples_at}
use Rattle.sample_values.specs.Raw.{listed, IsAll}
use Rattle.sample_values.proofs.Cuts.{first_all, first_some, none_left}
use Rattle.sample_values.proofs.raw.RawWalk.next.Goals as goal

pub unreachable-requires : goal.unreachable-requires
unreachable-requires c =
    let k : c.self.inside.left ≡ suc (c.self.inside.left - 1) = omega arith in
    first_some c.self.inside.shape (c.self.inside.left - 1) c.self.inside.rest.now _ c.in_default.ensures (subst (λ (n : ℕ). IsAll (samples_at c.self.inside.shape n c.self.inside.rest.now)) k c.self.invariant)

pub invariant_of-self : goal.invariant_of-self
invariant_of-self c =
    let k : c.self.inside.left ≡ suc (c.self.inside.left - 1) = omega arith in
    (first_all c.self.inside.shape (c.self.inside.left - 1) c.self.inside.rest.now _ _ c.in-Ok.ensures (subst (λ (n : ℕ). IsAll (samples_at c.self.inside.shape n c.self.inside.rest.now)) k c.self.invariant)).0

pub returns-clause-gives : goal.returns-clause-gives
returns-clause-gives c =
    let k : c.self.inside.left ≡ suc (c.self.inside.left - 1) = omega arith in
    sym c.self.view_is ∙ ap (λ (n : ℕ). listed (samples_at c.self.inside.shape n c.self.inside.rest.now)) k
    ∙ (first_all c.self.inside.shape (c.self.inside.left - 1) c.self.inside.rest.now _ _ c.in-Ok.ensures (subst (λ (n : ℕ). IsAll (samples_at c.self.inside.shape n c.self.inside.rest.now)) k c.self.invariant)).1
    ∙ ap (λ (s : Sample). s ∷ listed (samples_at c.self.inside.shape (c.self.inside.left - 1) c.in-Ok.rest.now)) (sym c.raw.ensures)

pub returns-then-self-eq0-clause-end : goal.returns-then-self-eq0-clause-end
returns-then-self-eq0-clause-end c = λ none. sym c.self.view_is ∙ none_left c.self.inside.shape c.self.inside.left c.self.inside.rest.now c.if-self-eq0.true
