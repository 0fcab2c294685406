use Rattle.std.proofs.Common.{◌≡◌, ℕ, suc, ◌-◌, sym, ap, ◌∙◌, subst, arith}
use Rattle.xdf_model.specs.Reading.{many_at}
use Rattle.xdf_model.specs.Sample.{size_of, value_at}
use Rattle.sample_values.specs.Raw.{listed, IsAll}
use Rattle.sample_values.proofs.Cuts.{many_first, many_some, many_left}
use Rattle.sample_values.proofs.value.RawValues.next.Goals as goal

pub unreachable-requires : goal.unreachable-requires
unreachable-requires c =
    let read = value_at (size_of c.self.inside.format) in
    let k : c.self.inside.left ≡ suc (c.self.inside.left - 1) = omega arith in
    many_some read (c.self.inside.left - 1) c.self.inside.rest.now _ c.in_default.ensures (subst (λ (n : ℕ). IsAll (many_at read n c.self.inside.rest.now)) k c.self.invariant)

pub invariant_of-self : goal.invariant_of-self
invariant_of-self c =
    let read = value_at (size_of c.self.inside.format) in
    let k : c.self.inside.left ≡ suc (c.self.inside.left - 1) = omega arith in
    (many_first read (c.self.inside.left - 1) c.self.inside.rest.now _ _ c.in-Ok.ensures (subst (λ (n : ℕ). IsAll (many_at read n c.self.inside.rest.now)) k c.self.invariant)).0

pub returns-clause-gives : goal.returns-clause-gives
returns-clause-gives c =
    let read = value_at (size_of c.self.inside.format) in
    let k : c.self.inside.left ≡ suc (c.self.inside.left - 1) = omega arith in
    sym c.self.view_is ∙ ap (λ (n : ℕ). listed (many_at read n c.self.inside.rest.now)) k
    ∙ (many_first read (c.self.inside.left - 1) c.self.inside.rest.now _ _ c.in-Ok.ensures (subst (λ (n : ℕ). IsAll (many_at read n c.self.inside.rest.now)) k c.self.invariant)).1

pub returns-then-self-eq0-clause-end : goal.returns-then-self-eq0-clause-end
returns-then-self-eq0-clause-end c = λ none. sym c.self.view_is ∙ many_left (value_at (size_of c.self.inside.format)) c.self.inside.left c.self.inside.rest.now c.if-self-eq0.true
