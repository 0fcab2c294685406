use Rattle.std.proofs.Common.{◌≡◌, ℕ, Bool, if◌then◌else◌, None, length, ap, subst, ◌∙◌, sym, refl, arith}
use Rattle.std.proofs.lemmas.Bool.{eqb-false}
use Rattle.std.specs.List.{AllByRecursion}
use Rattle.ring_model.specs.declared.entry.Entry.{Entry}
use Rattle.ring_model.specs.Ring.{RingState, RingRun}
use Rattle.xdf_model.specs.Sample.{Sample}
use Rattle.inlet_ring.specs.Lone.{is_full, push_events, StandsFor}
use Rattle.sample_pool.specs.Block.{BlockValue, StockValue}
use Rattle.sample_ring.specs.Seen.{RingSeen, IsFull, mapped, sample_in}
use Rattle.sample_ring.proofs.Rings.{all_pushed, was_full, was_open, size_full, size_open, same_full, push_seen}
use Rattle.sample_ring.proofs.blocks.BlockRing.push.Goals as goal

pub invariant_of-self : goal.invariant_of-self
invariant_of-self c =
    let i = c.self.inside in
    let p = c.in-Some.ensures in
    let full = subst (λ (x : RingSeen). IsFull x.shape x.size c.args.block) (sym c.self.view_is) c.requires.full in
    let e : Entry BlockValue = record { position = i.ring.pushes; value = c.args.block } in
    let all = all_pushed (λ (e : Entry BlockValue). IsFull i.shape i.stock.length e.value) i.ring e c.push.new.self.queue p.queue c.self.invariant.0 full in
    let was = was_full i.ring c.in-Some.entry p.dropped in
    let size = size_full i.ring e c.push.new.self.queue p.queue was c.self.invariant.3 in
    let lent = ap (λ (x : RingSeen). x.lent) c.self.view_is ∙ c.requires.lent in
    let count = ap (λ (x : StockValue). x.blocks) c.give.ensures in
    let home = ap (λ (x : StockValue). x.home) c.give.ensures in
    let same = ap (λ (x : StockValue). x.length) c.give.ensures in
    let v = c.self.invariant in (
      subst (λ (n : ℕ). AllByRecursion (λ (e : Entry BlockValue). IsFull i.shape n e.value) c.push.new.self.queue) (sym same) all,
      omega (arith, p.capacity, count, v.1),
      omega (arith, size, was, p.capacity),
      omega (arith, p.capacity, v.3),
      omega (arith, home, count, size, lent, v.4),
    )

pub invariant_of-self-in-None : goal.invariant_of-self-in-None
invariant_of-self-in-None c =
    let i = c.self.inside in
    let p = c.in-None.ensures in
    let full = subst (λ (x : RingSeen). IsFull x.shape x.size c.args.block) (sym c.self.view_is) c.requires.full in
    let e : Entry BlockValue = record { position = i.ring.pushes; value = c.args.block } in
    let all = all_pushed (λ (e : Entry BlockValue). IsFull i.shape i.stock.length e.value) i.ring e c.push.new.self.queue p.queue c.self.invariant.0 full in
    let was = was_open i.ring None p.dropped refl c.self.invariant.3 in
    let size = size_open i.ring e c.push.new.self.queue p.queue was in
    let lent = ap (λ (x : RingSeen). x.lent) c.self.view_is ∙ c.requires.lent in
    let v = c.self.invariant in
    let differs = eqb-false (length i.ring.queue) i.ring.capacity was in (
      all,
      omega (arith, p.capacity, v.1),
      omega (arith, size, differs, v.2, p.capacity),
      omega (arith, p.capacity, v.3),
      omega (arith, size, lent, v.4),
    )

pub returns-in-Some-clause-steps : goal.returns-in-Some-clause-steps
returns-in-Some-clause-steps c =
    let i = c.self.inside in
    let p = c.in-Some.ensures in
    let P : RingSeen → Type 0 = λ x. (s : RingState Sample) → StandsFor x.ring s
    → (t : RingState Sample) × RingRun x.ring.capacity s (push_events x.ring (sample_in x.shape c.args.block.bytes)) t × StandsFor (mapped i.shape c.push.new.self) t in
    subst P c.self.view_is (push_seen i.shape i.ring c.push.new.self c.args.block c.self.invariant.3 c.self.invariant.2 p.queue p.pushes p.capacity)

pub returns-in-None-clause-dropped : goal.returns-in-None-clause-dropped
returns-in-None-clause-dropped c =
    let i = c.self.inside in
    let was = was_open i.ring None c.in-None.ensures.dropped refl c.self.invariant.3 in
    let P : RingSeen → Type 0 = λ x. 0 ≡ (if is_full x.ring then 1 else 0) in
    subst P c.self.view_is (sym (ap (λ (b : Bool). if b then 1 else 0) (same_full i.shape i.ring ∙ was)))

pub returns-in-None-clause-steps : goal.returns-in-None-clause-steps
returns-in-None-clause-steps c =
    let i = c.self.inside in
    let p = c.in-None.ensures in
    let P : RingSeen → Type 0 = λ x. (s : RingState Sample) → StandsFor x.ring s
    → (t : RingState Sample) × RingRun x.ring.capacity s (push_events x.ring (sample_in x.shape c.args.block.bytes)) t × StandsFor (mapped i.shape c.push.new.self) t in
    subst P c.self.view_is (push_seen i.shape i.ring c.push.new.self c.args.block c.self.invariant.3 c.self.invariant.2 p.queue p.pushes p.capacity)
