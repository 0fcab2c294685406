use Rattle.std.proofs.Common.{◌≡◌, subst, Option, None, Some, refl}
use Rattle.std.specs.Prelude.{IfSome}
use Rattle.ring_model.specs.declared.entry.Entry.{Entry}
use Rattle.sample_pool.specs.Block.{BlockValue}
use Rattle.ring_model.specs.Ring.{RingState, RingRun}
use Rattle.xdf_model.specs.Sample.{Sample}
use Rattle.inlet_ring.specs.Lone.{take_events, StandsFor}
use Rattle.sample_ring.specs.Seen.{RingSeen, IsFull, mapped}
use Rattle.sample_ring.proofs.Rings.{all_taken, take_seen}
use Rattle.sample_ring.proofs.blocks.BlockRing.take.Goals as goal

each : {A : Type 0} (P : A → Type 0) (o : Option A) → ((x : A) → o ≡ Some x → P x) → IfSome o P
each P None f = tt
each P (Some x) f = f x refl

pub returns-clause-full : goal.returns-clause-full
returns-clause-full c =
    let i = c.self.inside in
    let P : RingSeen → Type 0 = λ x. IfSome c.take.result (λ e. IsFull x.shape x.size e.value) in
    subst P c.self.view_is (each (λ (e : Entry BlockValue). IsFull i.shape i.stock.length e.value) c.take.result
    (λ e some. all_taken (λ (e : Entry BlockValue). IsFull i.shape i.stock.length e.value) i.ring.queue c.take.result e c.take.ensures.oldest some c.self.invariant.0))

pub returns-clause-steps : goal.returns-clause-steps
returns-clause-steps c =
    let i = c.self.inside in
    let t = c.take.ensures in
    let P : RingSeen → Type 0 = λ x. (s : RingState Sample) → StandsFor x.ring s
    → (t : RingState Sample) × RingRun x.ring.capacity s (take_events x.ring.queue) t × StandsFor (mapped i.shape c.take.new.self) t in
    subst P c.self.view_is (take_seen i.shape i.ring c.take.new.self t.queue t.pushes t.capacity)
