-- A block that was put into a ring.
use Rattle.std.proofs.Common.{◌≡◌, ℕ, sym, subst}
use Rattle.xdf_model.specs.Sample.{Sample}
use Rattle.feed_samples.specs.declared.step.FeedStep.{FeedStep}
use Rattle.feed_samples.specs.declared.step.FeedStep.TheVariants as step
use Rattle.inlet_ring.specs.Lone.{Lone}
use Rattle.record_run.specs.declared.ring.Given.TheVariants as given
use Rattle.record_run.specs.FeedRings.{IsPush, IsPut, dropped_by}

pub put_of : (old new : Lone Sample) (answer : FeedStep) (s v : Sample) (drops : ℕ) → answer ≡ step.Sample s → v ≡ s → IsPush old new v → drops ≡ dropped_by old → IsPut old new answer (given.Sample drops)
put_of old new answer s v drops is same push count =
    subst (λ (a : FeedStep). IsPut old new a (given.Sample drops)) (sym is) (subst (λ (x : Sample). IsPush old new x) same push, count)
