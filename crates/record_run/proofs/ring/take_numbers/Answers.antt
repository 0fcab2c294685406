use Rattle.std.proofs.Common.{◌≡◌, ℕ, sym, ap, ◌∙◌, subst}
use Rattle.xdf_model.specs.declared.types.Shape.{Shape}
use Rattle.xdf_model.specs.Sample.{Sample}
use Rattle.inlet_ring.specs.Lone.{Lone}
use Rattle.feed_samples.specs.declared.block.BlockStep.TheVariants as block
use Rattle.feed_samples.specs.Blocks.{Tells}
use Rattle.feed_samples.specs.Inlet.{FitsGiven}
use Rattle.sample_ring.specs.Seen.{RingSeen, IsFull, sample_in}
use Rattle.record_run.specs.FeedRings.{IsPush, dropped_by}
use Rattle.feed_lane.proofs.Filled.{filled_by}
use Rattle.record_run.proofs.Blocks.{put_of}
use Rattle.record_run.proofs.ring.take_numbers.Goals as goal

pub push-requires-clause-full : goal.push-requires-clause-full
push-requires-clause-full g c =
    let r = c.args.ring.now in
    let b = c.next_block.new.block in
    let a = c.in-Filled.ensures.answer in
    let T : Shape → Type 0 = λ s. Tells s b.bytes a.0 block.Filled in
    let F : Shape → Type 0 = λ s. FitsGiven s a.0 in
    let one = filled_by r.shape b a.0 c.requires.numeric c.requires.count (subst T (sym c.requires.shape) a.1) (subst F (sym c.requires.shape) a.3) in
    let lent = c.lend-block.ensures.lent in
    let long : b.length ≡ c.lend-block.new.self.size = c.in-Filled.ensures.length ∙ c.lend-block.ensures.block ∙ sym (ap (λ (x : RingSeen). x.size) lent) in
    let S : Shape → Type 0 = λ s. IsFull s c.lend-block.new.self.size b in
    let N : ℕ → Type 0 = λ n. IsFull r.shape n b in
    subst S (sym (ap (λ (x : RingSeen). x.shape) lent)) (subst N long one.full)

pub returns-in-Filled-clause-given : goal.returns-in-Filled-clause-given
returns-in-Filled-clause-given g c =
    let r = c.args.ring.now in
    let b = c.next_block.new.block in
    let a = c.in-Filled.ensures.answer in
    let T : Shape → Type 0 = λ s. Tells s b.bytes a.0 block.Filled in
    let F : Shape → Type 0 = λ s. FitsGiven s a.0 in
    let one = filled_by r.shape b a.0 c.requires.numeric c.requires.count (subst T (sym c.requires.shape) a.1) (subst F (sym c.requires.shape) a.3) in
    let lent = c.lend-block.ensures.lent in
    let p = c.push.ensures in
    let v : Sample = sample_in c.lend-block.new.self.shape b.bytes in
    let same : v ≡ one.sample = ap (λ (x : RingSeen). sample_in x.shape b.bytes) lent ∙ one.tells in
    let push : IsPush c.lend-block.new.self.ring c.push.new.self.ring v = record { queue = p.queue; pushes = p.pushes; capacity = p.capacity; steps = p.steps } in
    let P : Lone Sample → Type 0 = λ l. IsPush l c.push.new.self.ring v in
    let D : Lone Sample → Type 0 = λ l. c.push.result ≡ dropped_by l in
    let ring = ap (λ (x : RingSeen). x.ring) lent in
    (a.0, put_of r.ring c.push.new.self.ring a.0 one.sample v c.push.result one.is same (subst P ring push) (subst D ring p.dropped), a.2, a.3, a.4)
