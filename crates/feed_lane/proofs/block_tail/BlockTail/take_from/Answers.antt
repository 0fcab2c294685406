use Rattle.std.proofs.Common.{◌≡◌, ◌≤◌, ℕ, ◌∷◌, ◌++◌, [], sym, ◌∙◌, subst}
use Rattle.xdf_model.specs.declared.types.Shape.{Shape}
use Rattle.xdf_model.specs.Sample.{Sample, size_of}
use Rattle.feed_samples.specs.declared.step.FeedStep.{FeedStep}
use Rattle.feed_samples.specs.declared.block.BlockStep.TheVariants as block
use Rattle.feed_samples.specs.Blocks.{Tells}
use Rattle.feed_samples.specs.Inlet.{FitsGiven}
use Rattle.sample_ring.specs.Seen.{IsFull, sample_in}
use Rattle.feed_lane.specs.declared.step.LaneStep.TheVariants as lane
use Rattle.feed_lane.specs.Lanes.{TailView, IsPutTo}
use Rattle.feed_lane.specs.Kinds.{longest}
use Rattle.feed_lane.proofs.Filled.{filled_by}
use Rattle.feed_lane.proofs.block_tail.BlockTail.take_from.Goals as goal

pub next_block-requires-clause-numeric : goal.next_block-requires-clause-numeric
next_block-requires-clause-numeric g c = subst (λ (s : Shape). 1 ≤ size_of s.format) c.requires.shape c.lend-block.ensures.numeric.0

pub next_block-requires-clause-count : goal.next_block-requires-clause-count
next_block-requires-clause-count g c = subst (λ (s : Shape). s.count ≤ 4096) c.requires.shape c.lend-block.ensures.numeric.1

pub push-requires-clause-full : goal.push-requires-clause-full
push-requires-clause-full g c =
    let b = c.next_block.new.block in
    let a = c.in-Filled.ensures.answer in
    let l = c.lend-block.ensures in
    let shape = c.args.self.now.lane.shape in
    let T : Shape → Type 0 = λ s. Tells s b.bytes a.0 block.Filled in
    let F : Shape → Type 0 = λ s. FitsGiven s a.0 in
    let one = filled_by shape b a.0 l.numeric.0 l.numeric.1 (subst T (sym c.requires.shape) a.1) (subst F (sym c.requires.shape) a.3) in
    let N : ℕ → Type 0 = λ n. IsFull shape n b in
    let V : TailView → Type 0 = λ t. IsFull t.lane.shape (longest t.lane.shape) b in
    subst V (sym l.same) (subst N (c.in-Filled.ensures.length ∙ l.length) one.full)

pub returns-in-Filled-clause-put : goal.returns-in-Filled-clause-put
returns-in-Filled-clause-put g c =
    let b = c.next_block.new.block in
    let a = c.in-Filled.ensures.answer in
    let l = c.lend-block.ensures in
    let shape = c.args.self.now.lane.shape in
    let T : Shape → Type 0 = λ s. Tells s b.bytes a.0 block.Filled in
    let F : Shape → Type 0 = λ s. FitsGiven s a.0 in
    let one = filled_by shape b a.0 l.numeric.0 l.numeric.1 (subst T (sym c.requires.shape) a.1) (subst F (sym c.requires.shape) a.3) in
    let V : TailView → Type 0 = λ t. c.push.new.self.puts ≡ t.puts ++ sample_in t.lane.shape b.bytes ∷ [] in
    let W : Sample → Type 0 = λ s. c.push.new.self.puts ≡ c.args.self.now.puts ++ s ∷ [] in
    let P : FeedStep → Type 0 = λ s. IsPutTo c.args.self.now c.push.new.self s lane.Sample in
    (a.0, subst P (sym one.is) (subst W one.tells (subst V l.same c.push.ensures.puts)), a.2, a.3, a.4)
