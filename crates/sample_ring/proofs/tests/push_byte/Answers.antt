use Rattle.std.proofs.Common.{◌≡◌, ℕ, ◌∙◌, sym, ap, subst}
use Rattle.xdf_model.specs.declared.types.Shape.{Shape}
use Rattle.sample_ring.specs.Seen.{RingSeen, IsFull}
use Rattle.sample_ring.proofs.Telling.{is_full_of}
use Rattle.sample_ring.proofs.tests.push_byte.Goals as goal

pub push-requires-clause-full : goal.push-requires-clause-full
push-requires-clause-full c =
    let lent = c.lend-block.ensures.lent in
    let block = c.block_from_feed.new.block in
    let shape : c.args.shape ≡ c.lend-block.new.self.shape = sym (ap (λ (x : RingSeen). x.shape) lent ∙ c.requires.shape) in
    let size : block.length ≡ c.lend-block.new.self.size = c.in-Whole.ensures.length ∙ c.lend-block.ensures.block ∙ sym (ap (λ (x : RingSeen). x.size) lent) in
    let f = c.in-Whole.ensures.fills in
    let full = is_full_of c.args.shape f.0 block c.requires.numeric c.requires.count f.3 f.4 in
    subst (λ (x : Shape). IsFull x c.lend-block.new.self.size block) shape (subst (λ (n : ℕ). IsFull c.args.shape n block) size full)
