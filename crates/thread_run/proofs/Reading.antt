-- What one step of a reader put into a lane.
use Rattle.std.proofs.Common.{◌≡◌, ℕ, List, [], ◌∷◌, ◌++◌, length, length-append, Option, refl, sym, ap, ◌∙◌, subst, arith}
use Rattle.reading_model.specs.Outlook.{Outlook, Answered}
use Rattle.reading_model.specs.Read.{Reader}
use Rattle.piece_reader.specs.Steps.{Begun}
use Rattle.piece_reader.proofs.Collecting.{begun_item, begun_nothing}
use Rattle.piece_reader.proofs.Ending.{fresh}
use Rattle.xdf_model.specs.Sample.{Sample}
use Rattle.inlet_model.specs.declared.end.FeedEnd.{FeedEnd}
use Rattle.inlet_model.specs.Inlet.{feed_kind}
use Rattle.feed_samples.specs.declared.step.FeedStep.{FeedStep}
use Rattle.feed_samples.specs.declared.step.FeedStep.TheVariants as step
use Rattle.feed_samples.specs.Inlet.{got, received_by}
use Rattle.feed_lane.specs.declared.step.LaneStep.TheVariants as lane
use Rattle.feed_lane.specs.Lanes.{TailView, IsPutTo}

pub sample_put : (old new : TailView) (answer : FeedStep) → IsPutTo old new answer lane.Sample → (s : Sample) × (answer ≡ step.Sample s) × (new.puts ≡ old.puts ++ s ∷ [])
sample_put old new (step.Sample s) put = (s, refl, put)
sample_put old new (step.End e) put = absurd put
sample_put old new step.Memory put = absurd put

pub end_met : (old new : TailView) (answer : FeedStep) (e : FeedEnd) → IsPutTo old new answer (lane.End e) → (answer ≡ step.End e) × (new.puts ≡ old.puts)
end_met old new (step.Sample s) e put = absurd put
end_met old new (step.End f) e put = (ap step.End put.0, put.1)
end_met old new step.Memory e put = absurd put

pub memory_met : (old new : TailView) (answer : FeedStep) → IsPutTo old new answer lane.Memory → (answer ≡ step.Memory) × (new.puts ≡ old.puts)
memory_met old new (step.Sample s) put = absurd put
memory_met old new (step.End e) put = absurd put
memory_met old new step.Memory put = (refl, put)

module _ (reader : Reader Sample FeedEnd) (now new : Outlook Sample FeedEnd) (a b c : Option (List ℕ)) (old_tail new_tail : TailView) (answer : FeedStep)
    (begun : Begun (fresh reader) now a b old_tail.puts) (answered : Answered feed_kind now new b c (got answer)) where
  pub begun_sample : IsPutTo old_tail new_tail answer lane.Sample → Begun (fresh reader) new a c new_tail.puts
  begun_sample put =
      let p = sample_put old_tail new_tail answer put in
      subst (λ (l : List Sample). Begun (fresh reader) new a c l) (sym p.2)
      (begun_item feed_kind (fresh reader) now new a b c old_tail.puts p.0 begun (subst (λ (x : FeedStep). Answered feed_kind now new b c (got x)) p.1 answered))

  pub begun_memory : IsPutTo old_tail new_tail answer lane.Memory → Begun (fresh reader) new a c new_tail.puts
  begun_memory put =
      let p = memory_met old_tail new_tail answer put in
      subst (λ (l : List Sample). Begun (fresh reader) new a c l) (sym p.1)
      (begun_nothing feed_kind (fresh reader) now new a b c old_tail.puts begun (subst (λ (x : FeedStep). Answered feed_kind now new b c (got x)) p.0 answered))

-- how many samples came, in each case
pub received_sample : (old new : TailView) (answer : FeedStep) (before after : ℕ) → IsPutTo old new answer lane.Sample → before ≡ length old.puts → after ≡ received_by answer before → after ≡ length new.puts
received_sample old new answer before after put count is =
    let p = sample_put old new answer put in
    let more = is ∙ ap (λ (x : FeedStep). received_by x before) p.1 in
    omega (arith, more, count, ap length p.2, length-append old.puts (p.0 ∷ []))

pub received_end : (old new : TailView) (answer : FeedStep) (e : FeedEnd) (before after : ℕ) → IsPutTo old new answer (lane.End e) → before ≡ length old.puts → after ≡ received_by answer before → after ≡ length new.puts
received_end old new answer e before after put count is =
    let p = end_met old new answer e put in
    is ∙ ap (λ (x : FeedStep). received_by x before) p.0 ∙ count ∙ ap length (sym p.1)

pub received_memory : (old new : TailView) (answer : FeedStep) (before after : ℕ) → IsPutTo old new answer lane.Memory → before ≡ length old.puts → after ≡ received_by answer before → after ≡ length new.puts
received_memory old new answer before after put count is =
    let p = memory_met old new answer put in
    is ∙ ap (λ (x : FeedStep). received_by x before) p.0 ∙ count ∙ ap length (sym p.1)
