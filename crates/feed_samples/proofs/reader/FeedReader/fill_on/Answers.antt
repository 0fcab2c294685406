use Rattle.std.proofs.Common.{arith, rules, refl, sym, ap, subst, ◌≡◌, ◌∙◌}
use Rattle.piece_reader.proofs.Carrying.{carried_kept}
use Rattle.xdf_model.specs.declared.types.Shape.{Shape}
use Rattle.xdf_model.specs.Sample.{least_sample_text}
use Rattle.feed_samples.specs.Inlet.{InletState, rules_of, received_by, FitsGiven}
use Rattle.reading_model.specs.Outlook.{ended}
use Rattle.piece_reader.specs.Steps.{end_of}
use Rattle.inlet_model.specs.declared.end.FeedEnd.TheVariants.{ReadFault}
use Rattle.feed_samples.specs.declared.step.FeedStep.TheVariants.{Sample, End}
use Rattle.feed_samples.specs.declared.stage.Quiet.TheVariants.{Again, Want}
use Rattle.feed_samples.specs.Kept.{Does, DoesAnswer}
use Rattle.feed_samples.proofs.Blocks.{no_fault}
use Rattle.feed_samples.proofs.Inlets.{answered_step, step_received, again_goes, again_carried, piece_goes, piece_carried, piece_none, want_carried, want_wants, answered_end, answered_fault}
use Rattle.feed_samples.proofs.reader.FeedReader.fill_on.Goals as goal

pub returns-in-Filled-clause-answer : goal.returns-in-Filled-clause-answer
returns-in-Filled-clause-answer g c =
    let does = c.in-Filled.ensures.does in
    let s = does.0 in
    let same = c.pieces.invariant.shape in (
      Sample s,
      subst (λ (x : Shape). c.step_block.new.block.bytes ≡ least_sample_text x s) same does.1,
      answered_step (Sample s) c.args.self.now.inlet c.pieces.self.inlet c.step_block.new.self _ _ c.pieces.invariant.carried c.pieces.invariant.going does.2,
      subst (λ (x : Shape). FitsGiven x (Sample s)) same does.3,
      step_received (Sample s) c.pieces.self.inlet c.step_block.new.self does.2 ∙ ap (received_by (Sample s)) c.pieces.invariant.received,
    )

pub returns-in-Quiet-End-clause-answer : goal.returns-in-Quiet-End-clause-answer
returns-in-Quiet-End-clause-answer g c =
    let e = c.in-Quiet-End.end in
    let does : DoesAnswer c.pieces.self.inlet c.step_block.new.self (End e) = rw c.in-Quiet-End.field-0-is at c.in-Quiet-End.ensures.does in (
      End e,
      refl,
      answered_step (End e) c.args.self.now.inlet c.pieces.self.inlet c.step_block.new.self _ _ c.pieces.invariant.carried c.pieces.invariant.going does,
      tt,
      step_received (End e) c.pieces.self.inlet c.step_block.new.self does ∙ c.pieces.invariant.received,
    )

pub pieces-smaller-in-Quiet-Again : goal.pieces-smaller-in-Quiet-Again
pieces-smaller-in-Quiet-Again g c = (again_goes c.pieces.self.inlet c.step_block.new.self (rw c.in-Quiet-Again.field-0-is at c.in-Quiet-Again.ensures.does)).less

pub pieces-preserved-in-Quiet-Again : goal.pieces-preserved-in-Quiet-Again
pieces-preserved-in-Quiet-Again g c =
    let again : Does c.pieces.self.inlet c.step_block.new.self Again = rw c.in-Quiet-Again.field-0-is at c.in-Quiet-Again.ensures.does in
    let goes = again_goes c.pieces.self.inlet c.step_block.new.self again in
    record {
      carried = again_carried c.args.self.now.inlet c.pieces.self.inlet c.step_block.new.self _ _ c.pieces.invariant.carried again;
      going = goes.going;
      received = goes.received ∙ c.pieces.invariant.received;
      bounded = c.in-Quiet-Again.ensures.received;
      shape = goes.shape ∙ c.pieces.invariant.shape;
      limit = goes.limit ∙ c.pieces.invariant.limit;
      quiet = c.pieces.invariant.quiet;
      length = c.in-Quiet-Again.ensures.length ∙ c.pieces.invariant.length;
      marked = c.pieces.invariant.marked;
    }

pub returns-in-Ok-eq0-clause-answer : goal.returns-in-Ok-eq0-clause-answer
returns-in-Ok-eq0-clause-answer g c =
    let gains = c.in-Ok-eq0.ensures.gains in
    let start = c.args.self.now.inlet in
    let mid = c.step_block.new.self in
    let new = c.take_piece.new.self in
    let want : Does c.pieces.self.inlet c.step_block.new.self Want = rw c.in-Quiet-Want.field-0-is at c.in-Quiet-Want.ensures.does in
    let same = want.1 in
    let wants = want_wants c.pieces.self.inlet mid want.0 same in
    let carried = piece_carried start mid new _ _ _ gains.0 (want_carried start c.pieces.self.inlet mid _ _ c.pieces.invariant.carried same) wants gains.1 gains.3 in
    let still = want_wants mid new wants (piece_none mid new gains.0 (search rules) gains.3) in
    let received : c.end_input.new.self.received ≡ start.received =
    ap (λ (x : InletState). x.received) c.end_input.ensures.over ∙ ap (λ (x : InletState). x.received) gains.3 ∙ ap (λ (x : InletState). x.received) same ∙ c.pieces.invariant.received in (
      End c.end_input.result,
      refl,
      answered_end (End c.end_input.result) start new c.end_input.new.self _ _ carried still (search rules) (ap End c.end_input.ensures.value) c.end_input.ensures.over,
      tt,
      received,
    )

pub returns-in-Ok-eq0-clause-cause : goal.returns-in-Ok-eq0-clause-cause
returns-in-Ok-eq0-clause-cause g c =
    let gains = c.in-Ok-eq0.ensures.gains in
    let mid = c.step_block.new.self in
    let new = c.take_piece.new.self in
    let want : Does c.pieces.self.inlet c.step_block.new.self Want = rw c.in-Quiet-Want.field-0-is at c.in-Quiet-Want.ensures.does in
    let wants = want_wants c.pieces.self.inlet mid want.0 want.1 in
    let still = want_wants mid new wants (piece_none mid new gains.0 (search rules) gains.3) in
    let kept = c.in-Ok-eq0.ensures.failed.quiet (λ e. absurd (cc e)) ∙ c.pieces.invariant.quiet in
    record {
      later = omega (arith, kept);
      rose = λ is.
          let same : end_of (rules_of new) new.reading ended ≡ ReadFault = cc (is, c.end_input.ensures.value) in
          absurd (no_fault new new.reading still same);
      quiet = λ _. kept;
    }

pub pieces-preserved : goal.pieces-preserved
pieces-preserved g c =
    let gains = c.in-Ok.ensures.gains in
    let mid = c.step_block.new.self in
    let new = c.take_piece.new.self in
    let want : Does c.pieces.self.inlet c.step_block.new.self Want = rw c.in-Quiet-Want.field-0-is at c.in-Quiet-Want.ensures.does in
    let same = want.1 in
    let wants = want_wants c.pieces.self.inlet mid want.0 same in
    let carried = piece_carried c.args.self.now.inlet mid new _ _ _ gains.0 (want_carried c.args.self.now.inlet c.pieces.self.inlet mid _ _ c.pieces.invariant.carried same) wants gains.1 gains.3 in
    let goes = piece_goes mid new gains.0 wants (λ none. c.in-Ok.field-0-test.1 (sym gains.2 ∙ none)) gains.3 in
    record {
      carried = carried;
      going = goes.going;
      received = goes.received ∙ ap (λ (x : InletState). x.received) same ∙ c.pieces.invariant.received;
      bounded = omega (arith, goes.received, goes.limit, c.in-Quiet-Want.ensures.received);
      shape = goes.shape ∙ ap (λ (x : InletState). x.shape) same ∙ c.pieces.invariant.shape;
      limit = goes.limit ∙ ap (λ (x : InletState). x.byte_limit) same ∙ c.pieces.invariant.limit;
      quiet = search rules;
      length = c.in-Quiet-Want.ensures.length ∙ c.pieces.invariant.length;
      marked = search rules;
    }

pub returns-in-Err-Failed-clause-answer : goal.returns-in-Err-Failed-clause-answer
returns-in-Err-Failed-clause-answer g c =
    let start = c.args.self.now.inlet in
    let want : Does c.pieces.self.inlet c.step_block.new.self Want = rw c.in-Quiet-Want.field-0-is at c.in-Quiet-Want.ensures.does in
    let same = c.in-Err-Failed.ensures.kept ∙ want.1 in
    let here = want_carried start c.pieces.self.inlet c.take_piece.new.self _ _ c.pieces.invariant.carried same in
    let received : c.fail.new.self.received ≡ start.received = ap (λ (x : InletState). x.received) c.fail.ensures.over ∙ ap (λ (x : InletState). x.received) same ∙ c.pieces.invariant.received in (
      End c.fail.result,
      refl,
      answered_fault (End c.fail.result) start c.take_piece.new.self c.fail.new.self _ _ (carried_kept _ _ _ _ _ here c.in-Err-Failed.ensures.left)
          (want_wants c.pieces.self.inlet c.take_piece.new.self want.0 same) (ap End c.fail.ensures.value) c.fail.ensures.over,
      tt,
      received,
    )
