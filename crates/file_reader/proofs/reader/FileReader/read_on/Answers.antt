use Rattle.std.proofs.Common.{rules, ap, subst, sym, ◌∙◌}
use Rattle.file_model.specs.declared.next.Next.{Next}
use Rattle.piece_reader.proofs.Carrying.{carried_kept}
use Rattle.file_reader.specs.FileInlet.{Stops, Tells}
use Rattle.file_reader.specs.AsNext.{HasValue, as_next}
use Rattle.file_reader.proofs.Outlooks.{answered_step, given_step, given_over, same_next, piece_goes, piece_carried, piece_none, want_carried, want_wants, same_here, same_more, answered_end, answered_fault}
use Rattle.file_reader.proofs.Ahead.{stops_at_end, stops_at_fault, stops_by_bytes, took_more}
use Rattle.file_reader.proofs.reader.FileReader.read_on.Goals as goal

pub returns-in-Answer-clause-answer : goal.returns-in-Answer-clause-answer
returns-in-Answer-clause-answer g c =
    answered_step c.in-Answer.passed c.in-Answer.value c.args.self.now.file c.pieces.self.file c.step.new.self _ _ c.pieces.invariant.carried c.pieces.invariant.going c.pieces.invariant.same c.in-Answer.ensures.does

pub returns-in-Answer-clause-chunk : goal.returns-in-Answer-clause-chunk
returns-in-Answer-clause-chunk g c = given_step c.in-Answer.passed c.in-Answer.value c.args.self.now.file c.pieces.self.file c.step.new.self c.pieces.invariant.same c.in-Answer.ensures.does

pub returns-in-Answer-clause-value : goal.returns-in-Answer-clause-value
returns-in-Answer-clause-value g c = λ wanted.
    subst (λ (n : Next). HasValue n c.in-Answer.value) (same_next c.in-Answer.passed c.args.self.now.file c.pieces.self.file c.step.new.self c.pieces.invariant.same) (c.in-Answer.ensures.values wanted)

pub returns-in-Answer-clause-tells : goal.returns-in-Answer-clause-tells
returns-in-Answer-clause-tells g c =
    subst (λ (n : Next). Tells c.step.new.self n) (same_next c.in-Answer.passed c.args.self.now.file c.pieces.self.file c.step.new.self c.pieces.invariant.same) c.in-Answer.ensures.shows.2

pub returns-in-Answer-clause-stops : goal.returns-in-Answer-clause-stops
returns-in-Answer-clause-stops g c =
    let left = g.S.Source.left c.pieces.self.source in
    subst (λ (n : Next). Stops left c.step.new.self n) (same_next c.in-Answer.passed c.args.self.now.file c.pieces.self.file c.step.new.self c.pieces.invariant.same)
    (stops_by_bytes left c.step.new.self _ c.in-Answer.ensures.shows.1 c.in-Answer.ensures.shows.2)

pub returns-in-Ok-eq0-clause-tells : goal.returns-in-Ok-eq0-clause-tells
returns-in-Ok-eq0-clause-tells g c = c.end_input.ensures.tells c.args.self.now.file.context c.end_input.new.self.last

pub returns-in-Ok-eq0-clause-stops : goal.returns-in-Ok-eq0-clause-stops
returns-in-Ok-eq0-clause-stops g c = stops_at_end _ c.end_input.new.self _ (search rules) (c.end_input.ensures.tells c.args.self.now.file.context c.end_input.new.self.last)

pub returns-in-Ok-eq0-clause-answer : goal.returns-in-Ok-eq0-clause-answer
returns-in-Ok-eq0-clause-answer g c =
    let gains = c.in-Ok-eq0.ensures.gains in
    let start = c.args.self.now.file in
    let mid = c.step.new.self in
    let new = c.take_piece.new.self in
    let same = c.in-Want.ensures.does.1 in
    let wants = want_wants c.pieces.self.file mid c.in-Want.ensures.does.0 same in
    let carried = piece_carried start mid new _ _ _ gains.0 (want_carried start c.pieces.self.file mid _ _ c.pieces.invariant.carried same) wants gains.1 gains.3 in
    let still = want_wants mid new wants (piece_none mid new gains.0 (search rules) gains.3) in
    answered_end _ start new c.end_input.new.self _ _ carried still (search rules) (c.end_input.ensures.told start.context c.end_input.new.self.last) c.end_input.ensures.over

pub returns-in-Ok-eq0-clause-chunk : goal.returns-in-Ok-eq0-clause-chunk
returns-in-Ok-eq0-clause-chunk g c =
    let gains = c.in-Ok-eq0.ensures.gains in
    let start = c.args.self.now.file in
    let here = same_more start c.step.new.self c.take_piece.new.self _ (same_here start c.pieces.self.file c.step.new.self c.pieces.invariant.same c.in-Want.ensures.does.1) gains.3 in
    given_over _ _ start c.take_piece.new.self c.end_input.new.self (c.end_input.ensures.told start.context c.end_input.new.self.last) here c.end_input.ensures.over

pub pieces-preserved : goal.pieces-preserved
pieces-preserved g c =
    let gains = c.in-Ok.ensures.gains in
    let start = c.args.self.now.file in
    let mid = c.step.new.self in
    let new = c.take_piece.new.self in
    let same = c.in-Want.ensures.does.1 in
    let wants = want_wants c.pieces.self.file mid c.in-Want.ensures.does.0 same in
    record {
      carried = piece_carried start mid new _ _ _ gains.0 (want_carried start c.pieces.self.file mid _ _ c.pieces.invariant.carried same) wants gains.1 gains.3;
      going = (piece_goes mid new gains.0 wants (λ none. c.in-Ok.field-0-test.1 (sym gains.2 ∙ none)) gains.3).going;
      took = took_more _ _ _ start.ahead gains.0 c.pieces.self.file mid new c.pieces.invariant.took same gains.1 gains.3;
      skipped = search rules;
      same = same_more start mid new _ (same_here start c.pieces.self.file mid c.pieces.invariant.same same) gains.3;
      quiet = search rules;
      marked = search rules;
    }

pub returns-in-Err-Failed-clause-answer : goal.returns-in-Err-Failed-clause-answer
returns-in-Err-Failed-clause-answer g c =
    let start = c.args.self.now.file in
    let same = c.in-Err-Failed.ensures.kept ∙ c.in-Want.ensures.does.1 in
    let here = want_carried start c.pieces.self.file c.take_piece.new.self _ _ c.pieces.invariant.carried same in
    answered_fault _ start c.take_piece.new.self c.fail.new.self _ _ (carried_kept _ _ _ _ _ here c.in-Err-Failed.ensures.left)
    (want_wants c.pieces.self.file c.take_piece.new.self c.in-Want.ensures.does.0 same) (ap (as_next start.context c.fail.new.self.last) c.fail.ensures.value) c.fail.ensures.over

pub returns-in-Err-Failed-clause-chunk : goal.returns-in-Err-Failed-clause-chunk
returns-in-Err-Failed-clause-chunk g c =
    let start = c.args.self.now.file in
    let same = c.in-Err-Failed.ensures.kept ∙ c.in-Want.ensures.does.1 in
    given_over _ _ start c.take_piece.new.self c.fail.new.self (ap (as_next start.context c.fail.new.self.last) c.fail.ensures.value) (same_here start c.pieces.self.file c.take_piece.new.self c.pieces.invariant.same same) c.fail.ensures.over

pub returns-in-Err-Failed-clause-tells : goal.returns-in-Err-Failed-clause-tells
returns-in-Err-Failed-clause-tells g c = c.fail.ensures.tells c.args.self.now.file.context c.fail.new.self.last

pub returns-in-Err-Failed-clause-stops : goal.returns-in-Err-Failed-clause-stops
returns-in-Err-Failed-clause-stops g c = stops_at_fault _ c.fail.new.self _ (ap (as_next c.args.self.now.file.context c.fail.new.self.last) c.fail.ensures.value)
