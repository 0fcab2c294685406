use Rattle.std.proofs.lemmas.Result.{err_from_is_err_and}
use Rattle.sample_values.proofs.Rests.{sample_fails, sample_left}
use Rattle.sample_values.proofs.walk.behind_text_sample.Goals as goal

pub returns-in_err-rest : goal.returns-in_err-rest
returns-in_err-rest c =
    let p = err_from_is_err_and c.from_residual.result c.from_residual.ensures.1 in
    rw (p.1, p.2) (sample_fails c.args.shape.now c.args.bytes.now _ c.in_err-rest.ensures)

pub returns : goal.returns
returns c = rw (sample_left c.args.shape.now c.args.bytes.now c.in_ok-rest.rest.now c.requires.texts c.in_ok-rest.ensures) c.behind_texts.ensures
