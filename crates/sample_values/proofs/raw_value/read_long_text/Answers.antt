use Rattle.std.proofs.Common.{take, sym, ap, ◌∙◌, arith}
use Rattle.std.proofs.lemmas.List.{take_rest}
use Rattle.std.proofs.lemmas.Result.{err_from_is_err_and}
use Rattle.xdf_model.specs.Sample.{text}
use Rattle.xdf_model_laws.proofs.Readers.{found}
use Rattle.sample_values.proofs.Fronts.{text_errs, text_outside, text_found}
use Rattle.sample_values.proofs.raw_value.read_long_text.Goals as goal

pub returns-in_err-len : goal.returns-in_err-len
returns-in_err-len c =
    let p = err_from_is_err_and c.from_residual.result c.from_residual.ensures.1 in
    rw (p.1, p.2) (text_errs c.args.bytes.now _ c.in_err-len.ensures)

pub returns-then-rest-len : goal.returns-then-rest-len
returns-then-rest-len c = text_outside c.args.bytes.now c.in_ok-len.len c.in_ok-len.rest.now c.in_ok-len.ensures (omega arith)

pub returns : goal.returns
returns c =
    text_found c.args.bytes.now c.in_ok-len.len c.in_ok-len.rest.now c.in_ok-len.ensures (omega arith)
    ∙ ap (found (text (take c.in_ok-len.len c.in_ok-len.rest.now))) (sym (take_rest c.in_ok-len.rest.now c.in_ok-len.len))
