use Rattle.std.proofs.Common.{sym, ap, ◌∙◌, subst}
use Rattle.std.specs.List.{list_any}
use Rattle.report_model.specs.Notes.{chunks_in, is_repeated}
use Rattle.stream_check.specs.Survey.{FitsIn, context_of}
use Rattle.stream_check.proofs.KnowingMore.{closed_is}
use Rattle.stream_check.proofs.survey.Survey.is_repeated.Goals as goal

pub returns-in-StreamFooter : goal.returns-in-StreamFooter
returns-in-StreamFooter c = λ items k fits.
    let f = subst (FitsIn (context_of items)) c.in-StreamFooter.is fits in
    c.is_closed.ensures ∙ ap (list_any _) c.deref.ensures.value ∙ closed_is items 0 c.in-StreamFooter.id c.in-StreamFooter.doc c.args.self.now c.args.self.now k f.0 f.1 ∙ ap (is_repeated (chunks_in items)) (sym c.in-StreamFooter.is)
