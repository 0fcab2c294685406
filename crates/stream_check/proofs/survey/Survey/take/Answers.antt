use Rattle.std.proofs.Common.{◌++◌, ◌∷◌, [], true, refl, sym, ap, ◌∙◌, subst}
use Rattle.chunk_grammar.specs.declared.chunk.Chunk.{Chunk}
use Rattle.report_model.specs.Notes.{chunks_in, has_bad_sample}
use Rattle.stream_check.specs.declared.survey.Survey.{Survey}
use Rattle.stream_check.specs.Survey.{Knows, FitsIn, context_of}
use Rattle.stream_check.proofs.KnowingMore.{knows_file, knows_header, knows_samples, knows_footer, knows_rest, bad_is}
use Rattle.stream_check.proofs.survey.Survey.take.Goals as goal

pub returns-in-FileHeader-clause-knows : goal.returns-in-FileHeader-clause-knows
returns-in-FileHeader-clause-knows c = λ items k fits.
    let t : Survey = record { streams = c.args.self.now.streams; begun = true; ledger = c.args.self.now.ledger } in
    subst (λ (x : Chunk). Knows (items ++ (c.args.at, x) ∷ []) t) (sym c.in-FileHeader.is) (knows_file items c.args.at c.in-FileHeader.doc c.args.self.now t k refl refl refl)

pub returns-in_ok-declare-in-StreamHeader-clause-knows : goal.returns-in_ok-declare-in-StreamHeader-clause-knows
returns-in_ok-declare-in-StreamHeader-clause-knows c = λ items k fits.
    let h = c.in-StreamHeader in
    let f = subst (FitsIn (context_of items)) h.is fits in
    let e = c.in_ok-declare-in-StreamHeader.ensures in
    subst (λ (x : Chunk). Knows (items ++ (c.args.at, x) ∷ []) c.declare.new.self) (sym h.is) (knows_header items c.args.at h.id h.doc c.args.self.now c.declare.new.self k f.1 f.0 f.2 e.streams e.begun e.ledger)

pub returns-in-Samples-clause-bad : goal.returns-in-Samples-clause-bad
returns-in-Samples-clause-bad c = λ items k fits.
    let s = c.in-Samples in
    let f = subst (FitsIn (context_of items)) s.is fits in
    c.take_samples.ensures.bad ∙ bad_is items c.args.at s.id s.samples c.args.self.now c.args.self.now k f.0 f.1 ∙ ap (has_bad_sample (chunks_in items)) (sym s.is)

pub returns-in-Samples-clause-knows : goal.returns-in-Samples-clause-knows
returns-in-Samples-clause-knows c = λ items k fits.
    let s = c.in-Samples in
    let f = subst (FitsIn (context_of items)) s.is fits in
    let e = c.take_samples.ensures in
    subst (λ (x : Chunk). Knows (items ++ (c.args.at, x) ∷ []) c.take_samples.new.self) (sym s.is) (knows_samples items c.args.at s.id s.samples c.args.self.now c.take_samples.new.self k f.0 f.1 e.streams e.begun e.ledger)

pub returns-in-StreamFooter-clause-knows : goal.returns-in-StreamFooter-clause-knows
returns-in-StreamFooter-clause-knows c = λ items k fits.
    let s = c.in-StreamFooter in
    let f = subst (FitsIn (context_of items)) s.is fits in
    let e = c.close.ensures in
    subst (λ (x : Chunk). Knows (items ++ (c.args.at, x) ∷ []) c.close.new.self) (sym s.is) (knows_footer items c.args.at s.id s.doc c.args.self.now c.close.new.self k f.0 f.1 e.streams e.begun e.ledger)

pub returns-in_default-clause-knows : goal.returns-in_default-clause-knows
returns-in_default-clause-knows c = λ items k fits. knows_rest items c.args.at c.args.chunk.now c.args.self.now k c.in_default.not-FileHeader c.in_default.not-StreamHeader c.in_default.not-Samples c.in_default.not-StreamFooter
