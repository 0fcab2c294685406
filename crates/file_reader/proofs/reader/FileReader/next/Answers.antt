use Rattle.std.proofs.Common.{ap, refl, subst, sym, ◌∙◌}
use Rattle.reading_model.specs.Outlook.{Answered}
use Rattle.file_model.specs.declared.next.Next.{Next}
use Rattle.file_model.specs.Reader.{file_kind}
use Rattle.file_reader.specs.FileInlet.{IsGiven, IsSameEnd, Stops, Tells, got, outlook}
use Rattle.file_reader.specs.AsNext.{as_next}
use Rattle.file_reader.proofs.Outlooks.{passed_fault}
use Rattle.file_reader.proofs.reader.FileReader.next.Goals as goal

pub returns-clause-answer : goal.returns-clause-answer
returns-clause-answer g c =
    let old = c.args.self.now in
    let new = c.go_on-passed.new.self in
    let is = c.next_with.ensures old.file.context new.file.last (c.go_on-passed.ensures.value refl) in
    subst (λ (n : Next). Answered file_kind (outlook old.file) (outlook new.file) (g.S.Source.left old.source) (g.S.Source.left new.source) (got n)) (sym is) c.go_on-passed.ensures.answer

pub returns-clause-chunk : goal.returns-clause-chunk
returns-clause-chunk g c =
    let old = c.args.self.now in
    let new = c.go_on-passed.new.self in
    let is = c.next_with.ensures old.file.context new.file.last (c.go_on-passed.ensures.value refl) in
    subst (λ (n : Next). IsGiven old.file new.file n) (sym is) c.go_on-passed.ensures.chunk

pub returns-clause-same_end : goal.returns-clause-same_end
returns-clause-same_end g c = λ over.
    let old = c.args.self.now in
    let new = c.go_on-passed.new.self in
    let is = c.next_with.ensures old.file.context new.file.last (c.go_on-passed.ensures.value refl) in
    subst (λ (n : Next). IsSameEnd old.file.reading n) (sym is) (c.go_on-passed.ensures.same_end over)

pub returns-clause-cause : goal.returns-clause-cause
returns-clause-cause g c =
    let old = c.args.self.now in
    let new = c.go_on-passed.new.self in
    let is = c.next_with.ensures old.file.context new.file.last (c.go_on-passed.ensures.value refl) in
    let cause = c.go_on-passed.ensures.cause in
    record {
      later = cause.later;
      rose = λ h. cause.rose (h.0, passed_fault _ _ _ (sym is ∙ h.1));
      quiet = λ none. cause.quiet (λ h. none (h.0, is ∙ ap (as_next old.file.context new.file.last) h.1));
    }

pub returns-clause-tells : goal.returns-clause-tells
returns-clause-tells g c = λ goes.
    let old = c.args.self.now in
    let new = c.go_on-passed.new.self in
    let is = c.next_with.ensures old.file.context new.file.last (c.go_on-passed.ensures.value refl) in
    subst (λ (n : Next). Tells new.file n) (sym is) (c.go_on-passed.ensures.tells goes)

pub returns-clause-stops : goal.returns-clause-stops
returns-clause-stops g c = λ goes.
    let old = c.args.self.now in
    let new = c.go_on-passed.new.self in
    let is = c.next_with.ensures old.file.context new.file.last (c.go_on-passed.ensures.value refl) in
    subst (λ (n : Next). Stops (g.S.Source.left new.source) new.file n) (sym is) (c.go_on-passed.ensures.stops goes)
