use Rattle.std.proofs.Common.{◌≡◌, Some, None, refl, sym, ap, ◌∙◌, subst, ⊎_elim, arith}
use Rattle.file_model.specs.declared.next.Next.{Next}
use Rattle.file_reader.specs.FileInlet.{FileInlet}
use Rattle.chunk_grammar.specs.Standing.{standing_at}
use Rattle.rec_base.specs.Causes.{Blames}
use Rattle.file_reader.specs.AsNext.{as_next, chunk_of}
use Rattle.boundary_search.specs.declared.step.Salvaged.{Salvaged as Found}
use Rattle.boundary_search.specs.Following.{IsReadSo}
use Rattle.boundary_search.specs.declared.step.SalvageStep.TheVariants as step
use Rattle.boundary_search.specs.declared.step.Salvaged.TheVariants as found
use Rattle.file_reader.proofs.Outlooks.{passed_fault}
use Rattle.boundary_search.specs.Salvage.{IsFound, Salvage, as_step}
use Rattle.boundary_search.proofs.Values.{fault_found, value_of, value_read}
use Rattle.boundary_search.proofs.salvager.Salvager.next.Goals as goal

pub follow-found-requires-clause-read : goal.follow-found-requires-clause-read
follow-found-requires-clause-read g c =
    let before = g.S.Source.left c.self.inside.reader.source in
    let left = g.S.Source.left c.read_value.new.reader.source in
    let read = c.read_value.ensures.read in
    let has = value_read before left c.self.inside.ended c.self.inside.reader.file c.read_value.new.reader.file c.read_value.result read in
    (before, c.self.inside.reader.file, subst (λ (n : Next). IsReadSo before left c.self.inside.ended c.self.inside.reader.file c.read_value.new.reader.file n) (sym (c.parted-passed.ensures.same c.self.inside.reader.file.context c.read_value.new.reader.file.last has)) read)

pub returns-clause-found : goal.returns-clause-found
returns-clause-found g c = λ none.
    let before = g.S.Source.left c.self.inside.reader.source in
    let left = g.S.Source.left c.read_value.new.reader.source in
    let read = c.read_value.ensures.read in
    let context = c.self.inside.reader.file.context in
    let text = c.read_value.new.reader.file.last in
    let has = value_read before left c.self.inside.ended c.self.inside.reader.file c.read_value.new.reader.file c.read_value.result read in
    let same = c.parted-passed.ensures.same context text has in
    let passed = subst (λ (n : Next). IsReadSo before left c.self.inside.ended c.self.inside.reader.file c.read_value.new.reader.file n) (sym same) read in
    let after = c.follow-found.new.reader.file.last in
    let P : Salvage g.row.S.Denot → Type 0 = λ s. (x : Found) × IsFound (g.S.Source.left s.source) (g.S.Source.left c.follow-found.new.reader.source) s (record { source = c.follow-found.new.reader.source; file = c.follow-found.new.reader.file; ended = c.follow-found.new.ended; end = c.follow-found.new.end }) x
    × (c.step_with-2.result ≡ as_step s.file.context after x) in
    subst P c.self.view_is (
      c.follow-found.result,
      c.follow-found.ensures.found before (record { source = c.self.inside.reader.source; file = c.self.inside.reader.file; ended = c.self.inside.ended; end = c.self.inside.end }) refl passed,
      c.step_with-2.ensures context after (λ at is.
          let chunk = c.follow-found.ensures.chunk at is in
          subst (λ (x : FileInlet). c.parted-passed.result.1 ≡ Some (chunk_of (standing_at context x.last))) (sym chunk.1)
          (value_of context text c.parted-passed.result.0 c.read_value.result c.parted-passed.result.1 at same (c.parted-passed.ensures.value context text has) chunk.0)),
    )

pub returns-clause-cause : goal.returns-clause-cause
returns-clause-cause g c =
    let before = g.S.Source.left c.self.inside.reader.source in
    let left = g.S.Source.left c.read_value.new.reader.source in
    let context = c.self.inside.reader.file.context in
    let text = c.read_value.new.reader.file.last in
    let has = value_read before left c.self.inside.ended c.self.inside.reader.file c.read_value.new.reader.file c.read_value.result c.read_value.ensures.read in
    let same = c.parted-passed.ensures.same context text has in
    let after = c.follow-found.new.reader.file.last in
    let stepped = c.step_with-2.ensures context after (λ at is.
    let chunk = c.follow-found.ensures.chunk at is in
    subst (λ (x : FileInlet). c.parted-passed.result.1 ≡ Some (chunk_of (standing_at context x.last))) (sym chunk.1)
    (value_of context text c.parted-passed.result.0 c.read_value.result c.parted-passed.result.1 at same (c.parted-passed.ensures.value context text has) chunk.0)) in
    let first = c.read_value.ensures.cause in
    let then = c.follow-found.ensures in
    let P : Salvage g.row.S.Denot → Type 0 = λ s. Blames ((s.end ≡ None) × (c.step_with-2.result ≡ step.ReadFault)) (g.S.Source.faults s.source) (g.S.Source.faults c.follow-found.new.reader.source) in
    subst P c.self.view_is (record {
      later = omega (arith, first.later, then.later);
      rose = λ h. ⊎_elim
          (λ passed. let rose = first.rose (sym same ∙ ap (as_next context text) passed) in omega (arith, rose, then.later))
          (λ rose. omega (arith, rose, first.later))
          (then.cause (fault_found context after c.follow-found.result (sym stepped ∙ h.1)));
      quiet = λ other.
          let told = λ (is : c.follow-found.result ≡ found.ReadFault). other (c.in_default.is, stepped ∙ ap (as_step context after) is) in
          then.quiet told ∙ first.quiet (λ is. told (then.fault (passed_fault _ _ _ (same ∙ is))));
    })
