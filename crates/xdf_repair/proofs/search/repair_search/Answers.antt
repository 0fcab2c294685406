use Rattle.std.proofs.Common.{arith, refl, sym, subst, ◌∙◌}
use Rattle.xdf_repair.specs.declared.repaired.Repaired.{Repaired}
use Rattle.xdf_repair.specs.Search.{SearchedSo}
use Rattle.xdf_repair.proofs.Copies.{front_all, front_failed, went_well}
use Rattle.xdf_repair.proofs.Searches.{cut_behind, cut_chunk, done_so, fault_so, found_goes, gathered_chunk, gathered_magic, gathered_range, limit_so, searched_loses, written_all, written_front}
use Rattle.xdf_repair.proofs.search.repair_search.Goals as goal
use Rattle.xdf_repair.proofs.search.repair_search.Goals.{in-End, in-ReadFault, in-SizeLimit, in-Memory}

pub parts-init : goal.parts-init
parts-init g c = record {
  gathered = gathered_magic _ _ c.args.salvager.now _ c.requires.fresh c.put_behind-waiting.ensures.bytes;
  within = omega (arith, c.put_behind-waiting.ensures.count, c.put_behind-waiting.ensures.size);
  goes = c.requires.fresh.5;
  limit = refl;
  read_quiet = refl;
  write_quiet = refl;
  marked = refl;
  rest = refl;
}

pub returns-in-Err-clause-repaired : goal.returns-in-Err-clause-repaired
returns-in-Err-clause-repaired g c =
    let i = c.parts.invariant in
    cut_chunk g.S.Source.left _ _ _ c.parts.salvager c.pass.new.self c.parts.chunks c.parts.bytes c.parts.skipped _ i.gathered c.pass.ensures.closed c.pass.ensures.still
    c.in-Chunk.at (c.in-Chunk.ensures.found i.goes) c.last_bytes-text.result.now c.last_bytes-text.ensures _ c.in-Err.ensures.front

pub returns-in-Err-clause-left : goal.returns-in-Err-clause-left
returns-in-Err-clause-left g c = let r = returns-in-Err-clause-repaired g c in (r.taken, r.lost)

pub parts-preserved-in-Chunk : goal.parts-preserved-in-Chunk
parts-preserved-in-Chunk g c =
    let i = c.parts.invariant in
    let h = c.in-Chunk.ensures.found i.goes in
    record {
      gathered =
          gathered_chunk g.S.Source.left _ _ _ c.parts.salvager c.pass.new.self c.parts.chunks c.parts.bytes c.parts.skipped _ i.gathered c.pass.ensures.closed c.pass.ensures.still
          c.in-Chunk.at h c.last_bytes-text.result.now c.last_bytes-text.ensures _ _ c.in-Ok.ensures.gathers;
      within = c.in-Ok.ensures.within;
      goes = h.goes_on;
      limit = h.goes.limit ∙ i.limit;
      read_quiet = c.in-Chunk.ensures.cause.quiet (λ h. absurd (cc h.1)) ∙ i.read_quiet;
      write_quiet = c.in-Ok.ensures.cause.quiet ∙ i.write_quiet;
      marked = c.pass.ensures.marked ∙ i.marked;
      rest = c.gather.ensures.rest ∙ i.rest;
    }

pub parts-preserved : goal.parts-preserved
parts-preserved g c =
    let i = c.parts.invariant in
    let h = c.in-Skipped.ensures.found i.goes in
    record {
      gathered =
          gathered_range g.S.Source.left _ _ _ c.parts.salvager c.pass.new.self c.parts.chunks c.parts.bytes c.parts.skipped _ i.gathered c.pass.ensures.closed c.pass.ensures.still
          c.in-Skipped.from c.in-Skipped.to h;
      within = i.within;
      goes = h.goes_on;
      limit = h.past.goes.limit ∙ i.limit;
      read_quiet = c.in-Skipped.ensures.cause.quiet (λ h. absurd (cc h.1)) ∙ i.read_quiet;
      write_quiet = i.write_quiet;
      marked = c.pass.ensures.marked ∙ i.marked;
      rest = i.rest;
    }

pub returns-then-is_err-clause-repaired : goal.returns-then-is_err-clause-repaired
returns-then-is_err-clause-repaired g c =
    let i = c.parts.invariant in
    let goes = found_goes _ _ c.parts.salvager c.pass.new.self c.pass.result (c.pass.ensures.found i.goes) in
    cut_behind g.S.Source.left _ c.parts.salvager c.pass.new.self c.parts.chunks c.parts.bytes c.parts.skipped i.gathered.passed goes.0 goes.1 c.pass.ensures.still _ _
    (written_front _ _ _ _ _ _ _ _ _ _ i.gathered _ (front_failed _ _ _ c.write_all_of.result c.if-is_err.ensures.value c.write_all_of.ensures.err))

pub returns-then-is_err-clause-left : goal.returns-then-is_err-clause-left
returns-then-is_err-clause-left g c = let r = returns-then-is_err-clause-repaired g c in (r.taken, r.lost)

pub returns-clause-repaired : goal.returns-clause-repaired
returns-clause-repaired g c =
    let i = c.parts.invariant in
    let k = i.gathered.passed in
    let all = written_all _ _ _ _ _ _ _ _ _ _ i.gathered _ (went_well c.write_all_of.result c.if-is_err.ensures.value c.write_all_of.ensures.ok) in
    let P : Repaired → Type 0 =
    λ r. SearchedSo (g.S.Source.left c.args.salvager.now.source) (g.S.Source.left c.pass.new.self.source) (g.K.Sink.held c.args.sink.now) (g.K.Sink.held c.write_all_of.new.sink) c.args.salvager.now.file.byte_limit r in
    elim c.match-pass.branch [
      | in-End w ↦
          subst P (sym w.repaired-is)
          (done_so g.S.Source.left _ c.parts.salvager c.pass.new.self _ _ _ k c.pass.ensures.closed c.pass.ensures.still _ _ _ i.limit (w.in-End.ensures.found i.goes) all)
      | in-ReadFault w ↦
          subst P (sym w.repaired-is) (fault_so g.S.Source.left _ c.parts.salvager c.pass.new.self _ _ _ k c.pass.ensures.still _ _ _ i.limit (w.in-ReadFault.ensures.found i.goes).0 all)
      | in-SizeLimit w ↦
          subst P (sym w.repaired-is) (limit_so g.S.Source.left _ c.parts.salvager c.pass.new.self _ _ _ k c.pass.ensures.still _ _ _ i.limit (c.pass.ensures.low i.goes) (w.in-SizeLimit.ensures.found i.goes).0 all)
      | in-Memory w ↦
          subst P (sym w.repaired-is)
          (cut_behind g.S.Source.left _ c.parts.salvager c.pass.new.self _ _ _ k _ (w.in-Memory.ensures.found i.goes).goes c.pass.ensures.still _ _ (front_all _ _ _ all))
    ]

pub returns-clause-left : goal.returns-clause-left
returns-clause-left g c = searched_loses _ _ _ _ _ c.match-pass.repaired (returns-clause-repaired g c)
