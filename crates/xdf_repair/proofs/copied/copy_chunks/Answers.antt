use Rattle.std.proofs.Common.{arith, refl, ◌∙◌}
use Rattle.xdf_repair.proofs.Copies.{copied_all, cut_chunk, cut_waiting, front_failed, gathered_end, gathered_magic, gathered_more, gathered_stop, goes_more, no_fault, none_stands, stop_so, went_well}
use Rattle.xdf_repair.proofs.copied.copy_chunks.Goals as goal

pub chunks-init : goal.chunks-init
chunks-init g c =
    record {
      gathered = gathered_magic _ _ c.args.reader.now.file c.args.reader.now.skipped _ c.requires.fresh c.put_behind-waiting.ensures.bytes;
      within = omega (arith, c.put_behind-waiting.ensures.count, c.put_behind-waiting.ensures.size);
      goes = c.requires.fresh.0;
      limit = refl;
      skipped = c.requires.fresh.4;
      read_quiet = refl;
      write_quiet = refl;
      marked = refl;
      rest = refl;
    }

pub returns-in-Err-clause-err : goal.returns-in-Err-clause-err
returns-in-Err-clause-err g c =
    let now = c.chunks.reader.file in
    let new = c.pass.new.self.file in
    cut_chunk _ _ _ _ _ now new c.chunks.chunks c.chunks.bytes _ c.chunks.invariant.gathered c.pass.ensures.keeps _ c.pass.ensures.chunk _ c.last_bytes-text.result.now (c.in-Copy.ensures now.context new.last) c.last_bytes-text.ensures c.in-Err.ensures.front

pub chunks-preserved : goal.chunks-preserved
chunks-preserved g c =
    let i = c.chunks.invariant in
    let now = c.chunks.reader.file in
    let new = c.pass.new.self.file in
    let turn = c.in-Copy.ensures now.context new.last in
    record {
      gathered = gathered_more _ _ _ _ _ now new c.chunks.chunks c.chunks.bytes _ i.gathered c.pass.ensures.keeps _ c.pass.ensures.chunk _ c.last_bytes-text.result.now _ turn c.last_bytes-text.ensures c.in-Ok.ensures.gathers;
      within = c.in-Ok.ensures.within;
      goes = goes_more now new _ _ _ turn c.pass.ensures.answer;
      limit = c.pass.ensures.limit ∙ i.limit;
      skipped = c.pass.ensures.skipped ∙ i.skipped;
      read_quiet = c.pass.ensures.cause.quiet (λ h. no_fault now.context new.last _ _ turn (λ e. absurd cc) h.1) ∙ i.read_quiet;
      write_quiet = c.in-Ok.ensures.cause.quiet ∙ i.write_quiet;
      marked = c.pass.ensures.marked ∙ i.marked;
      rest = c.gather.ensures.rest ∙ i.rest;
    }

pub returns-then-is_err-clause-err : goal.returns-then-is_err-clause-err
returns-then-is_err-clause-err g c =
    let now = c.chunks.reader.file in
    let new = c.pass.new.self.file in
    let met = gathered_end _ _ _ _ _ now new c.chunks.chunks c.chunks.bytes _ c.chunks.invariant.gathered c.pass.ensures.keeps _ c.pass.ensures.chunk (c.in-Skip.ensures now.context new.last) in
    cut_waiting _ _ _ _ new _ _ _ met _ (front_failed _ _ _ c.write_all_of.result c.if-is_err.ensures.value c.write_all_of.ensures.err)

pub returns-in-Skip-clause-copied : goal.returns-in-Skip-clause-copied
returns-in-Skip-clause-copied g c =
    let now = c.chunks.reader.file in
    let new = c.pass.new.self.file in
    let met = gathered_end _ _ _ _ _ now new c.chunks.chunks c.chunks.bytes _ c.chunks.invariant.gathered c.pass.ensures.keeps _ c.pass.ensures.chunk (c.in-Skip.ensures now.context new.last) in
    copied_all _ _ _ _ new _ _ _ met _ (went_well c.write_all_of.result c.if-is_err.ensures.value c.write_all_of.ensures.ok)

pub returns-in-Skip-clause-all : goal.returns-in-Skip-clause-all
returns-in-Skip-clause-all g c =
    let now = c.chunks.reader.file in
    let new = c.pass.new.self.file in
    none_stands new _ (c.in-Skip.ensures now.context new.last) (c.pass.ensures.tells c.chunks.invariant.goes)

pub returns-then-is_err-2-clause-err : goal.returns-then-is_err-2-clause-err
returns-then-is_err-2-clause-err g c =
    let now = c.chunks.reader.file in
    let new = c.pass.new.self.file in
    let met = gathered_stop _ _ _ _ _ now new c.chunks.chunks c.chunks.bytes _ c.chunks.invariant.gathered c.pass.ensures.keeps _ c.pass.ensures.chunk c.in-Stop.fault (c.in-Stop.ensures now.context new.last) in
    cut_waiting _ _ _ _ new _ _ _ met _ (front_failed _ _ _ c.write_all_of-in-Stop.result c.if-is_err-2.ensures.value c.write_all_of-in-Stop.ensures.err)

pub returns-in-Stop-clause-err : goal.returns-in-Stop-clause-err
returns-in-Stop-clause-err g c =
    let i = c.chunks.invariant in
    let now = c.chunks.reader.file in
    let new = c.pass.new.self.file in
    let turn = c.in-Stop.ensures now.context new.last in
    let met = gathered_stop _ _ _ _ _ now new c.chunks.chunks c.chunks.bytes _ i.gathered c.pass.ensures.keeps _ c.pass.ensures.chunk c.in-Stop.fault turn in
    let copied = copied_all _ _ _ _ new _ _ _ met _ (went_well c.write_all_of-in-Stop.result c.if-is_err-2.ensures.value c.write_all_of-in-Stop.ensures.ok) in
    stop_so _ _ _ _ new _ _ copied _ c.in-Stop.fault _ turn (c.pass.ensures.limit ∙ i.limit) (c.pass.ensures.tells i.goes)
