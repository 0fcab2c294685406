use Rattle.std.proofs.Common.{rules, ◌<◌, ◌++◌, List, length, take, ◌∙◌, sym, ap}
use Rattle.rec_base.specs.declared.name.Name.{Name}
use Rattle.rec_base.specs.Files.{first_at, without_first}
use Rattle.rec_base.specs.MemSource.{SourceState}
use Rattle.rec_base.proofs.NameFiles.{IsFound-here, IsPassed-here}
use Rattle.rec_base.proofs.take_first.take_first.Goals as goal

pub returns-then-is_same-clause-first : goal.returns-then-is_same-clause-first
returns-then-is_same-clause-first c =
    let within : c.loop-i.i < length c.loop-i.files.items = search rules in
    let found = IsFound-here c.loop-i.files.items c.loop-i.i c.index.result.now c.remove-name.result c.args.name.now within
    c.index.ensures c.remove-name.ensures.value (sym c.is_same.ensures ∙ c.if-is_same.true) in
    sym (ap (λ (fs : List (Name × SourceState)). first_at fs c.args.name.now) (sym c.loop-i.invariant.same) ∙ c.loop-i.invariant.first ∙ found.first)

pub returns-then-is_same-clause-others : goal.returns-then-is_same-clause-others
returns-then-is_same-clause-others c =
    let within : c.loop-i.i < length c.loop-i.files.items = search rules in
    let found = IsFound-here c.loop-i.files.items c.loop-i.i c.index.result.now c.remove-name.result c.args.name.now within
    c.index.ensures c.remove-name.ensures.value (sym c.is_same.ensures ∙ c.if-is_same.true) in
    c.remove-name.ensures.items ∙ ap (λ (fs : List (Name × SourceState)). take c.loop-i.i c.loop-i.files.items ++ fs) (sym found.others)
    ∙ sym c.loop-i.invariant.others ∙ ap (λ (fs : List (Name × SourceState)). without_first fs c.args.name.now) c.loop-i.invariant.same

pub loop-i-preserved : goal.loop-i-preserved
loop-i-preserved c =
    let within : c.loop-i.i < length c.loop-i.files.items = search rules in
    let passed = IsPassed-here c.loop-i.files.items c.loop-i.i c.index.result.now c.args.name.now within c.index.ensures (sym c.is_same.ensures ∙ c.if-is_same.false) in
    record {
      first = c.loop-i.invariant.first ∙ passed.first;
      others = c.loop-i.invariant.others ∙ passed.others;
      same = c.loop-i.invariant.same;
    }
