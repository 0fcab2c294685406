use Rattle.std.proofs.Common.{Bool, sym, ◌∙◌, subst}
use Rattle.std.specs.Prelude.{IsTrue}
use Rattle.boundary_search.specs.Salvage.{IsGonePast}
use Rattle.boundary_search.specs.Searching.{NoneStands}
use Rattle.boundary_search.proofs.Following.{IsStopped, at_torn, at_bad, faulted, none_bad, none_given, none_torn, past_both, read_bad, read_torn}
use Rattle.boundary_search.proofs.follow.follow.Goals as goal
use Rattle.boundary_search.proofs.follow.follow.Goals.{in-Torn, in-Bad}

pub skip_range-requires : goal.skip_range-requires
skip_range-requires g c =
    let read = c.requires.read in
    let left = g.S.Source.left c.args.reader.now.source in
    let mid = c.args.reader.now.file in
    record {
      stands = elim c.match-passed.branch [
        | in-Torn w ↦
            subst (λ (e : Bool). NoneStands e mid) (sym w.ended-is)
            (none_torn read.0 left c.args.ended.now read.1 mid w.in-Torn.at w.in-Torn.left (read_torn read.0 left c.args.ended.now read.1 mid c.args.passed w.in-Torn.at w.in-Torn.left w.in-Torn.is read.2) c.requires.low)
        | in-Bad w ↦
            subst (λ (e : Bool). NoneStands e mid) (sym w.ended-is)
            (none_bad read.0 left c.args.ended.now read.1 mid w.in-Bad.at w.in-Bad.why (read_bad read.0 left c.args.ended.now read.1 mid c.args.passed w.in-Bad.at w.in-Bad.why w.in-Bad.is read.2) c.requires.low c.requires.within)
      ];
    }

pub returns-in-Ok-clause-found : goal.returns-in-Ok-clause-found
returns-in-Ok-clause-found g c = λ before old same read.
    let left = g.S.Source.left c.args.reader.now.source in
    let mid = c.args.reader.now.file in
    let stopped : IsStopped c.args.passed = elim c.match-passed.branch [
      | in-Torn w ↦ at_torn w.in-Torn.at w.in-Torn.left w.in-Torn.is
      | in-Bad w ↦ at_bad w.in-Bad.at w.in-Bad.why w.in-Bad.is
    ] in
    let later : IsTrue c.args.ended.now → IsTrue c.match-passed.ended = elim c.match-passed.branch [
      | in-Torn w ↦ λ t. w.ended-is
      | in-Bad w ↦ λ t. w.ended-is ∙ t
    ] in
    let none = none_given before left c.args.ended.now old.file mid c.args.passed stopped read in
    record {
      past = subst (λ (e : Bool). IsGonePast before (g.S.Source.left c.skip_range.new.reader.source) e c.skip_range.new.ended old.file c.skip_range.new.reader.file) (sym same)
          (past_both before left (g.S.Source.left c.skip_range.new.reader.source) c.args.ended.now c.match-passed.ended old.file mid c.skip_range.new.reader.file read.goes none.0 none.2 later c.skip_range.new.ended c.in-Ok.ensures.searched);
      begins = c.place-from.ensures ∙ none.1;
      ends = c.place.ensures;
      goes_on = c.requires.none;
    }

pub returns-in-Err-clause-found : goal.returns-in-Err-clause-found
returns-in-Err-clause-found g c = λ before old same read.
    let left = g.S.Source.left c.args.reader.now.source in
    let mid = c.args.reader.now.file in
    let stopped : IsStopped c.args.passed = elim c.match-passed.branch [
      | in-Torn w ↦ at_torn w.in-Torn.at w.in-Torn.left w.in-Torn.is
      | in-Bad w ↦ at_bad w.in-Bad.at w.in-Bad.why w.in-Bad.is
    ] in
    let later : IsTrue c.args.ended.now → IsTrue c.match-passed.ended = elim c.match-passed.branch [
      | in-Torn w ↦ λ t. w.ended-is
      | in-Bad w ↦ λ t. w.ended-is ∙ t
    ] in
    let none = none_given before left c.args.ended.now old.file mid c.args.passed stopped read in
    let given = faulted before left (g.S.Source.left c.skip_range.new.reader.source) c.args.ended.now c.match-passed.ended c.skip_range.new.ended old mid c.skip_range.new.reader.file c.skip_range.new.reader.source c.in-Err.fault same read.goes none.0 none.2 later c.in-Err.ensures.searched in
    rw c.told_end.ensures given
