use Rattle.std.proofs.Common.{◌≡◌, true, take}
use Rattle.std.specs.List.{list_all}
use Rattle.record_call.specs.Ends.{is_complete}
use Rattle.record_call.proofs.end.are_complete.Given as goal

abbrev pub invariant-loop-i : goal.invariant-loop-i
invariant-loop-i l = list_all (λ x. is_complete x.end) (take l.i l.reports) ≡ true
