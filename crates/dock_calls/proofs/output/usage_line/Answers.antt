use Rattle.std.proofs.Common.{rules, ◌≡◌, ℕ, List, [], ◌∷◌, ◌++◌, codes, sym, ap, ◌∙◌, ◌+◌, arith}
use Rattle.std.specs.Fmt.{decimal}
use Rattle.std.proofs.lemmas.Fmt.{decimal-digits_of}
use Rattle.dock_calls.proofs.output.usage_line.Goals as goal

line_of : (n d : ℕ) → decimal d ≡ (48 + d) ∷ [] → n ≡ d → codes "fault 2 usage " ++ ((48 + d) ∷ []) ≡ codes "fault 2 usage " ++ decimal n
line_of n d one is = ap (λ (t : List ℕ). codes "fault 2 usage " ++ t) (sym (ap decimal is ∙ one))

pub returns-in-1 : goal.returns-in-1
returns-in-1 c = line_of c.args.why 1 (decimal-digits_of 1 (omega arith) (omega arith)) c.in-1.is

pub returns-in-2 : goal.returns-in-2
returns-in-2 c = line_of c.args.why 2 (decimal-digits_of 2 (omega arith) (omega arith)) c.in-2.is

pub returns-in-3 : goal.returns-in-3
returns-in-3 c = line_of c.args.why 3 (decimal-digits_of 3 (omega arith) (omega arith)) c.in-3.is

pub returns-in-4 : goal.returns-in-4
returns-in-4 c = line_of c.args.why 4 (decimal-digits_of 4 (omega arith) (omega arith)) c.in-4.is

pub returns-in_default : goal.returns-in_default
returns-in_default c = let is : c.args.why ≡ 5 = search rules in line_of c.args.why 5 (decimal-digits_of 5 (omega arith) (omega arith)) is
