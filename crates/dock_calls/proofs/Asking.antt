-- What was asked for, and then some more.
use Rattle.std.proofs.Common.{◌≡◌, ℕ, ◌+◌, ◌≤◌, List, [], ◌++◌, length, take, Option, None, Some, sym, ap, ◌∙◌, subst, arith, append_assoc, append-nil, length-append, min}
use Rattle.std.proofs.Math.Seq.{take-append_seam, take-append-add}
use Rattle.std.proofs.lemmas.List.{take-append-le, take_min}
use Rattle.rec_base.specs.declared.asked.Asked.{Asked}
use Rattle.rec_base.specs.Asked.{AsksAll, AsksFront}
use Rattle.dock_calls.specs.Asking.{FailsAt}

-- nothing was asked for
pub AsksAll-none : (a : Option (List Asked)) → AsksAll a a []
AsksAll-none None = tt
AsksAll-none (Some xs) = sym (append-nil xs)

-- some were asked for, and some more
pub AsksAll-more : (a b c : Option (List Asked)) (xs ys : List Asked) → AsksAll a b xs → AsksAll b c ys → AsksAll a c (xs ++ ys)
AsksAll-more a b None xs ys first second = tt
AsksAll-more a None (Some zs) xs ys first second = absurd second
AsksAll-more None (Some us) (Some zs) xs ys first second = absurd first
AsksAll-more (Some ts) (Some us) (Some zs) xs ys first second = second ∙ ap (λ (l : List Asked). l ++ ys) first ∙ append_assoc ts xs ys

-- some were asked for, and a front of some more
pub AsksFront-more : (a b c : Option (List Asked)) (xs ys : List Asked) → AsksAll a b xs → AsksFront b c ys → AsksFront a c (xs ++ ys)
AsksFront-more a b c xs ys first second =
    (length xs + second.0, subst (λ (l : List Asked). AsksAll a c l) (sym (take-append-add xs ys second.0)) (AsksAll-more a b c xs (take second.0 ys) first second.1))

-- all of them are a front, whatever follows
pub AsksFront-all : (a b : Option (List Asked)) (xs ys : List Asked) → AsksAll a b xs → AsksFront a b (xs ++ ys)
AsksFront-all a b xs ys all = (length xs, subst (λ (l : List Asked). AsksAll a b l) (sym (take-append_seam xs ys)) all)

-- a front is one, whatever follows
pub AsksFront-longer : (a b : Option (List Asked)) (xs ys : List Asked) → AsksFront a b xs → AsksFront a b (xs ++ ys)
AsksFront-longer a b xs ys front =
    let within : min front.0 (length xs) ≤ length xs = omega arith in
    let same : take (min front.0 (length xs)) (xs ++ ys) ≡ take front.0 xs = take-append-le (min front.0 (length xs)) xs ys within ∙ take_min front.0 xs in
    (min front.0 (length xs), subst (λ (l : List Asked). AsksAll a b l) (sym same) front.1)

-- what failed behind some others
pub FailsAt-behind : (a b c : Option (List Asked)) (xs ys : List Asked) (before now : ℕ) → AsksAll a b xs → FailsAt b c ys before now → FailsAt a c (xs ++ ys) before now
FailsAt-behind a b c xs ys before now first failed = record {
  count = length xs + failed.count;
  some = let more = failed.some in omega (arith, more, length-append xs ys);
  asks =
      let n : length xs + failed.count + 1 ≡ length xs + (failed.count + 1) = omega arith in
      let same : take (length xs + failed.count + 1) (xs ++ ys) ≡ xs ++ take (failed.count + 1) ys = ap (λ (k : ℕ). take k (xs ++ ys)) n ∙ take-append-add xs ys (failed.count + 1) in
      subst (λ (l : List Asked). AsksAll a c l) (sym same) (AsksAll-more a b c xs (take (failed.count + 1) ys) first failed.asks);
  rose = failed.rose;
}

-- what failed before some others
pub FailsAt-longer : (a b : Option (List Asked)) (xs ys : List Asked) (before now : ℕ) → FailsAt a b xs before now → FailsAt a b (xs ++ ys) before now
FailsAt-longer a b xs ys before now failed = record {
  count = failed.count;
  some = let more = failed.some in omega (arith, more, length-append xs ys);
  asks =
      let more = failed.some in
      let within : failed.count + 1 ≤ length xs = omega (arith, more) in
      subst (λ (l : List Asked). AsksAll a b l) (sym (take-append-le (failed.count + 1) xs ys within)) failed.asks;
  rose = failed.rose;
}
