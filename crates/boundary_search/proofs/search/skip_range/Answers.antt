use Rattle.std.proofs.Common.{◌≡◌, ℕ, ◌-◌, List, Some, None, length, refl, sym, ap, ◌∙◌, subst, arith, inr}
use Rattle.std.proofs.Common.{true, false}
use Rattle.file_reader.specs.FileInlet.{without_front}
use Rattle.std.specs.Io.KnownBytes.{Consumes, Keeps}
use Rattle.boundary_search.specs.Parts.{FindsBoundary}
use Rattle.boundary_search.specs.Salvage.{IsGonePast, counted}
use Rattle.boundary_search.proofs.Searching.{all_range, begins, broken, empty_of, found_range, goes_further, past_limit}
use Rattle.boundary_search.proofs.search.skip_range.Goals as goal

pub pieces-init : goal.pieces-init
pieces-init g c = record {
  searching = begins (g.S.Source.left c.args.reader.now.source) c.args.ended.now c.args.reader.now.file c.requires.stands;
  closed = λ t. grind arith;
  still = λ t. refl;
  quiet = refl;
  marked = refl;
}

pub returns-in-Some-clause-searched : goal.returns-in-Some-clause-searched
returns-in-Some-clause-searched g c =
    let h = subst (λ (l : List ℕ). FindsBoundary l 0 (Some c.in-Some.place)) c.counted-bytes.ensures c.in-Some.ensures in
    subst (λ s. IsGonePast (g.S.Source.left c.args.reader.now.source) (g.S.Source.left s) c.args.ended.now c.pieces.ended c.args.reader.now.file c.leave.new.self.file) (sym c.leave.ensures.source)
    (found_range _ _ c.args.ended.now c.pieces.ended c.args.reader.now.file c.pieces.reader.file c.pieces.invariant.searching c.requires.stands c.in-Some.place c.leave.new.self.file h c.leave.ensures.file)

pub returns-then-is_past_limit-clause-searched : goal.returns-then-is_past_limit-clause-searched
returns-then-is_past_limit-clause-searched g c =
    let h = subst (λ (l : List ℕ). FindsBoundary l 0 None) c.counted-bytes.ensures c.in_default.ensures in
    past_limit _ _ c.args.ended.now c.pieces.ended c.args.reader.now.file c.pieces.reader.file c.pieces.invariant.searching c.requires.stands h (c.is_past_limit.ensures.past c.if-is_past_limit.true)

pub returns-then-ended-clause-searched : goal.returns-then-ended-clause-searched
returns-then-ended-clause-searched g c =
    let h = subst (λ (l : List ℕ). FindsBoundary l 0 None) c.counted-bytes.ensures c.in_default.ensures in
    let is : c.leave-then-ended.new.self.file ≡ without_front (length (counted c.pieces.reader.file)) c.pieces.reader.file =
    c.leave-then-ended.ensures.file ∙ ap (λ (l : List ℕ). without_front (length l) c.pieces.reader.file) c.counted-bytes.ensures in
    subst (λ s. IsGonePast (g.S.Source.left c.args.reader.now.source) (g.S.Source.left s) c.args.ended.now c.pieces.ended c.args.reader.now.file c.leave-then-ended.new.self.file) (sym c.leave-then-ended.ensures.source)
    (all_range _ _ c.args.ended.now c.pieces.ended c.args.reader.now.file c.pieces.reader.file c.pieces.invariant.searching c.requires.stands c.leave-then-ended.new.self.file c.if-ended.true h is)

pub pieces-preserved-in-Ok-eq0 : goal.pieces-preserved-in-Ok-eq0
pieces-preserved-in-Ok-eq0 g c =
    let h = subst (λ (l : List ℕ). FindsBoundary l 0 None) c.counted-bytes.ensures c.in_default.ensures in
    let is : c.leave-in-pieces.new.self.file ≡ without_front (length (counted c.pieces.reader.file) - 15) c.pieces.reader.file =
    c.leave-in-pieces.ensures.file ∙ ap (λ (n : ℕ). without_front n c.pieces.reader.file) (c.saturating_sub.ensures ∙ ap (λ (l : List ℕ). length l - 15) c.counted-bytes.ensures) in
    let more = c.in-Ok-eq0.ensures.gains in
    let lost = subst (λ s. Consumes (g.S.Source.left s) (g.S.Source.left c.take_behind.new.self.source) more.0) c.leave-in-pieces.ensures.source more.1 in
    record {
      searching = goes_further _ _ c.args.ended.now c.pieces.ended c.args.reader.now.file c.pieces.reader.file c.pieces.invariant.searching c.requires.stands c.leave-in-pieces.new.self.file c.if-ended.false h (c.is_past_limit.ensures.within c.if-is_past_limit.false) is
          (g.S.Source.left c.take_behind.new.self.source) more.0 c.take_behind.new.self.file true lost more.3 (λ t. empty_of more.0 (more.2 ∙ c.in-Ok-eq0.field-0-test));
      closed = λ t. inr (c.in-Ok-eq0.ensures.end c.in-Ok-eq0.field-0-test);
      still = λ t. let wrong : true ≡ false = sym (c.pieces.invariant.searching.later t) ∙ c.if-ended.false in absurd cc;
      quiet = c.in-Ok-eq0.ensures.failed.quiet ∙ ap (λ s. g.S.Source.faults s) c.leave-in-pieces.ensures.source ∙ c.pieces.invariant.quiet;
      marked = c.take_behind.ensures.marked ∙ ap (λ s. g.S.Source.mark s) c.leave-in-pieces.ensures.source ∙ c.pieces.invariant.marked;
    }

pub pieces-preserved : goal.pieces-preserved
pieces-preserved g c =
    let h = subst (λ (l : List ℕ). FindsBoundary l 0 None) c.counted-bytes.ensures c.in_default.ensures in
    let is : c.leave-in-pieces.new.self.file ≡ without_front (length (counted c.pieces.reader.file) - 15) c.pieces.reader.file =
    c.leave-in-pieces.ensures.file ∙ ap (λ (n : ℕ). without_front n c.pieces.reader.file) (c.saturating_sub.ensures ∙ ap (λ (l : List ℕ). length l - 15) c.counted-bytes.ensures) in
    let more = c.in-Ok.ensures.gains in
    let lost = subst (λ s. Consumes (g.S.Source.left s) (g.S.Source.left c.take_behind.new.self.source) more.0) c.leave-in-pieces.ensures.source more.1 in
    record {
      searching = goes_further _ _ c.args.ended.now c.pieces.ended c.args.reader.now.file c.pieces.reader.file c.pieces.invariant.searching c.requires.stands c.leave-in-pieces.new.self.file c.if-ended.false h (c.is_past_limit.ensures.within c.if-is_past_limit.false) is
          (g.S.Source.left c.take_behind.new.self.source) more.0 c.take_behind.new.self.file c.pieces.ended lost more.3 (λ t. let wrong : true ≡ false = sym t ∙ c.if-ended.false in absurd cc);
      closed = λ t. let wrong : true ≡ false = sym t ∙ c.if-ended.false in absurd cc;
      still = λ t. let wrong : true ≡ false = sym (c.pieces.invariant.searching.later t) ∙ c.if-ended.false in absurd cc;
      quiet = c.in-Ok.ensures.failed.quiet ∙ ap (λ s. g.S.Source.faults s) c.leave-in-pieces.ensures.source ∙ c.pieces.invariant.quiet;
      marked = c.take_behind.ensures.marked ∙ ap (λ s. g.S.Source.mark s) c.leave-in-pieces.ensures.source ∙ c.pieces.invariant.marked;
    }

pub returns-in-Err-clause-searched : goal.returns-in-Err-clause-searched
returns-in-Err-clause-searched g c =
    let h = subst (λ (l : List ℕ). FindsBoundary l 0 None) c.counted-bytes.ensures c.in_default.ensures in
    let is : c.leave-in-pieces.new.self.file ≡ without_front (length (counted c.pieces.reader.file) - 15) c.pieces.reader.file =
    c.leave-in-pieces.ensures.file ∙ ap (λ (n : ℕ). without_front n c.pieces.reader.file) (c.saturating_sub.ensures ∙ ap (λ (l : List ℕ). length l - 15) c.counted-bytes.ensures) in
    let kept = subst (λ s. Keeps (g.S.Source.left s) (g.S.Source.left c.take_behind.new.self.source)) c.leave-in-pieces.ensures.source c.in-Err.ensures.left in
    broken _ _ c.args.ended.now c.pieces.ended c.args.reader.now.file c.pieces.reader.file c.pieces.invariant.searching c.requires.stands c.leave-in-pieces.new.self.file c.if-ended.false h (c.is_past_limit.ensures.within c.if-is_past_limit.false) is
    (g.S.Source.left c.take_behind.new.self.source) c.take_behind.new.self.file kept c.in-Err.ensures.kept
