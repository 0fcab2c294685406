use Rattle.std.proofs.Common.{◌∙◌, ◌+◌, ◌-◌, take, length, ap, refl, arith, length-drop}
use Rattle.piece_reader.specs.Held.{HeldBytes}
use Rattle.feed_samples.specs.Inlet.{InletState}
use Rattle.feed_samples.proofs.Passed.{test_passed, sample_passed, stands_behind, known_behind, free_behind, used_within}
use Rattle.std.proofs.Common.{subst}
use Rattle.xdf_model.specs.declared.types.Shape.{Shape}
use Rattle.xdf_model.specs.Sample.{least_sample_text}
use Rattle.sample_pool.specs.Fills.{FitsGiven}
use Rattle.feed_samples.proofs.kept.Kept.sample_block.Goals as goal

pub returns-then-tests-gt0-clause-does : goal.returns-then-tests-gt0-clause-does
returns-then-tests-gt0-clause-does c =
    let i = c.self.inside in
    let passed = test_passed c.args.self.now i.uid i.shape i.ending i.stage c.args.order c.args.tests i.quota i.place i.held.bytes c.pass.new.self.bytes c.counted-bytes.result.now i.byte_limit i.received c.in-Whole.used c.in-Whole.ensures.fills.0 c.self.view_is
    c.requires.behind (c.if-is_spent.ensures.open refl) (c.counted-bytes.ensures ∙ ap (take (i.byte_limit - i.place)) c.bytes.ensures) (c.in-Whole.ensures.fills.1, c.in-Whole.ensures.fills.2) (ap (λ (h : HeldBytes). h.bytes) c.pass.ensures) c.if-tests-gt0.true in
    passed

pub invariant_of-self-in-Whole : goal.invariant_of-self-in-Whole
invariant_of-self-in-Whole c =
    let i = c.self.inside in
    let size = used_within i.shape c.args.order c.counted-bytes.result.now i.held.bytes (i.byte_limit - i.place) c.in-Whole.used c.in-Whole.ensures.fills.0 (c.counted-bytes.ensures ∙ ap (take (i.byte_limit - i.place)) c.bytes.ensures) (c.in-Whole.ensures.fills.1, c.in-Whole.ensures.fills.2) in
    let rest = ap (λ (h : HeldBytes). length h.bytes) c.pass.ensures in (
      stands_behind c.args.self.now i.uid i.shape i.ending i.stage c.args.order c.args.tests i.quota i.place i.held.bytes i.byte_limit i.received (i.place + c.in-Whole.used) c.self.view_is c.requires.behind,
      omega (arith, size.0, c.self.invariant.1),
      omega (arith, size.1, c.self.invariant.2),
      c.self.invariant.3,
      omega (arith, rest, size.2, length-drop c.in-Whole.used i.held.bytes, c.self.invariant.4),
      known_behind c.args.self.now i.uid i.shape i.ending i.stage c.args.order c.args.tests i.quota i.place i.held.bytes _ i.byte_limit i.received i.reply_scan c.new-self-inside.result c.self.view_is c.requires.behind (λ o. c.new-self-inside.ensures i.shape o _),
      omega (arith, ap (λ (h : HeldBytes). h.places) c.pass.ensures, c.self.invariant.6),
      free_behind c.args.self.now i.uid i.shape i.ending i.stage c.args.order c.args.tests i.quota i.place i.held.bytes i.byte_limit i.received c.pass.new.self.free c.self.view_is c.requires.behind,
    )

pub returns-else-tests-gt0-clause-does : goal.returns-else-tests-gt0-clause-does
returns-else-tests-gt0-clause-does c =
    let i = c.self.inside in
    let passed = sample_passed c.args.self.now i.uid i.shape i.ending i.stage c.args.order c.args.tests i.quota c.less-self-inside.result i.place i.held.bytes c.pass.new.self.bytes c.counted-bytes.result.now i.byte_limit i.received c.in-Whole.used c.in-Whole.ensures.fills.0
    c.self.view_is c.requires.behind (c.if-is_spent.ensures.open refl) c.less-self-inside.ensures (c.counted-bytes.ensures ∙ ap (take (i.byte_limit - i.place)) c.bytes.ensures) (c.in-Whole.ensures.fills.1, c.in-Whole.ensures.fills.2) (ap (λ (h : HeldBytes). h.bytes) c.pass.ensures)
    (omega arith) in
    let same = ap (λ (x : InletState). x.shape) c.self.view_is in
    let sample = c.in-Whole.ensures.fills.0 in
    (sample, c.in-Whole.ensures.fills.3 ∙ ap (λ (x : Shape). least_sample_text x sample) same, passed, subst (λ (x : Shape). FitsGiven x sample) same c.in-Whole.ensures.fills.4)

pub returns-else-tests-gt0-clause-received : goal.returns-else-tests-gt0-clause-received
returns-else-tests-gt0-clause-received c =
    let i = c.self.inside in
    let size = used_within i.shape c.args.order c.counted-bytes.result.now i.held.bytes (i.byte_limit - i.place) c.in-Whole.used c.in-Whole.ensures.fills.0 (c.counted-bytes.ensures ∙ ap (take (i.byte_limit - i.place)) c.bytes.ensures) (c.in-Whole.ensures.fills.1, c.in-Whole.ensures.fills.2) in
    omega (arith, size.0, size.1, c.self.invariant.1, c.self.invariant.2)

pub invariant_of-self : goal.invariant_of-self
invariant_of-self c =
    let i = c.self.inside in
    let size = used_within i.shape c.args.order c.counted-bytes.result.now i.held.bytes (i.byte_limit - i.place) c.in-Whole.used c.in-Whole.ensures.fills.0 (c.counted-bytes.ensures ∙ ap (take (i.byte_limit - i.place)) c.bytes.ensures) (c.in-Whole.ensures.fills.1, c.in-Whole.ensures.fills.2) in
    let rest = ap (λ (h : HeldBytes). length h.bytes) c.pass.ensures in (
      tt,
      omega (arith, c.self.invariant.1),
      omega (arith, size.1, c.self.invariant.2),
      c.self.invariant.3,
      omega (arith, rest, size.2, length-drop c.in-Whole.used i.held.bytes, c.self.invariant.4),
      c.new-self-inside.ensures i.shape c.args.order _,
      omega (arith, ap (λ (h : HeldBytes). h.places) c.pass.ensures, c.self.invariant.6),
      tt,
    )
