use Rattle.std.proofs.Common.{◌∙◌, ◌+◌, ◌-◌, take, length, ap, refl, arith, length-drop}
use Rattle.piece_reader.specs.Held.{HeldBytes}
use Rattle.feed_samples.specs.Inlet.{InletState}
use Rattle.feed_samples.proofs.Passed.{test_passed, sample_passed, stands_behind, known_behind, free_behind, used_within, given_fits}
use Rattle.feed_samples.proofs.kept.Kept.sample_step.Goals as goal

pub returns-then-tests-gt0-clause-does : goal.returns-then-tests-gt0-clause-does
returns-then-tests-gt0-clause-does c =
    let i = c.self.inside in
    test_passed c.args.self.now i.uid i.shape i.ending i.stage c.args.order c.args.tests i.quota i.place i.held.bytes c.pass.new.self.bytes c.counted-bytes.result.now i.byte_limit i.received c.in-Whole.used c.fill_feed_sample.new.sample c.self.view_is
    c.requires (c.if-is_spent.ensures.open refl) (c.counted-bytes.ensures ∙ ap (take (i.byte_limit - i.place)) c.bytes.ensures) c.in-Whole.ensures.exact (ap (λ (h : HeldBytes). h.bytes) c.pass.ensures) c.if-tests-gt0.true

pub invariant_of-self-in-Whole : goal.invariant_of-self-in-Whole
invariant_of-self-in-Whole c =
    let i = c.self.inside in
    let size = used_within i.shape c.args.order c.counted-bytes.result.now i.held.bytes (i.byte_limit - i.place) c.in-Whole.used c.fill_feed_sample.new.sample (c.counted-bytes.ensures ∙ ap (take (i.byte_limit - i.place)) c.bytes.ensures) c.in-Whole.ensures.exact in
    let rest = ap (λ (h : HeldBytes). length h.bytes) c.pass.ensures in (
      stands_behind c.args.self.now i.uid i.shape i.ending i.stage c.args.order c.args.tests i.quota i.place i.held.bytes i.byte_limit i.received (i.place + c.in-Whole.used) c.self.view_is c.requires,
      omega (arith, size.0, c.self.invariant.1),
      omega (arith, size.1, c.self.invariant.2),
      c.self.invariant.3,
      omega (arith, rest, size.2, length-drop c.in-Whole.used i.held.bytes, c.self.invariant.4),
      known_behind c.args.self.now i.uid i.shape i.ending i.stage c.args.order c.args.tests i.quota i.place i.held.bytes _ i.byte_limit i.received i.reply_scan c.new-self-inside.result c.self.view_is c.requires (λ o. c.new-self-inside.ensures i.shape o _),
      omega (arith, ap (λ (h : HeldBytes). h.places) c.pass.ensures, c.self.invariant.6),
      free_behind c.args.self.now i.uid i.shape i.ending i.stage c.args.order c.args.tests i.quota i.place i.held.bytes i.byte_limit i.received c.pass.new.self.free c.self.view_is c.requires,
    )

pub returns-else-tests-gt0-clause-does : goal.returns-else-tests-gt0-clause-does
returns-else-tests-gt0-clause-does c =
    let i = c.self.inside in
    let text = c.in-Whole.ensures.whole c.in-Whole.used refl in
    let passed = sample_passed c.args.self.now i.uid i.shape i.ending i.stage c.args.order c.args.tests i.quota c.less-self-inside.result i.place i.held.bytes c.pass.new.self.bytes c.counted-bytes.result.now i.byte_limit i.received c.in-Whole.used c.fill_feed_sample.new.sample
    c.self.view_is c.requires (c.if-is_spent.ensures.open refl) c.less-self-inside.ensures (c.counted-bytes.ensures ∙ ap (take (i.byte_limit - i.place)) c.bytes.ensures) c.in-Whole.ensures.exact (ap (λ (h : HeldBytes). h.bytes) c.pass.ensures)
    (omega arith) in
    (passed, given_fits c.args.self.now i.shape c.args.order c.fill_feed_sample.new.sample _ (ap (λ (x : InletState). x.shape) c.self.view_is) text.1)

pub returns-else-tests-gt0-clause-received : goal.returns-else-tests-gt0-clause-received
returns-else-tests-gt0-clause-received c =
    let i = c.self.inside in
    let size = used_within i.shape c.args.order c.counted-bytes.result.now i.held.bytes (i.byte_limit - i.place) c.in-Whole.used c.fill_feed_sample.new.sample (c.counted-bytes.ensures ∙ ap (take (i.byte_limit - i.place)) c.bytes.ensures) c.in-Whole.ensures.exact in
    omega (arith, size.0, size.1, c.self.invariant.1, c.self.invariant.2)

pub invariant_of-self-then-tests-gt0 : goal.invariant_of-self-then-tests-gt0
invariant_of-self-then-tests-gt0 c =
    let i = c.self.inside in
    let size = used_within i.shape c.args.order c.counted-bytes.result.now i.held.bytes (i.byte_limit - i.place) c.in-Whole.used c.fill_feed_sample.new.sample (c.counted-bytes.ensures ∙ ap (take (i.byte_limit - i.place)) c.bytes.ensures) c.in-Whole.ensures.exact in
    let rest = ap (λ (h : HeldBytes). length h.bytes) c.pass.ensures in (
      tt,
      omega (arith, c.self.invariant.1),
      omega (arith, size.1, c.self.invariant.2),
      c.self.invariant.3,
      omega (arith, rest, size.2, length-drop c.in-Whole.used i.held.bytes, c.self.invariant.4),
      c.new-self-inside.ensures i.shape c.args.order _,
      omega (arith, ap (λ (h : HeldBytes). h.places) c.pass.ensures, c.self.invariant.6),
      tt,
    )
