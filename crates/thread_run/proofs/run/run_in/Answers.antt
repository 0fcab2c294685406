use Rattle.std.proofs.Common.{rules, ◌≡◌, ℕ, List, length, map, slice_get, Some, Result, Ok, Err, OnOk, OnErr, IsErrOf, sym, ap, ◌∙◌, subst, arith}
use Rattle.std.proofs.lemmas.List.{length-map}
use Rattle.std.proofs.lemmas.Option.{slice_get_within}
use Rattle.halt_word.specs.Ends.{NoneSaw, RaiserView}
use Rattle.feed_lane.specs.Lanes.{Lane}
use Rattle.recording_model.specs.Batch.{Batch}
use Rattle.record_writer.specs.declared.fault.WriterFault.{WriterFault}
use Rattle.record_writer.specs.declared.fault.WriterFault.TheVariants as fault
use Rattle.run_model.proofs.Errors.{on_err, handed, handed_back}
use Rattle.run_model.proofs.Lists.{item_at}
use Rattle.thread_run.specs.declared.lane.CountedHead.{CountedHead}
use Rattle.thread_run.specs.declared.settle.Joined.{Joined}
use Rattle.thread_run.specs.Rounds.{AreDrawn, AreOfNumbers, Given, IsCutOf, given_by, lanes_of}
use Rattle.thread_run.specs.Settled.{AreReached, AreWorked, given_in}
use Rattle.thread_run.specs.Concluded.{HaveSettled, NoneHalted}
use Rattle.thread_run.proofs.Settling.{all_reached, cut_before, cut_behind, given_all, going_on, meet, none_halted, settled_all, written_back}
use Rattle.thread_run.proofs.Going.{ends_at, numbers_same}
use Rattle.thread_run.proofs.run.run_in.Goals as goal

abbrev key : CountedHead → Lane
key h = h.head.lane

same_size : (xs ys : List (CountedHead)) → lanes_of ys ≡ lanes_of xs → length ys ≡ length xs
same_size xs ys e = omega (arith, ap length e, length-map ys key, length-map xs key)

no_error : {T E : Type 0} (r : Result T E) (x : T) (f : E) → r ≡ Ok x → IsErrOf r f → ⊥
no_error r x f ok is = let wrong : Ok x ≡ Err f = sym ok ∙ is in absurd cc

pub join_all-joined-requires-clause-lanes : goal.join_all-joined-requires-clause-lanes
join_all-joined-requires-clause-lanes g c = λ p w h ew eh.
    let e = c.go_until-outcome.ensures in
    let old = c.args.lanes.heads.items in
    let now = c.go_until-outcome.new.heads in
    let ends = e.lanes ∙ ap lanes_of c.as_mut_slice.ensures.value in
    let back = written_back c.args.lanes.heads.len now old (search rules) (same_size old now ends) in
    let a = ends_at key old now p h ends (ap (λ (l : List (CountedHead)). slice_get l p) (sym back) ∙ eh) in
    let v = item_at c.args.lanes.works.items p (omega (arith, slice_get_within c.finish_all-worked.result.items p w ew, c.finish_all-worked.ensures.count, c.start_all-started.ensures.count)) in
    let r = c.requires.lanes p v.0 a.0 v.1 a.1 in
    let d = c.finish_all-worked.ensures.each c.args.lanes.works.items c.start_all-started.ensures.each p v.0 w v.1 ew in
    d.lane ∙ r ∙ sym a.2

pub join_all-joined-requires-clause-word : goal.join_all-joined-requires-clause-word
join_all-joined-requires-clause-word g c = λ p w ew.
    let v = item_at c.args.lanes.works.items p (omega (arith, slice_get_within c.finish_all-worked.result.items p w ew, c.finish_all-worked.ensures.count, c.start_all-started.ensures.count)) in
    let d = c.finish_all-worked.ensures.each c.args.lanes.works.items c.start_all-started.ensures.each p v.0 w v.1 ew in
    d.word ∙ (c.requires.halt.each p v.0 v.1).0 ∙ sym c.requires.halt.same

pub returns-in_err-outcome-clause-cut : goal.returns-in_err-outcome-clause-cut
returns-in_err-outcome-clause-cut g c = λ streams base batches st.
    let L = g.S.Source.left in
    let F = g.S.Source.faults in
    let M = g.S.Source.mark in
    let works = c.args.lanes.works.items in
    let e = c.go_until-outcome.ensures in
    let old = c.args.lanes.heads.items in
    let now = c.go_until-outcome.new.heads in
    let ends = e.lanes ∙ ap lanes_of c.as_mut_slice.ensures.value in
    let back = written_back c.args.lanes.heads.len now old (search rules) (same_size old now ends) in
    let worked = c.finish_all-worked.result.items in
    let all = c.join_all-joined.result.items in
    let met = meet worked _ now all back c.join_all-joined.ensures.each in
    let same = c.finish_all-worked.ensures.count ∙ c.start_all-started.ensures.count ∙ c.requires.count ∙ sym (same_size old now ends) in
    let are : AreWorked L F M works worked = record { count = c.finish_all-worked.ensures.count ∙ c.start_all-started.ensures.count; each = c.finish_all-worked.ensures.each works c.start_all-started.ensures.each } in
    let held = g.K.Sink.held c.go_until-outcome.new.writer.sink.now in
    let D : List Given → Type 0 = λ lanes. AreDrawn c.args.pace.batch streams base (g.K.Sink.held c.args.writer.now.sink.now) c.args.writer.now.room.desk batches lanes in
    let E : Result _ WriterFault → Type 0 = λ r. OnErr r (IsCutOf streams base held (map given_by now)) in
    let k = subst E c.in_err-outcome.was (e.cut streams base batches (subst (λ (l : List CountedHead). D (map given_by l)) (sym c.as_mut_slice.ensures.value) st)) in
    on_err c.from_residual.result (cut_before L F M works worked now all are c.join_all-joined.ensures.count same met streams base held k)

pub returns-in_err-outcome-clause-memory : goal.returns-in_err-outcome-clause-memory
returns-in_err-outcome-clause-memory g c = λ is numbers.
    let E : Result _ WriterFault → Type 0 = λ r. IsErrOf r fault.Memory in
    c.go_until-outcome.ensures.memory (subst E (sym c.in_err-outcome.was) (handed c.from_residual.result c.in_err-outcome.field-0.0 _ c.from_residual.ensures.1 is))
    (subst (λ (l : List CountedHead). AreOfNumbers (map given_by l)) (sym c.as_mut_slice.ensures.value) numbers)

pub empty_all-requires-clause-reached : goal.empty_all-requires-clause-reached
empty_all-requires-clause-reached g c =
    let L = g.S.Source.left in
    let F = g.S.Source.faults in
    let M = g.S.Source.mark in
    let works = c.args.lanes.works.items in
    let e = c.go_until-outcome.ensures in
    let old = c.args.lanes.heads.items in
    let now = c.go_until-outcome.new.heads in
    let ends = e.lanes ∙ ap lanes_of c.as_mut_slice.ensures.value in
    let back = written_back c.args.lanes.heads.len now old (search rules) (same_size old now ends) in
    let worked = c.finish_all-worked.result.items in
    let all = c.join_all-joined.result.items in
    let met = meet worked _ now all back c.join_all-joined.ensures.each in
    let same = c.finish_all-worked.ensures.count ∙ c.start_all-started.ensures.count ∙ c.requires.count ∙ sym (same_size old now ends) in
    let are : AreWorked L F M works worked = record { count = c.finish_all-worked.ensures.count ∙ c.start_all-started.ensures.count; each = c.finish_all-worked.ensures.each works c.start_all-started.ensures.each } in
    subst (λ (l : List (Joined _)). AreReached l) (sym c.as_mut_slice-2.ensures.value) (all_reached L F M works worked now all are c.join_all-joined.ensures.count same met)

pub empty_all-requires-clause-drawn : goal.empty_all-requires-clause-drawn
empty_all-requires-clause-drawn g c =
    let h = c.requires.drawn in
    let L = g.S.Source.left in
    let F = g.S.Source.faults in
    let M = g.S.Source.mark in
    let works = c.args.lanes.works.items in
    let e = c.go_until-outcome.ensures in
    let old = c.args.lanes.heads.items in
    let now = c.go_until-outcome.new.heads in
    let ends = e.lanes ∙ ap lanes_of c.as_mut_slice.ensures.value in
    let back = written_back c.args.lanes.heads.len now old (search rules) (same_size old now ends) in
    let worked = c.finish_all-worked.result.items in
    let all = c.join_all-joined.result.items in
    let met = meet worked _ now all back c.join_all-joined.ensures.each in
    let same = c.finish_all-worked.ensures.count ∙ c.start_all-started.ensures.count ∙ c.requires.count ∙ sym (same_size old now ends) in
    let are : AreWorked L F M works worked = record { count = c.finish_all-worked.ensures.count ∙ c.start_all-started.ensures.count; each = c.finish_all-worked.ensures.each works c.start_all-started.ensures.each } in
    let w = c.go_until-outcome.new.writer in
    let D : List Given → Type 0 = λ lanes. AreDrawn c.args.pace.batch h.0 h.1 (g.K.Sink.held c.args.writer.now.sink.now) c.args.writer.now.room.desk h.2 lanes in
    let R : Result _ WriterFault → Type 0 = λ r. OnOk r ((more : List Batch) × AreDrawn c.args.pace.batch h.0 h.1 (g.K.Sink.held w.sink.now) w.room.desk more (map given_by now)) in
    let k = subst R c.in_ok-outcome.was (e.drawn h.0 h.1 h.2 (subst (λ (l : List CountedHead). D (map given_by l)) (sym c.as_mut_slice.ensures.value) h.3)) in
    let N : List Given → Type 0 = λ lanes. AreDrawn c.args.pace.batch h.0 h.1 (g.K.Sink.held w.sink.now) w.room.desk k.0 lanes in
    let left = subst (λ (l : List (Joined _)). N (map given_in l)) (sym c.as_mut_slice-2.ensures.value) (subst N (sym (given_all L F M works worked now all are c.join_all-joined.ensures.count same met)) k.1) in
    (h.0, h.1, k.0, left)

pub returns-in_err-empty_all-clause-cut : goal.returns-in_err-empty_all-clause-cut
returns-in_err-empty_all-clause-cut g c = λ streams base batches st.
    let L = g.S.Source.left in
    let F = g.S.Source.faults in
    let M = g.S.Source.mark in
    let works = c.args.lanes.works.items in
    let e = c.go_until-outcome.ensures in
    let old = c.args.lanes.heads.items in
    let now = c.go_until-outcome.new.heads in
    let ends = e.lanes ∙ ap lanes_of c.as_mut_slice.ensures.value in
    let back = written_back c.args.lanes.heads.len now old (search rules) (same_size old now ends) in
    let worked = c.finish_all-worked.result.items in
    let all = c.join_all-joined.result.items in
    let met = meet worked _ now all back c.join_all-joined.ensures.each in
    let same = c.finish_all-worked.ensures.count ∙ c.start_all-started.ensures.count ∙ c.requires.count ∙ sym (same_size old now ends) in
    let are : AreWorked L F M works worked = record { count = c.finish_all-worked.ensures.count ∙ c.start_all-started.ensures.count; each = c.finish_all-worked.ensures.each works c.start_all-started.ensures.each } in
    let w = c.go_until-outcome.new.writer in
    let D : List Given → Type 0 = λ lanes. AreDrawn c.args.pace.batch streams base (g.K.Sink.held c.args.writer.now.sink.now) c.args.writer.now.room.desk batches lanes in
    let R : Result _ WriterFault → Type 0 = λ r. OnOk r ((more : List Batch) × AreDrawn c.args.pace.batch streams base (g.K.Sink.held w.sink.now) w.room.desk more (map given_by now)) in
    let k = subst R c.in_ok-outcome.was (e.drawn streams base batches (subst (λ (l : List CountedHead). D (map given_by l)) (sym c.as_mut_slice.ensures.value) st)) in
    let N : List Given → Type 0 = λ lanes. AreDrawn c.args.pace.batch streams base (g.K.Sink.held w.sink.now) w.room.desk k.0 lanes in
    let left = subst (λ (l : List (Joined _)). N (map given_in l)) (sym c.as_mut_slice-2.ensures.value) (subst N (sym (given_all L F M works worked now all are c.join_all-joined.ensures.count same met)) k.1) in
    let new = c.empty_all.new.joined in
    let value = c.as_mut_slice-2.ensures.value in
    let long = c.empty_all.ensures.count ∙ ap length value in
    let stays = λ (p : ℕ) (b a : Joined _) (eb : slice_get all p ≡ Some b) (ea : slice_get new p ≡ Some a). c.empty_all.ensures.same p b a (ap (λ (l : List (Joined _)). slice_get l p) value ∙ eb) ea in
    on_err c.from_residual-in_err-empty_all.result (cut_behind L F M works worked now all are c.join_all-joined.ensures.count same met new long stays streams base _ (c.in_err-empty_all.ensures.cut streams base k.0 left))

pub returns-in_err-empty_all-clause-memory : goal.returns-in_err-empty_all-clause-memory
returns-in_err-empty_all-clause-memory g c = λ is numbers.
    let L = g.S.Source.left in
    let F = g.S.Source.faults in
    let M = g.S.Source.mark in
    let works = c.args.lanes.works.items in
    let e = c.go_until-outcome.ensures in
    let old = c.args.lanes.heads.items in
    let now = c.go_until-outcome.new.heads in
    let ends = e.lanes ∙ ap lanes_of c.as_mut_slice.ensures.value in
    let back = written_back c.args.lanes.heads.len now old (search rules) (same_size old now ends) in
    let worked = c.finish_all-worked.result.items in
    let all = c.join_all-joined.result.items in
    let met = meet worked _ now all back c.join_all-joined.ensures.each in
    let same = c.finish_all-worked.ensures.count ∙ c.start_all-started.ensures.count ∙ c.requires.count ∙ sym (same_size old now ends) in
    let are : AreWorked L F M works worked = record { count = c.finish_all-worked.ensures.count ∙ c.start_all-started.ensures.count; each = c.finish_all-worked.ensures.each works c.start_all-started.ensures.each } in
    let few = subst (λ (lanes : List Given). AreOfNumbers lanes) (sym (given_all L F M works worked now all are c.join_all-joined.ensures.count same met)) (numbers_same old now ends numbers) in
    c.in_err-empty_all.ensures.memory (handed c.from_residual-in_err-empty_all.result c.in_err-empty_all.field-0.0 _ c.from_residual-in_err-empty_all.ensures.1 is)
    (subst (λ (l : List (Joined _)). AreOfNumbers (map given_in l)) (sym c.as_mut_slice-2.ensures.value) few)

pub returns-in_err-empty_all-clause-cause : goal.returns-in_err-empty_all-clause-cause
returns-in_err-empty_all-clause-cause g c =
    let went = c.go_until-outcome.ensures.cause.quiet (λ is. no_error c.go_until-outcome.result c.in_ok-outcome.field-0 fault.WriteFault c.in_ok-outcome.was is) in
    let wrote = c.in_err-empty_all.ensures.cause in
    record {
      later = omega (arith, wrote.later, went);
      rose = λ is.
          let rose = wrote.rose (handed c.from_residual-in_err-empty_all.result c.in_err-empty_all.field-0.0 _ c.from_residual-in_err-empty_all.ensures.1 is) in
          omega (arith, rose, went);
      quiet = λ other. wrote.quiet (λ f. other (handed_back c.from_residual-in_err-empty_all.result c.in_err-empty_all.field-0.0 _ c.from_residual-in_err-empty_all.ensures.1 f)) ∙ went;
    }

pub returns-clause-settled : goal.returns-clause-settled
returns-clause-settled g c = λ streams base batches st.
    let L = g.S.Source.left in
    let F = g.S.Source.faults in
    let M = g.S.Source.mark in
    let works = c.args.lanes.works.items in
    let e = c.go_until-outcome.ensures in
    let old = c.args.lanes.heads.items in
    let now = c.go_until-outcome.new.heads in
    let ends = e.lanes ∙ ap lanes_of c.as_mut_slice.ensures.value in
    let back = written_back c.args.lanes.heads.len now old (search rules) (same_size old now ends) in
    let worked = c.finish_all-worked.result.items in
    let all = c.join_all-joined.result.items in
    let met = meet worked _ now all back c.join_all-joined.ensures.each in
    let same = c.finish_all-worked.ensures.count ∙ c.start_all-started.ensures.count ∙ c.requires.count ∙ sym (same_size old now ends) in
    let are : AreWorked L F M works worked = record { count = c.finish_all-worked.ensures.count ∙ c.start_all-started.ensures.count; each = c.finish_all-worked.ensures.each works c.start_all-started.ensures.each } in
    let w = c.go_until-outcome.new.writer in
    let D : List Given → Type 0 = λ lanes. AreDrawn c.args.pace.batch streams base (g.K.Sink.held c.args.writer.now.sink.now) c.args.writer.now.room.desk batches lanes in
    let R : Result _ WriterFault → Type 0 = λ r. OnOk r ((more : List Batch) × AreDrawn c.args.pace.batch streams base (g.K.Sink.held w.sink.now) w.room.desk more (map given_by now)) in
    let k = subst R c.in_ok-outcome.was (e.drawn streams base batches (subst (λ (l : List CountedHead). D (map given_by l)) (sym c.as_mut_slice.ensures.value) st)) in
    let N : List Given → Type 0 = λ lanes. AreDrawn c.args.pace.batch streams base (g.K.Sink.held w.sink.now) w.room.desk k.0 lanes in
    let left = subst (λ (l : List (Joined _)). N (map given_in l)) (sym c.as_mut_slice-2.ensures.value) (subst N (sym (given_all L F M works worked now all are c.join_all-joined.ensures.count same met)) k.1) in
    let new = c.empty_all.new.joined in
    let value = c.as_mut_slice-2.ensures.value in
    let long = c.empty_all.ensures.count ∙ ap length value in
    let stays = λ (p : ℕ) (b a : Joined _) (eb : slice_get all p ≡ Some b) (ea : slice_get new p ≡ Some a). c.empty_all.ensures.same p b a (ap (λ (l : List (Joined _)). slice_get l p) value ∙ eb) ea in
    let last = c.empty_all.new.writer in
    let r = c.in_ok-empty_all.ensures.drawn streams base k.0 left in
    let empty = λ (p : ℕ) (b a : Joined _) (eb : slice_get all p ≡ Some b) (ea : slice_get new p ≡ Some a). c.in_ok-empty_all.ensures.empty p b a (ap (λ (l : List (Joined _)). slice_get l p) value ∙ eb) ea in
    let H : List (Joined _) → Type 0 = λ l. HaveSettled L F M c.args.pace.batch streams base (g.K.Sink.held last.sink.now) last.room.desk works l in
    subst H (sym (written_back c.join_all-joined.result.len new all (search rules) long)) (record {
      batches = r.0;
      worked = worked;
      are_worked = are;
      are_settled = settled_all L F M works worked now all are c.join_all-joined.ensures.count same met new long stays c.args.pace.batch streams base _ _ r.0 r.1 empty;
    })

pub returns-clause-going : goal.returns-clause-going
returns-clause-going g c =
    let L = g.S.Source.left in
    let F = g.S.Source.faults in
    let M = g.S.Source.mark in
    let works = c.args.lanes.works.items in
    let e = c.go_until-outcome.ensures in
    let old = c.args.lanes.heads.items in
    let now = c.go_until-outcome.new.heads in
    let ends = e.lanes ∙ ap lanes_of c.as_mut_slice.ensures.value in
    let back = written_back c.args.lanes.heads.len now old (search rules) (same_size old now ends) in
    let worked = c.finish_all-worked.result.items in
    let all = c.join_all-joined.result.items in
    let met = meet worked _ now all back c.join_all-joined.ensures.each in
    let same = c.finish_all-worked.ensures.count ∙ c.start_all-started.ensures.count ∙ c.requires.count ∙ sym (same_size old now ends) in
    let are : AreWorked L F M works worked = record { count = c.finish_all-worked.ensures.count ∙ c.start_all-started.ensures.count; each = c.finish_all-worked.ensures.each works c.start_all-started.ensures.each } in
    let new = c.empty_all.new.joined in
    let value = c.as_mut_slice-2.ensures.value in
    let long = c.empty_all.ensures.count ∙ ap length value in
    let stays = λ (p : ℕ) (b a : Joined _) (eb : slice_get all p ≡ Some b) (ea : slice_get new p ≡ Some a). c.empty_all.ensures.same p b a (ap (λ (l : List (Joined _)). slice_get l p) value ∙ eb) ea in
    let up = c.raise_behind.ensures.same (λ is. no_error c.go_until-outcome.result c.in_ok-outcome.field-0 fault.WriteFault c.in_ok-outcome.was is) in
    let down = c.close_halt-raised.ensures.raised ∙ ap (λ (r : RaiserView). r.raised) up ∙ c.requires.halt.down in
    let unseen = subst NoneSaw c.join_all-joined.ensures.lookers (c.close_halt-raised.ensures.none down) in
    let joined = c.join_all-joined.ensures.count in
    subst (λ (l : List (Joined _)). NoneHalted l) (sym (written_back c.join_all-joined.result.len new all (search rules) long))
    (going_on L F M works worked now all are joined same met new long stays (none_halted L F M works worked now all are joined same met unseen))

pub returns-in_err-outcome-clause-cause : goal.returns-in_err-outcome-clause-cause
returns-in_err-outcome-clause-cause g c =
    let E : Result _ WriterFault → Type 0 = λ r. IsErrOf r fault.WriteFault in
    let went = c.go_until-outcome.ensures.cause in
    record {
      later = went.later;
      rose = λ is. went.rose (subst E (sym c.in_err-outcome.was) (handed c.from_residual.result c.in_err-outcome.field-0.0 _ c.from_residual.ensures.1 is));
      quiet = λ other. went.quiet (λ f. other (handed_back c.from_residual.result c.in_err-outcome.field-0.0 _ c.from_residual.ensures.1 (subst E c.in_err-outcome.was f)));
    }

pub returns-clause-cause : goal.returns-clause-cause
returns-clause-cause g c =
    let went = c.go_until-outcome.ensures.cause.quiet (λ is. no_error c.go_until-outcome.result c.in_ok-outcome.field-0 fault.WriteFault c.in_ok-outcome.was is) in
    let kept = c.in_ok-empty_all.ensures.cause.quiet (λ f. absurd (cc f)) ∙ went in
    record { later = omega (arith, kept); rose = λ f. absurd (cc f); quiet = λ _. kept }
