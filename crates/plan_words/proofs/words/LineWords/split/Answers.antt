use Rattle.std.proofs.Common.{rules, ◌≡◌, ◌++◌, ◌∷◌, [], ◌<◌, ℕ, List, Some, None, map, ap, ◌∙◌, length, lit<}
use denote.Ref.{Bor}
use Rattle.std.proofs.lemmas.Str.Pattern.{split_once_first}
use Rattle.std.proofs.lemmas.List.{map-append}
use Rattle.plan_words.proofs.Cuts.{more_words, last_word, word_pushed, word_left_out, ends_pushed, ends_left_out, is_some, is_none}
use Rattle.plan_words.proofs.words.LineWords.split.Goals as goal
use Rattle.plan_words.proofs.words.LineWords.split.Goals.{then-not-is_empty-2+in_ok-push-2, else-not-is_empty-2}

now_more : (words more : List (Bor (List ℕ))) (word : Bor (List ℕ)) → more ≡ words ++ word ∷ [] → map (λ w. w.now) more ≡ map (λ w. w.now) words ++ word.now ∷ []
now_more words more word e = ap (map (λ (w : Bor (List ℕ)). w.now)) e ∙ map-append (λ (w : Bor (List ℕ)). w.now) words (word ∷ [])

pub loop-word-preserved-in_ok-push : goal.loop-word-preserved-in_ok-push
loop-word-preserved-in_ok-push c =
    let cut = split_once_first 32 c.loop-word.rest.now (Some (c.in-Some.word, c.in-Some.behind)) c.in-Some.ensures.cases (lit< tt) in
    let some : 0 < length c.in-Some.word.now = is_some (length c.in-Some.word.now) c.is_empty.result c.is_empty.ensures c.if-not-is_empty.true in
    record {
      utf8 = search rules;
      same = word_pushed c.args.line.now c.loop-word.rest.now c.in-Some.word.now c.in-Some.behind.now (map (λ w. w.now) c.loop-word.words.items) (map (λ w. w.now) c.push.new.self.items)
          c.loop-word.invariant.same (more_words c.loop-word.rest.now c.in-Some.word.now c.in-Some.behind.now cut.0 cut.1 cut.2) some (now_more c.loop-word.words.items c.push.new.self.items c.in-Some.word c.in_ok-push.ensures.items);
    }

pub loop-word-preserved : goal.loop-word-preserved
loop-word-preserved c =
    let cut = split_once_first 32 c.loop-word.rest.now (Some (c.in-Some.word, c.in-Some.behind)) c.in-Some.ensures.cases (lit< tt) in
    let none : length c.in-Some.word.now ≡ 0 = is_none (length c.in-Some.word.now) c.is_empty.result c.is_empty.ensures c.if-not-is_empty.false in
    record {
      utf8 = search rules;
      same = word_left_out c.args.line.now c.loop-word.rest.now c.in-Some.word.now c.in-Some.behind.now (map (λ w. w.now) c.loop-word.words.items)
          c.loop-word.invariant.same (more_words c.loop-word.rest.now c.in-Some.word.now c.in-Some.behind.now cut.0 cut.1 cut.2) none;
    }

pub returns : goal.returns
returns c =
    let whole = split_once_first 32 c.loop-word.rest.now None c.in_default.ensures.cases (lit< tt) in
    let last = last_word c.loop-word.rest.now whole in
    elim c.if-not-is_empty-2.branch [
      | then-not-is_empty-2+in_ok-push-2 w ↦
          let items = ap (λ v. v.items) w.words-is ∙ w.in_ok-push-2.ensures.items in
          ends_pushed c.args.line.now c.loop-word.rest.now (map (λ w. w.now) c.loop-word.words.items) (map (λ w. w.now) c.if-not-is_empty-2.words.items) c.loop-word.invariant.same last
          (is_some (length c.loop-word.rest.now) c.is_empty-2.result c.is_empty-2.ensures w.if-not-is_empty-2.true) (now_more c.loop-word.words.items c.if-not-is_empty-2.words.items c.loop-word.rest items)
      | else-not-is_empty-2 w ↦
          ap (λ v. map (λ w. w.now) v.items) w.words-is ∙ ends_left_out c.args.line.now c.loop-word.rest.now (map (λ w. w.now) c.loop-word.words.items) c.loop-word.invariant.same last
          (is_none (length c.loop-word.rest.now) c.is_empty-2.result c.is_empty-2.ensures w.if-not-is_empty-2.false)
    ]
