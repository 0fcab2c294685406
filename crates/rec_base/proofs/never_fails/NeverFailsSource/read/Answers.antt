use Rattle.std.proofs.Common.{◌≡◌, ℕ, ◌+◌, ◌-◌, List, ◌++◌, length, take, drop, min, sym, ap, ◌∙◌}
use Rattle.std.proofs.lemmas.List.{take_rest}
use Rattle.rec_base.proofs.GivenBytes.{given_split, none_given}
use Rattle.rec_base.proofs.never_fails.NeverFailsSource.read.Goals as goal

pub returns-clause-bytes : goal.returns-clause-bytes
returns-clause-bytes c =
    let bytes : List ℕ = c.self.inside.bytes in
    let given = c.self.inside.given in
    let n = c.copy_front-n.result in
    let room = length c.copy_front-n.new.to in
    let from : take (length c.bytes.result.now - given) (drop given c.bytes.result.now) ≡ drop given bytes = take_rest c.bytes.result.now given ∙ ap (λ (l : List ℕ). drop given l) c.bytes.ensures in
    let count : n ≡ min (length (drop given bytes)) room = c.copy_front-n.ensures.count ∙ ap (λ (l : List ℕ). min (length l) room) from in
    let copied : take n (drop given bytes) ≡ take n c.copy_front-n.new.to = sym (c.copy_front-n.ensures.bytes ∙ ap (λ (l : List ℕ). take n l) from) in (
      sym c.self.view_is ∙ given_split bytes given n ∙ ap (λ (l : List ℕ). l ++ drop (given + n) bytes) copied,
      λ none some. none_given bytes given n room count none some,
    )
