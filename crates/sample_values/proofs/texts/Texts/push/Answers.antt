use Rattle.std.proofs.Common.{◌+◌, ◌++◌, ◌∷◌, [], List, ℕ, ap, ◌∙◌, arith}
use Rattle.xdf_model.specs.Sample.{Value, text}
use Rattle.sample_values.specs.Texts.{texts_in}
use Rattle.sample_values.proofs.TextLists.{one_text_more}
use Rattle.sample_values.proofs.texts.Texts.push.Goals as goal

pub invariant_of-self-2 : goal.invariant_of-self-2
invariant_of-self-2 c =
    rw (c.one_more-count.ensures, c.in_ok-append_text.ensures.ok) (one_text_more c.self.inside.count c.self.inside.bytes.items c.args.bytes.now (omega arith) c.self.invariant).1

pub returns-clause-ok : goal.returns-clause-ok
returns-clause-ok c =
    ap (λ (n : ℕ). texts_in n c.append_text.new.out.items) c.one_more-count.ensures
    ∙ ap (texts_in (c.self.inside.count + 1)) c.in_ok-append_text.ensures.ok
    ∙ (one_text_more c.self.inside.count c.self.inside.bytes.items c.args.bytes.now (omega arith) c.self.invariant).0
    ∙ ap (λ (l : List Value). l ++ text c.args.bytes.now ∷ []) c.self.view_is
