use Rattle.std.proofs.Common.{◌≡◌, List, ℕ, ◌++◌, ◌∷◌, codes, string_bytes, append_assoc, ap, ◌∙◌}
use Rattle.std.specs.Fmt.{decimal}
use Rattle.report_model.specs.Lines.{hex_digits}
use Rattle.stream_report.specs.Words.{double_word}
use Rattle.stream_report.proofs.chunk.offset_line.Goals as goal

joined : (a b c d front one words two : List ℕ) → a ≡ front → b ≡ a ++ one → c ≡ b ++ words → d ≡ c ++ two → d ≡ front ++ one ++ words ++ two
joined a b c d front one words two p q r s = s ∙ ap (λ (t : List ℕ). t ++ two) (r ∙ ap (λ (t : List ℕ). t ++ words) (q ∙ ap (λ (t : List ℕ). t ++ one) p))

pub returns : goal.returns
unfolding double_word
returns c =
    let front : string_bytes c.in_ok-line.line ≡ decimal c.args.at ++ codes " clock-offset id " ++ decimal c.args.id ++ codes " time" = c.in_ok-line.ensures.ok ∙ simp append_assoc in
    joined _ _ _ _ _ (32 ∷ hex_digits 16 c.args.time) (codes " offset") (32 ∷ hex_digits 16 c.args.offset) front c.in_ok-push_time.ensures c.in_ok-push_str.ensures.bytes c.in_ok-push_time-2.ensures ∙ simp append_assoc
