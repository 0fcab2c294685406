-- The reply of a drill's feed.
use Rattle.std.proofs.Common.{◌≡◌, List, ℕ, ◌++◌, None, sym, ◌∙◌, refl}
use Rattle.feed_model.specs.declared.Order.{Order}
use Rattle.feed_model.specs.declared.Order.TheVariants.{Little, Big}
use Rattle.reply_model.specs.declared.ReplyStep.TheVariants.{Done, More}
use Rattle.reply_model.specs.Reply.{reply_in, empty_line, accepts_line, last_of, agreed}
use Rattle.reply_model.specs.Lines.{lines_in}
use Rattle.reply_model.specs.Header.{accepts_status, value_of}
use Rattle.feed_reply.proofs.Longer.{more_bytes}
use Rattle.drill_feeds.specs.Drill.{drill_reply}

reply_alone : (order : Order) → reply_in None (drill_reply order) ≡ Done (record { order = order }) 97
unfolding reply_in lines_in empty_line accepts_line accepts_status last_of value_of agreed
reply_alone Little = refl
reply_alone Big = refl

pub reply_behind : (order : Order) (more : List ℕ) → reply_in None (drill_reply order ++ more) ≡ Done (record { order = order }) 97
reply_behind order more = more_bytes None (drill_reply order) more (λ e. let wrong : Done (record { order = order }) 97 ≡ More = sym (reply_alone order) ∙ e in cc) ∙ reply_alone order
