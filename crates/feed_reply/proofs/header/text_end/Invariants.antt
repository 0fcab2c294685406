use Rattle.std.proofs.Common.{◌≡◌, ◌-◌, ◌≤◌, take}
use Rattle.std.specs.List.{suffix_len}
use Rattle.reply_model.specs.Header.{is_blank}
use Rattle.feed_reply.proofs.header.text_end.Given as goal

abbrev pub invariant-loop-i : goal.invariant-loop-i
invariant-loop-i l = record {
  end : l.end ≡ l.i - suffix_len is_blank (take l.i l.text);
  within : l.end ≤ l.i;
}
