-- What the code hands on, seen as the definitions do.
use Rattle.std.specs.Prelude.{◌≡◌, ℕ, ◌+◌, ◌≤◌, List, ◌++◌, take, drop, length, Option, Some, None, Result, Ok, Err}
use denote.Ref.{Bor}
use Rattle.reply_model.specs.declared.ReplyWhy.{ReplyWhy}
use Rattle.reply_model.specs.declared.Refusal.{Refusal}
use Rattle.reply_model.specs.declared.ReplyStep.{ReplyStep}
use Rattle.reply_model.specs.declared.ReplyStep.TheVariants.{Done, More, Refused}
use Rattle.reply_model.specs.Lines.{Lines, rest, line, lines_in}
use Rattle.reply_model.specs.Reply.{Found}

-- bytes in front of the first line
abbrev pub with_front : List ℕ → Lines → Lines
with_front xs (rest b) = rest (xs ++ b)
with_front xs (line text more) = line (xs ++ text) more

-- the first line of some bytes has this length, or isn't complete
abbrev pub IsFirstLine : List ℕ → Option ℕ → Type 0
IsFirstLine b None = lines_in b ≡ rest b
IsFirstLine b (Some n) = (n + 2 ≤ length b) × (lines_in b ≡ line (take n b) (lines_in (drop (n + 2) b)))

-- a reader's answer, seen by view, is what stands there
abbrev pub Reads : {X Y : Type 0} → (X → Y) → Result X ReplyWhy → Result Y ReplyWhy → Type 0
Reads view (Ok x) read = read ≡ Ok (view x)
Reads view (Err why) read = read ≡ Err why

-- a line's place and its value
abbrev pub seen : Option (ℕ × Bor (List ℕ)) → Found
seen None = None
seen (Some x) = Some (x.0, x.1.now)

-- the empty line stands within so many bytes
abbrev pub IsWithin : ℕ → Result (Option ℕ) Refusal → Type 0
IsWithin n (Ok (Some at)) = at + 2 ≤ n
IsWithin n (Ok None) = Unit {0}
IsWithin n (Err refusal) = Unit {0}

-- a whole reply takes at most so many bytes
abbrev pub IsUsedWithin : ℕ → ReplyStep → Type 0
IsUsedWithin n (Done reply used) = used ≤ n
IsUsedWithin n More = Unit {0}
IsUsedWithin n (Refused at why) = Unit {0}
