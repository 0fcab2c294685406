-- The reply in some bytes, or the first refusal (LSL, reply to `streamfeed`; which header lines count, and all refusals, are this
-- project's own).
use Rattle.std.specs.Prelude.{ℕ, suc, ◌+◌, ◌==◌, ◌&&◌, List, length, Option, Some, None, Result, Ok, Err, nat_lt, if◌then◌else◌, codes}
use Rattle.xdf_model.specs.Reading.{◌>>=◌}
use Rattle.feed_model.specs.declared.Order.{Order}
use Rattle.feed_model.specs.declared.Order.TheVariants.{Little, Big}
use Rattle.reply_model.specs.declared.ReplyWhy.{ReplyWhy}
use Rattle.reply_model.specs.declared.ReplyWhy.TheVariants.{WrongUid, BadOrder, NoOrder, Subnormals, OldProtocol, LineTooLong, TooManyLines}
use Rattle.reply_model.specs.declared.Refusal.{Refusal}
use Rattle.reply_model.specs.declared.ReplyStep.{ReplyStep}
use Rattle.reply_model.specs.declared.ReplyStep.TheVariants.{Done, More, Refused}
use Rattle.reply_model.specs.Lines.{Lines, rest, line, lines_in}
use Rattle.reply_model.specs.Header.{accepts_status, value_of, same_bytes}

-- a reason to refuse, at a place (this project's own)
abbrev pub refused_at : {A : Type 0} → ℕ → Result A ReplyWhy → Result A Refusal
refused_at at (Ok x) = Ok x
refused_at at (Err why) = Err (record { at = at; why = why })

-- the place behind a line and its end (LSL, reply to `streamfeed`)
abbrev pub behind_line : ℕ → List ℕ → ℕ
behind_line at text = at + length text + 2

-- the first reason against a complete line before which so many stand: its length, the status line, the number of lines (this
-- project's own)
unfoldable pub accepts_line : ℕ → List ℕ → Result (Unit {0}) ReplyWhy
accepts_line number text =
    if nat_lt 4096 (length text) then Err LineTooLong
    else if number == 0 then accepts_status text
    else if nat_lt 63 number && nat_lt 0 (length text) then Err TooManyLines
    else Ok tt

-- the first line that is refused, or else the place of the first empty line, where it is there (LSL, reply to `streamfeed`)
unfoldable pub empty_line : ℕ → ℕ → Lines → Result (Option ℕ) Refusal
empty_line number at (rest b) = if nat_lt 4097 (length b) then refused_at at (Err LineTooLong) else Ok None
empty_line number at (line text more) =
    refused_at at (accepts_line number text) >>= λ _.
    if length text == 0 then Ok (Some at) else empty_line (suc number) (behind_line at text) more

-- the place of a header line and its value, where it is there (this project's own)
abbrev pub Found : Type 0
Found = Option (ℕ × List ℕ)

-- the later of two lines, where both are there (this project's own)
abbrev pub later : Found → Found → Found
later earlier None = earlier
later earlier (Some x) = Some x

-- a value of the line at a place (this project's own)
abbrev pub at_place : ℕ → Option (List ℕ) → Found
at_place at None = None
at_place at (Some value) = Some (at, value)

-- the last line of a name before the empty line (this project's own)
unfoldable pub last_of : List ℕ → ℕ → Lines → Found
last_of name at (rest b) = None
last_of name at (line text more) =
    if length text == 0 then None
    else later (at_place at (value_of name text)) (last_of name (behind_line at text) more)

-- the last header line of a name; the status line is none (this project's own)
abbrev pub header : List ℕ → Lines → Found
header name (rest b) = None
header name (line status more) = last_of name (behind_line 0 status) more

-- the stream is the one asked for, where the reply says which it is (this project's own)
abbrev pub accepts_uid : Option (List ℕ) → Found → Result (Unit {0}) Refusal
accepts_uid None found = Ok tt
accepts_uid (Some uid) None = Ok tt
accepts_uid (Some uid) (Some x) = if same_bytes x.1 uid then Ok tt else refused_at x.0 (Err WrongUid)

-- the data protocol is `110`, which must be told (this project's own)
abbrev pub accepts_protocol : ℕ → Found → Result (Unit {0}) Refusal
accepts_protocol absent None = refused_at absent (Err OldProtocol)
accepts_protocol absent (Some x) = if same_bytes x.1 (codes "110") then Ok tt else refused_at x.0 (Err OldProtocol)

-- the byte order is `1234` or `4321`, which must be told (this project's own)
abbrev pub order_of : ℕ → Found → Result Order Refusal
order_of absent None = refused_at absent (Err NoOrder)
order_of absent (Some x) =
    if same_bytes x.1 (codes "1234") then Ok Little
    else if same_bytes x.1 (codes "4321") then Ok Big
    else refused_at x.0 (Err BadOrder)

-- subnormals aren't suppressed: `0`, where it is told (this project's own)
abbrev pub accepts_subnormals : Found → Result (Unit {0}) Refusal
accepts_subnormals None = Ok tt
accepts_subnormals (Some x) = if same_bytes x.1 (codes "0") then Ok tt else refused_at x.0 (Err Subnormals)

-- what a header with its empty line agrees to, or the first refusal (the order of the tests is this project's own)
unfoldable pub agreed : Option (List ℕ) → ℕ → Lines → Result Order Refusal
agreed uid empty lines = do
  stream ← accepts_uid uid (header (codes "UID") lines)
  protocol ← accepts_protocol empty (header (codes "Data-Protocol-Version") lines)
  order ← order_of empty (header (codes "Byte-Order") lines)
  subnormals ← accepts_subnormals (header (codes "Suppress-Subnormals") lines)
  Ok order

-- the answer where the empty line is there (this project's own)
abbrev pub step_of : ℕ → Result Order Refusal → ReplyStep
step_of empty (Ok order) = Done (record { order = order }) (empty + 2)
step_of empty (Err refusal) = Refused refusal.at refusal.why

-- the answer, as far as lines are there (this project's own)
abbrev pub judged : Option (List ℕ) → Lines → Result (Option ℕ) Refusal → ReplyStep
judged uid lines (Err refusal) = Refused refusal.at refusal.why
judged uid lines (Ok None) = More
judged uid lines (Ok (Some empty)) = step_of empty (agreed uid empty lines)

-- what some bytes are as the front of a reply: the first refused line, what the header agrees to once it is there, or more
-- (LSL, reply to `streamfeed`; the order of the tests is this project's own)
unfoldable pub reply_in : Option (List ℕ) → List ℕ → ReplyStep
reply_in uid b = judged uid (lines_in b) (empty_line 0 0 (lines_in b))
