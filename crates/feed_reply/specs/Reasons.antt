-- The numbers by which the reasons are printed (this project's own).
use Rattle.std.specs.Prelude.{ℕ}
use Rattle.reply_model.specs.declared.ReplyWhy.{ReplyWhy}
use Rattle.reply_model.specs.declared.ReplyWhy.TheVariants.{Malformed, VersionTooNew, NotFound, PeerError, Redirect, WrongUid, BadOrder, NoOrder, Subnormals, OldProtocol, LineTooLong, TooManyLines}

abbrev pub reason_number : ReplyWhy → ℕ
reason_number Malformed = 1
reason_number VersionTooNew = 2
reason_number NotFound = 3
reason_number (PeerError code) = 4
reason_number (Redirect code) = 5
reason_number WrongUid = 6
reason_number BadOrder = 7
reason_number NoOrder = 8
reason_number Subnormals = 9
reason_number OldProtocol = 10
reason_number LineTooLong = 11
reason_number TooManyLines = 12
