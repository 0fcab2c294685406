-- What a status line and a header line say (LSL, reply to `streamfeed`; how a header line is divided is this project's own).
use Rattle.std.specs.Prelude.{ℕ, ◌+◌, ◌-◌, ◌/◌, ◌==◌, ◌||◌, ◌&&◌, Bool, not, List, [], ◌∷◌, length, take, drop, Option, Some, None, Result, Ok, Err, nat_eq, nat_lt, if◌then◌else◌, codes, map, take_while}
use Rattle.std.specs.List.{starts_with, prefix_len, suffix_len}
use Rattle.std.specs.Cmp.Lexicographic.{pointwise}
use Rattle.std.specs.Char.{is_ascii_digit, to_ascii_lowercase}
use Rattle.std.specs.Str.Parse.{digits_value}
use Rattle.xdf_model.specs.Reading.{◌>>=◌}
use Rattle.reply_model.specs.declared.ReplyWhy.{ReplyWhy}
use Rattle.reply_model.specs.declared.ReplyWhy.TheVariants.{Malformed, VersionTooNew, NotFound, PeerError, Redirect}

-- what stands behind a text at the front; without it the line is malformed (this project's own)
abbrev pub behind : List ℕ → List ℕ → Result (List ℕ) ReplyWhy
behind front b = if starts_with nat_eq b front then Ok (drop (length front) b) else Err Malformed

-- the decimal digits at the front (this project's own)
abbrev pub digits_front : List ℕ → List ℕ
digits_front b = take_while is_ascii_digit b

-- a number of 1 to 9 digits, and what stands behind it (the count of digits is this project's own)
abbrev pub number_front : List ℕ → Result (ℕ × List ℕ) ReplyWhy
number_front b =
    let digits = digits_front b in
    if nat_lt 0 (length digits) && nat_lt (length digits) 10 then Ok (digits_value 10 digits, drop (length digits) b)
    else Err Malformed

-- the end of the line, or a space and any bytes (LSL, reply to `streamfeed`)
abbrev pub reason_phrase : List ℕ → Result (Unit {0}) ReplyWhy
reason_phrase [] = Ok tt
reason_phrase (x ∷ b) = if x == 32 then Ok tt else Err Malformed

-- versions below 2.00 and codes below 300 are accepted (LSL, reply to `streamfeed`)
abbrev pub accepts : ℕ → ℕ → Result (Unit {0}) ReplyWhy
accepts version code =
    if nat_lt 1 (version / 100) then Err VersionTooNew
    else if code == 404 then Err NotFound
    else if nat_lt 399 code then Err (PeerError code)
    else if nat_lt 299 code then Err (Redirect code)
    else Ok tt

-- `LSL/`, the version, one space, the code, and a reason phrase or nothing (LSL, reply to `streamfeed`)
unfoldable pub accepts_status : List ℕ → Result (Unit {0}) ReplyWhy
accepts_status text = do
  b ← behind (codes "LSL/") text
  version ← number_front b
  b ← behind (codes " ") version.1
  code ← number_front b
  phrase ← reason_phrase code.1
  accepts version.0 code.0

-- whether two texts are the same bytes (this project's own)
abbrev pub same_bytes : List ℕ → List ℕ → Bool
same_bytes a b = pointwise nat_eq a b

-- a space or a tab (this project's own)
abbrev pub is_blank : ℕ → Bool
is_blank x = x == 32 || x == 9

-- a text without blanks at the front and at the end (this project's own)
abbrev pub trimmed : List ℕ → List ℕ
trimmed text =
    let t = drop (prefix_len is_blank text) text in
    take (length t - suffix_len is_blank t) t

-- how many bytes stand before the first such byte, or in all where there is none (this project's own)
abbrev pub length_before : ℕ → List ℕ → ℕ
length_before byte text = prefix_len (λ x. not (x == byte)) text

-- what stands before the first colon (this project's own)
abbrev pub name_in : List ℕ → List ℕ
name_in text = trimmed (take (length_before 58 text) text)

-- what stands between the first colon and the first semicolon behind it, or the end (this project's own)
abbrev pub value_in : List ℕ → List ℕ
value_in text =
    let t = drop (length_before 58 text + 1) text in
    trimmed (take (length_before 59 t) t)

-- the value of a line with a name, whose case doesn't count; a line without a colon has no name (this project's own)
unfoldable pub value_of : List ℕ → List ℕ → Option (List ℕ)
value_of name text =
    if nat_lt (length_before 58 text) (length text)
    && same_bytes (map to_ascii_lowercase (name_in text)) (map to_ascii_lowercase name)
    then Some (value_in text) else None
