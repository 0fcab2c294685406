-- The lines that a recording says. This project's own.
use Rattle.std.specs.Prelude.{ℕ, List, [], ◌∷◌, ◌++◌, map, codes}
use Rattle.std.specs.Fmt.{decimal}
use Rattle.run_model.specs.declared.report.FeedReport.{FeedReport}
use Rattle.record_call.specs.Ends.{end_text}

-- how many samples of a feed were received, how many are in the file, how many the ledger names, and how the feed ended
abbrev pub feed_line : FeedReport → List ℕ
feed_line r =
    codes "feed " ++ (decimal r.id ++ (codes " received " ++ (decimal r.received ++ (codes " kept " ++ (decimal r.kept ++ (codes " lost " ++ (decimal r.lost ++ (codes " end " ++ end_text r.end))))))))

-- the size of the file in bytes, and the number of its chunks
abbrev pub recorded_line : ℕ → ℕ → List ℕ
recorded_line bytes chunks = codes "recorded bytes " ++ (decimal bytes ++ (codes " chunks " ++ decimal chunks))

-- a line for each feed, in the order of the plan, and one for the file
abbrev pub record_lines : List FeedReport → ℕ → ℕ → List (List ℕ)
record_lines reports bytes chunks = map feed_line reports ++ recorded_line bytes chunks ∷ []

-- ---- the lines of faults

abbrev pub usage_text : ℕ → List ℕ
usage_text why = codes "fault 2 usage " ++ decimal why

abbrev pub plan_text : ℕ → ℕ → List ℕ
plan_text line why = codes "fault 3 line " ++ (decimal line ++ (codes " why " ++ decimal why))

abbrev pub document_text : ℕ → List ℕ
document_text id = codes "fault 6 feed " ++ decimal id

abbrev pub cost_text : ℕ → List ℕ
cost_text asked = codes "fault 7 asked " ++ decimal asked
