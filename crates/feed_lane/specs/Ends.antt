-- The ends of a lane by kind. This project's own.
use Rattle.std.specs.Prelude.{◌≡◌, ◌≤◌, None, Some}
use Rattle.atomic_table.specs.Seated.{TableId}
use Rattle.xdf_model.specs.Sample.{size_of}
use Rattle.feed_lane.specs.declared.tail.TailEnds.{TailEnds}
use Rattle.feed_lane.specs.declared.tail.TailEnds.TheVariants as tail
use Rattle.feed_lane.specs.declared.head.HeadEnds.{HeadEnds}
use Rattle.feed_lane.specs.declared.head.HeadEnds.TheVariants as head
use Rattle.feed_lane.specs.declared.last.LastEnds.{LastEnds}
use Rattle.feed_lane.specs.declared.last.LastEnds.TheVariants as last
use Rattle.feed_lane.specs.Lanes.{Lane, TailView, HeadView, LastView}

abbrev pub tail_in : TailEnds → TailView
tail_in (tail.Numbers t) = t
tail_in (tail.Texts t) = t

abbrev pub head_in : HeadEnds → HeadView
head_in (head.Numbers h) = h
head_in (head.Texts h) = h

abbrev pub last_in : LastEnds → LastView
last_in (last.Numbers l) = l
last_in (last.Texts l) = l

-- with numbers a lane has a pool, and with texts none
abbrev pub HasPool : Lane → Type 0
HasPool lane = (1 ≤ size_of lane.shape.format) × (pool : TableId) × (lane.pool ≡ Some pool)

abbrev pub HasNone : Lane → Type 0
HasNone lane = (size_of lane.shape.format ≡ 0) × (lane.pool ≡ None)

abbrev pub IsTailOfKind : TailEnds → Type 0
IsTailOfKind (tail.Numbers t) = HasPool t.lane
IsTailOfKind (tail.Texts t) = HasNone t.lane

abbrev pub IsHeadOfKind : HeadEnds → Type 0
IsHeadOfKind (head.Numbers h) = HasPool h.lane
IsHeadOfKind (head.Texts h) = HasNone h.lane

abbrev pub IsLastOfKind : LastEnds → Type 0
IsLastOfKind (last.Numbers l) = 1 ≤ size_of l.shape.format
IsLastOfKind (last.Texts l) = size_of l.shape.format ≡ 0
