-- What reading an input leaves of the dock's contents. This project's own.
use Rattle.std.specs.Prelude.{◌≡◌, ◌≢◌, Option, None, Some, ⊤}
use Rattle.rec_base.specs.declared.name.Name.{Name}
use Rattle.rec_base.specs.Contents.{Contents}

-- what the openings of other names give is as before
abbrev pub KeepsOthers : Option Contents → Option Contents → Name → Type 0
KeepsOthers None after name = ⊤
KeepsOthers (Some before) None name = ⊥
KeepsOthers (Some before) (Some after) name = (other : Name) → other ≢ name → after other ≡ before other
