-- Files that are written, and what is remembered of those that are read. This project's own.
use Rattle.std.specs.Prelude.{◌≡◌, ◌++◌, ◌∷◌, [], ℕ, Bool, true, Contains, List, Option, None, Some}
use Rattle.std.specs.Fs.{IsFile, file_type, metadata_len}
use Rattle.std.specs.declared.fs.attrs.Metadata.{Metadata}
use Rattle.real_dock.specs.declared.identity.Identity.{Identity}
use Rattle.real_dock.specs.declared.output.Output.{Output}
use Rattle.rec_base.specs.declared.name.Name.{Name}
use Rattle.rec_base.specs.declared.name.Name.TheVariants.{File, Peer}

-- a file that is there already may become the output: it is none of the inputs, and has no bytes where it is a regular file
abbrev pub IsFree : Metadata → Identity → List Identity → Type 0
IsFree found identity inputs = (Contains inputs identity → ⊥) × (IsFile (file_type found) → metadata_len found ≡ 0)

-- what the output holds, where there is one and its file tells
abbrev pub held_of : {F : Type 0} → (F → Option (List ℕ)) → Option (Output F) → Option (List ℕ)
held_of contents None = None
held_of contents (Some output) = contents output.high.file

-- what was written was forced to the disk, where there is an output, and as far as it lies on one
abbrev pub is_forced : {F : Type 0} → Option (Output F) → Bool
is_forced None = true
is_forced (Some output) = output.is_forced

-- a file that is opened to be read goes behind those that were opened before it; a peer is no file
abbrev pub Remembers : Name → List Identity → List Identity → Type 0
Remembers (File path) before after = (input : Identity) × (after ≡ before ++ (input ∷ []))
Remembers (Peer host port request) before after = after ≡ before
