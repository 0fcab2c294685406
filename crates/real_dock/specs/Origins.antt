-- What a file or a peer has left. This project's own.
use Rattle.std.specs.Prelude.{ℕ, List, Option}
use Rattle.real_dock.specs.declared.real_source.Origin.{Origin}
use Rattle.real_dock.specs.declared.real_source.Origin.TheVariants.{File, Peer}

-- the bytes still to come, where the file or the peer tells them
abbrev pub left_of : {F P : Type 0} → (F → Option (List ℕ)) → (P → Option (List ℕ)) → Origin F P → Option (List ℕ)
left_of file_left peer_left (File file) = file_left file
left_of file_left peer_left (Peer peer) = peer_left peer
