use Rattle.block_pool.proofs.ends.make_pool.Given as goal

abbrev pub ghosts-open_pool : goal.ghosts-open_pool
ghosts-open_pool a = record { room = a.blocks; size = a.length }
