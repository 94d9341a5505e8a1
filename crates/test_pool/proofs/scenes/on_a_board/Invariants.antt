use Rattle.test_pool.proofs.scenes.on_a_board.Given as goal

-- the book of the new roll
abbrev pub ghosts-played : goal.ghosts-played
ghosts-played g a = record { book = a.roll }
