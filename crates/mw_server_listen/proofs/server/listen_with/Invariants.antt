use Rattle.mw_server_listen.proofs.server.listen_with.Given as goal

-- the book of the new roll
abbrev pub ghosts-serve_all : goal.ghosts-serve_all
ghosts-serve_all g a = record { book = a.roll }
