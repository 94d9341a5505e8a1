-- What a client is told for whom there is no room (own).
use Rattle.std.specs.Prelude.{ℕ, List, codes}

-- the line of a service that has no room for a client
abbrev pub busy_line : List ℕ
busy_line = codes "ERR 60 BUSY\n"
