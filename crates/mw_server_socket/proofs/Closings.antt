-- What is read and dropped, piece by piece.
use Rattle.std.proofs.Common.{ℕ, List, ◌++◌, take, Option, Result, Ok, Err}
use Rattle.std.specs.Io.KnownBytes.{ReadConsumes}
use Rattle.std.proofs.KnownBytes.{Consumes-trans, Consumes-kept}
use Rattle.mw_server_socket.specs.Closings.{Drops}

-- a read drops more, or nothing
pub drops-read : {E : Type 0} (a b c : Option (List ℕ)) (r : Result ℕ E) (buf : List ℕ) → Drops a b → ReadConsumes b c r buf → Drops a c
drops-read a b c (Ok n) buf d h = (d.0 ++ take n buf, Consumes-trans a b c d.0 (take n buf) d.1 h.0)
drops-read a b c (Err e) buf d h = (d.0, Consumes-kept a b c d.0 d.1 h)
