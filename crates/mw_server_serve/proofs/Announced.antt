-- What is told of a port that was asked for.
use Rattle.std.proofs.Common.{ℕ, List}
use Rattle.std.specs.Prelude.{Option, Result, Ok, Err, OnOk}
use Rattle.std.specs.Io.KnownBytes.{Appends}
use Rattle.mw_server_socket.specs.Announcements.{announcement}
use Rattle.mw_server_serve.specs.Services.{Announces, IsPortFor}

pub port_announced : {T E : Type 0} (asked port : ℕ) (old new : Option (List ℕ)) (r : Result T E) → IsPortFor asked port → OnOk r (Appends old new (announcement port)) → OnOk r (Announces asked old new)
port_announced asked port old new (Ok x) is told = (port, is, told)
port_announced asked port old new (Err e) is told = tt
