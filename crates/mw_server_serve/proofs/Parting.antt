-- Where nothing is read, nothing is dropped.
use Rattle.std.proofs.Common.{ℕ, List, [], Option, Some, None, refl}
use Rattle.std.specs.Io.KnownBytes.{Consumes}
use Rattle.mw_server_socket.specs.Closings.{Drops}

consumes_nothing : (left : Option (List ℕ)) → Consumes left left []
consumes_nothing None = tt
consumes_nothing (Some bytes) = refl

pub drops_nothing : (left : Option (List ℕ)) → Drops left left
drops_nothing left = ([], consumes_nothing left)
