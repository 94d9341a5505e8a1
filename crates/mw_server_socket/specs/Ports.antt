-- What is told of a port that cannot be listened on (own).
use Rattle.std.specs.Prelude.{ℕ, List, ◌++◌, codes}
use Rattle.std.specs.declared.io.ErrorKind.{ErrorKind}
use Rattle.std.specs.declared.io.ErrorKind.TheVariants as kind
use Rattle.mw_model.specs.Replies.{and_number}
use Rattle.mw_server_socket.specs.declared.port.PortFault.{PortFault}
use Rattle.mw_server_socket.specs.declared.port.PortFault.TheVariants as fault

-- the reason that an error of this kind gives
abbrev pub reason_of : ErrorKind → PortFault
reason_of kind.AddrInUse = fault.Taken
reason_of kind.PermissionDenied = fault.NoRights
reason_of k = fault.Refused

-- what stands behind the port in the line
abbrev pub reason_text : PortFault → List ℕ
reason_text fault.Taken = codes ": taken\n"
reason_text fault.NoRights = codes ": no rights\n"
reason_text fault.Refused = codes ": cannot be listened on\n"

-- the line that names the port, and why it cannot be listened on
abbrev pub port_line : ℕ → PortFault → List ℕ
port_line port f = codes "error: socket: port" ++ and_number port ++ reason_text f
