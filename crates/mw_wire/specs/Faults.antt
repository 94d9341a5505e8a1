-- Which reads have failed, and the line that tells a fault.
use Rattle.std.specs.Prelude.{ℕ, Bool, true, false, not, List, [], ◌∷◌, ◌++◌, Result, Ok, Err, codes}
use Rattle.std.specs.declared.io.Error.{Error}
use Rattle.std.specs.declared.io.ErrorKind.{ErrorKind}
use Rattle.std.specs.declared.io.ErrorKind.TheVariants.{Interrupted}
use Rattle.std.specs.IoError.{error_kind}
use Rattle.mw_wire.specs.declared.fault.SessionFault.{SessionFault}
use Rattle.mw_wire.specs.declared.fault.SessionFault.TheVariants as fault

-- the read was interrupted, and may be made again
abbrev pub is_interruption : ErrorKind → Bool
is_interruption Interrupted = true
is_interruption k = false

-- a read failed, and not by an interruption
abbrev pub has_failed : Result ℕ Error → Bool
has_failed (Ok n) = false
has_failed (Err e) = not (is_interruption (error_kind e))

-- what is told of a fault
abbrev pub fault_text : SessionFault → List ℕ
fault_text fault.Read = codes "error: input"
fault_text fault.Write = codes "error: output"

-- the line that tells it
abbrev pub fault_line : SessionFault → List ℕ
fault_line f = fault_text f ++ 10 ∷ []
