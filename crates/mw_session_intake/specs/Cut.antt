-- What a cut says of the bytes.
use Rattle.std.specs.Prelude.{◌≡◌, ℕ, ◌+◌, ◌<◌, ◌≤◌, List, take, drop, length}
use Rattle.mw_session_intake.specs.declared.cut.Cut.{Cut}
use Rattle.mw_session_intake.specs.declared.cut.Cut.TheVariants.{Bad, More, Alone, Payload}
use Rattle.mw_model.specs.Lines.{Found, Partial, Fault, AskAlone}
use Rattle.std.specs.List.{position_or_len}
use Rattle.mw_session_intake.specs.Reading.{front, is_line_end}
use Rattle.mw_session_intake.specs.Intake.{IsPayloadLine}

-- The last number is that of the line's bytes, its LF counted.
abbrev pub IsCutOf : Cut → List ℕ → Type 0
IsCutOf (Bad c) bytes = front bytes ≡ Fault c
IsCutOf More bytes = (front bytes ≡ Partial) × (position_or_len is_line_end bytes ≡ length bytes)
IsCutOf (Alone a used) bytes = (0 < used) × (used ≤ length bytes) × (front bytes ≡ Found (AskAlone a) (drop used bytes)) × (used ≡ position_or_len is_line_end bytes + 1)
IsCutOf (Payload what len used) bytes = (used ≤ length bytes) × IsPayloadLine (take used bytes) what len
