-- By how much a core may be counted as more behind a call (own).
use Rattle.std.specs.Prelude.{ℕ, ◌+◌, Option}
use Rattle.mw_model.specs.declared.calls.Given.{Given}
use Rattle.mw_model.specs.declared.calls.Given.TheVariants as given
use Rattle.mw_model.specs.declared.calls.Call.{Call}
use Rattle.mw_model.specs.declared.calls.Call.TheVariants as call
use Rattle.mw_model.specs.declared.calls.Reply.{Reply}
use Rattle.mw_model.specs.declared.calls.Reply.TheVariants as reply
use Rattle.mw_model.specs.Values.{Value}
use Rattle.mw_model.specs.Stands.{CoreView}
use Rattle.mw_core.specs.Costs.{entry_row, least_side, log_item, run_bytes, shaped_bytes}

-- a payload that is accepted: its value, and its row of the table
abbrev pub payload_bytes : CoreView → Given → Option Value → ℕ
payload_bytes c (given.Good s) p = shaped_bytes s p (least_side c.side) 0 + entry_row
payload_bytes c (given.Bad x) p = 0

-- A call with this payload and this reply: its item of the log, and what is accepted. The item of a CANCEL that is accepted is in the place of what it ends.
abbrev pub call_bytes : CoreView → Call → Option Value → Reply → ℕ
call_bytes c (call.Load n g) p (reply.Accepted t) = payload_bytes c g p + log_item
call_bytes c (call.Element n g) p (reply.Accepted t) = payload_bytes c g p + log_item
call_bytes c (call.Run n o) p (reply.Accepted t) = run_bytes c o + log_item
call_bytes c (call.Cancel n) p (reply.Accepted t) = 0
call_bytes c q p r = log_item
