-- Which item is kept, and which items need a block of their own.
use Rattle.std.specs.Prelude.{Bool, true, false, not}
use Rattle.mw_model.specs.declared.calls.Call.TheVariants as call
use Rattle.mw_model.specs.declared.calls.Reply.{Reply}
use Rattle.mw_model.specs.declared.calls.Reply.TheVariants as reply
use Rattle.mw_model.specs.declared.calls.LogItem.{LogItem}
use Rattle.mw_model.specs.declared.calls.LogItem.TheVariants as item
use Rattle.mw_core_ledger.specs.declared.compact.Verdict.{Verdict}
use Rattle.mw_core_ledger.specs.declared.compact.Verdict.TheVariants as verdict
use Rattle.mw_core_ledger.specs.declared.compact.Short.{Short}
use Rattle.mw_core_ledger.specs.declared.compact.Short.TheVariants as short

abbrev pub reply_of : Verdict → Reply
reply_of (verdict.Accepted t) = reply.Accepted t
reply_of (verdict.Refused c) = reply.Refused c

-- the item that is kept so
abbrev pub item_of : Short → LogItem
item_of (short.Load n g v) = item.Call (call.Load n g) (reply_of v)
item_of (short.Element n g v) = item.Call (call.Element n g) (reply_of v)
item_of (short.Cancel n r) = item.Call (call.Cancel n) r
item_of (short.Status n r) = item.Call (call.Status n) r
item_of (short.Fetch n r) = item.Call (call.Fetch n) r
item_of (short.Release n r) = item.Call (call.Release n) r
item_of (short.Finished t) = item.Finished t
item_of (short.Killed t) = item.Killed t
item_of (short.Long b) = b.value

-- the reply tells a ticket or a refusal alone, as each reply to a LOAD or an ELEMENT does
abbrev pub is_verdict : Reply → Bool
is_verdict (reply.Accepted t) = true
is_verdict (reply.Refused c) = true
is_verdict r = false

-- the item needs a block: that of a RUN does, and so would one of a LOAD or an ELEMENT with another reply
abbrev pub is_long : LogItem → Bool
is_long (item.Call (call.Run n o) r) = true
is_long (item.Call (call.Load n g) r) = not (is_verdict r)
is_long (item.Call (call.Element n g) r) = not (is_verdict r)
is_long i = false
