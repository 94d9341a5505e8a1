-- Lists of events, and what the core and the machine of one thread do at them (own).
use Rattle.std.specs.Prelude.{ℕ, ◌≡◌, ◌≢◌, ◌++◌, List, [], ◌∷◌, Option, None, IsSome, ◌↔◌, Result, Ok, Err}
use Rattle.std.specs.Result.{ForOk}
use Rattle.mw_model.specs.declared.codes.Code.TheVariants as code
use Rattle.mw_model.specs.declared.tasks.TaskId.{TaskId}
use Rattle.mw_model.specs.declared.calls.Outcome.TheVariants as outcome
use Rattle.mw_model.specs.declared.calls.Call.{Call}
use Rattle.mw_model.specs.declared.calls.Call.TheVariants as call
use Rattle.mw_model.specs.declared.calls.Reply.{Reply}
use Rattle.mw_model.specs.declared.calls.Reply.TheVariants as reply
use Rattle.mw_model.specs.declared.calls.LogItem.TheVariants as item
use Rattle.mw_model.specs.Pictures.{IsImage}
use Rattle.mw_model.specs.Values.{Value}
use Rattle.mw_model.specs.Refusals.{refusal}
use Rattle.mw_model.specs.Machine.{Machine, with_table, settled, killed, after, reply_to}
use Rattle.mw_model.specs.Stands.{CoreView, StandsFor}
use Rattle.mw_core_refusals.specs.mw_step_task.WindowTasks.{WindowTask}
use Rattle.mw_core.specs.declared.answers.Started.{Started}
use Rattle.mw_core.specs.declared.answers.Started.TheVariants as started
use Rattle.mw_core.specs.declared.answers.Finish.{Finish}
use Rattle.mw_core.specs.declared.answers.Finish.TheVariants as finish
use Rattle.mw_core.specs.declared.answers.Refusal.{Refusal}
use Rattle.mw_core.specs.declared.answers.Refusal.TheVariants as refusal
use Rattle.mw_core_refusals.specs.mw_store.declared.fetched.Fetched.{Fetched}
use Rattle.mw_core.specs.declared.events.Event.{Event}
use Rattle.mw_core.specs.declared.events.Event.TheVariants as event
use Rattle.mw_core.specs.declared.events.Answer.{Answer}
use Rattle.mw_core.specs.declared.events.Answer.TheVariants as answer
use Rattle.mw_core_ledger.specs.mw_core_laws.Payloads.{given_image, image_payload, given_element, element_payload}
use Rattle.mw_core_ledger.specs.mw_core_laws.Events.{WorkStays, IsFresh, handed_out}
use Rattle.mw_core.specs.TaskAnswers.{Starts, AnswersFinish, AnswersRefusal, Picks}
use Rattle.mw_core_refusals.specs.mw_store.Fetches.{ShowsSome, shown_value}

-- an image that is loaded is within the limits
abbrev pub IsServable : Event → Type 0
IsServable (event.Load n g) = ForOk g IsImage
IsServable e = Unit {0}

-- ---- session calls

-- the core and the machine are as before
abbrev pub Stays : CoreView → Machine → CoreView → Machine → Type 0
Stays old m new n = (new ≡ old) × (n ≡ m)

-- The reply is the machine's, the machine goes on by the call, the log tells both, and the work of each ticket that goes on pending stays.
pub record ReplyEffect (old : CoreView) (m : Machine) (c : Call) (payload : Option Value) (r : Reply) (new : CoreView) (n : Machine) : Type 0 where
  pub reply : r ≡ reply_to m c
  pub machine : n ≡ after m c payload
  pub log : new.log ≡ old.log ++ item.Call c r ∷ []
  pub work : WorkStays old new

-- a session call that answers by a reply, or found no memory
abbrev pub CallEffect : CoreView → Machine → Call → Option Value → Answer → CoreView → Machine → Type 0
CallEffect old m c p (answer.Reply r) new n = ReplyEffect old m c p r new n
CallEffect old m c p answer.NoMemory new n = Stays old m new n
CallEffect old m c p a new n = ⊥

-- a LOAD or an ELEMENT: that memory was refused is never told by a reply
abbrev pub Loads : CoreView → Machine → Call → Option Value → Answer → CoreView → Machine → Type 0
Loads old m c p (answer.Reply r) new n = ReplyEffect old m c p r new n × (r ≢ reply.Refused code.Memory)
Loads old m c p a new n = CallEffect old m c p a new n

-- a RUN: no task of the command that it accepts was started
abbrev pub Submits : CoreView → Machine → Call → Answer → CoreView → Machine → Type 0
Submits old m c (answer.Reply r) new n = ReplyEffect old m c None r new n × ((t : ℕ) → r ≡ reply.Accepted t → IsFresh new t)
Submits old m c a new n = CallEffect old m c None a new n

-- a CANCEL: memory may be wanting only where it is refused
abbrev pub Cancels : CoreView → Machine → Call → Answer → CoreView → Machine → Type 0
Cancels old m c answer.NoMemory new n = (refusal m.table m.payloads c ≢ None) × Stays old m new n
Cancels old m c a new n = CallEffect old m c None a new n

-- a FETCH, with the value that it hands out
abbrev pub Fetches : CoreView → Machine → Call → Answer → CoreView → Machine → Type 0
Fetches old m c (answer.Fetched f) new n = ReplyEffect old m c None f.reply new n × (shown_value f.value ≡ handed_out m f.reply) × (IsSome (shown_value f.value) ↔ ShowsSome f.reply)
Fetches old m c answer.NoMemory new n = Stays old m new n
Fetches old m c a new n = ⊥

-- ---- tasks

-- the machine after a START: the ticket of a task that found no memory is killed
abbrev pub after_start : Machine → Started → Machine
after_start m (started.Refused t) = with_table m (killed m.table t outcome.Memory)
after_start m s = m

-- the machine after a result: its ticket is done where this was the last
abbrev pub after_finish : Machine → Finish → Machine
after_finish m (finish.Settled t) = with_table m (settled m.table t outcome.Done)
after_finish m f = m

-- the machine after a task that a worker gave up: its ticket is killed
abbrev pub after_refusal : Machine → Refusal → Machine
after_refusal m (refusal.Killed t) = with_table m (killed m.table t outcome.Memory)
after_refusal m r = m

-- the ready task of this place is taken, or its ticket is killed for want of memory; or no task is ready
abbrev pub AnswersTake : CoreView → Machine → ℕ → Answer → CoreView → Machine → Type 0
AnswersTake old m place (answer.Started s) new n = Picks old place s × Starts old m s new × (n ≡ after_start m s)
AnswersTake old m place a new n = ⊥

-- the result of a running task is taken; any other is late, or a stranger's
abbrev pub Brings : CoreView → Machine → WindowTask → Answer → CoreView → Machine → Type 0
Brings old m d (answer.Finish f) new n = AnswersFinish old m d f new × (n ≡ after_finish m f)
Brings old m d a new n = ⊥

-- the ticket of a running task is killed for want of memory; any other task is late, or a stranger's
abbrev pub GivesUp : CoreView → Machine → TaskId → Answer → CoreView → Machine → Type 0
GivesUp old m k (answer.Refusal r) new n = AnswersRefusal old m k r new × (n ≡ after_refusal m r)
GivesUp old m k a new n = ⊥

-- ---- events

-- at an event with this answer a core that shows old, and stands for m, comes to show new, and the machine to be n
abbrev pub HasEffect : CoreView → Machine → Event → Answer → CoreView → Machine → Type 0
HasEffect old m (event.Load x g) a new n = Loads old m (call.Load x (given_image g)) (image_payload g) a new n
HasEffect old m (event.Element x g) a new n = Loads old m (call.Element x (given_element g)) (element_payload g) a new n
HasEffect old m (event.Run x o) a new n = Submits old m (call.Run x o) a new n
HasEffect old m (event.Cancel x) a new n = Cancels old m (call.Cancel x) a new n
HasEffect old m (event.Release x) a new n = CallEffect old m (call.Release x) None a new n
HasEffect old m (event.Status x) a new n = CallEffect old m (call.Status x) None a new n
HasEffect old m (event.Fetch x) a new n = Fetches old m (call.Fetch x) a new n
HasEffect old m (event.Start place) a new n = AnswersTake old m place a new n
HasEffect old m (event.Finish d) a new n = Brings old m d a new n
HasEffect old m (event.Refuse k) a new n = GivesUp old m k.task a new n

-- these answers are given to these events, one after another: between any two the core stands for the machine there, and keeps its side
abbrev pub HaveEffects : CoreView → Machine → List Event → List Answer → CoreView → Machine → Type 0
HaveEffects old m [] [] new n = Stays old m new n
HaveEffects old m (e ∷ es) (a ∷ answers) new n =
    (between : CoreView) × (k : Machine) × HasEffect old m e a between k × StandsFor between k × (between.side ≡ old.side) × HaveEffects between k es answers new n
HaveEffects old m [] (a ∷ answers) new n = ⊥
HaveEffects old m (e ∷ es) [] new n = ⊥

-- the answer that a session call gives
abbrev pub answer_of : {E : Type 0} → Result Reply E → Answer
answer_of (Ok r) = answer.Reply r
answer_of (Err e) = answer.NoMemory

-- the answer that a FETCH gives
abbrev pub fetch_answer_of : {E : Type 0} → Result Fetched E → Answer
fetch_answer_of (Ok f) = answer.Fetched f
fetch_answer_of (Err e) = answer.NoMemory
