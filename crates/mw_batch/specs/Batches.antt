-- What a batch leaves behind (own).
use Rattle.std.specs.Prelude.{◌≡◌, ◌≤◌, ◌⊎◌, ℕ, Bool, true, List, [], Option, Result, Ok, Err, codes}
use Rattle.std.specs.List.{concat}
use Rattle.std.specs.Io.KnownBytes.{Appends, Consumes, IsAtEnd}
use Rattle.mw_model.specs.declared.calls.LogItem.{LogItem}
use Rattle.mw_model.specs.declared.limits.TheConstants.{READ_LIMIT}
use Rattle.mw_model.specs.declared.requests.End.{End}
use Rattle.mw_model.specs.declared.requests.End.TheVariants as end
use Rattle.mw_model.specs.Machine.{Machine, start_state}
use Rattle.mw_model.specs.Scripts.{Turn, IsScript, IsBroken}
use Rattle.mw_grid.specs.Grids.{IsTileSide}
use Rattle.mw_session.specs.mw_wire.Faults.{fault_line}
use Rattle.mw_session.specs.mw_wire.Writes.{CutsShort}
use Rattle.mw_session.specs.mw_wire.declared.fault.SessionFault.{SessionFault}
use Rattle.mw_session.specs.mw_wire.declared.fault.SessionFault.TheVariants as fault
use Rattle.mw_session.specs.mw_wire.declared.sink.Sink.{Sink}
use Rattle.mw_session.specs.mw_wire.declared.source.Source.{Source}
use Rattle.mw_session.specs.mw_wire.Rooms.{LacksRoom}
use Rattle.mw_session.specs.Runs.{Ran}
use Rattle.mw_session.specs.Tallies.{AreReplies, has_refusal, line_behind}
use Rattle.mw_batch.specs.EndLines.{end_line}
use Rattle.mw_batch.specs.Strict.{strict_status}

-- a side that tiles may have, or 0: then each command has tiles of a side that suits its elements
abbrev pub IsSideAsked : ℕ → Type 0
IsSideAsked side = (side ≡ 0) ⊎ IsTileSide side

-- What is seen of the ends of a session: what is known of what the reader has left, how often it was read and whether it failed; what is known of what the writer holds, and whether it failed; what is known of what the writer of faults holds, and whether it failed.
pub record SessionEnds : Type 0 where
  pub left : Option (List ℕ)
  pub reads : ℕ
  pub read_failed : Bool
  pub written : Option (List ℕ)
  pub write_failed : Bool
  pub told : Option (List ℕ)
  pub tell_failed : Bool

-- what is seen of this reader, writer and writer of faults, by what is known of what each has left or holds
abbrev pub ends_of : {R W F : Type 0} → (R → Option (List ℕ)) → (W → Option (List ℕ)) → (F → Option (List ℕ)) → Source R → Sink W → Sink F → SessionEnds
ends_of left written told source sink faults = record {
  left = left source.inner;
  reads = source.reads;
  read_failed = source.failed;
  written = written sink.inner;
  write_failed = sink.failed;
  told = told faults.inner;
  tell_failed = faults.failed;
}

-- the exit status of a session that came to this
abbrev pub end_status : Result End SessionFault → ℕ
end_status (Ok end.Quit) = 0
end_status (Ok (end.Ended c)) = 1
end_status (Err f) = 1

-- the reader failed or was read as often as it may be, or the writer failed
abbrev pub HasFailed : SessionEnds → SessionFault → Type 0
HasFailed e fault.Read = (e.read_failed ≡ true) ⊎ (e.reads ≡ READ_LIMIT)
HasFailed e fault.Write = e.write_failed ≡ true

-- These turns, from the start of the machine, write this text for the bytes and come to this: the text is the whole script, or a front of it and an end has failed.
abbrev pub ComesTo : SessionEnds → List ℕ → List Turn → Machine → List ℕ → Result End SessionFault → Type 0
ComesTo new bytes turns m text (Ok e) = IsScript (IsAtEnd new.left) bytes turns start_state m text e
ComesTo new bytes turns m text (Err f) = IsBroken (IsAtEnd new.left) bytes turns start_state m text × HasFailed new f

-- nothing was told of a fault
abbrev pub TellsNothing : SessionEnds → SessionEnds → Type 0
TellsNothing old new = (new.told ≡ old.told) × (new.tell_failed ≡ old.tell_failed)

-- exactly this was told of a fault; or less of it, where the writer of faults failed
abbrev pub TellsFaultLine : SessionEnds → SessionEnds → List ℕ → Type 0
TellsFaultLine old new line =
    (Appends old.told new.told line × (new.tell_failed ≡ old.tell_failed)) ⊎ (CutsShort old.told new.told line × (new.tell_failed ≡ true))

-- The line of the fault was told. Where a refusal ended the session, it was told in which line behind these turns, and why; and nothing where it ended otherwise.
abbrev pub TellsOutcome : SessionEnds → SessionEnds → List Turn → Result End SessionFault → Type 0
TellsOutcome old new turns (Ok end.Quit) = TellsNothing old new
TellsOutcome old new turns (Ok (end.Ended c)) = TellsFaultLine old new (end_line (line_behind turns) c)
TellsOutcome old new turns (Err f) = TellsFaultLine old new (fault_line f)

-- the line that tells that there was no memory to begin with
abbrev pub memory_line : List ℕ
memory_line = codes "error: memory\n"

-- A session was served: these bytes were read and this text was written, and what it came to gives the status. How it ran from the start of the machine, and where it stopped, the session says.
pub record Served (old new : SessionEnds) (status : ℕ) : Type 0 where
  pub bytes : List ℕ
  pub text : List ℕ
  pub turns : List Turn
  pub state : Machine
  pub log : List LogItem
  pub outcome : Result End SessionFault
  pub read : Consumes old.left new.left bytes
  pub wrote : Appends old.written new.written text
  pub comes : ComesTo new bytes turns state text outcome
  pub ran : Ran (LacksRoom bytes) new.left bytes start_state state [] log old.written new.written outcome
  pub told : TellsOutcome old new turns outcome
  pub tells : status ≡ end_status outcome
  pub few_reads : new.reads ≤ READ_LIMIT
  pub reader_failed : new.read_failed ≡ true → outcome ≡ Err fault.Read
  pub writer_failed : new.write_failed ≡ true → outcome ≡ Err fault.Write

-- The text is the replies to these turns, from the start of the machine, and one of them is a refusal exactly where this says so.
pub record HasReplied (turns : List Turn) (state : Machine) (text : List ℕ) (refused : Bool) : Type 0 where
  pub replies : List (List ℕ)
  pub answered : AreReplies start_state turns replies state
  pub whole : text ≡ concat replies
  pub told : refused ≡ has_refusal replies

-- A session was served as a batch serves it; the status is that of a batch, and 3 in the place of 0 where one of the replies is a refusal.
abbrev pub ServedStrictly : SessionEnds → SessionEnds → ℕ → Type 0
ServedStrictly old new status =
    (ended : ℕ) × (served : Served old new ended) × (refused : Bool) × (ended ≡ 0 → HasReplied served.turns served.state served.text refused) × (status ≡ strict_status ended refused)

-- There was no memory to begin: nothing was read or written.
pub record Unserved (old new : SessionEnds) (status : ℕ) : Type 0 where
  pub unread : (new.left ≡ old.left) × (new.reads ≡ old.reads) × (new.read_failed ≡ old.read_failed)
  pub unwritten : (new.written ≡ old.written) × (new.write_failed ≡ old.write_failed)
  pub told : TellsFaultLine old new memory_line
  pub failed : status ≡ 1
