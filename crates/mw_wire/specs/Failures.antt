-- What a reader and a writer remember of their failures, and what that tells of a session.
use Rattle.std.specs.Prelude.{◌≡◌, ◌≤◌, ◌⊎◌, ℕ, Bool, true, false, OnOk, OnErr, Result, Err}
use Rattle.mw_model.specs.declared.limits.TheConstants.{READ_LIMIT}
use Rattle.mw_model.specs.declared.requests.End.{End}
use Rattle.mw_wire.specs.declared.fault.SessionFault.{SessionFault}
use Rattle.mw_wire.specs.declared.fault.SessionFault.TheVariants as fault

-- A reader was not read yet, and has not failed.
pub record IsUnread (failed : Bool) (reads : ℕ) : Type 0 where
  pub clear : failed ≡ false
  pub none : reads ≡ 0

-- A writer remembers whether it failed: what was done with it is Ok, and nothing is new; or it is the fault of writing, and the writer has failed.
pub record RemembersFailure {A : Type 0} (old new : Bool) (result : Result A SessionFault) : Type 0 where
  pub kept : OnOk result (new ≡ old)
  pub flag : OnErr result ((result ≡ Err fault.Write) × (new ≡ true))

-- A session came to this, and which of its reader and its writer failed, and how often the reader was read, tells what it came to.
pub record TellsFailures (read_failed : Bool) (reads : ℕ) (write_failed : Bool) (result : Result End SessionFault) : Type 0 where
  pub few_reads : reads ≤ READ_LIMIT
  pub read_fault : result ≡ Err fault.Read → (read_failed ≡ true) ⊎ (reads ≡ READ_LIMIT)
  pub write_fault : result ≡ Err fault.Write → write_failed ≡ true
  pub reader_failed : read_failed ≡ true → result ≡ Err fault.Read
  pub writer_failed : write_failed ≡ true → result ≡ Err fault.Write
