-- What a server leaves behind (own).
use Rattle.std.specs.Prelude.{◌≡◌, ◌⊎◌, ℕ, Bool, List, [], Option, All, MatchBool, length, codes}
use Rattle.std.specs.Io.KnownBytes.{Appends}
use Rattle.mw_model.specs.declared.receipts.Receipt.{Receipt}
use Rattle.mw_model.specs.Machine.{Machine}
use Rattle.mw_model.specs.Receipts.{Covers}
use Rattle.mw_model.specs.Stands.{CoreView, StandsFor}
use Rattle.mw_pool_session.specs.Serving.{Receives}
use Rattle.mw_server_socket.specs.Announcements.{announcement}
use Rattle.mw_server_socket.specs.Ports.{port_line}
pub use Rattle.mw_server_socket.specs.Tellings.{TellsLine, Told}
use Rattle.mw_server_listen.specs.declared.fault.ListenFault.{ListenFault}
use Rattle.mw_server_listen.specs.declared.fault.ListenFault.TheVariants as fault

-- the line that tells a fault, where this port was asked for
abbrev pub listen_line : ℕ → ListenFault → List ℕ
listen_line port fault.Memory = codes "error: memory\n"
listen_line port (fault.Port f) = port_line port f
listen_line port fault.Socket = codes "error: socket\n"
listen_line port fault.Thread = codes "error: thread\n"
listen_line port fault.Audit = codes "error: audit\n"
listen_line port fault.Output = codes "error: output\n"

-- where it is asked for, the line of this port was written, and else nothing
abbrev pub AnnouncesIf : Bool → ℕ → Option (List ℕ) → Option (List ℕ) → Type 0
AnnouncesIf asked port old new = MatchBool asked (Appends old new (announcement port)) (new ≡ old)

-- What a session leaves whose connection does not tell its bytes: such bytes were read and such a text is due for them that the pass has the receipts of their requests, from the first on.
pub record IsOfSession (pass : List Receipt) : Type 0 where
  pub bytes : List ℕ
  pub rest : List ℕ
  pub text : List ℕ
  pub receives : Receives bytes rest [] pass text

-- So many sessions were joined, and these are the passes that they left. They cover the log of a core that stands for some state of the machine: that state's run has all their calls, each once.
pub record Audited (left : List Receipt → Type 0) (sessions : ℕ) : Type 0 where
  pub core : CoreView
  pub stands : ∥ ((m : Machine) × StandsFor core m) ∥₁
  pub passes : List (List Receipt)
  pub joined : length passes ≡ sessions
  pub each : ∥ All left passes ∥₁
  pub covers : Covers core.log passes

-- Status 0: the passes that the sessions left were audited, and nothing was told. Status 1: the line of one fault was told.
abbrev pub Listened : (List Receipt → Type 0) → ℕ → ℕ → Told → Told → ℕ → Type 0
Listened left port sessions old new status =
    ((status ≡ 0) × Audited left sessions × (new ≡ old)) ⊎ ((status ≡ 1) × ((f : ListenFault) × TellsLine old new (listen_line port f)))
