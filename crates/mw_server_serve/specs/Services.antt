-- What a connection and a service leave behind (own).
use Rattle.std.specs.Prelude.{◌≡◌, ◌≢◌, ◌⊎◌, ℕ, Bool, true, false, List, [], Option, None, codes}
use Rattle.std.specs.Io.KnownBytes.{Appends, Keeps, append_known}
use Rattle.mw_batch.specs.Batches.{Served, SessionEnds, Unserved}
use Rattle.mw_server_socket.specs.Announcements.{announcement}
use Rattle.mw_server_socket.specs.Closings.{Drops}
use Rattle.mw_server_socket.specs.Ports.{port_line}
pub use Rattle.mw_server_socket.specs.Tellings.{TellsLine, Told}
use Rattle.mw_server_serve.specs.declared.fault.ServeFault.{ServeFault}
use Rattle.mw_server_serve.specs.declared.fault.ServeFault.TheVariants as fault

-- The connection was served as a batch is, from the start of the machine: its reader and writer are left as a batch leaves them. What is told of a fault, nobody hears.
abbrev pub ServedAlone : SessionEnds → SessionEnds → ℕ → Type 0
ServedAlone old new status =
    (unheard : Bool)
    × (Served old (record new { tell_failed = unheard }) status ⊎ Unserved old (record new { tell_failed = unheard }) status)

-- the ends of a session before it begins: what is known of what the reader has left, and of what the writer holds
abbrev pub untouched : Option (List ℕ) → Option (List ℕ) → SessionEnds
untouched left written =
    record { left = left; reads = 0; read_failed = false; written = written; write_failed = false; told = None; tell_failed = false }

-- of what was written the writer holds a front, and all where it has taken all
abbrev pub IsTaken : Option (List ℕ) → Option (List ℕ) → Bool → Type 0
IsTaken written after has_taken =
    (untaken : List ℕ) × Keeps written (append_known after untaken) × (has_taken ≡ true → untaken ≡ [])

-- One session was served between a reader and a writer, and nothing beside it was read or written; of what it wrote the writer holds all, or a front.
pub record Conversed (left rest before after : Option (List ℕ)) (has_taken : Bool) : Type 0 where
  pub ends : SessionEnds
  pub status : ℕ
  pub alone : ServedAlone (untouched left before) ends status
  pub read : ends.left ≡ rest
  pub taken : IsTaken ends.written after has_taken

-- A connection was served: one session, behind which bytes were dropped if the writer has taken all.
abbrev pub Connected : Option (List ℕ) → Option (List ℕ) → Option (List ℕ) → Option (List ℕ) → Bool → Type 0
Connected left rest before after has_taken =
    (mid : Option (List ℕ)) × Conversed left mid before after has_taken × Drops mid rest × (has_taken ≡ false → rest ≡ mid)

-- the line that tells a fault, where this port was asked for; the fault of the state's port has that
abbrev pub serve_line : ℕ → ServeFault → List ℕ
serve_line port fault.Memory = codes "error: memory\n"
serve_line port (fault.Port f) = port_line port f
serve_line port (fault.Status state f) = port_line state f
serve_line port fault.Socket = codes "error: socket\n"
serve_line port fault.Descriptors = codes "error: descriptors\n"
serve_line port fault.Output = codes "error: output\n"
serve_line port fault.Thread = codes "error: thread\n"

-- the port that a service listens on is the one that was asked for; 0 asks for any
abbrev pub IsPortFor : ℕ → ℕ → Type 0
IsPortFor asked port = asked ≢ 0 → port ≡ asked

-- the line of the port was written
abbrev pub Announces : ℕ → Option (List ℕ) → Option (List ℕ) → Type 0
Announces asked old new = (port : ℕ) × IsPortFor asked port × Appends old new (announcement port)

-- Status 0: the service was announced with its port, and no fault was told. Status 1: the line of one fault was told.
abbrev pub Offered : ℕ → Option (List ℕ) → Option (List ℕ) → Told → Told → ℕ → Type 0
Offered asked before after old new status =
    ((status ≡ 0) × Announces asked before after × (new ≡ old)) ⊎ ((status ≡ 1) × ((f : ServeFault) × TellsLine old new (serve_line asked f)))
