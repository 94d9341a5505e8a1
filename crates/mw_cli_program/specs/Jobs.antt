-- What a job leaves behind (own).
use Rattle.std.specs.Prelude.{◌≡◌, ◌≤◌, ◌⊎◌, ℕ, Bool, MatchBool, Option, Some, None}
use Rattle.mw_server_serve.specs.mw_batch.Batches.{IsSideAsked, Served, ServedStrictly, SessionEnds, Unserved}
use Rattle.mw_cli.specs.declared.line.Job.{Job}
use Rattle.mw_cli.specs.declared.line.Job.TheVariants as job
use Rattle.mw_server_listen.specs.Listening.{AnnouncesIf, IsOfSession, Listened}
use Rattle.mw_server_listen.specs.Listening as listening
use Rattle.mw_server_serve.specs.Services.{Offered}
use Rattle.mw_server_serve.specs.Services as services

-- the side of tiles that is asked for, or 0
abbrev pub side_in : Option ℕ → ℕ
side_in None = 0
side_in (Some side) = side

-- a job with numbers that the command line lets through
abbrev pub IsPossible : Job → Type 0
IsPossible (job.Batch given) = IsSideAsked (side_in given.side)
IsPossible (job.Listen given) =
    (1 ≤ given.port)
    × ((1 ≤ given.workers) × (given.workers ≤ 64))
    × ((1 ≤ given.sessions) × (given.sessions ≤ 64))
    × IsSideAsked (side_in given.side)
IsPossible (job.Serve given) = IsSideAsked (side_in given.side)

-- what `listen` sees of the writer of faults
abbrev pub told_of_board : SessionEnds → listening.Told
told_of_board ends = record { text = ends.told; failed = ends.tell_failed }

-- what `serve` sees of the writer of faults
abbrev pub told_of_service : SessionEnds → services.Told
told_of_service ends = record { text = ends.told; failed = ends.tell_failed }

-- a script was served, strictly or not, or there was no memory to begin
abbrev pub Scripted : Bool → SessionEnds → SessionEnds → ℕ → Type 0
Scripted strict old new status = MatchBool strict (ServedStrictly old new status) (Served old new status) ⊎ Unserved old new status

-- The job was done. A batch served its script, strictly where that was asked for, or had no memory to begin. Sessions that share a board were served, as many as were asked for, and their port was told where that was asked for. A service told the port that was asked for, or one that the system picked.
abbrev pub Performed : Job → SessionEnds → SessionEnds → ℕ → Type 0
Performed (job.Batch given) old new status = Scripted given.strict old new status
Performed (job.Listen given) old new status =
    Listened IsOfSession given.port given.sessions (told_of_board old) (told_of_board new) status
    × (status ≡ 0 → AnnouncesIf given.announce given.port old.written new.written)
Performed (job.Serve given) old new status =
    Offered given.port old.written new.written (told_of_service old) (told_of_service new) status
