-- The command line of the program (own): what clap is to read of it, and which job its words ask for.
use Rattle.std.specs.Prelude.{◌≡◌, ◌≤◌, ◌<◌, ◌^◌, ℕ, Bool, true, false, if◌then◌else◌, nat_lt, Result, Ok, Err, List, [], ◌∷◌, Option, Some, None, codes, option_and_then, option_map, pos, ◌⊎◌}
use Rattle.std.specs.Str.Parse.{IsNumeral, digits_value, without_leading_plus}
use Rattle.clap.specs.Words.{App, IsAmong, Row, Rule, Text, fault_of, kind_of, new_app, new_rule, one_of, subcommand_of, with_rule, with_subcommand}
use Rattle.clap.specs.Simple.{on_top}
use Rattle.clap.specs.declared.builder.action.ArgAction.TheVariants.{SetTrue}
use Rattle.clap.specs.declared.builder.command.Command.{Command}
use Rattle.clap.specs.declared.builder.command.Command.TheViews.{out-Command as fields_of}
use Rattle.clap.specs.declared.builder.value_parser.ValueParser.TheVariants as parser
use Rattle.clap.specs.declared.error.kind.ErrorKind.{ErrorKind}
use Rattle.clap.specs.declared.error.kind.ErrorKind.TheVariants as kind
use Rattle.mw_grid.specs.Grids.{IsTileSide}
use Rattle.mw_cli.specs.declared.line.BatchOptions.{BatchOptions}
use Rattle.mw_cli.specs.declared.line.Job.{Job}
use Rattle.mw_cli.specs.declared.line.Job.TheVariants as job
use Rattle.mw_cli.specs.declared.line.ListenOptions.{ListenOptions}
use Rattle.mw_cli.specs.declared.line.ServeOptions.{ServeOptions}
use Rattle.mw_cli.specs.declared.fault.LineFault.{LineFault}
use Rattle.mw_cli.specs.declared.fault.LineFault.TheVariants as fault

-- `--NAME`, with a number of 32 bits behind it
abbrev pub number_option : Text → Rule
number_option name = record (new_rule name) {
  long = Some name;
  parser = Some (parser.Signed (pos 0) (pos 4294967295));
  value_names = 1;
}

-- `--NAME` with a number, and what that is where the option is left out
abbrev pub usual_option : Text → Text → Rule
usual_option name usual = record (number_option name) { defaults = usual ∷ [] }

-- `--NAME`, alone
abbrev pub flag_option : Text → Rule
flag_option name = record (new_rule name) {
  long = Some name;
  action = Some SetTrue;
}

-- `--tile T`, 128 where it is left out
abbrev pub tile_option : Rule
tile_option = number_option (codes "tile")

-- `--idle S`; clap has no number for it where it is left out
abbrev pub idle_option : Rule
idle_option = number_option (codes "idle")

-- `--workers W`; clap has no number for it where it is left out
abbrev pub workers_option : Rule
workers_option = number_option (codes "workers")

-- `batch [--tile T] [--workers W] [--strict]`
abbrev pub batch_words : App
batch_words = with_rule (with_rule (with_rule (new_app (codes "batch")) tile_option) workers_option) (flag_option (codes "strict"))

-- `--port P`; clap refuses words without it
abbrev pub port_option : Rule
port_option = record (number_option (codes "port")) { required = true }

-- `--workers W` of a server, 2 where it is left out
abbrev pub crew_option : Rule
crew_option = usual_option (codes "workers") (codes "2")

-- `--sessions C`, 1 where it is left out
abbrev pub sessions_option : Rule
sessions_option = usual_option (codes "sessions") (codes "1")

-- a job with a port, workers, sessions, tiles, a bound on waiting, and a flag
abbrev pub server_words : Text → Rule → Rule → Rule → Rule → App
server_words name port crew sessions flag =
    with_rule
    (with_rule (with_rule (with_rule (with_rule (with_rule (new_app name) port) crew) sessions) tile_option) idle_option)
    flag

-- `listen --port P [--workers W] [--sessions C] [--tile T] [--idle S] [--announce]`
abbrev pub listen_words : App
listen_words = server_words (codes "listen") port_option crew_option sessions_option (flag_option (codes "announce"))

-- `--grace S`, 10 where it is left out
abbrev pub grace_option : Rule
grace_option = usual_option (codes "grace") (codes "10")

-- `--queue N`; clap has no number for it where it is left out
abbrev pub queue_option : Rule
queue_option = number_option (codes "queue")

-- `--status P`; clap has no number for it where it is left out
abbrev pub status_option : Rule
status_option = number_option (codes "status")

-- `--time S`; clap has no number for it where it is left out
abbrev pub time_option : Rule
time_option = number_option (codes "time")

-- `--memory M`; clap has no number for it where it is left out
abbrev pub memory_option : Rule
memory_option = number_option (codes "memory")

-- `serve [--port P] [--workers W] [--sessions C] [--tile T] [--idle S] [--until-end] [--grace S] [--queue N] [--status P] [--time S] [--memory M]`; left out, the port is 0, the workers are 1 and the sessions 16
abbrev pub serve_words : App
serve_words =
    with_rule
    (with_rule
    (with_rule
    (with_rule
    (with_rule
    (server_words
    (codes "serve")
    (usual_option (codes "port") (codes "0"))
    (usual_option (codes "workers") (codes "1"))
    (usual_option (codes "sessions") (codes "16"))
    (flag_option (codes "until-end")))
    grace_option)
    queue_option)
    status_option)
    time_option)
    memory_option

-- `morphd`, which has a version to show
abbrev pub bare_words : App
bare_words = on_top (λ s. record s { has_version = true; subcommand_required = true }) (new_app (codes "morphd"))

-- `morphd`, and then one of its jobs
abbrev pub program_words : App
program_words = with_subcommand (with_subcommand (with_subcommand bare_words batch_words.top) listen_words.top) serve_words.top

-- no option of the command is one of its jobs too
abbrev pub HasNoGlobals : Command → Type 0
HasNoGlobals c = (fields_of c).has_globals ≡ false

-- clap takes the words
abbrev pub AreTaken : List Text → Type 0
AreTaken words = fault_of program_words words ≡ []

-- the text of an option in a job's rows
abbrev pub text_in : Text → Option (Text × List Row) → Option Text
text_in id = option_and_then (λ p. one_of id p.1)

-- the rows are those of `listen`
abbrev pub AreListens : Option (Text × List Row) → Type 0
AreListens rows = option_map (λ p. p.0) rows ≡ Some (codes "listen")

-- the rows are those of `serve`
abbrev pub AreServes : Option (Text × List Row) → Type 0
AreServes rows = option_map (λ p. p.0) rows ≡ Some (codes "serve")

-- there is a text, and it writes this number of 32 bits
abbrev pub WritesNumber : Option Text → ℕ → Type 0
WritesNumber None n = ⊥
WritesNumber (Some text) n =
    let digits = without_leading_plus text in
    IsNumeral 10 digits × (digits_value 10 digits < 2 ^ 32) × (n ≡ digits_value 10 digits)

-- what a text is read as: its number; nothing where there is no text; an error where it writes no number
abbrev pub Reads : {E : Type 0} → Option Text → Result (Option ℕ) E → Type 0
Reads text (Ok (Some n)) = WritesNumber text n
Reads text (Ok None) = text ≡ None
Reads text (Err e) = (text ≡ None → ⊥) × ((n : ℕ) → WritesNumber text n → ⊥)

-- the text asks for a side of tiles; left out, it asks for none
abbrev pub AsksSide : Option Text → Option ℕ → Type 0
AsksSide None asked = asked ≡ None
AsksSide (Some text) None = ⊥
AsksSide (Some text) (Some side) = WritesNumber (Some text) side × IsTileSide side

-- the text asks for no side of tiles, and not for none
abbrev pub AsksNoSide : Option Text → Type 0
AsksNoSide text = (asked : Option ℕ) → AsksSide text asked → ⊥

-- the text asks for a side of tiles, or for none
abbrev pub AsksSomeSide : Option Text → Type 0
AsksSomeSide text = (asked : Option ℕ) × AsksSide text asked

-- a number from 1 to the most that there may be
abbrev pub IsUpTo : ℕ → ℕ → Type 0
IsUpTo most n = (1 ≤ n) × (n ≤ most)

-- the text writes such a number
abbrev pub WritesUpTo : ℕ → Option Text → Type 0
WritesUpTo most text = (n : ℕ) × WritesNumber text n × IsUpTo most n

-- the text writes no such number
abbrev pub WritesNone : ℕ → Option Text → Type 0
WritesNone most text = (n : ℕ) → WritesNumber text n → IsUpTo most n → ⊥

-- there may be so many workers
abbrev pub IsCrew : ℕ → Type 0
IsCrew workers = IsUpTo 64 workers

-- as many workers as processors, from 1 to 16
abbrev pub usual_workers : ℕ → ℕ
usual_workers processors =
    if nat_lt processors 1 then 1
    else if nat_lt 16 processors then 16
    else processors

-- the text asks for so many workers; left out, it asks for the usual ones
abbrev pub AsksWorkers : ℕ → Option Text → ℕ → Type 0
AsksWorkers processors None n = n ≡ usual_workers processors
AsksWorkers processors (Some text) n = WritesNumber (Some text) n

-- the text asks for no number of workers that there may be
abbrev pub AsksNoCrew : ℕ → Option Text → Type 0
AsksNoCrew processors text = (n : ℕ) → AsksWorkers processors text n → IsCrew n → ⊥

-- the text of a flag says that it is set, or not; there is none where it is not
abbrev pub Sets : Option Text → Bool → Type 0
Sets text flag =
    (text ≡ Some (codes "true") → flag ≡ true)
    × (text ≡ Some (codes "false") → flag ≡ false)
    × (text ≡ None → flag ≡ false)

-- the text asks for a number from 1 to the most that there may be; left out, it asks for none
abbrev pub AsksUpTo : ℕ → Option Text → Option ℕ → Type 0
AsksUpTo most None asked = asked ≡ None
AsksUpTo most (Some text) None = ⊥
AsksUpTo most (Some text) (Some n) = WritesNumber (Some text) n × IsUpTo most n

-- the text asks for no such number, and not for none
abbrev pub AsksNoneUpTo : ℕ → Option Text → Type 0
AsksNoneUpTo most text = (asked : Option ℕ) → AsksUpTo most text asked → ⊥

-- the text asks for so many seconds; left out, it asks for none
abbrev pub AsksIdle : Option Text → Option ℕ → Type 0
AsksIdle = AsksUpTo 86400

-- the text asks for no bound on waiting that there may be, and not for none
abbrev pub AsksNoIdle : Option Text → Type 0
AsksNoIdle = AsksNoneUpTo 86400

-- the text asks for a number, or for none
abbrev pub AsksSome : ℕ → Option Text → Type 0
AsksSome most text = (asked : Option ℕ) × AsksUpTo most text asked

-- the text writes a port, or 0
abbrev pub WritesPort : Option Text → Type 0
WritesPort text = (n : ℕ) × WritesNumber text n × (n ≤ 65535)

-- the text writes no port, and not 0
abbrev pub WritesNoPort : Option Text → Type 0
WritesNoPort text = (n : ℕ) → WritesNumber text n → n ≤ 65535 → ⊥

-- the rows ask for this batch, where there are so many processors
abbrev pub AsksBatch : ℕ → Option (Text × List Row) → BatchOptions → Type 0
AsksBatch processors rows given =
    (AsksWorkers processors (text_in (codes "workers") rows) given.workers × IsCrew given.workers)
    × AsksSide (text_in (codes "tile") rows) given.side
    × Sets (text_in (codes "strict") rows) given.strict

-- the rows ask for this server
abbrev pub AsksListen : Option (Text × List Row) → ListenOptions → Type 0
AsksListen rows given =
    (WritesNumber (text_in (codes "port") rows) given.port × IsUpTo 65535 given.port)
    × (WritesNumber (text_in (codes "workers") rows) given.workers × IsCrew given.workers)
    × (WritesNumber (text_in (codes "sessions") rows) given.sessions × IsUpTo 64 given.sessions)
    × AsksSide (text_in (codes "tile") rows) given.side
    × AsksIdle (text_in (codes "idle") rows) given.idle
    × Sets (text_in (codes "announce") rows) given.announce

-- the rows ask for this service
abbrev pub AsksServe : Option (Text × List Row) → ServeOptions → Type 0
AsksServe rows given =
    (WritesNumber (text_in (codes "port") rows) given.port × (given.port ≤ 65535))
    × (WritesNumber (text_in (codes "workers") rows) given.workers × IsCrew given.workers)
    × (WritesNumber (text_in (codes "sessions") rows) given.sessions × IsUpTo 1024 given.sessions)
    × AsksSide (text_in (codes "tile") rows) given.side
    × AsksIdle (text_in (codes "idle") rows) given.idle
    × AsksUpTo 1024 (text_in (codes "queue") rows) given.queue
    × (WritesNumber (text_in (codes "grace") rows) given.grace × IsUpTo 86400 given.grace)
    × AsksUpTo 65535 (text_in (codes "status") rows) given.status
    × AsksUpTo 86400 (text_in (codes "time") rows) given.time
    × AsksUpTo 1048576 (text_in (codes "memory") rows) given.memory
    × Sets (text_in (codes "until-end") rows) given.until_end

-- the rows ask for this job
abbrev pub Asks : ℕ → Option (Text × List Row) → Job → Type 0
Asks processors rows (job.Batch given) = (AreListens rows → ⊥) × (AreServes rows → ⊥) × AsksBatch processors rows given
Asks processors rows (job.Listen given) = AreListens rows × AsksListen rows given
Asks processors rows (job.Serve given) = AreServes rows × AsksServe rows given

-- the words ask for this job
abbrev pub IsAsked : ℕ → List Text → Job → Type 0
IsAsked processors words asked = AreTaken words × Asks processors (subcommand_of program_words words) asked

-- this is the first fault of a batch's numbers
abbrev pub FaultsBatch : ℕ → Option (Text × List Row) → LineFault → Type 0
FaultsBatch processors rows fault.Workers = AsksNoCrew processors (text_in (codes "workers") rows)
FaultsBatch processors rows fault.Tile =
    ((n : ℕ) × AsksWorkers processors (text_in (codes "workers") rows) n × IsCrew n)
    × AsksNoSide (text_in (codes "tile") rows)
FaultsBatch processors rows f = ⊥

-- this is the first fault of a server's numbers
abbrev pub FaultsListen : Option (Text × List Row) → LineFault → Type 0
FaultsListen rows fault.Port = WritesNone 65535 (text_in (codes "port") rows)
FaultsListen rows fault.Workers =
    WritesUpTo 65535 (text_in (codes "port") rows)
    × WritesNone 64 (text_in (codes "workers") rows)
FaultsListen rows fault.Sessions =
    WritesUpTo 65535 (text_in (codes "port") rows)
    × WritesUpTo 64 (text_in (codes "workers") rows)
    × WritesNone 64 (text_in (codes "sessions") rows)
FaultsListen rows fault.Tile =
    WritesUpTo 65535 (text_in (codes "port") rows)
    × WritesUpTo 64 (text_in (codes "workers") rows)
    × WritesUpTo 64 (text_in (codes "sessions") rows)
    × AsksNoSide (text_in (codes "tile") rows)
FaultsListen rows fault.Idle =
    WritesUpTo 65535 (text_in (codes "port") rows)
    × WritesUpTo 64 (text_in (codes "workers") rows)
    × WritesUpTo 64 (text_in (codes "sessions") rows)
    × AsksSomeSide (text_in (codes "tile") rows)
    × AsksNoIdle (text_in (codes "idle") rows)
FaultsListen rows f = ⊥

-- this is the first fault of a service's numbers
abbrev pub FaultsServe : Option (Text × List Row) → LineFault → Type 0
FaultsServe rows fault.ServePort = WritesNoPort (text_in (codes "port") rows)
FaultsServe rows fault.Workers =
    WritesPort (text_in (codes "port") rows)
    × WritesNone 64 (text_in (codes "workers") rows)
FaultsServe rows fault.ServeSessions =
    WritesPort (text_in (codes "port") rows)
    × WritesUpTo 64 (text_in (codes "workers") rows)
    × WritesNone 1024 (text_in (codes "sessions") rows)
FaultsServe rows fault.Tile =
    WritesPort (text_in (codes "port") rows)
    × WritesUpTo 64 (text_in (codes "workers") rows)
    × WritesUpTo 1024 (text_in (codes "sessions") rows)
    × AsksNoSide (text_in (codes "tile") rows)
FaultsServe rows fault.Idle =
    WritesPort (text_in (codes "port") rows)
    × WritesUpTo 64 (text_in (codes "workers") rows)
    × WritesUpTo 1024 (text_in (codes "sessions") rows)
    × AsksSomeSide (text_in (codes "tile") rows)
    × AsksNoIdle (text_in (codes "idle") rows)
FaultsServe rows fault.Queue =
    WritesPort (text_in (codes "port") rows)
    × WritesUpTo 64 (text_in (codes "workers") rows)
    × WritesUpTo 1024 (text_in (codes "sessions") rows)
    × AsksSomeSide (text_in (codes "tile") rows)
    × AsksSome 86400 (text_in (codes "idle") rows)
    × AsksNoneUpTo 1024 (text_in (codes "queue") rows)
FaultsServe rows fault.Grace =
    WritesPort (text_in (codes "port") rows)
    × WritesUpTo 64 (text_in (codes "workers") rows)
    × WritesUpTo 1024 (text_in (codes "sessions") rows)
    × AsksSomeSide (text_in (codes "tile") rows)
    × AsksSome 86400 (text_in (codes "idle") rows)
    × AsksSome 1024 (text_in (codes "queue") rows)
    × WritesNone 86400 (text_in (codes "grace") rows)
FaultsServe rows fault.Status =
    WritesPort (text_in (codes "port") rows)
    × WritesUpTo 64 (text_in (codes "workers") rows)
    × WritesUpTo 1024 (text_in (codes "sessions") rows)
    × AsksSomeSide (text_in (codes "tile") rows)
    × AsksSome 86400 (text_in (codes "idle") rows)
    × AsksSome 1024 (text_in (codes "queue") rows)
    × WritesUpTo 86400 (text_in (codes "grace") rows)
    × AsksNoneUpTo 65535 (text_in (codes "status") rows)
FaultsServe rows fault.Time =
    WritesPort (text_in (codes "port") rows)
    × WritesUpTo 64 (text_in (codes "workers") rows)
    × WritesUpTo 1024 (text_in (codes "sessions") rows)
    × AsksSomeSide (text_in (codes "tile") rows)
    × AsksSome 86400 (text_in (codes "idle") rows)
    × AsksSome 1024 (text_in (codes "queue") rows)
    × WritesUpTo 86400 (text_in (codes "grace") rows)
    × AsksSome 65535 (text_in (codes "status") rows)
    × AsksNoneUpTo 86400 (text_in (codes "time") rows)
FaultsServe rows fault.Memory =
    WritesPort (text_in (codes "port") rows)
    × WritesUpTo 64 (text_in (codes "workers") rows)
    × WritesUpTo 1024 (text_in (codes "sessions") rows)
    × AsksSomeSide (text_in (codes "tile") rows)
    × AsksSome 86400 (text_in (codes "idle") rows)
    × AsksSome 1024 (text_in (codes "queue") rows)
    × WritesUpTo 86400 (text_in (codes "grace") rows)
    × AsksSome 65535 (text_in (codes "status") rows)
    × AsksSome 86400 (text_in (codes "time") rows)
    × AsksNoneUpTo 1048576 (text_in (codes "memory") rows)
FaultsServe rows f = ⊥

-- this is the first fault of the job's numbers
abbrev pub Faults : ℕ → Option (Text × List Row) → LineFault → Type 0
Faults processors rows f =
    ((AreListens rows → ⊥) × (AreServes rows → ⊥) × FaultsBatch processors rows f)
    ⊎ ((AreListens rows × FaultsListen rows f) ⊎ (AreServes rows × FaultsServe rows f))

-- the words are refused so; memory may be refused for any words
abbrev pub IsRefused : ℕ → List Text → LineFault → Type 0
IsRefused processors words (fault.Line e) = IsAmong (kind_of e) (fault_of program_words words)
IsRefused processors words fault.NoMemory = Unit {0}
IsRefused processors words f = AreTaken words × Faults processors (subcommand_of program_words words) f

-- a word is no text, or memory was refused
abbrev pub IsNoText : LineFault → Type 0
IsNoText (fault.Line e) = kind_of e ≡ kind.InvalidValue
IsNoText fault.NoMemory = Unit {0}
IsNoText f = ⊥

-- the kinds of what was asked for, and not refused
abbrev pub is_text : ErrorKind → Bool
is_text kind.DisplayHelp = true
is_text kind.DisplayVersion = true
is_text k = false

-- the exit status of words that ask for no job
abbrev pub fault_status : LineFault → ℕ
fault_status (fault.Line e) = if is_text (kind_of e) then 0 else 2
fault_status fault.NoMemory = 1
fault_status f = 2
