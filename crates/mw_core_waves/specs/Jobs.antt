-- The places of a wave, and the answers to its tasks (own).
use Rattle.std.specs.Prelude.{◌≡◌, IfOk, Result, Ok, Err, List, [], ◌∷◌, ◌⊎◌, Vec, slice_index_or}
use Rattle.std.specs.List.{AllByRecursion}
use Rattle.mw_step.specs.mw_step_task.WindowTasks.{IsBounded, WindowTask}
use Rattle.mw_step.specs.mw_step_task.Products.{IsMade}
use Rattle.mw_step.specs.mw_step_task.declared.done.TaskRefused.{TaskRefused}
use Rattle.mw_step.specs.mw_step_task.declared.tile_result.TileResult.{TileResult}
use Rattle.mw_model.specs.declared.memory.NoMemory.{NoMemory}
use Rattle.mw_core_waves.specs.declared.shared.Hands.{Hands}
use Rattle.mw_core_waves.specs.declared.shared.MadeTile.{MadeTile}
use Rattle.mw_core_waves.specs.declared.job.WaveTask.{WaveTask}
use Rattle.mw_core_waves.specs.declared.job.WaveTask.TheVariants as job

-- the task is done, with what its step makes of its windows; or it was refused under its numbers
abbrev pub IsAnswerTo : WindowTask → Result WindowTask TaskRefused → Type 0
IsAnswerTo w (Ok d) = d ≡ w
IsAnswerTo w (Err r) = r.task ≡ w.task

-- the place is that of this task, and holds it or its answer
abbrev pub IsOf : WaveTask → WindowTask → Type 0
IsOf (job.Waits v) w = v ≡ w
IsOf (job.Ran a) w = IsAnswerTo w a
IsOf job.Nothing w = ⊥

-- one of the places is that of this task
abbrev pub HasTask : List WaveTask → WindowTask → Type 0
HasTask [] w = ⊥
HasTask (j ∷ jobs) w = IsOf j w ⊎ HasTask jobs w

-- a task that waited in the place has its answer there, and all else stays
abbrev pub IsAnswered : WaveTask → WaveTask → Type 0
IsAnswered (job.Waits w) (job.Ran a) = IsAnswerTo w a
IsAnswered (job.Waits w) j = ⊥
IsAnswered (job.Ran a) j = j ≡ job.Ran a
IsAnswered job.Nothing j = j ≡ job.Nothing

-- a task that waited in the place has its answer there, or waits yet, and all else stays
abbrev pub IsKept : WaveTask → WaveTask → Type 0
IsKept i j = IsAnswered i j ⊎ (j ≡ i)

-- a worker made this of the task that waits in the place, or had no memory for it
abbrev pub IsMadeFor : WaveTask → Result TileResult NoMemory → Type 0
IsMadeFor (job.Waits w) tile = IfOk tile (IsMade w)
IsMadeFor (job.Ran a) tile = Unit {0}
IsMadeFor job.Nothing tile = Unit {0}

-- so of the place of this number
abbrev pub IsMadeAt : List WaveTask → MadeTile → Type 0
IsMadeAt jobs made = IsMadeFor (slice_index_or jobs made.place job.Nothing) made.tile

-- so is all that one worker made
abbrev pub HandIsMade : {A : Type 0} → List WaveTask → Vec MadeTile A → Type 0
HandIsMade jobs hand = AllByRecursion (IsMadeAt jobs) hand.items

-- so is all that was made in a wave
pub record AreMadeHands (jobs : List WaveTask) (h : Hands) : Type 0 where
  pub mine : HandIsMade jobs h.mine
  pub theirs : AllByRecursion (HandIsMade jobs) h.theirs.items

-- no sample of the windows in this place is over the maxval of its source
abbrev pub IsBoundedJob : WaveTask → Type 0
IsBoundedJob (job.Waits w) = AllByRecursion IsBounded w.windows
IsBoundedJob (job.Ran a) = IfOk a (λ d. AllByRecursion IsBounded d.windows)
IsBoundedJob job.Nothing = Unit {0}
