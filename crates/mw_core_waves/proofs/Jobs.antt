-- Places of a wave.
use Rattle.std.proofs.Common.{◌≡◌, ℕ, zero, suc, ◌<◌, inl, inr, Ok, Err, List, [], ◌∷◌, ◌++◌, length, refl, sym, ap, ◌∙◌, subst, arith}
use Rattle.std.specs.Prelude.{slice_index_or, slice_set, Result, IfOk, IfErr, Vec}
use Rattle.std.specs.List.{AllByRecursion, AllZip}
use Rattle.mw_step.specs.mw_step_task.WindowTasks.{IsBounded, WindowTask}
use Rattle.mw_step.specs.mw_step_task.declared.done.TaskRefused.{TaskRefused}
use Rattle.mw_step.specs.mw_step_task.declared.tile_result.TileResult.{TileResult}
use Rattle.mw_model.specs.declared.memory.NoMemory.{NoMemory}
use Rattle.mw_core_waves.specs.declared.shared.MadeTile.{MadeTile}
use Rattle.mw_core_waves.specs.declared.job.WaveTask.{WaveTask}
use Rattle.mw_core_waves.specs.declared.job.WaveTask.TheVariants as job
use Rattle.mw_core_waves.specs.Jobs.{IsAnswerTo, IsBoundedJob, IsOf, HasTask, IsAnswered, IsKept, IsMadeFor, IsMadeAt, HandIsMade}

-- from a fact at each index
pub zip-each : {X : Type 0} (R : X → X → Type 0) (xs ys : List X) → length ys ≡ length xs → ((i : ℕ) (d : X) → i < length xs → R (slice_index_or xs i d) (slice_index_or ys i d)) → AllZip R xs ys
zip-each R [] [] e h = tt
zip-each R [] (y ∷ ys) e h = absurd (omega (arith, e))
zip-each R (x ∷ xs) [] e h = absurd (omega (arith, e))
zip-each R (x ∷ xs) (y ∷ ys) e h = (h 0 x (omega arith), zip-each R xs ys (omega (arith, e)) (λ i d l. h (suc i) d (omega (arith, l))))

-- an answer to a task is one to whatever task it is equal to
pub still-answers : (w v : WindowTask) (a : Result WindowTask TaskRefused) → v ≡ w → IsAnswerTo v a → IsAnswerTo w a
still-answers w v (Ok d) e h = h ∙ e
still-answers w v (Err r) e h = h ∙ ap (λ (x : WindowTask). x.task) e

answered-one : (i j : WaveTask) (w : WindowTask) → IsAnswered i j → IsOf i w → IsOf j w
answered-one (job.Waits v) (job.Ran a) w h is = still-answers w v a is h
answered-one (job.Waits v) (job.Waits u) w h is = absurd h
answered-one (job.Waits v) job.Nothing w h is = absurd h
answered-one (job.Ran a) j w h is = subst (λ x. IsOf x w) (sym h) is
answered-one job.Nothing j w h is = absurd is

kept-one : (i j : WaveTask) (w : WindowTask) → IsKept i j → IsOf i w → IsOf j w
kept-one i j w h is = elim h [
  | inl a ↦ answered-one i j w a is
  | inr e ↦ subst (λ x. IsOf x w) (sym e) is
]

pub has-kept : (xs ys : List WaveTask) (w : WindowTask) → AllZip IsKept xs ys → HasTask xs w → HasTask ys w
has-kept [] ys w h has = absurd has
has-kept (x ∷ xs) [] w h has = absurd h
has-kept (x ∷ xs) (y ∷ ys) w h has = elim has [
  | inl is ↦ inl (kept-one x y w h.0 is)
  | inr more ↦ inr (has-kept xs ys w h.1 more)
]

pub has-last : (xs : List WaveTask) (j : WaveTask) (w : WindowTask) → HasTask (j ∷ xs) w → HasTask (xs ++ j ∷ []) w
has-last [] j w has = has
has-last (x ∷ xs) j w has = elim has [
  | inl is ↦ inr (has-last xs j w (inl is))
  | inr more ↦ elim more [
    | inl is ↦ inl is
    | inr rest ↦ inr (has-last xs j w (inr rest))
  ]
]

-- what `run` says of its result
pub answers : (w : WindowTask) (a : Result WindowTask TaskRefused) → IfOk a (λ d. d ≡ w) → IfErr a (λ r. r.task ≡ w.task) → IsAnswerTo w a
answers w (Ok d) done refused = done
answers w (Err r) done refused = refused

-- one more at the end
pub all-last : {X : Type 0} (P : X → Type 0) (xs : List X) (x : X) → P x → AllByRecursion P xs → AllByRecursion P (xs ++ x ∷ [])
all-last P [] x last all = (last, tt)
all-last P (y ∷ xs) x last all = (all.0, all-last P xs x last all.1)

-- answers to tasks on bounded windows are made of those
pub bounded-answer : (w : WindowTask) (a : Result WindowTask TaskRefused) → IsAnswerTo w a → AllByRecursion IsBounded w.windows → IsBoundedJob (job.Ran a)
bounded-answer w (Ok d) answered bounded =
    let P : WindowTask → Type 0 = λ x. AllByRecursion IsBounded x.windows in
    subst P (sym answered) bounded
bounded-answer w (Err r) answered bounded = tt

pub bounded-answered : (xs ys : List WaveTask) → AllZip IsAnswered xs ys → AllByRecursion IsBoundedJob xs → AllByRecursion IsBoundedJob ys
bounded-answered [] [] a h = tt
bounded-answered [] (y ∷ ys) a h = absurd a
bounded-answered (x ∷ xs) [] a h = absurd a
bounded-answered (job.Waits w ∷ xs) (job.Ran b ∷ ys) a h = (bounded-answer w b a.0 h.0, bounded-answered xs ys a.1 h.1)
bounded-answered (job.Waits w ∷ xs) (job.Waits v ∷ ys) a h = absurd a.0
bounded-answered (job.Waits w ∷ xs) (job.Nothing ∷ ys) a h = absurd a.0
bounded-answered (job.Ran b ∷ xs) (y ∷ ys) a h =
    let P : WaveTask → Type 0 = λ j. IsBoundedJob j in
    (subst P (sym a.0) h.0, bounded-answered xs ys a.1 h.1)
bounded-answered (job.Nothing ∷ xs) (y ∷ ys) a h =
    let P : WaveTask → Type 0 = λ j. IsBoundedJob j in
    (subst P (sym a.0) tt, bounded-answered xs ys a.1 h.1)

-- ---- what workers made of tasks, put into their places

-- from a fact of each element
pub all-each : {X : Type 0} (P : X → Type 0) (xs : List X) → ((i : ℕ) (d : X) → i < length xs → P (slice_index_or xs i d)) → AllByRecursion P xs
all-each P [] h = tt
all-each P (x ∷ xs) h = (h 0 x (omega arith), all-each P xs (λ i d l. h (suc i) d (omega (arith, l))))

answered-then : (i j k : WaveTask) → IsAnswered i j → IsAnswered j k → IsAnswered i k
answered-then (job.Waits w) (job.Ran a) k h l = let P : WaveTask → Type 0 = λ x. IsAnswered (job.Waits w) x in subst P (sym l) h
answered-then (job.Waits w) (job.Waits v) k h l = absurd h
answered-then (job.Waits w) job.Nothing k h l = absurd h
answered-then (job.Ran a) j k h l = let P : WaveTask → Type 0 = λ x. IsAnswered x k in subst P h l
answered-then job.Nothing j k h l = let P : WaveTask → Type 0 = λ x. IsAnswered x k in subst P h l

kept-answered : (i j k : WaveTask) → IsKept i j → IsAnswered j k → IsAnswered i k
kept-answered i j k h l = elim h [
  | inl a ↦ answered-then i j k a l
  | inr e ↦ let P : WaveTask → Type 0 = λ x. IsAnswered x k in subst P e l
]

kept-then : (i j k : WaveTask) → IsKept i j → IsKept j k → IsKept i k
kept-then i j k h l = elim l [
  | inl a ↦ inl (kept-answered i j k h a)
  | inr e ↦ let P : WaveTask → Type 0 = λ x. IsKept i x in subst P (sym e) h
]

pub all-kept : (xs : List WaveTask) → AllZip IsKept xs xs
all-kept [] = tt
all-kept (x ∷ xs) = (inr refl, all-kept xs)

pub all-kept-then : (xs ys zs : List WaveTask) → AllZip IsKept xs ys → AllZip IsKept ys zs → AllZip IsKept xs zs
all-kept-then [] [] zs h l = l
all-kept-then [] (y ∷ ys) zs h l = absurd h
all-kept-then (x ∷ xs) [] zs h l = absurd h
all-kept-then (x ∷ xs) (y ∷ ys) [] h l = absurd l
all-kept-then (x ∷ xs) (y ∷ ys) (z ∷ zs) h l = (kept-then x y z h.0 l.0, all-kept-then xs ys zs h.1 l.1)

pub all-kept-answered : (xs ys zs : List WaveTask) → AllZip IsKept xs ys → AllZip IsAnswered ys zs → AllZip IsAnswered xs zs
all-kept-answered [] [] zs h l = l
all-kept-answered [] (y ∷ ys) zs h l = absurd h
all-kept-answered (x ∷ xs) [] zs h l = absurd h
all-kept-answered (x ∷ xs) (y ∷ ys) [] h l = absurd l
all-kept-answered (x ∷ xs) (y ∷ ys) (z ∷ zs) h l = (kept-answered x y z h.0 l.0, all-kept-answered xs ys zs h.1 l.1)

-- one place is answered
pub set-kept : (xs : List WaveTask) (k : ℕ) (d j : WaveTask) → k < length xs → IsAnswered (slice_index_or xs k d) j → AllZip IsKept xs (slice_set xs k j)
set-kept [] k d j l h = absurd (omega (arith, l))
set-kept (x ∷ xs) zero d j l h = (inl h, all-kept xs)
set-kept (x ∷ xs) (suc k) d j l h = (inr refl, set-kept xs k d j (omega (arith, l)) h)

kept-made : (i j : WaveTask) (tile : Result TileResult NoMemory) → IsKept i j → IsMadeFor i tile → IsMadeFor j tile
kept-made i (job.Ran a) tile h made = tt
kept-made i job.Nothing tile h made = tt
kept-made (job.Waits v) (job.Waits w) tile h made = elim h [
  | inl a ↦ absurd a
  | inr e ↦ let P : WaveTask → Type 0 = λ x. IsMadeFor x tile in subst P (sym e) made
]
kept-made (job.Ran a) (job.Waits w) tile h made = elim h [
  | inl e ↦ let P : WaveTask → Type 0 = λ x. IsMadeFor x tile in subst P (sym e) made
  | inr e ↦ let P : WaveTask → Type 0 = λ x. IsMadeFor x tile in subst P (sym e) made
]
kept-made job.Nothing (job.Waits w) tile h made = elim h [
  | inl e ↦ let P : WaveTask → Type 0 = λ x. IsMadeFor x tile in subst P (sym e) made
  | inr e ↦ let P : WaveTask → Type 0 = λ x. IsMadeFor x tile in subst P (sym e) made
]

kept-at : (xs ys : List WaveTask) (k : ℕ) → AllZip IsKept xs ys → IsKept (slice_index_or xs k job.Nothing) (slice_index_or ys k job.Nothing)
kept-at [] [] k h = inr refl
kept-at [] (y ∷ ys) k h = absurd h
kept-at (x ∷ xs) [] k h = absurd h
kept-at (x ∷ xs) (y ∷ ys) zero h = h.0
kept-at (x ∷ xs) (y ∷ ys) (suc k) h = kept-at xs ys k h.1

pub made-later : (xs ys : List WaveTask) (made : MadeTile) → AllZip IsKept xs ys → IsMadeAt xs made → IsMadeAt ys made
made-later xs ys made h is = kept-made (slice_index_or xs made.place job.Nothing) (slice_index_or ys made.place job.Nothing) made.tile (kept-at xs ys made.place h) is

pub all-made-later : (xs ys : List WaveTask) (hand : List MadeTile) → AllZip IsKept xs ys → AllByRecursion (IsMadeAt xs) hand → AllByRecursion (IsMadeAt ys) hand
all-made-later xs ys [] h all = tt
all-made-later xs ys (m ∷ hand) h all = (made-later xs ys m h all.0, all-made-later xs ys hand h all.1)

pub all-hands-later : {A : Type 0} (xs ys : List WaveTask) (hands : List (Vec MadeTile A)) → AllZip IsKept xs ys → AllByRecursion (HandIsMade xs) hands → AllByRecursion (HandIsMade ys) hands
all-hands-later xs ys [] h all = tt
all-hands-later xs ys (v ∷ hands) h all = (all-made-later xs ys v.items h all.0, all-hands-later xs ys hands h all.1)

-- the tasks of one of two waves are answered
pub kept-beside : (xs ys others : List WaveTask) → AllZip IsAnswered xs ys → AllZip IsKept (xs ++ others) (ys ++ others)
kept-beside [] [] others h = all-kept others
kept-beside [] (y ∷ ys) others h = absurd h
kept-beside (x ∷ xs) [] others h = absurd h
kept-beside (x ∷ xs) (y ∷ ys) others h = (inl h.0, kept-beside xs ys others h.1)
