-- Places, one of which is opened.
use Rattle.std.proofs.Common.{Result, Ok, Err, ◌≡◌, ℕ, ◌+◌, ◌*◌, ◌/◌, ◌<◌, ◌≤◌, Bool, true, false, List, length, get_or, set, refl, sym, ap, subst, ◌∙◌, arith, inl, inr}
use Rattle.std.specs.Prelude.{OnErr}
use Rattle.std.proofs.Math.ListN.{get_or-map}
use Rattle.std.proofs.lemmas.Bool.{cases_eq}
use Rattle.std.proofs.lemmas.List.{length-map, map-set, set-get_or, get_or-set_same, get_or-set_other, get_or_read}
use Rattle.std.proofs.lemmas.Nat.{div-mul-add}
use Rattle.mw_model.proofs.mw_facts.Alls.{all-get_or}
use Rattle.mw_model.specs.Plans.{Plan, is_sum}
use Rattle.mw_model.specs.Tasks.{nothing_planned}
use Rattle.mw_model.specs.Tasks as tasks
use Rattle.mw_grid.specs.Grids.{Tiling, tile_count}
use Rattle.mw_core_planes.specs.mw_ready.Boards.{Schedule, Turns, task_number, task_count_on}
use Rattle.mw_core_planes.specs.mw_ready.Boards as boards
use Rattle.mw_core_planes.specs.mw_tile_planes.Tiles.{Tiled}
use Rattle.mw_core_planes.specs.Levels.{Level, no_level, levels, IsLevel, level_of_plane}
use Rattle.mw_core_planes.specs.StepPlanes.{shown, form, IsFormOf, no_place, place_at, planes_shown}
use Rattle.mw_core_planes.specs.declared.step_planes.StepPlane.{StepPlane}
use Rattle.mw_core_progress.specs.ProgressView.{IsWhole, IsStarted, no_plane}
use Rattle.mw_core_progress.specs.Parts.{underway, underway_kept, IsBoarded, IsPlaced}
use Rattle.mw_core_progress.proofs.Fresh.{length-levels}
use Rattle.mw_core_progress.proofs.Started.{started_whole}
use Rattle.mw_core_progress.proofs.Boarded.{IsTied, same_work, number_lt, tiles_is}

-- the plane of a step
pub shown_at : (g : Tiling) (places : List StepPlane) (k : ℕ) → get_or (planes_shown g places) k (no_plane g) ≡ shown g (place_at places k)
shown_at g places k = get_or-map (shown g) places k no_place

-- one place that shows the same
pub same_shown : (g : Tiling) (places : List StepPlane) (step : ℕ) (now : StepPlane) → shown g now ≡ shown g (place_at places step) → planes_shown g (set places step now) ≡ planes_shown g places
same_shown g places step now same =
    map-set (shown g) places step now
    ∙ ap (λ (p : Tiled). set (planes_shown g places) step p) (same ∙ sym (shown_at g places step))
    ∙ set-get_or (planes_shown g places) step (no_plane g)

-- the level of each plane is one of planes
pub level_ok : (plan : Plan) (input : Level) (g : Tiling) (started finished : List Bool) (places : List StepPlane) (order : List ℕ) (k : ℕ) → IsWhole (underway plan input g started finished (planes_shown g places) order) → k < length plan → IsLevel (level_of_plane (shown g (place_at places k)))
level_ok plan input g started finished places order k whole lt =
    let planes = planes_shown g places in
    let e : get_or (levels plan input) k no_level ≡ level_of_plane (shown g (place_at places k)) = ap (λ (ls : List Level). get_or ls k no_level) (sym whole.levels) ∙ get_or-map level_of_plane planes k (no_plane g) ∙ ap level_of_plane (shown_at g places k) in
    subst IsLevel e (all-get_or IsLevel (levels plan input) k no_level (omega (arith, length-levels plan input)) whole.workable.levels)

-- one place that is opened
pub open_placed : (plan : Plan) (g : Tiling) (started : List Bool) (places : List StepPlane) (step : ℕ) (now : StepPlane) → IsPlaced plan g started places → step < length places → IsFormOf (is_sum (get_or plan step nothing_planned).step) (form now)
    → form (place_at places step) ≤ form now → IsPlaced plan g started (set places step now)
open_placed plan g started places step now placed lt suits more = record {
  forms = λ k k-lt. elim (cases_eq k step) [
    | inl here ↦ subst (λ (j : ℕ). IsFormOf (is_sum (get_or plan j nothing_planned).step) (form (place_at (set places step now) j))) (sym here) (subst (λ (p : StepPlane). IsFormOf (is_sum (get_or plan step nothing_planned).step) (form p)) (sym same) suits)
    | inr other ↦ subst (λ (p : StepPlane). IsFormOf (is_sum (get_or plan k nothing_planned).step) (form p)) (sym (get_or-set_other places step k now no_place other)) (placed.forms k k-lt)
  ];
  opened = λ k tile k-lt t-lt marked. elim (cases_eq k step) [
    | inl here ↦
        let was : 1 ≤ form (place_at places k) = placed.opened k tile k-lt t-lt marked in
        let old : form (place_at places k) ≡ form (place_at places step) = ap (λ (j : ℕ). form (place_at places j)) here in
        let is : form (place_at (set places step now) k) ≡ form now = ap (λ (j : ℕ). form (place_at (set places step now) j)) here ∙ ap form same in
        omega arith
    | inr other ↦ subst (λ (p : StepPlane). 1 ≤ form p) (sym (get_or-set_other places step k now no_place other)) (placed.opened k tile k-lt t-lt marked)
  ];
}
  where
    same : place_at (set places step now) step ≡ now
    same = get_or-set_same places step now no_place lt

-- a task is started whose step's place is open
pub start_placed : (plan : Plan) (g : Tiling) (started : List Bool) (places : List StepPlane) (step tile : ℕ) → IsPlaced plan g started places → tile < tile_count g → 1 ≤ form (place_at places step) → IsPlaced plan g (set started (step * tile_count g + tile) true) places
start_placed plan g started places step tile placed inside opened = record {
  forms = placed.forms;
  opened = λ k t k-lt t-lt marked. elim (cases_eq (k * tile_count g + t) (step * tile_count g + tile)) [
    | inl here ↦
        let same : k ≡ step = sym (div-mul-add k (tile_count g) t t-lt) ∙ ap (λ (n : ℕ). n / tile_count g) here ∙ div-mul-add step (tile_count g) tile inside in
        subst (λ (j : ℕ). 1 ≤ form (place_at places j)) (sym same) opened
    | inr other ↦ placed.opened k t k-lt t-lt (sym (get_or-set_other started (step * tile_count g + tile) (k * tile_count g + t) true false other) ∙ marked)
  ];
}

pub on_err : {T E : Type 0} (r : Result T E) (P : Type 0) → P → OnErr r P
on_err (Ok x) P p = tt
on_err (Err e) P p = p

-- ---- a task's step is opened

-- the place of a task's step before and after it is opened
pub record Opening (plan : Plan) (g : Tiling) (turns : Turns) (places : List StepPlane) : Type 0 where
  pub step : ℕ
  pub old : StepPlane
  pub now : StepPlane
  pub sums : Bool
  pub within : step < length turns.board.needs
  pub was : old ≡ get_or places step old
  pub sums_is : sums ≡ is_sum (get_or plan step nothing_planned).step
  pub same : shown g now ≡ shown g old
  pub suits : IsFormOf sums (form now)
  pub more : form old ≤ form now

sizes : (plan : Plan) (input : Level) (g : Tiling) (turns : Turns) (places : List StepPlane) (step : ℕ) → IsWhole (underway_kept plan input g turns places) → IsBoarded plan g turns.board → step < length turns.board.needs → (step < length plan) × (step < length places)
sizes plan input g turns places step whole boarded within =
    let size : length (planes_shown g places) ≡ length plan = whole.planes in
    (omega (arith, boarded.steps), omega (arith, boarded.steps, size, length-map places (shown g)))

pub open_level : (plan : Plan) (input : Level) (g : Tiling) (turns : Turns) (places : List StepPlane) (step : ℕ) (old : StepPlane) → IsWhole (underway_kept plan input g turns places) → IsBoarded plan g turns.board
    → step < length turns.board.needs → old ≡ get_or places step old → IsLevel (level_of_plane (shown g old))
open_level plan input g turns places step old whole boarded within was =
    let size = sizes plan input g turns places step whole boarded within in
    subst (λ (p : StepPlane). IsLevel (level_of_plane (shown g p))) (sym (get_or_read places step old size.1 was no_place))
    (level_ok plan input g turns.board.started turns.board.finished places turns.order step whole size.0)

open_same_shown : (plan : Plan) (input : Level) (g : Tiling) (turns : Turns) (places : List StepPlane) (o : Opening plan g turns places) → IsWhole (underway_kept plan input g turns places) → IsBoarded plan g turns.board
    → planes_shown g (set places o.step o.now) ≡ planes_shown g places
open_same_shown plan input g turns places o whole boarded =
    let size = sizes plan input g turns places o.step whole boarded o.within in
    same_shown g places o.step o.now (o.same ∙ ap (shown g) (get_or_read places o.step o.old size.1 o.was no_place))

-- nothing is seen of it
pub open_same : (plan : Plan) (input : Level) (g : Tiling) (turns : Turns) (places : List StepPlane) (o : Opening plan g turns places) → IsWhole (underway_kept plan input g turns places) → IsBoarded plan g turns.board
    → underway_kept plan input g turns (set places o.step o.now) ≡ underway_kept plan input g turns places
open_same plan input g turns places o whole boarded =
    ap (λ (ps : List Tiled). underway plan input g turns.board.started turns.board.finished ps turns.order) (open_same_shown plan input g turns places o whole boarded)

pub open_err : (plan : Plan) (input : Level) (g : Tiling) (turns : Turns) (places : List StepPlane) (o : Opening plan g turns places) → IsWhole (underway_kept plan input g turns places) → IsBoarded plan g turns.board
    → IsPlaced plan g turns.board.started places → IsWhole (underway_kept plan input g turns (set places o.step o.now)) × IsPlaced plan g turns.board.started (set places o.step o.now)
open_err plan input g turns places o whole boarded placed =
    let size = sizes plan input g turns places o.step whole boarded o.within in
    let was = get_or_read places o.step o.old size.1 o.was no_place in (
      subst IsWhole (sym (open_same plan input g turns places o whole boarded)) whole,
      open_placed plan g turns.board.started places o.step o.now placed size.1 (subst (λ (b : Bool). IsFormOf b (form o.now)) o.sums_is o.suits) (subst (λ (p : StepPlane). form p ≤ form o.now) was o.more),
    )

-- the task that is started then
pub record Starting (turns now : Turns) (step tile : ℕ) : Type 0 where
  pub within : step < length turns.board.needs
  pub inside : tile < tile_count turns.board.grid
  pub ready : boards.is_ready_on turns.board (task_number turns.board.grid step tile) ≡ true
  pub new : now.board ≡ record turns.board { started = set turns.board.started (task_number turns.board.grid step tile) true }

-- the work, once the place of the step is open and the task is started
pub start_whole : (plan : Plan) (input : Level) (g : Tiling) (turns now : Turns) (places : List StepPlane) (o : Opening plan g turns places) (tile : ℕ) → IsWhole (underway_kept plan input g turns places) → IsBoarded plan g turns.board → IsTied turns.board
    → IsPlaced plan g turns.board.started places → Starting turns now o.step tile → 1 ≤ form o.now
    → IsWhole (underway_kept plan input g now (set places o.step o.now)) × IsBoarded plan g now.board × IsPlaced plan g now.board.started (set places o.step o.now)
start_whole plan input g turns now places o tile whole boarded tied placed s opened =
    let b = turns.board in
    let n = task_number b.grid o.step tile in
    let after = open_err plan input g turns places o whole boarded placed in
    let size = sizes plan input g turns places o.step whole boarded o.within in
    let ps = set places o.step o.now in
    let planes = planes_shown g ps in
    let same = same_work plan input g b planes turns.order boarded tied in
    let count : tasks.task_count (underway plan input g b.started b.finished planes turns.order).progress ≡ task_count_on b = same.count in
    let lt : n < task_count_on b = number_lt b o.step tile s.within s.inside in
    let room : n < length b.started = (let w = after.0.started in omega arith) in
    let ready : tasks.is_ready (underway plan input g b.started b.finished planes turns.order).progress n ≡ true = same.ready n lt ∙ s.ready in
    let is : place_at ps o.step ≡ o.now = get_or-set_same places o.step o.now no_place size.1 in
    let grids : n ≡ o.step * tile_count g + tile = ap (λ (t : Tiling). o.step * tile_count t + tile) boarded.grid in (
      subst (λ (c : Schedule). IsWhole (underway plan input g c.started c.finished planes now.order)) (sym s.new)
          (started_whole plan input g b.started b.finished planes turns.order now.order n after.0 room ready),
      subst (IsBoarded plan g) (sym s.new) (record { grid = boarded.grid; steps = boarded.steps; needs = boarded.needs }),
      subst (λ (c : Schedule). IsPlaced plan g c.started ps) (sym s.new)
          (subst (λ (k : ℕ). IsPlaced plan g (set b.started k true) ps) (sym grids)
          (start_placed plan g b.started ps o.step tile after.1 (tiles_is plan g b tile boarded s.inside) (subst (λ (p : StepPlane). 1 ≤ form p) (sym is) opened))),
    )

-- what is seen of it
pub start_is : (plan : Plan) (input : Level) (g : Tiling) (turns now : Turns) (places : List StepPlane) (o : Opening plan g turns places) (tile : ℕ) → IsWhole (underway_kept plan input g turns places) → IsBoarded plan g turns.board
    → Starting turns now o.step tile → IsStarted (underway_kept plan input g turns places) (underway_kept plan input g now (set places o.step o.now)) (task_number turns.board.grid o.step tile)
start_is plan input g turns now places o tile whole boarded s =
    let b = turns.board in
    let n = task_number b.grid o.step tile in
    let same = open_same_shown plan input g turns places o whole boarded in
    record {
      progress =
          ap (λ (c : Schedule). (underway plan input g c.started c.finished (planes_shown g (set places o.step o.now)) now.order).progress) s.new
          ∙ ap (λ (ps : List Tiled). (underway plan input g (set b.started n true) b.finished ps now.order).progress) same;
      input = refl;
      tiling = refl;
      planes = same;
    }
