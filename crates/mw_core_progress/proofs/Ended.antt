-- Work of which all is finished.
use Rattle.std.proofs.Common.{◌≡◌, ℕ, ◌+◌, ◌-◌, ◌*◌, ◌<◌, true, false, not, List, length, get_or, Option, Some, sym, ap, subst, ◌∙◌, arith}
use Rattle.std.proofs.lemmas.List.{length-map}
use Rattle.std.proofs.lemmas.Bool.{true_from_ne_false}
use Rattle.mw_model.proofs.mw_facts.Counts.{count_by-some}
use Rattle.mw_model.specs.Plans.{Plan, is_sum}
use Rattle.mw_model.specs.Tasks.{flag, nothing_planned, remaining_tasks}
use Rattle.mw_grid.specs.Grids.{Tiling, tile_count, tiles_of}
use Rattle.mw_grid.proofs.Lines.{number_of as number_of_cell}
use Rattle.mw_grid.proofs.Tiles.{length-tiles_of, some_tiles}
use Rattle.mw_core_planes.specs.mw_ready.Boards.{Turns}
use Rattle.mw_core_planes.specs.mw_tile_planes.Tiles.{Tiled}
use Rattle.mw_core_planes.specs.Levels.{Level}
use Rattle.mw_core_planes.specs.StepPlanes.{shown, form, no_place, place_at, planes_shown}
use Rattle.mw_core_planes.specs.declared.step_planes.StepPlane.{StepPlane}
use Rattle.mw_core_planes.specs.declared.step_planes.StepPlane.TheVariants.{Closed, Plane, Sums}
use Rattle.mw_core_progress.specs.ProgressView.{IsWhole, plane_at}
use Rattle.mw_core_progress.specs.Parts.{underway_kept, IsPlaced}
use Rattle.mw_core_progress.proofs.Opened.{shown_at}
use Rattle.mw_core_progress.proofs.Placing.{form_most, is_plane}

pub sizes_are : (plan : Plan) (input : Level) (g : Tiling) (turns : Turns) (places : List StepPlane) → IsWhole (underway_kept plan input g turns places) → (length places ≡ length plan) × (0 < length places)
sizes_are plan input g turns places whole =
    let size : length (planes_shown g places) ≡ length plan = whole.planes in
    let some = whole.workable.some in
    (omega (arith, size, length-map places (shown g)), omega (arith, size, length-map places (shown g)))

-- the place of the last step is that of a plane
pub last_form : (plan : Plan) (input : Level) (g : Tiling) (turns : Turns) (places : List StepPlane) → IsWhole (underway_kept plan input g turns places) → IsPlaced plan g turns.board.started places
    → remaining_tasks (underway_kept plan input g turns places).progress ≡ 0 → is_sum (get_or plan (length plan - 1) nothing_planned).step ≡ false → form (place_at places (length plan - 1)) ≡ 1
last_form plan input g turns places whole placed none unsummed =
    let m = tile_count g in
    let k = length plan - 1 in
    let n = k * m + 0 in
    let finished = turns.board.finished in
    let some = whole.workable.some in
    let k-lt : k < length plan = omega arith in
    let n-lt : n < length plan * length (tiles_of g) = subst (λ (c : ℕ). n < length plan * c) (sym (length-tiles_of g)) (number_of_cell (length plan) m 0 k (some_tiles g) k-lt) in
    let done : flag finished n ≡ true = true_from_ne_false (flag finished n) (λ e. absurd (omega (arith, none, count_by-some (λ j. not (flag finished j)) (length plan * length (tiles_of g)) n n-lt (ap not e)))) in
    is_plane (form (place_at places k)) (is_sum (get_or plan k nothing_planned).step) unsummed (placed.forms k k-lt) (placed.opened k 0 k-lt (some_tiles g) (whole.begun n done)) (form_most (place_at places k))

some_same : (a b : StepPlane) → Some a ≡ Some b → a ≡ b
some_same a b e = cc

-- what is taken off the end is the last place
pub last_is : (places : List StepPlane) (n : ℕ) (o : Option StepPlane) (last : StepPlane) → o ≡ Some (get_or places (n - 1) no_place) → o ≡ Some last → last ≡ place_at places (n - 1)
last_is places n o last e f = some_same last (get_or places (n - 1) no_place) (sym f ∙ e)

pub not_open : (place last : StepPlane) → last ≡ place → form place ≡ 1 → ((p : Tiled) → last ≡ Plane p → ⊥) → ⊥
not_open (Closed l) last e one h = absurd (omega arith)
not_open (Plane p) last e one h = h p e
not_open (Sums p) last e one h = absurd (omega arith)

pub last_plane : (plan : Plan) (input : Level) (g : Tiling) (turns : Turns) (places : List StepPlane) (n : ℕ) (last : StepPlane) (p : Tiled) → n ≡ length plan → last ≡ place_at places (n - 1) → last ≡ Plane p
    → p ≡ plane_at (underway_kept plan input g turns places) (length plan - 1)
last_plane plan input g turns places n last p n-is last-is is =
    sym (shown_at g places (length plan - 1) ∙ ap (λ (k : ℕ). shown g (place_at places (k - 1))) (sym n-is) ∙ ap (shown g) (sym last-is) ∙ ap (shown g) is)
