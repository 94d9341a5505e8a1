-- Work of which nothing was started.
use Rattle.std.proofs.Common.{◌≡◌, ℕ, zero, suc, ◌+◌, ◌*◌, ◌<◌, Bool, true, false, List, [], ◌∷◌, ◌++◌, length, map, get_or, replicate, Option, None, refl, sym, ap, subst, ◌∙◌, arith}
use Rattle.std.proofs.Math.ListN.{get_or-map}
use Rattle.std.proofs.lemmas.List.{length-map, length-replicate, length_push, replicate-append-replicate}
use Rattle.mw_model.proofs.mw_facts.Elements.{get_or-replicate_same}
use Rattle.mw_model.proofs.mw_facts.Tests.{none-not_some}
use Rattle.mw_model.specs.Plans.{Plan, is_sum}
use Rattle.mw_model.specs.Tasks.{Progress, flag, nothing_planned}
use Rattle.mw_grid.specs.Grids.{Tiling, tile_count, tiles_of}
use Rattle.mw_grid.proofs.Tiles.{length-tiles_of}
use Rattle.mw_core_planes.specs.mw_tile_planes.Tiles.{Tiled}
use Rattle.mw_core_planes.specs.Levels.{Level, no_level, level_of_source, level_of_step, levels, levels_from, closed_plane, level_of_plane}
use Rattle.mw_core_planes.specs.StepPlanes.{form, IsFormOf, place_at, planes_shown}
use Rattle.mw_core_planes.specs.declared.step_planes.StepPlane.{StepPlane}
use Rattle.mw_core_planes.specs.declared.step_planes.StepPlane.TheVariants.{Closed}
use Rattle.mw_core_progress.specs.ProgressView.{IsWorkable, IsFramed, IsWhole, cells_of_planes, fresh}
use Rattle.mw_core_planes.specs.mw_ready.declared.need.Need.{Need}
use Rattle.mw_core_planes.specs.mw_ready.Boards.{Schedule, Turns, no_need}
use Rattle.mw_core_planes.specs.mw_ready.Boards as boards
use Rattle.mw_core_planes.specs.mw_ready.Work.{IsNeedOf}
use Rattle.mw_core_progress.specs.Parts.{underway, underway_kept, IsBoarded, IsPlaced}

abbrev no_cells : Option (List ℕ)
no_cells = None

pub closed_cells : (g : Tiling) (ls : List Level) → cells_of_planes (map (closed_plane g) ls) ≡ replicate (length ls * tile_count g) no_cells
closed_cells g [] = ap (λ (n : ℕ). replicate n no_cells) (none (tile_count g))
  where
    none : (m : ℕ) → 0 ≡ 0 * m
    none m = omega arith
closed_cells g (l ∷ ls) =
    ap (λ (t : List (Option (List ℕ))). replicate (tile_count g) no_cells ++ t) (closed_cells g ls)
    ∙ replicate-append-replicate (tile_count g) (length ls * tile_count g) no_cells
    ∙ ap (λ (n : ℕ). replicate n no_cells) (more (length ls) (tile_count g))
  where
    more : (k m : ℕ) → m + k * m ≡ suc k * m
    more k m = omega arith

closed_levels : (g : Tiling) (ls : List Level) → map level_of_plane (map (closed_plane g) ls) ≡ ls
closed_levels g [] = refl
closed_levels g (l ∷ ls) = ap (λ (t : List Level). l ∷ t) (closed_levels g ls)

length-levels_from : (plan : Plan) (input : Level) (made : List Level) → length (levels_from plan input made) ≡ length made + length plan
length-levels_from [] input made = omega arith
length-levels_from (s ∷ ss) input made =
    let level = level_of_step s.step (map (level_of_source input made) s.sources) in
    length-levels_from ss input (made ++ level ∷ []) ∙ more (length (made ++ level ∷ [])) (length made) (length ss) (length_push made level)
  where
    more : (a b k : ℕ) → a ≡ b + 1 → a + k ≡ b + suc k
    more a b k e = omega arith

pub length-levels : (plan : Plan) (input : Level) → length (levels plan input) ≡ length plan
length-levels plan input = length-levels_from plan input [] ∙ none (length plan)
  where
    none : (n : ℕ) → 0 + n ≡ n
    none n = omega arith

pub at-closed : (g : Tiling) (ls : List Level) (k : ℕ) → get_or (map (closed_plane g) ls) k (closed_plane g no_level) ≡ closed_plane g (get_or ls k no_level)
at-closed g ls k = get_or-map (closed_plane g) ls k no_level

never : (n k : ℕ) → get_or (replicate n false) k false ≡ true → ⊥
never n k e = let f : get_or (replicate n false) k false ≡ false = get_or-replicate_same n k false in cc

pub fresh_whole : (plan : Plan) (input : Level) (g : Tiling) (order : List ℕ) → IsWorkable plan input → IsFramed g
    → IsWhole (underway plan input g (replicate (length plan * tile_count g) false) (replicate (length plan * tile_count g) false) (map (closed_plane g) (levels plan input)) order)
fresh_whole plan input g order workable tiling =
    let n = length plan * tile_count g in
    let ls = levels plan input in
    let count : n ≡ length plan * length (tiles_of g) = ap (λ (m : ℕ). length plan * m) (sym (length-tiles_of g)) in
    record {
      workable = workable;
      tiling = tiling;
      width = refl;
      height = refl;
      tiles = refl;
      started = length-replicate n false ∙ count;
      finished = length-replicate n false ∙ count;
      begun = λ k e. absurd (never n k e);
      calm = λ k lt e. absurd (never n k e);
      planes = length-map ls (closed_plane g) ∙ length-levels plan input;
      levels = closed_levels g ls;
      tilings = λ k. ap (λ (p : Tiled). p.tiling) (at-closed g ls k);
      counts = λ k. ap (λ (p : Tiled). length p.tiles) (at-closed g ls k) ∙ length-replicate (tile_count g) no_cells;
      placed = refl;
      needed = λ k lt. (
        λ some. absurd (none-not_some (get_or (cells_of_planes (map (closed_plane g) ls)) k None) (ap (λ (t : List (Option (List ℕ))). get_or t k None) (closed_cells g ls) ∙ get_or-replicate_same (length ls * tile_count g) k no_cells) some),
        λ both. absurd (never n k both.0),
      );
    }

-- the same, of work that is given by equations
pub fresh_whole_given : (plan : Plan) (input : Level) (g : Tiling) (started finished : List Bool) (planes : List Tiled) (order : List ℕ) → IsWorkable plan input → IsFramed g → started ≡ replicate (length plan * tile_count g) false
    → finished ≡ replicate (length plan * tile_count g) false → planes ≡ map (closed_plane g) (levels plan input) → IsWhole (underway plan input g started finished planes order)
fresh_whole_given plan input g started finished planes order workable tiling started-is finished-is planes-is =
    subst (λ (s : List Bool). IsWhole (underway plan input g s finished planes order)) (sym started-is)
    (subst (λ (f : List Bool). IsWhole (underway plan input g (replicate (length plan * tile_count g) false) f planes order)) (sym finished-is)
    (subst (λ (ps : List Tiled). IsWhole (underway plan input g (replicate (length plan * tile_count g) false) (replicate (length plan * tile_count g) false) ps order)) (sym planes-is)
    (fresh_whole plan input g order workable tiling)))

-- the work of these parts is the fresh work of the plan
pub fresh_given : (plan : Plan) (input : Level) (g : Tiling) (started finished : List Bool) (planes : List Tiled) (order : List ℕ) → started ≡ replicate (length plan * tile_count g) false
    → finished ≡ replicate (length plan * tile_count g) false → planes ≡ map (closed_plane g) (levels plan input) → (underway plan input g started finished planes order).progress ≡ fresh plan input g
fresh_given plan input g started finished planes order started-is finished-is planes-is =
    let cells : cells_of_planes planes ≡ replicate (length plan * tile_count g) no_cells = ap cells_of_planes planes-is ∙ closed_cells g (levels plan input) ∙ ap (λ (k : ℕ). replicate (k * tile_count g) no_cells) (length-levels plan input) in
    let made : List Bool → List Bool → List (Option (List ℕ)) → Progress = λ s f c. record { width = g.width; height = g.height; plan = plan; tiles = tiles_of g; started = s; finished = f; placed = c } in
    ap (λ (s : List Bool). made s finished (cells_of_planes planes)) started-is
    ∙ ap (λ (f : List Bool). made (replicate (length plan * tile_count g) false) f (cells_of_planes planes)) finished-is
    ∙ ap (λ (c : List (Option (List ℕ))). made (replicate (length plan * tile_count g) false) (replicate (length plan * tile_count g) false) c) cells

-- ---- the places

pub closed_shown : (g : Tiling) (ls : List Level) → planes_shown g (map Closed ls) ≡ map (closed_plane g) ls
closed_shown g [] = refl
closed_shown g (l ∷ ls) = ap (λ (t : List Tiled). closed_plane g l ∷ t) (closed_shown g ls)

closed_form : (b : Bool) (n : ℕ) → n ≡ 0 → IsFormOf b n
closed_form true n e = λ f. absurd (omega arith)
closed_form false n e = λ f. absurd (omega arith)

all_closed : (ls : List Level) (k : ℕ) → form (place_at (map Closed ls) k) ≡ 0
all_closed [] k = refl
all_closed (l ∷ ls) zero = refl
all_closed (l ∷ ls) (suc k) = all_closed ls k

-- what new work is made of
pub record Beginning (plan : Plan) (input : Level) (g : Tiling) (turns : Turns) (places : List StepPlane) : Type 0 where
  pub needs : List Need
  pub workable : IsWorkable plan input
  pub framed : IsFramed g
  pub board : turns.board ≡ boards.fresh_schedule needs g
  pub size : length needs ≡ length plan
  pub each : (k : ℕ) → k < length plan → IsNeedOf (get_or needs k no_need) (get_or plan k nothing_planned)
  pub places_are : places ≡ map Closed (levels plan input)

started_is : (plan : Plan) (input : Level) (g : Tiling) (turns : Turns) (places : List StepPlane) (b : Beginning plan input g turns places) → turns.board.started ≡ replicate (length plan * tile_count g) false
started_is plan input g turns places b = ap (λ (t : Schedule). t.started) b.board ∙ ap (λ (n : ℕ). replicate (n * tile_count g) false) b.size

finished_is : (plan : Plan) (input : Level) (g : Tiling) (turns : Turns) (places : List StepPlane) (b : Beginning plan input g turns places) → turns.board.finished ≡ replicate (length plan * tile_count g) false
finished_is plan input g turns places b = ap (λ (t : Schedule). t.finished) b.board ∙ ap (λ (n : ℕ). replicate (n * tile_count g) false) b.size

pub planes_are : (plan : Plan) (input : Level) (g : Tiling) (turns : Turns) (places : List StepPlane) (b : Beginning plan input g turns places) → planes_shown g places ≡ map (closed_plane g) (levels plan input)
planes_are plan input g turns places b = ap (planes_shown g) b.places_are ∙ closed_shown g (levels plan input)

pub begin_whole : (plan : Plan) (input : Level) (g : Tiling) (turns : Turns) (places : List StepPlane) → Beginning plan input g turns places → IsWhole (underway_kept plan input g turns places) × IsBoarded plan g turns.board × IsPlaced plan g turns.board.started places
begin_whole plan input g turns places b = (
  fresh_whole_given plan input g turns.board.started turns.board.finished (planes_shown g places) turns.order b.workable b.framed (started_is plan input g turns places b) (finished_is plan input g turns places b) (planes_are plan input g turns places b),
  record {
    grid = ap (λ (t : Schedule). t.grid) b.board;
    steps = sym b.size ∙ sym (ap (λ (t : Schedule). length t.needs) b.board);
    needs = λ k lt. subst (λ (t : Schedule). IsNeedOf (get_or t.needs k no_need) (get_or plan k nothing_planned)) (sym b.board) (b.each k (let e : length turns.board.needs ≡ length b.needs = ap (λ (t : Schedule). length t.needs) b.board in omega (arith, b.size)));
  },
  record {
    forms = λ k lt. subst (λ (ps : List StepPlane). IsFormOf (is_sum (get_or plan k nothing_planned).step) (form (place_at ps k))) (sym b.places_are)
        (closed_form (is_sum (get_or plan k nothing_planned).step) (form (place_at (map Closed (levels plan input)) k)) (all_closed (levels plan input) k));
    opened = λ k t k-lt t-lt marked. absurd (never (length plan * tile_count g) (k * tile_count g + t) (ap (λ (s : List Bool). flag s (k * tile_count g + t)) (sym (started_is plan input g turns places b)) ∙ marked));
  },
)

pub begin_fresh : (plan : Plan) (input : Level) (g : Tiling) (turns : Turns) (places : List StepPlane) → Beginning plan input g turns places → (underway_kept plan input g turns places).progress ≡ fresh plan input g
begin_fresh plan input g turns places b =
    fresh_given plan input g turns.board.started turns.board.finished (planes_shown g places) turns.order (started_is plan input g turns places b) (finished_is plan input g turns places b) (planes_are plan input g turns places b)
