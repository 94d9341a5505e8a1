-- What is kept once a task is finished and what nobody reads is dropped.
use Rattle.std.proofs.Common.{◌≡◌, ◌≢◌, ℕ, ◌+◌, ◌*◌, ◌/◌, ◌%◌, ◌<◌, Bool, true, false, not, ◌&&◌, ◌||◌, nat_eq, cond, List, length, map, get_or, set, Option, Some, None, refl, sym, ap, subst, ◌∙◌, arith, inl, inr}
use Rattle.std.specs.List.{AllByRecursion, range_with_len, list_any}
use Rattle.std.proofs.Math.ListN.{get_or-map}
use Rattle.std.proofs.lemmas.Bool.{cases_eq, cases_lt}
use Rattle.std.proofs.lemmas.List.{length-map, map-set, length-set, get_or-set_same, get_or-set_other, get_or_past, ext_get_or}
use Rattle.std.proofs.lemmas.Nat.{div-mul-add, mod-mul-add, div-add-mod', mod_below}
use Rattle.mw_model.specs.declared.shapes.Kind.{Kind}
use Rattle.mw_model.specs.Rectangles.{grown}
use Rattle.mw_model.specs.Plans.{Plan, is_sum}
use Rattle.mw_model.specs.Tasks.{Progress, flag, meets, is_needed, is_step, nothing_planned}
use Rattle.mw_model.specs.Tasks as tasks
use Rattle.mw_grid.specs.Grids.{Tiling, tile_count, tile_at, tiles_of}
use Rattle.mw_grid.specs.Blocks.{sees}
use Rattle.mw_grid.proofs.Lines.{row_less, number_of as number_of_cell}
use Rattle.mw_grid.proofs.Tiles.{length-tiles_of}
use Rattle.mw_core_planes.specs.mw_ready.declared.need.Need.{Need}
use Rattle.mw_core_planes.specs.mw_ready.Boards.{Schedule, Turns, step_reads, no_need, task_number}
use Rattle.mw_core_planes.specs.mw_ready.Boards as boards
use Rattle.mw_core_planes.specs.mw_ready.Work.{SameTasks}
use Rattle.mw_core_planes.specs.mw_tile_planes.Tiles.{Tiled}
use Rattle.mw_core_planes.specs.Levels.{Level, no_level, level_of_plane}
use Rattle.mw_core_planes.specs.StepPlanes.{shown, form, IsFormOf, place_at, planes_shown, Swept, SweptAll, is_read, placed_in}
use Rattle.mw_core_planes.specs.declared.step_planes.StepPlane.{StepPlane}
use Rattle.mw_core_progress.specs.ProgressView.{IsWhole, number_of, no_plane, cells_of_planes}
use Rattle.mw_core_progress.specs.Parts.{underway, underway_kept, IsBoarded, IsPlaced}
use Rattle.mw_core_progress.proofs.Boarded.{IsTied, same_work}
use Rattle.mw_core_progress.proofs.Cells.{HasCount, all_counted, cells_at, cells_of_task}
use Rattle.mw_core_progress.proofs.Opened.{shown_at}
use Rattle.mw_core_progress.proofs.Placing.{not_placed}
use Rattle.mw_core_progress.proofs.Finished.{read_before, read_unsummed, any-same_below, finished_with, is_read_in, Settles, SameFrames}

abbrev no_cells : Option (List ℕ)
no_cells = None

-- ---- who reads what, by steps and tiles

-- the board with one more task finished
abbrev pub board_after : Schedule → ℕ → Schedule
board_after b n = record b { finished = set b.finished n true }

-- the task of a step and tile reads tile v of step s
abbrev pub reads_there : Schedule → ℕ → ℕ → ℕ → ℕ → Bool
reads_there b step tile s v = step_reads (get_or b.needs step no_need) s && sees b.grid (get_or b.needs step no_need).reach tile v

reads_is : (b : Schedule) (step tile k : ℕ) → tile < tile_count b.grid → boards.reads_by_needs b.needs b.grid (task_number b.grid step tile) k ≡ reads_there b step tile (k / tile_count b.grid) (k % tile_count b.grid)
reads_is b step tile k lt =
    let g = b.grid in
    let m = tile_count g in
    let place : ℕ → ℕ → Bool = λ s t. step_reads (get_or b.needs s no_need) (k / m) && meets (grown g.width g.height (get_or b.needs s no_need).reach (tile_at g t)) (tile_at g (k % m)) in
    ap (λ (s : ℕ). place s (task_number g step tile % m)) (div-mul-add step m tile lt) ∙ ap (λ (t : ℕ). place step t) (mod-mul-add step m tile lt)

-- who still reads a tile, on the board and in the work
pub read_is : (plan : Plan) (input : Level) (g : Tiling) (b : Schedule) (planes after : List Tiled) (order : List ℕ) (n k : ℕ) → IsBoarded plan g b → IsTied b → k < boards.task_count_on b
    → is_read (board_after b n) (k / tile_count b.grid) (k % tile_count b.grid) ≡ is_read_in (finished_with (underway plan input g b.started b.finished planes order).progress n (cells_of_planes after)) k
read_is plan input g b planes after order n k boarded tied lt =
    let p = (underway plan input g b.started b.finished planes order).progress in
    let same = same_work plan input g b planes order boarded tied in
    ap (λ (j : ℕ). list_any (λ u. not (flag (set b.finished n true) u) && boards.reads_by_needs b.needs b.grid u j) (boards.tasks_on b)) (div-add-mod' k (tile_count b.grid))
    ∙ any-same_below (λ u. not (flag (set b.finished n true) u) && boards.reads_by_needs b.needs b.grid u k) (λ u. not (flag (set b.finished n true) u) && tasks.reads p u k) 0 (boards.task_count_on b)
    (λ u u-lt. ap (λ (r : Bool). not (flag (set b.finished n true) u) && r) (sym (same.reads u k (omega (arith, u-lt)))))
    ∙ ap (λ (m : ℕ). list_any (λ u. not (flag (set b.finished n true) u) && tasks.reads p u k) (range_with_len 0 m)) (sym same.count)

-- ---- a list of planes of which one has one tile more

abbrev pub put_in : Bool → List Tiled → Tiled → ℕ → ℕ → List ℕ → List Tiled
put_in keep swept d step tile cells = cond keep (set swept step (placed_in (get_or swept step d) tile cells)) swept

put-other : (keep : Bool) (swept : List Tiled) (d : Tiled) (step tile : ℕ) (cells : List ℕ) (s v : ℕ) → step < length swept → (s ≡ step → v ≢ tile)
    → get_or (get_or (put_in keep swept d step tile cells) s d).tiles v None ≡ get_or (get_or swept s d).tiles v None
put-other false swept d step tile cells s v lt other = refl
put-other true swept d step tile cells s v lt other =
    let x = placed_in (get_or swept step d) tile cells in
    elim (cases_eq s step) [
      | inl here ↦
          ap (λ (j : ℕ). get_or (get_or (set swept step x) j d).tiles v None) here
          ∙ ap (λ (p : Tiled). get_or p.tiles v None) (get_or-set_same swept step x d lt)
          ∙ get_or-set_other (get_or swept step d).tiles tile v (Some cells) None (other here)
          ∙ ap (λ (j : ℕ). get_or (get_or swept j d).tiles v None) (sym here)
      | inr there ↦ ap (λ (p : Tiled). get_or p.tiles v None) (get_or-set_other swept step s x d there)
    ]

put-own : (keep : Bool) (swept : List Tiled) (d : Tiled) (step tile : ℕ) (cells : List ℕ) → step < length swept → tile < length (get_or swept step d).tiles → get_or (get_or swept step d).tiles tile None ≡ None
    → get_or (get_or (put_in keep swept d step tile cells) step d).tiles tile None ≡ cond keep (Some cells) None
put-own false swept d step tile cells lt inside none = none
put-own true swept d step tile cells lt inside none =
    let x = placed_in (get_or swept step d) tile cells in
    ap (λ (p : Tiled). get_or p.tiles tile None) (get_or-set_same swept step x d lt)
    ∙ get_or-set_same (get_or swept step d).tiles tile (Some cells) None inside

put-frame : {X : Type 0} (F : Tiled → X) (keep : Bool) (swept : List Tiled) (d : Tiled) (step tile : ℕ) (cells : List ℕ) (k : ℕ) → ((p : Tiled) → F (placed_in p tile cells) ≡ F p) → step < length swept
    → F (get_or (put_in keep swept d step tile cells) k d) ≡ F (get_or swept k d)
put-frame F false swept d step tile cells k same lt = refl
put-frame F true swept d step tile cells k same lt =
    let x = placed_in (get_or swept step d) tile cells in
    elim (cases_eq k step) [
      | inl here ↦ ap (λ (j : ℕ). F (get_or (set swept step x) j d)) here ∙ ap F (get_or-set_same swept step x d lt) ∙ same (get_or swept step d) ∙ ap (λ (j : ℕ). F (get_or swept j d)) (sym here)
      | inr there ↦ ap F (get_or-set_other swept step k x d there)
    ]

length-put : (keep : Bool) (swept : List Tiled) (d : Tiled) (step tile : ℕ) (cells : List ℕ) → length (put_in keep swept d step tile cells) ≡ length swept
length-put false swept d step tile cells = refl
length-put true swept d step tile cells = length-set swept step (placed_in (get_or swept step d) tile cells)

-- ---- the planes after a finish

-- what nobody reads was dropped of the planes, and then what the task made was placed if it is kept
pub record Ends (g : Tiling) (b : Schedule) (step tile : ℕ) (keep : Bool) (cells : List ℕ) (planes after : List Tiled) : Type 0 where
  pub swept : List Tiled
  pub count : length swept ≡ length planes
  pub each : (k : ℕ) → k < length planes
      → Swept (λ v. reads_there b step tile k v && not (is_read (board_after b (task_number b.grid step tile)) k v)) (get_or planes k (no_plane g)) (get_or swept k (no_plane g))
  pub is : after ≡ put_in keep swept (no_plane g) step tile cells

swept-frame : {X : Type 0} (F : Tiled → X) (g : Tiling) (b : Schedule) (step tile : ℕ) (keep : Bool) (cells : List ℕ) (planes after : List Tiled) (e : Ends g b step tile keep cells planes after)
    → ((gone : ℕ → Bool) (p q : Tiled) → Swept gone p q → F q ≡ F p) → ((p : Tiled) → F (placed_in p tile cells) ≡ F p) → step < length planes → (k : ℕ) → F (get_or after k (no_plane g)) ≡ F (get_or planes k (no_plane g))
swept-frame F g b step tile keep cells planes after e same placed lt k =
    let d = no_plane g in
    ap (λ (ps : List Tiled). F (get_or ps k d)) e.is
    ∙ put-frame F keep e.swept d step tile cells k placed (let c = e.count in omega arith)
    ∙ elim (cases_lt k (length planes)) [
      | inl within ↦ same (λ v. reads_there b step tile k v && not (is_read (board_after b (task_number b.grid step tile)) k v)) (get_or planes k d) (get_or e.swept k d) (e.each k within)
      | inr past ↦ ap F (get_or_past e.swept k d (let c = e.count in omega arith) ∙ sym (get_or_past planes k d past))
    ]

pub same_frames : (g : Tiling) (b : Schedule) (step tile : ℕ) (keep : Bool) (cells : List ℕ) (planes after : List Tiled) → Ends g b step tile keep cells planes after → step < length planes → SameFrames g planes after
same_frames g b step tile keep cells planes after e lt =
    let size : length after ≡ length planes = ap length e.is ∙ length-put keep e.swept (no_plane g) step tile cells ∙ e.count in
    record {
      count = size;
      levels = ext_get_or no_level (map level_of_plane after) (map level_of_plane planes) (length-map after level_of_plane ∙ size ∙ sym (length-map planes level_of_plane)) (λ i i-lt.
          get_or-map level_of_plane after i (no_plane g)
          ∙ ap (λ (k : Kind). record { kind = k; maxval = (get_or after i (no_plane g)).maxval }) (swept-frame (λ (p : Tiled). p.kind) g b step tile keep cells planes after e (λ gone p q s. s.kind) (λ p. refl) lt i)
          ∙ ap (λ (m : ℕ). record { kind = (get_or planes i (no_plane g)).kind; maxval = m }) (swept-frame (λ (p : Tiled). p.maxval) g b step tile keep cells planes after e (λ gone p q s. s.maxval) (λ p. refl) lt i)
          ∙ sym (get_or-map level_of_plane planes i (no_plane g)));
      tilings = swept-frame (λ (p : Tiled). p.tiling) g b step tile keep cells planes after e (λ gone p q s. s.tiling) (λ p. refl) lt;
      counts = swept-frame (λ (p : Tiled). length p.tiles) g b step tile keep cells planes after e (λ gone p q s. s.count) (λ p. length-set p.tiles tile (Some cells)) lt;
    }

cond_none : (b : Bool) → cond b None no_cells ≡ None
cond_none true = refl
cond_none false = refl

-- the finish of a task leaves what it should, where the work stands on the grid of the board
pub settles_here : (plan : Plan) (input : Level) (b : Schedule) (planes after : List Tiled) (order : List ℕ) (step tile : ℕ) (keep : Bool) (cells : List ℕ) → IsWhole (underway plan input b.grid b.started b.finished planes order)
    → IsBoarded plan b.grid b → IsTied b → step < length plan → tile < tile_count b.grid → flag b.finished (task_number b.grid step tile) ≡ false → Ends b.grid b step tile keep cells planes after
    → keep ≡ is_needed (finished_with (underway plan input b.grid b.started b.finished planes order).progress (task_number b.grid step tile) (cells_of_planes after)) (task_number b.grid step tile)
    → Settles (underway plan input b.grid b.started b.finished planes order).progress (task_number b.grid step tile) cells (cells_of_planes after)
settles_here plan input b planes after order step tile keep cells whole boarded tied within inside unfinished e keep-is = record {
  own =
      cells_at after m step tile d all-after (omega (arith, len, len-after, within)) inside
      ∙ ap (λ (ps : List Tiled). get_or (get_or ps step d).tiles tile None) e.is
      ∙ put-own keep e.swept d step tile cells (omega (arith, len, e.count, within)) (omega (arith, swept-size step step-lt, whole.counts step, inside)) ((e.each step step-lt).each tile (omega (arith, whole.counts step, inside)) ∙ ap (λ (o : Option (List ℕ)). cond (gone step tile) None o) nothing ∙ cond_none (gone step tile))
      ∙ ap (λ (b : Bool). cond b (Some cells) None) keep-is;
  others = λ k k-lt ne.
      let s = k / m in
      let v = k % m in
      let k-in : k < length planes * m = subst (λ (c : ℕ). k < c) (count-is planes len) k-lt in
      let k-after : k < length after * m = subst (λ (c : ℕ). k < c) (count-is after len-after) k-lt in
      let s-lt : s < length planes = row_less (length planes) m k some k-in in
      cells_of_task after m k d all-after some k-after
      ∙ ap (λ (ps : List Tiled). get_or (get_or ps s d).tiles v None) e.is
      ∙ put-other keep e.swept d step tile cells s v (omega (arith, len, e.count, within)) (λ es ev. ne (sym (div-add-mod' k m) ∙ ap (λ (x : ℕ). x * m + v) es ∙ ap (λ (y : ℕ). step * m + y) ev))
      ∙ (e.each s s-lt).each v (omega (arith, whole.counts s, mod_below k m some))
      ∙ ap (λ (o : Option (List ℕ)). cond (gone s v) None o) (sym (cells_of_task planes m k d all some k-in))
      ∙ ap (λ (b : Bool). cond b None (get_or p.placed k None)) (gone-is k (subst (λ (c : ℕ). k < c) same.count k-lt));
}
  where
    p : Progress
    p = (underway plan input b.grid b.started b.finished planes order).progress

    m : ℕ
    m = tile_count b.grid

    n : ℕ
    n = task_number b.grid step tile

    d : Tiled
    d = no_plane b.grid

    gone : ℕ → ℕ → Bool
    gone s v = reads_there b step tile s v && not (is_read (board_after b (task_number b.grid step tile)) s v)

    same : SameTasks b (underway plan input b.grid b.started b.finished planes order).progress
    same = same_work plan input b.grid b planes order boarded tied

    some : 0 < tile_count b.grid
    some = omega (arith, inside)

    len : length planes ≡ length plan
    len = whole.planes

    step-lt : step < length planes
    step-lt = omega (arith, within, whole.planes)

    len-after : length after ≡ length plan
    len-after = (same_frames b.grid b step tile keep cells planes after e (omega (arith, within, whole.planes))).count ∙ whole.planes

    all : AllByRecursion (HasCount (tile_count b.grid)) planes
    all = all_counted planes (tile_count b.grid) (no_plane b.grid) whole.counts

    all-after : AllByRecursion (HasCount (tile_count b.grid)) after
    all-after = all_counted after (tile_count b.grid) (no_plane b.grid) (λ k. (same_frames b.grid b step tile keep cells planes after e (omega (arith, within, whole.planes))).counts k ∙ whole.counts k)

    swept-size : (k : ℕ) → k < length planes → length (get_or e.swept k (no_plane b.grid)).tiles ≡ length (get_or planes k (no_plane b.grid)).tiles
    swept-size k lt = (e.each k lt).count

    count-is : (ps : List Tiled) → length ps ≡ length plan → length plan * length (tiles_of b.grid) ≡ length ps * tile_count b.grid
    count-is ps size = ap (λ (c : ℕ). length plan * c) (length-tiles_of b.grid) ∙ ap (λ (c : ℕ). c * tile_count b.grid) (sym size)

    n-lt : task_number b.grid step tile < length plan * length (tiles_of b.grid)
    n-lt = subst (λ (c : ℕ). step * tile_count b.grid + tile < c) (sym (ap (λ (c : ℕ). length plan * c) (length-tiles_of b.grid))) (number_of_cell (length plan) (tile_count b.grid) tile step inside within)

    nothing : get_or (get_or planes step (no_plane b.grid)).tiles tile None ≡ None
    nothing = not_placed plan input b.grid b.started b.finished planes order step tile whole within inside unfinished

    gone-is : (k : ℕ) → k < boards.task_count_on b → gone (k / tile_count b.grid) (k % tile_count b.grid) ≡ tasks.reads p n k && not (is_read_in (finished_with p n (cells_of_planes after)) k)
    gone-is k lt =
        ap (λ (r : Bool). r && not (is_read (board_after b n) (k / tile_count b.grid) (k % tile_count b.grid))) (sym (reads_is b step tile k inside) ∙ sym (same.reads n k (subst (λ (c : ℕ). n < c) same.count n-lt)))
        ∙ ap (λ (r : Bool). tasks.reads p n k && not r) (read_is plan input b.grid b planes after order n k boarded tied lt)

-- ---- from what the code says to what is kept

-- the work before a finish, and what the code made of it
pub record Finishing (plan : Plan) (input : Level) (g : Tiling) (turns : Turns) (places : List StepPlane) : Type 0 where
  pub step : ℕ
  pub tile : ℕ
  pub cells : List ℕ
  pub need : Need
  pub now : Turns
  pub swept : List StepPlane
  pub after : List StepPlane
  pub keep : Bool
  pub within : step < length plan
  pub inside : tile < tile_count g
  pub running : tasks.is_running (underway_kept plan input g turns places).progress (number_of (underway_kept plan input g turns places).progress step tile) ≡ true
  pub need_is : need ≡ get_or turns.board.needs step no_need
  pub board : now.board ≡ board_after turns.board (task_number turns.board.grid step tile)
  pub sweeps : SweptAll g (λ k v. step_reads need k && sees g need.reach tile v && not (is_read now.board k v)) places swept
  pub keep_is : keep ≡ nat_eq (step + 1) (length plan) || is_sum (get_or plan step nothing_planned).step || is_read now.board step tile
  pub kept : keep ≡ true → (p : StepPlane) × (after ≡ set swept step p) × (shown g p ≡ placed_in (shown g (place_at swept step)) tile cells) × (form p ≡ form (place_at swept step))
  pub dropped : keep ≡ false → after ≡ swept

-- the steps and tiles that a task reads are on planes
pub read_places : (plan : Plan) (input : Level) (g : Tiling) (turns : Turns) (places : List StepPlane) (step k : ℕ) (need : Need) → IsWhole (underway_kept plan input g turns places) → IsBoarded plan g turns.board → IsPlaced plan g turns.board.started places
    → step < length plan → need ≡ get_or turns.board.needs step no_need → step_reads need k ≡ true → (k < length places) × (form (place_at places k) ≢ 2)
read_places plan input g turns places step k need whole boarded placed within need-is read =
    let named : list_any (is_step k) (get_or plan step nothing_planned).sources ≡ true = sym ((boarded.needs step (omega (arith, boarded.steps))).steps k) ∙ ap (λ (n : Need). step_reads n k) (sym need-is) ∙ read in
    let early : k < step = read_before plan input step k whole.workable named in
    let size : length (planes_shown g places) ≡ length plan = whole.planes in (
      omega (arith, size, length-map places (shown g)),
      subst (λ (b : Bool). IsFormOf b (form (place_at places k))) (read_unsummed plan input step k whole.workable named) (placed.forms k (omega arith)),
    )

put-true : (g : Tiling) (swept : List StepPlane) (step tile : ℕ) (cells : List ℕ) (p : StepPlane) → shown g p ≡ placed_in (shown g (place_at swept step)) tile cells
    → planes_shown g (set swept step p) ≡ put_in true (planes_shown g swept) (no_plane g) step tile cells
put-true g swept step tile cells p is =
    map-set (shown g) swept step p
    ∙ ap (λ (q : Tiled). set (planes_shown g swept) step q) (is ∙ ap (λ (q : Tiled). placed_in q tile cells) (sym (shown_at g swept step)))

ends_is : (plan : Plan) (input : Level) (g : Tiling) (turns : Turns) (places : List StepPlane) (f : Finishing plan input g turns places) (keep : Bool) → keep ≡ f.keep → planes_shown g f.after ≡ put_in keep (planes_shown g f.swept) (no_plane g) f.step f.tile f.cells
ends_is plan input g turns places f true e =
    let k = f.kept (sym e) in
    ap (planes_shown g) k.1 ∙ put-true g f.swept f.step f.tile f.cells k.0 k.2
ends_is plan input g turns places f false e = ap (planes_shown g) (f.dropped (sym e))

-- on the grid of the board
pub ends_of : (plan : Plan) (input : Level) (turns : Turns) (places : List StepPlane) (f : Finishing plan input turns.board.grid turns places) → Ends turns.board.grid turns.board f.step f.tile f.keep f.cells (planes_shown turns.board.grid places) (planes_shown turns.board.grid f.after)
ends_of plan input turns places f =
    let g = turns.board.grid in
    let b = turns.board in
    let n = task_number g f.step f.tile in
    let size : length (planes_shown g f.swept) ≡ length (planes_shown g places) = length-map f.swept (shown g) ∙ f.sweeps.count ∙ sym (length-map places (shown g)) in
    record {
      swept = planes_shown g f.swept;
      count = size;
      each = λ k lt.
          let k-lt : k < length places = omega (arith, length-map places (shown g)) in
          let told : Swept (λ v. step_reads f.need k && sees g f.need.reach f.tile v && not (is_read f.now.board k v)) (get_or (planes_shown g places) k (no_plane g)) (get_or (planes_shown g f.swept) k (no_plane g)) =
          subst (λ (p : Tiled). Swept (λ v. step_reads f.need k && sees g f.need.reach f.tile v && not (is_read f.now.board k v)) p (get_or (planes_shown g f.swept) k (no_plane g))) (sym (shown_at g places k))
          (subst (λ (p : Tiled). Swept (λ v. step_reads f.need k && sees g f.need.reach f.tile v && not (is_read f.now.board k v)) (shown g (place_at places k)) p) (sym (shown_at g f.swept k)) (f.sweeps.each k k-lt)) in
          let P : Need → Schedule → Type 0 = λ m c. Swept (λ v. step_reads m k && sees g m.reach f.tile v && not (is_read c k v)) (get_or (planes_shown g places) k (no_plane g)) (get_or (planes_shown g f.swept) k (no_plane g)) in
          subst (λ (m : Need). P m (board_after b n)) f.need_is (subst (λ (c : Schedule). P f.need c) f.board told);
      is = ends_is plan input g turns places f f.keep refl;
    }
