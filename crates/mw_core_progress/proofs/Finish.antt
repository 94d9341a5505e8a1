-- A finish, from what the code says to the work after it.
use Rattle.std.proofs.Common.{◌≡◌, ℕ, ◌+◌, ◌*◌, ◌/◌, ◌<◌, ◌≤◌, ◌⊎◌, Bool, true, false, not, ◌&&◌, ◌||◌, nat_eq, cond, count_by, List, length, take, drop, ◌++◌, get_or, set, Option, Some, None, refl, sym, ap, subst, ◌∙◌, arith, inl, inr}
use Rattle.std.specs.List.{AllByRecursion, range_with_len}
use Rattle.std.proofs.lemmas.Bool.{cases_eq, cases_lt}
use Rattle.std.proofs.lemmas.List.{length-map, append-nil, take_all, drop_all, get_or-set_same, get_or-set_other, get_or_past}
use Rattle.std.proofs.lemmas.Nat.{div-mul-add, mod-mul-add}
use Rattle.mw_model.proofs.mw_facts.Tests.{cond_none-some}
use Rattle.mw_model.specs.Plans.{Plan, is_sum}
use Rattle.mw_model.specs.Tasks.{Progress, flag, is_needed, is_running, task_count, nothing_planned, reads}
use Rattle.mw_grid.specs.Counts.{bit}
use Rattle.mw_grid.specs.Grids.{Tiling, tile_count, tiles_of}
use Rattle.mw_grid.proofs.Counts.{count-more, bit-at, bit-other}
use Rattle.mw_grid.proofs.Tiles.{length-tiles_of}
use Rattle.mw_core_planes.specs.mw_ready.Boards.{Schedule, Turns, task_number}
use Rattle.mw_core_planes.specs.mw_ready.Boards as boards
use Rattle.mw_core_planes.specs.Levels.{Level}
use Rattle.mw_core_planes.specs.StepPlanes.{shown, form, IsFormOf, no_place, place_at, planes_shown, is_read}
use Rattle.mw_core_planes.specs.declared.step_planes.StepPlane.{StepPlane}
use Rattle.mw_core_progress.specs.ProgressView.{IsWhole, IsFinished, number_of, no_plane, cells_of_planes}
use Rattle.mw_core_progress.specs.Parts.{underway, underway_kept, IsBoarded, IsPlaced}
use Rattle.mw_core_progress.proofs.Boarded.{IsTied, same_work, number_lt}
use Rattle.mw_core_progress.proofs.Cells.{HasCount, all_counted, length-cells}
use Rattle.mw_core_progress.proofs.Finished.{finished_with, is_read_in, Settles, finished_whole}
use Rattle.mw_core_progress.proofs.Placing.{runs_at}
use Rattle.mw_core_progress.proofs.Settled.{Finishing, Ends, board_after, read_is, ends_of, settles_here, same_frames}

abbrev left : ℕ → List Bool → ℕ
left count finished = count_by (λ n. not (flag finished n)) (range_with_len 0 count)

-- one task fewer is left
lowered : (finished : List Bool) (n count : ℕ) → n < count → length finished ≡ count → flag finished n ≡ false → left count (set finished n true) + 1 ≡ left count finished
lowered finished n count lt size unfinished =
    sym (count-more (λ k. not (flag finished k)) (λ k. not (flag (set finished n true) k)) n count lt (λ k k-lt. elim (cases_eq k n) [
      | inl here ↦
          let was : flag finished k ≡ false = ap (flag finished) here ∙ unfinished in
          let is : flag (set finished n true) k ≡ true = ap (flag (set finished n true)) here ∙ get_or-set_same finished n true false (omega arith) in
          ap (λ (b : Bool). bit (not b)) was ∙ one (bit (nat_eq k n)) (bit-at k n here) ∙ ap (λ (b : Bool). bit (not b) + bit (nat_eq k n)) (sym is)
      | inr other ↦
          ap (λ (b : Bool). bit (not b)) (sym (get_or-set_other finished n k true false other)) ∙ none (bit (not (flag (set finished n true) k))) (bit (nat_eq k n)) (bit-other k n other)
    ]))
  where
    one : (x : ℕ) → x ≡ 1 → 1 ≡ 0 + x
    one x e = omega arith

    none : (y x : ℕ) → x ≡ 0 → y ≡ y + x
    none y x e = omega arith

some_or : (b : Bool) (cells found : List ℕ) → cond b (Some cells) None ≡ Some found → found ≡ cells
some_or true cells found e = cc
some_or false cells found e = absurd (let f : None ≡ Some found = e in cc)

-- what is kept afterwards was made by the task, or was kept before
kept_from : (p : Progress) (n : ℕ) (cells : List ℕ) (q : List (Option (List ℕ))) → Settles p n cells q → length q ≡ task_count p → (k : ℕ) (found : List ℕ) → get_or q k None ≡ Some found → ((k ≡ n) × (found ≡ cells)) ⊎ (get_or p.placed k None ≡ Some found)
kept_from p n cells q settles size k found e = elim (cases_eq k n) [
  | inl here ↦ inl (here, some_or (is_needed (finished_with p n q) n) cells found (sym settles.own ∙ ap (λ (j : ℕ). get_or q j None) (sym here) ∙ e))
  | inr other ↦ elim (cases_lt k (task_count p)) [
    | inl lt ↦ inr (cond_none-some (reads p n k && not (is_read_in (finished_with p n q) k)) (get_or p.placed k None) found (sym (settles.others k lt other) ∙ e))
    | inr past ↦ absurd (let f : None ≡ Some found = sym (get_or_past q k None (omega arith)) ∙ e in cc)
  ]
]

-- the work after it, on the grid of the board
pub record After (plan : Plan) (input : Level) (g : Tiling) (turns : Turns) (places : List StepPlane) (f : Finishing plan input g turns places) : Type 0 where
  pub whole : IsWhole (underway_kept plan input g f.now f.after)
  pub boarded : IsBoarded plan g f.now.board
  pub placed : IsPlaced plan g f.now.board.started f.after
  pub finished : IsFinished (underway_kept plan input g turns places) (underway_kept plan input g f.now f.after) (number_of (underway_kept plan input g turns places).progress f.step f.tile) f.cells

forms_after : (plan : Plan) (input : Level) (g : Tiling) (turns : Turns) (places : List StepPlane) (f : Finishing plan input g turns places) → f.step < length places → (keep : Bool) → keep ≡ f.keep → (k : ℕ) → form (place_at f.after k) ≡ form (place_at places k)
forms_after plan input g turns places f lt false e k = ap (λ (ps : List StepPlane). form (place_at ps k)) (f.dropped (sym e)) ∙ f.sweeps.forms k
forms_after plan input g turns places f lt true e k =
    let h = f.kept (sym e) in
    let room : f.step < length f.swept = (let c = f.sweeps.count in omega arith) in
    ap (λ (ps : List StepPlane). form (place_at ps k)) h.1
    ∙ elim (cases_eq k f.step) [
      | inl here ↦ ap (λ (j : ℕ). form (place_at (set f.swept f.step h.0) j)) here ∙ ap form (get_or-set_same f.swept f.step h.0 no_place room) ∙ h.3 ∙ ap (λ (j : ℕ). form (place_at f.swept j)) (sym here)
      | inr other ↦ ap form (get_or-set_other f.swept f.step k h.0 no_place other)
    ]
    ∙ f.sweeps.forms k

finish_here : (plan : Plan) (input : Level) (turns : Turns) (places : List StepPlane) (f : Finishing plan input turns.board.grid turns places) → IsWhole (underway_kept plan input turns.board.grid turns places)
    → IsBoarded plan turns.board.grid turns.board → IsTied turns.board → IsPlaced plan turns.board.grid turns.board.started places → After plan input turns.board.grid turns places f
finish_here plan input turns places f whole boarded tied placed =
    let b = turns.board in
    let g = b.grid in
    let m = tile_count g in
    let n = task_number g f.step f.tile in
    let planes = planes_shown g places in
    let after = planes_shown g f.after in
    let p = (underway plan input g b.started b.finished planes turns.order).progress in
    let q = cells_of_planes after in
    let runs = runs_at plan input g b.started b.finished planes turns.order f.step f.tile f.running in
    let number : number_of p f.step f.tile ≡ n = ap (λ (c : ℕ). f.step * c + f.tile) (length-tiles_of g) in
    let e : Ends g b f.step f.tile f.keep f.cells planes after = ends_of plan input turns places f in
    let step-of : n / length (tiles_of g) ≡ f.step = ap (λ (c : ℕ). n / c) (length-tiles_of g) ∙ div-mul-add f.step m f.tile f.inside in
    let lt-b : n < boards.task_count_on b = number_lt b f.step f.tile (omega (arith, boarded.steps, f.within)) f.inside in
    let same = same_work plan input g b planes turns.order boarded tied in
    let lt : n < task_count p = subst (λ (c : ℕ). n < c) (sym same.count) lt-b in
    let read : is_read f.now.board f.step f.tile ≡ is_read_in (finished_with p n q) n =
    ap (λ (c : Schedule). is_read c f.step f.tile) f.board
    ∙ ap (λ (s : ℕ). is_read (board_after b n) s f.tile) (sym (div-mul-add f.step m f.tile f.inside))
    ∙ ap (λ (t : ℕ). is_read (board_after b n) (n / m) t) (sym (mod-mul-add f.step m f.tile f.inside))
    ∙ read_is plan input g b planes after turns.order n n boarded tied lt-b in
    let keep-is : f.keep ≡ is_needed (finished_with p n q) n =
    f.keep_is
    ∙ ap (λ (r : Bool). nat_eq (f.step + 1) (length plan) || is_sum (get_or plan f.step nothing_planned).step || r) read
    ∙ ap (λ (s : ℕ). nat_eq (s + 1) (length plan) || is_sum (get_or plan s nothing_planned).step || is_read_in (finished_with p n q) n) (sym step-of) in
    let settles = settles_here plan input b planes after turns.order f.step f.tile f.keep f.cells whole boarded tied f.within f.inside runs.1 e keep-is in
    let size-p : length planes ≡ length plan = whole.planes in
    let lt-places : f.step < length places = omega (arith, f.within, size-p, length-map places (shown g)) in
    let frames = same_frames g b f.step f.tile f.keep f.cells planes after e (omega (arith, f.within, size-p)) in
    let running : is_running p n ≡ true = ap (is_running p) (sym number) ∙ f.running in
    let some : 0 < length (tiles_of g) = omega (arith, length-tiles_of g, f.inside) in
    let done = finished_whole plan input g b.started b.finished planes after turns.order f.now.order n f.cells whole some lt running frames settles in
    let counted : AllByRecursion (HasCount m) after = all_counted after m (no_plane g) (λ k. frames.counts k ∙ whole.counts k) in
    let q-size : length q ≡ task_count p = length-cells after m counted ∙ ap (λ (c : ℕ). c * m) (frames.count ∙ size-p) ∙ ap (λ (c : ℕ). length plan * c) (sym (length-tiles_of g)) in
    let P : Schedule → Type 0 = λ c. IsFinished (underway_kept plan input g turns places) (underway plan input g c.started c.finished after f.now.order) (number_of p f.step f.tile) f.cells in
    record {
      whole = subst (λ (c : Schedule). IsWhole (underway plan input g c.started c.finished after f.now.order)) (sym f.board) done;
      boarded = subst (IsBoarded plan g) (sym f.board) (record { grid = boarded.grid; steps = boarded.steps; needs = boarded.needs });
      placed = subst (λ (c : Schedule). IsPlaced plan g c.started f.after) (sym f.board) (record {
        forms = λ k k-lt. subst (IsFormOf (is_sum (get_or plan k nothing_planned).step)) (sym (forms_after plan input g turns places f lt-places f.keep refl k)) (placed.forms k k-lt);
        opened = λ k t k-lt t-lt marked. subst (λ (j : ℕ). 1 ≤ j) (sym (forms_after plan input g turns places f lt-places f.keep refl k)) (placed.opened k t k-lt t-lt marked);
      });
      finished = subst P (sym f.board) (record {
        finished = ap (λ (k : ℕ). set b.finished k true) (sym number);
        started = refl;
        plan = refl;
        tiles = refl;
        width = refl;
        height = refl;
        input = refl;
        tiling = refl;
        lowered = lowered b.finished n (task_count p) lt whole.finished runs.1;
        placed = λ k found here. elim (kept_from p n f.cells q settles q-size k found here) [
          | inl own ↦ inl (own.0 ∙ sym number, own.1)
          | inr old ↦ inr old
        ];
      });
    }

-- the work after it
pub finish_all : (plan : Plan) (input : Level) (g : Tiling) (turns : Turns) (places : List StepPlane) (f : Finishing plan input g turns places) → IsWhole (underway_kept plan input g turns places)
    → IsBoarded plan g turns.board → IsTied turns.board → IsPlaced plan g turns.board.started places → After plan input g turns places f
finish_all plan input g turns places f whole boarded tied placed =
    let P : Tiling → Type 0 = λ t. (f : Finishing plan input t turns places) → IsWhole (underway_kept plan input t turns places) → IsBoarded plan t turns.board → IsPlaced plan t turns.board.started places → After plan input t turns places f in
    let Q : P g = subst P boarded.grid (λ h w o l. finish_here plan input turns places h w o tied l) in
    Q f whole boarded placed

-- a slice that was written whole
pub all_new : {A : Type 0} (n : ℕ) (now items : List A) → length now ≡ length items → n ≡ length items → take n (now ++ drop (length now) items) ≡ now
all_new n now items size e = ap (λ (xs : List _). take n (now ++ xs)) (drop_all (length now) items (omega arith)) ∙ ap (take n) (append-nil now) ∙ take_all n now (omega arith)
