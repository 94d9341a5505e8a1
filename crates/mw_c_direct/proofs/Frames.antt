-- Steps on whole frames.
use Rattle.std.proofs.Common.{◌≡◌, ℕ, ◌+◌, ◌-◌, true, false, List, [], ◌∷◌, map, Option, refl, ap, sym, arith, ◌∙◌, min, zero-add}
use Rattle.std.specs.Prelude.{slice_index_or, sum, if◌then◌else◌}
use Rattle.std.specs.List.{AllByRecursion}
use Rattle.mw_model.specs.declared.offsets.Rect.{Rect}
use Rattle.mw_model.specs.declared.offsets.Reach.{Reach}
use Rattle.mw_model.specs.declared.shapes.Kind.{Kind}
use Rattle.mw_model.specs.Rectangles.{rect, grown}
use Rattle.mw_model.specs.Elements.{reach_of}
use Rattle.mw_model.specs.Pictures.{Picture, picture}
use Rattle.mw_model.specs.PlanSteps.{PlanStep, looks_at, kind_of_step, maxval_of_step, step_at}
use Rattle.mw_model.specs.Plans.{Planned, Source, is_sum, no_picture, plane_of, sight_of}
use Rattle.mw_model.specs.Tasks.{made_of_planes, place_read}
use Rattle.mw_model.proofs.ImagePlaces.{drawn_same}
use Rattle.mw_tile.specs.Windows.{SourceWindow, window_of}
use Rattle.mw_step_task.specs.Sources.{HasFrame, AreCut}
use Rattle.mw_step_task.specs.WindowTasks.{WindowTask, FitsStep, made_of_windows, tile_made, window_at}
use Rattle.mw_step_task.proofs.Cut.{made_of_cut}
use Rattle.mw_plan.proofs.WindowsFit.{made_fits}
use Rattle.mw_c_direct.specs.Kept.{IsReady, IsWholeTask, plane_kept, sources_kept, whole_window}

-- ---- what a step reads for the whole frame is the whole frame

grown_whole : (m n : ℕ) (r : Reach) → grown m n r (rect 0 0 m n) ≡ rect 0 0 m n
grown_whole m n r =
    let x : 0 - r.left ≡ 0 = omega arith in
    let y : 0 - r.up ≡ 0 = omega arith in
    let w : min (0 + m + r.right) m - (0 - r.left) ≡ m = omega arith in
    let h : min (0 + n + r.down) n - (0 - r.up) ≡ n = omega arith in
    ap (λ (t : ℕ). rect t (0 - r.up) (min (0 + m + r.right) m - (0 - r.left)) (min (0 + n + r.down) n - (0 - r.up))) x
    ∙ ap (λ (t : ℕ). rect 0 t (min (0 + m + r.right) m - (0 - r.left)) (min (0 + n + r.down) n - (0 - r.up))) y
    ∙ ap (λ (t : ℕ). rect 0 0 t (min (0 + n + r.down) n - (0 - r.up))) w
    ∙ ap (λ (t : ℕ). rect 0 0 m t) h

read_whole : (s : PlanStep) (m n : ℕ) → place_read s m n (rect 0 0 m n) ≡ rect 0 0 m n
read_whole s m n = grown_whole m n (reach_of (looks_at s))

one_cut : (s : PlanStep) (m n : ℕ) (f : Picture) → HasFrame m n f → whole_window f ≡ window_of (place_read s m n (rect 0 0 m n)) f
one_cut s m n f frame =
    ap (λ (w : ℕ). window_of (rect 0 0 w f.height) f) frame.width
    ∙ ap (λ (h : ℕ). window_of (rect 0 0 m h) f) frame.height
    ∙ ap (λ (r : Rect). window_of r f) (sym (read_whole s m n))

all_cut : (s : PlanStep) (m n : ℕ) (image : Picture) (planes : List (Option Picture)) (ss : List Source) → AllByRecursion (HasFrame m n) (map (plane_kept image planes) ss)
    → map (λ x. whole_window (plane_kept image planes x)) ss ≡ map (window_of (place_read s m n (rect 0 0 m n))) (map (plane_kept image planes) ss)
all_cut s m n image planes [] frames = refl
all_cut s m n image planes (x ∷ ss) frames =
    ap (λ (w : SourceWindow). w ∷ map (λ y. whole_window (plane_kept image planes y)) ss) (one_cut s m n (plane_kept image planes x) frames.0)
    ∙ ap (λ (ws : List SourceWindow). window_of (place_read s m n (rect 0 0 m n)) (plane_kept image planes x) ∷ ws) (all_cut s m n image planes ss frames.1)

are_cut : (image : Picture) (planes : List (Option Picture)) (p : Planned) (ws : List SourceWindow) → IsReady image planes p → ws ≡ map (λ x. whole_window (plane_kept image planes x)) p.sources
    → AreCut p.step (sources_kept image planes p) image.width image.height (rect 0 0 image.width image.height) ws
are_cut image planes p ws ready is = record {
  frames = ready.frames;
  within = record { across = omega arith; down = omega arith };
  cut = is ∙ all_cut p.step image.width image.height image planes p.sources ready.frames;
}

pub frame_fits : (image : Picture) (planes : List (Option Picture)) (p : Planned) (ws : List SourceWindow) → IsReady image planes p → ws ≡ map (λ x. whole_window (plane_kept image planes x)) p.sources
    → FitsStep p.step (rect 0 0 image.width image.height) ws
frame_fits image planes p ws ready is =
    made_fits p.step (sources_kept image planes p) image.width image.height (rect 0 0 image.width image.height) ws (are_cut image planes p ws ready is) ready.narrow ready.low ready.wide ready.high ready.can

-- ---- what a step makes in the whole frame

-- its values there are its plane's samples
whole_cells : (s : PlanStep) (fs : List Picture) (m n : ℕ) → made_of_planes s fs (rect 0 0 m n) ≡ (if is_sum s then sum (plane_of s fs m n).samples ∷ [] else (plane_of s fs m n).samples)
whole_cells s fs m n =
    let first = slice_index_or fs 0 no_picture in
    let value : ℕ → ℕ → ℕ = step_at s first.maxval (sight_of fs 0) (sight_of fs 1) (sight_of fs 2) in
    ap (λ (f : Picture). if is_sum s then sum f.samples ∷ [] else f.samples)
    (drawn_same (kind_of_step s first.kind) m n (maxval_of_step s first.maxval) (λ x y. value (0 + x) (0 + y)) value (λ x y p q. rw (zero-add x, zero-add y) refl))

done_cut : (image : Picture) (planes : List (Option Picture)) (p : Planned) (t : WindowTask) → IsReady image planes p → IsWholeTask image planes p t
    → made_of_windows t.step t.windows t.rect ≡ made_of_planes p.step (sources_kept image planes p) (rect 0 0 image.width image.height)
done_cut image planes p t ready done =
    ap (λ (x : PlanStep). made_of_windows x t.windows t.rect) done.step
    ∙ ap (λ (r : Rect). made_of_windows p.step t.windows r) done.place
    ∙ made_of_cut p.step (sources_kept image planes p) image.width image.height (rect 0 0 image.width image.height) t.windows (are_cut image planes p t.windows ready done.windows)

only_same : (a b : ℕ) → a ∷ [] ≡ b ∷ [] → b ≡ a
only_same a b e = cc

-- of a Sum step the sum of its plane
pub number_is : (image : Picture) (planes : List (Option Picture)) (p : Planned) (t : WindowTask) (n : ℕ) → IsReady image planes p → IsWholeTask image planes p t → is_sum p.step ≡ true
    → made_of_windows t.step t.windows t.rect ≡ n ∷ [] → n ≡ sum (plane_of p.step (sources_kept image planes p) image.width image.height).samples
number_is image planes p t n ready done sums is =
    let f = plane_of p.step (sources_kept image planes p) image.width image.height in
    let cells : made_of_windows t.step t.windows t.rect ≡ sum f.samples ∷ [] = done_cut image planes p t ready done ∙ whole_cells p.step (sources_kept image planes p) image.width image.height ∙ rw sums refl in
    only_same (sum f.samples) n (sym cells ∙ is)

first_kind : (place : Rect) (fs : List Picture) → (window_at (map (window_of place) fs) 0).kind ≡ (slice_index_or fs 0 no_picture).kind
first_kind place [] = refl
first_kind place (f ∷ fs) = refl

first_maxval : (place : Rect) (fs : List Picture) → (window_at (map (window_of place) fs) 0).maxval ≡ (slice_index_or fs 0 no_picture).maxval
first_maxval place [] = refl
first_maxval place (f ∷ fs) = refl

-- of each other step its plane
pub plane_is_made : (image : Picture) (planes : List (Option Picture)) (p : Planned) (t : WindowTask) → IsReady image planes p → IsWholeTask image planes p t → is_sum p.step ≡ false
    → tile_made t ≡ plane_of p.step (sources_kept image planes p) image.width image.height
plane_is_made image planes p t ready done unsummed =
    let fs = sources_kept image planes p in
    let m = image.width in
    let n = image.height in
    let place = place_read p.step m n (rect 0 0 m n) in
    let cut = are_cut image planes p t.windows ready done.windows in
    let samples : made_of_windows t.step t.windows t.rect ≡ (plane_of p.step fs m n).samples = done_cut image planes p t ready done ∙ whole_cells p.step fs m n ∙ rw unsummed refl in
    let kind : (window_at t.windows 0).kind ≡ (slice_index_or fs 0 no_picture).kind = ap (λ (ws : List SourceWindow). (window_at ws 0).kind) cut.cut ∙ first_kind place fs in
    let top : (window_at t.windows 0).maxval ≡ (slice_index_or fs 0 no_picture).maxval = ap (λ (ws : List SourceWindow). (window_at ws 0).maxval) cut.cut ∙ first_maxval place fs in
    ap (λ (ns : List ℕ). picture (kind_of_step t.step (window_at t.windows 0).kind) t.rect.width t.rect.height (maxval_of_step t.step (window_at t.windows 0).maxval) ns) samples
    ∙ ap (λ (x : PlanStep). picture (kind_of_step x (window_at t.windows 0).kind) t.rect.width t.rect.height (maxval_of_step x (window_at t.windows 0).maxval) (plane_of p.step fs m n).samples) done.step
    ∙ ap (λ (r : Rect). picture (kind_of_step p.step (window_at t.windows 0).kind) r.width r.height (maxval_of_step p.step (window_at t.windows 0).maxval) (plane_of p.step fs m n).samples) done.place
    ∙ ap (λ (k : Kind). picture (kind_of_step p.step k) m n (maxval_of_step p.step (window_at t.windows 0).maxval) (plane_of p.step fs m n).samples) kind
    ∙ ap (λ (x : ℕ). picture (kind_of_step p.step (slice_index_or fs 0 no_picture).kind) m n (maxval_of_step p.step x) (plane_of p.step fs m n).samples) top
