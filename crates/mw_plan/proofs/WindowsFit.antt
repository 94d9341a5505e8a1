-- Steps that can be made of whole planes can be made of windows of them.
use Rattle.std.proofs.Common.{◌≡◌, ℕ, zero, suc, ◌≤◌, List, [], ◌∷◌, map, refl, sym, subst, ◌∙◌}
use Rattle.mw_model.specs.declared.offsets.Rect.{Rect}
use Rattle.mw_model.specs.Pictures.{Picture}
use Rattle.mw_model.specs.PlanSteps.{PlanStep, Erode, Dilate, ErodeBox, DilateBox, Rank, Minus, AtLeast, Invert, Meet, Join, Blank, Mark, MarkLast, Equal, Sum}
use Rattle.mw_model.specs.Tasks.{place_read}
use Rattle.mw_step_task.specs.mw_tile.Windows.{SourceWindow, window_of}
use Rattle.mw_step_task.specs.WindowTasks.{FitsStep, KindsFit, SameKind, window_at}
use Rattle.mw_step_task.specs.Sources.{AreCut}
use Rattle.mw_step_task.proofs.Cut.{fits_cut, top_agrees}
use Rattle.mw_plan.specs.PlansOf.{AreAlike, CanBeMade, KindsAllow, picture_at}

-- a window has the kind and the maxval of its image
kind_is : (place : Rect) (fs : List Picture) (k : ℕ) → (window_at (map (window_of place) fs) k).kind ≡ (picture_at fs k).kind
kind_is place [] k = refl
kind_is place (f ∷ fs) zero = refl
kind_is place (f ∷ fs) (suc k) = kind_is place fs k

SameKind-alike : (place : Rect) (fs : List Picture) → AreAlike (picture_at fs 0) (picture_at fs 1) → SameKind (window_at (map (window_of place) fs) 0) (window_at (map (window_of place) fs) 1)
SameKind-alike place fs h = (kind_is place fs 0 ∙ h.0 ∙ sym (kind_is place fs 1), top_agrees place fs 0 ∙ h.1 ∙ sym (top_agrees place fs 1))

maxval-level : (place : Rect) (fs : List Picture) (v : ℕ) → v ≤ (picture_at fs 0).maxval → v ≤ (window_at (map (window_of place) fs) 0).maxval
maxval-level place fs v = subst (λ (m : ℕ). v ≤ m) (sym (top_agrees place fs 0))

kinds_fit : (s : PlanStep) (place : Rect) (fs : List Picture) → KindsAllow s fs → KindsFit s (map (window_of place) fs)
kinds_fit (Erode e) place fs h = tt
kinds_fit (Dilate e) place fs h = tt
kinds_fit (ErodeBox b) place fs h = tt
kinds_fit (DilateBox b) place fs h = tt
kinds_fit (Rank e k) place fs h = tt
kinds_fit Minus place fs h = SameKind-alike place fs h
kinds_fit (AtLeast k) place fs h = tt
kinds_fit Invert place fs h = tt
kinds_fit Meet place fs h = SameKind-alike place fs h
kinds_fit Join place fs h = SameKind-alike place fs h
kinds_fit (Blank m) place fs h = h.0
kinds_fit (Mark v) place fs h = (maxval-level place fs v h.0, kind_is place fs 1 ∙ h.1, kind_is place fs 2 ∙ h.2)
kinds_fit (MarkLast v) place fs h = (maxval-level place fs v h.0, kind_is place fs 1 ∙ h.1)
kinds_fit (Equal v) place fs h = tt
kinds_fit Sum place fs h = tt

pub made_fits : (s : PlanStep) (sources : List Picture) (width height : ℕ) (tile : Rect) (windows : List SourceWindow) → AreCut s sources width height tile windows → width ≤ 8192 → height ≤ 8192 → 1 ≤ tile.width → 1 ≤ tile.height
    → CanBeMade s sources → FitsStep s tile windows
made_fits s sources width height tile windows cut narrow low wide high made =
    fits_cut s sources width height tile windows cut narrow low wide high made.count
    (subst (KindsFit s) (sym cut.cut) (kinds_fit s (place_read s width height tile) sources made.kinds))
