-- What steps make of a strip is what their planes have there.
use Rattle.std.proofs.Common.{◌≡◌, ℕ, ◌+◌, ◌-◌, ◌<◌, ◌≤◌, Bool, false, List, [], ◌∷◌, min, refl, ap, sym, subst, arith, ◌∙◌, zero-add}
use Rattle.std.specs.Prelude.{sum, if◌then◌else◌, slice_index_or}
use Rattle.mw_model.specs.declared.limits.TheConstants.{SIDE_LIMIT}
use Rattle.mw_model.specs.declared.offsets.Rect.{Rect}
use Rattle.mw_model.specs.declared.offsets.Reach.{Reach}
use Rattle.mw_model.specs.Elements.{reach_of}
use Rattle.mw_model.specs.Flat.{minus}
use Rattle.mw_model.specs.Laws.{SameShape}
use Rattle.mw_model.specs.Pictures.{IsImage, Picture, picture, sample, sample_at}
use Rattle.mw_model.specs.Rectangles.{IsWithin, grown, rect}
use Rattle.mw_model.specs.PlanSteps.{Minus, PlanStep, here, kind_of_step, looks_at, maxval_of_step, step_at}
use Rattle.mw_model.specs.Plans.{is_sum, no_picture, plane_of, sight_of}
use Rattle.mw_model.specs.Tasks.{cells_in, made_of_planes, place_read}
use Rattle.mw_model.proofs.ImagePlaces.{drawn_same, sample-drawn, sample-redrawn}
use Rattle.mw_tile_pieces.proofs.TileCells.{cells_in_at, cells_in_same}
use Rattle.mw_tile.specs.Windows.{SourceWindow, window_of}
use Rattle.mw_step_task.specs.Sources.{AreCut}
use Rattle.mw_step_task.specs.WindowTasks.{FitsStep, KindsFit, WindowTask, source_count, tile_made}
use Rattle.mw_step_task.proofs.Cut.{fits_cut, here_sample, made_of_cut}
use Rattle.mw_c_lent.specs.declared.rules.Rule.{Rule}
use Rattle.mw_c_lent.specs.declared.rules.Rule.TheVariants as rules
use Rattle.mw_c_layers.specs.Layers.{rule_picture, step_of}
use Rattle.mw_c_layers.specs.Parts.{IsStrip, made_picture, part_of}

-- ---- places

pub strip_inside : (r : Rect) (f : Picture) → IsStrip r f → IsWithin r f.width f.height
strip_inside r f strip =
    let left = strip.left in
    let wide = strip.wide in
    let low = strip.low in
    record { across = omega arith; down = omega arith }

grown_whole : (m n : ℕ) (r : Reach) → grown m n r (rect 0 0 m n) ≡ rect 0 0 m n
grown_whole m n r =
    let x : 0 - r.left ≡ 0 = omega arith in
    let y : 0 - r.up ≡ 0 = omega arith in
    let w : min (0 + m + r.right) m - 0 ≡ m = omega arith in
    let h : min (0 + n + r.down) n - 0 ≡ n = omega arith in
    rw (x, y, w, h) refl

-- ---- one source

pub one_cut : (s : PlanStep) (f : Picture) (r : Rect) (ws : List SourceWindow) → IsStrip r f → ws ≡ window_of (place_read s f.width f.height r) f ∷ [] → AreCut s (f ∷ []) f.width f.height r ws
one_cut s f r ws strip is = record {
  frames = (record { width = refl; height = refl }, tt);
  within = strip_inside r f strip;
  cut = is;
}

made_unsummed : (s : PlanStep) (fs : List Picture) (m n : ℕ) (r : Rect) → is_sum s ≡ false → IsWithin r m n → made_of_planes s fs r ≡ cells_in r (sample (plane_of s fs m n))
made_unsummed s fs m n r unsummed within =
    let first = slice_index_or fs 0 no_picture in
    let value : ℕ → ℕ → ℕ = step_at s first.maxval (sight_of fs 0) (sight_of fs 1) (sight_of fs 2) in
    let across = within.across in
    let down = within.down in
    ap (λ (b : Bool). if b then sum (cells_in r value) ∷ [] else cells_in r value) unsummed
    ∙ cells_in_same r value (sample (plane_of s fs m n)) (λ i j left top. sym (sample-drawn (kind_of_step s first.kind) m n (maxval_of_step s first.maxval) value (r.x + i) (r.y + j) (omega arith) (omega arith)))

pub one_made : (s : PlanStep) (f : Picture) (r : Rect) (ws : List SourceWindow) → is_sum s ≡ false → IsStrip r f → ws ≡ window_of (place_read s f.width f.height r) f ∷ [] → made_picture s ws r ≡ part_of (plane_of s (f ∷ []) f.width f.height) r
one_made s f r ws unsummed strip is =
    ap (λ (vs : List SourceWindow). made_picture s vs r) is
    ∙ ap (λ (ns : List ℕ). picture (kind_of_step s f.kind) r.width r.height (maxval_of_step s f.maxval) ns)
    (made_of_cut s (f ∷ []) f.width f.height r own (one_cut s f r own strip refl) ∙ made_unsummed s (f ∷ []) f.width f.height r unsummed (strip_inside r f strip))
  where
    own : List SourceWindow
    own = window_of (place_read s f.width f.height r) f ∷ []

-- ---- two images of one frame

two_cut : (a b : Picture) (r : Rect) (ws : List SourceWindow) → SameShape b a → r ≡ rect 0 0 a.width a.height → ws ≡ window_of r a ∷ window_of r b ∷ [] → AreCut Minus (a ∷ b ∷ []) a.width a.height r ws
two_cut a b r ws alike whole is = record {
  frames = (record { width = refl; height = refl }, (record { width = alike.width; height = alike.height }, tt));
  within = subst (λ (t : Rect). IsWithin t a.width a.height) (sym whole) (record { across = omega arith; down = omega arith });
  cut = is ∙ ap (λ (t : Rect). window_of t a ∷ window_of t b ∷ []) (whole ∙ sym (grown_whole a.width a.height (reach_of (looks_at Minus))) ∙ ap (λ (t : Rect). place_read Minus a.width a.height t) (sym whole));
}

pub two_fit : (a b : Picture) (r : Rect) (ws : List SourceWindow) → SameShape b a → r ≡ rect 0 0 a.width a.height → ws ≡ window_of r a ∷ window_of r b ∷ [] → (1 ≤ a.width) × (a.width ≤ SIDE_LIMIT) → (1 ≤ a.height) × (a.height ≤ SIDE_LIMIT) → FitsStep Minus r ws
two_fit a b r ws alike whole is wide high =
    let across : r.width ≡ a.width = ap (λ (t : Rect). t.width) whole in
    let down : r.height ≡ a.height = ap (λ (t : Rect). t.height) whole in
    fits_cut Minus (a ∷ b ∷ []) a.width a.height r ws (two_cut a b r ws alike whole is) wide.1 high.1 (omega (arith, wide.0)) (omega (arith, high.0)) refl (subst (λ (vs : List SourceWindow). KindsFit Minus vs) (sym is) (sym alike.kind, sym alike.maxval))

pub two_made : (a b : Picture) (r : Rect) (ws : List SourceWindow) → SameShape b a → r ≡ rect 0 0 a.width a.height → ws ≡ window_of r a ∷ window_of r b ∷ [] → made_picture Minus ws r ≡ minus a b
two_made a b r ws alike whole is =
    let m = a.width in
    let n = a.height in
    let frame = rect 0 0 m n in
    let value : ℕ → ℕ → ℕ = λ x y. here (sample_at a) x y - here (sample_at b) x y in
    let own = window_of frame a ∷ window_of frame b ∷ [] in
    let are : ws ≡ own = is ∙ ap (λ (t : Rect). window_of t a ∷ window_of t b ∷ []) whole in
    ap (λ (t : Rect). made_picture Minus ws t) whole
    ∙ ap (λ (vs : List SourceWindow). made_picture Minus vs frame) are
    ∙ ap (λ (ns : List ℕ). picture a.kind m n a.maxval ns) (made_of_cut Minus (a ∷ b ∷ []) m n frame own (two_cut a b frame own alike refl refl))
    ∙ drawn_same a.kind m n a.maxval (λ x y. value (0 + x) (0 + y)) (λ x y. sample a x y - sample b x y) (λ x y across down. each x y across down)
  where
    each : (x y : ℕ) → x < a.width → y < a.height → here (sample_at a) (0 + x) (0 + y) - here (sample_at b) (0 + x) (0 + y) ≡ sample a x y - sample b x y
    each x y across down =
        let wide = alike.width in
        let high = alike.height in
        ap (λ (t : ℕ). here (sample_at a) t (0 + y) - here (sample_at b) t (0 + y)) (zero-add x)
        ∙ ap (λ (t : ℕ). here (sample_at a) x t - here (sample_at b) x t) (zero-add y)
        ∙ ap (λ (t : ℕ). t - here (sample_at b) x y) (here_sample a x y across down)
        ∙ ap (λ (t : ℕ). sample a x y - t) (here_sample b x y (omega arith) (omega arith))

-- the part of a difference is the difference of the parts
pub part_minus : (a b p q : Picture) (r : Rect) → SameShape b a → IsStrip r a → p ≡ part_of a r → q ≡ part_of b r → minus p q ≡ part_of (minus a b) r
part_minus a b p q r alike strip first second =
    ap (λ (f : Picture). minus f q) first
    ∙ ap (λ (g : Picture). minus (part_of a r) g) second
    ∙ drawn_same a.kind r.width r.height a.maxval (λ x y. sample (part_of a r) x y - sample (part_of b r) x y) (λ x y. sample (minus a b) (r.x + x) (r.y + y)) (λ x y across down. each x y across down)
  where
    within : IsWithin r a.width a.height
    within = strip_inside r a strip

    each : (x y : ℕ) → x < r.width → y < r.height → sample (part_of a r) x y - sample (part_of b r) x y ≡ sample (minus a b) (r.x + x) (r.y + y)
    each x y across down =
        let over = within.across in
        let low = within.down in
        ap (λ (t : ℕ). t - sample (part_of b r) x y) (cells_in_at r (sample a) x y across down)
        ∙ ap (λ (t : ℕ). sample a (r.x + x) (r.y + y) - t) (cells_in_at r (sample b) x y across down)
        ∙ sym (sample-redrawn a (λ u v. sample a u v - sample b u v) (r.x + x) (r.y + y) (omega arith) (omega arith))

-- ---- rules

rule_unsummed : (rule : Rule) → is_sum (step_of rule) ≡ false
rule_unsummed (rules.Least e) = refl
rule_unsummed (rules.Greatest e) = refl
rule_unsummed (rules.LeastBox b) = refl
rule_unsummed (rules.GreatestBox b) = refl
rule_unsummed (rules.Nth e k) = refl
rule_unsummed (rules.AtLeast k) = refl

rule_sources : (rule : Rule) → 1 ≡ source_count (step_of rule)
rule_sources (rules.Least e) = refl
rule_sources (rules.Greatest e) = refl
rule_sources (rules.LeastBox b) = refl
rule_sources (rules.GreatestBox b) = refl
rule_sources (rules.Nth e k) = refl
rule_sources (rules.AtLeast k) = refl

rule_kinds : (rule : Rule) (ws : List SourceWindow) → KindsFit (step_of rule) ws
rule_kinds (rules.Least e) ws = tt
rule_kinds (rules.Greatest e) ws = tt
rule_kinds (rules.LeastBox b) ws = tt
rule_kinds (rules.GreatestBox b) ws = tt
rule_kinds (rules.Nth e k) ws = tt
rule_kinds (rules.AtLeast k) ws = tt

pub unsummed_step : (rule : Rule) (s : PlanStep) → s ≡ step_of rule → is_sum s ≡ false
unsummed_step rule s is = ap is_sum is ∙ rule_unsummed rule

pub place_is : (s : PlanStep) (f : Picture) (r place : Rect) (reach : Reach) (m n : ℕ) → m ≡ f.width → n ≡ f.height → reach ≡ reach_of (looks_at s) → place ≡ grown m n reach r → place ≡ place_read s f.width f.height r
place_is s f r place reach m n wide high reaches is =
    is ∙ ap (λ (t : ℕ). grown t n reach r) wide ∙ ap (λ (t : ℕ). grown f.width t reach r) high ∙ ap (λ (t : Reach). grown f.width f.height t r) reaches

pub rule_fits : (rule : Rule) (s : PlanStep) (f : Picture) (r : Rect) (ws : List SourceWindow) → s ≡ step_of rule → IsImage f → IsStrip r f → ws ≡ window_of (place_read s f.width f.height r) f ∷ [] → FitsStep s r ws
rule_fits rule s f r ws step image strip is =
    let wide = strip.wide in
    fits_cut s (f ∷ []) f.width f.height r ws (one_cut s f r ws strip is) image.width.1 image.height.1 (omega (arith, image.width.0, wide)) strip.some
    (rule_sources rule ∙ ap source_count (sym step)) (subst (λ (t : PlanStep). KindsFit t ws) (sym step) (rule_kinds rule ws))

pub rule_made : (rule : Rule) (s : PlanStep) (f : Picture) (r : Rect) (ws : List SourceWindow) → s ≡ step_of rule → IsStrip r f → ws ≡ window_of (place_read s f.width f.height r) f ∷ [] → made_picture s ws r ≡ part_of (rule_picture rule f) r
rule_made rule s f r ws step strip is =
    one_made s f r ws (unsummed_step rule s step) strip is ∙ ap (λ (t : PlanStep). part_of (plane_of t (f ∷ []) f.width f.height) r) step

-- ---- tasks that are done

pub tile_is : (t : WindowTask) (s : PlanStep) (ws : List SourceWindow) (r : Rect) → t.step ≡ s → t.rect ≡ r → t.windows ≡ ws → tile_made t ≡ made_picture s ws r
tile_is t s ws r step place windows =
    ap (λ (x : PlanStep). made_picture x t.windows t.rect) step ∙ ap (λ (x : Rect). made_picture s t.windows x) place ∙ ap (λ (x : List SourceWindow). made_picture s x r) windows
