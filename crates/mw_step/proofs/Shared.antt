-- Sources that a step makes again.
use Rattle.std.proofs.Common.{◌≡◌, ℕ, ◌-◌, get_or, Bool, true, false, refl, ap, sym, subst, arith, ◌∙◌}
use Rattle.std.specs.Prelude.{◌==◌, ◌&&◌, if◌then◌else◌}
use lib.Lanes.{zip2}
use Rattle.std.proofs.lemmas.Bool.{eqb-true, and_parts}
use Rattle.std.proofs.lemmas.Simd.{get_or-zip2, length-zip2}
use Rattle.mw_model.specs.declared.offsets.Rect.{Rect}
use Rattle.mw_model.specs.declared.shapes.Kind.{Kind}
use Rattle.mw_model.specs.Rasters.{Raster, raster}
use Rattle.mw_model.specs.Windows.{View}
use Rattle.mw_model.specs.Pictures.{picture}
use Rattle.mw_step_task.specs.mw_tile.Windows.{SourceWindow}
use Rattle.mw_step_task.specs.mw_tile.Cuts.{view_of}
use Rattle.mw_rank_bits.specs.mw_bits.Uniform.{HasOnly}
use Rattle.mw_step_task.specs.mw_tile_pieces.Patches.{Joint, IsJoint, IsJoined, IsWholeOf}
use Rattle.mw_step_task.specs.mw_tile_pieces.Shared.{level_in, source_joint}
use Rattle.mw_step_task.proofs.mw_tile_pieces.TileCells.{length-cells_in}
use Rattle.mw_step_task.proofs.mw_tile_pieces.Windows.{joined_is}
use Rattle.mw_step_task.specs.Products.{both_drawn, three_drawn, plane_drawn}
use Rattle.mw_step.proofs.PlaceByPlace.{Fills, three_held}

-- the cells of a window in pieces fill its place
pub joint_size : (s : SourceWindow) (kind : Kind) (maxval : ℕ) (j : Joint ℕ) → s ≡ source_joint kind maxval j → Fills s.view.place s.view
joint_size s kind maxval j is = subst (λ (t : SourceWindow). Fills t.view.place t.view) (sym is) (length-cells_in j.place (level_in j))

-- a plane that is the window of a source is the image of that window
pub whole_is : (s : SourceWindow) (kind : Kind) (maxval : ℕ) (j : Joint ℕ) (p : Raster ℕ) → s ≡ source_joint kind maxval j → IsJoint j → IsWholeOf j p → plane_drawn s.kind s.maxval s.view.place s.view.cells ≡ picture kind p.width p.height maxval p.cells
whole_is s kind maxval j p is joint whole =
    let w = view_of j.frame_width j.frame_height j.place p.cells in
    let joined : IsJoined j w = record { frame_width = refl; frame_height = refl; place = refl; values = whole.values } in
    ap (λ (t : SourceWindow). plane_drawn t.kind t.maxval t.view.place t.view.cells) (is ∙ sym (joined_is kind maxval j w joint joined))
    ∙ ap (λ (t : ℕ). picture kind t j.place.height maxval p.cells) (sym whole.width)
    ∙ ap (λ (t : ℕ). picture kind p.width t maxval p.cells) (sym whole.height)

-- a level that goes nowhere
kept : (b : Bool) (v s : ℕ) → (b ≡ true → ⊥) → s ≡ (if b then v else s)
kept true v s not = absurd (not refl)
kept false v s not = refl

-- where no place is of the set, marking changes nothing
unmarked_last : (kind : Kind) (maxval v : ℕ) (a b : View ℕ) → a.place ≡ b.place → Fills a.place a → Fills b.place b → HasOnly 0 b.cells
    → plane_drawn kind maxval a.place a.cells ≡ both_drawn kind maxval (λ s m. if m == 1 then v else s) a b
unmarked_last kind maxval v a b place a-size b-size none =
    let size : Fills a.place b = subst (λ (r : Rect). Fills r b) (sym place) b-size in
    sym (three_held kind maxval (λ s m _. if m == 1 then v else s) a b b (raster a.place.width a.place.height a.cells) (record { width = refl; height = refl }) place place a-size size size a-size
    (λ k lt. kept (get_or b.cells k 0 == 1) v (get_or a.cells k 0)
    (λ yes. let one = eqb-true (get_or b.cells k 0) 1 yes in
    let zero = none k (omega (arith, size, lt)) in
    omega (arith, one, zero))))

-- nor where none is of the first set alone
unmarked : (kind : Kind) (maxval v : ℕ) (a b c : View ℕ) → a.place ≡ b.place → b.place ≡ c.place → Fills a.place a → Fills b.place b → Fills b.place c → HasOnly 0 (zip2 (λ (m n : ℕ). m - n) b.cells c.cells)
    → plane_drawn kind maxval a.place a.cells ≡ three_drawn kind maxval (λ s m n. if m == 1 && n == 0 then v else s) a b c
unmarked kind maxval v a b c place other_place a-size b-size c-size none =
    let first : Fills a.place b = subst (λ (r : Rect). Fills r b) (sym place) b-size in
    let second : Fills a.place c = subst (λ (r : Rect). Fills r c) (sym place) c-size in
    let less : ℕ → ℕ → ℕ = λ m n. m - n in
    sym (three_held kind maxval (λ s m n. if m == 1 && n == 0 then v else s) a b c (raster a.place.width a.place.height a.cells) (record { width = refl; height = refl }) place (place ∙ other_place) a-size first second a-size
    (λ k lt. kept (get_or b.cells k 0 == 1 && get_or c.cells k 0 == 0) v (get_or a.cells k 0)
    (λ yes.
    let both = and_parts (get_or b.cells k 0 == 1) (get_or c.cells k 0 == 0) yes in
    let one = eqb-true (get_or b.cells k 0) 1 both.0 in
    let zero = eqb-true (get_or c.cells k 0) 0 both.1 in
    let rest : get_or b.cells k 0 - get_or c.cells k 0 ≡ 0 = sym (get_or-zip2 less b.cells c.cells k 0 0 0 (omega (arith, first, lt)) (omega (arith, second, lt))) ∙ none k (omega (arith, length-zip2 less b.cells c.cells (first ∙ sym second), first, lt)) in
    omega (arith, one, zero, rest))))

-- the last marks keep the first source, where the windows are given by equations
pub kept_last : (w u : SourceWindow) (v : ℕ) (b s : View ℕ) → w ≡ u → s ≡ b → u.view.place ≡ b.place → Fills w.view.place w.view → Fills s.place s → HasOnly 0 s.cells
    → plane_drawn w.kind w.maxval w.view.place w.view.cells ≡ both_drawn u.kind u.maxval (λ s m. if m == 1 then v else s) u.view b
kept_last w u v b s w-is s-is place w-size s-size none =
    let mark : ℕ → ℕ → ℕ = λ s m. if m == 1 then v else s in
    subst (λ (t : SourceWindow). plane_drawn w.kind w.maxval w.view.place w.view.cells ≡ both_drawn t.kind t.maxval mark t.view b) w-is
    (unmarked_last w.kind w.maxval v w.view b (ap (λ (t : SourceWindow). t.view.place) w-is ∙ place) w-size (subst (λ (t : View ℕ). Fills t.place t) s-is s-size) (subst (λ (t : View ℕ). HasOnly 0 t.cells) s-is none))

pub kept_marked : (w u : SourceWindow) (v : ℕ) (b c s t : View ℕ) → w ≡ u → s ≡ b → t ≡ c → u.view.place ≡ b.place → b.place ≡ c.place → Fills w.view.place w.view → Fills s.place s → Fills s.place t → HasOnly 0 (zip2 (λ (m n : ℕ). m - n) s.cells t.cells)
    → plane_drawn w.kind w.maxval w.view.place w.view.cells ≡ three_drawn u.kind u.maxval (λ s m n. if m == 1 && n == 0 then v else s) u.view b c
kept_marked w u v b c s t w-is s-is t-is place other_place w-size s-size t-size none =
    let less : ℕ → ℕ → ℕ = λ m n. m - n in
    let mark : ℕ → ℕ → ℕ → ℕ = λ s m n. if m == 1 && n == 0 then v else s in
    subst (λ (x : SourceWindow). plane_drawn w.kind w.maxval w.view.place w.view.cells ≡ three_drawn x.kind x.maxval mark x.view b c) w-is
    (unmarked w.kind w.maxval v w.view b c (ap (λ (x : SourceWindow). x.view.place) w-is ∙ place) other_place w-size (subst (λ (x : View ℕ). Fills x.place x) s-is s-size)
    (subst (λ (x : View ℕ). Fills x.place c) s-is (subst (λ (x : View ℕ). Fills s.place x) t-is t-size))
    (subst (λ (x : View ℕ). HasOnly 0 (zip2 less x.cells c.cells)) s-is (subst (λ (x : View ℕ). HasOnly 0 (zip2 less s.cells x.cells)) t-is none)))
