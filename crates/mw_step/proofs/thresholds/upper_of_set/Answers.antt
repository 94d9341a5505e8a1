use Rattle.std.proofs.Common.{ℕ, ◌*◌, max, map, replicate, sym, refl, ap, arith, ◌∙◌}
use Rattle.std.specs.Prelude.{nat_le, if◌then◌else◌}
use Rattle.mw_model.specs.declared.offsets.Rect.{Rect}
use Rattle.mw_model.specs.Rasters.{Raster}
use Rattle.mw_step.proofs.Levels.{each_level, one_level, lower_level, with_itself}
use Rattle.mw_step.proofs.thresholds.upper_of_set.Goals as goal

pub returns-then-k-eq0-clause-cells : goal.returns-then-k-eq0-clause-cells
returns-then-k-eq0-clause-cells c =
    let set = c.args.set.now in
    ap (λ (r : Raster ℕ). r.cells) c.in_ok-filled.ensures.value
    ∙ ap (λ (r : Rect). replicate (r.height * r.width) 1) c.place-place.ensures.value
    ∙ one_level (λ (s : ℕ). if nat_le 0 s then 1 else 0) 1 (set.place.height * set.place.width) set.cells c.is_sound.ensures.small c.is_sound.ensures.size refl refl
    ∙ ap (λ (k : ℕ). map (λ (s : ℕ). if nat_le k s then 1 else 0) set.cells) (sym c.if-k-eq0.true)

pub returns-then-k-eq1-clause-cells : goal.returns-then-k-eq1-clause-cells
returns-then-k-eq1-clause-cells c =
    let set = c.args.set.now in
    c.in_ok-join.ensures.cells
    ∙ with_itself max set.cells
    ∙ each_level (λ (n : ℕ). max n n) (λ (s : ℕ). if nat_le 1 s then 1 else 0) set.cells c.is_sound.ensures.small refl refl
    ∙ ap (λ (k : ℕ). map (λ (s : ℕ). if nat_le k s then 1 else 0) set.cells) (sym c.if-k-eq1.true)

pub returns-clause-cells : goal.returns-clause-cells
returns-clause-cells c =
    let set = c.args.set.now in
    let k = c.args.k in
    ap (λ (r : Raster ℕ). r.cells) c.in_ok-filled-2.ensures.value
    ∙ ap (λ (r : Rect). replicate (r.height * r.width) c.new.result) c.place-place.ensures.value
    ∙ ap (λ (n : ℕ). replicate (set.place.height * set.place.width) n) c.new.ensures
    ∙ one_level (λ (s : ℕ). if nat_le k s then 1 else 0) 0 (set.place.height * set.place.width) set.cells c.is_sound.ensures.small c.is_sound.ensures.size (lower_level k 0 (omega arith)) (lower_level k 1 (omega arith))
