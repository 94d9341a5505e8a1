use Rattle.std.proofs.Common.{ℕ, ◌-◌, ◌*◌, max, map, replicate, sym, refl, ap, arith, ◌∙◌}
use Rattle.std.specs.Prelude.{◌==◌, if◌then◌else◌}
use Rattle.mw_model.specs.declared.offsets.Rect.{Rect}
use Rattle.mw_model.specs.Rasters.{Raster}
use Rattle.mw_step.proofs.Levels.{each_level, one_level, other_level, with_itself}
use Rattle.mw_step.proofs.thresholds.level_of_set.Goals as goal

pub returns-then-v-eq0-clause-cells : goal.returns-then-v-eq0-clause-cells
returns-then-v-eq0-clause-cells c =
    c.in_ok-invert.ensures.cells
    ∙ each_level (λ (n : ℕ). 1 - n) (λ (s : ℕ). if s == 0 then 1 else 0) c.args.set.now.cells c.is_sound.ensures.small refl refl
    ∙ ap (λ (v : ℕ). map (λ (s : ℕ). if s == v then 1 else 0) c.args.set.now.cells) (sym c.if-v-eq0.true)

pub returns-then-v-eq1-clause-cells : goal.returns-then-v-eq1-clause-cells
returns-then-v-eq1-clause-cells c =
    c.in_ok-join.ensures.cells
    ∙ with_itself max c.args.set.now.cells
    ∙ each_level (λ (n : ℕ). max n n) (λ (s : ℕ). if s == 1 then 1 else 0) c.args.set.now.cells c.is_sound.ensures.small refl refl
    ∙ ap (λ (v : ℕ). map (λ (s : ℕ). if s == v then 1 else 0) c.args.set.now.cells) (sym c.if-v-eq1.true)

pub returns-clause-cells : goal.returns-clause-cells
returns-clause-cells c =
    let set = c.args.set.now in
    let v = c.args.v in
    ap (λ (r : Raster ℕ). r.cells) c.in_ok-filled.ensures.value
    ∙ ap (λ (r : Rect). replicate (r.height * r.width) c.new.result) c.place-place.ensures.value
    ∙ ap (λ (n : ℕ). replicate (set.place.height * set.place.width) n) c.new.ensures
    ∙ one_level (λ (s : ℕ). if s == v then 1 else 0) 0 (set.place.height * set.place.width) set.cells c.is_sound.ensures.small c.is_sound.ensures.size (other_level v 0 (omega arith)) (other_level v 1 (omega arith))
