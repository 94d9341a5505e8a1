use Rattle.std.proofs.Common.{◌≡◌, ℕ, ◌+◌, Bool, true, false, not, ◌&&◌, nat_eq, sym, ap, subst, ◌∙◌}
use Rattle.mw_grid.specs.Counts.{in_range}
use Rattle.mw_tile_planes.specs.Tiles.{Tiled}
use Rattle.mw_core_planes.specs.StepPlanes.{is_read, Swept}
use Rattle.mw_core_planes.proofs.Rows.{row_skip, row_drop}
use Rattle.mw_core_planes.proofs.Swept.{swept-one, swept-same, swept-then}
use Rattle.mw_core_planes.proofs.dropping.drop_row.Goals as goal
use Rattle.mw_core_planes.proofs.dropping.drop_row.Goals.{then-not-is_read, else-not-is_read}

pub loop-tile-preserved : goal.loop-tile-preserved
loop-tile-preserved c =
    let a = c.args in
    let t = c.loop-tile.tile in
    let gone : ℕ → Bool = λ v. not (is_read a.ready.now.board a.step v) in
    elim c.if-not-is_read.branch [
      | then-not-is_read w ↦
          let goes : gone t ≡ true = ap not (sym c.is_read.ensures ∙ w.if-not-is_read.true) in
          subst (λ (p : Tiled). Swept (λ v. in_range a.from (t + 1) v && gone v) a.plane.now p) (sym w.plane-is)
          (swept-then (λ v. in_range a.from t v && gone v) (λ v. nat_eq v t) (λ v. in_range a.from (t + 1) v && gone v) a.plane.now c.loop-tile.plane w.drop_tile.new.self
          (λ v lt. row_drop a.from t v gone c.loop-tile.auto.tile goes) c.loop-tile.invariant
          (subst (λ (p : Tiled). Swept (λ v. nat_eq v t) c.loop-tile.plane p) (sym w.drop_tile.ensures) (swept-one c.loop-tile.plane t)))
      | else-not-is_read w ↦
          let stays : gone t ≡ false = ap not (sym c.is_read.ensures ∙ w.if-not-is_read.false) in
          subst (λ (p : Tiled). Swept (λ v. in_range a.from (t + 1) v && gone v) a.plane.now p) (sym w.plane-is)
          (swept-same (λ v. in_range a.from t v && gone v) (λ v. in_range a.from (t + 1) v && gone v) a.plane.now c.loop-tile.plane (λ v lt. row_skip a.from t v gone stays) c.loop-tile.invariant)
    ]
