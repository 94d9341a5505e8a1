use Rattle.std.proofs.Common.{ap, arith, sym, subst, ◌∙◌}
use Rattle.mw_tile_slots.specs.Rows.{AreCutFrom, TileCells}
use Rattle.mw_tile_slots.specs.Tiles.{cells_of}
use Rattle.mw_tile_slots.proofs.ReadRows.{row_is}
use Rattle.mw_tile_slots.proofs.tiled_rows.TiledRows.read.Goals as goal

pub copy_row-requires : goal.copy_row-requires
copy_row-requires g c = record {
  sides = c.self.invariant.0;
  down = omega (arith, ap (λ (t : TileCells _). t.tiling.height) c.self.view_is);
  placed = λ k le lt i within holds. c.self.invariant.1 i within;
  width = omega (arith, c.requires.width, ap (λ (t : TileCells _). t.tiling.width) c.self.view_is);
  height = c.requires.height;
}

pub returns-clause-value : goal.returns-clause-value
returns-clause-value g c = λ f cut.
    let t : TileCells _ = record { tiling = c.self.inside.grid; tiles = cells_of c.self.inside.tiles.now } in
    row_is t f c.args.y c.copy_row.new.out (omega (arith, ap (λ (t : TileCells _). t.tiling.height) c.self.view_is)) (subst (AreCutFrom f) (sym c.self.view_is) cut) c.copy_row.ensures

pub returns-clause-width : goal.returns-clause-width
returns-clause-width g c = c.copy_row.ensures.width ∙ ap (λ (t : TileCells _). t.tiling.width) c.self.view_is

pub returns-clause-height : goal.returns-clause-height
returns-clause-height g c = c.copy_row.ensures.height

pub returns-clause-count : goal.returns-clause-count
returns-clause-count g c = c.copy_row.ensures.size ∙ ap (λ (t : TileCells _). t.tiling.width) c.self.view_is
