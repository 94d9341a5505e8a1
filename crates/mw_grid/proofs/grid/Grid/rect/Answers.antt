use Rattle.std.proofs.Common.{◌≡◌, ap, arith}
use Rattle.mw_grid.proofs.Tiles.{rect_within, HasTiles}
use Rattle.mw_grid.proofs.grid.Grid.rect.Goals as goal

pub returns-clause-within : goal.returns-clause-within
returns-clause-within c =
    let side-is : c.self.inside.side ≡ c.args.self.side = ap (λ t. t.side) c.self.view_is in
    let width-is : c.self.inside.width ≡ c.args.self.width = ap (λ t. t.width) c.self.view_is in
    let height-is : c.self.inside.height ≡ c.args.self.height = ap (λ t. t.height) c.self.view_is in
    let wide = c.self.invariant.0.wide in
    let high = c.self.invariant.0.high in
    let least = c.self.invariant.0.side in
    let has : HasTiles c.args.self = record { wide = omega arith; high = omega arith; some = omega arith } in
    rect_within c.args.self c.args.i c.columns-columns.result c.self.inside.side c.self.inside.width c.self.inside.height c.min.result c.min-2.result has c.requires
    c.columns-columns.ensures.value side-is width-is height-is c.min.ensures c.min-2.ensures
