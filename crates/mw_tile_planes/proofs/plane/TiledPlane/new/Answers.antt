use Rattle.std.proofs.Common.{refl, subst, arith}
use Rattle.mw_model.specs.declared.shapes.Kind.{Kind}
use Rattle.mw_model.specs.Pictures.{FitsKind}
use Rattle.mw_tile_planes.proofs.Sides.{held_none, no_levels}
use Rattle.mw_tile_planes.proofs.plane.TiledPlane.new.Goals as goal

pub returns-in_ok-no_tiles-in-Grey : goal.returns-in_ok-no_tiles-in-Grey
returns-in_ok-no_tiles-in-Grey c =
    no_levels c.args.kind c.args.maxval c.args.maxval c.args.grid c.in_ok-no_tiles-in-Grey.field-0.items _ c.in-Grey.is refl c.in_ok-no_tiles-in-Grey.ensures c.len-count.ensures.value

pub returns-in_ok-no_tiles-in-Grey-2 : goal.returns-in_ok-no_tiles-in-Grey-2
returns-in_ok-no_tiles-in-Grey-2 c =
    no_levels c.args.kind c.args.maxval c.args.maxval c.args.grid c.in_ok-no_tiles-in-Grey-2.field-0.items _ c.in-Grey.is refl c.in_ok-no_tiles-in-Grey-2.ensures c.len-count.ensures.value

pub invariant_of-result : goal.invariant_of-result
invariant_of-result c = held_none 1 c.args.grid c.in_ok-no_tiles-in-Bit.field-0.items _ c.in_ok-no_tiles-in-Bit.ensures c.len-count.ensures.value

pub invariant_of-result-then-maxval-le255 : goal.invariant_of-result-then-maxval-le255
invariant_of-result-then-maxval-le255 c =
    let held = held_none c.args.maxval c.args.grid c.in_ok-no_tiles-in-Grey.field-0.items _ c.in_ok-no_tiles-in-Grey.ensures c.len-count.ensures.value in
    let fits = subst (λ (k : Kind). FitsKind k c.args.maxval) c.in-Grey.is c.requires in
    (held.0, held.1, fits.0, c.if-maxval-le255.true)

pub invariant_of-result-else-maxval-le255 : goal.invariant_of-result-else-maxval-le255
invariant_of-result-else-maxval-le255 c =
    let held = held_none c.args.maxval c.args.grid c.in_ok-no_tiles-in-Grey-2.field-0.items _ c.in_ok-no_tiles-in-Grey-2.ensures c.len-count.ensures.value in
    let over = c.if-maxval-le255.false in
    (held.0, held.1, omega arith)
