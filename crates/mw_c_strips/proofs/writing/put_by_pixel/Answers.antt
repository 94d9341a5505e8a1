use Rattle.std.proofs.Common.{◌≡◌, ℕ, ◌+◌, ◌*◌, length, arith, subst}
use Rattle.mw_c_layers.specs.Layers.{formula_picture}
use Rattle.mw_c_layers.specs.Parts.{HasImageRows}
use Rattle.mw_c_strips.proofs.SomeRows.{room_for_row}
use Rattle.mw_c_strips.proofs.writing.put_by_pixel.Goals as goal

pub put_row-requires : goal.put_row-requires
put_row-requires g c =
    let s = c.args.strip in
    record {
      sound = c.requires.sound;
      wide = c.requires.strip.wide;
      down = omega (arith, c.loop-y-test.true, c.requires.strip.low);
      behind = omega (arith, c.requires.behind, c.loop-y.auto.y);
      room = room_for_row c.loop-y.y (s.y + s.height) s.width (c.args.first * s.width + length c.loop-y.out) c.loop-y-test.true c.loop-y.invariant.room;
      stands = c.requires.stands;
      before = c.loop-y.invariant.rows;
    }

pub loop-y-preserved : goal.loop-y-preserved
loop-y-preserved g c = record { rows = c.put_row.ensures; room = omega (arith, c.loop-y.invariant.room, c.put_row.auto.out) }

pub returns : goal.returns
returns g c =
    let low = c.loop-y-test.false in
    let high = c.loop-y.auto.y-end in
    let end : c.loop-y.y ≡ c.args.strip.y + c.args.strip.height = omega (arith, low, high) in
    subst (λ (n : ℕ). HasImageRows g.P.Pixel.level (formula_picture c.args.formula) c.args.first n c.loop-y.out) end c.loop-y.invariant.rows
