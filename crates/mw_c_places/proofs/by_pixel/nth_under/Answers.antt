use Rattle.std.proofs.Common.{◌≡◌, length, arith, ◌∙◌}
use Rattle.mw_model.specs.Flat.{under}
use Rattle.mw_c_places.proofs.SmallLevels.{all_seen}
use Rattle.mw_c_places.proofs.UnderOffsets.{halved, none_below, nothing_ranked}
use Rattle.mw_c_places.proofs.by_pixel.nth_under.Goals as goal

pub returns-then-seen-eq0 : goal.returns-then-seen-eq0
returns-then-seen-eq0 g c =
    let found = under (g.S.Levels.image c.args.f.now) c.args.offsets.now c.args.x c.args.y in
    let all : c.count_below-seen.result ≡ length found = c.count_below-seen.ensures ∙ all_seen (g.S.Levels.image c.args.f.now) c.requires.image c.args.offsets.now c.args.x c.args.y in
    nothing_ranked c.args.k found (omega (arith, all))

pub halves-init : goal.halves-init
halves-init g c =
    let found = under (g.S.Levels.image c.args.f.now) c.args.offsets.now c.args.x c.args.y in
    let none = none_below found in
    record { order = omega arith; top = omega arith; below = omega (arith, none); above = omega (arith, c.count_below-seen.ensures) }

pub returns : goal.returns
returns g c =
    let found = under (g.S.Levels.image c.args.f.now) c.args.offsets.now c.args.x c.args.y in
    let all : c.count_below-seen.result ≡ length found = c.count_below-seen.ensures ∙ all_seen (g.S.Levels.image c.args.f.now) c.requires.image c.args.offsets.now c.args.x c.args.y in
    halved found c.args.k c.max-n.result c.halves.low c.halves.high (omega (arith, all)) c.halves.invariant.below c.halves.invariant.above (omega arith)
