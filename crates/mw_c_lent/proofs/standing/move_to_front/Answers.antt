use Rattle.std.proofs.Common.{◌-◌, ◌*◌, ◌≤◌, refl, arith}
use Rattle.std.proofs.lemmas.Nat.{mul-le}
use Rattle.mw_c_lent.proofs.Stood.{rows_moved}
use Rattle.mw_c_lent.proofs.standing.move_to_front.Goals as goal

pub copy_within-requires : goal.copy_within-requires
copy_within-requires g c =
    let s = c.args.standing in
    let w = c.args.width in
    let less : (c.args.from - s.from) * w ≤ (s.to - s.from) * w = mul-le (c.args.from - s.from) w (s.to - s.from) w (omega (arith, c.requires.joined)) (omega arith) in
    record { start_le_end = omega (arith, less); in_bounds = omega (arith, c.requires.held); dest_in_bounds = omega (arith, c.requires.held); not_exhausted = search tt }

pub returns-clause-moved : goal.returns-clause-moved
returns-clause-moved g c = λ f wide rows.
    let s = c.args.standing in
    let w = c.args.width in
    rows_moved g.P.Pixel.level f s.from c.args.from s.to w ((s.to - s.from) * w - (c.args.from - s.from) * w) c.args.between.now c.copy_within.new.self wide c.requires.behind c.requires.joined refl c.copy_within.ensures.by_index.0 rows
