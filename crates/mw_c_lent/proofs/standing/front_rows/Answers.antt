use Rattle.std.proofs.Common.{ℕ, ◌*◌, take, refl}
use Rattle.mw_c_lent.proofs.Stood.{front_is}
use Rattle.mw_c_lent.proofs.standing.front_rows.Goals as goal

pub returns-clause-rows : goal.returns-clause-rows
returns-clause-rows g c = λ f strip rows.
    let r = c.args.place in
    let n : ℕ = r.height * r.width in
    front_is g.P.Pixel.level f r n c.args.between.now (take n c.args.between.now) strip refl c.requires refl rows
