use Rattle.std.proofs.Common.{◌≡◌, subst, IfOk}
use Rattle.std.specs.Prelude.{◌&&◌, ◌==◌, not, if◌then◌else◌}
use Rattle.mw_model.specs.Pictures.{Picture, sample, redrawn}
use Rattle.mw_reference.proofs.iterated.with_residue.Goals as goal

pub returns : goal.returns
returns c =
    let eroded = c.args.eroded.now in
    let marks = c.args.marks.now in
    subst (λ (opened : Picture). IfOk c.redraw.result (λ r. r ≡ redrawn marks (λ x y. if sample eroded x y == 1 && not (sample opened x y == 1) then c.args.mark else sample marks x y))) c.in_ok-opened.ensures
    c.redraw.ensures
