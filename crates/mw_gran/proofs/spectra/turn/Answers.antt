use Rattle.std.proofs.Common.{◌≡◌, ◌+◌, suc, length, arith, sym, subst}
use Rattle.mw_model.specs.Flat.{erosion}
use Rattle.mw_model.specs.Iterates.{times, spectrum}
use Rattle.mw_model.specs.Pictures.{IsPicture}
use Rattle.mw_model.specs.Plans.{Source}
use Rattle.mw_plan.specs.Seen.{source}
use Rattle.mw_gran.specs.Growing.{ShowsOperator}
use Rattle.mw_gran.specs.Turns.{volume_steps}
use Rattle.mw_gran.proofs.OneMore.{pushed_count}
use Rattle.mw_gran.proofs.Turns.{spectrum_turn}
use Rattle.mw_gran.proofs.spectra.turn.Goals as goal

pub returns-clause-count : goal.returns-clause-count
returns-clause-count c =
    let first = c.in_ok-opened.ensures.count in
    let second : length c.add.new.plan ≡ suc (length c.dilated.new.plan) = pushed_count _ _ _ _ _ c.in_ok-add.ensures in
    omega arith

pub returns-clause-tells : goal.returns-clause-tells
returns-clause-tells c = λ b depth slides below at.
    let n = c.args.n in
    let left = times (n + 1) (erosion b) in
    let shows = subst (λ (t : Source). ShowsOperator IsPicture c.args.plan.now t left) (sym c.eroded-next.ensures) (at.shows (n + 1) (omega arith)) in
    let both = c.in_ok-opened.ensures.grown b (depth + volume_steps n) (spectrum b n) left slides at.tells shows in
    spectrum_turn b depth n c.args.plan.now c.dilated.new.plan c.add.new.plan (source c.in_ok-opened.opened) (source c.in_ok-add.field-0) at c.in_ok-opened.ensures.kept both.0 both.1 c.in_ok-add.ensures
