use Rattle.std.proofs.Common.{map, refl, sym}
use Rattle.mw_c_arrays.specs.Sources.{picture_in}
use Rattle.mw_c_lent.specs.Rules.{rule_picture}
use Rattle.mw_c_lent.proofs.Lessened.{strip_less}
use Rattle.mw_c_lent.proofs.Slid.{frame_strip}
use Rattle.mw_c_lent.proofs.Steps.{strip_above}
use Rattle.mw_c_lent.proofs.composed.put_less_of_rules.Goals as goal

pub returns-clause-made : goal.returns-clause-made
returns-clause-made g c = λ yes.
    let level = g.P.Pixel.level in
    let pair = c.args.pair in
    let f = picture_in pair.f in
    let r = c.args.strip in
    let strip = frame_strip f.width f.height r f refl refl c.requires.strip in
    let first = c.in_ok-put_tile.ensures.made c.if-not-branch.false f c.requires.view strip (sym c.maxval.ensures) in
    let second = c.front_rows.ensures.rows (rule_picture pair.lower f) (strip_above pair.lower f r strip) c.requires.stands in
    strip_less level (rule_picture pair.upper f) (rule_picture pair.lower f) r c.subtract_row.new.row (map level c.put_tile.new.out) (map level c.front_rows.result.now) (strip_above pair.upper f r strip) c.subtract_row.ensures first second
