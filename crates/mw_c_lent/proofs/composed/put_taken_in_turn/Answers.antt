use Rattle.std.proofs.Common.{List, map, refl, ap, ◌∙◌}
use Rattle.mw_c_arrays.specs.Sources.{picture_in}
use Rattle.mw_c_lent.specs.Rules.{rule_picture}
use Rattle.mw_c_lent.proofs.InStrips.{view_place, view_rows}
use Rattle.mw_c_lent.proofs.Lessened.{strip_less, strip_of_view}
use Rattle.mw_c_lent.proofs.Slid.{frame_strip}
use Rattle.mw_c_lent.proofs.composed.put_taken_in_turn.Goals as goal

pub own_rows-requires : goal.own_rows-requires
own_rows-requires g c =
    let f = picture_in c.args.turn.sequence.f in
    record { whole = view_place g.P.Pixel.level c.args.lent.now f c.requires.view; strip = view_rows g.P.Pixel.level c.args.lent.now f c.args.strip c.requires.view c.requires.strip }

pub returns-clause-made : goal.returns-clause-made
returns-clause-made g c = λ yes.
    let level = g.P.Pixel.level in
    let s = c.args.turn.sequence in
    let f = picture_in s.f in
    let r = c.args.strip in
    let strip = frame_strip f.width f.height r f refl refl c.requires.strip in
    let own = map level c.own_rows.result.now in
    let itself = ap (λ (xs : List _). map level xs) c.own_rows.ensures.value ∙ strip_of_view level c.args.lent.now f r c.requires.view strip in
    let made = c.in_ok-put_turn.ensures.made c.if-not-branch.false in
    strip_less level f (rule_picture s.second (rule_picture s.first f)) r c.subtract_from_row.new.row own (map level c.put_turn.new.out) strip c.subtract_from_row.ensures itself made
