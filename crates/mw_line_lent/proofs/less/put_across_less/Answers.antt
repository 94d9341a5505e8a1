use Rattle.std.proofs.Common.{subst}
use Rattle.mw_line_lent.specs.declared.across.Taps.{Taps}
use Rattle.mw_line_lent.specs.Differences.{HasTapsLess}
use Rattle.mw_line_lent.proofs.less.put_across_less.Goals as goal

pub returns-in-1-eq2-clause-made : goal.returns-in-1-eq2-clause-made
returns-in-1-eq2-clause-made g c =
    subst (λ (t : Taps). HasTapsLess g.P.Pixel.level g.U.Extremum.merge c.args.lines.uppers.now g.L.Extremum.merge c.args.lines.lowers.now t c.args.n c.args.at c.put_taps_less.new.out) c.by_numbers.ensures c.put_taps_less.ensures.made

pub returns-in-1-eq3-clause-made : goal.returns-in-1-eq3-clause-made
returns-in-1-eq3-clause-made g c =
    subst (λ (t : Taps). HasTapsLess g.P.Pixel.level g.U.Extremum.merge c.args.lines.uppers.now g.L.Extremum.merge c.args.lines.lowers.now t c.args.n c.args.at c.put_taps_less-in-1-eq3.new.out) c.by_numbers-in-1-eq3.ensures c.put_taps_less-in-1-eq3.ensures.made

pub returns-in-1-eq4-clause-made : goal.returns-in-1-eq4-clause-made
returns-in-1-eq4-clause-made g c =
    subst (λ (t : Taps). HasTapsLess g.P.Pixel.level g.U.Extremum.merge c.args.lines.uppers.now g.L.Extremum.merge c.args.lines.lowers.now t c.args.n c.args.at c.put_taps_less-in-1-eq4.new.out) c.by_numbers-in-1-eq4.ensures c.put_taps_less-in-1-eq4.ensures.made

pub returns-in-1-eq6-clause-made : goal.returns-in-1-eq6-clause-made
returns-in-1-eq6-clause-made g c =
    subst (λ (t : Taps). HasTapsLess g.P.Pixel.level g.U.Extremum.merge c.args.lines.uppers.now g.L.Extremum.merge c.args.lines.lowers.now t c.args.n c.args.at c.put_taps_less-in-1-eq6.new.out) c.by_numbers-in-1-eq6.ensures c.put_taps_less-in-1-eq6.ensures.made

pub returns-in-1-eq8-clause-made : goal.returns-in-1-eq8-clause-made
returns-in-1-eq8-clause-made g c =
    subst (λ (t : Taps). HasTapsLess g.P.Pixel.level g.U.Extremum.merge c.args.lines.uppers.now g.L.Extremum.merge c.args.lines.lowers.now t c.args.n c.args.at c.put_taps_less-in-1-eq8.new.out) c.by_numbers-in-1-eq8.ensures c.put_taps_less-in-1-eq8.ensures.made
