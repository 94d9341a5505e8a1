use Rattle.std.proofs.Common.{ℕ, length, ap, sym, subst, ◌∙◌}
use Rattle.mw_model.specs.Pictures.{Picture}
use Rattle.mw_c_arrays.specs.Sources.{picture_in}
use Rattle.mw_c_layers.specs.Layers.{formula_picture}
use Rattle.mw_c_layers.specs.Parts.{HasImageRows}
use Rattle.mw_c_strips.specs.Rows.{EndAt, rows_from}
use Rattle.mw_c_strips.proofs.Filtered.{composite_ends}
use Rattle.mw_c_strips.proofs.writing.write_composite_rows.Goals as goal

pub end_of-end-requires : goal.end_of-end-requires
end_of-end-requires g c = record { sound = c.requires.sound; rows = c.requires.rows }

pub put_composite-requires : goal.put_composite-requires
put_composite-requires g c =
    let ends = subst (EndAt c.args.first c.end_of-end.result (length c.args.out.now)) c.requires.same c.end_of-end.ensures in
    record { sound = c.requires.image; rows = composite_ends c.args.composite (picture_in c.args.f) c.args.first c.end_of-end.result (length c.args.out.now) ends }

pub put_rest-requires : goal.put_rest-requires
put_rest-requires g c =
    let first = c.args.first in
    let end = c.end_of-end.result in
    let out = c.put_composite.new.out in
    record {
      sound = c.requires.sound;
      behind = c.in_ok-next.ensures.behind;
      within = c.in_ok-next.ensures.within;
      ends = subst (λ (n : ℕ). EndAt first end n (formula_picture c.args.formula)) (sym c.put_composite.auto.out) c.end_of-end.ensures;
      stands = c.requires.stands;
      before = subst (λ (f : Picture). HasImageRows g.P.Pixel.level f first c.in_ok-next.next out) (sym c.requires.same) c.in_ok-next.ensures.made;
    }

pub returns-clause-made : goal.returns-clause-made
returns-clause-made g c = λ _. c.put_rest.ensures ∙ ap (λ (n : ℕ). rows_from c.args.first n (formula_picture c.args.formula)) c.put_composite.auto.out
