use Rattle.std.proofs.Common.{◌≡◌, ◌-◌, ◌*◌, ◌≤◌, length}
use Rattle.mw_c_arrays.specs.Sources.{picture_in}
use Rattle.mw_c_lent.specs.Composites.{composite_picture, first_made}
use Rattle.mw_c_lent.specs.Rows.{HasImageRows}
use Rattle.mw_c_lent.specs.Rules.{rule_picture}
use Rattle.mw_c_lent.proofs.by_strips.put_strips.Given as goal

abbrev pub invariant-strips : goal.invariant-strips
invariant-strips g l = record {
  begun : l.first ≤ l.done;
  within : l.done ≤ l.end;
  behind : l.standing.from ≤ l.done - l.reach.up;
  joined : l.done - l.reach.up ≤ l.standing.to;
  held : (l.standing.to - l.standing.from) * l.width ≤ length l.between;
  between : length l.between ≡ length l.initial.between;
  size : length l.out ≡ length l.initial.out;
  stands : HasImageRows g.P.Pixel.level (rule_picture (first_made l.composition.composite) (picture_in l.composition.f)) l.standing.from l.standing.to l.between;
  made : HasImageRows g.P.Pixel.level (composite_picture l.composition.composite (picture_in l.composition.f)) l.first l.done l.out;
  none : l.done ≡ l.first → l.out ≡ l.initial.out;
  fresh : l.done ≡ l.first → l.standing.from ≡ l.standing.to;
}

abbrev pub decreases-strips : goal.decreases-strips
decreases-strips g l = l.end - l.done
