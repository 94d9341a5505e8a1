use Rattle.std.proofs.Common.{◌≡◌, ◌-◌, ◌*◌, ◌≤◌, length}
use Rattle.mw_model.specs.Pictures.{Picture}
use Rattle.mw_c_lent.specs.InPlace.{IsWholeView}
use Rattle.mw_c_lent.specs.Recipes.{recipe_picture}
use Rattle.mw_c_lent.specs.Rows.{HasImageRows}
use Rattle.mw_c_lent.specs.Standing.{HasMadeRows}
use Rattle.mw_c_lent.proofs.recipes.put_all.Given as goal

abbrev pub invariant-strips : goal.invariant-strips
invariant-strips g l = record {
  within : l.done ≤ l.height;
  behind : l.standing.from ≤ l.done - l.maker.first.reach.up;
  joined : l.done ≤ l.standing.to;
  held : (l.standing.to - l.standing.from) * l.width ≤ length l.between;
  between : length l.between ≡ length l.initial.between;
  lines : length l.room ≡ length l.initial.room;
  size : length l.out ≡ length l.initial.out;
  stands : HasMadeRows g.P.Pixel.level l.lent l.maker.first.slide (g.P.Pixel.level l.order.top) l.standing.from l.standing.to l.between;
  made : (f : Picture) → IsWholeView g.P.Pixel.level l.lent f → f.maxval ≡ g.P.Pixel.level l.order.top → HasImageRows g.P.Pixel.level (recipe_picture l.order.recipe f) 0 l.done l.out;
}

abbrev pub decreases-strips : goal.decreases-strips
decreases-strips g l = l.height - l.done
