use Rattle.std.proofs.Common.{List, ℕ, sym, subst, arith}
use Rattle.mw_geodesic_areas.specs.Forests.{EachByItself}
use Rattle.mw_geodesic_areas.proofs.Roots.{alone_none, alone_more}
use Rattle.mw_geodesic_areas.proofs.forest.alone.Goals as goal

pub loop-i-init : goal.loop-i-init
loop-i-init c = record {
  size = omega (arith, c.in_ok-parent.ensures.len);
  alone = subst (λ (t : List ℕ). EachByItself t) (sym c.in_ok-parent.ensures.items) alone_none;
}

pub loop-i-preserved : goal.loop-i-preserved
loop-i-preserved c = record {
  size = omega (arith, c.in_ok-push.ensures.len);
  alone = subst (λ (t : List ℕ). EachByItself t) (sym c.in_ok-push.ensures.items) (alone_more c.loop-i.parent.items c.loop-i.i (omega (arith, c.loop-i.parent.ok.0)) c.loop-i.invariant.alone);
}
