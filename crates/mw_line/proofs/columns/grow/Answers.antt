use Rattle.std.proofs.Common.{◌≡◌, ◌+◌, ◌-◌, ◌*◌, ◌<◌, ◌≤◌, ◌⊎◌, arith, refl, inl, inr, ◌∙◌}
use Rattle.mw_line.proofs.Folds.{IsExtremum}
use Rattle.mw_line.proofs.Growing.{growing_first, growing_more, grown_last, grown_same}
use Rattle.mw_line.proofs.columns.grow.Goals as goal
use Rattle.mw_line.proofs.columns.grow.Goals.{then-doubling-test+else-taken-at, else-doubling-test, else-taken-k-via-then-taken-k+else-k-taken, else-taken-k-via-else-taken-k}

pub doubling-init : goal.doubling-init
doubling-init g c = record {
  positive = omega arith;
  within = omega (arith, c.requires.some);
  sum = refl;
  size = refl;
  growing = λ value d before made. growing_first g.E.Extremum.merge value d c.args.width c.args.k c.args.last c.args.rows.now c.requires.some before made;
}

pub doubling-preserved : goal.doubling-preserved
doubling-preserved g c =
    let laws : IsExtremum g.E.Extremum.merge = record { commutes = g.met.E.Extremum.commutes; associates = g.met.E.Extremum.associates; is_idempotent = g.met.E.Extremum.is_idempotent } in
    let known = c.doubling.invariant in
    let at = c.doubling.at in
    let taken = c.doubling.taken in
    record {
      positive = omega (arith, known.positive);
      within = omega arith;
      sum = omega (arith, known.sum);
      size = c.merge_row.auto.rows ∙ known.size;
      growing = λ value d before made.
          growing_more g.E.Extremum.merge laws value d c.args.width c.args.k c.args.last taken at (at - taken) (taken * 2) c.doubling.rows c.merge_row.new.rows (known.growing value d before made)
          known.positive (omega arith) (omega arith) refl known.sum c.merge_row.ensures.row c.merge_row.ensures.above c.merge_row.ensures.below;
    }

pub returns-then-k-taken : goal.returns-then-k-taken
returns-then-k-taken g c =
    let laws : IsExtremum g.E.Extremum.merge = record { commutes = g.met.E.Extremum.commutes; associates = g.met.E.Extremum.associates; is_idempotent = g.met.E.Extremum.is_idempotent } in
    let known = c.doubling.invariant in
    let at = c.doubling.at in
    let taken = c.doubling.taken in
    let k = c.args.k in
    let positive : 0 < taken = known.positive in
    let short : k < taken * 2 = elim c.doubling-test.branch [ then-doubling-test+else-taken-at w ↦ absurd (omega arith) | else-doubling-test w ↦ omega arith ] in
    λ value d before made.
    grown_last g.E.Extremum.merge laws value d c.args.width k c.args.last taken at (k - taken) (at - (k - taken)) c.doubling.rows c.merge_row-then-k-taken.new.rows (known.growing value d before made)
    positive short (omega arith) (omega arith) (omega arith) known.sum c.merge_row-then-k-taken.ensures.row c.merge_row-then-k-taken.ensures.above c.merge_row-then-k-taken.ensures.below

pub returns-else-taken-k : goal.returns-else-taken-k
returns-else-taken-k g c =
    let known = c.doubling.invariant in
    let at = c.doubling.at in
    let taken = c.doubling.taken in
    let k = c.args.k in
    let within : taken ≤ k = known.within in
    let most : (taken ≡ k) ⊎ (at + taken < k) = elim c.else-taken-k.branch [ else-taken-k-via-then-taken-k+else-k-taken w ↦ inr (omega arith) | else-taken-k-via-else-taken-k w ↦ inl (omega arith) ] in
    let near : (k < taken * 2) ⊎ (at < taken) = elim c.doubling-test.branch [ then-doubling-test+else-taken-at w ↦ inr (omega arith) | else-doubling-test w ↦ inl (omega arith) ] in
    λ value d before made. grown_same g.E.Extremum.merge value d c.args.width k c.args.last taken at c.doubling.rows (known.growing value d before made) known.positive within known.sum most near
