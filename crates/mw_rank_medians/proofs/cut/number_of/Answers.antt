use Rattle.std.proofs.Common.{◌≡◌, ◌+◌, ◌≤◌, ◌∙◌, length, arith, inl, inr}
use Rattle.std.proofs.lemmas.Bool.{cases_lt}
use Rattle.mw_rank_medians.proofs.Gathered.{count_grows, number_is}
use Rattle.mw_rank_medians.proofs.cut.number_of.Goals as goal

pub returns-clause-level : goal.returns-clause-level
returns-clause-level c = number_is c.args.k c.max-n.result c.halved.result c.args.levels.now (omega (arith, c.min.ensures, c.max-n.ensures)) c.halved.ensures.few c.halved.ensures.enough

pub returns-then-n-levels-clause-level : goal.returns-then-n-levels-clause-level
returns-then-n-levels-clause-level c =
    let levels = c.args.levels.now in
    let top = c.args.top in
    let most = c.greatest.result in
    let low : most ≤ top = elim (cases_lt top most) [
      | inl high ↦ absurd (omega (arith, count_grows (top + 1) most levels (omega (arith, high)), c.greatest.ensures.few, c.requires.top))
      | inr le ↦ le
    ] in
    let is : c.min-then-n-levels.result ≡ most = omega (arith, c.min-then-n-levels.ensures, low) in
    let n : c.max-n.result ≡ length levels = omega (arith, c.if-n-levels.true) in
    is
    ∙ number_is c.args.k c.max-n.result most levels (omega (arith, c.min.ensures, c.max-n.ensures)) (omega (arith, n, c.greatest.ensures.few)) (omega (arith, n, c.greatest.ensures.enough))
