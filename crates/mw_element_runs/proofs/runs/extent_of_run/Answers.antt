use Rattle.std.proofs.Common.{arith}
use Rattle.std.proofs.lemmas.Int.{ints}
use Rattle.mw_element_runs.proofs.runs.extent_of_run.Goals as goal

pub returns-clause-least : goal.returns-clause-least
returns-clause-least c = λ o inside. record {
  left = let h = inside.left in omega (arith, ints);
  right = let h = inside.right in omega (arith, ints);
  top = let h = inside.top in omega (arith, ints);
  bottom = let h = inside.bottom in omega (arith, ints);
}
