use Rattle.std.proofs.Common.{arith}
use Rattle.std.proofs.lemmas.Int.{ints}
use Rattle.mw_rank_rows.proofs.group.shown_rows.Goals as goal

pub returns-then-top-lt0 : goal.returns-then-top-lt0
returns-then-top-lt0 c = record {
  within = omega (arith, ints);
  inside = omega (arith, ints);
  at = λ i lt. omega (arith, ints);
  early = λ q r lt less is. omega (arith, ints);
  late = λ q r le lt less is. omega (arith, ints);
}

pub returns : goal.returns
returns c = record {
  within = omega (arith, ints);
  inside = omega (arith, ints);
  at = λ i lt. omega (arith, ints);
  early = λ q r lt less is. omega (arith, ints);
  late = λ q r le lt less is. omega (arith, ints);
}
