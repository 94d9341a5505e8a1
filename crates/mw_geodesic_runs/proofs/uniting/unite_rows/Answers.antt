use Rattle.std.proofs.Common.{◌+◌, refl, arith, inl, inr}
use Rattle.mw_geodesic_runs.proofs.TwoRows.{rows_begin, rows_first, rows_second, rows_end}
use Rattle.mw_geodesic_runs.proofs.uniting.unite_rows.Goals as goal

pub along-init : goal.along-init
along-init c = record {
  forest = c.requires.forest;
  in_upper = omega arith;
  in_lower = omega arith;
  united = λ runs y rows was. rows_begin c.args.reach runs y c.args.above c.args.upper.now c.args.lower.now c.args.parent.now rows was;
}

pub along-preserved-then-a-b : goal.along-preserved-then-a-b
along-preserved-then-a-b c =
    let known = c.along.invariant in
    record {
      forest = c.unite_overlapping.ensures.forest;
      in_upper = omega arith;
      in_lower = omega arith;
      united = λ runs y rows was.
          rows_first c.args.reach runs y c.args.above c.along.i c.along.j (c.along.i + 1) c.args.upper.now c.args.lower.now c.along.parent c.unite_overlapping.new.parent c.requires.reach rows c.along-test.true c.if-j-lower.true refl c.unite_overlapping.auto.parent
          c.unite_overlapping.ensures.forest c.unite_overlapping.ensures.joined c.if-a-b.true (known.united runs y rows was);
    }

pub along-preserved : goal.along-preserved
along-preserved c =
    let known = c.along.invariant in
    record {
      forest = c.unite_overlapping.ensures.forest;
      in_upper = omega arith;
      in_lower = omega arith;
      united = λ runs y rows was.
          rows_second c.args.reach runs y c.args.above c.along.i c.along.j (c.along.j + 1) c.args.upper.now c.args.lower.now c.along.parent c.unite_overlapping.new.parent c.requires.reach rows c.along-test.true c.if-j-lower.true refl c.unite_overlapping.auto.parent
          c.unite_overlapping.ensures.forest c.unite_overlapping.ensures.joined c.if-a-b.false (known.united runs y rows was);
    }

pub returns-else-j-lower-clause-united : goal.returns-else-j-lower-clause-united
returns-else-j-lower-clause-united c = λ runs y rows was.
    rows_end c.args.reach runs y c.args.above c.along.i c.along.j c.args.upper.now c.args.lower.now c.along.parent rows c.along.invariant.in_upper c.along.invariant.in_lower (inr c.if-j-lower.false) (c.along.invariant.united runs y rows was)

pub returns-after-along-clause-united : goal.returns-after-along-clause-united
returns-after-along-clause-united c = λ runs y rows was.
    rows_end c.args.reach runs y c.args.above c.along.i c.along.j c.args.upper.now c.args.lower.now c.along.parent rows c.along.invariant.in_upper c.along.invariant.in_lower (inl c.along-test.false) (c.along.invariant.united runs y rows was)
