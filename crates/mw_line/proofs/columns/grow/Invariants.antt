use Rattle.std.proofs.Common.{◌≡◌, ℕ, ◌+◌, ◌*◌, ◌<◌, ◌≤◌, length, get_or}
use Rattle.mw_line.specs.Columns.{IsGrown}
use Rattle.mw_line.proofs.Growing.{IsGrowing}
use Rattle.mw_line.proofs.columns.grow.Given as goal

abbrev pub invariant-doubling : goal.invariant-doubling
invariant-doubling g l = record {
  positive : 0 < l.taken;
  within : l.taken ≤ l.k;
  sum : l.at + l.taken ≡ l.last + 1;
  size : length l.rows ≡ length l.fn.rows;
  growing : (value : ℕ → ℕ → g.row.P.Denot) (d : g.row.P.Denot) → IsGrown g.E.Extremum.merge value d l.width l.k l.last l.fn.rows
      → ((x : ℕ) → x < l.width → get_or l.fn.rows (l.last * l.width + x) d ≡ value x l.last)
      → IsGrowing g.E.Extremum.merge value d l.width l.k l.last l.taken l.at l.rows;
}

abbrev pub decreases-doubling : goal.decreases-doubling
decreases-doubling g l = l.at
