use Rattle.mw_core.specs.Costs.{bytes_of_row}
use Rattle.mw_core.proofs.CostLemmas.{told_by}
use Rattle.mw_core.proofs.costs.plane_of_rows.Goals as goal

pub returns : goal.returns
returns c = λ n said. told_by c.saturating_mul.result c.row_bytes.result c.args.rows (bytes_of_row c.args.kind c.args.maxval c.args.width) n c.row_bytes.ensures said c.saturating_mul.ensures
