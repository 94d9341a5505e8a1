use Rattle.std.proofs.Common.{sym, arith}
use Rattle.std.proofs.lemmas.Int.{ints}
use Rattle.mw_element.specs.Figures.{by_rows}
use Rattle.mw_element.proofs.Order.{passes_first, passes_on_first, passes_on_second, passes_end_second}
use Rattle.mw_element.proofs.offsets.overlap.Goals as goal

pub offsets-init : goal.offsets-init
offsets-init c = passes_first c.args.is_first_turned c.args.is_second_turned c.args.first.now c.args.second.now c.requires.first c.requires.second

pub returns-in_default-first_by_rows : goal.returns-in_default-first_by_rows
returns-in_default-first_by_rows c = passes_end_second c.args.is_first_turned c.args.is_second_turned c.offsets.first_rest.now c.offsets.second_rest.now c.args.first.now c.args.second.now c.offsets.invariant c.in_default-first_by_rows.ensures

pub offsets-preserved-then-row_key : goal.offsets-preserved-then-row_key
offsets-preserved-then-row_key c = passes_on_first c.args.is_first_turned c.args.is_second_turned c.offsets.first_rest.now c.in-Some.after_a.now c.offsets.second_rest.now c.args.first.now c.args.second.now c.in-Some.a c.in-Some-first_by_rows.b (by_rows c.args.is_second_turned c.in-Some-first_by_rows.after_b.now) c.offsets.invariant c.in-Some.ensures c.in-Some-first_by_rows.ensures (sym c.if-is_same.ensures) (omega (arith, ints))

pub offsets-preserved : goal.offsets-preserved
offsets-preserved c = passes_on_second c.args.is_first_turned c.args.is_second_turned c.offsets.first_rest.now c.offsets.second_rest.now c.in-Some-first_by_rows.after_b.now c.args.first.now c.args.second.now c.in-Some.a c.in-Some-first_by_rows.b (by_rows c.args.is_first_turned c.in-Some.after_a.now) c.offsets.invariant c.in-Some.ensures c.in-Some-first_by_rows.ensures (sym c.if-is_same.ensures) (omega (arith, ints))
