use Rattle.std.proofs.Common.{◌≡◌, ℕ, ◌+◌, ◌-◌, ◌*◌, ◌<◌, ◌≤◌, length, refl, ap, sym, subst, ◌∙◌, arith}
use Rattle.std.specs.List.{AllByRecursion}
use Rattle.mw_model.proofs.mw_facts.Alls.{all-weaker}
use Rattle.mw_offset.proofs.mw_line.Folds.{IsExtremum}
use Rattle.mw_offset.specs.mw_element_runs.declared.runs.Run.{Run}
use Rattle.mw_offset.specs.mw_element_runs.Runs.{RunHasRoom}
use Rattle.mw_offset.specs.MergedAt.{run_extremum}
use Rattle.mw_offset.proofs.Gathers.{gather_below, all_below, IsDoubled, grown_more, none_gathered, gathered_between}
use Rattle.mw_offset.specs.mw_pixel_words.Packed.{bit_of}
use Rattle.mw_bits_rows.specs.Rows.{laid_bits}
use Rattle.mw_bits_rows.proofs.Laid.{length-laid_bits, laid_shifted}
use Rattle.mw_bits.proofs.by_runs.combine_runs.Goals as goal

pub sizes-init : goal.sizes-init
sizes-init g c =
    let f = g.E.Extremum.merge in
    let laws : IsExtremum f = record { commutes = g.met.E.Extremum.commutes; associates = g.met.E.Extremum.associates; is_idempotent = g.met.E.Extremum.is_idempotent } in
    let e = c.args.laid.extent in
    let wide = c.args.laid.wide in
    let cells = laid_bits c.args.cells.now in
    let out = c.args.out.now in
    let runs = c.args.runs.now in
    let first = c.next_size-sizes.result in
    let known = c.next_size-sizes.ensures in
    let least-is : 1 ≡ first.least = sym known.least in
    let grown : IsDoubled f cells cells first.least = subst (IsDoubled f cells cells) least-is (record { positive = omega arith; size = refl; done = λ p d le. refl }) in
    let rooms : AllByRecursion (RunHasRoom e wide (64 * length out) (length cells)) runs = rw (length-laid_bits c.args.cells.now) c.requires.room in
    record {
      more = omega (arith, known.more);
      twice = omega (arith, known.twice);
      grown = grown;
      cells_size = refl;
      out_size = c.combine_sized.auto.out;
      done = λ n blank q lt.
          let value = run_extremum f cells n e wide q in
          gathered_between f laws cells cells first.least first.next grown (omega (arith, known.more)) (omega (arith, known.twice)) n e wide (64 * length out) q lt (bit_of out q) (bit_of c.combine_sized.new.out q) runs rooms (c.combine_sized.ensures q n lt)
          (blank q lt ∙ none_gathered f n value e wide (64 * length out) (length cells) runs rooms ∙ ap (λ (t : ℕ). gather_below f n value t runs) least-is);
    }

pub sizes-preserved : goal.sizes-preserved
sizes-preserved g c =
    let f = g.E.Extremum.merge in
    let laws : IsExtremum f = record { commutes = g.met.E.Extremum.commutes; associates = g.met.E.Extremum.associates; is_idempotent = g.met.E.Extremum.is_idempotent } in
    let e = c.args.laid.extent in
    let wide = c.args.laid.wide in
    let before = c.sizes.invariant in
    let cells = laid_bits c.args.cells.now in
    let out = c.args.out.now in
    let runs = c.args.runs.now in
    let least = c.sizes.sizes.least in
    let next = c.sizes.sizes.next in
    let made = c.combine_ahead.new.cells in
    let kept = c.combine_ahead.auto.cells in
    let after = c.next_size-sizes-in-sizes.result in
    let known = c.next_size-sizes-in-sizes.ensures in
    let whole = length-laid_bits c.args.cells.now in
    let now = length-laid_bits c.sizes.cells in
    let later = length-laid_bits made in
    let left = length cells - (least + (next - least)) + 1 in
    let on : least + (next - least) ≡ after.least = omega (arith, before.more, known.least) in
    let rooms : AllByRecursion (RunHasRoom e wide (64 * length out) (length cells)) runs = rw whole c.requires.room in
    let fits : next ≤ length cells = omega (arith, c.requires.within) in
    let grown : IsDoubled f cells (laid_bits made) after.least = subst (IsDoubled f cells (laid_bits made)) on
    (grown_more f laws cells (laid_bits c.sizes.cells) (laid_bits made) least (next - least) left before.grown (omega (arith, before.twice)) (omega (arith, before.more)) refl (omega arith)
    (laid_shifted f c.sizes.cells made (next - least) left kept (omega (arith, before.more, before.grown.positive, before.cells_size)) c.combine_ahead.ensures)) in
    record {
      more = omega (arith, known.more);
      twice = omega (arith, known.twice);
      grown = grown;
      cells_size = kept ∙ before.cells_size;
      out_size = c.combine_sized-in-sizes.auto.out ∙ before.out_size;
      done = λ n blank q lt.
          let value = run_extremum f cells n e wide q in
          gathered_between f laws cells (laid_bits made) after.least after.next grown (omega (arith, known.more)) (omega (arith, known.twice)) n e wide (64 * length out) q lt (bit_of c.sizes.out q) (bit_of c.combine_sized-in-sizes.new.out q) runs rooms
          (c.combine_sized-in-sizes.ensures q n (omega (arith, before.out_size)))
          (before.done n blank q lt ∙ ap (λ (t : ℕ). gather_below f n value t runs) (sym known.least));
    }

pub returns : goal.returns
returns g c = λ n blank q lt.
    let f = g.E.Extremum.merge in
    let cells = laid_bits c.args.cells.now in
    let runs = c.args.runs.now in
    let next = c.sizes.sizes.next in
    let short : AllByRecursion (λ (r : Run). r.count < next) runs =
    all-weaker (λ (r : Run). r.count < length c.args.counts.now) (λ (r : Run). r.count < next) runs (λ r le. omega arith) c.requires.longest in
    c.sizes.invariant.done n blank q lt ∙ all_below f n (run_extremum f cells n c.args.laid.extent c.args.laid.wide q) next runs short
