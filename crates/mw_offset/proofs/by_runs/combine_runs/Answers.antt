use Rattle.std.proofs.Common.{◌≡◌, ℕ, ◌+◌, ◌-◌, ◌*◌, ◌<◌, ◌≤◌, length, get_or, refl, ap, sym, subst, ◌∙◌, arith}
use Rattle.std.specs.List.{AllByRecursion}
use Rattle.mw_model.proofs.mw_facts.Alls.{all-weaker}
use Rattle.mw_line.proofs.Folds.{IsExtremum}
use Rattle.mw_element_runs.specs.declared.runs.Run.{Run}
use Rattle.mw_element_runs.specs.Runs.{RunHasRoom}
use Rattle.mw_offset.proofs.Rooms.{row_fits}
use Rattle.mw_offset.specs.MergedAt.{run_extremum}
use Rattle.mw_offset.proofs.Gathers.{gather_below, all_below, IsDoubled, grown_more, none_gathered, gathered_between}
use Rattle.mw_offset.proofs.by_runs.combine_runs.Goals as goal
use Rattle.mw_offset.proofs.by_runs.combine_runs.Goals.{then-sizes-test+else-sizes-cells, else-sizes-test}

pub sizes-init : goal.sizes-init
sizes-init g c =
    let f = g.E.Extremum.merge in
    let laws : IsExtremum f = record { commutes = g.met.E.Extremum.commutes; associates = g.met.E.Extremum.associates; is_idempotent = g.met.E.Extremum.is_idempotent } in
    let cells = c.args.cells.now in
    let out = c.args.out.now in
    let runs = c.args.runs.now in
    let laid = c.args.laid in
    let first = c.next_size-sizes.result in
    let least-is : 1 ≡ first.least = sym c.next_size-sizes.ensures.least in
    let grown : IsDoubled f cells cells first.least = subst (IsDoubled f cells cells) least-is (record { positive = omega arith; size = refl; done = λ p d le. refl }) in
    let count = (laid.height - 1) * laid.wide + laid.width + 63 in
    record {
      more = omega (arith, c.next_size-sizes.ensures.more);
      twice = omega (arith, c.next_size-sizes.ensures.twice);
      grown = grown;
      out_size = c.combine_sized.auto.out;
      done = λ n blank x y less row_less.
          let q = y * laid.wide + x in
          let here = row_fits y laid.height laid.wide laid.width (count - 63) row_less (omega arith) in
          let value = run_extremum f cells n laid.extent laid.wide q in
          gathered_between f laws cells cells first.least first.next grown (omega (arith, c.next_size-sizes.ensures.more)) (omega (arith, c.next_size-sizes.ensures.twice)) n laid.extent laid.wide count q (omega (arith, here))
          (get_or out (y * laid.width + x) n) (get_or c.combine_sized.new.out (y * laid.width + x) n) runs c.requires.room (c.in_ok-combine_sized.ensures x y n less row_less)
          (blank (y * laid.width + x) ∙ none_gathered f n value laid.extent laid.wide count (length cells) runs c.requires.room ∙ ap (λ (t : ℕ). gather_below f n value t runs) least-is);
    }

pub sizes-preserved : goal.sizes-preserved
sizes-preserved g c =
    let f = g.E.Extremum.merge in
    let laws : IsExtremum f = record { commutes = g.met.E.Extremum.commutes; associates = g.met.E.Extremum.associates; is_idempotent = g.met.E.Extremum.is_idempotent } in
    let cells = c.args.cells.now in
    let runs = c.args.runs.now in
    let laid = c.args.laid in
    let before = c.sizes.invariant in
    let least = c.sizes.sizes.least in
    let next = c.sizes.sizes.next in
    let made = c.combine_ahead.new.row in
    let same = before.grown.size in
    let after = c.next_size-sizes-in-sizes.result in
    let on : least + (next - least) ≡ after.least = omega (arith, before.more, c.next_size-sizes-in-sizes.ensures.least) in
    let grown : IsDoubled f cells made after.least = subst (IsDoubled f cells made) on
    (grown_more f laws cells c.sizes.cells made least (next - least) (length c.sizes.cells - next + 1) before.grown (omega (arith, before.twice)) (omega (arith, before.more)) (omega (arith, before.more)) c.combine_ahead.auto.row c.combine_ahead.ensures.within) in
    let count = (laid.height - 1) * laid.wide + laid.width + 63 in
    record {
      more = omega (arith, c.next_size-sizes-in-sizes.ensures);
      twice = omega (arith, c.next_size-sizes-in-sizes.ensures);
      grown = grown;
      out_size = c.combine_sized-in-sizes.auto.out ∙ before.out_size;
      done = λ n blank x y less row_less.
          let q = y * laid.wide + x in
          let here = row_fits y laid.height laid.wide laid.width (count - 63) row_less (omega arith) in
          let value = run_extremum f cells n laid.extent laid.wide q in
          gathered_between f laws cells made after.least after.next grown (omega (arith, c.next_size-sizes-in-sizes.ensures)) (omega (arith, c.next_size-sizes-in-sizes.ensures)) n laid.extent laid.wide count q (omega (arith, here))
          (get_or c.sizes.out (y * laid.width + x) n) (get_or c.combine_sized-in-sizes.new.out (y * laid.width + x) n) runs c.requires.room (c.in_ok-combine_sized-2.ensures x y n less row_less)
          (before.done n blank x y less row_less ∙ ap (λ (t : ℕ). gather_below f n value t runs) (sym c.next_size-sizes-in-sizes.ensures.least));
    }

pub returns : goal.returns
returns g c = λ n blank x y less row_less.
    let f = g.E.Extremum.merge in
    let cells = c.args.cells.now in
    let runs = c.args.runs.now in
    let laid = c.args.laid in
    let next = c.sizes.sizes.next in
    let longest = c.longest_of-longest.result in
    let count = (laid.height - 1) * laid.wide + laid.width + 63 in
    let same = c.sizes.invariant.grown.size in
    let short : AllByRecursion (λ (r : Run). r.count < next) runs =
    elim c.sizes-test.branch [
      | then-sizes-test+else-sizes-cells w ↦
          let past : length cells < next = omega arith in
          all-weaker (RunHasRoom laid.extent laid.wide count (length cells)) (λ (r : Run). r.count < next) runs (λ r room. let fits = room.room in omega arith) c.requires.room
      | else-sizes-test w ↦
          let past : longest < next = omega arith in
          all-weaker (λ (r : Run). r.count ≤ longest) (λ (r : Run). r.count < next) runs (λ r le. omega arith) c.longest_of-longest.ensures.all
    ] in
    c.sizes.invariant.done n blank x y less row_less ∙ all_below f n (run_extremum f cells n laid.extent laid.wide (y * laid.wide + x)) next runs short
