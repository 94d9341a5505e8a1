use Rattle.std.proofs.Common.{◌+◌, arith, refl}
use Rattle.mw_model.proofs.mw_facts.Alls.{all-push}
use Rattle.mw_element_runs.specs.Runs.{IsRun}
use Rattle.mw_element_runs.proofs.RunLists.{runs_more, longest_more, last_more}
use Rattle.mw_element_runs.proofs.runs.runs_of.Goals as goal

pub runs-preserved : goal.runs-preserved
runs-preserved c =
    let offsets = c.args.offsets.now in
    let runs = c.runs.runs.items in
    let more = c.push.new.self.items in
    let run = c.run_at-run.result in
    let to = c.runs.at + run.count in
    let pushed = c.in_ok-push.ensures.items in
    record {
      within = omega (arith, c.run_at-run.ensures.room);
      so_far = runs_more offsets runs more run c.runs.at to pushed refl c.run_at-run.ensures.same c.runs.invariant.so_far;
      runs = rw pushed (all-push IsRun runs run c.runs.invariant.runs c.run_at-run.ensures.run);
      longest = longest_more offsets runs more run c.runs.at to pushed refl c.runs-test.true c.run_at-run.ensures.first c.runs.invariant.longest c.runs.invariant.last;
      last = last_more offsets runs more run c.runs.at to pushed refl c.run_at-run.ensures.longest;
    }
