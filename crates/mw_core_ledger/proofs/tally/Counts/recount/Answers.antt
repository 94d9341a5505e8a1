use Rattle.std.proofs.Common.{◌≡◌, ℕ, ◌<◌, ◌∙◌, List, length, sum, set, get_or, ap, arith, length-set}
use Rattle.mw_model.specs.Stands.{ready_under}
use Rattle.mw_core_tasks.specs.mw_core_laws.Counts.{running_under}
use Rattle.mw_core_tasks.proofs.mw_core_laws.CountLemmas.{sum-more}
use Rattle.mw_core_ledger.specs.Books.{seen_of}
use Rattle.mw_core_ledger.proofs.Rows.{row, row-is, row-next}
use Rattle.mw_core_ledger.proofs.tally.Counts.recount.Goals as goal

pub loop-t-preserved : goal.loop-t-preserved
loop-t-preserved c =
    let now = c.loop-t.invariant in
    let xs = c.loop-t.self-inside.ready in
    let t = c.loop-t.t in
    let s = seen_of c.args.ledger.now in
    let written : length (set xs t c.ready_of.result) ≡ length xs = simp length-set in
    let long : length c.set.new.self ≡ length (set xs t c.ready_of.result) = ap (λ (l : List ℕ). length l) c.set.ensures in
    let within : t < length xs = omega (arith, now.long, now.end, c.loop-t-test.true) in
    let more = sum-more (running_under s) t in
    record {
      long = long ∙ written ∙ now.long;
      end = now.end;
      ready = λ v lt. ap (λ (l : List ℕ). get_or l v 0) c.set.ensures ∙ row-next (ready_under s) xs t c.ready_of.result within c.ready_of.ensures.value now.ready v lt;
      running = omega (arith, now.running, c.from.ensures, c.running_of.ensures.value, more);
      few = omega (arith, now.few, c.from.ensures, c.running_of.ensures.small);
    }

pub returns : goal.returns
returns c =
    let now = c.loop-t.invariant in
    let s = seen_of c.args.ledger.now in
    let n = length c.args.ledger.now.table.names in
    let all : c.loop-t.t ≡ n = omega (arith, now.end, c.loop-t-test.false, c.loop-t.auto.t-end) in (
      row-is c.loop-t.self-inside.ready (ready_under s) n now.long (λ v lt. now.ready v (omega arith)),
      now.running ∙ ap (λ (k : ℕ). sum (row (running_under s) k)) all,
    )
