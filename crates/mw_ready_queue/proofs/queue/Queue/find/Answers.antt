use Rattle.std.proofs.Common.{ℕ, ◌-◌, ◌<◌, ◌≤◌, length, List, ap, subst, ◌∙◌, arith, get_or}
use Rattle.mw_ready_queue.specs.Queues.{Queued, IsQueue, IsTop, list_at}
use Rattle.mw_ready_queue.proofs.Orders.{handed-here, handed-later, length-handed_less, list-length, list_empty}
use Rattle.mw_ready_queue.proofs.Opens.{steps_small, length-items_of}
use Rattle.mw_ready_queue.proofs.Tops.{handed-all}
use Rattle.mw_ready_queue.proofs.queue.Queue.find.Goals as goal

pub loop-step-init : goal.loop-step-init
loop-step-init c =
    let q = c.args.self.now in
    let top = subst (λ (v : Queued). IsTop v.ready c.self.inside.top) c.self.view_is c.self.invariant.2 in
    let same = handed-all q.ready q.tiles c.self.inside.top top in
    record {
      within = top.within;
      low = omega (arith, c.requires, c.count-total.ensures.value, c.count-total.ensures.order, ap (λ (xs : List ℕ). length xs) same);
      value = ap (λ (xs : List ℕ). get_or xs c.args.place 0) same;
      front = λ first. first;
      latest = λ first. top.none;
    }

pub returns-then-left-count-clause-value : goal.returns-then-left-count-clause-value
returns-then-left-count-clause-value c =
    let q = c.args.self.now in
    let shown = ap (λ (v : Queued). v.ready) c.self.view_is in
    let size = length-items_of c.self.inside.ready.items in
    let s-lt : c.loop-step.step - 1 < length c.self.inside.ready.items = omega (arith, c.loop-step.invariant.within, ap (λ (xs : List (List ℕ)). length xs) shown, size) in
    let is = list-length c.self.inside.ready.items q.ready (c.loop-step.step - 1) c.index.result.now c.len-count.result shown s-lt c.index.ensures c.len-count.ensures in
    c.loop-step.invariant.value ∙ handed-here q.ready q.tiles c.loop-step.step (c.loop-step.step - 1) c.loop-step.left (omega arith) (omega (arith, is))

pub returns-then-left-count-clause-small : goal.returns-then-left-count-clause-small
returns-then-left-count-clause-small c =
    let q = c.args.self.now in
    let queue : IsQueue q c.self.inside.total = subst (λ (v : Queued). IsQueue v c.self.inside.total) c.self.view_is c.self.invariant.0 in
    steps_small q c.self.inside.total (c.loop-step.step - 1) queue (let w = c.loop-step.invariant.within in omega arith)

pub loop-step-preserved : goal.loop-step-preserved
loop-step-preserved c =
    let q = c.args.self.now in
    let before = c.loop-step.invariant in
    let shown = ap (λ (v : Queued). v.ready) c.self.view_is in
    let size = length-items_of c.self.inside.ready.items in
    let s-lt : c.loop-step.step - 1 < length c.self.inside.ready.items = omega (arith, before.within, ap (λ (xs : List (List ℕ)). length xs) shown, size) in
    let is = list-length c.self.inside.ready.items q.ready (c.loop-step.step - 1) c.index.result.now c.len-count.result shown s-lt c.index.ensures c.len-count.ensures in
    let past : length (list_at q.ready (c.loop-step.step - 1)) ≤ c.loop-step.left = omega (arith, is) in
    record {
      within = omega (arith, before.within);
      low = length-handed_less q.ready q.tiles c.loop-step.step (c.loop-step.step - 1) c.loop-step.left c.len-count.result (omega arith) is before.low past;
      value = before.value ∙ handed-later q.ready q.tiles c.loop-step.step (c.loop-step.step - 1) c.loop-step.left c.len-count.result (omega arith) is past;
      front = λ e. omega (arith, before.front e);
      latest = λ e s from lt. list_empty q.ready c.loop-step.step s c.loop-step.left from (before.front e) past (before.latest e) lt;
    }
