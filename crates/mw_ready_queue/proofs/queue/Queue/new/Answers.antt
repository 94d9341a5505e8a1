use Rattle.std.proofs.Common.{ℕ, ◌+◌, ◌*◌, ◌∙◌, [], ◌∷◌, List, ap, subst, arith, length, length-append}
use Rattle.std.specs.Global.{Vec}
use Rattle.mw_ready_queue.specs.Queues.{Listed}
use Rattle.mw_ready_queue.proofs.Opens.{free, total_next, listed-more, room-more, count-more_step}
use Rattle.mw_ready_queue.proofs.queue.Queue.new.Goals as goal

pub overflow_add-total : goal.overflow_add-total
overflow_add-total c =
    omega (arith, total_next c.args.waiting.items c.args.tiles c.loop-step.step c.loop-step.total c.len-in-loop-step.result c.args.steps c.args.waiting.len c.loop-step.invariant.total (omega (arith, c.len-in-loop-step.ensures, c.in_ok-list.ensures.few)) c.loop-step-test.true c.requires.whole c.requires.small)

pub loop-step-preserved : goal.loop-step-preserved
loop-step-preserved c =
    let before = c.loop-step.invariant in
    let list = c.in_ok-list.list in
    let k = c.loop-step.step in
    let tiles = c.args.tiles in
    let listed : Listed tiles (λ t. free c.args.waiting.items (k * tiles + t)) list.items = subst (λ (xs : List ℕ). Listed tiles (λ t. free xs (k * tiles + t)) list.items) c.deref.ensures.value c.in_ok-list.ensures.listed in
    record {
      size = ap (λ (xs : List (Vec ℕ)). length xs) c.push_reserved.ensures.items ∙ length-append c.loop-step.ready.items (list ∷ []) ∙ omega (arith, before.size);
      capacity = omega (arith, c.push_reserved.ensures.capacity, before.capacity);
      listed = listed-more c.args.waiting.items tiles k c.loop-step.ready.items c.push_reserved.new.self.items list before.size c.push_reserved.ensures.items listed before.listed;
      room = room-more tiles k c.loop-step.ready.items c.push_reserved.new.self.items list c.push_reserved.ensures.items c.in_ok-list.ensures.room before.room;
      total = count-more_step c.args.waiting.items tiles k c.loop-step.total c.len-in-loop-step.result list.items before.total listed (omega (arith, c.len-in-loop-step.ensures, list.ok));
    }
