use Rattle.std.proofs.Common.{arith, ◌≡◌, ℕ, ◌-◌, ◌/◌, ◌%◌, ◌∙◌, ◌<◌, ◌++◌, [], ◌∷◌, List, length, get_or, ap, sym, set, subst, false, refl}
use Rattle.mw_model.specs.Tasks.{flag}
use Rattle.mw_ready_queue.specs.Queues.{Queued, list_at}
use Rattle.mw_ready_queue.specs.Shown.{queue_of, items_of}
use Rattle.mw_ready_queue.proofs.Orders.{list_at-items, list-length}
use Rattle.mw_ready_queue.proofs.Opens.{list_room, opened_given, still_waits, items-set, room-set, room-at, total_small, length-items_of}
use Rattle.mw_ready_queue.proofs.Tops.{top-held, top-raised}
use Rattle.mw_ready_queue.proofs.queue.Queue.settle.Goals as goal

pub push_reserved-requires : goal.push_reserved-requires
push_reserved-requires c =
    let a = c.self.inside in
    let q = queue_of a.started.items a.waiting.items a.tiles a.ready.items in
    let within = subst (λ (v : Queued). c.args.task < length v.waiting) (sym c.self.view_is) c.requires.within in
    let waits = subst (λ (v : Queued). 0 < get_or v.waiting c.args.task 0) (sym c.self.view_is) c.requires.waits in
    let w = c.index_mut-then-left-eq0 in
    let room = list_room q a.total c.args.task c.self.invariant.0 within waits in
    let s-lt : c.args.task / a.tiles < length a.ready.items = omega (arith, room.0, length-items_of a.ready.items) in
    omega (arith, room.1, list-length a.ready.items (items_of a.ready.items) (c.args.task / a.tiles) w.result.now _ refl s-lt w.ensures.value refl, room-at a.tiles (c.args.task / a.tiles) a.ready.items w.result.now c.self.invariant.1 s-lt w.ensures.value)

pub overflow_add-self : goal.overflow_add-self
overflow_add-self c =
    let a = c.self.inside in
    omega (arith, total_small (queue_of a.started.items a.waiting.items a.tiles a.ready.items) a.total c.self.invariant.0)

pub invariant_of-self : goal.invariant_of-self
invariant_of-self c =
    let a = c.self.inside in
    let q = queue_of a.started.items a.waiting.items a.tiles a.ready.items in
    let within = subst (λ (v : Queued). c.args.task < length v.waiting) (sym c.self.view_is) c.requires.within in
    let waits = subst (λ (v : Queued). 0 < get_or v.waiting c.args.task 0) (sym c.self.view_is) c.requires.waits in
    let idle = subst (λ (v : Queued). flag v.started c.args.task ≡ false) (sym c.self.view_is) c.requires.idle in
    let w = c.index_mut-then-left-eq0 in
    let s = c.args.task / a.tiles in
    let room = list_room q a.total c.args.task c.self.invariant.0 within waits in
    let s-lt : c.args.task / a.tiles < length a.ready.items = omega (arith, room.0, length-items_of a.ready.items) in
    let list-is = list_at-items a.ready.items (items_of a.ready.items) s w.result.now refl s-lt w.ensures.value in (
      opened_given q a.total c.args.task (c.index.result.now - 1) (items_of (set a.ready.items s c.push_reserved.new.self)) c.self.invariant.0 within waits idle c.if-left-eq0.true
          (items-set a.ready.items s c.push_reserved.new.self (list_at q.ready s ++ c.args.task % a.tiles ∷ []) (c.push_reserved.ensures.items ∙ ap (λ (xs : List ℕ). xs ++ c.args.task % a.tiles ∷ []) (sym list-is))),
      room-set a.tiles s a.ready.items c.push_reserved.new.self c.self.invariant.1 s-lt (omega (arith, c.push_reserved.ensures.capacity, room-at a.tiles s a.ready.items w.result.now c.self.invariant.1 s-lt w.ensures.value)),
      top-held a.ready.items c.max-self-inside.result s c.push_reserved.new.self
          (top-raised (items_of a.ready.items) a.top c.max-self-inside.result c.self.invariant.2 (omega (arith, c.max-self-inside.ensures)) (omega (arith, c.max-self-inside.ensures, room.0, c.self.invariant.2.within))) (omega (arith, c.max-self-inside.ensures)),
    )

pub invariant_of-self-else-left-eq0 : goal.invariant_of-self-else-left-eq0
invariant_of-self-else-left-eq0 c =
    let a = c.self.inside in
    let q = queue_of a.started.items a.waiting.items a.tiles a.ready.items in
    let within = subst (λ (v : Queued). c.args.task < length v.waiting) (sym c.self.view_is) c.requires.within in
    let waits = subst (λ (v : Queued). 0 < get_or v.waiting c.args.task 0) (sym c.self.view_is) c.requires.waits in
    (still_waits q a.total c.args.task (c.index.result.now - 1) c.self.invariant.0 within waits c.if-left-eq0.false, c.self.invariant.1, c.self.invariant.2)
