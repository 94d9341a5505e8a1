use Rattle.std.proofs.Common.{arith, ◌≡◌, ℕ, ◌+◌, ◌*◌, ◌∙◌, ◌<◌, ◌≤◌, List, length, get_or, ap, sym, set, subst, refl}
use Rattle.std.specs.List.{swap_remove}
use Rattle.std.specs.Global.{Vec}
use Rattle.mw_ready_queue.specs.Queues.{Queued, IsQueue, list_at, is_open}
use Rattle.mw_ready_queue.specs.Shown.{queue_of, items_of}
use Rattle.mw_ready_queue.proofs.Orders.{list_at-items}
use Rattle.mw_ready_queue.proofs.Opens.{taken_given, IsQueue-picked, items-set, room-set, room-at, length-items_of}
use Rattle.mw_ready_queue.proofs.Tops.{below_top, top-held, top-lowered}
use Rattle.mw_ready_queue.proofs.queue.Queue.take.Goals as goal

pub invariant_of-self : goal.invariant_of-self
invariant_of-self c =
    let a = c.self.inside in
    let q = queue_of a.started.items a.waiting.items a.tiles a.ready.items in
    let s = c.find-step.result.0 in
    let i = c.find-step.result.1 in
    let step-lt = subst (λ (v : Queued). s < length v.ready) (sym c.self.view_is) c.find-step.ensures.step in
    let at-lt = subst (λ (v : Queued). i < length (list_at v.ready s)) (sym c.self.view_is) c.find-step.ensures.at in
    let s-lt : s < length a.ready.items = omega (arith, step-lt, length-items_of a.ready.items) in
    let list-is = list_at-items a.ready.items (items_of a.ready.items) s c.index_mut.result.now refl s-lt c.index_mut.ensures.value in
    let now = set a.ready.items s c.swap_remove-tile.new.self in
    let u = c.swap_remove-tile.result in (
      taken_given q a.total s i u (items_of (set a.ready.items s c.swap_remove-tile.new.self)) c.self.invariant.0 step-lt at-lt (c.swap_remove-tile.ensures.value ∙ ap (λ (xs : List ℕ). get_or xs i u) (sym list-is))
          (items-set a.ready.items s c.swap_remove-tile.new.self (swap_remove (list_at q.ready s) i u) (c.swap_remove-tile.ensures.items ∙ ap (λ (xs : List ℕ). swap_remove xs i u) (sym list-is))),
      room-set a.tiles s a.ready.items c.swap_remove-tile.new.self c.self.invariant.1 s-lt (omega (arith, c.swap_remove-tile.ensures.capacity, room-at a.tiles s a.ready.items c.index_mut.result.now c.self.invariant.1 s-lt c.index_mut.ensures.value)),
      top-lowered (items_of now) a.top c.lowered-self-inside.result (top-held a.ready.items a.top s c.swap_remove-tile.new.self c.self.invariant.2 (below_top q.ready a.top s i c.self.invariant.2 step-lt at-lt)) c.lowered-self-inside.ensures.within
          (subst (λ (lists : List (Vec ℕ)). (k : ℕ) → c.lowered-self-inside.result ≤ k → k < a.top → length (list_at (items_of lists) k) ≡ 0) c.deref.ensures.value c.lowered-self-inside.ensures.none),
    )

pub returns-clause-tile : goal.returns-clause-tile
returns-clause-tile c = omega (arith, c.from.ensures, (IsQueue-picked c.self.inside.ready.items c.args.self.now c.self.inside.total c.find-step.result.0 c.find-step.result.1 c.swap_remove-tile.result c.index_mut.result.now (subst (λ (v : Queued). IsQueue v c.self.inside.total) c.self.view_is c.self.invariant.0) (ap (λ (v : Queued). v.ready) c.self.view_is) c.find-step.ensures.step c.find-step.ensures.at c.index_mut.ensures.value c.swap_remove-tile.ensures.value).0)

pub returns-clause-within : goal.returns-clause-within
returns-clause-within c = omega (arith, c.from.ensures, (IsQueue-picked c.self.inside.ready.items c.args.self.now c.self.inside.total c.find-step.result.0 c.find-step.result.1 c.swap_remove-tile.result c.index_mut.result.now (subst (λ (v : Queued). IsQueue v c.self.inside.total) c.self.view_is c.self.invariant.0) (ap (λ (v : Queued). v.ready) c.self.view_is) c.find-step.ensures.step c.find-step.ensures.at c.index_mut.ensures.value c.swap_remove-tile.ensures.value).1)

pub returns-clause-opened : goal.returns-clause-opened
returns-clause-opened c =
    let q = c.args.self.now in
    ap (λ (k : ℕ). is_open q.started q.waiting (c.find-step.result.0 * q.tiles + k)) c.from.ensures
    ∙ (IsQueue-picked c.self.inside.ready.items c.args.self.now c.self.inside.total c.find-step.result.0 c.find-step.result.1 c.swap_remove-tile.result c.index_mut.result.now (subst (λ (v : Queued). IsQueue v c.self.inside.total) c.self.view_is c.self.invariant.0) (ap (λ (v : Queued). v.ready) c.self.view_is) c.find-step.ensures.step c.find-step.ensures.at c.index_mut.ensures.value c.swap_remove-tile.ensures.value).2
