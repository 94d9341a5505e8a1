use Rattle.std.proofs.Common.{ℕ, ◌+◌, ◌*◌, List, ap, sym, ◌∙◌, subst, arith, nat_eq, get_or, Bool}
use Rattle.std.specs.Global.{Vec}
use Rattle.std.proofs.lemmas.Bool.{ne_eqb, eq-eqb}
use Rattle.mw_ready_queue.specs.Queues.{Listed}
use Rattle.mw_ready_queue.proofs.Lists.{listed-next, listed-skip}
use Rattle.mw_ready_queue.proofs.queue.free_tiles.Goals as goal
use Rattle.mw_ready_queue.proofs.queue.free_tiles.Goals.{then-waiting-step-eq0, else-waiting-step-eq0}

pub loop-tile-preserved : goal.loop-tile-preserved
loop-tile-preserved c =
    let before = c.loop-tile.invariant in
    let tile = c.loop-tile.tile in
    let p : ℕ → Bool = λ t. nat_eq (get_or c.args.waiting.now (c.args.step * c.args.tiles + t) 0) 0 in
    elim c.if-waiting-step-eq0.branch [
      | then-waiting-step-eq0 w ↦ record {
        listed = subst (λ (xs : List ℕ). Listed (tile + 1) p xs) (sym (ap (λ (v : Vec ℕ). v.items) w.list-is ∙ w.push_reserved.ensures.items)) (listed-next tile p c.loop-tile.list.items before.listed (eq-eqb _ 0 w.if-waiting-step-eq0.true));
        few = omega (arith, before.few, ap (λ (v : Vec ℕ). v.len) w.list-is, w.push_reserved.ensures.len);
        room = omega (arith, before.room, ap (λ (v : Vec ℕ). v.cap) w.list-is, w.push_reserved.ensures.capacity);
      }
      | else-waiting-step-eq0 w ↦ record {
        listed = subst (λ (xs : List ℕ). Listed (tile + 1) p xs) (sym (ap (λ (v : Vec ℕ). v.items) w.list-is)) (listed-skip tile p c.loop-tile.list.items before.listed (ne_eqb _ 0 w.if-waiting-step-eq0.false));
        few = omega (arith, before.few, ap (λ (v : Vec ℕ). v.len) w.list-is);
        room = omega (arith, before.room, ap (λ (v : Vec ℕ). v.cap) w.list-is);
      }
    ]
