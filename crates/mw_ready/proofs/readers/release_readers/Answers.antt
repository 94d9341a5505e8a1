use Rattle.std.proofs.Common.{arith, ◌≡◌, ◌+◌, ◌∙◌, ℕ, get_or, sym, ap, subst, refl, length}
use Rattle.std.proofs.lemmas.Bool.{eq-eqb}
use Rattle.mw_grid.specs.Grids.{columns_of, rows_of}
use Rattle.mw_ready_queue.specs.Queues.{Queued}
use Rattle.mw_ready.specs.Counters.{Lowers}
use Rattle.mw_ready.specs.Boards.{no_need}
use Rattle.mw_ready.specs.Links.{Skips, link_at}
use Rattle.mw_ready.proofs.Boxes.{lowers_step, lowers_skip, lowers_past, lowers_none, step_waits, lowers_all_given, boxes_fit, readers}
use Rattle.mw_ready.proofs.readers.release_readers.Goals as goal
use Rattle.mw_ready.proofs.readers.release_readers.Goals.{then-does_read, else-does_read}

pub loop-reader-init : goal.loop-reader-init
loop-reader-init c =
    let a = c.args in
    let first : c.first_reader-reader.result ≡ (link_at a.links.now a.step).first = c.first_reader-reader.ensures a.step (omega (arith, c.requires.step, c.requires.linked.size)) (eq-eqb a.step a.step refl) in
    record {
      same = record { started = refl; tiles = refl };
      lowers = lowers_none a.needs.now a.grid c.first_reader-reader.result a.step a.tile a.queue.now.waiting (subst (λ (k : ℕ). Skips a.needs.now a.step 0 k) (sym first) (c.requires.linked.first a.step c.requires.step));
    }

pub release_tiles-requires-clause-fits : goal.release_tiles-requires-clause-fits
release_tiles-requires-clause-fits c =
    let a = c.args in
    let size = c.loop-reader.invariant.lowers.size in
    omega (arith, boxes_fit c.loop-reader.reader (length a.needs.now) (rows_of a.grid) (columns_of a.grid) c.loop-reader-test.true, size, c.requires.size)

pub release_tiles-requires-clause-waiting : goal.release_tiles-requires-clause-waiting
release_tiles-requires-clause-waiting c =
    let a = c.args in
    step_waits a.needs.now (get_or a.needs.now c.loop-reader.reader no_need) a.grid c.loop-reader.reader a.step a.tile a.queue.now c.loop-reader.queue refl (sym c.does_read.ensures ∙ c.if-does_read.true) c.loop-reader.invariant.same.started c.requires.waiting c.loop-reader.invariant.lowers

pub loop-reader-preserved : goal.loop-reader-preserved
loop-reader-preserved c =
    let a = c.args in
    let k = c.loop-reader.reader in
    let need = get_or a.needs.now k no_need in
    let before = c.loop-reader.invariant in
    elim c.if-does_read.branch [
      | then-does_read w ↦ record {
        same = record {
          started = ap (λ (q : Queued). q.started) w.queue-is ∙ w.release_tiles.ensures.same.started ∙ before.same.started;
          tiles = ap (λ (q : Queued). q.tiles) w.queue-is ∙ w.release_tiles.ensures.same.tiles ∙ before.same.tiles;
        };
        lowers = subst (λ (q : Queued). Lowers (readers a.needs.now a.grid a.step a.tile c.next_reader-reader.result) a.queue.now.waiting q.waiting) (sym w.queue-is)
            (lowers_past a.needs.now a.grid (k + 1) c.next_reader-reader.result a.step a.tile a.queue.now.waiting w.release_tiles.new.queue.waiting c.next_reader-reader.ensures
            (lowers_step a.needs.now need a.grid k a.step a.tile a.queue.now.waiting c.loop-reader.queue.waiting w.release_tiles.new.queue.waiting refl (sym c.does_read.ensures ∙ w.if-does_read.true) before.lowers w.release_tiles.ensures.lowers));
      }
      | else-does_read w ↦ record {
        same = record {
          started = ap (λ (q : Queued). q.started) w.queue-is ∙ before.same.started;
          tiles = ap (λ (q : Queued). q.tiles) w.queue-is ∙ before.same.tiles;
        };
        lowers = subst (λ (q : Queued). Lowers (readers a.needs.now a.grid a.step a.tile c.next_reader-reader.result) a.queue.now.waiting q.waiting) (sym w.queue-is)
            (lowers_past a.needs.now a.grid (k + 1) c.next_reader-reader.result a.step a.tile a.queue.now.waiting c.loop-reader.queue.waiting c.next_reader-reader.ensures
            (lowers_skip a.needs.now need a.grid k a.step a.tile a.queue.now.waiting c.loop-reader.queue.waiting refl (sym c.does_read.ensures ∙ w.if-does_read.false) before.lowers));
      }
    ]

pub returns-clause-lowers : goal.returns-clause-lowers
returns-clause-lowers c =
    lowers_all_given c.args.needs.now c.args.grid (length c.args.needs.now) c.loop-reader.reader c.args.step c.args.tile c.args.queue.now.waiting c.loop-reader.queue.waiting (omega arith) c.requires.size c.loop-reader.invariant.lowers
