use Rattle.std.proofs.Common.{◌≡◌, ◌<◌, ℕ, ◌+◌, ◌*◌, ◌∙◌, not, ◌&&◌, nat_lt, ap, sym, subst, length, get_or, arith}
use Rattle.std.specs.List.{list_any}
use Rattle.std.proofs.lemmas.List.{get_or_default}
use Rattle.mw_model.specs.Tasks.{flag}
use Rattle.mw_grid.specs.Grids.{tile_count}
use Rattle.mw_ready.specs.Boards.{Turns, reads_by_needs, task_number, tasks_on}
use Rattle.mw_ready.specs.Kept.{board_of}
use Rattle.mw_grid.proofs.Lines.{number_of}
use Rattle.mw_ready.proofs.ReaderCounts.{is_read_is}
use Rattle.mw_ready.proofs.ready.Ready.is_read.Goals as goal

pub returns : goal.returns
returns c =
    let a = c.self.inside in
    let b = board_of a.needs.items a.grid a.queue a.finished.items in
    let step = subst (λ (v : Turns). c.args.step < length v.board.needs) (sym c.self.view_is) c.requires.step in
    let tile = subst (λ (v : Turns). c.args.tile < tile_count v.board.grid) (sym c.self.view_is) c.requires.tile in
    let lt = number_of (length b.needs) (tile_count b.grid) c.args.tile c.args.step tile step in
    subst (λ (v : Turns). nat_lt 0 c.index.result.now ≡ list_any (λ u. not (flag v.board.finished u) && reads_by_needs v.board.needs v.board.grid u (task_number v.board.grid c.args.step c.args.tile)) (tasks_on v.board)) c.self.view_is
    (ap (nat_lt 0) (c.index.ensures ∙ ap (λ (k : ℕ). get_or a.readers.items (c.args.step * k + c.args.tile) c.index.result.now) c.len.ensures.value ∙ get_or_default a.readers.items (task_number a.grid c.args.step c.args.tile) c.index.result.now 0 (omega (arith, lt, c.self.invariant.3.size))) ∙ is_read_is b a.readers.items (task_number a.grid c.args.step c.args.tile) c.self.invariant.3 lt)
