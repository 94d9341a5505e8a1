use Rattle.std.proofs.Common.{◌≡◌, ℕ, ◌+◌, ◌-◌, ◌*◌, ◌∙◌, ◌++◌, List, length, take, drop, ap, subst, sym, true, set, arith}
use Rattle.std.proofs.lemmas.List.{get_or_default}
use Rattle.mw_model.proofs.mw_facts.Elements.{take-written}
use Rattle.mw_ready.specs.Boards.{Turns, task_number, RunsOn, no_need}
use Rattle.mw_ready.specs.Kept.{board_of, Keeps, CountsReaders, takes}
use Rattle.mw_ready.specs.Counters.{Lowers, NoneIsZero}
use Rattle.mw_ready.proofs.Keeping.{some_run, readers_wait_given, finish_keeps_given, number_within}
use Rattle.mw_ready.proofs.ReaderCounts.{readers_counted, finish_readers}
use Rattle.mw_ready.proofs.ready.Ready.finish.Goals as goal

pub overflow_sub-self : goal.overflow_sub-self
overflow_sub-self c =
    let a = c.self.inside in
    let b = board_of a.needs.items a.grid a.queue a.finished.items in
    let runs = subst (λ (v : Turns). RunsOn v.board c.args.step c.args.tile) (sym c.self.view_is) c.requires in
    (some_run b a.queue.waiting a.queue.waiting a.running a.remaining (task_number a.grid c.args.step c.args.tile) c.self.invariant.0 (number_within b c.args.step c.args.tile runs) runs.running).0

pub overflow_sub-self-2 : goal.overflow_sub-self-2
overflow_sub-self-2 c =
    let a = c.self.inside in
    let b = board_of a.needs.items a.grid a.queue a.finished.items in
    let runs = subst (λ (v : Turns). RunsOn v.board c.args.step c.args.tile) (sym c.self.view_is) c.requires in
    (some_run b a.queue.waiting a.queue.waiting a.running a.remaining (task_number a.grid c.args.step c.args.tile) c.self.invariant.0 (number_within b c.args.step c.args.tile runs) runs.running).1

pub release_readers-requires-clause-waiting : goal.release_readers-requires-clause-waiting
release_readers-requires-clause-waiting c =
    let a = c.self.inside in
    let runs = subst (λ (v : Turns). RunsOn v.board c.args.step c.args.tile) (sym c.self.view_is) c.requires in
    readers_wait_given a.needs.items c.deref.result.now a.grid a.queue a.finished.items a.running a.remaining c.args.step c.args.tile c.self.invariant.0 runs c.deref.ensures.value

pub lower_sources-requires-clause-some : goal.lower_sources-requires-clause-some
lower_sources-requires-clause-some c =
    let a = c.self.inside in
    let b = board_of a.needs.items a.grid a.queue a.finished.items in
    let need = c.index-need.result.now in
    let runs = subst (λ (v : Turns). RunsOn v.board c.args.step c.args.tile) (sym c.self.view_is) c.requires in
    let need-is = sym (c.index-need.ensures ∙ get_or_default a.needs.items c.args.step need no_need runs.within) in
    subst (λ (xs : List ℕ). NoneIsZero (takes need a.grid c.args.tile) xs) (sym c.deref_mut.ensures.value)
    (readers_counted b a.readers.items a.queue.waiting need a.running a.remaining c.args.step c.args.tile c.self.invariant.0 c.self.invariant.3 runs need-is)

pub invariant_of-self : goal.invariant_of-self
invariant_of-self c =
    let a = c.self.inside in
    let b = board_of a.needs.items a.grid a.queue a.finished.items in
    let runs = subst (λ (v : Turns). RunsOn v.board c.args.step c.args.tile) (sym c.self.view_is) c.requires in
    let e = c.release_readers.ensures in
    let need = c.index-need.result.now in
    let need-is = sym (c.index-need.ensures ∙ get_or_default a.needs.items c.args.step need no_need runs.within) in
    let value = c.deref_mut.ensures.value in
    let new = c.lower_sources.new.counts in
    let new-size : length new ≡ a.readers.len = c.lower_sources.ensures.size ∙ ap (λ (xs : List ℕ). length xs) value ∙ (let ok = a.readers.ok in omega arith) in
    let readers = take a.readers.len (new ++ drop (length new) a.readers.items) in
    let lowered : Lowers (takes need a.grid c.args.tile) a.readers.items readers =
    subst (λ (xs : List ℕ). Lowers (takes need a.grid c.args.tile) a.readers.items xs) (sym (take-written a.readers.items new a.readers.len new-size)) (subst (λ (xs : List ℕ). Lowers (takes need a.grid c.args.tile) xs new) value c.lower_sources.ensures) in (
      subst (λ (k : ℕ). Keeps (board_of a.needs.items a.grid c.release_readers.new.queue (set a.finished.items (c.args.step * k + c.args.tile) true)) c.release_readers.new.queue.waiting (a.running - 1) (a.remaining - 1)) (sym c.len.ensures.value)
          (finish_keeps_given b a.queue.waiting c.release_readers.new.queue.waiting c.release_readers.new.queue.started c.deref.result.now a.running a.remaining c.args.step c.args.tile c.self.invariant.0 runs c.deref.ensures.value e.lowers e.same.started),
      e.same.tiles ∙ c.self.invariant.1,
      c.self.invariant.2,
      subst (λ (k : ℕ). CountsReaders (board_of a.needs.items a.grid c.release_readers.new.queue (set a.finished.items (c.args.step * k + c.args.tile) true)) readers) (sym c.len.ensures.value)
          (finish_readers b a.readers.items readers a.queue.waiting c.release_readers.new.queue.started need a.running a.remaining c.args.step c.args.tile c.self.invariant.0 c.self.invariant.3 runs need-is lowered),
      c.self.invariant.4,
    )
