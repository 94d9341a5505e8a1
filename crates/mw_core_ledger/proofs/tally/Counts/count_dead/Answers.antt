use Rattle.std.proofs.Common.{◌≡◌, false, sym, ◌∙◌}
use Rattle.mw_model.specs.Stands.{is_wanted}
use Rattle.mw_core_ledger.proofs.CountLemmas.{counts-ended}
use Rattle.mw_core_ledger.proofs.tally.Counts.count_dead.Goals as goal

pub returns-else-wanted : goal.returns-else-wanted
returns-else-wanted c b o orderly counts wanted table in_progress was =
    let nobody : is_wanted b.table c.args.t ≡ false = sym wanted ∙ c.if-wanted.false in
    counts-ended b c.args.ledger.now c.args.self.now (record { ready = c.count.new.self.ready; running = c.count.new.self.running }) c.args.t c.args.was o orderly c.requires.within counts (table nobody) (in_progress nobody) nobody was c.count.ensures.ready c.count.ensures.running
