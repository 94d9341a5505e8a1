use Rattle.mw_core_ledger.proofs.CountLemmas.{counts-followed}
use Rattle.mw_core_ledger.proofs.tally.Counts.follow.Goals as goal

pub returns : goal.returns
returns c b x orderly counts is was =
    counts-followed b c.args.ledger.now c.args.self.now (record { ready = c.count.new.self.ready; running = c.count.new.self.running }) c.args.t c.args.was x orderly c.requires.within counts is was c.count.ensures.ready c.count.ensures.running
