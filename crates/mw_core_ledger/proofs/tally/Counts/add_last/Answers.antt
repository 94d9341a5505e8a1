use Rattle.std.proofs.Common.{◌≡◌, ◌+◌, ◌-◌, length, ap, arith}
use Rattle.mw_core_ledger.specs.Counts.{Tally}
use Rattle.mw_core_ledger.proofs.CountLemmas.{counts-added}
use Rattle.mw_core_ledger.proofs.tally.Counts.add_last.Goals as goal

pub returns : goal.returns
returns c b k call n e u room orderly counts old is =
    let t = c.len-last.result - 1 in
    let held = c.args.self.now in
    let long : length c.self.inside.ready ≡ length held.ready = ap (λ (d : Tally). length d.ready) c.self.view_is in
    let last : t + 1 ≡ length held.ready = omega (arith, long, c.len-last.ensures, c.requires.some, c.requires.count) in
    counts-added b c.args.ledger.now k held (record { ready = c.count.new.self.ready; running = c.count.new.self.running }) t call n e u room orderly counts old is last c.count.ensures.ready c.count.ensures.running
