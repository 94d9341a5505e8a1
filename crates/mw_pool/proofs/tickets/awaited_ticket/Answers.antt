use Rattle.std.proofs.Common.{Some, false}
use Rattle.mw_pool.proofs.NameLemmas.{awaited-iff, ticket-stands}
use Rattle.mw_pool.proofs.tickets.awaited_ticket.Goals as goal

pub returns-else-is_some-clause-awaited : goal.returns-else-is_some-clause-awaited
returns-else-is_some-clause-awaited c = λ m s. awaited-iff m c.args.name c.in_ok-t.t c.remaining.result false (ticket-stands c.args.core.now m c.args.name (Some c.in_ok-t.t) s c.in_ok-t.ensures) (c.remaining.ensures.pending m s) c.if-is_some.ensures
