use Rattle.std.proofs.Common.{◌≡◌, ℕ, subst}
use Rattle.mw_core.specs.TaskAnswers.{Picks}
use Rattle.mw_core_waves.proofs.Waving.{take}
use Rattle.mw_core_waves.proofs.wave.start_next.Goals as goal

pub returns-clause-took : goal.returns-clause-took
returns-clause-took g c = λ m old jobs n h. take m old c.args.core.now c.start.new.self jobs n c.start.result h (c.start.ensures.task h.state h.stands) c.start.ensures.side

pub returns-clause-turn : goal.returns-clause-turn
returns-clause-turn g c =
    let P : ℕ → Type 0 = λ n. c.pick-place.result ≡ g.P.Pick.place c.args.pick.now n in
    let place = subst P c.ready_count-count.ensures c.pick-place.ensures in
    let Q : ℕ → Type 0 = λ n. Picks c.args.core.now n c.start.result in
    subst Q place c.start.ensures.turn
