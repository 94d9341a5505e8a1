use Rattle.std.proofs.Common.{Bool, sym, subst}
use Rattle.mw_model.specs.Stands.{CoreView}
use Rattle.mw_core_waves.specs.Work.{Turned, AllWorked}
use Rattle.mw_core_waves.proofs.Turning.{worked-none, worked-on, worked-all, worked-long}
use Rattle.mw_core_waves.proofs.work.run_all_work.Goals as goal

pub turns-init : goal.turns-init
turns-init g c = λ m s none. worked-none m c.args.core.now s none

pub turns-preserved : goal.turns-preserved
turns-preserved g c = λ m s none.
    let h = c.turns.invariant m s none in
    let P : Bool → Type 0 = λ b. Turned h.state c.turns.core c.run_wave.new.core b in
    worked-on m c.args.core.now c.turns.core c.run_wave.new.core c.turns._turn h (subst P c.if-not-run_wave.false (c.run_wave.ensures h.state h.stands h.idle))

pub returns-then-not-run_wave : goal.returns-then-not-run_wave
returns-then-not-run_wave g c = λ m s none.
    let h = c.turns.invariant m s none in
    let P : Bool → Type 0 = λ b. Turned h.state c.turns.core c.run_wave.new.core b in
    let last = subst P c.if-not-run_wave.true (c.run_wave.ensures h.state h.stands h.idle) in
    let Q : CoreView → Type 0 = λ n. AllWorked m c.args.core.now n in
    subst Q (sym last.0) (worked-all m c.args.core.now c.turns.core c.turns._turn s h last.1)

pub returns : goal.returns
returns g c = λ m s none. absurd (worked-long m c.args.core.now c.turns.core c.turns._turn s c.turns-test.false (c.turns.invariant m s none))
