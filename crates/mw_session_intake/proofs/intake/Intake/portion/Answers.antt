use Rattle.std.proofs.Common.{◌≡◌, ◌<◌, arith}
use Rattle.mw_session_intake.proofs.Misses.{misses_once}
use Rattle.mw_session_intake.proofs.Tidy.{is_portion}
use Rattle.mw_session_intake.proofs.intake.Intake.portion.Goals as goal

pub returns-then-missing-gt0-clause-payload : goal.returns-then-missing-gt0-clause-payload
returns-then-missing-gt0-clause-payload c = λ n some m.
    let there : 0 < c.missing-missing.result = omega (arith, c.if-missing-gt0.true) in
    let same : c.missing-missing.result ≡ n = misses_once c.args.self.now.bytes c.missing-missing.result n (c.missing-missing.ensures.some there) m in
    omega (arith, same, c.min.ensures)

pub returns-then-missing-gt0-clause-line : goal.returns-then-missing-gt0-clause-line
returns-then-missing-gt0-clause-line c = λ never.
    let there : 0 < c.missing-missing.result = omega (arith, c.if-missing-gt0.true) in absurd (never c.missing-missing.result there (c.missing-missing.ensures.some there))

pub returns-clause-payload : goal.returns-clause-payload
returns-clause-payload c = λ n some m. absurd (c.missing-missing.ensures.none (omega (arith, c.if-missing-gt0.false)) n some m)

pub returns-then-missing-gt0-clause-portion : goal.returns-then-missing-gt0-clause-portion
returns-then-missing-gt0-clause-portion c =
    let there : 0 < c.missing-missing.result = omega (arith, c.if-missing-gt0.true) in
    is_portion c.args.self.now c.args.piece.now c.min.result
    (λ n some m. let same = misses_once c.args.self.now.bytes c.missing-missing.result n (c.missing-missing.ensures.some there) m in omega (arith, same, c.min.ensures))
    (λ never. absurd (never c.missing-missing.result there (c.missing-missing.ensures.some there)))

pub returns-clause-portion : goal.returns-clause-portion
returns-clause-portion c =
    let zero : c.missing-missing.result ≡ 0 = omega (arith, c.if-missing-gt0.false) in
    is_portion c.args.self.now c.args.piece.now c.min-2.result (λ n some m. absurd (c.missing-missing.ensures.none zero n some m)) (λ never. omega (arith, c.min-2.ensures, c.line_end.ensures))
