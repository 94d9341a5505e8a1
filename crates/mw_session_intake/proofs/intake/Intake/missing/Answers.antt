use Rattle.std.proofs.Common.{◌≡◌, ◌++◌, ◌≤◌, length, drop, sym, ap, subst, ◌∙◌, arith, append_assoc, length-append}
use Rattle.mw_session_intake.specs.Intake.{Held, Misses, line_for}
use Rattle.mw_session_intake.proofs.Misses.{misses_none}
use Rattle.mw_session_intake.proofs.intake.Intake.missing.Goals as goal

pub returns-in-Some-clause-none : goal.returns-in-Some-clause-none
returns-in-Some-clause-none c = λ zero n some.
    let inv = rw c.in-Some.is at c.self.invariant in
    let line = line_for c.in-Some.field-0-0 c.in-Some.len in
    let payload = c.self.inside.payload.items in
    let more = drop c.self.inside.at c.self.inside.rest.items in
    let was : line ++ payload ++ more ≡ c.args.self.now.bytes = rw c.in-Some.is at (ap (λ (h : Held). h.bytes) c.self.view_is) in
    let whole : c.in-Some.len ≤ length (payload ++ more) = simp length-append (omega (arith, zero, c.self.inside.payload.ok.0, c.len.ensures)) in
    misses_none c.args.self.now.bytes line (payload ++ more) c.in-Some.field-0-0 c.in-Some.len n (sym was ∙ append_assoc line payload more) inv.1.0 whole some

pub returns-in-None-clause-none : goal.returns-in-None-clause-none
returns-in-None-clause-none c = λ zero n some m.
    let inv = rw c.in-None.is at c.self.invariant in
    let was = rw (c.in-None.is, inv.1) at (ap (λ (h : Held). h.bytes) c.self.view_is) in
    let old : c.args.self.now.bytes ≡ c.behind.result.now = sym was ∙ sym c.behind.ensures in
    c.missing_of.ensures.none zero n some (subst (λ l. Misses l n) old m)
