use Rattle.std.proofs.Common.{◌≡◌, ◌≤◌, ◌+◌, length, take, drop, sym, arith, length-drop, take-append-drop}
use Rattle.mw_session_intake.proofs.Misses.{misses_rest, misses_none, cut_misses_none}
use Rattle.mw_session_intake.proofs.intake.missing_of.Goals as goal

pub returns-in-Payload-clause-some : goal.returns-in-Payload-clause-some
returns-in-Payload-clause-some c = λ some.
    let bytes = c.args.bytes.now in
    let used = c.in-Payload.used in
    let sum : length (drop used bytes) + c.saturating_sub.result ≡ c.in-Payload.len = simp length-drop (omega (arith, c.in-Payload.ensures.0, c.saturating_sub.ensures, some)) in
    misses_rest bytes (take used bytes) (drop used bytes) c.in-Payload.field-0 c.in-Payload.len c.saturating_sub.result (sym (take-append-drop used bytes)) c.in-Payload.ensures.1 sum

pub returns-in-Payload-clause-none : goal.returns-in-Payload-clause-none
returns-in-Payload-clause-none c = λ zero n some.
    let bytes = c.args.bytes.now in
    let used = c.in-Payload.used in
    let whole : c.in-Payload.len ≤ length (drop used bytes) = simp length-drop (omega (arith, c.in-Payload.ensures.0, c.saturating_sub.ensures, zero)) in
    misses_none bytes (take used bytes) (drop used bytes) c.in-Payload.field-0 c.in-Payload.len n (sym (take-append-drop used bytes)) c.in-Payload.ensures.1 whole some

pub returns-in_default : goal.returns-in_default
returns-in_default c = record {
  some = λ h. absurd (omega (arith, h));
  none = λ zero n some. cut_misses_none c.cut_front.result c.args.bytes.now n c.cut_front.ensures c.in_default.not-Payload some;
}
