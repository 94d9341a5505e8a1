use Rattle.std.proofs.Common.{◌≡◌, ℕ, ◌+◌, ◌-◌, ◌≤◌, List, ◌++◌, length, drop, min, inl, refl, sym, ap, subst, ◌∙◌, arith, length-append, length-drop, take-append-drop}
use Rattle.mw_session_intake.specs.Intake.{Held, IsPortion, line_for, line_kept}
use Rattle.mw_session_intake.proofs.Feeds.{on_ok, both_on_err, fed_both, one_none, spare_lacks}
use Rattle.mw_session_intake.proofs.Tidy.{tidy_line, tidy_payload}
use Rattle.mw_session_intake.proofs.intake.Intake.feed.Goals as goal

pub returns-in-Some-clause-ok : goal.returns-in-Some-clause-ok
returns-in-Some-clause-ok c =
    let inv = rw c.in-Some.is at c.self.invariant in
    let payload = c.self.inside.payload.items in
    let waits = drop c.self.inside.at c.self.inside.rest.items in
    let mine = c.split_at.result.0.now in
    let other = c.split_at.result.1.now in
    let was : line_kept c.self.inside.wanted ++ payload ++ waits ≡ c.args.self.now.bytes = ap (λ (h : Held). h.bytes) c.self.view_is in
    let piece : mine ++ other ≡ c.args.piece.now = rw (c.split_at.ensures.front, c.split_at.ensures.back) (take-append-drop c.min.result c.args.piece.now) in
    let few : length mine + length payload ≤ c.in-Some.len = omega (arith, c.split_at.ensures.front_len, c.min.ensures, c.len.ensures, c.self.inside.payload.ok.0, inv.1.1) in
    let apart = one_none mine c.self.inside.rest.items (length payload) c.in-Some.len c.self.inside.at inv.1.2 few in
    on_ok c.append_both.result c.append_both.ensures.ok
    (λ e. rw (e.0, e.1, c.drop_front.ensures.items, ← was, ← piece) (fed_both (line_kept c.self.inside.wanted) payload waits mine other apart))

pub returns-in-None-clause-tidy : goal.returns-in-None-clause-tidy
returns-in-None-clause-tidy c =
    let inv = rw c.in-None.is at c.self.invariant in
    let rest = c.self.inside.rest.items in
    let waits = drop c.self.inside.at rest in
    let fed = c.append.new.v.items in
    let was : waits ≡ c.args.self.now.bytes = rw (c.in-None.is, inv.1) at (ap (λ (h : Held). h.bytes) c.self.view_is) in
    let shown : length rest - c.self.inside.at ≡ c.args.self.now.loose = ap (λ (h : Held). h.loose) c.self.view_is in
    on_ok c.append.result c.append.ensures.ok
    (λ e o part portion.
    let items : fed ≡ waits ++ c.args.piece.now = rw c.drop_front.ensures.items at e in
    let new : Held = record { bytes = line_kept c.self.inside.wanted ++ c.self.inside.payload.items ++ fed; loose = length fed - 0; spare = 0 } in
    let bytes : new.bytes ≡ fed = rw (c.in-None.is, inv.1) refl in
    let long : length new.bytes ≡ length fed = ap (λ (l : List ℕ). length l) bytes in
    let long_was : length waits ≡ length c.args.self.now.bytes = ap (λ (l : List ℕ). length l) was in
    tidy_line c.args.self.now new c.args.piece.now (omega (arith, long)) (bytes ∙ items ∙ ap (λ (l : List ℕ). l ++ c.args.piece.now) was) (omega (arith, shown, long_was, length-drop c.self.inside.at rest)) o portion)

pub returns-in-Some-clause-still : goal.returns-in-Some-clause-still
returns-in-Some-clause-still c =
    let inv = rw c.in-Some.is at c.self.invariant in
    let payload = c.append_both.new.payload in
    let rest = c.append_both.new.rest in
    let mine = c.split_at.result.0.now in
    let other = c.split_at.result.1.now in
    let piece : mine ++ other ≡ c.args.piece.now = rw (c.split_at.ensures.front, c.split_at.ensures.back) (take-append-drop c.min.result c.args.piece.now) in
    let whole : length (mine ++ other) ≡ length c.args.piece.now = ap (λ (l : List ℕ). length l) piece in
    both_on_err c.append_both.result c.append_both.ensures.err c.append_both.ensures.still
    (λ e full.
    let same : length payload.items ≡ length c.self.inside.payload.items = ap (λ (l : List ℕ). length l) e.0 in
    rw (c.in-Some.is, ← payload.ok.0, ← rest.ok.0)
    (spare_lacks payload.len payload.cap c.in-Some.len rest.len (rest.len - 0) rest.cap (length mine) (length other) (length c.args.piece.now) (omega arith) payload.ok.1 (omega (arith, same, payload.ok.0, inv.1.1)) rest.ok.1
    (omega (arith, c.split_at.ensures.front_len, c.min.ensures, c.len.ensures, c.self.inside.payload.ok.0, same, payload.ok.0)) (omega (arith, whole, length-append mine other)) full))

pub returns-in-Some-clause-tidy : goal.returns-in-Some-clause-tidy
returns-in-Some-clause-tidy c =
    let inv = rw c.in-Some.is at c.self.invariant in
    let rest = c.self.inside.rest.items in
    let payload = c.self.inside.payload.items in
    let waits = drop c.self.inside.at rest in
    let mine = c.split_at.result.0.now in
    let other = c.split_at.result.1.now in
    let line = line_for c.in-Some.field-0-0 c.in-Some.len in
    let was : line ++ payload ++ waits ≡ c.args.self.now.bytes = rw c.in-Some.is at (ap (λ (h : Held). h.bytes) c.self.view_is) in
    let shown : length rest - c.self.inside.at ≡ c.args.self.now.loose = ap (λ (h : Held). h.loose) c.self.view_is in
    let piece : mine ++ other ≡ c.args.piece.now = rw (c.split_at.ensures.front, c.split_at.ensures.back) (take-append-drop c.min.result c.args.piece.now) in
    let Fits : List ℕ → Type 0 = λ l. IsPortion c.args.self.now l in
    let few : length payload ≤ c.in-Some.len = omega (arith, inv.1.1) in
    let whole : length (mine ++ other) ≡ length c.args.piece.now = ap (λ (l : List ℕ). length l) piece in
    let count : length mine ≡ min (c.in-Some.len - length payload) (length (mine ++ other)) = omega (arith, c.split_at.ensures.front_len, c.min.ensures, c.len.ensures, c.self.inside.payload.ok.0, inv.1.1, whole) in
    on_ok c.append_both.result c.append_both.ensures.ok
    (λ e o part portion.
    let none = tidy_payload c.args.self.now line payload waits mine other c.in-Some.field-0-0 c.in-Some.len was inv.1.0 (omega (arith, shown, length-drop c.self.inside.at rest)) few o part (subst Fits (sym piece) portion) count in
    let items = ap (λ (l : List ℕ). length l) (rw c.drop_front.ensures.items at e.1) in
    inl (omega (arith, none, items, length-append waits other)))
