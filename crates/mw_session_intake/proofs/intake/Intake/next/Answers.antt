use Rattle.std.proofs.Common.{◌≡◌, ◌++◌, ◌+◌, ◌≤◌, inl, inr, ℕ, List, [], length, drop, take, min, ◌<◌, ◌-◌, refl, sym, ap, subst, ◌∙◌, arith, length-drop}
use Rattle.mw_session_intake.specs.Intake.{CameWithLine, Held, IsPayloadLine, IsTidy, line_for}
use Rattle.mw_session_intake.proofs.Feeds.{empty, on_err}
use Rattle.mw_session_intake.proofs.Tidy.{gathered_loose, line_place}
use Rattle.mw_session_intake.proofs.Front.{gathering_open, gathering_whole, begun_open, begun_whole, line_awaits, line_told}
use Rattle.std.specs.List.{position_or_len}
use Rattle.mw_session_intake.specs.Reading.{is_line_end}
use Rattle.std.proofs.lemmas.List.{drop_all}
use Rattle.std.proofs.lemmas.Grind.{common_steps}
use Rattle.mw_session_intake.proofs.intake.Intake.next.Goals as goal

pub returns-then-len-clause-ok : goal.returns-then-len-clause-ok
returns-then-len-clause-ok c =
    let inv = rw c.in-Some.is at c.self.invariant in
    let payload = c.self.inside.payload.items in
    let more = drop c.self.inside.at c.self.inside.rest.items in
    let was : line_for c.in-Some.what c.in-Some.len ++ payload ++ more ≡ c.args.self.now.bytes = rw c.in-Some.is at (ap (λ (h : Held). h.bytes) c.self.view_is) in
    let short : length payload < c.in-Some.len = omega (arith, c.self.inside.payload.ok.0) in
    let none : more ≡ [] = drop_all c.self.inside.at c.self.inside.rest.items (omega (arith, inv.1.2 short)) in
    (rw (← was) (gathering_open _ _ _ c.in-Some.what c.in-Some.len inv.1.0 none short), refl)

pub returns-in-Some-clause-ok : goal.returns-in-Some-clause-ok
returns-in-Some-clause-ok c =
    let inv = rw c.in-Some.is at c.self.invariant in
    let payload = c.self.inside.payload.items in
    let more = drop c.self.inside.at c.self.inside.rest.items in
    let line = line_for c.in-Some.what c.in-Some.len in
    let was : line ++ payload ++ more ≡ c.args.self.now.bytes = rw c.in-Some.is at (ap (λ (h : Held). h.bytes) c.self.view_is) in
    let whole : length payload ≡ c.in-Some.len = omega (arith, c.self.inside.payload.ok.0, inv.1.1) in
    rw (c.gathered-request.ensures.asked, c.gathered-request.ensures.payload, ← was) (gathering_whole line payload more c.in-Some.what c.in-Some.len inv.1.0 whole)

pub returns-then-n-len-clause-ok : goal.returns-then-n-len-clause-ok
returns-then-n-len-clause-ok c =
    let inv = rw c.in-None.is at c.self.invariant in
    let bytes : List ℕ = drop c.self.inside.at c.self.inside.rest.items in
    let was : bytes ≡ c.args.self.now.bytes = rw (c.in-None.is, inv.1) at (ap (λ (h : Held). h.bytes) c.self.view_is) in
    let payload : c.gather.new.payload.items ≡ take c.min-n.result (drop c.in-Payload.used bytes) = rw (inv.1, c.split_at-in-Payload.ensures.front, c.split_at.ensures.back, c.behind-bytes.ensures) at c.in_ok-gather-in-Payload.ensures.ok in
    let cut : IsPayloadLine (take c.in-Payload.used bytes) c.in-Payload.what c.in-Payload.len = rw c.behind-bytes.ensures at c.in-Payload.ensures.1 in
    let count : c.min-n.result ≡ min (length (drop c.in-Payload.used bytes)) c.in-Payload.len = grind (arith, common_steps) in
    begun_open c.args.self.now.bytes (line_for c.in-Payload.what c.in-Payload.len) c.gather.new.payload.items bytes c.self.inside.rest.items c.self.inside.at c.in-Payload.used c.min-n.result c.in-Payload.what c.in-Payload.len
    (sym was) refl (line_told _ _ _ cut) payload cut count (omega arith)

pub returns-else-n-len-clause-ok : goal.returns-else-n-len-clause-ok
returns-else-n-len-clause-ok c =
    let inv = rw c.in-None.is at c.self.invariant in
    let bytes : List ℕ = drop c.self.inside.at c.self.inside.rest.items in
    let was : bytes ≡ c.args.self.now.bytes = rw (c.in-None.is, inv.1) at (ap (λ (h : Held). h.bytes) c.self.view_is) in
    let payload : c.gather.new.payload.items ≡ take c.min-n.result (drop c.in-Payload.used bytes) = rw (inv.1, c.split_at-in-Payload.ensures.front, c.split_at.ensures.back, c.behind-bytes.ensures) at c.in_ok-gather-in-Payload.ensures.ok in
    let cut : IsPayloadLine (take c.in-Payload.used bytes) c.in-Payload.what c.in-Payload.len = rw c.behind-bytes.ensures at c.in-Payload.ensures.1 in
    let count : c.min-n.result ≡ min (length (drop c.in-Payload.used bytes)) c.in-Payload.len = grind (arith, common_steps) in
    rw (c.gathered.ensures.asked, c.gathered.ensures.payload, c.in-None.is)
    (begun_whole c.args.self.now.bytes (line_for c.in-Payload.what c.in-Payload.len) c.gather.new.payload.items bytes c.self.inside.rest.items c.self.inside.at c.in-Payload.used c.min-n.result c.in-Payload.what c.in-Payload.len
    (sym was) refl (line_told _ _ _ cut) payload cut count (omega arith))

pub returns-in_err-gather-in-Payload-clause-memory : goal.returns-in_err-gather-in-Payload-clause-memory
returns-in_err-gather-in-Payload-clause-memory c =
    let inv = rw c.in-None.is at c.self.invariant in
    let rest = c.self.inside.rest.items in
    let bytes : List ℕ = drop c.self.inside.at rest in
    let was : bytes ≡ c.args.self.now.bytes = rw (c.in-None.is, inv.1) at (ap (λ (h : Held). h.bytes) c.self.view_is) in
    let loose : length rest - c.self.inside.at ≡ c.args.self.now.loose = ap (λ (h : Held). h.loose) c.self.view_is in
    let cut : IsPayloadLine (take c.in-Payload.used bytes) c.in-Payload.what c.in-Payload.len = rw c.behind-bytes.ensures at c.in-Payload.ensures.1 in
    let long : length c.behind-bytes.result.now ≡ length bytes = ap (λ (l : List ℕ). length l) c.behind-bytes.ensures in
    let more : c.in-Payload.used < length bytes = omega (arith, c.in_err-gather-in-Payload.ensures.memory, c.split_at-in-Payload.ensures.front_len, c.split_at.ensures.back_len, long) in
    let P : List ℕ → Type 0 = λ l. IsPayloadLine (take c.in-Payload.used l) c.in-Payload.what c.in-Payload.len in
    let came : CameWithLine c.args.self.now = record {
      loose = sym loose ∙ sym (length-drop c.self.inside.at rest) ∙ ap (λ (l : List ℕ). length l) was;
      used = c.in-Payload.used;
      what = c.in-Payload.what;
      len = c.in-Payload.len;
      line = subst P was cut;
      more = rw was at more;
    }
    in
    on_err c.from_residual.result came

pub invariant_of-self-then-n-len : goal.invariant_of-self-then-n-len
invariant_of-self-then-n-len c =
    let inv = rw c.in-None.is at c.self.invariant in
    let rest = c.self.inside.rest.items in
    let bytes : List ℕ = drop c.self.inside.at rest in
    let cut : IsPayloadLine (take c.in-Payload.used bytes) c.in-Payload.what c.in-Payload.len = rw c.behind-bytes.ensures at c.in-Payload.ensures.1 in
    let long : length c.behind-bytes.result.now ≡ length bytes = ap (λ (l : List ℕ). length l) c.behind-bytes.ensures in
    let behind : length bytes ≡ length rest - c.self.inside.at = length-drop c.self.inside.at rest in
    let come : length c.gather.new.payload.items ≡ length c.split_at-in-Payload.result.0.now = ap (λ (l : List ℕ). length l) (rw inv.1 at c.in_ok-gather-in-Payload.ensures.ok) in
    let ends : c.self.inside.at + (c.in-Payload.used + c.min-n.result) ≡ length rest = omega (arith, c.if-n-len.true, c.min-n.ensures, c.split_at.ensures.back_len, c.in-Payload.ensures.0, long, behind, inv.0) in
    (omega (arith, ends), (line_awaits (take c.in-Payload.used bytes) c.in-Payload.what c.in-Payload.len cut, omega (arith, come, c.if-n-len.true, c.min-n.ensures, c.split_at-in-Payload.ensures.front_len), λ h. ends))

pub returns-then-len-clause-tidy : goal.returns-then-len-clause-tidy
returns-then-len-clause-tidy c = λ tidy.
    let inv = rw c.in-Some.is at c.self.invariant in
    let payload = c.self.inside.payload.items in
    let more = drop c.self.inside.at c.self.inside.rest.items in
    let was : line_for c.in-Some.what c.in-Some.len ++ payload ++ more ≡ c.args.self.now.bytes = rw c.in-Some.is at (ap (λ (h : Held). h.bytes) c.self.view_is) in
    let loose : length more ≡ c.args.self.now.loose = length-drop c.self.inside.at c.self.inside.rest.items ∙ ap (λ (h : Held). h.loose) c.self.view_is in
    inl (gathered_loose c.args.self.now (line_for c.in-Some.what c.in-Some.len) payload more c.in-Some.what c.in-Some.len was inv.1.0 tidy loose)

pub returns-in-Some-clause-tidy : goal.returns-in-Some-clause-tidy
returns-in-Some-clause-tidy c = λ tidy.
    let inv = rw c.in-Some.is at c.self.invariant in
    let payload = c.self.inside.payload.items in
    let rest = c.self.inside.rest.items in
    let more = drop c.self.inside.at rest in
    let line = line_for c.in-Some.what c.in-Some.len in
    let was : line ++ payload ++ more ≡ c.args.self.now.bytes = rw c.in-Some.is at (ap (λ (h : Held). h.bytes) c.self.view_is) in
    let shown : length rest - c.self.inside.at ≡ c.args.self.now.loose = ap (λ (h : Held). h.loose) c.self.view_is in
    let loose : length more ≡ c.args.self.now.loose = length-drop c.self.inside.at rest ∙ shown in
    let none = gathered_loose c.args.self.now line payload more c.in-Some.what c.in-Some.len was inv.1.0 tidy loose in
    (omega (arith, shown, none), rw c.gathered-request.ensures.payload (empty more (omega (arith, loose, none))))

pub returns-in-More-clause-tidy : goal.returns-in-More-clause-tidy
returns-in-More-clause-tidy c = λ tidy.
    let inv = rw c.in-None.is at c.self.invariant in
    let rest = c.self.inside.rest.items in
    let bytes : List ℕ = drop c.self.inside.at rest in
    let was : bytes ≡ c.args.self.now.bytes = rw (c.in-None.is, inv.1) at (ap (λ (h : Held). h.bytes) c.self.view_is) in
    let shown : length rest - c.self.inside.at ≡ c.args.self.now.loose = ap (λ (h : Held). h.loose) c.self.view_is in
    let long : length bytes ≡ length c.args.self.now.bytes = ap (λ (l : List ℕ). length l) was in
    inr (omega (arith, shown, long, length-drop c.self.inside.at rest), rw (c.behind-bytes.ensures, was) at c.in-More.ensures.1)

-- no byte stands behind the first line of tidy bytes
ends-with-line : (h : Held) (place : ℕ) → IsTidy h → position_or_len is_line_end h.bytes + 1 ≡ place → h.loose ≡ length h.bytes → length h.bytes ≤ place
ends-with-line h place (inl none) is loose = omega (arith, none, loose)
ends-with-line h place (inr t) is loose = omega (arith, t.1, is)

pub returns-in-Alone-clause-tidy : goal.returns-in-Alone-clause-tidy
returns-in-Alone-clause-tidy c = λ tidy.
    let inv = rw c.in-None.is at c.self.invariant in
    let rest = c.self.inside.rest.items in
    let bytes : List ℕ = drop c.self.inside.at rest in
    let was : bytes ≡ c.args.self.now.bytes = rw (c.in-None.is, inv.1) at (ap (λ (h : Held). h.bytes) c.self.view_is) in
    let shown : length rest - c.self.inside.at ≡ c.args.self.now.loose = ap (λ (h : Held). h.loose) c.self.view_is in
    let long : length bytes ≡ length c.args.self.now.bytes = ap (λ (l : List ℕ). length l) was in
    let behind = length-drop c.self.inside.at rest in
    let place = rw (c.behind-bytes.ensures, was) at c.in-Alone.ensures.3 in
    let ends = ends-with-line c.args.self.now c.in-Alone.used tidy (sym place) (omega (arith, shown, long, behind)) in
    let all : length rest ≤ c.self.inside.at + c.in-Alone.used = omega (arith, ends, long, behind) in
    (omega (arith, all), rw (c.in-None.is, inv.1) (drop_all (c.self.inside.at + c.in-Alone.used) rest all))

pub returns-then-n-len-clause-tidy : goal.returns-then-n-len-clause-tidy
returns-then-n-len-clause-tidy c = λ tidy.
    let inv = rw c.in-None.is at c.self.invariant in
    let rest = c.self.inside.rest.items in
    let bytes : List ℕ = drop c.self.inside.at rest in
    let was : bytes ≡ c.args.self.now.bytes = rw (c.in-None.is, inv.1) at (ap (λ (h : Held). h.bytes) c.self.view_is) in
    let shown : length rest - c.self.inside.at ≡ c.args.self.now.loose = ap (λ (h : Held). h.loose) c.self.view_is in
    let long : length bytes ≡ length c.args.self.now.bytes = ap (λ (l : List ℕ). length l) was in
    let behind = length-drop c.self.inside.at rest in
    let cut : IsPayloadLine (take c.in-Payload.used bytes) c.in-Payload.what c.in-Payload.len = rw c.behind-bytes.ensures at c.in-Payload.ensures.1 in
    let within : c.in-Payload.used ≤ length bytes = rw c.behind-bytes.ensures at c.in-Payload.ensures.0 in
    let place = rw was at (line_place bytes c.in-Payload.used c.in-Payload.what c.in-Payload.len within cut) in
    let ends = ends-with-line c.args.self.now c.in-Payload.used tidy place (omega (arith, shown, long, behind)) in
    inl (omega (arith, ends, long, behind))

pub returns-else-n-len-clause-tidy : goal.returns-else-n-len-clause-tidy
returns-else-n-len-clause-tidy c = λ tidy.
    let inv = rw c.in-None.is at c.self.invariant in
    let rest = c.self.inside.rest.items in
    let bytes : List ℕ = drop c.self.inside.at rest in
    let was : bytes ≡ c.args.self.now.bytes = rw (c.in-None.is, inv.1) at (ap (λ (h : Held). h.bytes) c.self.view_is) in
    let shown : length rest - c.self.inside.at ≡ c.args.self.now.loose = ap (λ (h : Held). h.loose) c.self.view_is in
    let long : length bytes ≡ length c.args.self.now.bytes = ap (λ (l : List ℕ). length l) was in
    let behind = length-drop c.self.inside.at rest in
    let cut : IsPayloadLine (take c.in-Payload.used bytes) c.in-Payload.what c.in-Payload.len = rw c.behind-bytes.ensures at c.in-Payload.ensures.1 in
    let within : c.in-Payload.used ≤ length bytes = rw c.behind-bytes.ensures at c.in-Payload.ensures.0 in
    let place = rw was at (line_place bytes c.in-Payload.used c.in-Payload.what c.in-Payload.len within cut) in
    let ends = ends-with-line c.args.self.now c.in-Payload.used tidy place (omega (arith, shown, long, behind)) in
    let all : length rest ≤ c.self.inside.at + (c.in-Payload.used + c.min-n.result) = omega (arith, ends, long, behind) in
    (omega (arith, all), rw (c.gathered.ensures.payload, c.in-None.is) (drop_all (c.self.inside.at + (c.in-Payload.used + c.min-n.result)) rest all))
