-- What the payload that the line at the front awaits misses.
use Rattle.std.proofs.Common.{◌≡◌, ℕ, ◌+◌, ◌<◌, ◌≤◌, List, ◌++◌, length, take, refl, sym, ◌∙◌, arith, Some, length-append}
use Rattle.std.proofs.lemmas.List.{take_at}
use Rattle.std.specs.List.{position_or_len}
use Rattle.mw_model.proofs.mw_facts.Positions.{position_kept}
use Rattle.mw_model.specs.Lines.{Partial}
use Rattle.mw_model.specs.declared.requests.Awaited.{Awaited}
use Rattle.mw_model.specs.declared.requests.Head.TheVariants.{Payload}
use Rattle.mw_session_intake.specs.declared.cut.Cut.{Cut}
use Rattle.mw_session_intake.specs.declared.cut.Cut.TheVariants as cut
use Rattle.mw_session_intake.specs.Cut.{IsCutOf}
use Rattle.mw_session_intake.specs.Intake.{IsPayloadLine, Misses}
use Rattle.mw_session_intake.specs.Reading.{is_line_end, front}
use Rattle.mw_session_intake.proofs.Front.{front_gathered, payload_partial}

-- where something is missed, a line stands whole
pub misses_line : (bytes : List ℕ) (n : ℕ) → Misses bytes n → position_or_len is_line_end bytes < length bytes
misses_line bytes n (line, got, what, is, g) =
    let k : position_or_len is_line_end (line ++ got) ≡ position_or_len is_line_end line = position_kept is_line_end line got (omega (arith, g.ends)) in
    rw is (rw k (simp length-append (omega (arith, g.ends))))

-- and no request
pub misses_partial : (bytes : List ℕ) (n : ℕ) → 0 < n → Misses bytes n → front bytes ≡ Partial
misses_partial bytes n some (line, got, what, is, g) =
    rw is (front_gathered line got what (length got + n) g ∙ payload_partial what (length got + n) got g.limit (omega arith))

-- the line that awaits a payload is the first, and its LF stands there
line_is : (bytes line got : List ℕ) (what : Awaited) (len : ℕ) → bytes ≡ line ++ got → IsPayloadLine line what len → (length line ≡ position_or_len is_line_end bytes + 1) × (line ≡ take (length line) bytes)
line_is bytes line got what len is g =
    let k : position_or_len is_line_end (line ++ got) ≡ position_or_len is_line_end line = position_kept is_line_end line got (omega (arith, g.ends)) in
    (rw is (omega (arith, k, g.ends)), rw is (sym (take_at line got (length line) refl)))

head_payload : (v w : Awaited) (a b : ℕ) → Some (Payload v a) ≡ Some (Payload w b) → a ≡ b
head_payload v w a b e = cc

-- the line at the front awaits one length
pub one_length : (bytes line got more : List ℕ) (what that : Awaited) (a b : ℕ) → bytes ≡ line ++ got → IsPayloadLine line what a → (other : List ℕ) → bytes ≡ other ++ more → IsPayloadLine other that b → (a ≡ b) × (length got ≡ length more)
one_length bytes line got more what that a b is g other was h =
    let x = line_is bytes line got what a is g in
    let y = line_is bytes other more that b was h in
    let same : line ≡ other = x.1 ∙ rw (x.0, y.0) refl ∙ sym y.1 in
    let all : length bytes ≡ length line + length got = rw is (length-append line got) in
    let too : length bytes ≡ length other + length more = rw was (length-append other more) in
    (head_payload what that a b (sym g.head ∙ rw same h.head), omega (arith, all, too, x.0, y.0))

pub misses_once : (bytes : List ℕ) (n m : ℕ) → Misses bytes n → Misses bytes m → n ≡ m
misses_once bytes n m (line, got, what, is, g) (other, more, that, was, h) =
    let e = one_length bytes line got more what that (length got + n) (length more + m) is g other was h in omega (arith, e.0, e.1)

-- a payload of which all has come misses nothing
pub misses_none : (bytes line got : List ℕ) (what : Awaited) (len n : ℕ) → bytes ≡ line ++ got → IsPayloadLine line what len → len ≤ length got → 0 < n → ¬ Misses bytes n
misses_none bytes line got what len n is g whole some (other, more, that, was, h) =
    let e = one_length bytes line got more what that len (length more + n) is g other was h in absurd (omega (arith, e.0, e.1))

pub misses_rest : (bytes line got : List ℕ) (what : Awaited) (len n : ℕ) → bytes ≡ line ++ got → IsPayloadLine line what len → length got + n ≡ len → Misses bytes n
misses_rest bytes line got what len n is g sum = (line, got, what, is, rw sum g)

-- what is no line that awaits a payload misses nothing
pub cut_misses_none : (c : Cut) (bytes : List ℕ) (n : ℕ) → IsCutOf c bytes → ((what : Awaited) (len used : ℕ) → c ≡ cut.Payload what len used → ⊥) → 0 < n → ¬ Misses bytes n
cut_misses_none (cut.Bad d) bytes n is other some m = let waits = misses_partial bytes n some m in cc
cut_misses_none cut.More bytes n is other some m = let whole = misses_line bytes n m in omega (arith, whole, is.1)
cut_misses_none (cut.Alone a used) bytes n is other some m = let waits = misses_partial bytes n some m in cc
cut_misses_none (cut.Payload what len used) bytes n is other some m = other what len used refl
