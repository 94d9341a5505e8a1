-- What is fed by portions, and cut after each: no byte of a payload stands with its line.
use Rattle.std.proofs.Common.{◌≡◌, ℕ, zero, suc, ◌+◌, ◌-◌, ◌<◌, ◌≤◌, Bool, true, false, not, cond, List, [], ◌∷◌, ◌++◌, length, take, drop, min, inl, inr, sym, ap, ◌∙◌, arith, append_assoc, length-append, length-take, take-append-drop}
use Rattle.std.specs.List.{position_or_len}
use Rattle.std.proofs.lemmas.Bool.{cases_lt}
use Rattle.mw_model.proofs.mw_facts.Positions.{position_length, position_kept, position_take}
use Rattle.mw_model.specs.Lines.{Partial}
use Rattle.mw_model.specs.declared.requests.Awaited.{Awaited}
use Rattle.mw_session_intake.specs.Intake.{Held, CameWithLine, HasNoWholeLine, IsPayloadLine, IsPortion, IsTidy, Misses}
use Rattle.mw_session_intake.specs.Reading.{is_line_end, front}
use Rattle.mw_session_intake.proofs.Front.{gathering_whole}
use Rattle.mw_session_intake.proofs.Misses.{misses_line, misses_rest}

after_step : (t : Bool) (a b n m : ℕ) → cond (not t) (1 + a) 0 ≡ suc n → (a ≡ n → b ≡ n + m) → cond (not t) (1 + b) 0 ≡ suc n + m
after_step true a b n m e f = absurd (omega arith)
after_step false a b n m e f = let k = f (omega arith) in omega (arith, k)

-- where none of the first bytes is found
position_after : (p : ℕ → Bool) (xs ys : List ℕ) → position_or_len p xs ≡ length xs → position_or_len p (xs ++ ys) ≡ length xs + position_or_len p ys
position_after p [] ys e = omega arith
position_after p (x ∷ xs) ys e = after_step (p x) (position_or_len p xs) (position_or_len p (xs ++ ys)) (length xs) (position_or_len p ys) e (position_after p xs ys)

take_step : (t : Bool) (a b n l : ℕ) → suc n ≤ cond (not t) (1 + a) 0 → (n ≤ a → l ≤ b) → suc l ≤ cond (not t) (1 + b) 0
take_step true a b n l h f = absurd (omega arith)
take_step false a b n l h f = let k = f (omega arith) in omega (arith, k)

-- a front of the bytes before the first that is found
position_before : (p : ℕ → Bool) (xs : List ℕ) (n : ℕ) → n ≤ position_or_len p xs → length (take n xs) ≤ position_or_len p (take n xs)
position_before p [] zero h = omega arith
position_before p [] (suc n) h = omega arith
position_before p (x ∷ xs) zero h = omega arith
position_before p (x ∷ xs) (suc n) h = take_step (p x) (position_or_len p xs) (position_or_len p (take n xs)) n (length (take n xs)) h (position_before p xs n)

portion_line : (rest : List ℕ) (n : ℕ) → n ≤ position_or_len is_line_end rest + 1 → length (take n rest) ≤ position_or_len is_line_end (take n rest) + 1
portion_line rest n h = elim (cases_lt (position_or_len is_line_end rest) n) [
  | inl l ↦ let same = position_take is_line_end rest n l in omega (arith, same, h, length-take n rest)
  | inr l ↦ omega (arith, position_before is_line_end rest n (omega (arith, l)))
]

-- a front of what waits, as long as a portion is to be
pub is_portion : (h : Held) (rest : List ℕ) (n : ℕ) → ((m : ℕ) → 0 < m → Misses h.bytes m → n ≡ min m (length rest))
    → (((m : ℕ) → 0 < m → ¬ Misses h.bytes m) → n ≡ min (min 201 (position_or_len is_line_end rest) + 1) (length rest)) → IsPortion h (take n rest)
is_portion h rest n p l = record {
  payload = λ m some missing. let e = p m some missing in omega (arith, e, length-take n rest);
  line = λ never. portion_line rest n (let e = l never in omega (arith, e));
}

-- a line of its own that awaits a payload ends with the first LF
pub line_place : (bytes : List ℕ) (used : ℕ) (what : Awaited) (len : ℕ) → used ≤ length bytes → IsPayloadLine (take used bytes) what len → position_or_len is_line_end bytes + 1 ≡ used
line_place bytes used what len within g =
    let long : length (take used bytes) ≡ used = simp length-take (omega arith) in
    let kept : position_or_len is_line_end (take used bytes ++ drop used bytes) ≡ position_or_len is_line_end (take used bytes) = position_kept is_line_end (take used bytes) (drop used bytes) (omega (arith, g.ends)) in
    let same : position_or_len is_line_end bytes ≡ position_or_len is_line_end (take used bytes) = ap (position_or_len is_line_end) (sym (take-append-drop used bytes)) ∙ kept in
    omega (arith, same, long, g.ends)

pub tidy_never : (h : Held) → IsTidy h → CameWithLine h → ⊥
tidy_never h (inl none) c = omega (arith, none, c.loose, c.more)
tidy_never h (inr t) c =
    let place = line_place h.bytes c.used c.what c.len (omega (arith, c.more)) c.line in
    omega (arith, place, t.1, c.more)

-- what is gathered is not loose
pub gathered_loose : (h : Held) (line payload waits : List ℕ) (what : Awaited) (len : ℕ) → line ++ payload ++ waits ≡ h.bytes → IsPayloadLine line what len → IsTidy h → length waits ≡ h.loose → h.loose ≡ 0
gathered_loose h line payload waits what len is g (inl none) long = none
gathered_loose h line payload waits what len is g (inr t) long =
    let all : length (line ++ payload ++ waits) ≡ length h.bytes = ap (λ (l : List ℕ). length l) is in
    let sum : length (line ++ payload ++ waits) ≡ length line + length payload + length waits = simp length-append in
    absurd (omega (arith, all, sum, t.0, long, g.ends))

pub open_tidy : (h : Held) → HasNoWholeLine h → IsTidy h
open_tidy h (inl none) = inl none
open_tidy h (inr o) = inr (o.0, omega (arith, o.1))

-- a piece of a line was fed
pub tidy_line : (old new : Held) (piece : List ℕ) → new.loose ≡ length new.bytes → new.bytes ≡ old.bytes ++ piece → old.loose ≡ length old.bytes → HasNoWholeLine old → IsPortion old piece → IsTidy new
tidy_line old new piece loose is was o portion =
    let none_yet : position_or_len is_line_end old.bytes ≡ length old.bytes = elim o [
      | inl none ↦ omega (arith, position_length is_line_end old.bytes, none, was)
      | inr h ↦ h.1
    ]
    in
    let short = portion.line (λ n some m. let whole = misses_line old.bytes n m in omega (arith, whole, none_yet)) in
    let place : position_or_len is_line_end (old.bytes ++ piece) ≡ length old.bytes + position_or_len is_line_end piece = position_after is_line_end old.bytes piece none_yet in
    let place_new : position_or_len is_line_end new.bytes ≡ position_or_len is_line_end (old.bytes ++ piece) = ap (position_or_len is_line_end) is in
    let long : length new.bytes ≡ length old.bytes + length piece = ap (λ (l : List ℕ). length l) is ∙ length-append old.bytes piece in
    inr (loose, omega (arith, place, place_new, long, short))

-- a piece of a payload was fed
pub tidy_payload : (old : Held) (line payload waits mine other : List ℕ) (what : Awaited) (len : ℕ) → line ++ payload ++ waits ≡ old.bytes → IsPayloadLine line what len → length waits ≡ old.loose → length payload ≤ len
    → HasNoWholeLine old → front old.bytes ≡ Partial → IsPortion old (mine ++ other) → length mine ≡ min (len - length payload) (length (mine ++ other)) → length waits + length other ≡ 0
tidy_payload old line payload waits mine other what len is g long few o part portion count =
    let none = gathered_loose old line payload waits what len is g (open_tidy old o) long in
    let all = length-append mine other in
    elim (cases_lt (length payload) len) [
      | inl less ↦
          let sum : length (payload ++ waits) + (len - length payload) ≡ len = simp length-append (omega (arith, none, long, less)) in
          let m = misses_rest old.bytes line (payload ++ waits) what len (len - length payload) (sym is ∙ append_assoc line payload waits) g sum in
          let short = portion.payload (len - length payload) (omega (arith, less)) m in
          omega (arith, none, long, short, count, all)
      | inr whole ↦
          let found = gathering_whole line payload waits what len g (omega (arith, whole, few)) in
          let same = ap front is in
          absurd cc
    ]
