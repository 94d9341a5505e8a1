-- Laws of the front of a byte list.
use Rattle.std.proofs.Common.{◌≡◌, ◌≢◌, ℕ, zero, suc, ◌+◌, ◌<◌, ◌≤◌, Bool, true, false, cond, not, List, [], ◌∷◌, ◌++◌, length, get_or, take, drop, refl, sym, ap, subst, ◌∙◌, arith, Option, None, Some, inl, inr, min, length-take, take-take, length-drop, drop-drop, take-append-drop, length-append, append_assoc}
use Rattle.std.proofs.lemmas.Bool.{lt-ltb, le-ltb, cases_lt, cases_Bool, eq-eqb, eqb-true, ne_eqb}
use Rattle.std.proofs.Math.Nat.{le_of_lt}
use Rattle.std.proofs.lemmas.List.{take-append-le, drop-append-le, take_at, drop_at, append-nil, drop_all, drop_more}
use Rattle.std.proofs.Math.Seq.{take-length}
use Rattle.std.specs.List.{position_or_len}
use Rattle.mw_model.proofs.mw_facts.Positions.{position_length, position_more, position_kept, position_grows, position_take}
use Rattle.mw_session_intake.specs.Intake.{IsPayloadLine, line_for}
use Rattle.mw_session_intake.proofs.LineLaws.{read_is_said}
use Rattle.mw_session_intake.proofs.SaidLines.{said_is_read}
use Rattle.mw_model.specs.Lines.{Front, Found, Partial, Fault, Asked, asked_with, after_head, with_payload, IsSayable, line_of, Says, NoLineEnd, IsFront, too_long, unended, ended, Begins}
use Rattle.mw_session_intake.specs.Reading.{is_line_end, front, head_of}
use Rattle.mw_model.specs.declared.requests.Awaited.{Awaited}
use Rattle.mw_model.specs.declared.requests.Head.{Head}
use Rattle.mw_model.specs.declared.requests.Head.TheVariants.{Payload, Alone}
use Rattle.mw_model.specs.declared.codes.Code.{Code}
use Rattle.mw_model.specs.declared.codes.Code.TheVariants.{Line, Length}

found_asked : {a b : Asked} {x y : List ℕ} → Found a x ≡ Found b y → a ≡ b
found_asked e = cc

found_rest : {a b : Asked} {x y : List ℕ} → Found a x ≡ Found b y → x ≡ y
found_rest e = cc

found_more : {a b : Asked} {x y : List ℕ} (m : List ℕ) → Found a x ≡ Found b y → Found a (x ++ m) ≡ Found b (y ++ m)
found_more m e = let h = found_asked e in let k = found_rest e in cc

-- the line is too long
pub front_long : (xs : List ℕ) → 200 < position_or_len is_line_end xs → front xs ≡ Fault Line
unfolding front
front_long xs h = rw (lt-ltb _ _ h) refl

-- the line is not whole
pub front_open : (xs : List ℕ) → position_or_len is_line_end xs ≤ 200 → length xs ≤ position_or_len is_line_end xs → front xs ≡ Partial
unfolding front
front_open xs h k = rw (le-ltb _ _ h, le-ltb _ _ k) refl

pub front_empty : front [] ≡ Partial
unfolding front
front_empty = refl

-- the line is whole
pub front_line : (xs : List ℕ) → position_or_len is_line_end xs ≤ 200 → position_or_len is_line_end xs < length xs →
    front xs ≡ after_head (head_of (take (position_or_len is_line_end xs) xs)) (drop (position_or_len is_line_end xs + 1) xs)
unfolding front
front_line xs h k = rw (le-ltb _ _ h, lt-ltb _ _ k) refl

pub cut_bound : (xs : List ℕ) (e : ℕ) → e ≡ min 201 (position_or_len is_line_end xs) → e ≤ length xs
cut_bound xs e is = omega (arith, position_length is_line_end xs)

pub cut_open : (xs : List ℕ) (e : ℕ) → e ≡ min 201 (position_or_len is_line_end xs) → e ≤ 200 → e ≡ length xs → front xs ≡ Partial
cut_open xs e is h k = front_open xs (omega arith) (omega arith)

pub cut_line : (xs : List ℕ) (e : ℕ) → e ≡ min 201 (position_or_len is_line_end xs) → e ≤ 200 → e < length xs → front xs ≡ after_head (head_of (take e xs)) (drop (e + 1) xs)
cut_line xs e is h k =
    let p : position_or_len is_line_end xs ≡ e = omega arith in
    let f = front_line xs (omega arith) (omega arith) in rw p at f

pub cut_head : (xs : List ℕ) (e : ℕ) (h : Option Head) → e ≡ min 201 (position_or_len is_line_end xs) → e ≤ 200 → e < length xs → h ≡ head_of (take e xs) → front xs ≡ after_head h (drop (e + 1) xs)
cut_head xs e h is small k g = rw g (cut_line xs e is small k)

-- the front of bytes that a PUT line begins
pub payload_line : (xs : List ℕ) (e : ℕ) (what : Awaited) (len : ℕ) → e ≡ min 201 (position_or_len is_line_end xs) → e ≤ 200 → e < length xs → Some (Payload what len) ≡ head_of (take e xs) → len ≤ 134217728 → IsPayloadLine (take (e + 1) xs) what len
payload_line xs e what len is small k g limit =
    let p : position_or_len is_line_end xs ≡ e = omega arith in
    let q = position_take is_line_end xs (e + 1) (omega arith) in
    let r : position_or_len is_line_end (take (e + 1) xs) ≡ e = q ∙ p in
    record {
      ends = rw r (simp length-take (omega arith));
      short = simp length-take (omega arith);
      head = let below : e ≤ e + 1 = omega arith in rw (r, take-take e (e + 1) xs below) (sym g);
      limit = limit;
    }

-- a PUT line, and what follows it
pub front_gathered : (line xs : List ℕ) (what : Awaited) (len : ℕ) → IsPayloadLine line what len → front (line ++ xs) ≡ with_payload what len xs
front_gathered line xs what len g =
    let k : position_or_len is_line_end (line ++ xs) ≡ position_or_len is_line_end line = position_kept is_line_end line xs (omega (arith, g.ends)) in
    let small : position_or_len is_line_end line ≤ 200 = omega (arith, g.ends, g.short) in
    let inside : position_or_len is_line_end line < length (line ++ xs) = simp length-append (omega (arith, g.ends)) in
    let f = front_line (line ++ xs) (rw k small) (rw k inside) in
    let f' = rw k at f in
    let t : take (position_or_len is_line_end line) (line ++ xs) ≡ take (position_or_len is_line_end line) line = take-append-le _ line xs (omega (arith, g.ends)) in
    let d : drop (position_or_len is_line_end line + 1) (line ++ xs) ≡ xs = drop_at line xs _ (sym g.ends) in
    f' ∙ rw (t, d, g.head) refl

pub payload_partial : (what : Awaited) (len : ℕ) (xs : List ℕ) → len ≤ 134217728 → length xs < len → with_payload what len xs ≡ Partial
payload_partial what len xs limit h = rw (le-ltb 134217728 len limit, lt-ltb (length xs) len h) refl

pub payload_whole : (what : Awaited) (len : ℕ) (xs : List ℕ) → len ≤ 134217728 → len ≤ length xs → with_payload what len xs ≡ Found (asked_with what (take len xs)) (drop len xs)
payload_whole what len xs limit h = rw (le-ltb 134217728 len limit, le-ltb (length xs) len h) refl

pub gathering_open : (line payload more : List ℕ) (what : Awaited) (len : ℕ) → IsPayloadLine line what len → more ≡ [] → length payload < len → front (line ++ payload ++ more) ≡ Partial
gathering_open line payload more what len g none h =
    rw (none, append-nil) (front_gathered line payload what len g ∙ payload_partial what len payload g.limit h)

pub gathering_whole : (line payload more : List ℕ) (what : Awaited) (len : ℕ) → IsPayloadLine line what len → length payload ≡ len → front (line ++ payload ++ more) ≡ Found (asked_with what payload) more
gathering_whole line payload more what len g whole =
    rw append_assoc (front_gathered line (payload ++ more) what len g ∙ payload_whole what len (payload ++ more) g.limit (simp length-append (omega arith)) ∙ rw (take_at payload more len whole, drop_at payload more len whole) refl)

pub payload_long : (what : Awaited) (len : ℕ) (xs : List ℕ) → 134217728 < len → with_payload what len xs ≡ Fault Length
payload_long what len xs h = rw (lt-ltb 134217728 len h) refl

-- the line, what has come of the payload, and the rest
pub started : (xs : List ℕ) (used n : ℕ) → take used xs ++ take n (drop used xs) ++ drop (used + n) xs ≡ xs
started xs used n = rw (append_assoc, ← drop-drop) (rw (take-append-drop n (drop used xs), take-append-drop used xs) refl)

-- a PUT line and what has come of its payload were moved out of the rest
pub begun_open : (old line payload bytes rest : List ℕ) (at used n : ℕ) (what : Awaited) (len : ℕ) → old ≡ bytes → bytes ≡ drop at rest → line ≡ take used bytes → payload ≡ take n (drop used bytes) →
    IsPayloadLine (take used bytes) what len → n ≡ min (length (drop used bytes)) len → n < len → (front old ≡ Partial) × (line ++ payload ++ drop (at + (used + n)) rest ≡ old)
begun_open old line payload bytes rest at used n what len o b l p g m h =
    let whole : line ++ payload ++ drop (at + (used + n)) rest ≡ bytes = rw (l, p, ← drop-drop, ← b) (started bytes used n) in
    let short : length payload < len = rw p (simp length-take (omega arith)) in
    let none : drop (at + (used + n)) rest ≡ [] = rw (← drop-drop, ← b) (drop_all (used + n) bytes (omega (arith, m, length-drop used bytes))) in
    let g' : IsPayloadLine line what len = rw l g in
    (rw (o, ← whole) (gathering_open line payload (drop (at + (used + n)) rest) what len g' none short), whole ∙ sym o)

pub begun_whole : (old line payload bytes rest : List ℕ) (at used n : ℕ) (what : Awaited) (len : ℕ) → old ≡ bytes → bytes ≡ drop at rest → line ≡ take used bytes → payload ≡ take n (drop used bytes) →
    IsPayloadLine (take used bytes) what len → n ≡ min (length (drop used bytes)) len → len ≤ n → front old ≡ Found (asked_with what payload) (drop (at + (used + n)) rest)
begun_whole old line payload bytes rest at used n what len o b l p g m h =
    let whole : line ++ payload ++ drop (at + (used + n)) rest ≡ bytes = rw (l, p, ← drop-drop, ← b) (started bytes used n) in
    let full : length payload ≡ len = rw p (simp length-take (omega arith)) in
    let g' : IsPayloadLine line what len = rw l g in
    rw (o, ← whole) (gathering_whole line payload (drop (at + (used + n)) rest) what len g' full)

payload_found : (what : Awaited) (n : ℕ) (rest more : List ℕ) (r : Asked) (left : List ℕ) → with_payload what n rest ≡ Found r left → with_payload what n (rest ++ more) ≡ Found r (left ++ more)
payload_found what n rest more r left e = elim (cases_lt 134217728 n) [
  | inl h ↦ let bad = payload_long what n rest h in cc
  | inr h ↦ elim (cases_lt (length rest) n) [
    | inl k ↦ let bad = payload_partial what n rest h k in cc
    | inr k ↦
        let more_room : n ≤ length (rest ++ more) = simp length-append (omega arith) in
        let was = payload_whole what n rest h k in
        let same : Found (asked_with what (take n rest)) (drop n rest) ≡ Found r left = sym was ∙ e in
        payload_whole what n (rest ++ more) h more_room ∙ rw (take-append-le n rest more k, drop-append-le n rest more k) (found_more more same)
  ]
]

payload_fault : (what : Awaited) (n : ℕ) (rest more : List ℕ) (c : Code) → with_payload what n rest ≡ Fault c → with_payload what n (rest ++ more) ≡ Fault c
payload_fault what n rest more c e = elim (cases_lt 134217728 n) [
  | inl h ↦ payload_long what n (rest ++ more) h ∙ sym (payload_long what n rest h) ∙ e
  | inr h ↦ elim (cases_lt (length rest) n) [
    | inl k ↦ let bad = payload_partial what n rest h k in cc
    | inr k ↦ let bad = payload_whole what n rest h k in cc
  ]
]

after_found : (h : Option Head) (rest more : List ℕ) (r : Asked) (left : List ℕ) → after_head h rest ≡ Found r left → after_head h (rest ++ more) ≡ Found r (left ++ more)
after_found None rest more r left e = cc
after_found (Some (Payload what n)) rest more r left e = payload_found what n rest more r left e
after_found (Some (Alone a)) rest more r left e = found_more more e

after_fault : (h : Option Head) (rest more : List ℕ) (c : Code) → after_head h rest ≡ Fault c → after_head h (rest ++ more) ≡ Fault c
after_fault None rest more c e = e
after_fault (Some (Payload what n)) rest more c e = payload_fault what n rest more c e
after_fault (Some (Alone a)) rest more c e = cc

-- a whole line stays where it is
line_kept : (xs ys : List ℕ) → position_or_len is_line_end xs ≤ 200 → position_or_len is_line_end xs < length xs →
    front (xs ++ ys) ≡ after_head (head_of (take (position_or_len is_line_end xs) xs)) (drop (position_or_len is_line_end xs + 1) xs ++ ys)
line_kept xs ys h k =
    let p : position_or_len is_line_end (xs ++ ys) ≡ position_or_len is_line_end xs = position_kept is_line_end xs ys k in
    let inside : position_or_len is_line_end xs < length (xs ++ ys) = simp length-append (omega arith) in
    let f = front_line (xs ++ ys) (rw p h) (rw p inside) in
    let f' = rw p at f in
    f' ∙ rw (take-append-le _ xs ys (le_of_lt k), drop-append-le (position_or_len is_line_end xs + 1) xs ys (omega arith)) refl

-- a request stays, whatever follows
pub front_found : (xs ys : List ℕ) (r : Asked) (left : List ℕ) → front xs ≡ Found r left → front (xs ++ ys) ≡ Found r (left ++ ys)
front_found xs ys r left e = elim (cases_lt 200 (position_or_len is_line_end xs)) [
  | inl h ↦ let bad = front_long xs h in cc
  | inr h ↦ elim (cases_lt (position_or_len is_line_end xs) (length xs)) [
    | inl k ↦ line_kept xs ys h k ∙ after_found (head_of (take (position_or_len is_line_end xs) xs)) (drop (position_or_len is_line_end xs + 1) xs) ys r left (sym (front_line xs h k) ∙ e)
    | inr k ↦ let bad = front_open xs h k in cc
  ]
]

-- and so does a fault
pub front_fault : (xs ys : List ℕ) (c : Code) → front xs ≡ Fault c → front (xs ++ ys) ≡ Fault c
front_fault xs ys c e = elim (cases_lt 200 (position_or_len is_line_end xs)) [
  | inl h ↦ let grows = position_grows is_line_end xs ys in front_long (xs ++ ys) (omega arith) ∙ sym (front_long xs h) ∙ e
  | inr h ↦ elim (cases_lt (position_or_len is_line_end xs) (length xs)) [
    | inl k ↦ line_kept xs ys h k ∙ after_fault (head_of (take (position_or_len is_line_end xs) xs)) (drop (position_or_len is_line_end xs + 1) xs) ys c (sym (front_line xs h k) ∙ e)
    | inr k ↦ let bad = front_open xs h k in cc
  ]
]

-- ---- what a line says is what is read of it

pub says_of : (line : List ℕ) (o : Option Head) → head_of line ≡ o → Says line o
says_of line None e = λ h s is. let bad : None ≡ Some h = sym e ∙ sym (ap head_of is) ∙ said_is_read h s in cc
says_of line (Some h) e = let r = read_is_said line h e in (r.1, sym r.0)

none_said : (line : List ℕ) (o : Option Head) → head_of line ≡ o → ((h : Head) → IsSayable h → line_of h ≢ line) → None ≡ o
none_said line None e never = refl
none_said line (Some h) e never = let r = read_is_said line h e in absurd (never h r.1 (sym r.0))

pub says_only : (line : List ℕ) (o : Option Head) → Says line o → o ≡ head_of line
says_only line None s = none_said line (head_of line) refl s
says_only line (Some h) s = sym (ap head_of (sym s.1) ∙ said_is_read h s.0)

-- ---- what stands at the front is what is read there

first_step : (t : Bool) (n m : ℕ) → suc n ≤ cond (not t) (1 + m) 0 → (t ≡ false) × (n ≤ m)
first_step true n m h = absurd (omega arith)
first_step false n m h = (refl, omega arith)

-- before the first LF none stands
no_end_take : (xs : List ℕ) (n : ℕ) → n ≤ position_or_len is_line_end xs → NoLineEnd (take n xs)
no_end_take [] zero h = tt
no_end_take [] (suc n) h = tt
no_end_take (x ∷ xs) zero h = tt
no_end_take (x ∷ xs) (suc n) h =
    let f = first_step (is_line_end x) n (position_or_len is_line_end xs) h in
    let other : is_line_end x ≡ false = f.0 in
    (λ e. let same = eq-eqb x 10 e in cc, no_end_take xs n f.1)

-- where none stands before, the first stands later
end_after : (xs : List ℕ) (n : ℕ) → NoLineEnd (take n xs) → n ≤ length xs → n ≤ position_or_len is_line_end xs
end_after [] n a h = omega arith
end_after (x ∷ xs) zero a h = omega arith
end_after (x ∷ xs) (suc n) a h = let later = end_after xs n a.1 (omega arith) in rw (ne_eqb x 10 a.0) (omega (arith, later))

end_all : (xs : List ℕ) → NoLineEnd xs → length xs ≤ position_or_len is_line_end xs
end_all xs a = end_after xs (length xs) (subst NoLineEnd (sym (take-length xs)) a) (omega arith)

no_end_all : (xs : List ℕ) → length xs ≤ position_or_len is_line_end xs → NoLineEnd xs
no_end_all xs h = subst NoLineEnd (take-length xs) (no_end_take xs (length xs) h)

end_at : (line behind : List ℕ) → NoLineEnd line → position_or_len is_line_end (line ++ 10 ∷ behind) ≡ length line
end_at [] behind a = refl
end_at (b ∷ line) behind a = let later = end_at line behind a.1 in rw (ne_eqb b 10 a.0) (omega (arith, later))

is_end : (xs : List ℕ) → position_or_len is_line_end xs < length xs → get_or xs (position_or_len is_line_end xs) 0 ≡ 10
is_end xs h = elim (cases_Bool (is_line_end (get_or xs (position_or_len is_line_end xs) 0))) [
  | inl t ↦ eqb-true (get_or xs (position_or_len is_line_end xs) 0) 10 t
  | inr f ↦ let more = position_more is_line_end xs (position_or_len is_line_end xs) (omega arith) h f in absurd (omega (arith, more))
]

split_end : (xs : List ℕ) → position_or_len is_line_end xs < length xs →
    xs ≡ take (position_or_len is_line_end xs) xs ++ 10 ∷ drop (position_or_len is_line_end xs + 1) xs
split_end xs h =
    let i = position_or_len is_line_end xs in
    sym (take-append-drop i xs) ∙ ap (λ l. take i xs ++ l) (drop_more xs i 0 h ∙ ap (λ b. b ∷ drop (i + 1) xs) (is_end xs h))

-- a line that awaits a payload is told by what it awaits
pub line_told : (line : List ℕ) (what : Awaited) (len : ℕ) → IsPayloadLine line what len → line_for what len ≡ line
unfolding line_for
line_told line what len g =
    let i = position_or_len is_line_end line in
    let inside : i < length line = omega (arith, g.ends) in
    let said : take i line ≡ line_of (Payload what len) = (read_is_said (take i line) (Payload what len) g.head).0 in
    let none : drop (i + 1) line ≡ [] = drop_all (i + 1) line (omega (arith, g.ends)) in
    sym (split_end line inside ∙ rw (said, none) refl)

pub line_awaits : (line : List ℕ) (what : Awaited) (len : ℕ) → IsPayloadLine line what len → IsPayloadLine (line_for what len) what len
line_awaits line what len g = let P : List ℕ → Type 0 = λ l. IsPayloadLine l what len in subst P (sym (line_told line what len g)) g

-- what is read at the front stands there
pub is_front : (xs : List ℕ) (f : Front) → front xs ≡ f → IsFront xs f
is_front xs f e = elim (cases_lt 200 (position_or_len is_line_end xs)) [
  | inl h ↦ let within = position_length is_line_end xs in too_long (omega arith) (no_end_take xs 201 (omega arith)) (sym e ∙ front_long xs h)
  | inr h ↦ elim (cases_lt (position_or_len is_line_end xs) (length xs)) [
    | inl k ↦
        let i = position_or_len is_line_end xs in
        ended (take i xs) (drop (i + 1) xs) (head_of (take i xs)) (split_end xs k) (no_end_take xs i (omega arith)) (simp length-take (omega arith)) (says_of (take i xs) (head_of (take i xs)) refl) (sym e ∙ front_line xs h k)
    | inr k ↦ unended (omega arith) (no_end_all xs k) (sym e ∙ front_open xs h k)
  ]
]

front_ended : (line behind : List ℕ) (o : Option Head) → NoLineEnd line → length line ≤ 200 → Says line o → front (line ++ 10 ∷ behind) ≡ after_head o behind
front_ended line behind o a h s =
    let place = end_at line behind a in
    let small : position_or_len is_line_end (line ++ 10 ∷ behind) ≤ 200 = omega (arith, place) in
    let inside : position_or_len is_line_end (line ++ 10 ∷ behind) < length (line ++ 10 ∷ behind) = rw place (simp length-append (omega arith)) in
    let f = front_line (line ++ 10 ∷ behind) small inside in
    let f' = rw place at f in
    let before : take (length line) (line ++ 10 ∷ behind) ≡ line = take_at line (10 ∷ behind) (length line) refl in
    let after : drop (length line + 1) (line ++ 10 ∷ behind) ≡ behind =
    ap (λ l. drop (length line + 1) l) (sym (append_assoc line (10 ∷ []) behind)) ∙ drop_at (line ++ 10 ∷ []) behind (length line + 1) (simp length-append (omega arith)) in
    f' ∙ rw (before, after) (ap (λ h. after_head h behind) (sym (says_only line o s)))

-- and nothing else does
pub front_is : (xs : List ℕ) (f : Front) → IsFront xs f → front xs ≡ f
front_is xs f (too_long l a e) = let later = end_after xs 201 a (omega arith) in front_long xs (omega arith) ∙ sym e
front_is xs f (unended l a e) =
    let later = end_all xs a in
    let within = position_length is_line_end xs in
    front_open xs (omega arith) later ∙ sym e
front_is xs f (ended line behind o parts a l s e) = ap front parts ∙ front_ended line behind o a l s ∙ sym e

-- requests at the front stay, whatever follows
pub Begins_more : (rs : List Asked) (xs ys rest : List ℕ) → Begins xs rs rest → Begins (xs ++ ys) rs (rest ++ ys)
Begins_more [] xs ys rest b = ap (λ l. l ++ ys) b
Begins_more (r ∷ rs) xs ys rest b =
    (b.0 ++ ys, is_front (xs ++ ys) (Found r (b.0 ++ ys)) (front_found xs ys r b.0 (front_is xs (Found r b.0) b.1)), Begins_more rs b.0 ys rest b.2)

-- the same bytes begin with the same requests: the one list begins the other
pub Begins_prefix : (rs qs : List Asked) (xs rest end : List ℕ) → Begins xs rs rest → Begins xs qs end → length rs ≤ length qs → (more : List Asked) × (qs ≡ rs ++ more) × Begins rest more end
Begins_prefix [] qs xs rest end b d h = (qs, refl, rw b d)
Begins_prefix (r ∷ rs) [] xs rest end b d h = absurd (omega arith)
Begins_prefix (r ∷ rs) (q ∷ qs) xs rest end b d h =
    let same : Found r b.0 ≡ Found q d.0 = sym (front_is xs (Found r b.0) b.1) ∙ front_is xs (Found q d.0) d.1 in
    let head : r ≡ q = cc in
    let mid : b.0 ≡ d.0 = cc in
    let rec = Begins_prefix rs qs b.0 rest end b.2 (subst (λ l. Begins l qs end) (sym mid) d.2) (omega arith) in
    let tail = rec.1 in
    (rec.0, cc, rec.2)

pub cut_end : (xs : List ℕ) (e : ℕ) → e ≡ min 201 (position_or_len is_line_end xs) → e ≤ 200 → position_or_len is_line_end xs ≡ e
cut_end xs e is h = omega arith
