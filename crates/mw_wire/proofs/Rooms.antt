-- What is gathered where want of memory ends a session.
use Rattle.std.proofs.Common.{◌≡◌, ◌≢◌, ℕ, ◌+◌, ◌<◌, ◌≤◌, ◌⊎◌, inl, inr, Option, Some, None, List, [], ◌∷◌, ◌++◌, length, take, drop, length-drop, refl, sym, subst, ◌∙◌, ap, arith, append_assoc, take-append-drop}
use Rattle.std.specs.List.{position_or_len}
use Rattle.std.proofs.lemmas.Bool.{cases_lt}
use Rattle.mw_model.proofs.mw_facts.Positions.{position_length}
use Rattle.mw_model.specs.declared.requests.Awaited.{Awaited}
use Rattle.mw_model.specs.declared.requests.Head.{Head}
use Rattle.mw_model.specs.declared.requests.Head.TheVariants.{Payload, Alone}
use Rattle.mw_model.specs.declared.codes.Code.{Code}
use Rattle.mw_model.specs.declared.codes.Code.TheVariants.{Memory}
use Rattle.mw_model.specs.declared.requests.End.TheVariants as end
use Rattle.mw_model.specs.Lines.{Partial, Fault, with_payload, after_head}
use Rattle.mw_session_intake.specs.Intake.{AsksForPayload, Held, IsPortion, Misses}
use Rattle.mw_session_intake.specs.Reading.{front, head_of, is_line_end}
use Rattle.mw_session_intake.proofs.Front.{front_long, front_line, front_open, payload_line, payload_long, payload_partial, payload_whole}
use Rattle.mw_wire.specs.Rooms.{payload, line, WantsRoom, LacksRoom}

payload_fault : (what : Awaited) (len : ℕ) (rest : List ℕ) → with_payload what len rest ≡ Fault Memory → ⊥
payload_fault what len rest e = elim (cases_lt 134217728 len) [
  | inl over ↦ let g = payload_long what len rest over in cc
  | inr within ↦ elim (cases_lt (length rest) len) [
    | inl less ↦ let g = payload_partial what len rest (omega (arith, within)) less in cc
    | inr whole ↦ let g = payload_whole what len rest (omega (arith, within)) (omega (arith, whole)) in cc
  ]
]

head_fault : (h : Option Head) (rest : List ℕ) → after_head h rest ≡ Fault Memory → ⊥
head_fault None rest e = cc
head_fault (Some (Alone a)) rest e = cc
head_fault (Some (Payload what len)) rest e = payload_fault what len rest e

-- no line is refused for want of memory
never_memory : (held : List ℕ) → front held ≡ Fault Memory → ⊥
never_memory held e =
    let at = position_or_len is_line_end held in
    elim (cases_lt 200 at) [
      | inl long ↦ let g = front_long held long in cc
      | inr short ↦
          let s : at ≤ 200 = omega (arith, short) in
          elim (cases_lt at (length held)) [
            | inl whole ↦ head_fault (head_of (take at held)) (drop (at + 1) held) (sym (front_line held s whole) ∙ e)
            | inr unended ↦ let g = front_open held s (omega (arith, unended)) in cc
          ]
    ]

partial_head : (held : List ℕ) (h : Option Head) (rest : List ℕ) → position_or_len is_line_end held ≤ 200 → position_or_len is_line_end held < length held → h ≡ head_of (take (position_or_len is_line_end held) held)
    → after_head h rest ≡ Partial → AsksForPayload held
partial_head held None rest short l e p = cc
partial_head held (Some (Alone a)) rest short l e p = cc
partial_head held (Some (Payload what len)) rest short l e p = elim (cases_lt 134217728 len) [
  | inl over ↦ let g = payload_long what len rest over in absurd cc
  | inr within ↦
      let at = position_or_len is_line_end held in
      (at + 1, what, len, payload_line held at what len (omega (arith, short)) short l e (omega (arith, within)))
]

-- where less than a request stands, a payload is awaited or no LF has come
partial_gathers : (held : List ℕ) → front held ≡ Partial → AsksForPayload held ⊎ (position_or_len is_line_end held ≡ length held)
partial_gathers held e =
    let at = position_or_len is_line_end held in
    elim (cases_lt at (length held)) [
      | inl whole ↦ elim (cases_lt 200 at) [
        | inl long ↦ let g = front_long held long in absurd cc
        | inr short ↦ let s : at ≤ 200 = omega (arith, short) in inl (partial_head held (head_of (take at held)) (drop (at + 1) held) s whole refl (sym (front_line held s whole) ∙ e))
      ]
      | inr unended ↦ inr (omega (arith, unended, position_length is_line_end held))
    ]

-- a portion is one wherever these bytes are held
portion-kept : (h k : Held) (portion : List ℕ) → k.bytes ≡ h.bytes → IsPortion h portion → IsPortion k portion
portion-kept h k portion e i = record {
  payload = λ n some misses. i.payload n some (subst (λ (l : List ℕ). Misses l n) e misses);
  line = λ none. i.line (λ n some misses. none n some (subst (λ (l : List ℕ). Misses l n) (sym e) misses));
}

-- where a portion found no room, and the bytes are held as they were
pub room-for-portion : (h k : Held) (waiting : List ℕ) (n : ℕ) → k.bytes ≡ h.bytes → front h.bytes ≡ Partial → waiting ≢ [] → IsPortion h (take n waiting) → k.spare < length (take n waiting) → WantsRoom k (h.bytes ++ waiting)
room-for-portion h k waiting n same e some portion less =
    let part : front k.bytes ≡ Partial = ap front same ∙ e in (
      waiting,
      ap (λ (l : List ℕ). l ++ waiting) (sym same),
      elim (partial_gathers k.bytes part) [ inl asks ↦ payload asks part some | inr unended ↦ line part unended some ],
      (take n waiting, drop n waiting, sym (take-append-drop n waiting), portion-kept h k (take n waiting) same portion, less),
    )

some_left : (xs ys : List ℕ) → xs ≢ [] → xs ++ ys ≢ []
some_left [] ys n e = n refl
some_left (x ∷ xs) ys n e = cc

-- more bytes that wait
pub room-more : (h : Held) (rest more : List ℕ) → WantsRoom h rest → WantsRoom h (rest ++ more)
room-more h rest more (waiting, is, gathers, (portion, behind, parts, fits, less)) = (
  waiting ++ more,
  ap (λ l. l ++ more) is ∙ append_assoc h.bytes waiting more,
  elim gathers [ payload asks part some ↦ payload asks part (some_left waiting more some) | line part unended some ↦ line part unended (some_left waiting more some) ],
  (portion, behind ++ more, ap (λ l. l ++ more) parts ∙ append_assoc portion behind more, fits, less),
)

pub room-lacks : (bytes : List ℕ) (h : Held) (rest : List ℕ) → WantsRoom h rest → LacksRoom bytes rest
room-lacks bytes h rest w = inr (h, w)

-- a line that is refused is no want of memory
pub fault_has_room : {X : Type 0} (held : List ℕ) (c : Code) → front held ≡ Fault c → end.Ended c ≡ end.Ended Memory → X
fault_has_room held c e k = let m : c ≡ Memory = cc in absurd (never_memory held (e ∙ ap Fault m))

-- something is left of a piece
pub some_dropped : (at : ℕ) (piece : List ℕ) → at < length piece → drop at piece ≡ [] → ⊥
some_dropped at piece l e =
    let k : length (drop at piece) ≡ 0 = ap length e in
    absurd (omega (arith, k, length-drop at piece, l))
