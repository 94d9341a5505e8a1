-- What was written when reading or writing failed is a front of the script of every input that goes on so.
use Rattle.std.proofs.Common.{◌≡◌, ◌≢◌, ℕ, List, [], ◌∷◌, ◌++◌, take, drop, ◌⊎◌, inl, inr, refl, sym, ap, ◌∙◌, subst, append_assoc, take-append-drop}
use Rattle.std.proofs.lemmas.List.{append-nil}
use Rattle.mw_model.specs.declared.codes.Code.{Code}
use Rattle.mw_model.specs.declared.codes.Code.TheVariants as code
use Rattle.mw_model.specs.declared.requests.Ask.TheVariants as ask
use Rattle.mw_model.specs.declared.requests.End.{End}
use Rattle.mw_model.specs.declared.requests.End.TheVariants as end
use Rattle.mw_model.specs.Machine.{Machine}
use Rattle.mw_model.specs.Lines.{Asked, AskAlone, Front, Found, Partial, Fault, Begins}
use Rattle.mw_model.specs.Replies.{refusal_text}
use Rattle.mw_model.specs.Scripts.{Turn, AreTurns, requests, Ends, end_text, IsScript, IsBroken}
use Rattle.mw_session_intake.specs.Reading.{front}
use Rattle.mw_session_intake.proofs.Front.{Begins_more, front_fault, front_is, front_empty}
use Rattle.mw_session_laws.specs.Marks.{EndsInMemory}
use Rattle.mw_session_laws.proofs.Readings.{front_once, turns_once}

-- what stands behind the first requests
begins_rest : (ts us : List Turn) (bytes mid left : List ℕ) → Begins bytes (requests ts) mid → Begins bytes (requests (ts ++ us)) left → Begins mid (requests us) left
begins_rest [] us bytes mid left b d = subst (λ l. Begins l (requests us) left) (sym b) d
begins_rest (t ∷ ts) us bytes mid left b d =
    let found : Found t.request b.0 ≡ Found t.request d.0 = sym (front_is bytes (Found t.request b.0) b.1) ∙ front_is bytes (Found t.request d.0) d.1 in
    let same : d.0 ≡ b.0 = cc in
    begins_rest ts us b.0 mid left b.2 (subst (λ l. Begins l (requests (ts ++ us)) left) same d.2)

-- where no request stands, there are no more turns
none_more : (us : List Turn) (rest left : List ℕ) (f : Front) → front rest ≡ f → ((r : Asked) (mid : List ℕ) → f ≢ Found r mid) → Begins rest (requests us) left → (us ≡ []) × (left ≡ rest)
none_more [] rest left f e none b = (refl, b)
none_more (u ∷ us) rest left f e none b = absurd (none u.request b.0 (sym e ∙ front_is rest (Found u.request b.0) b.1))

-- a fault is the end
fault_end : (whole : Type 0) (rest : List ℕ) (c : Code) (e : End) → front rest ≡ Fault c → Ends whole rest e → e ≢ end.Ended code.Memory → e ≡ end.Ended c
fault_end whole rest c end.Quit f h n = elim h [
  | inl g ↦ let x : Partial ≡ Fault c = sym front_empty ∙ sym (ap front g.0) ∙ f in absurd cc
  | inr g ↦ let x : Found (AskAlone ask.Quit) g.0 ≡ Fault c = sym (front_is rest (Found (AskAlone ask.Quit) g.0) g.1) ∙ f in absurd cc
]
fault_end whole rest c (end.Ended d) f h n = elim h [
  | inl g ↦ let x : Fault d ≡ Fault c = sym (front_is rest (Fault d) g) ∙ f in cc
  | inr g ↦ elim g [
    | inl k ↦ let x : Partial ≡ Fault c = sym (front_is rest Partial k.1) ∙ f in absurd cc
    | inr k ↦ absurd (n (ap end.Ended k))
  ]
]

-- so is the middle of a request, where no more follows
middle_end : (whole : Type 0) (rest : List ℕ) (e : End) → front rest ≡ Partial → rest ≢ [] → Ends whole rest e → e ≢ end.Ended code.Memory → e ≡ end.Ended code.Cut
middle_end whole rest end.Quit f some h n = elim h [
  | inl g ↦ absurd (some g.0)
  | inr g ↦ let x : Found (AskAlone ask.Quit) g.0 ≡ Partial = sym (front_is rest (Found (AskAlone ask.Quit) g.0) g.1) ∙ f in absurd cc
]
middle_end whole rest (end.Ended d) f some h n = elim h [
  | inl g ↦ let x : Fault d ≡ Partial = sym (front_is rest (Fault d) g) ∙ f in absurd cc
  | inr g ↦ elim g [
    | inl k ↦ ap end.Ended k.0
    | inr k ↦ absurd (n (ap end.Ended k))
  ]
]

-- a front of a text is a front of all that goes on from it
front_of : (i : ℕ) (a b y : List ℕ) → y ≡ a ++ b → (z : List ℕ) × (y ≡ take i a ++ z)
front_of i a b y e = (drop i a ++ b, e ∙ ap (λ l. l ++ b) (sym (take-append-drop i a)) ∙ append_assoc (take i a) (drop i a) b)

-- the texts alone, with nothing of an end
texts_front : (ts us : List Turn) (m n l : Machine) (said told y : List ℕ) (e : End) (i : ℕ) → AreTurns m ts said n → AreTurns m (ts ++ us) told l → y ≡ told ++ end_text e → (z : List ℕ) × (y ≡ take i (said ++ []) ++ z)
texts_front ts us m n l said told y e i a b is =
    let f = front_once ts us m n l said told a b in
    let P : List ℕ → Type 0 = λ s. (z : List ℕ) × (y ≡ take i s ++ z) in
    subst P (sym (append-nil said)) (front_of i said (f.0 ++ end_text e) y (is ∙ ap (λ t. t ++ end_text e) f.1 ∙ append_assoc said f.0 (end_text e)))

-- the texts, and that of the end which comes there
whole_front : (ts us : List Turn) (m n l : Machine) (said told y : List ℕ) (e f : End) (i : ℕ) → us ≡ [] → e ≡ f → AreTurns m ts said n → AreTurns m (ts ++ us) told l → y ≡ told ++ end_text e → (z : List ℕ) × (y ≡ take i (said ++ end_text f) ++ z)
whole_front ts us m n l said told y e f i none same a b is =
    let these : ts ++ us ≡ ts = ap (λ v. ts ++ v) none ∙ append-nil ts in
    let text : told ≡ said = (turns_once ts m l n told said (subst (λ v. AreTurns m v told l) these b) a).0 in
    front_of i (said ++ end_text f) [] y (is ∙ ap (λ t. t ++ end_text e) text ∙ ap (λ d. said ++ end_text d) same ∙ sym (append-nil (said ++ end_text f)))

-- the end that was due there
end_front : (whole : Type 0) (rest behind : List ℕ) (ts us : List Turn) (m n l : Machine) (said told left y : List ℕ) (e f : End) (i : ℕ) → Ends whole rest f → (whole → behind ≡ [])
    → AreTurns m ts said n → AreTurns m (ts ++ us) told l → y ≡ told ++ end_text e → Begins (rest ++ behind) (requests us) left → Ends (Unit {0}) left e → e ≢ end.Ended code.Memory
    → EndsInMemory m ts n (take i (said ++ end_text f)) ⊎ ((z : List ℕ) × (y ≡ take i (said ++ end_text f) ++ z))
end_front whole rest behind ts us m n l said told left y e end.Quit i h w a b is more k other = inr (texts_front ts us m n l said told y e i a b is)
end_front whole rest behind ts us m n l said told left y e (end.Ended c) i h w a b is more k other = elim h [
  | inl g ↦
      let there = front_fault rest behind c (front_is rest (Fault c) g) in
      let none = none_more us (rest ++ behind) left (Fault c) there (λ r mid x. cc) more in
      let same = fault_end (Unit {0}) left c e (ap front none.1 ∙ there) k other in
      inr (whole_front ts us m n l said told y e (end.Ended c) i none.0 same a b is)
  | inr g ↦ elim g [
    | inl j ↦
        let all : rest ++ behind ≡ rest = ap (λ v. rest ++ v) (w j.3) ∙ append-nil rest in
        let there : front (rest ++ behind) ≡ Partial = ap front all ∙ front_is rest Partial j.1 in
        let none = none_more us (rest ++ behind) left Partial there (λ r mid x. cc) more in
        let same = middle_end (Unit {0}) left e (ap front none.1 ∙ there) (λ v. j.2 (sym all ∙ sym none.1 ∙ v)) k other in
        inr (whole_front ts us m n l said told y e (end.Ended c) i none.0 (same ∙ ap end.Ended (sym j.0)) a b is)
    | inr j ↦ inl (said, a, i, ap (λ d. take i (said ++ refusal_text d)) j)
  ]
]

pub broken_front : (whole : Type 0) (bytes behind : List ℕ) (ts us : List Turn) (m n l : Machine) (x y : List ℕ) (e : End) → IsBroken whole bytes ts m n x → (whole → behind ≡ [])
    → IsScript (Unit {0}) (bytes ++ behind) (ts ++ us) m l y e → e ≢ end.Ended code.Memory → EndsInMemory m ts n x ⊎ ((z : List ℕ) × (y ≡ x ++ z))
broken_front whole bytes behind ts us m n l x y e b w s other =
    let rest = b.0 in
    let said = b.1 in
    let i = b.3 in
    let serves = b.4 in
    let P : List ℕ → Type 0 = λ t. EndsInMemory m ts n t ⊎ ((z : List ℕ) × (y ≡ t ++ z)) in
    let Q : List ℕ → Type 0 = λ t. EndsInMemory m ts n (take i (said ++ t)) ⊎ ((z : List ℕ) × (y ≡ take i (said ++ t) ++ z)) in
    let behind_requests = begins_rest ts us (bytes ++ behind) (rest ++ behind) s.0 (Begins_more (requests ts) bytes behind rest serves.cut) s.2.cut in
    subst P (sym b.6) (elim b.5 [
      | inl none ↦ subst Q (sym none) (inr (texts_front ts us m n l said s.1 y e i serves.turns_made s.2.turns_made s.4))
      | inr some ↦ subst Q (sym some.2) (end_front whole rest behind ts us m n l said s.1 s.0 y e some.0 i some.1 w serves.turns_made s.2.turns_made s.4 behind_requests s.3 other)
    ])
