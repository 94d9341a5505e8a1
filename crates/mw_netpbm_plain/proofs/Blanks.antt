-- Skipping goes over white space and comments, and over nothing else.
use Rattle.std.proofs.Common.{◌≡◌, ℕ, ◌+◌, ◌-◌, ◌*◌, Bool, true, false, cond, eqb, not, List, [], ◌∷◌, ◌++◌, Ok, Err, min, IsTrue, refl, sym, ap, subst, ◌∙◌, arith, inl, inr, append_assoc}
use Rattle.std.specs.List.{AllByRecursion}
use Rattle.std.proofs.lemmas.Bool.{eqb-true, cases_Bool}
use Rattle.std.proofs.lemmas.Bool.Decides.{nat_tests}
use Rattle.std.proofs.lemmas.List.{append-nil}
use Rattle.mw_model.proofs.mw_facts.Alls.{all-push}
use Rattle.mw_netpbm_plain.specs.declared.fault.ReadFault.TheVariants.{Header}
use Rattle.mw_netpbm_plain.specs.Reading.{skip_from, digits_from, number_in_text}
use Rattle.mw_model.specs.NetpbmGrammar.{is_white, is_eol, is_digit, NoDigit, Blank, nothing, white, comment, value_after, IsNumber}
use Rattle.mw_netpbm_plain.proofs.Whole.{cond-chosen}
use Rattle.mw_netpbm_plain.proofs.Sides.{ok_is}

skip_text : (text : List ℕ) (end : ℕ) (bs : List ℕ) → AllByRecursion (λ b. is_eol b ≡ false) text → IsTrue (is_eol end) → skip_from true (text ++ end ∷ bs) ≡ skip_from false bs
unfolding skip_from
skip_text [] end bs all e = ap (λ (b : Bool). skip_from (not b) bs) e
skip_text (b ∷ text) end bs all e = ap (λ (x : Bool). skip_from (not x) (text ++ end ∷ bs)) all.0 ∙ skip_text text end bs all.1 e

pub skip_white : (b : ℕ) (bs : List ℕ) → IsTrue (is_white b) → skip_from false (b ∷ bs) ≡ skip_from false bs
unfolding skip_from
skip_white b bs e = ap (λ (x : Bool). cond x (skip_from false bs) (cond (eqb b 35) (skip_from true bs) (b ∷ bs))) e

pub skip_hash : (bs : List ℕ) → skip_from false (35 ∷ bs) ≡ skip_from true bs
unfolding skip_from
skip_hash bs = refl

pub skip_blank : (blank rest : List ℕ) → Blank blank → skip_from false (blank ++ rest) ≡ skip_from false rest
skip_blank blank rest nothing = refl
skip_blank blank rest (white b bs w more) = skip_white b (bs ++ rest) w ∙ skip_blank bs rest more
skip_blank blank rest (comment text end bs all e more) =
    skip_hash ((text ++ end ∷ bs) ++ rest) ∙ ap (skip_from true) (append_assoc text (end ∷ bs) rest) ∙ skip_text text end (bs ++ rest) all e ∙ skip_blank bs rest more

-- a byte at which skipping stops
abbrev pub Visible : ℕ → Type 0
Visible b = (is_white b ≡ false) × (eqb b 35 ≡ false)

pub skip_visible : (b : ℕ) (bs : List ℕ) → Visible b → skip_from false (b ∷ bs) ≡ b ∷ bs
unfolding skip_from
skip_visible b bs v =
    ap (λ (x : Bool). cond x (skip_from false bs) (cond (eqb b 35) (skip_from true bs) (b ∷ bs))) v.0 ∙ ap (λ (x : Bool). cond x (skip_from true bs) (b ∷ bs)) v.1

-- what skipping went over: blanks, and where the bytes end in a comment, that comment too
pub data Skipped : List ℕ → List ℕ → Type 0 where
  at_visible : (blank : List ℕ) (b : ℕ) (bs : List ℕ) → Blank blank → Visible b → Skipped (blank ++ b ∷ bs) (b ∷ bs)
  at_end : (bytes : List ℕ) → Blank bytes → Skipped bytes []
  in_comment : (blank text : List ℕ) → Blank blank → AllByRecursion (λ b. is_eol b ≡ false) text → Skipped (blank ++ 35 ∷ text) []

pub digit_visible : (b : ℕ) → is_digit b ≡ true → Visible b
digit_visible b h = (grind (arith, nat_tests), grind (arith, nat_tests))

pub white_no_digit : (b : ℕ) → is_white b ≡ true → is_digit b ≡ false
white_no_digit b h = grind (arith, nat_tests)

-- ---- what skipping went over

more_white : (b : ℕ) (bs rest : List ℕ) → is_white b ≡ true → Skipped bs rest → Skipped (b ∷ bs) rest
more_white b bs rest w (at_visible blank c cs bl v) = at_visible (b ∷ blank) c cs (white b blank w bl) v
more_white b bs rest w (at_end bytes bl) = at_end (b ∷ bytes) (white b bytes w bl)
more_white b bs rest w (in_comment blank text bl all) = in_comment (b ∷ blank) text (white b blank w bl) all

more_comment : (text : List ℕ) (e : ℕ) (bs rest : List ℕ) → AllByRecursion (λ b. is_eol b ≡ false) text → is_eol e ≡ true → Skipped bs rest → Skipped (35 ∷ text ++ e ∷ bs) rest
more_comment text e bs rest all end (at_visible blank c cs bl v) =
    subst (λ (bytes : List ℕ). Skipped (35 ∷ bytes) (c ∷ cs)) (append_assoc text (e ∷ blank) (c ∷ cs)) (at_visible (35 ∷ text ++ e ∷ blank) c cs (comment text e blank all end bl) v)
more_comment text e bs rest all end (at_end bytes bl) = at_end (35 ∷ text ++ e ∷ bytes) (comment text e bytes all end bl)
more_comment text e bs rest all end (in_comment blank inner bl each) =
    subst (λ (bytes : List ℕ). Skipped (35 ∷ bytes) []) (append_assoc text (e ∷ blank) (35 ∷ inner)) (in_comment (35 ∷ text ++ e ∷ blank) inner (comment text e blank all end bl) each)

abbrev Found : Bool → List ℕ → List ℕ → Type 0
Found false text bytes = Skipped bytes (skip_from false bytes)
Found true text bytes = Skipped (35 ∷ text ++ bytes) (skip_from true bytes)

Found-everywhere : (inside : Bool) (text bytes : List ℕ) → AllByRecursion (λ b. is_eol b ≡ false) text → Found inside text bytes
unfolding skip_from
Found-everywhere false text [] all = at_end [] nothing
Found-everywhere true text [] all = subst (λ (t : List ℕ). Skipped (35 ∷ t) []) (sym (append-nil text)) (in_comment [] text nothing all)
Found-everywhere false text (b ∷ bs) all =
    elim (cases_Bool (is_white b)) [
      | inl w ↦ subst (λ (rest : List ℕ). Skipped (b ∷ bs) rest) (sym (skip_white b bs w)) (more_white b bs (skip_from false bs) w (Found-everywhere false [] bs tt))
      | inr nw ↦
          elim (cases_Bool (eqb b 35)) [
            | inl hash ↦
                let same : b ≡ 35 = eqb-true b 35 hash in
                subst (λ (c : ℕ). Skipped (c ∷ bs) (skip_from false (c ∷ bs))) (sym same) (Found-everywhere true [] bs tt)
            | inr other ↦ subst (λ (rest : List ℕ). Skipped (b ∷ bs) rest) (sym (skip_visible b bs (nw, other))) (at_visible [] b bs nothing (nw, other))
          ]
    ]
Found-everywhere true text (b ∷ bs) all =
    elim (cases_Bool (is_eol b)) [
      | inl e ↦ subst (λ (x : Bool). Skipped (35 ∷ text ++ b ∷ bs) (skip_from (not x) bs)) (sym e) (more_comment text b bs (skip_from false bs) all e (Found-everywhere false [] bs tt))
      | inr ne ↦
          let inner = Found-everywhere true (text ++ b ∷ []) bs (all-push (λ c. is_eol c ≡ false) text b all ne) in
          subst (λ (x : Bool). Skipped (35 ∷ text ++ b ∷ bs) (skip_from (not x) bs)) (sym ne) (subst (λ (bytes : List ℕ). Skipped (35 ∷ bytes) (skip_from true bs)) (append_assoc text (b ∷ []) bs) inner)
    ]

pub skipped : (bytes : List ℕ) → Skipped bytes (skip_from false bytes)
skipped bytes = Found-everywhere false [] bytes tt

-- ---- numbers

abbrev pub cap : ℕ → ℕ
cap n = min n 4294967296

abbrev pub AreDigits : List ℕ → Type 0
AreDigits text = AllByRecursion (λ d. IsTrue (is_digit d)) text

pub digits_whole : (text : List ℕ) (n : ℕ) (rest : List ℕ) → AreDigits text → NoDigit rest → digits_from (cap n) (text ++ rest) ≡ (cap (value_after n text), rest)
unfolding digits_from
digits_whole [] n [] all stop = refl
digits_whole [] n (b ∷ bs) all stop = ap (λ (x : Bool). cond x (digits_from (min (10 * cap n + (b - 48)) 4294967296) bs) (cap n, b ∷ bs)) stop
digits_whole (d ∷ text) n rest all stop =
    let step : min (10 * cap n + (d - 48)) 4294967296 ≡ cap (10 * n + (d - 48)) = omega arith in
    ap (λ (x : Bool). cond x (digits_from (min (10 * cap n + (d - 48)) 4294967296) (text ++ rest)) (cap n, d ∷ text ++ rest)) all.0
    ∙ ap (λ k. digits_from k (text ++ rest)) step ∙ digits_whole text (10 * n + (d - 48)) rest all.1 stop

-- the longest run of digits at the front
pub record Run (bytes : List ℕ) : Type 0 where
  pub text : List ℕ
  pub rest : List ℕ
  pub parts : bytes ≡ text ++ rest
  pub each : AreDigits text
  pub stops : NoDigit rest

pub run_of : (bytes : List ℕ) → Run bytes
run_of [] = record { text = []; rest = []; parts = refl; each = tt; stops = tt }
run_of (b ∷ bs) =
    elim (cases_Bool (is_digit b)) [
      | inl d ↦
          let r = run_of bs in
          record { text = b ∷ r.text; rest = r.rest; parts = ap (λ (t : List ℕ). b ∷ t) r.parts; each = (d, r.each); stops = r.stops }
      | inr nd ↦ record { text = []; rest = b ∷ bs; parts = refl; each = tt; stops = nd }
    ]

-- a number at the front, and what follows it
pub record Numbered (bytes rest : List ℕ) (capped : ℕ) : Type 0 where
  pub text : List ℕ
  pub value : ℕ
  pub parts : bytes ≡ text ++ rest
  pub is_number : IsNumber text value
  pub stops : NoDigit rest
  pub is_capped : capped ≡ cap value

pub number_whole : (text rest : List ℕ) (n : ℕ) → IsNumber text n → NoDigit rest → number_in_text (text ++ rest) ≡ Ok (cap n, rest)
unfolding number_in_text
number_whole [] rest n is stop = absurd (omega (arith, is.some))
number_whole (d ∷ text) rest n is stop =
    ap (λ (x : Bool). cond x (Ok (digits_from 0 (d ∷ text ++ rest))) (Err Header)) is.each.0
    ∙ ap (λ (p : ℕ × List ℕ). Ok p) (digits_whole (d ∷ text) 0 rest is.each stop)
    ∙ ap (λ (k : ℕ). Ok (cap k, rest)) is.value

number_cases : (b : ℕ) (bs : List ℕ) (x : ℕ × List ℕ) → number_in_text (b ∷ bs) ≡ Ok x → (is_digit b ≡ true) × (digits_from 0 (b ∷ bs) ≡ x)
unfolding number_in_text
number_cases b bs x e =
    elim (cond-chosen (is_digit b) (Ok (digits_from 0 (b ∷ bs))) (Err Header) (Ok x) e) [
      | inl w ↦ (w.0, ok_is (digits_from 0 (b ∷ bs)) x w.1)
      | inr w ↦ absurd (let clash : Err Header ≡ Ok x = w.1 in cc)
    ]

pub number_parts : (bytes : List ℕ) (x : ℕ × List ℕ) → number_in_text bytes ≡ Ok x → Numbered bytes x.1 x.0
unfolding number_in_text
number_parts [] x e = absurd cc
number_parts (b ∷ bs) x e =
    let d = number_cases b bs x e in
    let r = run_of bs in
    let whole = digits_whole (b ∷ r.text) 0 r.rest (d.0, r.each) r.stops in
    let same : b ∷ bs ≡ (b ∷ r.text) ++ r.rest = ap (λ (t : List ℕ). b ∷ t) r.parts in
    let x-is : (cap (value_after 0 (b ∷ r.text)), r.rest) ≡ x = sym whole ∙ ap (digits_from 0) (sym same) ∙ d.1 in
    subst (λ (y : ℕ × List ℕ). Numbered (b ∷ bs) y.1 y.0) x-is
    (record { text = b ∷ r.text; value = value_after 0 (b ∷ r.text); parts = same; is_number = record { some = omega arith; each = (d.0, r.each); value = refl }; stops = r.stops; is_capped = refl })
