-- Samples of one to five digits at the front of bytes.
use Rattle.std.proofs.Common.{◌≡◌, ℕ, zero, suc, ◌+◌, ◌≤◌, Bool, true, false, if◌then◌else◌, List, [], ◌∷◌, ◌++◌, length, get_or, take, drop, refl, sym, ap, ◌∙◌, arith}
use Rattle.std.proofs.lemmas.List.{get_or-drop}
use Rattle.mw_model.specs.NetpbmGrammar.{nothing, white, IsApart, IsNumber, IsSample, IsTail, is_digit, is_white}
use Rattle.mw_netpbm_plain.specs.Short.{digits_ahead, IsShort}
use Rattle.mw_netpbm_plain.proofs.Blanks.{white_no_digit}

apart_tail : (left : ℕ) (rest : List ℕ) → IsTail rest → IsApart left rest
apart_tail zero [] tail = tt
apart_tail zero (b ∷ bs) tail = white_no_digit b tail
apart_tail (suc left) rest tail = tail

append-take_drop : (k : ℕ) (digits more : List ℕ) → k ≤ length digits → digits ++ more ≡ take k digits ++ drop k (digits ++ more)
append-take_drop zero digits more le = refl
append-take_drop (suc k) [] more le = absurd (omega (arith, le))
append-take_drop (suc k) (d ∷ ds) more le = ap (λ (bs : List ℕ). d ∷ bs) (append-take_drop k ds more (omega (arith, le)))

-- white space, a number at the front of these bytes, and white space
pub sample_of_few : (left first n k : ℕ) (few bytes more rest : List ℕ) → bytes ≡ first ∷ few ++ more → is_white first ≡ true → IsNumber (take k few) n → k ≤ length few → rest ≡ drop (1 + k) bytes → IsTail rest
    → IsSample left bytes n rest
sample_of_few left first n k few bytes more rest parts w is le rest-is tail =
    let past : 1 + k ≡ suc k = omega arith in
    let after : drop k (few ++ more) ≡ rest = sym (rest-is ∙ ap (λ (bs : List ℕ). drop (1 + k) bs) parts ∙ ap (λ i. drop i (first ∷ few ++ more)) past) in (
      first ∷ [],
      take k few,
      parts ∙ ap (λ (bs : List ℕ). first ∷ bs) (append-take_drop k few more le ∙ ap (λ (bs : List ℕ). take k few ++ bs) after),
      white first [] w nothing,
      is,
      apart_tail left rest tail,
    )

pub six_first : (bytes : List ℕ) → 7 ≤ length bytes → bytes ≡ get_or bytes 0 0 ∷ get_or bytes 1 0 ∷ get_or bytes 2 0 ∷ get_or bytes 3 0 ∷ get_or bytes 4 0 ∷ get_or bytes 5 0 ∷ drop 6 bytes
six_first [] le = absurd (omega (arith, le))
six_first (a ∷ []) le = absurd (omega (arith, le))
six_first (a ∷ b ∷ []) le = absurd (omega (arith, le))
six_first (a ∷ b ∷ c ∷ []) le = absurd (omega (arith, le))
six_first (a ∷ b ∷ c ∷ d ∷ []) le = absurd (omega (arith, le))
six_first (a ∷ b ∷ c ∷ d ∷ e ∷ []) le = absurd (omega (arith, le))
six_first (a ∷ b ∷ c ∷ d ∷ e ∷ f ∷ more) le = refl

pub white_tail : (rest : List ℕ) → is_white (get_or rest 0 0) ≡ true → IsTail rest
white_tail [] w = tt
white_tail (b ∷ bs) w = w

same_ahead : (deep : Bool) (a b c d e : ℕ) (more : List ℕ) → digits_ahead (if deep then 5 else 3) (a ∷ b ∷ c ∷ d ∷ e ∷ more) ≡ digits_ahead (if deep then 5 else 3) (a ∷ b ∷ c ∷ d ∷ e ∷ [])
unfolding digits_ahead
same_ahead true a b c d e more = refl
same_ahead false a b c d e more = refl

-- the digits ahead are those of the first five bytes
pub ahead_of_five : (deep : Bool) (bytes : List ℕ) → 7 ≤ length bytes → digits_ahead (if deep then 5 else 3) (drop 1 bytes) ≡ digits_ahead (if deep then 5 else 3) (get_or bytes 1 0 ∷ get_or bytes 2 0 ∷ get_or bytes 3 0 ∷ get_or bytes 4 0 ∷ get_or bytes 5 0 ∷ [])
ahead_of_five deep bytes long =
    ap (λ (bs : List ℕ). digits_ahead (if deep then 5 else 3) (drop 1 bs)) (six_first bytes long)
    ∙ same_ahead deep (get_or bytes 1 0) (get_or bytes 2 0) (get_or bytes 3 0) (get_or bytes 4 0) (get_or bytes 5 0) (drop 6 bytes)

at_rest : (bytes rest : List ℕ) (k : ℕ) → rest ≡ drop (1 + k) bytes → get_or rest 0 0 ≡ get_or bytes (1 + k) 0
at_rest bytes rest k is =
    let same : 1 + k + 0 ≡ 1 + k = omega arith in
    ap (λ (bs : List ℕ). get_or bs 0 0) is ∙ get_or-drop (1 + k) bytes 0 0 ∙ ap (λ i. get_or bytes i 0) same

pub is_short : (deep : Bool) (bytes rest : List ℕ) (k : ℕ) → 7 ≤ length bytes → is_white (get_or bytes 0 0) ≡ true → is_digit (get_or bytes 1 0) ≡ true
    → k ≡ digits_ahead (if deep then 5 else 3) (get_or bytes 1 0 ∷ get_or bytes 2 0 ∷ get_or bytes 3 0 ∷ get_or bytes 4 0 ∷ get_or bytes 5 0 ∷ []) → rest ≡ drop (1 + k) bytes → is_white (get_or rest 0 0) ≡ true
    → IsShort (if deep then 5 else 3) bytes
is_short deep bytes rest k long before digit count rest-is after = record {
  long = long;
  before = before;
  digit = digit;
  after = ap (λ i. is_white (get_or bytes (1 + i) 0)) (ahead_of_five deep bytes long ∙ sym count) ∙ ap is_white (sym (at_rest bytes rest k rest-is)) ∙ after;
}

pub white_after : (deep : Bool) (bytes rest : List ℕ) (k : ℕ)
    → k ≡ digits_ahead (if deep then 5 else 3) (get_or bytes 1 0 ∷ get_or bytes 2 0 ∷ get_or bytes 3 0 ∷ get_or bytes 4 0 ∷ get_or bytes 5 0 ∷ []) → rest ≡ drop (1 + k) bytes → IsShort (if deep then 5 else 3) bytes
    → is_white (get_or rest 0 0) ≡ true
white_after deep bytes rest k count rest-is short =
    ap is_white (at_rest bytes rest k rest-is) ∙ ap (λ i. is_white (get_or bytes (1 + i) 0)) (count ∙ sym (ahead_of_five deep bytes short.long)) ∙ short.after
