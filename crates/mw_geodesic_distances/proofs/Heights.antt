-- Parabolas of one width: once one that stands further right is below another, it stays so.
use Rattle.std.proofs.Common.{◌≡◌, ℕ, ◌+◌, ◌-◌, ◌*◌, ◌/◌, ◌<◌, ◌≤◌, sym, ap, subst, arith, ◌∙◌, inl, inr, div-lt_iff_lt-mul}
use Rattle.std.proofs.lemmas.Bool.{cases_lt}
use Rattle.mw_geodesic.specs.Distances.{apart_squared}
use Rattle.mw_geodesic_distances.specs.Columns.{gap_between}
use Rattle.mw_geodesic_distances.specs.Envelopes.{height_at, parabola, IsMeeting}

-- ---- the square of a distance

apart_before : (x d : ℕ) → gap_between x (x + d) ≡ d
apart_before x d = omega arith

apart_behind : (x d : ℕ) → gap_between (x + d) x ≡ d
apart_behind x d = omega arith

square_before : (x d : ℕ) → d * d + 2 * (x * (x + d)) ≡ x * x + (x + d) * (x + d)
square_before x d = omega arith

square_behind : (u d : ℕ) → d * d + 2 * ((u + d) * u) ≡ (u + d) * (u + d) + u * u
square_behind u d = omega arith

apart_square : (x u : ℕ) → apart_squared x u + 2 * (x * u) ≡ x * x + u * u
apart_square x u = elim (cases_lt x u) [
  | inl lt ↦
      let there : x + (u - x) ≡ u = omega arith in
      subst (λ (t : ℕ). apart_squared x t + 2 * (x * t) ≡ x * x + t * t) there
      (ap (λ (t : ℕ). t * t + 2 * (x * (x + (u - x)))) (apart_before x (u - x)) ∙ square_before x (u - x))
  | inr ge ↦
      let here : u + (x - u) ≡ x = omega arith in
      subst (λ (t : ℕ). apart_squared t u + 2 * (t * u) ≡ t * t + u * u) here
      (ap (λ (t : ℕ). t * t + 2 * ((u + (x - u)) * u)) (apart_behind u (x - u)) ∙ square_behind u (x - u))
]

pub height_made : (x u gap a b : ℕ) → a ≡ gap_between x u → b ≡ gap → a * a + b * b ≡ height_at x u gap
unfolding height_at
height_made x u gap a b p q = ap (λ (t : ℕ). t * t + b * b) p ∙ ap (λ (t : ℕ). gap_between x u * gap_between x u + t * t) q

-- ---- two parabolas

-- the square of a distance, as the products tell it
abbrev IsSquare : ℕ → ℕ → ℕ → Type 0
IsSquare x u s = s + 2 * (x * u) ≡ x * x + u * u

stays_below : (x i e d a b a' b' m n : ℕ) → IsSquare x (i + e) a → IsSquare x i b → IsSquare (x + d) (i + e) a' → IsSquare (x + d) i b' → a + m < b + n → a' + m < b' + n
stays_below x i e d a b a' b' m n p q p' q' lt = omega arith

-- by the columns of the two, of which the first is to the left
height_later : (x z i u m n : ℕ) → x ≤ z → i < u → height_at x u m < height_at x i n → height_at z u m < height_at z i n
unfolding height_at
height_later x z i u m n le lt below =
    let there : i + (u - i) ≡ u = omega arith in
    let later : x + (z - x) ≡ z = omega arith in
    stays_below x i (u - i) (z - x) (apart_squared x u) (apart_squared x i) (apart_squared z u) (apart_squared z i) (m * m) (n * n)
    (subst (λ (t : ℕ). IsSquare x t (apart_squared x u)) (sym there) (apart_square x u))
    (apart_square x i)
    (subst (λ (t : ℕ). IsSquare (x + (z - x)) t (apart_squared z u)) (sym there) (subst (λ (t : ℕ). IsSquare t u (apart_squared z u)) (sym later) (apart_square z u)))
    (subst (λ (t : ℕ). IsSquare t i (apart_squared z i)) (sym later) (apart_square z i))
    below

pub later : (gaps : ℕ → ℕ) (x z i u : ℕ) → x ≤ z → i < u → parabola gaps x u < parabola gaps x i → parabola gaps z u < parabola gaps z i
later gaps x z i u le lt below = height_later x z i u (gaps u) (gaps i) le lt below

-- the second is not below the first before it is so at column x
pub earlier : (gaps : ℕ → ℕ) (x z i u : ℕ) → x ≤ z → i < u → parabola gaps z i ≤ parabola gaps z u → parabola gaps x i ≤ parabola gaps x u
earlier gaps x z i u le lt not = elim (cases_lt (parabola gaps x u) (parabola gaps x i)) [
  | inr stays ↦ stays
  | inl below ↦ let then = later gaps x z i u le lt below in absurd (omega arith)
]

-- ---- where they meet

meet_before : (x i e a b a' b' m n : ℕ) → IsSquare x (i + e) a → IsSquare x i b → IsSquare 0 (i + e) a' → IsSquare 0 i b' → b' + n ≤ a' + m → x * (2 * e) ≤ a' + m - (b' + n) → b + n ≤ a + m
meet_before x i e a b a' b' m n p q p' q' le far = omega arith

meet_behind : (x i e a b a' b' m n : ℕ) → IsSquare x (i + e) a → IsSquare x i b → IsSquare 0 (i + e) a' → IsSquare 0 i b' → b' + n ≤ a' + m → a' + m - (b' + n) < x * (2 * e) → a + m < b + n
meet_behind x i e a b a' b' m n p q p' q' le far = omega arith

pub meetings : (i u n m more twice : ℕ) → i < u → height_at 0 i n ≤ height_at 0 u m → more ≡ height_at 0 u m - height_at 0 i n → twice ≡ 2 * (u - i) → IsMeeting (λ x. height_at x i n) (λ x. height_at x u m) (more / twice + 1)
unfolding height_at
meetings i u n m more twice lt le more-is twice-is =
    let there : i + (u - i) ≡ u = omega arith in
    let some : 0 < twice = omega arith in
    let square = λ (x : ℕ). subst (λ (t : ℕ). IsSquare x t (apart_squared x u)) (sym there) (apart_square x u) in
    record {
      before = λ x less.
          let far : x * (2 * (u - i)) ≤ apart_squared 0 u + m * m - (apart_squared 0 i + n * n) = (elim (cases_lt more (x * twice)) [
            | inr up ↦ rw (← more-is, ← twice-is) up
            | inl over ↦ let not = (div-lt_iff_lt-mul some).1 over in absurd (omega arith)
          ]) in
          meet_before x i (u - i) (apart_squared x u) (apart_squared x i) (apart_squared 0 u) (apart_squared 0 i) (m * m) (n * n) (square x) (apart_square x i) (square 0) (apart_square 0 i) le far;
      behind = λ x more'.
          let over : more < x * twice = (div-lt_iff_lt-mul some).0 (omega arith) in
          meet_behind x i (u - i) (apart_squared x u) (apart_squared x i) (apart_squared 0 u) (apart_squared 0 i) (m * m) (n * n) (square x) (apart_square x i) (square 0) (apart_square 0 i) le (rw (← more-is, ← twice-is) over);
    }
