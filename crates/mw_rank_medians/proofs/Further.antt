-- Columns in vectors that begin some places further on.
use Rattle.std.proofs.Common.{◌≡◌, ℕ, ◌+◌, ◌-◌, ◌<◌, ◌≤◌, sym, arith, inl, inr, subst}
use Rattle.std.proofs.lemmas.Bool.{cases_lt}
use Rattle.mw_rank_medians.specs.declared.nine.Three.{Three}
use Rattle.mw_rank_medians.specs.declared.five.Five.{Five}
use Rattle.mw_rank_medians.specs.declared.five.Ten.{Ten}
use Rattle.mw_rank_medians.specs.Numbered.{lanes_of_three, lanes_of_five, lanes_of_ten}
use Rattle.mw_rank_medians.specs.Ahead.{IsAhead}

three-same : (a0 a1 a2 b0 b1 b2 : ℕ) → a0 ≡ b0 → a1 ≡ b1 → a2 ≡ b2 → let p : Three ℕ = record { low = a0; middle = a1; high = a2 } in let q : Three ℕ = record { low = b0; middle = b1; high = b2 } in p ≡ q
three-same a0 a1 a2 b0 b1 b2 e0 e1 e2 = cc

five-same : (a0 a1 a2 a3 a4 b0 b1 b2 b3 b4 : ℕ) → a0 ≡ b0 → a1 ≡ b1 → a2 ≡ b2 → a3 ≡ b3 → a4 ≡ b4 → let p : Five ℕ = record { first = a0; second = a1; third = a2; fourth = a3; fifth = a4 } in let q : Five ℕ = record { first = b0; second = b1; third = b2; fourth = b3; fifth = b4 } in p ≡ q
five-same a0 a1 a2 a3 a4 b0 b1 b2 b3 b4 e0 e1 e2 e3 e4 = cc

ten-same : (a b c d : Five ℕ) → a ≡ c → b ≡ d → let p : Ten ℕ = record { odd = a; even = b } in let q : Ten ℕ = record { odd = c; even = d } in p ≡ q
ten-same a b c d e f = cc

pub three_ahead : {V : Type 0} (lane : V → ℕ → ℕ) (width by : ℕ) (a b r : Three V) → IsAhead lane width by a.low b.low r.low → IsAhead lane width by a.middle b.middle r.middle → IsAhead lane width by a.high b.high r.high → IsAhead (lanes_of_three lane) width by a b r
three_ahead lane width by a b r low middle high i lt = (
  λ near. three-same _ _ _ _ _ _ ((low i lt).0 near) ((middle i lt).0 near) ((high i lt).0 near),
  λ far. three-same _ _ _ _ _ _ ((low i lt).1 far) ((middle i lt).1 far) ((high i lt).1 far),
)

pub five_ahead : {V : Type 0} (lane : V → ℕ → ℕ) (width by : ℕ) (a b r : Five V) → IsAhead lane width by a.first b.first r.first → IsAhead lane width by a.second b.second r.second → IsAhead lane width by a.third b.third r.third → IsAhead lane width by a.fourth b.fourth r.fourth → IsAhead lane width by a.fifth b.fifth r.fifth → IsAhead (lanes_of_five lane) width by a b r
five_ahead lane width by a b r first second third fourth fifth i lt = (
  λ near. five-same _ _ _ _ _ _ _ _ _ _ ((first i lt).0 near) ((second i lt).0 near) ((third i lt).0 near) ((fourth i lt).0 near) ((fifth i lt).0 near),
  λ far. five-same _ _ _ _ _ _ _ _ _ _ ((first i lt).1 far) ((second i lt).1 far) ((third i lt).1 far) ((fourth i lt).1 far) ((fifth i lt).1 far),
)

pub ten_ahead : {V : Type 0} (lane : V → ℕ → ℕ) (width by : ℕ) (a b r : Ten V) → IsAhead (lanes_of_five lane) width by a.odd b.odd r.odd → IsAhead (lanes_of_five lane) width by a.even b.even r.even → IsAhead (lanes_of_ten lane) width by a b r
ten_ahead lane width by a b r odd even i lt = (
  λ near. ten-same _ _ _ _ ((odd i lt).0 near) ((even i lt).0 near),
  λ far. ten-same _ _ _ _ ((odd i lt).1 far) ((even i lt).1 far),
)

-- what holds of the lanes of both vectors by their places holds of the lanes that begin further on
pub ahead_holds : {V : Type 0} → {L : Type 0} → (lanes : V → ℕ → L) (Is : ℕ → L → Type 0) (width by at : ℕ) (here next result : V) → by ≤ width → IsAhead lanes width by here next result
    → ((i : ℕ) → i < width → Is (at + i) (lanes here i)) → ((i : ℕ) → i < width → Is (at + width + i) (lanes next i)) → (i : ℕ) → i < width → Is (at + by + i) (lanes result i)
ahead_holds {V} {L} lanes Is width by at here next result small ahead of-here of-next i lt =
    elim (cases_lt (i + by) width) [
      | inl near ↦
          let place : at + (i + by) ≡ at + by + i = omega arith in
          subst (λ (l : L). Is (at + by + i) l) (sym ((ahead i lt).0 near)) (subst (λ (p : ℕ). Is p (lanes here (i + by))) place (of-here (i + by) near))
      | inr far ↦
          let place : at + width + (i + by - width) ≡ at + by + i = omega arith in
          subst (λ (l : L). Is (at + by + i) l) (sym ((ahead i lt).1 far)) (subst (λ (p : ℕ). Is p (lanes next (i + by - width))) place (of-next (i + by - width) (omega arith)))
    ]
