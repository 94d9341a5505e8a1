-- Columns in vectors that begin some places further on.
use Rattle.std.proofs.Common.{◌≡◌, ℕ, ◌+◌, ◌-◌, ◌<◌, ◌≤◌, sym, arith, inl, inr, subst}
use Rattle.std.proofs.lemmas.Bool.{cases_lt}
use Rattle.mw_rank_medians.specs.Ahead.{IsAhead}
use Rattle.mw_rank_lent.specs.declared.nine.Sorted.{Sorted}
use Rattle.mw_rank_lent.specs.Sorted.{lanes_of_sorted}

three-same : (a0 a1 a2 b0 b1 b2 : ℕ) → a0 ≡ b0 → a1 ≡ b1 → a2 ≡ b2 → let p : Sorted ℕ = record { low = a0; middle = a1; high = a2 } in let q : Sorted ℕ = record { low = b0; middle = b1; high = b2 } in p ≡ q
three-same a0 a1 a2 b0 b1 b2 e0 e1 e2 = cc

pub sorted_ahead : {V : Type 0} (lane : V → ℕ → ℕ) (width by : ℕ) (a b r : Sorted V) → IsAhead lane width by a.low b.low r.low → IsAhead lane width by a.middle b.middle r.middle → IsAhead lane width by a.high b.high r.high → IsAhead (lanes_of_sorted lane) width by a b r
sorted_ahead lane width by a b r low middle high i lt = (
  λ near. three-same _ _ _ _ _ _ ((low i lt).0 near) ((middle i lt).0 near) ((high i lt).0 near),
  λ far. three-same _ _ _ _ _ _ ((low i lt).1 far) ((middle i lt).1 far) ((high i lt).1 far),
)

-- what holds of the lanes of both vectors by their places holds of the lanes that begin further on
pub ahead_holds : {V : Type 0} → {L : Type 0} → (lanes : V → ℕ → L) (Is : ℕ → L → Type 0) (width by at : ℕ) (here next result : V) → by ≤ width → IsAhead lanes width by here next result
    → ((i : ℕ) → i < width → Is (at + i) (lanes here i)) → ((i : ℕ) → i < width → Is (at + width + i) (lanes next i)) → (i : ℕ) → i < width → Is (at + by + i) (lanes result i)
ahead_holds {V} {L} lanes Is width by at here next result small ahead of-here of-next i lt =
    elim (cases_lt (i + by) width) [
      | inl near ↦
          let place : at + (i + by) ≡ at + by + i = omega arith in
          subst (λ (l : L). Is (at + by + i) l) (sym ((ahead i lt).0 near)) (subst (λ (p : ℕ). Is p (lanes here (i + by))) place (of-here (i + by) near))
      | inr far ↦
          let place : at + width + (i + by - width) ≡ at + by + i = omega arith in
          subst (λ (l : L). Is (at + by + i) l) (sym ((ahead i lt).1 far)) (subst (λ (p : ℕ). Is p (lanes next (i + by - width))) place (of-next (i + by - width) (omega arith)))
    ]
