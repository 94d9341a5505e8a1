-- The numbers that distances begin with.
use Rattle.std.proofs.Common.{◌≡◌, ℕ, ◌+◌, ◌/◌, ◌^◌, ◌<◌, bit_and, arith, ◌∙◌, sym, inl, inr}
use Rattle.std.specs.Int.{bit_at}
use Rattle.std.proofs.lemmas.Bool.{cases_eq, ne_eqb}
use Rattle.std.proofs.lemmas.Nat.Bits.{shr_and_one}
use Rattle.mw_geodesic_distances.specs.Rows.{begin_of_bit}
use Rattle.mw_geodesic_distances.proofs.Lists.{IsRowPut}

pub started_in : (top word bit : ℕ) → bit_and (word / 2 ^ bit) 1 ≡ 1 → top ≡ begin_of_bit top (bit_at word bit)
started_in top word bit is = let one : bit_at word bit ≡ 1 = sym (shr_and_one word bit) ∙ is in rw one (omega arith)

pub started_out : (top word bit : ℕ) → (bit_and (word / 2 ^ bit) 1 ≡ 1 → ⊥) → 0 ≡ begin_of_bit top (bit_at word bit)
started_out top word bit other = rw (ne_eqb (bit_at word bit) 1 (λ e. other (shr_and_one word bit ∙ e))) (omega arith)

-- the rows before row y have their numbers
pub record IsBegunTo (top w h y : ℕ) (set g : ℕ → ℕ → ℕ) : Type 0 where
  pub done : (x v : ℕ) → x < w → v < y → v < h → g x v ≡ begin_of_bit top (set x v)

pub begun_none : (top w h : ℕ) (set g : ℕ → ℕ → ℕ) → IsBegunTo top w h 0 set g
begun_none top w h set g = record { done = λ x v p lt q. absurd (omega arith) }

pub begun_more : (top w h y : ℕ) (set g made : ℕ → ℕ → ℕ) (row : ℕ → ℕ) → ((x : ℕ) → x < w → row x ≡ begin_of_bit top (set x y)) → IsRowPut w h y row g made → IsBegunTo top w h y set g → IsBegunTo top w h (y + 1) set made
begun_more top w h y set g made row is put before = record {
  done = λ x v p lt q. elim (cases_eq v y) [
    | inl here ↦ rw here (put.here x p ∙ is x p)
    | inr other ↦ put.others x v p q other ∙ before.done x v p (omega arith) q
  ];
}
