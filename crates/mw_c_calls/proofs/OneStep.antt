-- The numbers of operators of one step.
use Rattle.std.proofs.Common.{◌≡◌, ℕ, ◌<◌, true, ◌||◌, arith, inl, inr}
use Rattle.std.specs.Prelude.{◌==◌}
use Rattle.std.proofs.lemmas.Bool.{eqb-true, or_cases}
use Rattle.mw_c_calls.specs.Rows.{has_one_step}

-- they are of the eight
pub of_eight : (operation : ℕ) → has_one_step operation ≡ true → operation < 8
of_eight operation one =
    elim (or_cases (operation == 0 || operation == 1) (operation == 4 || operation == 7) one) [
      | inl low ↦ elim (or_cases (operation == 0) (operation == 1) low) [ inl is ↦ omega (arith, eqb-true operation 0 is) | inr is ↦ omega (arith, eqb-true operation 1 is) ]
      | inr high ↦ elim (or_cases (operation == 4) (operation == 7) high) [ inl is ↦ omega (arith, eqb-true operation 4 is) | inr is ↦ omega (arith, eqb-true operation 7 is) ]
    ]
