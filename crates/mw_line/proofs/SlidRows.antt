-- A row of the window that is merged into a line and slid.
use Rattle.std.proofs.Common.{◌≡◌, ℕ, ◌+◌, ◌-◌, ◌*◌, ◌<◌, ◌≤◌, List, length, get_or, ap, arith, ◌∙◌}
use Rattle.mw_line.specs.Extrema.{strided, over}
use Rattle.mw_line.proofs.Over.{over_same, over_strided}

-- a row of the window, merged into a line and slid
pub row_slid : {A : Type 0} (f : A → A → A) (merged : ℕ → A → A) (blank line slid : List A) (across wide : ℕ) → 0 < across → wide ≤ length blank
    → ((x : ℕ) (d : A) → x < length blank → get_or line x d ≡ merged x (get_or blank x d))
    → ((p : ℕ) (d : A) → p + across * 1 < wide + 1 → get_or slid p d ≡ strided f line d 1 (across - 1) p) → length line ≡ length blank
    → (x : ℕ) (d : A) → x + across ≤ wide → get_or slid x d ≡ over f (λ i. merged (x + i) (get_or blank (x + i) d)) 0 (across - 1)
row_slid f merged blank line slid across wide some room line-is slid-is same x d le =
    slid-is x d (omega arith)
    ∙ over_strided f line d 1 x 0 (across - 1) x (omega arith)
    ∙ over_same f (λ i. get_or line (x + i * 1) d) (λ i. merged (x + i) (get_or blank (x + i) d)) 0 (across - 1) (λ i from to.
    ap (λ (t : ℕ). get_or line t d) (place x i) ∙ line-is (x + i) d (omega arith))
  where
    place : (x i : ℕ) → x + i * 1 ≡ x + i
    place x i = omega arith
