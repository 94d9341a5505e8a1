-- The rows of a tile, merged as one list.
use Rattle.std.proofs.Common.{◌≡◌, ℕ, ◌+◌, ◌-◌, ◌*◌, ◌<◌, List, get_or, ap, subst, arith, ◌∙◌}
use Rattle.std.specs.List.{AllByRecursion}
use Rattle.mw_line.specs.Extrema.{strided}
use Rattle.mw_element_runs.specs.declared.runs.Run.{Run}
use Rattle.mw_element_runs.specs.declared.runs.Extent.{Extent}
use Rattle.mw_element_runs.specs.Runs.{start_of, RunHasRoom, gather}

-- there is room for one row of so many samples
pub list_room : (e : Extent) (wide count cells : ℕ) (runs : List Run) → AllByRecursion (RunHasRoom e wide (count + 63) cells) runs → AllByRecursion (RunHasRoom e wide ((1 - 1) * wide + count + 63) cells) runs
list_room e wide count cells runs all = subst (λ (t : ℕ). AllByRecursion (RunHasRoom e wide t cells) runs) (same count wide) all
  where
    same : (count wide : ℕ) → count + 63 ≡ (1 - 1) * wide + count + 63
    same count wide = omega arith

-- a place of the list stands for the place of its row
pub listed : {A : Type 0} (f : A → A → A) (n : A) (runs : List Run) (cells out : List A) (e : Extent) (wide count x y place : ℕ) → y * wide + x < count → place ≡ y * wide + x
    → ((x y : ℕ) → x < count → y < 1 → get_or out (y * count + x) n ≡ gather f n (λ r. strided f cells n 1 (r.count - 1) (start_of e wide r + (y * wide + x))) runs)
    → get_or out place n ≡ gather f n (λ r. strided f cells n 1 (r.count - 1) (start_of e wide r + (y * wide + x))) runs
listed f n runs cells out e wide count x y place less place-is known =
    let q = y * wide + x in
    let here : place ≡ 0 * count + q = omega arith in
    let there : 0 * wide + q ≡ q = omega arith in
    ap (λ (t : ℕ). get_or out t n) here
    ∙ known q 0 less (omega arith)
    ∙ ap (λ (t : ℕ). gather f n (λ r. strided f cells n 1 (r.count - 1) (start_of e wide r + t)) runs) there
