-- Rows of which the parts were made apart.
use Rattle.std.proofs.Common.{◌≡◌, ℕ, ◌+◌, ◌-◌, ◌*◌, ◌<◌, ◌≤◌, List, [], ◌++◌, length, get_or, take, drop, ap, sym, arith, ◌∙◌, length-take, length-drop}
use Rattle.std.proofs.lemmas.List.{get_or-take, get_or-drop}
use Rattle.mw_model.specs.declared.offsets.Offset.{Offset}
use Rattle.mw_model.specs.declared.offsets.Rect.{Rect}
use Rattle.mw_model.specs.PlanSteps.{ranked}
use Rattle.mw_model.specs.Rasters.{Raster, Sight}
use Rattle.mw_rank.specs.Ranks.{levels_under, IsRank, GainsRow, HasRows}
use Rattle.mw_rank_counts.specs.Counting.{levels_on, ArePlaces}
use Rattle.mw_rank_counts.proofs.Seeking.{slice_gained}

-- the samples of a plane of ranks
pub rows_of : {A : Type 0} (level : A → ℕ) (k : ℕ) (sight : Sight A) (element : List Offset) (tile : Rect) (items : List A) (r : Raster A) → items ≡ r.cells → IsRank level k sight element tile r
    → HasRows level (λ x y. ranked k (levels_under level sight element (tile.x + x) (tile.y + y))) tile.width tile.height items
rows_of level k sight element tile items r is ranks = record {
  size = ap length is ∙ ranks.size;
  made = λ x j d lt down. ap (λ (l : List _). level (get_or l (j * tile.width + x) d)) is ∙ ranks.cells x j d lt down;
}

-- rows without columns
pub no_columns : {A : Type 0} (level : A → ℕ) (value : ℕ → ℕ → ℕ) (width n : ℕ) (items : List A) → width ≡ 0 → items ≡ [] → HasRows level value width n items
no_columns level value width n items none is = record { size = ap length is ∙ (let e : 0 ≡ n * 0 = omega arith in e) ∙ ap (λ (w : ℕ). n * w) (sym none); made = λ x j d lt down. absurd (omega arith) }

-- a row gains by values that are equal to others
pub gains_as : {A : Type 0} (level : A → ℕ) (value other : ℕ → ℕ) (n : ℕ) (old new : List A) → ((i : ℕ) → i < n → value i ≡ other i) → GainsRow level value n old new → GainsRow level other n old new
gains_as level value other n old new same t = record { size = t.size; kept = t.kept; made = λ x d lt. t.made x d lt ∙ same x lt }

-- a row of samples that stand row after row
pub row_gained : {A : Type 0} (level : A → ℕ) (d : A) (samples : List A) (from width : ℕ) (out new : List A) → from + width ≤ length samples → new ≡ out ++ take (from + width - from) (drop from samples)
    → GainsRow level (λ i. level (get_or samples (from + i) d)) width out new
row_gained level d samples from width out new fits new-is =
    slice_gained level d (λ i. level (get_or samples (from + i) d)) width (take (from + width - from) (drop from samples)) out new (omega (arith, length-take (from + width - from) (drop from samples), length-drop from samples))
    (λ i lt. ap level (get_or-take (from + width - from) (drop from samples) i d (omega arith) ∙ get_or-drop from samples i d)) new-is

-- where no offset has a place, the ranks are 0
pub none_ranked : {A : Type 0} (level : A → ℕ) (d : A) (sight : Sight A) (samples : List A) (element : List Offset) (k x y n : ℕ) (places : List ℕ) → places ≡ [] → ArePlaces level d sight samples element x y n places → (i : ℕ) → i < n
    → 0 ≡ ranked k (levels_under level sight element (x + i) y)
none_ranked level d sight samples element k x y n places none are i lt =
    let seen : [] ≡ levels_under level sight element (x + i) y = ap (λ (l : List ℕ). levels_on level d samples l i) (sym none) ∙ are.seen i lt in
    ap (ranked k) seen
