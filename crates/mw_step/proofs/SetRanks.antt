-- Ranks of sets are 0 or 1.
use Rattle.std.proofs.Common.{◌≡◌, ℕ, ◌+◌, ◌-◌, ◌*◌, ◌≤◌, min, All, ℤ, pos, negsuc, ◌+ℤ◌, ◌-ℤ◌, List, length, map, get_or, replicate, Option, None, IfSome, slice_get, Bool, true, false, refl, ap, sym, subst, arith, ◌∙◌, inl, inr}
use Rattle.std.specs.Prelude.{◌&&◌, nat_lt, nat_le, cond, if◌then◌else◌}
use Rattle.std.specs.List.{AllByRecursion}
use Rattle.std.proofs.lemmas.Bool.{cases_lt}
use Rattle.std.proofs.lemmas.Grind.{get_or_default_zero}
use Rattle.std.proofs.lemmas.List.{get_or-map, get_or-replicate, length-map, length-replicate, map-id}
use Rattle.std.proofs.lemmas.Nat.{mul-add-lt}
use Rattle.std.proofs.lemmas.Option.{get_or_from_slice_get, slice_get-get_or, slice_get_past}
use Rattle.mw_model.proofs.mw_facts.Alls.{all-each_contained}
use Rattle.mw_model.specs.declared.offsets.Offset.{Offset}
use Rattle.mw_model.specs.declared.offsets.Rect.{Rect}
use Rattle.mw_model.specs.Flat.{in_rising_order}
use Rattle.mw_model.specs.PlanSteps.{ranked}
use Rattle.mw_model.specs.Rasters.{Raster, raster, cell_at, seen_under}
use Rattle.mw_model.specs.Windows.{View, seen_at}
use Rattle.mw_model.proofs.ImageLaws.{sorted_below, index_below}
use Rattle.mw_rank_rows.specs.mw_rank.Ranks.{IsRank}
use Rattle.mw_rank_bits.specs.Elements.{IsSetRank}
use Rattle.mw_rank_bits.specs.mw_bits.Uniform.{HasOnly}
use Rattle.mw_step.proofs.Levels.{two_levels}
use Rattle.mw_step.proofs.SameMembers.{of_seen}

-- what is seen of levels up to a top is not over it
slice_below : (top : ℕ) (xs : List ℕ) (i : ℕ) → All (λ s. s ≤ top) xs → IfSome (slice_get xs i) (λ m. m ≤ top)
slice_below top xs i all =
    elim (cases_lt i (length xs)) [
      | inl lt ↦ subst (λ (o : Option ℕ). IfSome o (λ m. m ≤ top)) (sym (slice_get-get_or xs i 0 lt)) (all i 0 lt)
      | inr past ↦ subst (λ (o : Option ℕ). IfSome o (λ m. m ≤ top)) (sym (slice_get_past xs i past)) tt
    ]

cell_below : (top : ℕ) (f : Raster ℕ) → All (λ s. s ≤ top) f.cells → (x y : ℤ) → IfSome (cell_at f x y) (λ m. m ≤ top)
cell_below top f all (pos x) (pos y) = go (nat_lt x f.width && nat_lt y f.height)
  where
    go : (b : Bool) → IfSome (cond b (slice_get f.cells (y * f.width + x)) None) (λ m. m ≤ top)
    go true = slice_below top f.cells (y * f.width + x) all
    go false = tt
cell_below top f all (pos x) (negsuc y) = tt
cell_below top f all (negsuc x) y = tt

seen_below : (top : ℕ) (w : View ℕ) (offsets : List Offset) (x y : ℕ) → All (λ s. s ≤ top) w.cells → AllByRecursion (λ m. m ≤ top) (seen_under (seen_at w) offsets x y)
seen_below top w offsets x y all =
    let look : Offset → Option ℕ = λ (b : Offset). seen_at w (pos x +ℤ b.dx) (pos y +ℤ b.dy) in
    of_seen (λ m. m ≤ top) look offsets (all-each_contained (λ b. IfSome (look b) (λ m. m ≤ top)) offsets
    (λ b has. cell_below top (raster w.place.width w.place.height w.cells) all (pos x +ℤ b.dx -ℤ pos w.place.x) (pos y +ℤ b.dy -ℤ pos w.place.y)))

-- a rank is one of the levels that are seen
ranked_below : (top k : ℕ) (found : List ℕ) → AllByRecursion (λ m. m ≤ top) found → ranked k found ≤ top
ranked_below top k found all = index_below top (in_rising_order found) (min k (length found) - 1) (sorted_below top found all)

-- the places with a rank of 1 or more are the ranks of a set
pub set_ranks : (k : ℕ) (w set : View ℕ) (offsets : List Offset) (tile : Rect) (ranks p : Raster ℕ) → w ≡ set → All (λ s. s ≤ 1) set.cells → IsRank (λ (n : ℕ). n) k (seen_at w) offsets tile ranks
    → p.width ≡ tile.width → p.height ≡ tile.height → p.cells ≡ map (λ (s : ℕ). if nat_le 1 s then 1 else 0) ranks.cells → IsRank (λ (n : ℕ). n) k (seen_at set) offsets tile p
set_ranks k w set offsets tile ranks p w-is small is width height cells =
    let upper : ℕ → ℕ = λ (s : ℕ). if nat_le 1 s then 1 else 0 in
    let size = is.size in
    record {
      width = width;
      height = height;
      size = ap length cells ∙ length-map ranks.cells upper ∙ size;
      cells = λ x y d across down.
          let i = y * tile.width + x in
          let found : View ℕ → List ℕ = λ (v : View ℕ). map (λ (n : ℕ). n) (seen_under (seen_at v) offsets (tile.x + x) (tile.y + y)) in
          let r-is : get_or ranks.cells i 0 ≡ ranked k (found set) = is.cells x y 0 across down ∙ ap (λ (v : View ℕ). ranked k (found v)) w-is in
          let seen = seen_under (seen_at set) offsets (tile.x + x) (tile.y + y) in
          let low : ranked k (found set) ≤ 1 =
          subst (λ (ns : List ℕ). ranked k ns ≤ 1) (sym (map-id seen)) (ranked_below 1 k seen (seen_below 1 set offsets (tile.x + x) (tile.y + y) small)) in
          ap (λ (t : List ℕ). get_or t i d) cells
          ∙ get_or-map upper ranks.cells i 0 d (omega (arith, mul-add-lt y tile.width x tile.height down across))
          ∙ ap upper r-is
          ∙ two_levels upper (λ (n : ℕ). n) (ranked k (found set)) low refl refl;
    }

-- ranks of pixels are ranks of levels, where each pixel is its level
pub ranks_of_pixels : (k : ℕ) (set : View ℕ) (offsets : List Offset) (tile : Rect) (p : Raster ℕ) → IsSetRank k (seen_at set) offsets tile p → IsRank (λ (n : ℕ). n) k (seen_at set) offsets tile p
ranks_of_pixels k set offsets tile p is =
    let size = is.size in
    record {
      width = is.width;
      height = is.height;
      size = size;
      cells = λ x y d across down.
          let i = y * tile.width + x in
          let seen = seen_under (seen_at set) offsets (tile.x + x) (tile.y + y) in
          get_or_from_slice_get p.cells i (ranked k seen) d (is.cells x y across down) ∙ ap (ranked k) (sym (map-id seen));
    }

-- a set without pixels has no rank of 1
pub blank_ranks : (k : ℕ) (set : View ℕ) (offsets : List Offset) (tile : Rect) (p : Raster ℕ) → HasOnly 0 set.cells → p ≡ raster tile.width tile.height (replicate (tile.height * tile.width) 0) → IsRank (λ (n : ℕ). n) k (seen_at set) offsets tile p
blank_ranks k set offsets tile p only is =
    let none : All (λ s. s ≤ 0) set.cells = λ i d lt. let same = get_or_default_zero set.cells i d lt in let zero = only i lt in omega arith in
    record {
      width = ap (λ (r : Raster ℕ). r.width) is;
      height = ap (λ (r : Raster ℕ). r.height) is;
      size = ap (λ (r : Raster ℕ). length r.cells) is ∙ length-replicate (tile.height * tile.width) 0;
      cells = λ x y d across down.
          let i = y * tile.width + x in
          let seen = seen_under (seen_at set) offsets (tile.x + x) (tile.y + y) in
          let low : ranked k seen ≤ 0 = ranked_below 0 k seen (seen_below 0 set offsets (tile.x + x) (tile.y + y) none) in
          let zero : 0 ≡ ranked k seen = omega arith in
          ap (λ (r : Raster ℕ). get_or r.cells i d) is
          ∙ get_or-replicate (tile.height * tile.width) i 0 d (omega (arith, mul-add-lt y tile.width x tile.height down across))
          ∙ zero
          ∙ ap (ranked k) (sym (map-id seen));
    }
