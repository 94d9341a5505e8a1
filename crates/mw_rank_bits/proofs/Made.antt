-- Ranks of pixels, put together from what lacks and what is there.
use Rattle.std.proofs.Common.{◌≡◌, ℕ, ◌+◌, ◌*◌, ◌<◌, ◌≤◌, min, max, All, cond, List, length, map, get_or, fold, Some, slice_get, refl, ap, subst, sym, arith, ◌∙◌}
use Rattle.std.specs.Prelude.{nat_lt}
use Rattle.std.proofs.lemmas.Nat.{mul-add-lt}
use Rattle.std.proofs.lemmas.Option.{slice_get-get_or}
use Rattle.mw_model.specs.declared.offsets.Offset.{Offset}
use Rattle.mw_model.specs.declared.offsets.Rect.{Rect}
use Rattle.mw_model.specs.PlanSteps.{ranked}
use Rattle.mw_model.specs.Rasters.{Raster, raster, seen_under}
use Rattle.mw_model.specs.Windows.{View, seen_at}
use Rattle.mw_model.proofs.Ranks.{count_under}
use Rattle.mw_bits.specs.mw_line.Extrema.{IsSlidingExtremum}
use Rattle.mw_bits.specs.mw_element_runs.declared.runs.Run.{Run}
use Rattle.mw_bits.specs.mw_pixel_words.Packed.{bit_of, stride_of, samples_of, IsPacked}
use Rattle.mw_bits.proofs.mw_pixel_words.Bits.{sample_is_bit, length-samples_of, rows_fit}
use Rattle.mw_rank_bits.specs.Elements.{single_run, lacks_under, IsSetRank, IsMet}
use Rattle.mw_rank_bits.proofs.Ranked.{ranked_set, lacks_seen, seen_few, seen_small}

-- bits of both sets are packed as those of the first
pub both_packed : (width height : ℕ) (few other made : List ℕ) → IsPacked width height few → length made ≡ length few → ((q : ℕ) → q < 64 * length few → bit_of made q ≡ min (bit_of few q) (bit_of other q)) → IsPacked width height made
both_packed width height few other made packed same both = record {
  size = same ∙ packed.size;
  clean = λ x y down past lt.
      let place = y * (64 * stride_of width) + x in
      let fits = rows_fit y height (stride_of width) down in
      let none = packed.clean x y down past lt in
      let is = both place (omega (arith, fits, packed.size)) in
      omega (arith, none, is);
}

at_is : (xs : List ℕ) (i v : ℕ) → i < length xs → slice_get xs i ≡ Some v → get_or xs i 0 ≡ v
at_is xs i v lt is = let e : Some (get_or xs i 0) ≡ Some v = sym (slice_get-get_or xs i 0 lt) ∙ is in cc

-- words that both sets have are the pixels that both have
pub both_met : (few other made : List ℕ) (d p : Raster ℕ) → IsPacked d.width d.height few → d.cells ≡ samples_of d.width d.height other → ((q : ℕ) → q < 64 * length few → bit_of made q ≡ min (bit_of few q) (bit_of other q))
    → p ≡ raster d.width d.height (samples_of d.width d.height made) → IsMet few d p
both_met few other made d p packed other-is both p-is =
    subst (IsMet few d) (sym p-is) (record {
      width = refl;
      height = refl;
      size = length-samples_of d.width d.height made;
      cells = λ x y lt down.
          let place = y * (64 * stride_of d.width) + x in
          let i = y * d.width + x in
          let inside : i < d.height * d.width = omega (arith, mul-add-lt y d.width x d.height down lt) in
          let fits = rows_fit y d.height (stride_of d.width) down in
          let there : place < 64 * length few = omega (arith, fits, packed.size) in
          let second : bit_of other place ≡ get_or d.cells i 0 = sym (sample_is_bit d.width d.height other x y lt down) ∙ ap (λ (t : List ℕ). get_or t i 0) (sym other-is) in
          slice_get-get_or (samples_of d.width d.height made) i 0 (omega (arith, inside, length-samples_of d.width d.height made))
          ∙ ap Some (sample_is_bit d.width d.height made x y lt down ∙ both place there ∙ ap (min (bit_of few place)) second);
    })

-- the pixels that see few enough that lack, and something
pub rank_made : (k number : ℕ) (w : View ℕ) (offsets : List Offset) (tile : Rect) (runs : List Run) (few : List ℕ) (d p : Raster ℕ) → All (λ s. s ≤ 1) w.cells → number ≡ min (max k 1) (length offsets + 1) → runs ≡ map single_run offsets
    → ((x y : ℕ) → x < tile.width → y < tile.height → bit_of few (y * (64 * stride_of tile.width) + x) ≡ cond (nat_lt (lacks_under (seen_at w) runs (tile.x + x) (tile.y + y)) number) 1 0)
    → IsSlidingExtremum max 0 (seen_at w) offsets tile d → IsMet few d p → IsSetRank k (seen_at w) offsets tile p
rank_made k number w offsets tile runs few d p small number-is runs-is few-is seen met = record {
  width = met.width ∙ seen.width;
  height = met.height ∙ seen.height;
  size = met.size ∙ ap (λ (t : ℕ). t * d.width) seen.height ∙ ap (λ (t : ℕ). tile.height * t) seen.width;
  cells = λ x y lt down.
      let i = y * tile.width + x in
      let inside : i < tile.height * tile.width = omega (arith, mul-add-lt y tile.width x tile.height down lt) in
      let sight = seen_at w in
      let ns = seen_under sight offsets (tile.x + x) (tile.y + y) in
      let size = seen.size in
      let wide : y * d.width + x ≡ i = ap (λ (t : ℕ). y * t + x) seen.width in
      let place : y * (64 * stride_of d.width) + x ≡ y * (64 * stride_of tile.width) + x = ap (λ (t : ℕ). y * (64 * stride_of t) + x) seen.width in
      let width = seen.width in
      let height = seen.height in
      let first : bit_of few (y * (64 * stride_of d.width) + x) ≡ cond (nat_lt (count_under 1 ns) number) 1 0 =
      ap (bit_of few) place
      ∙ few-is x y lt down
      ∙ ap (λ (t : List Run). cond (nat_lt (lacks_under sight t (tile.x + x) (tile.y + y)) number) 1 0) runs-is
      ∙ ap (λ (t : ℕ). cond (nat_lt t number) 1 0) (lacks_seen sight offsets (tile.x + x) (tile.y + y)) in
      let second : get_or d.cells (y * d.width + x) 0 ≡ fold max 0 ns = ap (λ (t : ℕ). get_or d.cells t 0) wide ∙ at_is d.cells i (fold max 0 ns) (omega (arith, inside, size)) (seen.cells x y lt down) in
      let rank : min (cond (nat_lt (count_under 1 ns) number) 1 0) (fold max 0 ns) ≡ ranked k ns =
      ranked_set k number (length offsets) ns (seen_small w offsets (tile.x + x) (tile.y + y) small) (seen_few sight offsets (tile.x + x) (tile.y + y)) number-is in
      ap (slice_get p.cells) (sym wide)
      ∙ met.cells x y (omega (arith, width)) (omega (arith, height))
      ∙ ap Some (ap (λ (t : ℕ). min t (get_or d.cells (y * d.width + x) 0)) first ∙ ap (min (cond (nat_lt (count_under 1 ns) number) 1 0)) second ∙ rank);
}
