-- Bitmaps with which nothing is wrong are elements.
use Rattle.std.proofs.Common.{◌≡◌, ℕ, zero, suc, ◌+◌, ◌*◌, ◌<◌, ◌≤◌, Bool, true, false, cond, not, ◌&&◌, eqb, List, [], ◌∷◌, ◌++◌, length, map, get_or, Option, Some, None, refl, ap, subst, sym, ◌∙◌, inl, inr, arith}
use Rattle.std.specs.Prelude.{All, nat_le, nat_lt, ◌==◌, if◌then◌else◌, slice_index}
use Rattle.std.specs.List.{cons_option, filter_map, flat_map, list_any, range_with_len}
use Rattle.std.proofs.lemmas.Bool.{and_parts, both_ways, cases_lt, eqb-true, leb-true, ltb-true}
use Rattle.std.proofs.lemmas.List.{get_or-map}
use Rattle.std.proofs.lemmas.List.Elements.{All-from_get_or}
use Rattle.std.proofs.lemmas.List.Folds.{list_any_none}
use Rattle.mw_model.specs.declared.codes.Code.{Code}
use Rattle.mw_model.specs.declared.codes.Code.TheVariants as code
use Rattle.mw_model.specs.declared.offsets.Offset.{Offset}
use Rattle.mw_model.specs.Bitmaps.{SidesFit}
use Rattle.mw_model.specs.Elements.{HoldsPlace, element_side, offset_from, offsets_in_row, offsets_of}
use Rattle.mw_model.specs.Rasters.{raster}
use Rattle.mw_model.specs.Refusals.{first_of, when}
use Rattle.mw_model.proofs.ImagePlaces.{by_places}
use Rattle.mw_model.proofs.mw_facts.Elements.{append-empty}
use Rattle.mw_model.proofs.mw_facts.Finds.{cond-none}
use Rattle.mw_c_arrays.specs.Arrays.{pixels_in_bytes}
use Rattle.mw_c_arrays.specs.Faults.{bitmap_sides_fit, bitmap_size_case, empty_case, length_case, origin_outside_case}
use Rattle.mw_c_arrays.proofs.FirstCases.{first_of-none, when_not-none}

-- lists that are empty together are empty each
flat_map-nothing : {A : Type 0} (g : ℕ → List A) (a n k : ℕ) → a ≤ k → k < a + n → flat_map g (range_with_len a n) ≡ [] → g k ≡ []
flat_map-nothing g a zero k from to none = absurd (omega arith)
flat_map-nothing g a (suc n) k from to none =
    let parts = append-empty (g a) (flat_map g (range_with_len (a + 1) n)) none in
    elim (cases_lt a k) [
      | inl less ↦ flat_map-nothing g (a + 1) n k (omega arith) (omega arith) parts.1
      | inr there ↦ let e : a ≡ k = omega arith in subst (λ (x : ℕ). g x ≡ []) e parts.0
    ]

cons_option-nothing : {A : Type 0} (o : Option A) (xs : List A) → cons_option o xs ≡ [] → (o ≡ None) × (xs ≡ [])
cons_option-nothing None xs e = (refl, e)
cons_option-nothing (Some x) xs e = absurd cc

filter_map-nothing : {A : Type 0} (g : ℕ → Option A) (a n k : ℕ) → a ≤ k → k < a + n → filter_map g (range_with_len a n) ≡ [] → g k ≡ None
filter_map-nothing g a zero k from to none = absurd (omega arith)
filter_map-nothing g a (suc n) k from to none =
    let parts = cons_option-nothing (g a) (filter_map g (range_with_len (a + 1) n)) none in
    elim (cases_lt a k) [
      | inl less ↦ filter_map-nothing g (a + 1) n k (omega arith) (omega arith) parts.1
      | inr there ↦ let e : a ≡ k = omega arith in subst (λ (x : ℕ). g x ≡ None) e parts.0
    ]

pixel-unset : (b : Bool) → eqb (if b then 1 else 0) 1 ≡ false → b ≡ false
pixel-unset true e = absurd cc
pixel-unset false e = refl

-- the place of a bitmap that has no offsets is no pixel
unset_at : (width height ox oy : ℕ) (cells : List ℕ) → offsets_of (raster width height cells) ox oy ≡ [] → (x y : ℕ) → x < width → y < height → eqb (slice_index cells (y * width + x)) 1 ≡ false
unset_at width height ox oy cells none x y across down =
    let row = flat_map-nothing (λ v. offsets_in_row (raster width height cells) ox oy v) 0 height y (omega arith) (omega arith) none in
    let here = filter_map-nothing (λ u. if slice_index cells (y * width + u) == 1 then Some (offset_from ox oy u y) else None) 0 width x (omega arith) (omega arith) row in
    cond-none (eqb (slice_index cells (y * width + x)) 1) (offset_from ox oy x y) here

-- a byte that is not 0 gives an offset
some_offset : (width height ox oy : ℕ) (bytes : List ℕ) → length bytes ≡ height * width → list_any (λ s. nat_le 1 s) bytes ≡ true → offsets_of (raster width height (pixels_in_bytes bytes)) ox oy ≡ [] → ⊥
some_offset width height ox oy bytes size some none =
    let unset = by_places (λ i. eqb (slice_index (pixels_in_bytes bytes) i) 1 ≡ false) width height (unset_at width height ox oy (pixels_in_bytes bytes) none) in
    let zeros = All-from_get_or (λ s. nat_le 1 s ≡ false) bytes 0 (λ i within. byte i within (unset i (omega arith))) in
    both_ways (list_any (λ s. nat_le 1 s) bytes) (list_any_none (λ s. nat_le 1 s) bytes zeros) some
  where
    byte : (i : ℕ) → i < length bytes → eqb (slice_index (pixels_in_bytes bytes) i) 1 ≡ false → nat_le 1 (get_or bytes i 0) ≡ false
    byte i within e =
        let is = get_or-map (λ s. if nat_le 1 s then 1 else 0) bytes i 0 0 within in
        pixel-unset (nat_le 1 (get_or bytes i 0)) (subst (λ (n : ℕ). eqb n 1 ≡ false) is e)

-- a bitmap of an element
pub record Shown (width height ox oy : ℕ) (bytes : List ℕ) : Type 0 where
  pub sides : SidesFit element_side width height
  pub size : length bytes ≡ height * width
  pub origin : HoldsPlace (raster width height (pixels_in_bytes bytes)) ox oy
  pub some : offsets_of (raster width height (pixels_in_bytes bytes)) ox oy ≡ [] → ⊥

pub bitmap_sound : (width height ox oy : ℕ) (bytes : List ℕ)
    → first_of (bitmap_size_case width height ∷ length_case (length bytes) width height ∷ origin_outside_case ox oy width height ∷ empty_case bytes ∷ []) ≡ None
    → Shown width height ox oy bytes
bitmap_sound width height ox oy bytes none =
    let size = first_of-none (bitmap_size_case width height) (length_case (length bytes) width height ∷ origin_outside_case ox oy width height ∷ empty_case bytes ∷ []) none in
    let count = first_of-none (length_case (length bytes) width height) (origin_outside_case ox oy width height ∷ empty_case bytes ∷ []) size.1 in
    let origin = first_of-none (origin_outside_case ox oy width height) (empty_case bytes ∷ []) count.1 in
    let pixel = first_of-none (empty_case bytes) [] origin.1 in
    let wide = nat_le 1 width && nat_le width 255 in
    let high = nat_le 1 height && nat_le height 255 in
    let sides = and_parts wide high (when_not-none (bitmap_sides_fit width height) code.Size size.0) in
    let across = and_parts (nat_le 1 width) (nat_le width 255) sides.0 in
    let down = and_parts (nat_le 1 height) (nat_le height 255) sides.1 in
    let place = and_parts (nat_lt ox width) (nat_lt oy height) (when_not-none (nat_lt ox width && nat_lt oy height) code.Origin origin.0) in
    let filled = eqb-true (length bytes) (height * width) (when_not-none (length bytes == height * width) code.Length count.0) in
    record {
      sides = record {
        some_column = leb-true 1 width across.0;
        some_row = leb-true 1 height down.0;
        narrow = leb-true width 255 across.1;
        low = leb-true height 255 down.1;
      };
      size = filled;
      origin = record { column = ltb-true ox width place.0; row = ltb-true oy height place.1 };
      some = some_offset width height ox oy bytes filled (when_not-none (list_any (λ s. nat_le 1 s) bytes) code.Empty pixel.0);
    }
