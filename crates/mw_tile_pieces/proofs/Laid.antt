-- Pieces that are written into a window, one after another.
use Rattle.std.proofs.Common.{◌≡◌, ℕ, ◌+◌, ◌-◌, ◌*◌, ◌<◌, ◌≤◌, ◌≢◌, Bool, true, false, List, length, set, get_or, replicate, take, slice_get, Some, refl, ap, sym, subst, arith, ◌∙◌, inl, inr}
use Rattle.std.specs.List.{AllByRecursion}
use Rattle.std.proofs.Math.ListN.{length-set}
use Rattle.std.proofs.lemmas.Bool.{cases_lt}
use Rattle.std.proofs.lemmas.List.{length-replicate, get_or_default, get_or-set_same, get_or-set_other}
use Rattle.std.proofs.lemmas.Nat.{mul-add-lt}
use Rattle.std.proofs.lemmas.Nat.Bits.{bit_at-zero}
use Rattle.std.proofs.lemmas.Option.{slice_get-get_or, slice_get_past}
use Rattle.mw_model.proofs.mw_facts.Alls.{all-both, all-get_or, all-take, all-take_whole}
use Rattle.mw_model.specs.declared.offsets.Rect.{Rect}
use Rattle.mw_model.specs.Rectangles.{Holds}
use Rattle.mw_model.specs.Rasters.{Raster, raster}
use Rattle.mw_tile.specs.mw_pixel_words.Packed.{bit_of, samples_of, stride_of, IsPacked}
use Rattle.mw_tile.proofs.mw_pixel_words.Bits.{length-samples_of, sample_is_bit}
use Rattle.mw_tile.proofs.mw_pixel_words.Done.{blank_bit}
use Rattle.mw_tile_pieces.specs.Patches.{Joint, Patch, cell_of, has_place, no_patch, patch, patch_at, value_in, HasValues, IsJoint, ShowsIn}
use Rattle.mw_tile_pieces.proofs.Patches.{all_next, has_holds, has_yes, read_at, values_of_shows}
use Rattle.mw_tile_pieces.specs.declared.blocks.Block.{Block}
use Rattle.mw_tile_pieces.specs.Blocks.{AreApart, BlockFits, CopiesRun, IsCommon, IsPasted}
use Rattle.mw_tile_pieces.specs.Laid.{IsLaid}
use Rattle.mw_tile_pieces.proofs.Pasted.{common_fits, common_shown, IsShown}

-- ---- one sample

pub sample_run : {A : Type 0} (xs from : List A) (k m : ℕ) (v : A) → k < length xs → m < length from → v ≡ get_or from m v → CopiesRun (slice_get xs) (slice_get (set xs k v)) (slice_get from) k m 1
sample_run xs from k m v lt less v-is = record {
  copied = λ i one.
      let k-is : k + i ≡ k = omega arith in
      let m-is : m ≡ m + i = omega arith in
      ap (slice_get (set xs k v)) k-is
      ∙ slice_get-get_or (set xs k v) k v (omega (arith, length-set xs k v))
      ∙ ap Some (get_or-set_same xs k v v lt ∙ v-is)
      ∙ sym (slice_get-get_or from m v less)
      ∙ ap (slice_get from) m-is;
  kept = λ p out.
      let other : p ≢ k = elim out [ inl ahead ↦ omega arith | inr behind ↦ omega arith ] in
      elim (cases_lt p (length xs)) [
        | inl inside ↦ slice_get-get_or (set xs k v) p v (omega (arith, length-set xs k v)) ∙ ap Some (get_or-set_other xs k p v v other) ∙ sym (slice_get-get_or xs p v inside)
        | inr past ↦ slice_get_past (set xs k v) p (omega (arith, length-set xs k v)) ∙ sym (slice_get_past xs p past)
      ];
}

-- ---- one piece

holds_at : (r h : Rect) (x y : ℕ) → Holds r x y → Holds h (r.x + (x - r.x)) (r.y + (y - r.y)) → Holds h x y
holds_at r h x y holds is =
    let left = holds.left in
    let top = holds.top in
    let x-is : r.x + (x - r.x) ≡ x = omega arith in
    let y-is : r.y + (y - r.y) ≡ y = omega arith in
    subst (λ (t : ℕ). Holds h x t) y-is (subst (λ (t : ℕ). Holds h t (r.y + (y - r.y))) x-is is)

column_in : (r : Rect) (x y : ℕ) → Holds r x y → x - r.x < r.width
column_in r x y holds = let left = holds.left in let right = holds.right in omega arith

row_in : (r : Rect) (x y : ℕ) → Holds r x y → y - r.y < r.height
row_in r x y holds = let top = holds.top in let bottom = holds.bottom in omega arith

pub laid_apart : {A : Type 0} (r : Rect) (p : Patch A) (cells : List A) → AreApart r p.place → IsLaid r p cells cells
laid_apart r p cells apart = record { size = refl; shows = λ x y holds here. absurd (apart x y holds here); rest = λ x y holds none. refl }

pub laid_samples : {A : Type 0} (r : Rect) (p : Patch A) (old new : List A) → length new ≡ length old → IsShown r p.place r.width p.place.width (slice_get old) (slice_get new) (slice_get p.cells) → IsLaid r p old new
laid_samples r p old new size shown = record {
  size = size;
  shows = λ x y holds here. sym (shown.shows x y holds here);
  rest = λ x y holds none. shown.rest (x - r.x) (y - r.y) (column_in r x y holds) (λ in_r in_h. none (holds_at r p.place x y holds in_h));
}

-- the sample of a place of a rectangle
pub sample_at : (r : Rect) (words : List ℕ) (x y : ℕ) → Holds r x y → cell_of (patch r (samples_of r.width r.height words)) x y ≡ Some (bit_of words ((y - r.y) * (64 * stride_of r.width) + (x - r.x)))
sample_at r words x y holds =
    let across = column_in r x y holds in
    let down = row_in r x y holds in
    slice_get-get_or (samples_of r.width r.height words) ((y - r.y) * r.width + (x - r.x)) 0 (omega (arith, length-samples_of r.width r.height words, mul-add-lt (y - r.y) r.width (x - r.x) r.height down across))
    ∙ ap Some (sample_is_bit r.width r.height words (x - r.x) (y - r.y) across down)

pub laid_bits : (r : Rect) (p : Patch ℕ) (old new from : List ℕ) → p.cells ≡ samples_of p.place.width p.place.height from → IsShown r p.place (64 * stride_of r.width) (64 * stride_of p.place.width) (bit_of old) (bit_of new) (bit_of from)
    → IsLaid r p (samples_of r.width r.height old) (samples_of r.width r.height new)
laid_bits r p old new from cells-is shown = record {
  size = length-samples_of r.width r.height new ∙ sym (length-samples_of r.width r.height old);
  shows = λ x y holds here.
      ap (λ (t : List ℕ). cell_of (patch p.place t) x y) cells-is
      ∙ sample_at p.place from x y here
      ∙ ap Some (sym (shown.shows x y holds here))
      ∙ sym (sample_at r new x y holds);
  rest = λ x y holds none.
      let across = column_in r x y holds in
      sample_at r new x y holds
      ∙ ap Some (shown.rest (x - r.x) (y - r.y) (omega arith) (λ in_r in_h. none (holds_at r p.place x y holds in_h)))
      ∙ sym (sample_at r old x y holds);
}

pub laid_packed : (r h : Rect) (own : ℕ) (old new from : List ℕ) → length new ≡ length old → IsPacked r.width r.height old → IsShown r h (64 * stride_of r.width) own (bit_of old) (bit_of new) (bit_of from) → IsPacked r.width r.height new
laid_packed r h own old new from size packed shown = record {
  size = size ∙ packed.size;
  clean = λ x y down past less. shown.rest x y less (λ in_r in_h. (let right = in_r.right in absurd (omega arith))) ∙ packed.clean x y down past less;
}

-- ---- what the code has of a piece

common_samples : {A : Type 0} (r held : Rect) (p : Patch A) (b : Block) → held ≡ p.place → IsCommon r held r.width held.width b → IsCommon r p.place r.width p.place.width b
common_samples r held p b held-is common = subst (λ (q : Rect). IsCommon r q r.width q.width b) held-is common

pub samples_fit : {A : Type 0} (r held : Rect) (p : Patch A) (b : Block) (n m : ℕ) → held ≡ p.place → IsCommon r held r.width held.width b → n ≡ r.height * r.width → m ≡ p.place.height * p.place.width → BlockFits b n m
samples_fit r held p b n m held-is common n-is m-is =
    subst (λ (t : ℕ). BlockFits b t m) (sym n-is) (subst (BlockFits b (r.height * r.width)) (sym m-is) (common_fits r p.place r.width p.place.width b (omega arith) (omega arith) (common_samples r held p b held-is common)))

pub samples_laid : {A : Type 0} (r held : Rect) (p : Patch A) (b : Block) (old new from : List A) → held ≡ p.place → IsCommon r held r.width held.width b → from ≡ p.cells → length new ≡ length old → IsPasted b (slice_get old) (slice_get new) (slice_get from)
    → IsLaid r p old new
samples_laid {A} r held p b old new from held-is common from-is size pasted =
    laid_samples r p old new size
    (common_shown r p.place r.width p.place.width b (slice_get old) (slice_get new) (slice_get p.cells) (omega arith) (common_samples r held p b held-is common)
    (subst (λ (t : List A). IsPasted b (slice_get old) (slice_get new) (slice_get t)) from-is pasted))

pub apart_laid : {A : Type 0} (r held : Rect) (p : Patch A) (cells : List A) → held ≡ p.place → AreApart r held → IsLaid r p cells cells
apart_laid r held p cells held-is apart = laid_apart r p cells (subst (AreApart r) held-is apart)

-- the words of the plane of a piece
pub record IsWordsOf (p : Patch ℕ) (words : List ℕ) : Type 0 where
  pub size : length words ≡ p.place.height * stride_of p.place.width
  pub cells : p.cells ≡ samples_of p.place.width p.place.height words

pub words_of_plane : (p : Patch ℕ) (f g : Raster ℕ) (words : List ℕ) → f ≡ raster p.place.width p.place.height p.cells → g ≡ f → IsPacked g.width g.height words → g.cells ≡ samples_of g.width g.height words → IsWordsOf p words
words_of_plane p f g words f-is g-is packed cells-is =
    let whole = g-is ∙ f-is in
    record {
      size = packed.size ∙ ap (λ (t : Raster ℕ). t.height * stride_of t.width) whole;
      cells = sym (ap (λ (t : Raster ℕ). t.cells) whole) ∙ cells-is ∙ ap (λ (t : Raster ℕ). samples_of t.width t.height words) whole;
    }

common_bits : (r held : Rect) (p : Patch ℕ) (b : Block) → held ≡ p.place → IsCommon r held (64 * stride_of r.width) (64 * stride_of held.width) b → IsCommon r p.place (64 * stride_of r.width) (64 * stride_of p.place.width) b
common_bits r held p b held-is common = subst (λ (q : Rect). IsCommon r q (64 * stride_of r.width) (64 * stride_of q.width) b) held-is common

-- the block in the words of the piece and in those of a window
pub bits_fit_in : (r held : Rect) (p : Patch ℕ) (b : Block) (n : ℕ) (from : List ℕ) → held ≡ p.place → IsCommon r held (64 * stride_of r.width) (64 * stride_of held.width) b → r.height * (64 * stride_of r.width) ≡ n → IsWordsOf p from → BlockFits b n (64 * length from)
bits_fit_in r held p b n from held-is common n-is words =
    let from-size : p.place.height * (64 * stride_of p.place.width) ≡ 64 * length from = let size = words.size in omega arith in
    subst (λ (m : ℕ). BlockFits b m (64 * length from)) n-is
    (subst (BlockFits b (r.height * (64 * stride_of r.width))) from-size
    (common_fits r p.place (64 * stride_of r.width) (64 * stride_of p.place.width) b (omega arith) (omega arith) (common_bits r held p b held-is common)))

pub bits_fit : (r held : Rect) (p : Patch ℕ) (b : Block) (old from : List ℕ) → held ≡ p.place → IsCommon r held (64 * stride_of r.width) (64 * stride_of held.width) b → IsPacked r.width r.height old → IsWordsOf p from → BlockFits b (64 * length old) (64 * length from)
bits_fit r held p b old from held-is common packed words = bits_fit_in r held p b (64 * length old) from held-is common (let size = packed.size in omega arith) words

pub bits_shown : (r held : Rect) (p : Patch ℕ) (b : Block) (old new from : ℕ → ℕ) → held ≡ p.place → IsCommon r held (64 * stride_of r.width) (64 * stride_of held.width) b → IsPasted b old new from → IsShown r p.place (64 * stride_of r.width) (64 * stride_of p.place.width) old new from
bits_shown r held p b old new from held-is common pasted = common_shown r p.place (64 * stride_of r.width) (64 * stride_of p.place.width) b old new from (omega arith) (common_bits r held p b held-is common) pasted

-- ---- one piece after another

-- the first pieces are shown by these cells of a rectangle
abbrev pub AreShown : {A : Type 0} → Rect → List A → List (Patch A) → Type 0
AreShown r cells ps = AllByRecursion (ShowsIn r (cell_of (patch r cells))) ps

pub laid_next : {A : Type 0} (j : Joint A) (k : ℕ) (p : Patch A) (old new : List A) → IsJoint j → k < length j.pieces → p ≡ patch_at j.pieces k → IsLaid j.place p old new → AreShown j.place old (take k j.pieces) → AreShown j.place new (take (k + 1) j.pieces)
laid_next {A} j k p old new joint lt p-is laid before =
    let r = j.place in
    let agree : ShowsIn r (value_in j.pieces) p = subst (ShowsIn r (value_in j.pieces)) (sym p-is) (all-get_or (ShowsIn r (value_in j.pieces)) j.pieces k no_patch lt joint.agree) in
    let earlier : AreShown r new (take k j.pieces) =
    all-both (ShowsIn r (cell_of (patch r old))) (ShowsIn r (value_in j.pieces)) (ShowsIn r (cell_of (patch r new))) (take k j.pieces)
    (λ q shown agrees x y holds here. again q x y holds here agree shown agrees) before (all-take (ShowsIn r (value_in j.pieces)) k j.pieces joint.agree) in
    all_next (ShowsIn r (cell_of (patch r new))) j.pieces k p lt (p-is ∙ get_or_default j.pieces k no_patch p lt) laid.shows earlier
  where
    again : (q : Patch A) (x y : ℕ) → Holds j.place x y → Holds q.place x y → ShowsIn j.place (value_in j.pieces) p → ShowsIn j.place (cell_of (patch j.place old)) q → ShowsIn j.place (value_in j.pieces) q → cell_of q x y ≡ cell_of (patch j.place new) x y
    again q x y holds here agree shown agrees = go (has_place p.place x y) refl
      where
        never : has_place p.place x y ≡ false → has_place p.place x y ≡ true → ⊥
        never not-here here = cc

        go : (b : Bool) → has_place p.place x y ≡ b → cell_of q x y ≡ cell_of (patch j.place new) x y
        go true is = let there = has_holds p.place x y is in agrees x y holds here ∙ sym (agree x y holds there) ∙ laid.shows x y holds there
        go false is = shown x y holds here ∙ sym (laid.rest x y holds (λ there. absurd (never is (has_yes p.place x y there))))

pub laid_done : {A : Type 0} (j : Joint A) (k : ℕ) (cells : List A) → IsJoint j → length cells ≡ j.place.height * j.place.width → length j.pieces ≤ k → AreShown j.place cells (take k j.pieces) → HasValues (value_in j.pieces) j.place cells
laid_done j k cells joint size past shown =
    let r = j.place in
    let all : AreShown r cells j.pieces = all-take_whole (ShowsIn r (cell_of (patch r cells))) j.pieces k past shown in
    record {
      size = size;
      same = λ i q across down.
          let x-is : r.x + i - r.x ≡ i = omega arith in
          let y-is : r.y + q - r.y ≡ q = omega arith in
          sym (values_of_shows (cell_of (patch r cells)) r j.pieces joint.covers all (r.x + i) (r.y + q) (record { left = omega arith; right = omega arith; top = omega arith; bottom = omega arith })
          ∙ ap (λ (t : ℕ). slice_get cells (t * r.width + (r.x + i - r.x))) y-is ∙ ap (λ (t : ℕ). slice_get cells (q * r.width + t)) x-is);
    }

-- a step of the loop, by what the code has of the window
pub laid_more : {A : Type 0} (j : Joint A) (r : Rect) (items : List (Patch A)) (k : ℕ) (p : Patch A) (old new : List A) → IsJoint j → r ≡ j.place → items ≡ j.pieces → k < length items → p ≡ get_or items k p → IsLaid r p old new
    → AreShown j.place old (take k j.pieces) → AreShown j.place new (take (k + 1) j.pieces)
laid_more {A} j r items k p old new joint r-is items-are lt p-is laid before =
    let inside : k < length j.pieces = subst (λ (t : List (Patch A)). k < length t) items-are lt in
    laid_next j k p old new joint inside (read_at j.pieces items k p items-are inside p-is) (subst (λ (q : Rect). IsLaid q p old new) r-is laid) before

pub bits_more : (j : Joint ℕ) (r : Rect) (items : List (Patch ℕ)) (k : ℕ) (p : Patch ℕ) (old new : List ℕ) → IsJoint j → r ≡ j.place → items ≡ j.pieces → k < length items → p ≡ get_or items k p
    → IsLaid r p (samples_of r.width r.height old) (samples_of r.width r.height new) → AreShown j.place (samples_of j.place.width j.place.height old) (take k j.pieces) → AreShown j.place (samples_of j.place.width j.place.height new) (take (k + 1) j.pieces)
bits_more j r items k p old new joint r-is items-are lt p-is laid before =
    laid_more j j.place items k p (samples_of j.place.width j.place.height old) (samples_of j.place.width j.place.height new) joint refl items-are lt p-is
    (subst (λ (q : Rect). IsLaid q p (samples_of q.width q.height old) (samples_of q.width q.height new)) r-is laid) before

pub packed_as : (r s : Rect) (words : List ℕ) → r ≡ s → IsPacked r.width r.height words → IsPacked s.width s.height words
packed_as r s words same packed = subst (λ (q : Rect). IsPacked q.width q.height words) same packed

-- ---- a set without pixels

pub blank_packed : (r s : Rect) (stride : ℕ) (words : List ℕ) → s ≡ r → stride ≡ stride_of s.width → words ≡ replicate (s.height * stride) 0 → IsPacked r.width r.height words
blank_packed r s stride words s-is stride-is words-are =
    let blank : words ≡ replicate (r.height * stride_of r.width) 0 = words-are ∙ ap (λ (t : ℕ). replicate (s.height * t) 0) stride-is ∙ ap (λ (q : Rect). replicate (q.height * stride_of q.width) 0) s-is in
    record {
      size = ap length blank ∙ length-replicate (r.height * stride_of r.width) 0;
      clean = λ x y down past less.
          let stride = stride_of r.width in
          ap (λ (t : List ℕ). bit_of t (y * (64 * stride) + x)) blank
          ∙ blank_bit (r.height * stride) 0 0 (y * (64 * stride) + x) (omega (arith, mul-add-lt y (64 * stride) x r.height down less)) (λ i lt. bit_at-zero i);
    }
