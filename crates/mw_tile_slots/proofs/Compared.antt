-- Rows of a piece that are compared with tiles part by part.
use Rattle.std.proofs.Common.{◌≡◌, ℕ, ◌+◌, ◌-◌, ◌*◌, ◌<◌, ◌≤◌, List, length, slice_get, sym, ap, arith, ◌∙◌, inl, inr, refl}
use Rattle.std.proofs.lemmas.Bool.{cases_lt}
use Rattle.mw_model.proofs.mw_facts.Elements.{same_elements}
use Rattle.mw_model.specs.declared.offsets.Rect.{Rect}
use Rattle.mw_model.specs.Rectangles.{Holds}
use Rattle.mw_model.specs.Rasters.{Raster, raster}
use Rattle.mw_tile_pieces.specs.mw_tile.Windows.{IsCut}
use Rattle.mw_tile_pieces.specs.mw_tile.Cuts.{view_of}
use Rattle.mw_tile_pieces.specs.Patches.{Patch, patch, cell_of, frame_value, IsFull}
use Rattle.mw_tile_pieces.proofs.Patches.{row_of_plane, run_in, run_of_own, run_size, size_of_own, RowIs}
use Rattle.mw_tile_slots.specs.Tiles.{HasSidesOf, ShowsRun}
use Rattle.mw_tile_slots.proofs.Sharing.{cut_cell}

-- a part of a row of a piece, and that of a tile
pub record PartOf {A : Type 0} (f : Raster A) (p : Patch A) (x y n : ℕ) (row held : List A) : Type 0 where
  pub own : RowIs (cell_of p) x y n row
  pub other : RowIs (frame_value f) x y n held
  pub own_size : length row ≡ n
  pub other_size : length held ≡ n

pub part_of : {A : Type 0} (f t own : Raster A) (p : Patch A) (stands place : Rect) (a b x y n : ℕ) → own ≡ raster p.place.width p.place.height p.cells → stands ≡ p.place → IsFull p → p.place.x ≤ x → x + n ≤ p.place.x + p.place.width → p.place.y ≤ y → y < p.place.y + p.place.height
    → HasSidesOf place t → IsCut (view_of a b place t.cells) f → Holds place x y → x + n ≤ place.x + place.width → PartOf f p x y n (run_in own.cells stands own.width x y n) (run_in t.cells place t.width x y n)
part_of {A} f t own p stands place a b x y n own-is stands-is full left right top bottom in-place cut holds fits =
    let from = holds.left in
    let above = holds.top in
    let under = holds.bottom in
    let wide = in-place.width in
    let high = in-place.height in
    let us = ap (λ (q : Rect). q.x) stands-is in
    let vs = ap (λ (q : Rect). q.y) stands-is in
    let own-wide : own.width ≡ p.place.width = ap (λ (g : Raster A). g.width) own-is in
    let own-high : own.height ≡ p.place.height = ap (λ (g : Raster A). g.height) own-is in
    let held = run_in t.cells place t.width x y n in
    let row : RowIs (cell_of (patch place t.cells)) x y n held = row_of_plane t.cells held place x y n t.width wide from refl in
    let t-size : length t.cells ≡ t.height * t.width = in-place.size ∙ ap (λ (k : ℕ). k * place.width) (sym high) ∙ ap (λ (k : ℕ). t.height * k) (sym wide) in
    record {
      own = run_of_own p own stands x y n own-is stands-is left;
      other = λ k lt. row k lt ∙ cut_cell f a b (patch place t.cells) (x + k) y cut (record { left = omega arith; right = omega arith; top = above; bottom = under });
      own_size = run_size own.cells stands own.width own.height x y n (size_of_own p own own-is full) (omega arith) (omega arith);
      other_size = run_size t.cells place t.width t.height x y n t-size (omega arith) (omega arith);
    }

pub parts_shown : {A : Type 0} (f : Raster A) (p : Patch A) (x y at d n m : ℕ) (row held : List A) → x + d ≡ at → m ≡ d + n → PartOf f p at y n row held → row ≡ held → ShowsRun f p x y d → ShowsRun f p x y m
parts_shown f p x y at d n m row held at-is m-is part same before k lt =
    elim (cases_lt k d) [
      | inl early ↦ before k early
      | inr late ↦
          let i = k - d in
          let i-lt : i < n = omega arith in
          let back : at + i ≡ x + k = omega arith in
          ap (λ (t : ℕ). cell_of p t y) (sym back) ∙ sym (part.own i i-lt) ∙ ap (λ (t : List _). slice_get t i) same ∙ part.other i i-lt ∙ ap (λ (t : ℕ). frame_value f t y) back
    ]

pub parts_same : {A : Type 0} (f : Raster A) (p : Patch A) (x y at d n m : ℕ) (row held : List A) → x + d ≡ at → d + n ≤ m → PartOf f p at y n row held → ShowsRun f p x y m → row ≡ held
parts_same f p x y at d n m row held at-is fits part shows =
    same_elements row held (part.own_size ∙ sym part.other_size) (λ k lt. each k (let size = part.own_size in omega arith))
  where
    again : (k : ℕ) → at + k ≡ x + (d + k)
    again k = omega arith

    each : (k : ℕ) → k < n → slice_get row k ≡ slice_get held k
    each k lt =
        part.own k lt ∙ ap (λ (t : ℕ). cell_of p t y) (again k) ∙ shows (d + k) (omega arith) ∙ ap (λ (t : ℕ). frame_value f t y) (sym (again k)) ∙ sym (part.other k lt)
