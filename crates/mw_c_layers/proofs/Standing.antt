-- Rows of a frame that stand in it as a window.
use Rattle.std.proofs.Common.{◌≡◌, ℕ, ◌+◌, ◌-◌, ◌*◌, ◌<◌, List, [], ◌∷◌, length, slice_get, Some, Option, unwrap_or, refl, ap, sym, arith, ◌∙◌, cond}
use Rattle.std.specs.Prelude.{Bool, None}
use Rattle.std.proofs.lemmas.Option.{slice_get-get_or}
use Rattle.std.proofs.lemmas.Nat.{mul-add-lt}
use Rattle.std.proofs.Math.Nat.{mul_comm}
use Rattle.mw_model.specs.declared.offsets.Rect.{Rect}
use Rattle.mw_model.specs.declared.shapes.Kind.{Kind}
use Rattle.mw_model.specs.Pictures.{Picture, picture, sample}
use Rattle.mw_model.specs.Rectangles.{Holds}
use Rattle.mw_model.specs.Tasks.{cells_in}
use Rattle.mw_tile_pieces.specs.Patches.{cell_of, joint, patch}
use Rattle.mw_tile_pieces.specs.Shared.{level_in, source_joint}
use Rattle.mw_tile_pieces.proofs.Patches.{has_yes}
use Rattle.mw_tile_pieces.proofs.TileCells.{cells_in_at, cells_in_same, length-cells_in}
use Rattle.mw_tile.specs.Windows.{SourceWindow, window_of}
use Rattle.mw_c_layers.specs.Parts.{part_of}

-- a window of these parts
abbrev seen_window : Kind → ℕ → ℕ → ℕ → Rect → List ℕ → SourceWindow
seen_window k top m n r cells = record { kind = k; maxval = top; view = record { frame_width = m; frame_height = n; place = r; cells = cells } }

-- what one piece has in its place
level_one : (m n : ℕ) (r : Rect) (cells : List ℕ) (value : ℕ → ℕ → ℕ) → cells ≡ cells_in r value → (i j : ℕ) → i < r.width → j < r.height
    → level_in (joint m n r (patch r cells ∷ [])) (r.x + i) (r.y + j) ≡ value (r.x + i) (r.y + j)
level_one m n r cells value is i j across down =
    let p = patch r cells in
    let holds : Holds r (r.x + i) (r.y + j) = record { left = omega arith; right = omega arith; top = omega arith; bottom = omega arith } in
    let place : (r.y + j - r.y) * r.width + (r.x + i - r.x) ≡ j * r.width + i = back r.x r.y r.width i j in
    let within : j * r.width + i < length (cells_in r value) = omega (arith, length-cells_in r value, mul-add-lt j r.width i r.height down across, mul_comm r.width r.height) in
    let got : slice_get (cells_in r value) (j * r.width + i) ≡ Some (value (r.x + i) (r.y + j)) = slice_get-get_or (cells_in r value) (j * r.width + i) 0 within ∙ ap (λ (t : ℕ). Some t) (cells_in_at r value i j across down) in
    ap (λ (b : Bool). unwrap_or (cond b (cell_of p (r.x + i) (r.y + j)) None) 0) (has_yes r (r.x + i) (r.y + j) holds)
    ∙ ap (λ (k : ℕ). unwrap_or (slice_get cells k) 0) place
    ∙ ap (λ (xs : List ℕ). unwrap_or (slice_get xs (j * r.width + i)) 0) is
    ∙ ap (λ (o : Option ℕ). unwrap_or o 0) got
  where
    back : (x y w i j : ℕ) → (y + j - y) * w + (x + i - x) ≡ j * w + i
    back x y w i j =
        let down : y + j - y ≡ j = omega arith in
        let across : x + i - x ≡ i = omega arith in
        rw (down, across) refl

-- one piece is the window of the image that it was copied from
pub stands : (k : Kind) (top m n a b : ℕ) (r : Rect) (cells : List ℕ) (image f : Picture) → f.width ≡ m → f.height ≡ n → image ≡ picture k a b top cells → image ≡ part_of f r → source_joint k top (joint m n r (patch r cells ∷ [])) ≡ window_of r f
stands k top m n a b r cells image f wide high shown part =
    let is : picture k a b top cells ≡ part_of f r = sym shown ∙ part in
    let kinds : k ≡ f.kind = ap (λ (g : Picture). g.kind) is in
    let tops : top ≡ f.maxval = ap (λ (g : Picture). g.maxval) is in
    let samples : cells ≡ cells_in r (sample f) = ap (λ (g : Picture). g.samples) is in
    let same : cells_in r (level_in (joint m n r (patch r cells ∷ []))) ≡ cells_in r (sample f) =
    cells_in_same r (level_in (joint m n r (patch r cells ∷ []))) (sample f) (λ i j across down. level_one m n r cells (sample f) samples i j across down) in
    whole k f.kind top f.maxval m f.width n f.height r _ _ kinds tops (sym wide) (sym high) same
  where
    whole : (k l : Kind) (t u m o n p : ℕ) (r : Rect) (xs ys : List ℕ) → k ≡ l → t ≡ u → m ≡ o → n ≡ p → xs ≡ ys
        → seen_window k t m n r xs ≡ seen_window l u o p r ys
    whole k l t u m o n p r xs ys a b c d e = rw (a, b, c, d, e) refl
