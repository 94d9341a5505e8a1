-- Rows of a window, copied as they stand.
use Rattle.std.proofs.Common.{◌≡◌, ℕ, ◌+◌, ◌*◌, ◌<◌, ◌≤◌, pos, List, take, drop, get_or, ap, sym, arith, ◌∙◌}
use Rattle.std.specs.Option.{unwrap_or}
use Rattle.std.proofs.lemmas.Bool.{lt-ltb}
use Rattle.std.proofs.lemmas.List.{get_or-take, get_or-drop}
use Rattle.std.proofs.lemmas.Option.{unwrap_or-slice_get}
use Rattle.mw_model.specs.Rasters.{raster, cell_at}
use Rattle.mw_line.proofs.Rows.{rows_fit}

-- a place of so many rows of a raster from one on
pub held_place : {A : Type 0} (w h row high m : ℕ) (cells : List A) (n : A) → row + high ≤ h → m ≡ high * w
    → (x y : ℕ) → x < w → y < high → get_or (take m (drop (row * w) cells)) (y * w + x) n ≡ unwrap_or (cell_at (raster w h cells) (pos x) (pos (row + y))) n
held_place w h row high m cells n room m-is x y less row_less =
    let fits = rows_fit y high w row_less in
    let place : row * w + (y * w + x) ≡ (row + y) * w + x = omega arith in
    let there : row + y < h = omega arith in
    rw (lt-ltb x w less, lt-ltb (row + y) h there) (get_or-take m (drop (row * w) cells) (y * w + x) n (omega (arith, fits, m-is))
    ∙ get_or-drop (row * w) cells (y * w + x) n
    ∙ ap (λ (t : ℕ). get_or cells t n) place
    ∙ sym (unwrap_or-slice_get cells ((row + y) * w + x) n))
