-- Differences of images, in strips.
use Rattle.std.proofs.Common.{◌≡◌, ℕ, ◌+◌, ◌-◌, ◌*◌, ◌/◌, ◌<◌, ◌≤◌, List, [], ◌∷◌, map, length, get_or, refl, ap, sym, arith, ◌∙◌}
use Rattle.std.specs.Prelude.{slice_range}
use Rattle.std.proofs.lemmas.Nat.{le-div, mul-add-lt, mul-le}
use Rattle.std.proofs.lemmas.Simd.{get_or-zip2, length-zip2}
use Rattle.std.proofs.Math.Nat.{div-mul-le_self, mul_comm}
use lib.Lanes.{zip2}
use Rattle.mw_model.specs.declared.offsets.Rect.{Rect}
use Rattle.mw_model.specs.Flat.{minus}
use Rattle.mw_model.specs.Laws.{SameShape}
use Rattle.mw_model.specs.Pictures.{Picture, sample}
use Rattle.mw_model.specs.Rectangles.{box_offsets}
use Rattle.mw_model.specs.Tasks.{cells_in}
use Rattle.mw_model.specs.Windows.{View, seen_at}
use Rattle.mw_model.proofs.ImagePlaces.{length-rows, sample-redrawn}
use Rattle.mw_tile_pieces.proofs.TileCells.{cells_in_at, cells_in_is, length-cells_in}
use Rattle.mw_c_lent.specs.declared.recipes.Recipe.{Recipe}
use Rattle.mw_c_lent.specs.declared.recipes.Recipe.TheVariants as recipe
use Rattle.mw_c_lent.specs.declared.slides.Slide.{Slide}
use Rattle.mw_c_lent.specs.Boxes.{IsMadeUnder}
use Rattle.mw_c_lent.specs.InPlace.{IsWholeView}
use Rattle.mw_c_lent.specs.Recipes.{recipe_picture}
use Rattle.mw_c_lent.specs.Rows.{IsStrip}
use Rattle.mw_c_lent.specs.Slides.{slide_box, slide_picture, slide_value, steps_picture}
use Rattle.mw_c_lent.proofs.Rows.{rows_of_cells}
use Rattle.mw_c_lent.proofs.Slid.{alike_strip, slide_shape, slide_there, steps_shape, steps_size}
use Rattle.mw_c_lent.proofs.UnderBoxes.{made_whole}

-- ---- rows

-- the levels of differences, where the second row is the one that was there
pub levels_less : {A : Type 0} (f : A → A → A) (level : A → ℕ) → ((a b : A) → level (f a b) ≡ level a - level b)
    → (xs ys : List A) → map level (zip2 (λ (a b : A). f b a) xs ys) ≡ zip2 (λ (m n : ℕ). m - n) (map level ys) (map level xs)
levels_less f level law [] [] = refl
levels_less f level law [] (y ∷ ys) = refl
levels_less f level law (x ∷ xs) [] = refl
levels_less f level law (x ∷ xs) (y ∷ ys) = ap (λ (t : ℕ). t ∷ map level (zip2 (λ a b. f b a) xs ys)) (law y x) ∙ ap (λ (t : List ℕ). (level y - level x) ∷ t) (levels_less f level law xs ys)

-- the difference of a strip of each is the strip of the difference
cells_less : (f g : Picture) (r : Rect) → IsStrip r f → zip2 (λ (m n : ℕ). m - n) (cells_in r (sample f)) (cells_in r (sample g)) ≡ cells_in r (sample (minus f g))
cells_less f g r strip =
    sym (cells_in_is r (sample (minus f g)) both (length-zip2 (λ (m n : ℕ). m - n) first second (first-size ∙ sym second-size) ∙ first-size) each)
  where
    first : List ℕ
    first = cells_in r (sample f)

    second : List ℕ
    second = cells_in r (sample g)

    both : List ℕ
    both = zip2 (λ (m n : ℕ). m - n) first second

    first-size : length first ≡ r.height * r.width
    first-size = length-cells_in r (sample f)

    second-size : length second ≡ r.height * r.width
    second-size = length-cells_in r (sample g)

    each : (i j : ℕ) → i < r.width → j < r.height → get_or both (j * r.width + i) 0 ≡ sample (minus f g) (r.x + i) (r.y + j)
    each i j across down =
        let within : j * r.width + i < r.height * r.width = omega (arith, mul-add-lt j r.width i r.height down across, mul_comm r.width r.height) in
        let left = strip.left in
        let wide = strip.wide in
        let low = strip.low in
        get_or-zip2 (λ (m n : ℕ). m - n) first second (j * r.width + i) 0 0 0 (omega (arith, within, first-size)) (omega (arith, within, second-size))
        ∙ ap (λ (t : ℕ). t - get_or second (j * r.width + i) 0) (cells_in_at r (sample f) i j across down)
        ∙ ap (λ (t : ℕ). sample f (r.x + i) (r.y + j) - t) (cells_in_at r (sample g) i j across down)
        ∙ sym (sample-redrawn f (λ x y. sample f x y - sample g x y) (r.x + i) (r.y + j) (omega arith) (omega arith))

-- a strip that was written less another
pub strip_less : {A : Type 0} (level : A → ℕ) (f g : Picture) (r : Rect) (new : List A) (first second : List ℕ) → IsStrip r f → map level new ≡ zip2 (λ (m n : ℕ). m - n) first second
    → first ≡ cells_in r (sample f) → second ≡ cells_in r (sample g) → map level new ≡ cells_in r (sample (minus f g))
strip_less level f g r new first second strip is one two =
    is
    ∙ ap (λ (t : List ℕ). zip2 (λ (m n : ℕ). m - n) t second) one
    ∙ ap (λ (t : List ℕ). zip2 (λ (m n : ℕ). m - n) (cells_in r (sample f)) t) two
    ∙ cells_less f g r strip

-- a strip of the samples of a whole view
pub strip_of_view : {A : Type 0} (level : A → ℕ) (w : View A) (f : Picture) (r : Rect) → IsWholeView level w f → IsStrip r f → map level (slice_range w.cells (r.y * r.width) (r.y * r.width + r.height * r.width)) ≡ cells_in r (sample f)
strip_of_view level w f r whole strip = rows_of_cells level f r w.cells strip whole.size whole.samples

-- ---- one extremum

-- what an extremum makes in a strip of a whole view
pub slide_made : {A : Type 0} (level : A → ℕ) (w : View A) (f : Picture) (s : Slide) (top : A) (r : Rect) (out : List A) → IsWholeView level w f → f.maxval ≡ level top → IsStrip r f
    → IsMadeUnder (slide_value (level top) s) level (seen_at w) (box_offsets (slide_box s)) r out → map level out ≡ cells_in r (sample (slide_picture s f))
slide_made level w f s top r out whole is strip made =
    made_whole (slide_value (level top) s) level w f (slide_picture s f) (box_offsets (slide_box s)) r out whole strip (λ x y across down. slide_there s (level top) f x y is across down) made

-- ---- what is made by strips

pub recipe_shape : (r : Recipe) (f : Picture) → SameShape (recipe_picture r f) f
recipe_shape (recipe.Filter s) f = steps_shape s f
recipe_shape (recipe.Taken s) f = record { kind = refl; width = refl; height = refl; maxval = refl }
recipe_shape (recipe.Added s) f = let own = steps_shape s f in record { kind = own.kind; width = own.width; height = own.height; maxval = own.maxval }
recipe_shape (recipe.Less a b) f = let own = slide_shape a f in record { kind = own.kind; width = own.width; height = own.height; maxval = own.maxval }

pub less_size : (f g : Picture) → length (minus f g).samples ≡ (minus f g).height * (minus f g).width
less_size f g = length-rows (λ x y. sample f x y - sample g x y) f.width 0 f.height

pub recipe_size : (r : Recipe) (f : Picture) → length (recipe_picture r f).samples ≡ (recipe_picture r f).height * (recipe_picture r f).width
recipe_size (recipe.Filter s) f = steps_size s f
recipe_size (recipe.Taken s) f = less_size f (steps_picture s f)
recipe_size (recipe.Added s) f = less_size (steps_picture s f) f
recipe_size (recipe.Less a b) f = less_size (slide_picture a f) (slide_picture b f)

pub recipe_strip : (s : Recipe) (f : Picture) (r : Rect) → IsStrip r f → IsStrip r (recipe_picture s f)
recipe_strip s f r is = alike_strip f (recipe_picture s f) r (recipe_shape s f) is

-- rows that are few beside those of a strip and of what is looked at beyond it are in memory
pub strip_in_memory : (size row beyond rows : ℕ) → size ≤ 262144 → 1 ≤ row → rows ≤ size / row + beyond * 4 + 16 → (5 * beyond + 16) * row ≤ 1703936 → rows + beyond ≤ 1966080 / row
strip_in_memory size row beyond rows low some few fits =
    le-div (rows + beyond) 1966080 row some (omega (arith, mul-le (rows + beyond) row (size / row + (5 * beyond + 16)) row (omega (arith, few)) (omega arith), split (size / row) (5 * beyond + 16) row, div-mul-le_self size row, fits, low))
  where
    split : (a b n : ℕ) → (a + b) * n ≡ a * n + b * n
    split a b n = omega arith
