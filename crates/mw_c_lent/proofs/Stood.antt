-- Rows that stand in the front of a buffer: moved there, made behind others, and read.
use Rattle.std.proofs.Common.{◌≡◌, ℕ, ◌+◌, ◌-◌, ◌*◌, ◌<◌, ◌≤◌, min, List, map, length, take, get_or, ap, sym, subst, arith, ◌∙◌, length-take, get_or-take}
use Rattle.std.specs.List.{CopiedTo}
use Rattle.std.proofs.lemmas.List.{length-map}
use Rattle.std.proofs.lemmas.Nat.{mul-add-lt, mul-le}
use Rattle.std.proofs.Math.Nat.{mul_comm}
use borrow.Rule.Slice.PartMut.{put_mid}
use Rattle.mw_model.specs.declared.offsets.Reach.{Reach}
use Rattle.mw_model.specs.declared.offsets.Rect.{Rect}
use Rattle.mw_model.specs.Pictures.{Picture, sample}
use Rattle.mw_model.specs.Tasks.{cells_in}
use Rattle.mw_line_lent.specs.Near.{IsAround}
use Rattle.mw_tile_pieces.proofs.TileCells.{cells_in_is}
use Rattle.mw_c_lent.specs.declared.recipes.Recipe.{Recipe}
use Rattle.mw_c_lent.specs.declared.recipes.Recipe.TheVariants as recipe
use Rattle.mw_c_lent.specs.Recipes.{IsRecipe, made_first, rows_beyond}
use Rattle.mw_c_lent.specs.Rows.{HasImageRows, IsStrip}
use Rattle.mw_c_lent.specs.Slides.{slide_box}
use Rattle.mw_c_lent.proofs.Rows.{level_there, samples_between}
use Rattle.mw_c_lent.proofs.Slid.{GrownRows, room_for}
use Rattle.mw_c_lent.proofs.Written.{rows_put}

-- ---- rows

-- fewer rows of those that stand
pub fewer_rows : {A : Type 0} (level : A → ℕ) (f : Picture) (from to end : ℕ) (cells : List A) → end ≤ to → HasImageRows level f from to cells → HasImageRows level f from end cells
fewer_rows level f from to end cells le rows i d lt = rows i d (omega (arith, lt, mul-le end f.width to f.width le (omega arith)))

-- rows between the same bounds
pub rows_at : {A : Type 0} (level : A → ℕ) (f : Picture) (a b from to : ℕ) (cells : List A) → a ≡ from → b ≡ to → HasImageRows level f a b cells → HasImageRows level f from to cells
rows_at level f a b from to cells first last rows = subst (λ (m : ℕ). HasImageRows level f m to cells) first (subst (λ (n : ℕ). HasImageRows level f a n cells) last rows)

-- the rows from one on, moved to the front
pub rows_moved : {A : Type 0} (level : A → ℕ) (f : Picture) (a from to w n : ℕ) (old new : List A) → f.width ≡ w → a ≤ from → from ≤ to → n ≡ (to - a) * w - (from - a) * w → CopiedTo old new ((from - a) * w) 0 n
    → HasImageRows level f a to old → HasImageRows level f from to new
rows_moved level f a from to w n old new wide le low count copied rows i d lt =
    let all : to * f.width ≡ a * f.width + (to - a) * w = samples_between a to w f.width (omega (arith, le, low)) (sym wide) in
    let gone : from * f.width ≡ a * f.width + (from - a) * w = samples_between a from w f.width le (sym wide) in
    let back : a * f.width + ((from - a) * w + (i - 0)) ≡ from * f.width + i = omega (arith, gone) in
    ap level (copied i d (omega arith) (omega (arith, lt, all, gone, count)))
    ∙ rows ((from - a) * w + (i - 0)) d (omega (arith, lt, back))
    ∙ ap (λ (t : ℕ). get_or f.samples t 0) back

-- the rows of a strip, made behind those that stand
pub rows_behind : {A : Type 0} (level : A → ℕ) (f : Picture) (r : Rect) (from end : ℕ) (old part new : List A) → IsStrip r f → length f.samples ≡ f.height * f.width → from ≤ r.y → r.y + r.height ≡ end
    → (r.y - from) * r.width + r.height * r.width ≤ length old → map level part ≡ cells_in r (sample f) → new ≡ put_mid ((r.y - from) * r.width) (r.height * r.width) old part
    → HasImageRows level f from r.y old → HasImageRows level f from end new
rows_behind level f r from end old part new strip size le is room made put rows =
    subst (λ (n : ℕ). HasImageRows level f from n new) is (rows_put level f r from (r.y - from) old part new strip size (omega (arith, le)) room made put rows)

-- the samples of a place, where its rows stand in front
pub front_is : {A : Type 0} (level : A → ℕ) (f : Picture) (r : Rect) (n : ℕ) (cells part : List A) → IsStrip r f → n ≡ r.height * r.width → n ≤ length cells → part ≡ take n cells
    → HasImageRows level f r.y (r.y + r.height) cells → map level part ≡ cells_in r (sample f)
front_is {A} level f r n cells part strip count room is rows =
    sym (cells_in_is r (sample f) (map level part) (length-map part level ∙ long ∙ count) each)
  where
    long : length part ≡ n
    long = ap (λ (xs : List A). length xs) is ∙ omega (arith, length-take n cells, room)

    all : (r.y + r.height) * f.width ≡ r.y * f.width + r.height * r.width
    all = split r.y r.height f.width ∙ ap (λ (t : ℕ). r.y * f.width + r.height * t) (sym strip.wide)
      where
        split : (a b w : ℕ) → (a + b) * w ≡ a * w + b * w
        split a b w = omega arith

    each : (i j : ℕ) → i < r.width → j < r.height → get_or (map level part) (j * r.width + i) 0 ≡ sample f (r.x + i) (r.y + j)
    each i j across down =
        let k : ℕ = j * r.width + i in
        let within : k < n = omega (arith, count, mul-add-lt j r.width i r.height down across, mul_comm r.width r.height) in
        level_there level part k (get_or f.samples (r.y * f.width + k) 0) (omega (arith, within, long))
        (λ d. ap (λ (xs : List A). level (get_or xs k d)) is ∙ ap level (get_or-take n cells k d within) ∙ rows k d (omega (arith, within, count, all)))
        ∙ ap (λ (t : ℕ). get_or f.samples t 0) (place r.y j r.width i r.x f.width strip.left strip.wide)
      where
        place : (y j w i x m : ℕ) → x ≡ 0 → w ≡ m → y * m + (j * w + i) ≡ (y + j) * m + (x + i)
        place y j w i x m left wide = rw (left, sym wide) (omega arith)

-- ---- how many there are

-- there is room for the rows that are looked at for a strip
pub grown_held : (m n : ℕ) (reach : Reach) (r place : Rect) (w count : ℕ) → GrownRows m n reach r place → w ≡ r.width → min (r.height + (reach.up + reach.down)) n * r.width ≤ count → (place.y + place.height - place.y) * w ≤ count
grown_held m n reach r place w count rows same room =
    let most : ℕ = min (r.height + (reach.up + reach.down)) n in
    let few : place.y + place.height - place.y ≤ most = omega (arith, rows.few) in
    room_for (place.y + place.height - place.y) most w count few (subst (λ (t : ℕ). most * t ≤ count) (sym same) room)

-- rows are those above one and those from it on
pub two_parts : (from to end w : ℕ) → from ≤ to → to ≤ end → (to - from) * w + (end - to) * w ≡ (end - from) * w
two_parts from to end w le low =
    sym (split (to - from) (end - to) w) ∙ ap (λ (t : ℕ). t * w) (omega (arith, le, low))
  where
    split : (a b n : ℕ) → (a + b) * n ≡ a * n + b * n
    split a b n = omega arith

-- ---- what stands first

pub first_around : (r : Recipe) → IsRecipe r → IsAround (slide_box (made_first r).slide)
first_around (recipe.Filter s) is = is.first
first_around (recipe.Taken s) is = is.first
first_around (recipe.Added s) is = is.first
first_around (recipe.Less a b) is = is.1

pub first_near : (r : Recipe) → IsRecipe r → rows_beyond r ≤ 255
first_near (recipe.Filter s) is = is.near
first_near (recipe.Taken s) is = is.near
first_near (recipe.Added s) is = is.near
first_near (recipe.Less a b) is = omega arith
