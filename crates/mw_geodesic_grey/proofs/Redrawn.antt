-- Planes of which each sample was replaced, as pictures.
use Rattle.std.proofs.Common.{◌≡◌, ℕ, ◌+◌, ◌-◌, ◌*◌, ◌<◌, ◌≤◌, List, ◌++◌, length, take, drop, refl, ap, sym, arith, ◌∙◌}
use Rattle.std.specs.Prelude.{All}
use Rattle.std.proofs.Math.Nat.{mul_comm}
use Rattle.std.proofs.lemmas.List.{length-map}
use Rattle.std.proofs.lemmas.List.Elements.{All-map}
use Rattle.std.proofs.lemmas.Nat.{mul-add-lt}
use Rattle.mw_model.specs.declared.shapes.Kind.TheVariants as kind
use Rattle.mw_model.specs.Pictures.{sample, drawn, redrawn, IsPicture}
use Rattle.mw_model.specs.Flat.{minus}
use Rattle.mw_model.specs.Rasters.{Raster, raster}
use Rattle.mw_model.proofs.ImagePlaces.{sample-redrawn, same_picture, length-rows}
use Rattle.mw_model.proofs.mw_facts.Elements.{take-written}
use Rattle.mw_geodesic.specs.Reconstructions.{border_over}
use Rattle.mw_geodesic_grey.specs.Places.{kept_at_border}
use Rattle.mw_geodesic_levels.specs.Levels.{level_numbered}
use Rattle.mw_geodesic_levels.specs.Pictures.{picture_by}

pub in_frame : (w h x y n : ℕ) → n ≡ h * w → x < w → y < h → y * w + x < n
in_frame w h x y n is p q = omega (arith, mul-add-lt y w x h q p, mul_comm w h)

product : (a b c d : ℕ) → a ≡ c → b ≡ d → a * b ≡ c * d
product a b c d p q = cc

-- no sample of a plane is over the maxval
pub plane_picture : {A : Type 0} (level : A → ℕ) (maxval : ℕ) (p : Raster A) → length p.cells ≡ p.height * p.width → All (λ s. level s ≤ maxval) p.cells → IsPicture (picture_by level maxval p)
plane_picture level maxval p size low = record { size = length-map p.cells level ∙ size; bounded = All-map (λ s. s ≤ maxval) level p.cells low }

-- what was written over the samples of a plane of these sides, where they stood in a list of this length
pub redrawn_by : {A : Type 0} (level : A → ℕ) (maxval w h len : ℕ) (p r : Raster A) (items start made : List A) (value : ℕ → ℕ → ℕ → ℕ) → w ≡ p.width → h ≡ p.height → items ≡ p.cells → len ≡ p.height * p.width → start ≡ items → length start ≡ len
    → length made ≡ length start → r ≡ raster w h (take len (made ++ drop (length made) items))
    → ((x y : ℕ) → x < p.width → y < p.height → level_numbered level made (y * p.width + x) ≡ value x y (level_numbered level start (y * p.width + x)))
    → picture_by level maxval r ≡ redrawn (picture_by level maxval p) (λ x y. value x y (sample (picture_by level maxval p) x y))
redrawn_by level maxval w h len p r items start made value wide high cells_are len_is start_is start_len made_len is each =
    let f = picture_by level maxval p in
    let at : ℕ → ℕ → ℕ = λ (x y : ℕ). value x y (sample f x y) in
    let cells : r.cells ≡ made = ap (λ (t : Raster _). t.cells) is ∙ take-written items made len (made_len ∙ start_len) in
    let r_wide : r.width ≡ p.width = ap (λ (t : Raster _). t.width) is ∙ wide in
    let r_high : r.height ≡ p.height = ap (λ (t : Raster _). t.height) is ∙ high in
    same_picture (picture_by level maxval r) (redrawn f at) (record { kind = refl; width = r_wide; height = r_high; maxval = refl })
    (length-map r.cells level ∙ ap length cells ∙ made_len ∙ start_len ∙ len_is ∙ sym (product r.height r.width p.height p.width r_high r_wide))
    (length-rows at p.width 0 p.height)
    (λ x y a b.
    let a' : x < p.width = omega arith in
    let b' : y < p.height = omega arith in
    ap (λ (t : List _). level_numbered level t (y * r.width + x)) cells
    ∙ ap (λ (t : ℕ). level_numbered level made (y * t + x)) r_wide
    ∙ each x y a' b'
    ∙ ap (λ (t : List _). value x y (level_numbered level t (y * p.width + x))) (start_is ∙ cells_are)
    ∙ sym (sample-redrawn f at x y a' b'))

-- each level by itself
pub passed_by : {A : Type 0} (level : A → ℕ) (maxval w h len : ℕ) (p r : Raster A) (items start made : List A) (value : ℕ → ℕ) → w ≡ p.width → h ≡ p.height → items ≡ p.cells → len ≡ p.height * p.width → start ≡ items → length start ≡ len
    → length made ≡ length start → r ≡ raster w h (take len (made ++ drop (length made) items)) → ((i : ℕ) → i < length start → level_numbered level made i ≡ value (level_numbered level start i))
    → picture_by level maxval r ≡ redrawn (picture_by level maxval p) (λ x y. value (sample (picture_by level maxval p) x y))
passed_by level maxval w h len p r items start made value wide high cells_are len_is start_is start_len made_len is each =
    redrawn_by level maxval w h len p r items start made (λ (_ _ n : ℕ). value n) wide high cells_are len_is start_is start_len made_len is
    (λ x y a b. each (y * p.width + x) (in_frame p.width p.height x y (length start) (start_len ∙ len_is) a b))

-- the difference of another image and the plane
pub minus_by : {A : Type 0} (level : A → ℕ) (maxval w h len : ℕ) (f p r : Raster A) (image items start made : List A) → p.width ≡ f.width → p.height ≡ f.height → w ≡ f.width → h ≡ f.height → items ≡ p.cells → len ≡ p.height * p.width → start ≡ items
    → length start ≡ len → length made ≡ length start → r ≡ raster w h (take len (made ++ drop (length made) items)) → image ≡ f.cells
    → ((i : ℕ) → i < length start → level_numbered level made i ≡ level_numbered level image i - level_numbered level start i)
    → picture_by level maxval r ≡ minus (picture_by level maxval f) (picture_by level maxval p)
minus_by level maxval w h len f p r image items start made p_wide p_high wide high cells_are len_is start_is start_len made_len is image_is each =
    let value : ℕ → ℕ → ℕ → ℕ = λ (x y n : ℕ). sample (picture_by level maxval f) x y - n in
    let at : ℕ → ℕ → ℕ = λ (x y : ℕ). value x y (sample (picture_by level maxval p) x y) in
    redrawn_by level maxval w h len p r items start made value (wide ∙ sym p_wide) (high ∙ sym p_high) cells_are len_is start_is start_len made_len is
    (λ x y a b.
    each (y * p.width + x) (in_frame p.width p.height x y (length start) (start_len ∙ len_is) a b)
    ∙ ap (λ (l : List _). level_numbered level l (y * p.width + x) - level_numbered level start (y * p.width + x)) image_is
    ∙ ap (λ (t : ℕ). level_numbered level f.cells (y * t + x) - level_numbered level start (y * p.width + x)) p_wide)
    ∙ ap (λ (t : ℕ). drawn kind.Grey t p.height maxval at) p_wide
    ∙ ap (λ (t : ℕ). drawn kind.Grey f.width t maxval at) p_high

-- what the border surrounds, cleared
pub border_by : {A : Type 0} (level : A → ℕ) (maxval w h len : ℕ) (p r : Raster A) (items start made : List A) → w ≡ p.width → h ≡ p.height → items ≡ p.cells → len ≡ p.height * p.width → start ≡ items → length start ≡ len → length made ≡ length start
    → r ≡ raster w h (take len (made ++ drop (length made) items))
    → ((x y : ℕ) → x < w → y < h → level_numbered level made (y * w + x) ≡ kept_at_border w h x y (level_numbered level start (y * w + x)))
    → picture_by level maxval r ≡ border_over 0 (picture_by level maxval p)
border_by level maxval w h len p r items start made wide high cells_are len_is start_is start_len made_len is each =
    redrawn_by level maxval w h len p r items start made (λ (x y n : ℕ). kept_at_border p.width p.height x y n) wide high cells_are len_is start_is start_len made_len is
    (λ x y a b.
    ap (λ (t : ℕ). level_numbered level made (y * t + x)) (sym wide)
    ∙ each x y (omega arith) (omega arith)
    ∙ ap (λ (t : ℕ). kept_at_border t h x y (level_numbered level start (y * t + x))) wide
    ∙ ap (λ (t : ℕ). kept_at_border p.width t x y (level_numbered level start (y * p.width + x))) high)
