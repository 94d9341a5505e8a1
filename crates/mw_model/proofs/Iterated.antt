-- Operators done n times, and the volumes of openings.
use Rattle.std.proofs.Common.{◌≡◌, ℕ, zero, suc, ◌+◌, ◌*◌, ◌<◌, ◌≤◌, List, [], ◌∷◌, length, get_or, refl, ap, sym, subst, arith, ◌∙◌}
use Rattle.std.specs.List.{sum, fold}
use Rattle.mw_model.specs.declared.offsets.Offset.{Offset}
use Rattle.mw_model.specs.Pictures.{Picture}
use Rattle.mw_model.specs.Flat.{under, least, greatest, erosion, dilation, reflected, opening}
use Rattle.mw_model.specs.Iterates.{times, volume}
use Rattle.mw_model.specs.Laws.{Below, SameShape}
use Rattle.mw_model.proofs.ImagePlaces.{shape_itself, shape_trans, shape_sym, redrawn_shape, below_itself, below_trans, by_places, length-rows}
use Rattle.mw_model.proofs.ImageOrder.{IsBounded, bounded_dilation, dilation_rises, opening_below}

pub times_shape : (operator : Picture → Picture) → ((f : Picture) → SameShape (operator f) f) → (n : ℕ) (f : Picture) → SameShape (times n operator f) f
times_shape operator keeps zero f = shape_itself f
times_shape operator keeps (suc n) f = shape_trans (keeps (times n operator f)) (times_shape operator keeps n f)

pub times_turn : (operator : Picture → Picture) (n : ℕ) (f : Picture) → times n operator (operator f) ≡ operator (times n operator f)
times_turn operator zero f = refl
times_turn operator (suc n) f = ap operator (times_turn operator n f)

pub eroded_shape : (b : List Offset) (n : ℕ) (f : Picture) → SameShape (times n (erosion b) f) f
eroded_shape b n f = times_shape (erosion b) (λ f. redrawn_shape f (λ x y. least f.maxval (under f b x y))) n f

pub dilated_shape : (b : List Offset) (n : ℕ) (f : Picture) → SameShape (times n (dilation b) f) f
dilated_shape b n f = times_shape (dilation b) (λ f. redrawn_shape f (λ x y. greatest (under f b x y))) n f

pub dilated_rises : (b : List Offset) (n : ℕ) (f g : Picture) → SameShape f g → Below f g → Below (times n (dilation b) f) (times n (dilation b) g)
dilated_rises b zero f g shape below = below
dilated_rises b (suc n) f g shape below =
    dilation_rises (times n (dilation b) f) (times n (dilation b) g) b
    (shape_trans (dilated_shape b n f) (shape_trans shape (shape_sym (dilated_shape b n g))))
    (dilated_rises b n f g shape below)

pub bounded_dilated : (b : List Offset) (n : ℕ) (f : Picture) → IsBounded f → IsBounded (times n (dilation b) f)
bounded_dilated b zero f bounded = bounded
bounded_dilated b (suc n) f bounded = bounded_dilation b (times n (dilation b) f) (bounded_dilated b n f bounded)

-- an opening by n erosions and n dilations
abbrev pub opened : List Offset → ℕ → Picture → Picture
opened b n f = times n (dilation (reflected b)) (times n (erosion b) f)

pub opened_shape : (b : List Offset) (n : ℕ) (f : Picture) → SameShape (opened b n f) f
opened_shape b n f = shape_trans (dilated_shape (reflected b) n (times n (erosion b) f)) (eroded_shape b n f)

-- One step more is below.
pub opened_falls : (b : List Offset) (n : ℕ) (f : Picture) → Below (opened b (suc n) f) (opened b n f)
opened_falls b n f =
    let before = times n (erosion b) f in
    subst (λ (t : Picture). Below t (opened b n f)) (times_turn (dilation (reflected b)) n (erosion b before))
    (dilated_rises (reflected b) n (opening b before) before (redrawn_shape before _) (opening_below b before))

pub opened_below : (b : List Offset) (n : ℕ) (f : Picture) → Below (opened b n f) f
opened_below b zero f = below_itself f
opened_below b (suc n) f =
    below_trans (opened b (suc n) f) (opened b n f) f
    (shape_trans (opened_shape b (suc n) f) (shape_sym (opened_shape b n f)))
    (opened_falls b n f) (opened_below b n f)

totals_below : (a b : ℕ) (xs ys : List ℕ) → a ≤ b → length xs ≡ length ys → ((i : ℕ) → i < length xs → get_or xs i 0 ≤ get_or ys i 0)
    → fold (λ t n. t + n) a xs ≤ fold (λ t n. t + n) b ys
totals_below a b [] [] le e each = le
totals_below a b [] (y ∷ ys) le e each = absurd (omega arith)
totals_below a b (x ∷ xs) [] le e each = absurd (omega arith)
totals_below a b (x ∷ xs) (y ∷ ys) le e each =
    let first : x ≤ y = each 0 (omega arith) in
    totals_below (a + x) (b + y) xs ys (omega arith) (omega arith) (λ i p. each (suc i) (omega arith))

-- the sums of two images of one shape that are below one another
pub sum_below : (f g : Picture) → SameShape f g → length f.samples ≡ f.height * f.width → length g.samples ≡ g.height * g.width → Below f g → sum f.samples ≤ sum g.samples
sum_below f g shape f_size g_size below =
    totals_below 0 0 f.samples g.samples (omega arith) (f_size ∙ sym (simp (shape.width, shape.height) g_size))
    (λ i p. by_places (λ i. get_or f.samples i 0 ≤ get_or g.samples i 0) f.width f.height
    (λ x y p q. rw (ap (λ (w : ℕ). get_or g.samples (y * w + x) 0) shape.width) (below x y p q)) i (omega arith))

opened_size : (b : List Offset) (n : ℕ) (f : Picture) → length f.samples ≡ f.height * f.width → length (opened b n f).samples ≡ (opened b n f).height * (opened b n f).width
opened_size b zero f size = size
opened_size b (suc n) f size =
    let g = times n (dilation (reflected b)) (times (suc n) (erosion b) f) in
    length-rows (λ x y. greatest (under g (reflected b) x y)) g.width 0 g.height

pub volume_falls : (b : List Offset) (n : ℕ) (f : Picture) → length f.samples ≡ f.height * f.width → volume b (suc n) f ≤ volume b n f
volume_falls b n f size =
    sum_below (opened b (suc n) f) (opened b n f) (shape_trans (opened_shape b (suc n) f) (shape_sym (opened_shape b n f)))
    (opened_size b (suc n) f size) (opened_size b n f size) (opened_falls b n f)
