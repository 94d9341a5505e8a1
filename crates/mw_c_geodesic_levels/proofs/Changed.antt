-- What is made of images in levels of grey: the same by elements that cover alike, and an image of the same sides.
use Rattle.std.proofs.Common.{◌≡◌, ℕ, ◌+◌, ◌*◌, List, length, min, refl, ap, sym, subst, arith, ◌∙◌}
use Rattle.mw_model.specs.declared.offsets.Offset.{Offset}
use Rattle.mw_model.specs.declared.shapes.Kind.{Kind}
use Rattle.mw_model.specs.Flat.{complement, minus, threshold}
use Rattle.mw_model.specs.Laws.{SameShape}
use Rattle.mw_model.specs.Pictures.{Picture, sample, FitsKind, IsPicture}
use Rattle.mw_model.proofs.ImageLaws.{drawn_picture, threshold_picture}
use Rattle.mw_model.proofs.ImagePlaces.{shape_sym, shape_trans}
use Rattle.mw_geodesic.specs.Extrema.{h_maxima, h_minima, lowered_by, raised_by}
use Rattle.mw_geodesic.specs.Geodesics.{reconstruction, reconstruction_by_erosion}
use Rattle.mw_geodesic.proofs.Complements.{complement_picture}
use Rattle.mw_geodesic.proofs.Duality.{dual}
use Rattle.mw_geodesic.proofs.Reconstructed.{rebuilt_shape}
use Rattle.mw_c_arrays.specs.declared.sources.ArrayImage.{ArrayImage}
use Rattle.mw_c_arrays.specs.Sources.{IsArrayImage, array_sample_count, picture_in}
use Rattle.mw_c_arrays.proofs.SourceImages.{source_image, source_samples}
use Rattle.mw_c_calls.specs.Sources.{LevelsStandIn}
use Rattle.mw_c_geodesic.specs.Alike.{CoverAlike}
use Rattle.mw_c_geodesic.specs.Changes.{made_alone}
use Rattle.mw_c_geodesic.proofs.CoveredAlike.{rebuilt_alike}
use Rattle.mw_c_geodesic.proofs.RebuiltImages.{method_alike, method_shape, rebuilt_picture}
use Rattle.mw_c_geodesic.proofs.Shapes as shapes
use Rattle.mw_c_geodesic_levels.specs.Changes.{ChangeStandsIn, levels_changed}
use Rattle.mw_c_geodesic_levels.specs.declared.changing.LevelChange.{LevelChange}
use Rattle.mw_c_geodesic_levels.specs.declared.changing.LevelChange.TheVariants as change

raised_picture : (h : ℕ) (f : Picture) → IsPicture (raised_by h f)
raised_picture h f = drawn_picture f.kind f.width f.height f.maxval (λ x y. min (sample f x y + h) f.maxval) (λ x y p q. omega arith)

-- an image like f has the shape of f
same : (f : Picture) (g : Picture) → f.kind ≡ g.kind → f.width ≡ g.width → f.height ≡ g.height → f.maxval ≡ g.maxval → SameShape f g
same f g k w h m = record { kind = k; width = w; height = h; maxval = m }

-- ---- by elements that cover alike

pub changed_alike : (c : LevelChange) (e e' : List Offset) (f : Picture) → CoverAlike e e' → IsPicture f → levels_changed c e f ≡ levels_changed c e' f
changed_alike (change.Alone c) e e' f alike is = shapes.changed_alike c e e' f alike is
changed_alike (change.DomesCut h) e e' f alike is = rebuilt_alike e e' f (lowered_by h f) alike
changed_alike (change.BasinsFilled h) e e' f alike is = method_alike 1 e e' f (raised_by h f) alike (raised_picture h f) is (same (raised_by h f) f refl refl refl refl)
changed_alike change.Maxima e e' f alike is = ap (λ (t : Picture). threshold 1 (minus f t)) (rebuilt_alike e e' f (lowered_by 1 f) alike)
changed_alike change.Minima e e' f alike is =
    ap (λ (t : Picture). threshold 1 (minus t f)) (method_alike 1 e e' f (raised_by 1 f) alike (raised_picture 1 f) is (same (raised_by 1 f) f refl refl refl refl))

-- ---- images

-- what is made by erosion is a picture, of the shape of the marker
eroded_picture : (e : List Offset) (mask marker : Picture) → IsPicture marker → IsPicture mask → SameShape marker mask → IsPicture (reconstruction_by_erosion e mask marker)
eroded_picture e mask marker is_marker is_mask shape =
    subst (λ (t : Picture). IsPicture t) (sym (dual e mask marker is_marker is_mask (shape_sym shape))) (complement_picture (reconstruction e (complement mask) (complement marker)))

pub changed_picture : (c : LevelChange) (e : List Offset) (f : Picture) → IsPicture f → IsPicture (levels_changed c e f)
changed_picture (change.Alone c) e f is = shapes.changed_picture c e f is
changed_picture (change.DomesCut h) e f is = rebuilt_picture e f (lowered_by h f) is (same (lowered_by h f) f refl refl refl refl)
changed_picture (change.BasinsFilled h) e f is = eroded_picture e f (raised_by h f) (raised_picture h f) is (same (raised_by h f) f refl refl refl refl)
changed_picture change.Maxima e f is = threshold_picture 1 (minus f (h_maxima e 1 f))
changed_picture change.Minima e f is = threshold_picture 1 (minus (h_minima e 1 f) f)

-- of the sides of the image, and a set or of its kind and maxval
pub record IsFramed (c : LevelChange) (g f : Picture) : Type 0 where
  pub width : g.width ≡ f.width
  pub height : g.height ≡ f.height
  pub fits : FitsKind f.kind f.maxval → FitsKind g.kind g.maxval
  pub stands : (h : ArrayImage) → LevelsStandIn h f.maxval → ChangeStandsIn c h g.maxval

same_stands : (h : ArrayImage) (a b : ℕ) → a ≡ b → LevelsStandIn h b → LevelsStandIn h a
same_stands h a b is stands = subst (λ (n : ℕ). LevelsStandIn h n) (sym is) stands

same_fits : (g f : Picture) → SameShape g f → FitsKind f.kind f.maxval → FitsKind g.kind g.maxval
same_fits g f shape fits = subst (λ (k : Kind). FitsKind k g.maxval) (sym shape.kind) (subst (λ (n : ℕ). FitsKind f.kind n) (sym shape.maxval) fits)

filled_shape : (e : List Offset) (f marker : Picture) → IsPicture marker → IsPicture f → SameShape marker f → SameShape (reconstruction_by_erosion e f marker) f
filled_shape e f marker is_marker is shape = shape_trans (method_shape 1 e f marker is_marker is shape) shape

pub changed_framed : (c : LevelChange) (e : List Offset) (f : Picture) → IsPicture f → IsFramed c (levels_changed c e f) f
changed_framed (change.Alone c) e f is =
    let shape = shapes.changed_shape c e f is in
    record { width = shape.width; height = shape.height; fits = same_fits (made_alone c e f) f shape; stands = λ h s. same_stands h (made_alone c e f).maxval f.maxval shape.maxval s }
changed_framed (change.DomesCut n) e f is =
    let m = lowered_by n f in
    let shape = shape_trans (rebuilt_shape e f m) (same m f refl refl refl refl) in
    record { width = shape.width; height = shape.height; fits = same_fits (reconstruction e f m) f shape; stands = λ h s. same_stands h (reconstruction e f m).maxval f.maxval shape.maxval s }
changed_framed (change.BasinsFilled n) e f is =
    let m = raised_by n f in
    let shape = filled_shape e f m (raised_picture n f) is (same m f refl refl refl refl) in
    record { width = shape.width; height = shape.height; fits = same_fits (reconstruction_by_erosion e f m) f shape; stands = λ h s. same_stands h (reconstruction_by_erosion e f m).maxval f.maxval shape.maxval s }
changed_framed change.Maxima e f is = record { width = refl; height = refl; fits = λ fits. refl; stands = λ h s. omega arith }
changed_framed change.Minima e f is =
    let m = raised_by 1 f in
    let shape = filled_shape e f m (raised_picture 1 f) is (same m f refl refl refl refl) in
    record { width = shape.width; height = shape.height; fits = λ fits. refl; stands = λ h s. omega arith }

-- ---- of arrays

-- it stands in samples of the array's kind
pub change_stands : (c : LevelChange) (e : List Offset) (f : ArrayImage) → IsArrayImage f → ChangeStandsIn c f (levels_changed c e (picture_in f)).maxval
change_stands c e f is = (changed_framed c e (picture_in f) (source_image f is).picture).stands f (shapes.source_levels f (picture_in f).maxval is refl)

-- and fills as much room
pub change_fills : (c : LevelChange) (e : List Offset) (f : ArrayImage) (room : ℕ) → IsArrayImage f → room ≡ array_sample_count f → length (levels_changed c e (picture_in f)).samples ≡ room
change_fills c e f room is as_many =
    let p = picture_in f in
    let g = levels_changed c e p in
    let image = (source_image f is).picture in
    let framed = changed_framed c e p image in
    (changed_picture c e p image).size
    ∙ ap (λ (n : ℕ). g.height * n) framed.width ∙ ap (λ (n : ℕ). n * p.width) framed.height
    ∙ sym image.size ∙ source_samples f ∙ sym as_many

-- an image that a plain program made of one in an array
pub plain_fits : (c : LevelChange) (e : List Offset) (f : ArrayImage) (image made : Picture) → IsArrayImage f → image ≡ picture_in f → made ≡ levels_changed c e image → FitsKind made.kind made.maxval
plain_fits c e f image made is image_is made_is =
    let sound = source_image f is in
    subst (λ (t : Picture). FitsKind t.kind t.maxval) (sym (made_is ∙ ap (λ (t : Picture). levels_changed c e t) image_is)) ((changed_framed c e (picture_in f) sound.picture).fits sound.maxval)

-- what is made of an array by elements that cover alike
pub array_alike : (c : LevelChange) (e e' : List Offset) (f : ArrayImage) → IsArrayImage f → CoverAlike e e' → levels_changed c e' (picture_in f) ≡ levels_changed c e (picture_in f)
array_alike c e e' f is alike = sym (changed_alike c e e' (picture_in f) alike (source_image f is).picture)
