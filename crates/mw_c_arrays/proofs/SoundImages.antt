-- Arrays with which nothing is wrong are images.
use Rattle.std.proofs.Common.{◌≡◌, ℕ, ◌+◌, ◌*◌, ◌<◌, ◌≤◌, Bool, true, false, cond, not, ◌&&◌, ◌||◌, List, [], ◌∷◌, length, map, Option, None, refl, arith, ◌∙◌}
use Rattle.std.specs.Prelude.{All, nat_le, nat_lt, ◌==◌, if◌then◌else◌}
use Rattle.std.specs.List.{list_any}
use Rattle.std.proofs.lemmas.Bool.{and_parts, eqb-true, leb-true, ltb-false}
use Rattle.std.proofs.lemmas.List.{length-map}
use Rattle.std.proofs.lemmas.List.Elements.{All-cons, All-nil}
use Rattle.mw_model.specs.declared.codes.Code.{Code}
use Rattle.mw_model.specs.declared.codes.Code.TheVariants as code
use Rattle.mw_model.specs.declared.limits.TheConstants.{PIXEL_LIMIT, SIDE_LIMIT}
use Rattle.mw_model.specs.declared.shapes.Kind.TheVariants as kind
use Rattle.mw_model.specs.Pictures.{IsImage, picture}
use Rattle.mw_model.specs.Refusals.{first_of, when}
use Rattle.mw_c_arrays.specs.Arrays.{pixels_in_bytes}
use Rattle.mw_c_arrays.specs.Faults.{image_sides_fit, length_case, maxval_case, sample_case, size_case}
use Rattle.mw_c_arrays.proofs.FirstCases.{first_of-none, when-none, when_not-none}

-- the sides are within the limits of an image
record Sides (width height : ℕ) : Type 0 where
  pub wide : (1 ≤ width) × (width ≤ SIDE_LIMIT)
  pub high : (1 ≤ height) × (height ≤ SIDE_LIMIT)
  pub area : height * width ≤ PIXEL_LIMIT

sides_are : (width height : ℕ) → image_sides_fit width height ≡ true → Sides width height
sides_are width height fit =
    let wide = nat_le 1 width && nat_le width SIDE_LIMIT in
    let high = nat_le 1 height && nat_le height SIDE_LIMIT in
    let outer = and_parts (wide && high) (nat_le (height * width) PIXEL_LIMIT) fit in
    let inner = and_parts wide high outer.0 in
    let across = and_parts (nat_le 1 width) (nat_le width SIDE_LIMIT) inner.0 in
    let down = and_parts (nat_le 1 height) (nat_le height SIDE_LIMIT) inner.1 in
    record {
      wide = (leb-true 1 width across.0, leb-true width SIDE_LIMIT across.1);
      high = (leb-true 1 height down.0, leb-true height SIDE_LIMIT down.1);
      area = leb-true (height * width) PIXEL_LIMIT outer.1;
    }

or-none : (a b : Bool) → (a || b) ≡ false → (a ≡ false) × (b ≡ false)
or-none true b e = absurd cc
or-none false b e = (refl, e)

none_over : (most : ℕ) (samples : List ℕ) → list_any (λ s. nat_lt most s) samples ≡ false → All (λ s. s ≤ most) samples
none_over most [] none = All-nil (λ s. s ≤ most)
none_over most (s ∷ ss) none =
    let parts = or-none (nat_lt most s) (list_any (λ t. nat_lt most t) ss) none in
    All-cons (λ t. t ≤ most) s ss (ltb-false most s parts.0) (none_over most ss parts.1)

one_if_small : (b : Bool) → (if b then 1 else 0) ≤ 1
one_if_small true = omega arith
one_if_small false = omega arith

pixels_small : (bytes : List ℕ) → All (λ s. s ≤ 1) (pixels_in_bytes bytes)
pixels_small [] = All-nil (λ s. s ≤ 1)
pixels_small (s ∷ ss) = All-cons (λ t. t ≤ 1) (if nat_le 1 s then 1 else 0) (pixels_in_bytes ss) (one_if_small (nat_le 1 s)) (pixels_small ss)

-- levels whose maxval is from the first to the last
pub record Levels (first last width height maxval : ℕ) (samples : List ℕ) : Type 0 where
  pub image : IsImage (picture kind.Grey width height maxval samples)
  pub low : first ≤ maxval
  pub high : maxval ≤ last

pub levels_sound : (first last width height maxval : ℕ) (samples : List ℕ) → 1 ≤ first → last ≤ 65535
    → first_of (size_case width height ∷ length_case (length samples) width height ∷ maxval_case first last maxval ∷ sample_case maxval samples ∷ []) ≡ None
    → Levels first last width height maxval samples
levels_sound first last width height maxval samples some few none =
    let size = first_of-none (size_case width height) (length_case (length samples) width height ∷ maxval_case first last maxval ∷ sample_case maxval samples ∷ []) none in
    let count = first_of-none (length_case (length samples) width height) (maxval_case first last maxval ∷ sample_case maxval samples ∷ []) size.1 in
    let top = first_of-none (maxval_case first last maxval) (sample_case maxval samples ∷ []) count.1 in
    let over = first_of-none (sample_case maxval samples) [] top.1 in
    let sides = sides_are width height (when_not-none (image_sides_fit width height) code.Size size.0) in
    let bounds = and_parts (nat_le first maxval) (nat_le maxval last) (when_not-none (nat_le first maxval && nat_le maxval last) code.Maxval top.0) in
    let low : first ≤ maxval = leb-true first maxval bounds.0 in
    let high : maxval ≤ last = leb-true maxval last bounds.1 in
    record {
      image = record {
        picture = record {
          size = eqb-true (length samples) (height * width) (when_not-none (length samples == height * width) code.Length count.0);
          bounded = none_over maxval samples (when-none (list_any (λ s. nat_lt maxval s) samples) code.Sample over.0);
        };
        maxval = (omega arith, omega arith);
        width = sides.wide;
        height = sides.high;
        area = sides.area;
      };
      low = low;
      high = high;
    }

-- a set
pub set_sound : (width height : ℕ) (bytes : List ℕ) → first_of (size_case width height ∷ length_case (length bytes) width height ∷ []) ≡ None
    → IsImage (picture kind.Bit width height 1 (pixels_in_bytes bytes))
set_sound width height bytes none =
    let size = first_of-none (size_case width height) (length_case (length bytes) width height ∷ []) none in
    let count = first_of-none (length_case (length bytes) width height) [] size.1 in
    let sides = sides_are width height (when_not-none (image_sides_fit width height) code.Size size.0) in
    record {
      picture = record {
        size = length-map bytes (λ s. if nat_le 1 s then 1 else 0) ∙ eqb-true (length bytes) (height * width) (when_not-none (length bytes == height * width) code.Length count.0);
        bounded = pixels_small bytes;
      };
      maxval = refl;
      width = sides.wide;
      height = sides.high;
      area = sides.area;
    }
