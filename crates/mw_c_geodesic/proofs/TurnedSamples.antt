-- Samples that are turned over one after the other, and complements of images.
use Rattle.std.proofs.Common.{◌≡◌, ◌≢◌, ℕ, zero, suc, ◌+◌, ◌-◌, ◌*◌, ◌<◌, ◌≤◌, List, [], ◌∷◌, length, get_or, set, map, refl, ap, sym, subst, arith, ◌∙◌, inl, inr}
use Rattle.std.specs.Prelude.{All, nat_le, if◌then◌else◌}
use Rattle.std.proofs.lemmas.Bool.{cases_lt}
use Rattle.std.proofs.lemmas.List.{ext_get_or, get_or-map, get_or-set_same, get_or-set_other, length-map, length-set}
use Rattle.std.proofs.lemmas.Nat.{mul-add-lt}
use Rattle.std.proofs.Math.Nat.{mul_comm}
use Rattle.mw_model.specs.declared.shapes.Kind.{Kind}
use Rattle.mw_model.specs.declared.shapes.Kind.TheVariants as kind
use Rattle.mw_model.specs.Flat.{complement}
use Rattle.mw_model.specs.Pictures.{Picture, picture, FitsKind, IsImage, IsPicture}
use Rattle.mw_model.proofs.ImagePlaces.{same_picture}
use Rattle.mw_geodesic.proofs.Complements.{complement_picture, sample-complement}
use Rattle.mw_c_arrays.specs.Arrays.{pixels_in_bytes, set_in_bytes}

-- the first i samples are made of those that were there, and the rest is as it was
pub record TurnedTo (f : ℕ → ℕ) (old xs : List ℕ) (i : ℕ) : Type 0 where
  pub size : length xs ≡ length old
  pub done : (j : ℕ) → j < i → j < length old → get_or xs j 0 ≡ f (get_or old j 0)
  pub rest : (j : ℕ) → i ≤ j → get_or xs j 0 ≡ get_or old j 0

pub none_turned : (f : ℕ → ℕ) (old : List ℕ) → TurnedTo f old old 0
none_turned f old = record { size = refl; done = λ j lt. absurd (omega arith); rest = λ j le. refl }

pub turned_more : (f : ℕ → ℕ) (old xs : List ℕ) (i v : ℕ) → i < length old → v ≡ f (get_or xs i 0) → TurnedTo f old xs i → TurnedTo f old (set xs i v) (i + 1)
turned_more f old xs i v within is was =
    let size = was.size in
    record {
      size = length-set xs i v ∙ size;
      done = λ j lt inside. elim (cases_lt j i) [
        | inl less ↦ let other : j ≢ i = omega arith in get_or-set_other xs i j v 0 other ∙ was.done j less inside
        | inr from ↦
            let same : j ≡ i = omega arith in
            rw same (get_or-set_same xs i v 0 (omega arith) ∙ is ∙ ap f (was.rest i (omega arith)))
      ];
      rest = λ j le. let other : j ≢ i = omega arith in get_or-set_other xs i j v 0 other ∙ was.rest j (omega arith);
    }

pub all_turned : (f : ℕ → ℕ) (old xs : List ℕ) (i : ℕ) → length old ≤ i → TurnedTo f old xs i → xs ≡ map f old
all_turned f old xs i end was =
    let size = was.size in
    ext_get_or 0 xs (map f old) (size ∙ sym (length-map old f)) (λ j lt. was.done j (omega arith) (omega arith) ∙ sym (get_or-map f old j 0 0 (omega arith)))

-- ---- complements

complement_is : (f : Picture) → IsPicture f → complement f ≡ picture f.kind f.width f.height f.maxval (map (λ s. f.maxval - s) f.samples)
complement_is f is =
    let g = picture f.kind f.width f.height f.maxval (map (λ s. f.maxval - s) f.samples) in
    same_picture (complement f) g (record { kind = refl; width = refl; height = refl; maxval = refl }) (complement_picture f).size (length-map f.samples (λ s. f.maxval - s) ∙ is.size)
    (λ x y p q.
    let within : y * f.width + x < length f.samples = omega (arith, is.size, mul-add-lt y f.width x f.height q p, mul_comm f.width f.height) in
    sample-complement f x y p q ∙ sym (get_or-map (λ s. f.maxval - s) f.samples (y * f.width + x) 0 0 within))

pub complement_image : (f : Picture) → IsImage f → IsImage (complement f)
complement_image f is = record { picture = complement_picture f; maxval = is.maxval; width = is.width; height = is.height; area = is.area }

same_parts : (k k' : Kind) (w w' h h' m m' : ℕ) (s s' : List ℕ) → k ≡ k' → w ≡ w' → h ≡ h' → m ≡ m' → s ≡ s' → picture k w h m s ≡ picture k' w' h' m' s'
same_parts k k' w w' h h' m m' s s' a b c d e = cc

one_turned : (s : ℕ) → (if nat_le 1 (1 - s) then 1 else 0) ≡ 1 - s
one_turned zero = refl
one_turned (suc s) = let none : 1 - suc s ≡ 0 = omega arith in rw none refl

pixels_turned : (xs : List ℕ) → pixels_in_bytes (map (λ s. 1 - s) xs) ≡ map (λ s. 1 - s) xs
pixels_turned [] = refl
pixels_turned (x ∷ xs) =
    let head : (if nat_le 1 (1 - x) then 1 else 0) ≡ 1 - x = one_turned x in
    let tail : pixels_in_bytes (map (λ s. 1 - s) xs) ≡ map (λ s. 1 - s) xs = pixels_turned xs in
    ap (λ (t : ℕ). t ∷ pixels_in_bytes (map (λ s. 1 - s) xs)) head ∙ ap (λ (t : List ℕ). (1 - x) ∷ t) tail

pub set_turned_is : (f : Picture) (bytes : List ℕ) (w h : ℕ) → IsImage f → f.kind ≡ kind.Bit → w ≡ f.width → h ≡ f.height → bytes ≡ map (λ s. f.maxval - s) f.samples → set_in_bytes w h bytes ≡ complement f
set_turned_is f bytes w h is bit wide high turned =
    let one : f.maxval ≡ 1 = subst (λ (k : Kind). FitsKind k f.maxval) bit is.maxval in
    let by_one : map (λ s. f.maxval - s) f.samples ≡ map (λ s. 1 - s) f.samples = ap (λ (m : ℕ). map (λ s. m - s) f.samples) one in
    let pixels : pixels_in_bytes bytes ≡ map (λ s. f.maxval - s) f.samples = ap pixels_in_bytes (turned ∙ by_one) ∙ pixels_turned f.samples ∙ sym by_one in
    same_parts kind.Bit f.kind w f.width h f.height 1 f.maxval (pixels_in_bytes bytes) (map (λ s. f.maxval - s) f.samples) (sym bit) wide high (sym one) pixels ∙ sym (complement_is f is.picture)

-- ---- sets that plain programs made

one_stays : (s : ℕ) → s ≤ 1 → (if nat_le 1 s then 1 else 0) ≡ s
one_stays zero low = refl
one_stays (suc zero) low = refl
one_stays (suc (suc s)) low = absurd (omega arith)

pixels_stay : (xs : List ℕ) → All (λ s. s ≤ 1) xs → pixels_in_bytes xs ≡ xs
pixels_stay xs small =
    let size : length (pixels_in_bytes xs) ≡ length xs = length-map xs (λ s. if nat_le 1 s then 1 else 0) in
    ext_get_or 0 (pixels_in_bytes xs) xs size
    (λ i lt.
    let within : i < length xs = omega arith in
    get_or-map (λ s. if nat_le 1 s then 1 else 0) xs i 0 0 within ∙ one_stays (get_or xs i 0) (small i 0 within))

pub set_made_is : (f : Picture) (bytes : List ℕ) (w h : ℕ) → IsPicture f → f.kind ≡ kind.Bit → f.maxval ≡ 1 → w ≡ f.width → h ≡ f.height → bytes ≡ f.samples → set_in_bytes w h bytes ≡ f
set_made_is f bytes w h is bit one wide high same =
    let small : All (λ s. s ≤ 1) f.samples = subst (λ (m : ℕ). All (λ s. s ≤ m) f.samples) one is.bounded in
    same_parts kind.Bit f.kind w f.width h f.height 1 f.maxval (pixels_in_bytes bytes) f.samples (sym bit) wide high (sym one) (ap pixels_in_bytes same ∙ pixels_stay f.samples small)
