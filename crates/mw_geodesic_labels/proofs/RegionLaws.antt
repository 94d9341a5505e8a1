-- What is told of components is what the definition by reconstructions of points says.
use Rattle.std.proofs.Common.{◌≡◌, ℕ, ◌+◌, ◌*◌, ◌/◌, ◌%◌, ◌<◌, List, length, get_or, map, ap, sym, subst, arith, ◌∙◌, inl, inr}
use Rattle.std.specs.Prelude.{◌==◌}
use Rattle.std.proofs.lemmas.Bool.{cases_lt, eqb-true, eq-eqb}
use Rattle.std.proofs.lemmas.List.{same_lists, length-map, get_or-map}
use Rattle.std.proofs.lemmas.Nat.{div-add-mod', same_from_place}
use Rattle.mw_model.specs.declared.offsets.Offset.{Offset}
use Rattle.mw_model.specs.Pictures.{Picture, sample, IsSet}
use Rattle.mw_geodesic.specs.Neighbours.{IsPlace, IsSymmetric}
use Rattle.mw_geodesic.specs.Components.{Region as ToldRegion, component_at, region, regions, first_places}
use Rattle.mw_geodesic.specs.Labels.{IsLabelling}
use Rattle.mw_geodesic.proofs.LargeComponents.{component_shape}
use Rattle.mw_geodesic_labels.specs.declared.regions.Region.{Region}
use Rattle.mw_geodesic_labels.specs.Regions.{HasLabel, IsRegion, AreRegionsOf, region_told}
use Rattle.mw_geodesic_labels.specs.Gathering.{no_region}
use Rattle.mw_geodesic_labels.proofs.Shown.{Shows, turned, least_shown, greatest_shown}
use Rattle.mw_geodesic_labels.proofs.FirstPlaces.{place_at, at_number, has_its_label, labelled_at, area_is, IsFirst, length-first_places, first_at}
use Rattle.mw_geodesic_labels.proofs.DefinedLabels.{defined_labels, labels_defined}

-- ---- one region for a label

abbrev region_from : ℕ → ℕ → ℕ → ℕ → ℕ → ℕ → ℕ → Region
region_from x y area left top right bottom = record { x = x; y = y; area = area; left = left; top = top; right = right; bottom = bottom }

one_region : (f : Picture) (labels : List ℕ) (n : ℕ) (r s : Region) → IsRegion f labels n r → IsRegion f labels n s → r ≡ s
one_region f labels n r s is is' =
    let low = is.first s.x s.y is'.place in
    let low' = is'.first r.x r.y is.place in
    let place = same_from_place r.y r.x s.y s.x f.width is.place.place.column is'.place.place.column (omega arith) in
    let left : r.left ≡ s.left = omega (arith, is.left.least s.left is'.left.met, is'.left.least r.left is.left.met) in
    let top : r.top ≡ s.top = omega (arith, is.top.least s.top is'.top.met, is'.top.least r.top is.top.met) in
    let right : r.right ≡ s.right = omega (arith, is.right.greatest s.right is'.right.met, is'.right.greatest r.right is.right.met) in
    let bottom : r.bottom ≡ s.bottom = omega (arith, is.bottom.greatest s.bottom is'.bottom.met, is'.bottom.greatest r.bottom is.bottom.met) in
    make r.x s.x r.y s.y r.area s.area r.left s.left r.top s.top r.right s.right r.bottom s.bottom place.1 place.0 (is.area ∙ sym is'.area) left top right bottom
  where
    make : (x x' y y' area area' left left' top top' right right' bottom bottom' : ℕ) → x ≡ x' → y ≡ y' → area ≡ area' → left ≡ left' → top ≡ top' → right ≡ right' → bottom ≡ bottom'
        → region_from x y area left top right bottom ≡ region_from x' y' area' left' top' right' bottom'
    make x x' y y' area area' left left' top top' right right' bottom bottom' a b c d e f g = cc

-- ---- the region of a first place

abbrev told_region : ToldRegion → Region
told_region r = region_from r.x r.y r.area r.left r.top r.right r.bottom

shows_places : (e : List Offset) (f : Picture) (count : ℕ) (labels : List ℕ) (n i : ℕ) → IsSet f → IsLabelling e f count labels → IsFirst f labels i → get_or labels i 0 ≡ n
    → Shows (λ x y. sample (component_at e f i) x y == 1) (HasLabel f labels n) (component_at e f i).width (component_at e f i).height
shows_places e f count labels n i is_set labelling first number =
    let c = component_at e f i in
    let shape = component_shape e f (i % f.width) (i / f.width) in
    let wide = shape.width in
    let tall = shape.height in
    let label = at_number f.width labels i ∙ number in
    let both = λ (x y : ℕ) (place : IsPlace f x y). has_its_label e f count labels (i % f.width) (i / f.width) x y is_set labelling (place_at f i first.within) place (at_number f.width f.samples i ∙ first.one) in
    record {
      on = λ x y p q so.
          let place : IsPlace f x y = record { column = omega arith; row = omega arith } in
          record { place = place; label = (both x y place).0 (eqb-true (sample c x y) 1 so) ∙ label };
      first = λ x y has. let column = has.place.column in omega arith;
      second = λ x y has. let row = has.place.row in omega arith;
      back = λ x y has. eq-eqb (sample c x y) 1 ((both x y has.place).1 (has.label ∙ sym label));
    }

is_region : (e : List Offset) (f : Picture) (count : ℕ) (labels : List ℕ) (n i : ℕ) → IsSet f → IsLabelling e f count labels → IsFirst f labels i → get_or labels i 0 ≡ n
    → IsRegion f labels n (told_region (region (component_at e f i) i))
is_region e f count labels n i is_set labelling first number =
    let w = f.width in
    let x = i % w in
    let y = i / w in
    let c = component_at e f i in
    let shape = component_shape e f x y in
    let has : HasLabel f labels n x y = record { place = place_at f i first.within; label = at_number w labels i ∙ number } in
    let at : i / c.width * w + i % c.width ≡ i = ap (λ (t : ℕ). i / t * w + i % t) shape.width ∙ div-add-mod' i w in
    let some = labelled_at e f count labels i labelling first.within first.one in
    let S = λ (x y : ℕ). sample c x y == 1 in
    let H = λ (x y : ℕ). HasLabel f labels n x y in
    let shows = shows_places e f count labels n i is_set labelling first number in
    let across = turned S H c.width c.height shows in
    record {
      place = subst (λ (t : ℕ). HasLabel f labels n (i % t) (i / t)) (sym shape.width) has;
      first = λ u v there. elim (cases_lt (v * w + u) i) [
        | inl less ↦ absurd (first.first (v * w + u) less (there.label ∙ sym number))
        | inr from ↦ omega arith
      ];
      area = area_is e f count labels n x y is_set labelling has (at_number w f.samples i ∙ first.one) (omega arith);
      left = least_shown S H c.width c.height x y shows has;
      top = least_shown (λ y x. S x y) (λ y x. H x y) c.height c.width y x across has;
      right = greatest_shown S H c.width c.height x y shows has;
      bottom = greatest_shown (λ y x. S x y) (λ y x. H x y) c.height c.width y x across has;
    }

-- ---- the laws

pub told : (e : List Offset) (f : Picture) (rs : List Region) → IsSet f → AreRegionsOf e f rs → map region_told rs ≡ regions e f
told e f rs is_set are =
    let firsts = first_places e f in
    let tell = λ (i : ℕ). region (component_at e f i) i in
    let count = length-first_places e f (length rs) are.labels is_set are.labelling in
    let size = length-map rs region_told in
    let size' = length-map firsts tell in
    same_lists (map region_told rs) (regions e f) (omega arith)
    (λ k d lt.
    let inside : k < length rs = omega arith in
    let i = get_or firsts k 0 in
    let at = first_at e f (length rs) are.labels k is_set are.labelling inside in
    let same = one_region f are.labels (k + 1) (get_or rs k no_region) (told_region (tell i)) (are.each k no_region inside) (is_region e f (length rs) are.labels (k + 1) i is_set are.labelling at.first at.label) in
    get_or-map region_told rs k no_region d inside ∙ ap region_told same ∙ sym (get_or-map tell firsts k 0 d (omega arith)))

pub as_defined : (e : List Offset) (f : Picture) (rs : List Region) → IsSymmetric e → IsSet f → map region_told rs ≡ regions e f → AreRegionsOf e f rs
as_defined e f rs turns is_set is =
    let firsts = first_places e f in
    let tell = λ (i : ℕ). region (component_at e f i) i in
    let labels = defined_labels e f in
    let size : length rs ≡ length firsts = sym (length-map rs region_told) ∙ ap length is ∙ length-map firsts tell in
    let labelling = subst (λ (t : ℕ). IsLabelling e f t labels) (sym size) (labels_defined e f turns is_set) in
    record {
      labels = labels;
      labelling = labelling;
      each = λ k d lt.
          let i = get_or firsts k 0 in
          let at = first_at e f (length rs) labels k is_set labelling lt in
          let same : region_told (get_or rs k d) ≡ tell i =
          sym (get_or-map region_told rs k d (region_told d) lt) ∙ ap (λ (t : List ToldRegion). get_or t k (region_told d)) is ∙ get_or-map tell firsts k 0 (region_told d) (omega arith) in
          subst (λ (t : ToldRegion). IsRegion f labels (k + 1) (told_region t)) (sym same) (is_region e f (length rs) labels (k + 1) i is_set labelling at.first at.label);
    }

pub as_many : (e : List Offset) (f : Picture) (count : ℕ) (labels : List ℕ) → IsSet f → IsLabelling e f count labels → count ≡ length (regions e f)
as_many e f count labels is_set labelling =
    sym (length-map (first_places e f) (λ (i : ℕ). region (component_at e f i) i) ∙ length-first_places e f count labels is_set labelling)
