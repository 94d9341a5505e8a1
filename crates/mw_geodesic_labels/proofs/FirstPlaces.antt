-- Components and their first places, by labels.
use Rattle.std.proofs.Common.{◌≡◌, ℕ, zero, suc, ◌+◌, ◌-◌, ◌*◌, ◌/◌, ◌%◌, ◌<◌, ◌≤◌, Bool, true, false, List, [], ◌∷◌, ◌++◌, length, get_or, map, take, cond, refl, ap, sym, arith, ◌∙◌, inl, inr, append-nil}
use Rattle.std.specs.Prelude.{◌↔◌, ◌&&◌, ◌==◌, count_by}
use Rattle.std.specs.List.{filter, range_with_len}
use Rattle.std.proofs.lemmas.Bool.{cases_lt, and_parts, and_from, false_from_ne_true, eqb-true, eqb-false, eq-eqb, ne_eqb}
use Rattle.std.proofs.lemmas.List.{take_all, length-map, map_push, get_or-map}
use Rattle.std.proofs.lemmas.List.Elements.{filter-append, Contains-get_or}
use Rattle.std.proofs.lemmas.List.FromFn.{get_or-range_with_len, length-range_with_len, length-map-range_with_len, get_or-map-range_with_len}
use Rattle.std.proofs.lemmas.List.Sums.{position_or_len_is, fails_before_first}
use Rattle.std.proofs.lemmas.Nat.{mod_below, div_below, div-add-mod'}
use Rattle.mw_model.specs.declared.offsets.Offset.{Offset}
use Rattle.mw_model.specs.Pictures.{Picture, sample, IsSet}
use Rattle.mw_model.specs.Flat.{greatest}
use Rattle.mw_model.proofs.ImagePlaces.{sample_bounded}
use Rattle.mw_model.proofs.mw_facts.Numbers.{factor-positive}
use Rattle.mw_model.proofs.mw_facts.Ranges.{range_with_len-more}
use Rattle.mw_geodesic.specs.Neighbours.{IsPlace}
use Rattle.mw_geodesic.specs.Paths.{point, AreConnected}
use Rattle.mw_geodesic.specs.Components.{component, component_at, area, first_place, first_places}
use Rattle.mw_geodesic.specs.Labels.{label_at, IsLabelling}
use Rattle.mw_geodesic.proofs.Components.{in_component, leads_from}
use Rattle.mw_geodesic.proofs.LargeComponents.{area_of_label, component_shape}
use Rattle.mw_geodesic.proofs.Markings.{greatest_more}
use Rattle.mw_geodesic.proofs.Reconstructed.{rebuilt_size, rebuilt_within}
use Rattle.mw_geodesic_labels.specs.Regions.{HasLabel}
use Rattle.mw_geodesic_labels.proofs.Labellings.{at_most_greatest, before_greatest, one_of}
use Rattle.mw_geodesic_labels.proofs.Shown.{below_kept}

-- ---- places by their numbers

pub place_at : (f : Picture) (i : ℕ) → i < f.height * f.width → IsPlace f (i % f.width) (i / f.width)
place_at f i lt =
    let wide = factor-positive i f.height f.width lt in
    record { column = mod_below i f.width wide; row = div_below i f.width f.height wide lt }

pub at_number : (w : ℕ) (xs : List ℕ) (i : ℕ) → get_or xs (i / w * w + i % w) 0 ≡ get_or xs i 0
at_number w xs i = ap (λ (t : ℕ). get_or xs t 0) (div-add-mod' i w)

pub sample_at_number : (f g : Picture) (i : ℕ) → g.width ≡ f.width → sample g (i % f.width) (i / f.width) ≡ get_or g.samples i 0
sample_at_number f g i wide = ap (λ (w : ℕ). get_or g.samples (i / f.width * w + i % f.width) 0) wide ∙ at_number f.width g.samples i

-- ---- the component of a place

pub component_size : (e : List Offset) (f : Picture) (x y : ℕ) → length (component e f x y).samples ≡ f.height * f.width
component_size e f x y =
    let c = component e f x y in
    let shape = component_shape e f x y in
    rebuilt_size e f (point f x y) ∙ product c.height c.width f.height f.width shape.height shape.width
  where
    product : (a b c d : ℕ) → a ≡ c → b ≡ d → a * b ≡ c * d
    product a b c d p q = cc

-- a place is in the component exactly where a path leads from it
pub leads : (e : List Offset) (f : Picture) (x y u v : ℕ) → IsSet f → IsPlace f u v → (sample (component e f x y) u v ≡ 1) ↔ AreConnected e f u v x y
leads e f x y u v is_set there =
    let shape = component_shape e f x y in
    let low = rebuilt_within e f (point f x y) u v (omega (arith, shape.width, there.column)) (omega (arith, shape.height, there.row)) in
    let top = sample_bounded f is_set.picture u v there.column there.row in
    let most = is_set.maxval in
    let inside = in_component e f u v x y there.column there.row in
    ((λ one. inside.0 (omega arith)), (λ way. let high = inside.1 way in omega arith))

-- the component of a place has the places with its label
pub has_its_label : (e : List Offset) (f : Picture) (count : ℕ) (labels : List ℕ) (x y u v : ℕ) → IsSet f → IsLabelling e f count labels → IsPlace f x y → IsPlace f u v → sample f x y ≡ 1
    → (sample (component e f x y) u v ≡ 1) ↔ (label_at f labels u v ≡ label_at f labels x y)
has_its_label e f count labels x y u v is_set labelling place there one =
    let inside = leads e f x y u v is_set there in (
      (λ within.
          let way = inside.0 within in
          let from = leads_from e f u v x y way in
          let some : sample f u v ≡ 1 = one_of f u v is_set there (λ none. absurd (omega (arith, from.1))) in
          (labelling.one u v x y there place some).1 way),
      (λ same.
          let some : sample f u v ≡ 1 = one_of f u v is_set there
          (λ none. let nothing = (labelling.outside x y place).0 (sym same ∙ (labelling.outside u v there).1 none) in absurd (omega arith)) in
          inside.1 ((labelling.one u v x y there place some).0 same)),
    )

pub of_label : (e : List Offset) (f : Picture) (count : ℕ) (labels : List ℕ) (i j : ℕ) → IsSet f → IsLabelling e f count labels → i < f.height * f.width → j < f.height * f.width → get_or f.samples i 0 ≡ 1
    → (get_or (component_at e f i).samples j 0 ≡ 1) ↔ (get_or labels j 0 ≡ get_or labels i 0)
of_label e f count labels i j is_set labelling lt lt' one =
    let x = i % f.width in
    let y = i / f.width in
    let is = sample_at_number f (component_at e f i) j (component_shape e f x y).width in
    let here = at_number f.width labels i in
    let there = at_number f.width labels j in
    let both = has_its_label e f count labels x y (j % f.width) (j / f.width) is_set labelling (place_at f i lt) (place_at f j lt') (at_number f.width f.samples i ∙ one) in
    ((λ within. sym there ∙ both.0 (is ∙ within) ∙ here), (λ same. sym is ∙ both.1 (there ∙ same ∙ sym here)))

-- ---- which places have a label

pub labelled_at : (e : List Offset) (f : Picture) (count : ℕ) (labels : List ℕ) (i : ℕ) → IsLabelling e f count labels → i < f.height * f.width → get_or f.samples i 0 ≡ 1 → 1 ≤ get_or labels i 0
labelled_at e f count labels i labelling lt one = elim (cases_lt (get_or labels i 0) 1) [
  | inr some ↦ some
  | inl low ↦
      let none : get_or labels i 0 ≡ 0 = omega arith in
      let out = (labelling.outside (i % f.width) (i / f.width) (place_at f i lt)).0 (at_number f.width labels i ∙ none) in
      let is = at_number f.width f.samples i in
      absurd (omega arith)
]

in_set_at : (e : List Offset) (f : Picture) (count : ℕ) (labels : List ℕ) (i : ℕ) → IsSet f → IsLabelling e f count labels → i < f.height * f.width → 1 ≤ get_or labels i 0 → get_or f.samples i 0 ≡ 1
in_set_at e f count labels i is_set labelling lt some =
    let place = place_at f i lt in
    sym (at_number f.width f.samples i)
    ∙ one_of f (i % f.width) (i / f.width) is_set place
    (λ none. let out = (labelling.outside (i % f.width) (i / f.width) place).1 none in let is = at_number f.width labels i in absurd (omega arith))

-- the area of the component of a place with a label
pub area_is : (e : List Offset) (f : Picture) (count : ℕ) (labels : List ℕ) (n x y : ℕ) → IsSet f → IsLabelling e f count labels → HasLabel f labels n x y → sample f x y ≡ 1 → 1 ≤ n
    → area (component e f x y) ≡ count_by (λ l. l == n) labels
area_is e f count labels n x y is_set labelling has one some =
    let told = λ (k : ℕ). count_by (λ (l : ℕ). l == k + 1) labels in
    let label = has.label in
    let most = at_most_greatest labels (y * f.width + x) in
    let top = labelling.counted in
    let size = length-map-range_with_len told 0 count in
    let is = area_of_label e f count labels (map told (range_with_len 0 count)) x y is_set labelling
    (record { size = size; each = λ k lt. get_or-map-range_with_len told 0 count k k 0 (omega arith) (omega arith) }) has.place one in
    let at : label_at f labels x y - 1 ≡ n - 1 = omega arith in
    let number : n - 1 + 1 ≡ n = omega arith in
    is ∙ ap (λ (k : ℕ). get_or (map told (range_with_len 0 count)) k 0) at
    ∙ get_or-map-range_with_len told 0 count (n - 1) (n - 1) 0 (omega arith) (omega arith)
    ∙ ap (λ (t : ℕ). count_by (λ (l : ℕ). l == t) labels) number

-- ---- first places

-- the number is that of a place of the set which is the first of its component
abbrev pub is_first : List Offset → Picture → ℕ → Bool
is_first e f i = get_or f.samples i 0 == 1 && first_place (component_at e f i) == i

-- the place is in the set, and none before it has its label
pub record IsFirst (f : Picture) (labels : List ℕ) (i : ℕ) : Type 0 where
  pub within : i < f.height * f.width
  pub one : get_or f.samples i 0 ≡ 1
  pub first : (j : ℕ) → j < i → get_or labels j 0 ≡ get_or labels i 0 → ⊥

first_passes : (e : List Offset) (f : Picture) (count : ℕ) (labels : List ℕ) (i : ℕ) → IsSet f → IsLabelling e f count labels → IsFirst f labels i → is_first e f i ≡ true
first_passes e f count labels i is_set labelling is =
    let c = component_at e f i in
    let size = component_size e f (i % f.width) (i / f.width) in
    let within = is.within in
    let at : first_place c ≡ i = position_or_len_is (λ s. s == 1) c.samples i 0 (omega arith)
    (λ j lt. ne_eqb (get_or c.samples j 0) 1 (λ one. is.first j lt ((of_label e f count labels i j is_set labelling within (omega arith) is.one).0 one)))
    (λ lt. eq-eqb (get_or c.samples i 0) 1 ((of_label e f count labels i i is_set labelling within within is.one).1 refl)) in
    and_from (get_or f.samples i 0 == 1) (first_place c == i) (eq-eqb (get_or f.samples i 0) 1 is.one) (eq-eqb (first_place c) i at)

passes_first : (e : List Offset) (f : Picture) (count : ℕ) (labels : List ℕ) (i : ℕ) → IsSet f → IsLabelling e f count labels → i < f.height * f.width → is_first e f i ≡ true → IsFirst f labels i
passes_first e f count labels i is_set labelling lt passes =
    let c = component_at e f i in
    let both = and_parts (get_or f.samples i 0 == 1) (first_place c == i) passes in
    let one = eqb-true (get_or f.samples i 0) 1 both.0 in
    let at : first_place c ≡ i = eqb-true (first_place c) i both.1 in
    record {
      within = lt;
      one = one;
      first = λ j less same.
          let before : j < first_place c = omega arith in
          let fails = fails_before_first (λ s. s == 1) c.samples j 0 before in
          eqb-false (get_or c.samples j 0) 1 fails ((of_label e f count labels i j is_set labelling lt (omega arith) one).1 same);
    }

-- ---- labels that rise by one at a time

abbrev Rise : List ℕ → Type 0
Rise labels = (i : ℕ) → i < length labels → get_or labels i 0 ≤ greatest (take i labels) + 1

-- a place before number i with this label
record Used (labels : List ℕ) (i v : ℕ) : Type 0 where
  at : ℕ
  before : at < i
  is : get_or labels at 0 ≡ v

used : (labels : List ℕ) (i v : ℕ) → Rise labels → i ≤ length labels → 1 ≤ v → v ≤ greatest (take i labels) → Used labels i v
used labels zero v rises within some low = absurd (omega arith)
used labels (suc i) v rises within some low =
    let more = greatest_more labels i (omega arith) in
    let top = rises i (omega arith) in
    elim (cases_lt (greatest (take i labels)) v) [
      | inr old ↦
          let was = used labels i v rises (omega arith) some old in
          record { at = was.at; before = omega (arith, was.before); is = was.is }
      | inl new ↦ record { at = i; before = omega arith; is = omega arith }
    ]

-- the test passes where a label is new
record TellsNew (T : ℕ → Bool) (labels : List ℕ) : Type 0 where
  rises : Rise labels
  new : (i : ℕ) → i < length labels → get_or labels i 0 ≡ greatest (take i labels) + 1 → T i ≡ true
  old : (i : ℕ) → i < length labels → get_or labels i 0 ≤ greatest (take i labels) → T i ≡ false

-- the labels that are new count up from 1
new_labels : (T : ℕ → Bool) (labels : List ℕ) (n : ℕ) → TellsNew T labels → n ≤ length labels → map (λ i. get_or labels i 0) (filter T (range_with_len 0 n)) ≡ range_with_len 1 (greatest (take n labels))
new_labels T labels zero tells le = refl
new_labels T labels (suc n) tells le =
    let label = λ (i : ℕ). get_or labels i 0 in
    let before = filter T (range_with_len 0 n) in
    let one : suc n ≡ n + 1 = omega arith in
    let rest = new_labels T labels n tells (omega arith) in
    let more = greatest_more labels n (omega arith) in
    let cut : filter T (range_with_len 0 (suc n)) ≡ before ++ cond (T n) (n ∷ []) [] =
    ap (λ (t : ℕ). filter T (range_with_len 0 t)) one ∙ ap (filter T) (range_with_len-more 0 n n (omega arith)) ∙ filter-append T (range_with_len 0 n) (n ∷ []) in
    elim (cases_lt (greatest (take n labels)) (get_or labels n 0)) [
      | inr old ↦
          let fails = tells.old n (omega arith) old in
          let same : greatest (take (suc n) labels) ≡ greatest (take n labels) = omega arith in
          let kept : filter T (range_with_len 0 (suc n)) ≡ before = cut ∙ ap (λ (b : Bool). before ++ cond b (n ∷ []) []) fails ∙ append-nil before in
          ap (map label) kept ∙ rest ∙ ap (range_with_len 1) (sym same)
      | inl new ↦
          let rise = tells.rises n (omega arith) in
          let is : get_or labels n 0 ≡ greatest (take n labels) + 1 = omega arith in
          let passes = tells.new n (omega arith) is in
          let top : greatest (take (suc n) labels) ≡ greatest (take n labels) + 1 = omega arith in
          let kept : filter T (range_with_len 0 (suc n)) ≡ before ++ n ∷ [] = cut ∙ ap (λ (b : Bool). before ++ cond b (n ∷ []) []) passes in
          ap (map label) kept ∙ map_push label before n ∙ ap (λ (t : List ℕ). t ++ get_or labels n 0 ∷ []) rest
          ∙ sym (ap (range_with_len 1) top ∙ range_with_len-more 1 (greatest (take n labels)) (get_or labels n 0) (omega arith))
    ]

-- ---- the labels of the first places

tells_new : (e : List Offset) (f : Picture) (count : ℕ) (labels : List ℕ) → IsSet f → IsLabelling e f count labels → TellsNew (is_first e f) labels
tells_new e f count labels is_set labelling =
    let size = labelling.size in
    record {
      rises = labelling.rises;
      new = λ i lt is. first_passes e f count labels i is_set labelling
          (record {
            within = omega arith;
            one = in_set_at e f count labels i is_set labelling (omega arith) (omega arith);
            first = λ j less same. let below = before_greatest labels j i less in absurd (omega arith);
          });
      old = λ i lt low. false_from_ne_true (is_first e f i)
          (λ passes.
          let is = passes_first e f count labels i is_set labelling (omega arith) passes in
          let some = labelled_at e f count labels i labelling (omega arith) is.one in
          let earlier = used labels i (get_or labels i 0) labelling.rises (omega arith) some low in
          is.first earlier.at earlier.before earlier.is);
    }

first_labels : (e : List Offset) (f : Picture) (count : ℕ) (labels : List ℕ) → IsSet f → IsLabelling e f count labels → map (λ i. get_or labels i 0) (first_places e f) ≡ range_with_len 1 count
first_labels e f count labels is_set labelling =
    let n = f.height * f.width in
    let size = labelling.size in
    new_labels (is_first e f) labels n (tells_new e f count labels is_set labelling) (omega arith)
    ∙ ap (λ (t : List ℕ). range_with_len 1 (greatest t)) (take_all n labels (omega arith))
    ∙ ap (range_with_len 1) labelling.counted

pub length-first_places : (e : List Offset) (f : Picture) (count : ℕ) (labels : List ℕ) → IsSet f → IsLabelling e f count labels → length (first_places e f) ≡ count
length-first_places e f count labels is_set labelling =
    sym (length-map (first_places e f) (λ i. get_or labels i 0)) ∙ ap length (first_labels e f count labels is_set labelling) ∙ length-range_with_len 1 count

-- the k-th of them is the first place with label k + 1
pub record HasFirst (f : Picture) (labels : List ℕ) (k i : ℕ) : Type 0 where
  pub first : IsFirst f labels i
  pub label : get_or labels i 0 ≡ k + 1

pub first_at : (e : List Offset) (f : Picture) (count : ℕ) (labels : List ℕ) (k : ℕ) → IsSet f → IsLabelling e f count labels → k < count → HasFirst f labels k (get_or (first_places e f) k 0)
first_at e f count labels k is_set labelling lt =
    let firsts = first_places e f in
    let i = get_or firsts k 0 in
    let size = length-first_places e f count labels is_set labelling in
    let kept = below_kept (is_first e f) (f.height * f.width) i (Contains-get_or firsts k 0 (omega arith)) in
    let same : get_or (map (λ i. get_or labels i 0) firsts) k 0 ≡ get_or labels i 0 = get_or-map (λ (i : ℕ). get_or labels i 0) firsts k 0 0 (omega arith) in
    let all : get_or (map (λ i. get_or labels i 0) firsts) k 0 ≡ get_or (range_with_len 1 count) k 0 = ap (λ (t : List ℕ). get_or t k 0) (first_labels e f count labels is_set labelling) in
    let number = get_or-range_with_len 1 count k 0 lt in
    record { first = passes_first e f count labels i is_set labelling kept.0 kept.1; label = omega arith }
