-- What the tables of labels tell is what is told of components.
use Rattle.std.proofs.Common.{◌≡◌, ℕ, zero, suc, ◌+◌, ◌-◌, ◌*◌, ◌/◌, ◌%◌, ◌^◌, ◌<◌, ◌≤◌, List, [], ◌∷◌, ◌++◌, length, get_or, take, max, ap, sym, subst, arith, ◌∙◌, inl, inr}
use Rattle.std.proofs.lemmas.Bool.{cases_lt}
use Rattle.std.proofs.lemmas.List.{take_all, get_or_append_left, get_or_push}
use Rattle.std.proofs.lemmas.Nat.{mul-add-lt, div-mul-add, mod-mul-add, div_below, mod_below, div-add-mod'}
use Rattle.std.proofs.Math.Nat.{mul_comm, div-le_self}
use Rattle.mw_model.specs.declared.offsets.Offset.{Offset}
use Rattle.mw_model.specs.Pictures.{Picture}
use Rattle.mw_model.specs.Flat.{greatest}
use Rattle.mw_geodesic.specs.Labels.{IsLabelling}
use Rattle.mw_geodesic_labels.specs.declared.regions.Region.{Region}
use Rattle.mw_geodesic_labels.specs.Regions.{HasLabel, IsLeast, IsGreatest, IsColumn, IsRow, IsRegion, AreRegionsOf}
use Rattle.mw_c_geodesic.specs.declared.sides.Side.{Side}
use Rattle.mw_c_geodesic.specs.declared.sides.Side.TheVariants as side
use Rattle.mw_c_geodesic.specs.declared.told_regions.Tables.{Tables}
use Rattle.mw_c_geodesic.specs.Sides.{how_far, IsToldBefore, IsLeastTold, AreTables, IsRegionIn}

-- ---- labels

greatest_more : (xs : List ℕ) (i : ℕ) → i < length xs → greatest (take (suc i) xs) ≡ max (greatest (take i xs)) (get_or xs i 0)
greatest_more [] i lt = absurd (omega arith)
greatest_more (x ∷ xs) zero lt = omega arith
greatest_more (x ∷ xs) (suc i) lt = let rest = greatest_more xs i (omega arith) in omega arith

-- each label is at most one more than those before it
abbrev Rise : List ℕ → Type 0
Rise labels = (i : ℕ) → i < length labels → get_or labels i 0 ≤ greatest (take i labels) + 1

-- so there are no more labels than places
few_before : (labels : List ℕ) (i : ℕ) → i ≤ length labels → Rise labels → greatest (take i labels) ≤ i
few_before labels zero within rises = omega arith
few_before labels (suc i) within rises =
    let more = greatest_more labels i (omega arith) in
    let top = rises i (omega arith) in
    let rest = few_before labels i (omega arith) rises in
    omega arith

pub few_labels : (e : List Offset) (f : Picture) (count : ℕ) (labels : List ℕ) → IsLabelling e f count labels → count ≤ length labels
few_labels e f count labels are =
    let all : greatest (take (length labels) labels) ≡ count = ap greatest (take_all (length labels) labels (omega arith)) ∙ are.counted in
    let few = few_before labels (length labels) (omega arith) are.rises in
    omega arith

-- the place of a label
record IsUsed (labels : List ℕ) (i v : ℕ) : Type 0 where
  at : ℕ
  before : at < i
  is : get_or labels at 0 ≡ v

used_before : (labels : List ℕ) (i v : ℕ) → i ≤ length labels → Rise labels → 1 ≤ v → v ≤ greatest (take i labels) → IsUsed labels i v
used_before labels zero v within rises some low = absurd (omega arith)
used_before labels (suc i) v within rises some low =
    let more = greatest_more labels i (omega arith) in
    let top = rises i (omega arith) in
    elim (cases_lt (greatest (take i labels)) v) [
      | inr old ↦
          let was = used_before labels i v (omega arith) rises some old in
          let before = was.before in
          record { at = was.at; before = omega arith; is = was.is }
      | inl new ↦ record { at = i; before = omega arith; is = omega arith }
    ]

used : (e : List Offset) (f : Picture) (count : ℕ) (labels : List ℕ) (v : ℕ) → IsLabelling e f count labels → 1 ≤ v → v ≤ count → IsUsed labels (length labels) v
used e f count labels v are some low =
    let all : greatest (take (length labels) labels) ≡ count = ap greatest (take_all (length labels) labels (omega arith)) ∙ are.counted in
    used_before labels (length labels) v (omega arith) are.rises some (omega arith)

-- ---- places

-- the place with a number has its label
place_at : (f : Picture) (labels : List ℕ) (j n : ℕ) → 1 ≤ f.width → length labels ≡ f.height * f.width → j < length labels → get_or labels j 0 ≡ n → HasLabel f labels n (j % f.width) (j / f.width)
place_at f labels j n some size lt is = record {
  place = record { column = mod_below j f.width (omega arith); row = div_below j f.width f.height (omega arith) (omega arith) };
  label = ap (λ (t : ℕ). get_or labels t 0) (div-add-mod' j f.width) ∙ is;
}

number_in : (f : Picture) (labels : List ℕ) (n x y : ℕ) → length labels ≡ f.height * f.width → HasLabel f labels n x y → y * f.width + x < length labels
number_in f labels n x y size has = omega (arith, mul-add-lt y f.width x f.height has.place.row has.place.column, mul_comm f.width f.height)

-- a place with the label of which the least is told
least_met : (told : ℕ → ℕ) (labels : List ℕ) (n v : ℕ) → ((j : ℕ) → j < length labels → told j < 2 ^ 32 - 1) → IsUsed labels (length labels) n → IsLeastTold told labels (length labels) n v → IsToldBefore told labels (length labels) n v
least_met told labels n v small met least = elim least.met [
  | inl t ↦ t
  | inr top ↦
      let low = least.least met.at met.before met.is in
      let under = small met.at met.before in
      absurd (omega arith)
]

small_far : (s : Side) (w h j : ℕ) → w ≤ 8192 → h ≤ 8192 → j < 2 ^ 32 - 1 → how_far s w h j < 2 ^ 32 - 1
small_far side.First w h j narrow low few = few
small_far side.Left w h j narrow low few = omega (arith, div-add-mod' j w)
small_far side.Top w h j narrow low few = omega (arith, div-le_self j w)
small_far side.Right w h j narrow low few = omega arith
small_far side.Bottom w h j narrow low few = omega arith

-- ---- a region

-- a frame with a label for each place
record Frame (f : Picture) (labels : List ℕ) : Type 0 where
  some : 1 ≤ f.width
  narrow : f.width ≤ 8192
  low : f.height ≤ 8192
  size : length labels ≡ f.height * f.width
  few : length labels < 2 ^ 32 - 1

met_from : (s : Side) (f : Picture) (labels : List ℕ) (n v : ℕ) → Frame f labels → IsUsed labels (length labels) n → IsLeastTold (how_far s f.width f.height) labels (length labels) n v
    → IsToldBefore (how_far s f.width f.height) labels (length labels) n v
met_from s f labels n v frame met least =
    let few = frame.few in
    least_met (how_far s f.width f.height) labels n v (λ j lt. small_far s f.width f.height j frame.narrow frame.low (omega arith)) met least

left_is : (f : Picture) (labels : List ℕ) (n v : ℕ) → Frame f labels → IsUsed labels (length labels) n → IsLeastTold (how_far side.Left f.width f.height) labels (length labels) n v → IsLeast (IsColumn f labels n) v
left_is f labels n v frame met least =
    let t = met_from side.Left f labels n v frame met least in
    record {
      met = (t.at / f.width, subst (λ (x : ℕ). HasLabel f labels n x (t.at / f.width)) t.is (place_at f labels t.at n frame.some frame.size t.before t.label));
      least = λ j column.
          let has = column.1 in
          let low = least.least (column.0 * f.width + j) (number_in f labels n j column.0 frame.size has) has.label in
          omega (arith, mod-mul-add column.0 f.width j has.place.column);
    }

top_is : (f : Picture) (labels : List ℕ) (n v : ℕ) → Frame f labels → IsUsed labels (length labels) n → IsLeastTold (how_far side.Top f.width f.height) labels (length labels) n v → IsLeast (IsRow f labels n) v
top_is f labels n v frame met least =
    let t = met_from side.Top f labels n v frame met least in
    record {
      met = (t.at % f.width, subst (λ (y : ℕ). HasLabel f labels n (t.at % f.width) y) t.is (place_at f labels t.at n frame.some frame.size t.before t.label));
      least = λ j row.
          let has = row.1 in
          let low = least.least (j * f.width + row.0) (number_in f labels n row.0 j frame.size has) has.label in
          omega (arith, div-mul-add j f.width row.0 has.place.column);
    }

right_is : (f : Picture) (labels : List ℕ) (n v r : ℕ) → Frame f labels → IsUsed labels (length labels) n → r ≡ f.width - 1 - v → IsLeastTold (how_far side.Right f.width f.height) labels (length labels) n v → IsGreatest (IsColumn f labels n) r
right_is f labels n v r frame met is least =
    let t = met_from side.Right f labels n v frame met least in
    let there = place_at f labels t.at n frame.some frame.size t.before t.label in
    let inside = there.place.column in
    let told = t.is in
    let same : t.at % f.width ≡ r = omega arith in
    record {
      met = (t.at / f.width, subst (λ (x : ℕ). HasLabel f labels n x (t.at / f.width)) same there);
      greatest = λ j column.
          let has = column.1 in
          let within = has.place.column in
          let low = least.least (column.0 * f.width + j) (number_in f labels n j column.0 frame.size has) has.label in
          omega (arith, mod-mul-add column.0 f.width j within);
    }

bottom_is : (f : Picture) (labels : List ℕ) (n v r : ℕ) → Frame f labels → IsUsed labels (length labels) n → r ≡ f.height - 1 - v → IsLeastTold (how_far side.Bottom f.width f.height) labels (length labels) n v → IsGreatest (IsRow f labels n) r
bottom_is f labels n v r frame met is least =
    let t = met_from side.Bottom f labels n v frame met least in
    let there = place_at f labels t.at n frame.some frame.size t.before t.label in
    let inside = there.place.row in
    let told = t.is in
    let same : t.at / f.width ≡ r = omega arith in
    record {
      met = (t.at % f.width, subst (λ (y : ℕ). HasLabel f labels n (t.at % f.width) y) same there);
      greatest = λ j row.
          let has = row.1 in
          let within = has.place.row in
          let low = least.least (j * f.width + row.0) (number_in f labels n row.0 j frame.size has) has.label in
          omega (arith, div-mul-add j f.width row.0 has.place.column);
    }

region_is : (f : Picture) (labels : List ℕ) (count k : ℕ) (t : Tables) (r : Region) → Frame f labels → k < count → IsUsed labels (length labels) (k + 1) → AreTables labels count f.width f.height t → IsRegionIn t f.width f.height k r → IsRegion f labels (k + 1) r
region_is f labels count k t r frame lt met tables told =
    let n = k + 1 in
    let first = get_or t.first.items k 0 in
    let begin = met_from side.First f labels n first frame met (tables.first k lt) in
    let label : get_or labels first 0 ≡ n = ap (λ (i : ℕ). get_or labels i 0) (sym begin.is) ∙ begin.label in
    let inside : first < length labels = let before = begin.before in let is = begin.is in omega arith in
    let number : r.y * f.width + r.x ≡ first = rw (told.x, told.y) (div-add-mod' first f.width) in
    let areas = tables.areas in
    record {
      place = rw (told.x, told.y) (place_at f labels first n frame.some frame.size inside label);
      first = λ x y has.
          let low = (tables.first k lt).least (y * f.width + x) (number_in f labels n x y frame.size has) has.label in
          omega arith;
      area = told.area ∙ areas.each k (let size = areas.size in omega arith);
      left = subst (λ (v : ℕ). IsLeast (IsColumn f labels n) v) (sym told.left) (left_is f labels n (get_or t.left.items k 0) frame met (tables.left k lt));
      top = subst (λ (v : ℕ). IsLeast (IsRow f labels n) v) (sym told.top) (top_is f labels n (get_or t.top.items k 0) frame met (tables.top k lt));
      right = right_is f labels n (get_or t.right.items k 0) r.right frame met told.right (tables.right k lt);
      bottom = bottom_is f labels n (get_or t.bottom.items k 0) r.bottom frame met told.bottom (tables.bottom k lt);
    }

pub regions_are : (e : List Offset) (f : Picture) (labels : List ℕ) (count : ℕ) (t : Tables) (regions : List Region) → 1 ≤ f.width → f.width ≤ 8192 → f.height ≤ 8192 → length labels < 2 ^ 32 - 1 → AreTables labels count f.width f.height t
    → length regions ≡ count → ((k : ℕ) (d : Region) → k < count → IsRegionIn t f.width f.height k (get_or regions k d)) → IsLabelling e f count labels → AreRegionsOf e f regions
regions_are e f labels count t regions some narrow low few tables size each are = record {
  labels = labels;
  labelling = subst (λ (n : ℕ). IsLabelling e f n labels) (sym size) are;
  each = λ k d lt.
      region_is f labels count k t (get_or regions k d) (record { some = some; narrow = narrow; low = low; size = are.size; few = few }) (omega arith) (used e f count labels (k + 1) are (omega arith) (omega arith)) tables (each k d (omega arith));
}

-- one region more
pub region_more : (P : ℕ → Region → Type 0) (regions new : List Region) (r : Region) (k : ℕ) → length regions ≡ k → new ≡ regions ++ r ∷ [] → P k r → ((j : ℕ) (d : Region) → j < k → P j (get_or regions j d))
    → (j : ℕ) (d : Region) → j < k + 1 → P j (get_or new j d)
region_more P regions new r k size is here before j d lt = elim (cases_lt j k) [
  | inl old ↦
      subst (λ (t : List Region). P j (get_or t j d)) (sym is) (subst (λ (t : Region). P j t) (sym (get_or_append_left regions (r ∷ []) d j (omega arith))) (before j d old))
  | inr from ↦
      let same : j ≡ k = omega arith in
      let last : P j r = rw same here in
      subst (λ (t : List Region). P j (get_or t j d)) (sym is) (subst (λ (t : Region). P j t) (sym (get_or_push regions r d j (size ∙ sym same))) last)
]

-- the same by the sides of the frame
pub regions_by : (e : List Offset) (f : Picture) (labels : List ℕ) (count w h : ℕ) (t : Tables) (regions : List Region) → f.width ≡ w → f.height ≡ h → 1 ≤ w → w ≤ 8192 → h ≤ 8192 → length labels ≡ h * w → h * w < 2 ^ 32 - 1
    → AreTables labels count w h t → length regions ≡ count → ((k : ℕ) (d : Region) → k < count → IsRegionIn t w h k (get_or regions k d)) → IsLabelling e f count labels → AreRegionsOf e f regions
regions_by e f labels count w h t regions wide high some narrow low size few tables all each are =
    regions_are e f labels count t regions (omega arith) (omega arith) (omega arith) (omega arith)
    (subst (λ (n : ℕ). AreTables labels count n f.height t) (sym wide) (subst (λ (n : ℕ). AreTables labels count w n t) (sym high) tables)) all
    (λ k d lt. subst (λ (n : ℕ). IsRegionIn t n f.height k (get_or regions k d)) (sym wide) (subst (λ (n : ℕ). IsRegionIn t w n k (get_or regions k d)) (sym high) (each k d lt))) are
