-- Paths over places of a level or more, and the areas of components by their places.
use Rattle.std.proofs.Common.{◌≡◌, ℕ, ◌+◌, ◌*◌, ◌/◌, ◌%◌, ◌<◌, ◌≤◌, Bool, true, List, length, get_or, refl, ap, sym, subst, arith, ◌∙◌, inl, inr}
use Rattle.std.specs.Prelude.{nat_le, if◌then◌else◌, sum}
use Rattle.std.proofs.lemmas.Bool.{cases_lt, cases_Bool, le-leb, lt-leb}
use Rattle.std.proofs.lemmas.Nat.{div_below, mod_below, div-add-mod', mod-mul-add, div-mul-add, mul-add-lt}
use Rattle.std.proofs.Math.Nat.{mul_comm}
use Rattle.mw_model.specs.declared.offsets.Offset.{Offset}
use Rattle.mw_model.specs.declared.shapes.Kind.TheVariants.{Bit}
use Rattle.mw_model.specs.Pictures.{Picture, sample, IsSet}
use Rattle.mw_model.specs.Laws.{Below, SameShape}
use Rattle.mw_model.proofs.ImagePlaces.{sample-drawn, sample_bounded, by_places, shape_sym, shape_trans}
use Rattle.mw_model.proofs.ImageLaws.{drawn_picture}
use Rattle.mw_model.proofs.Iterated.{sum_below}
use Rattle.mw_geodesic.specs.Neighbours.{IsPlace, ElementCovers, IsSymmetric}
use Rattle.mw_geodesic.specs.Paths.{ends, goes, point, AreConnected}
use Rattle.mw_geodesic.specs.Components.{component, component_at, area}
use Rattle.mw_geodesic.proofs.Components.{point_is, leads_itself, leads_from, leads_on, leads_back, in_component}
use Rattle.mw_geodesic.proofs.Reconstructed.{rebuilt_shape, rebuilt_size, rebuilt_within}
use Rattle.mw_geodesic_areas.specs.Problems.{Problem, at_level, area_at, AreJoined, tally_below}
use Rattle.mw_geodesic_areas.proofs.Tallies.{tally_low, tally_high}

-- ---- places by their numbers

pub some_columns : (w h i : ℕ) → i < h * w → 0 < w
some_columns w h i lt = grind arith

pub column_in : (w h i : ℕ) → i < h * w → i % w < w
column_in w h i lt = mod_below i w (some_columns w h i lt)

pub row_in : (w h i : ℕ) → i < h * w → i / w < h
row_in w h i lt = div_below i w h (some_columns w h i lt) lt

pub in_frame : (w h x y : ℕ) → x < w → y < h → y * w + x < h * w
in_frame w h x y p q = omega (arith, mul-add-lt y w x h q p, mul_comm w h)

-- ---- the places of a level or more

mark_low : (b : Bool) → (if b then 1 else 0) ≤ 1
mark_low b = elim (cases_Bool b) [ inl e ↦ rw e (omega arith) | inr e ↦ rw e (omega arith) ]

pub level_set : (a : Problem) (k : ℕ) → IsSet (at_level a k)
level_set a k = record {
  picture = drawn_picture Bit a.width a.height 1 (λ x y. if nat_le k (a.levels (y * a.width + x)) then 1 else 0) (λ x y p q. mark_low (nat_le k (a.levels (y * a.width + x))));
  kind = refl;
  maxval = refl;
}

pub level_high : (a : Problem) (k x y : ℕ) → x < a.width → y < a.height → k ≤ a.levels (y * a.width + x) → sample (at_level a k) x y ≡ 1
level_high a k x y p q le =
    sample-drawn Bit a.width a.height 1 (λ x y. if nat_le k (a.levels (y * a.width + x)) then 1 else 0) x y p q ∙ rw (le-leb k (a.levels (y * a.width + x)) le) refl

pub level_of : (a : Problem) (k x y : ℕ) → x < a.width → y < a.height → 1 ≤ sample (at_level a k) x y → k ≤ a.levels (y * a.width + x)
level_of a k x y p q high =
    let is = sample-drawn Bit a.width a.height 1 (λ x y. if nat_le k (a.levels (y * a.width + x)) then 1 else 0) x y p q in
    elim (cases_lt (a.levels (y * a.width + x)) k) [
      | inr le ↦ le
      | inl lt ↦
          let none : sample (at_level a k) x y ≡ 0 = is ∙ rw (lt-leb k (a.levels (y * a.width + x)) lt) refl in
          absurd (omega arith)
    ]

levels_fall : (a : Problem) (k v : ℕ) → k ≤ v → Below (at_level a v) (at_level a k)
levels_fall a k v le x y p q = elim (cases_lt (sample (at_level a v) x y) 1) [
  | inl none ↦ omega arith
  | inr some ↦
      let high = level_of a v x y p q some in
      let top = sample_bounded (at_level a v) (level_set a v).picture x y p q in
      omega (arith, level_high a k x y p q (omega arith))
]

-- ---- paths

-- a path stays one in a greater set
way_rises : (e : List Offset) (f g : Picture) (u v x y : ℕ) → SameShape f g → Below f g → IsPlace g u v → AreConnected e f x y u v → AreConnected e g x y u v
way_rises e f g u v x y shape below place (ends x' y' here high top) =
    let is = point_is f u v x' y' here.column here.row top in
    let low = below x' y' here.column here.row in
    let at : AreConnected e g x' y' x' y' = leads_itself e g x' y' (record { column = omega (arith, shape.width, here.column); row = omega (arith, shape.height, here.row) }) (omega arith) in
    subst (λ (t : ℕ). AreConnected e g x' y' u t) is.1 (subst (λ (t : ℕ). AreConnected e g x' y' t y') is.0 at)
way_rises e f g u v x y shape below place (goes x' y' s t here high covers rest) =
    let low = below x' y' here.column here.row in
    goes x' y' s t (record { column = omega (arith, shape.width, here.column); row = omega (arith, shape.height, here.row) }) (omega arith) covers
    (way_rises e f g u v s t shape below place rest)

same_levels : (a : Problem) (k v : ℕ) → SameShape (at_level a v) (at_level a k)
same_levels a k v = record { kind = refl; width = refl; height = refl; maxval = refl }

pub joined_itself : (a : Problem) (k i : ℕ) → i < a.height * a.width → k ≤ a.levels i → AreJoined a k i i
joined_itself a k i lt high =
    let column = column_in a.width a.height i lt in
    let row = row_in a.width a.height i lt in
    record {
      way = leads_itself a.around (at_level a k) (i % a.width) (i / a.width) (record { column = column; row = row })
          (omega (arith, level_high a k (i % a.width) (i / a.width) column row (rw (div-add-mod' i a.width) high)));
    }

pub joined_on : (a : Problem) (k i j l : ℕ) → AreJoined a k i j → AreJoined a k j l → AreJoined a k i l
joined_on a k i j l first second = record {
  way = leads_on a.around (at_level a k) (j % a.width) (j / a.width) (l % a.width) (l / a.width) (i % a.width) (i / a.width) first.way second.way;
}

pub joined_back : (a : Problem) (k i j : ℕ) → IsSymmetric a.around → AreJoined a k i j → AreJoined a k j i
joined_back a k i j turns joined =
    let from = leads_from a.around (at_level a k) (i % a.width) (i / a.width) (j % a.width) (j / a.width) joined.way in
    record {
      way = leads_back a.around (at_level a k) (j % a.width) (j / a.width) (i % a.width) (i / a.width) (i % a.width) (i / a.width) turns joined.way
          (leads_itself a.around (at_level a k) (i % a.width) (i / a.width) from.0 from.1);
    }

pub joined_down : (a : Problem) (k v i j : ℕ) → k ≤ v → j < a.height * a.width → AreJoined a v i j → AreJoined a k i j
joined_down a k v i j le lt joined = record {
  way = way_rises a.around (at_level a v) (at_level a k) (j % a.width) (j / a.width) (i % a.width) (i / a.width) (same_levels a k v) (levels_fall a k v le)
      (record { column = column_in a.width a.height j lt; row = row_in a.width a.height j lt }) joined.way;
}

pub joined_step : (a : Problem) (k x y u v : ℕ) → x < a.width → y < a.height → u < a.width → v < a.height → ElementCovers a.around x y u v → k ≤ a.levels (y * a.width + x) → k ≤ a.levels (v * a.width + u)
    → AreJoined a k (y * a.width + x) (v * a.width + u)
joined_step a k x y u v p q r s covers high high' =
    let way : AreConnected a.around (at_level a k) x y u v = goes x y u v (record { column = p; row = q }) (omega (arith, level_high a k x y p q high)) covers
    (leads_itself a.around (at_level a k) u v (record { column = r; row = s }) (omega (arith, level_high a k u v r s high'))) in
    record { way = rw (mod-mul-add y a.width x p, div-mul-add y a.width x p, mod-mul-add v a.width u r, div-mul-add v a.width u r) way }

-- ---- areas

component_shape : (a : Problem) (k i : ℕ) → SameShape (component_at a.around (at_level a k) i) (at_level a k)
component_shape a k i =
    shape_trans (rebuilt_shape a.around (at_level a k) (point (at_level a k) (i % a.width) (i / a.width))) (record { kind = refl; width = refl; height = refl; maxval = refl })

product : (a b c d : ℕ) → a ≡ c → b ≡ d → a * b ≡ c * d
product a b c d p q = cc

component_size : (a : Problem) (k i : ℕ) → length (component_at a.around (at_level a k) i).samples ≡ a.height * a.width
component_size a k i =
    let c = component_at a.around (at_level a k) i in
    let shape = component_shape a k i in
    rebuilt_size a.around (at_level a k) (point (at_level a k) (i % a.width) (i / a.width)) ∙ product c.height c.width a.height a.width shape.height shape.width

-- the sample of the component at a place by its number
numbered : (a : Problem) (k i x y : ℕ) → get_or (component_at a.around (at_level a k) i).samples (y * a.width + x) 0 ≡ sample (component_at a.around (at_level a k) i) x y
numbered a k i x y = ap (λ (w : ℕ). get_or (component_at a.around (at_level a k) i).samples (y * w + x) 0) (sym (component_shape a k i).width)

component_low : (a : Problem) (k i x y : ℕ) → x < a.width → y < a.height → sample (component_at a.around (at_level a k) i) x y ≤ 1
component_low a k i x y p q =
    let shape = component_shape a k i in
    let wide = shape.width in
    let high = shape.height in
    let low = rebuilt_within a.around (at_level a k) (point (at_level a k) (i % a.width) (i / a.width)) x y (omega arith) (omega arith) in
    let top = sample_bounded (at_level a k) (level_set a k).picture x y p q in
    omega arith

area_is : (a : Problem) (k i : ℕ) → area_at a k i ≡ sum (component_at a.around (at_level a k) i).samples
unfolding area_at
area_is a k i = refl

-- an area has room for what joins the place
pub area_low : (a : Problem) (k i : ℕ) (s : ℕ → Bool) → i < a.height * a.width → ((j : ℕ) → j < a.height * a.width → s j ≡ true → AreJoined a k j i) → tally_below s (a.height * a.width) ≤ area_at a k i
area_low a k i s lt each =
    let xs = (component_at a.around (at_level a k) i).samples in
    let size = component_size a k i in
    let low = tally_low s xs (λ j within is.
    by_places (λ j. s j ≡ true → 1 ≤ get_or xs j 0) a.width a.height
    (λ x y p q here.
    let joined = each (y * a.width + x) (in_frame a.width a.height x y p q) here in
    let way : AreConnected a.around (at_level a k) x y (i % a.width) (i / a.width) = rw (mod-mul-add y a.width x p, div-mul-add y a.width x p) at joined.way in
    let inside = (in_component a.around (at_level a k) x y (i % a.width) (i / a.width) p q).1 way in
    omega (arith, numbered a k i x y)) j (omega arith) is) in
    rw (area_is a k i) (subst (λ (n : ℕ). tally_below s n ≤ sum xs) size low)

-- what passes and is closed under steps
pub record IsClosed (a : Problem) (k : ℕ) (s : ℕ → Bool) : Type 0 where
  pub closed : (x y u v : ℕ) → x < a.width → y < a.height → u < a.width → v < a.height → ElementCovers a.around x y u v → k ≤ a.levels (y * a.width + x) → k ≤ a.levels (v * a.width + u)
      → s (v * a.width + u) ≡ true → s (y * a.width + x) ≡ true

closed_way : (a : Problem) (k : ℕ) (s : ℕ → Bool) (u v x y : ℕ) → IsClosed a k s → s (v * a.width + u) ≡ true → AreConnected a.around (at_level a k) x y u v → s (y * a.width + x) ≡ true
closed_way a k s u v x y closed here (ends x' y' place high top) =
    let is = point_is (at_level a k) u v x' y' place.column place.row top in
    rw (is.0, is.1) here
closed_way a k s u v x y closed here (goes x' y' b c place high covers rest) =
    let from = leads_from a.around (at_level a k) b c u v rest in
    closed.closed x' y' b c place.column place.row from.0.column from.0.row covers (level_of a k x' y' place.column place.row high) (level_of a k b c from.0.column from.0.row from.1)
    (closed_way a k s u v b c closed here rest)

pub area_high : (a : Problem) (k i : ℕ) (s : ℕ → Bool) → i < a.height * a.width → s i ≡ true → IsClosed a k s → area_at a k i ≤ tally_below s (a.height * a.width)
area_high a k i s lt here closed =
    let xs = (component_at a.around (at_level a k) i).samples in
    let size = component_size a k i in
    let own : s (i / a.width * a.width + i % a.width) ≡ true = rw (div-add-mod' i a.width) here in
    let high = tally_high s xs
    (λ j within. by_places (λ j. get_or xs j 0 ≤ 1) a.width a.height (λ x y p q. omega (arith, numbered a k i x y, component_low a k i x y p q)) j (omega arith))
    (λ j within is.
    by_places (λ j. 1 ≤ get_or xs j 0 → s j ≡ true) a.width a.height
    (λ x y p q some.
    let way = (in_component a.around (at_level a k) x y (i % a.width) (i / a.width) p q).0 (omega (arith, numbered a k i x y)) in
    closed_way a k s (i % a.width) (i / a.width) x y closed own way) j (omega arith) is) in
    rw (area_is a k i) (subst (λ (n : ℕ). sum xs ≤ tally_below s n) size high)

-- a place that joins another has no smaller area at a lower level
pub area_rises : (a : Problem) (k v i j : ℕ) → k ≤ v → i < a.height * a.width → j < a.height * a.width → AreJoined a k j i → area_at a v j ≤ area_at a k i
area_rises a k v i j le lt lt' joined =
    let c = component_at a.around (at_level a v) j in
    let d = component_at a.around (at_level a k) i in
    let shape = component_shape a v j in
    let shape' = component_shape a k i in
    let wide = shape.width in
    let high = shape.height in
    let below : Below c d = λ x y p q.
    let p' : x < a.width = omega arith in
    let q' : y < a.height = omega arith in
    let top = component_low a v j x y p' q' in
    elim (cases_lt (sample c x y) 1) [
      | inl none ↦ omega arith
      | inr some ↦
          let way = (in_component a.around (at_level a v) x y (j % a.width) (j / a.width) p' q').0 some in
          let down = way_rises a.around (at_level a v) (at_level a k) (j % a.width) (j / a.width) x y (same_levels a k v) (levels_fall a k v le)
          (record { column = column_in a.width a.height j lt'; row = row_in a.width a.height j lt' }) way in
          let on = leads_on a.around (at_level a k) (j % a.width) (j / a.width) (i % a.width) (i / a.width) x y down joined.way in
          let inside = (in_component a.around (at_level a k) x y (i % a.width) (i / a.width) p' q').1 on in
          omega arith
    ] in
    let sums = sum_below c d (shape_trans shape (shape_trans (same_levels a k v) (shape_sym shape')))
    (rebuilt_size a.around (at_level a v) (point (at_level a v) (j % a.width) (j / a.width))) (rebuilt_size a.around (at_level a k) (point (at_level a k) (i % a.width) (i / a.width))) below in
    rw (area_is a v j, area_is a k i) sums

-- the area at a place by its column and row
pub area_here : (a : Problem) (k x y : ℕ) → x < a.width → area_at a k (y * a.width + x) ≡ area (component a.around (at_level a k) x y)
unfolding area_at
area_here a k x y p =
    ap (λ (u : ℕ). area (component a.around (at_level a k) u ((y * a.width + x) / a.width))) (mod-mul-add y a.width x p)
    ∙ ap (λ (v : ℕ). area (component a.around (at_level a k) x v)) (div-mul-add y a.width x p)

-- a place has one column and one row
pub same_place : (w x y u v : ℕ) → x < w → u < w → y * w + x ≡ v * w + u → (x ≡ u) × (y ≡ v)
same_place w x y u v p q e = (
  sym (mod-mul-add y w x p) ∙ ap (λ (n : ℕ). n % w) e ∙ mod-mul-add v w u q,
  sym (div-mul-add y w x p) ∙ ap (λ (n : ℕ). n / w) e ∙ div-mul-add v w u q,
)
