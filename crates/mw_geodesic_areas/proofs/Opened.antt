-- What the places have at the end is the area opening.
use Rattle.std.proofs.Common.{◌≡◌, ◌≢◌, ℕ, zero, suc, ◌+◌, ◌*◌, ◌<◌, ◌≤◌, Bool, true, false, List, length, get_or, refl, ap, sym, subst, arith, ◌∙◌, inl, inr}
use Rattle.std.specs.Prelude.{◌==◌, filter}
use Rattle.std.specs.List.{range_with_len}
use Rattle.std.proofs.lemmas.Bool.{cases_Bool, cases_eq, cases_lt, eq-eqb, ne_eqb}
use Rattle.mw_model.specs.declared.offsets.Offset.{Offset}
use Rattle.mw_model.specs.declared.shapes.Kind.TheVariants as kind
use Rattle.mw_model.specs.Pictures.{Picture, picture, sample, IsPicture}
use Rattle.mw_model.specs.Flat.{greatest, threshold}
use Rattle.mw_model.proofs.ImagePlaces.{same_picture, sample-redrawn, sample_bounded, length-rows}
use Rattle.mw_geodesic.specs.Components.{component, area, large_components, area_opening}
use Rattle.mw_geodesic.proofs.LargeComponents.{yes, no, marks, sample-large}
use Rattle.mw_geodesic_areas.specs.Problems.{Problem, area_at, IsOpened}
use Rattle.mw_geodesic_areas.specs.Classes.{Stands}
use Rattle.mw_geodesic_areas.proofs.Areas.{in_frame, area_here, level_high, level_of}
use Rattle.mw_geodesic_areas.proofs.Settlings.{small_component}
use Rattle.mw_geodesic_areas.proofs.Standings.{cases_taken}

-- ---- each place has the value of its root

pub opened_by : (a : Problem) (c size out : ℕ → ℕ) → Stands a 1 0 0 c size out → (i : ℕ) → i < a.height * a.width → IsOpened a (out (c i)) i
opened_by a c size out stands i lt = elim (cases_taken a.levels 1 0 i) [
  | inl taken ↦ elim (cases_eq (out (c i)) 0) [
    | inl none ↦ record {
      low = λ some. absurd (omega arith);
      large = λ some. absurd (omega arith);
      above = λ k some over high. small_component a 1 0 0 i c size out lt taken stands none k (λ j le. record { high = omega arith; after = λ e. omega arith });
    }
    | inr ne ↦
        let value = stands.valued i lt taken (positive (out (c i)) ne) in
        record {
          low = λ some. value.low;
          large = λ some. value.large;
          above = λ k some over high. value.above k over high;
        }
  ]
  | inr not ↦
      let zero : out (c i) ≡ 0 = ap out (stands.alone i lt not) ∙ stands.blank i lt not in
      record {
        low = λ some. absurd (omega arith);
        large = λ some. absurd (omega arith);
        above = λ k some over high. absurd (not (record { high = omega arith; after = λ e. omega arith }));
      }
]
  where
    positive : (n : ℕ) → n ≢ 0 → 1 ≤ n
    positive n ne = elim (cases_lt n 1) [ inl z ↦ absurd (ne (omega arith)) | inr le ↦ le ]

-- ---- the greatest level that passes

greatest_none : (pass : ℕ → Bool) (b n : ℕ) → ((k : ℕ) → b ≤ k → k < b + n → pass k ≡ false) → greatest (filter pass (range_with_len b n)) ≡ 0
greatest_none pass b zero each = refl
greatest_none pass b (suc n) each =
    rw (each b (omega arith) (omega arith)) (greatest_none pass (b + 1) n (λ k low lt. each k (omega arith) (omega arith)))

greatest_from : (pass : ℕ → Bool) (b n v : ℕ) → b ≤ v → v < b + n → pass v ≡ true → ((k : ℕ) → v < k → k < b + n → pass k ≡ false) → greatest (filter pass (range_with_len b n)) ≡ v
greatest_from pass b zero v low lt is each = absurd (omega arith)
greatest_from pass b (suc n) v low lt is each = elim (cases_eq b v) [
  | inl e ↦
      let here : pass b ≡ true = ap pass e ∙ is in
      let rest = greatest_none pass (b + 1) n (λ k le top. each k (omega arith) (omega arith)) in
      rw here (omega arith)
  | inr ne ↦
      let rest = greatest_from pass (b + 1) n v (omega arith) (omega arith) is (λ k over top. each k over (omega arith)) in
      elim (cases_Bool (pass b)) [
        | inl e ↦ rw e (omega arith)
        | inr e ↦ rw e rest
      ]
]

pub greatest_is : (pass : ℕ → Bool) (top v : ℕ) → v ≤ top → (1 ≤ v → pass v ≡ true) → ((k : ℕ) → 1 ≤ k → v < k → k ≤ top → pass k ≡ false) → greatest (filter pass (range_with_len 1 top)) ≡ v
greatest_is pass top v le here above = elim (cases_lt v 1) [
  | inl none ↦ greatest_none pass 1 top (λ k low lt. above k low (omega arith) (omega arith)) ∙ (omega arith)
  | inr some ↦ greatest_from pass 1 top v some (omega arith) (here some) (λ k over lt. above k (omega arith) over (omega arith))
]

-- ---- over lists of levels

abbrev pub shown : ℕ → ℕ → ℕ → List ℕ → Picture
shown maxval w h ns = picture kind.Grey w h maxval ns

abbrev pub asked : List Offset → ℕ → ℕ → List ℕ → ℕ → Problem
asked e w h ns least = record { around = e; width = w; height = h; levels = λ i. get_or ns i 0; least = least }

-- a level passes where the place has it and its component is large there
passes : (e : List Offset) (maxval w h least : ℕ) (ns : List ℕ) (k x y : ℕ) → x < w → y < h → k ≤ get_or ns (y * w + x) 0 → least ≤ area_at (asked e w h ns least) k (y * w + x)
    → (sample (large_components e least (threshold k (shown maxval w h ns))) x y == 1) ≡ true
passes e maxval w h least ns k x y p q high large =
    let a = asked e w h ns least in
    let t = threshold k (shown maxval w h ns) in
    let is = sample-large e least t x y p q in
    let one : sample t x y ≡ 1 = level_high a k x y p q high in
    let many : least ≤ area (component e t x y) = subst (λ (n : ℕ). least ≤ n) (area_here a k x y p) large in
    elim (marks least (sample t x y) (area (component e t x y))) [
      | yes s le is_one ↦ eq-eqb (sample (large_components e least t) x y) 1 (is ∙ is_one)
      | no none is_none ↦ absurd (none one many)
    ]

fails : (e : List Offset) (maxval w h least : ℕ) (ns : List ℕ) (k x y : ℕ) → x < w → y < h → (k ≤ get_or ns (y * w + x) 0 → area_at (asked e w h ns least) k (y * w + x) < least)
    → (sample (large_components e least (threshold k (shown maxval w h ns))) x y == 1) ≡ false
fails e maxval w h least ns k x y p q small =
    let a = asked e w h ns least in
    let t = threshold k (shown maxval w h ns) in
    let is = sample-large e least t x y p q in
    elim (marks least (sample t x y) (area (component e t x y))) [
      | no none is_none ↦ ne_eqb (sample (large_components e least t) x y) 1 (λ d. zero_one (sample (large_components e least t) x y) (is ∙ is_none) d)
      | yes one le is_one ↦
          let high = level_of a k x y p q (omega arith) in
          let few = small high in
          absurd (let same : area_at a k (y * w + x) ≡ area (component e t x y) = area_here a k x y p in omega arith)
    ]
  where
    zero_one : (n : ℕ) → n ≡ 0 → n ≡ 1 → ⊥
    zero_one n e d = absurd (omega arith)

pub opened_lists : (e : List Offset) (maxval w h least : ℕ) (ns vs : List ℕ) → IsPicture (shown maxval w h ns) → length vs ≡ h * w → ((i : ℕ) → i < h * w → IsOpened (asked e w h ns least) (get_or vs i 0) i)
    → shown maxval w h vs ≡ area_opening e least (shown maxval w h ns)
opened_lists e maxval w h least ns vs is_picture size opened =
    let f = shown maxval w h ns in
    same_picture (shown maxval w h vs) (area_opening e least f) (record { kind = refl; width = refl; height = refl; maxval = refl }) size
    (length-rows (λ x y. greatest (filter (λ k. sample (large_components e least (threshold k f)) x y == 1) (range_with_len 1 maxval))) w 0 h)
    (λ x y p q.
    let o = opened (y * w + x) (in_frame w h x y p q) in
    let v = get_or vs (y * w + x) 0 in
    let top : get_or ns (y * w + x) 0 ≤ maxval = sample_bounded f is_picture x y p q in
    let low : v ≤ maxval = bound v (get_or ns (y * w + x) 0) maxval o.low top in
    let is = greatest_is (λ k. sample (large_components e least (threshold k f)) x y == 1) maxval v low
    (λ some. passes e maxval w h least ns v x y p q (o.low some) (o.large some))
    (λ k some over le. fails e maxval w h least ns k x y p q (λ high. o.above k some over high)) in
    sym (sample-redrawn f (λ x y. greatest (filter (λ k. sample (large_components e least (threshold k f)) x y == 1) (range_with_len 1 maxval))) x y p q ∙ is))
  where
    bound : (v n maxval : ℕ) → (1 ≤ v → v ≤ n) → n ≤ maxval → v ≤ maxval
    bound v n maxval low top = elim (cases_lt v 1) [
      | inl none ↦ omega arith
      | inr some ↦ let le = low some in omega arith
    ]
