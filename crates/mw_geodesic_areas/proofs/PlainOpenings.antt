-- The levels of an area opening, from the greatest down.
use Rattle.std.proofs.Common.{◌≡◌, ℕ, ◌+◌, ◌-◌, ◌*◌, ◌<◌, ◌≤◌, Bool, true, false, List, length, get_or, replicate, refl, ap, sym, subst, arith, ◌∙◌, inl, inr}
use Rattle.std.specs.Prelude.{All, ◌==◌, ◌&&◌, nat_le, if◌then◌else◌, filter}
use Rattle.std.specs.List.{range_with_len}
use Rattle.std.proofs.lemmas.Bool.{cases_eq, cases_lt, eq-eqb, le-leb, lt-leb, ne_eqb}
use Rattle.std.proofs.lemmas.List.{get_or-replicate, length-replicate}
use Rattle.std.proofs.lemmas.List.Elements.{All-from_get_or}
use Rattle.mw_model.specs.declared.offsets.Offset.{Offset}
use Rattle.mw_model.specs.declared.shapes.Kind.{Kind}
use Rattle.mw_model.specs.declared.shapes.Kind.TheVariants.{Bit}
use Rattle.mw_model.specs.Flat.{greatest, threshold}
use Rattle.mw_model.specs.Pictures.{Picture, picture, sample, IsPicture, IsSet}
use Rattle.mw_model.proofs.ImageLaws.{threshold_picture}
use Rattle.mw_model.proofs.ImagePlaces.{by_places, drawn_same, length-rows, sample-drawn, sample-redrawn, sample_bounded, same_picture}
use Rattle.mw_geodesic.specs.Components.{area, area_opening, component, large_components}
use Rattle.mw_geodesic.proofs.LargeComponents.{marks, no, opening_of_set, sample-large, yes}
use Rattle.mw_geodesic_areas.specs.Plain.{AreOpenedOver, IsGreatestOver, is_large_at}
use Rattle.mw_geodesic_areas.proofs.Areas.{in_frame}
use Rattle.mw_geodesic_areas.proofs.Opened.{greatest_is}

-- ---- the greatest number that passes

-- where the number at m does not pass, it stays
stays : (pass : ℕ → Bool) (m top v : ℕ) → 1 ≤ m → (v ≡ 0 → pass m ≡ false) → IsGreatestOver pass m top v → IsGreatestOver pass (m - 1) top v
stays pass m top v some none is = record {
  low = is.low;
  over = λ one. let more = is.over one in omega arith;
  here = is.here;
  above = λ k over higher le. elim (cases_eq k m) [
    | inr ne ↦ is.above k (omega arith) higher le
    | inl same ↦ elim (cases_eq v 0) [
      | inl zero ↦ ap pass same ∙ none zero
      | inr positive ↦ absurd (let more = is.over (omega arith) in omega arith)
    ]
  ];
}

-- where it does, and there was none, it is that
rises_to : (pass : ℕ → Bool) (m top : ℕ) → 1 ≤ m → m ≤ top → pass m ≡ true → IsGreatestOver pass m top 0 → IsGreatestOver pass (m - 1) top m
rises_to pass m top some le passes is = record {
  low = le;
  over = λ one. omega arith;
  here = λ one. passes;
  above = λ k over higher low. is.above k higher (omega arith) low;
}

given : (pass : ℕ → Bool) (m top v w : ℕ) (b : Bool) → 1 ≤ m → m ≤ top → pass m ≡ b → w ≡ (if b && v == 0 then m else v) → IsGreatestOver pass m top v → IsGreatestOver pass (m - 1) top w
given pass m top v w false some le is made old =
    subst (λ (n : ℕ). IsGreatestOver pass (m - 1) top n) (sym made) (stays pass m top v some (λ zero. is) old)
given pass m top v w true some le is made old = elim (cases_eq v 0) [
  | inl zero ↦
      let risen : w ≡ m = made ∙ rw (eq-eqb v 0 zero) refl in
      subst (λ (n : ℕ). IsGreatestOver pass (m - 1) top n) (sym risen)
      (rises_to pass m top some le is (subst (λ (n : ℕ). IsGreatestOver pass m top n) zero old))
  | inr ne ↦
      let kept : w ≡ v = made ∙ rw (ne_eqb v 0 ne) refl in
      subst (λ (n : ℕ). IsGreatestOver pass (m - 1) top n) (sym kept) (stays pass m top v some (λ zero. absurd (ne zero)) old)
]

-- ---- thresholds

pub threshold_set : (k : ℕ) (f t : Picture) → t ≡ threshold k f → IsSet t
threshold_set k f t is = subst IsSet (sym is) (record { picture = threshold_picture k f; kind = refl; maxval = refl })

-- of a level that does not occur it is that of the next one
same_threshold : (f : Picture) (k : ℕ) → IsPicture f → ((i : ℕ) → i < length f.samples → get_or f.samples i 0 ≡ k → ⊥) → threshold k f ≡ threshold (k + 1) f
same_threshold f k is_picture none =
    drawn_same Bit f.width f.height 1 (λ x y. if nat_le k (sample f x y) then 1 else 0) (λ x y. if nat_le (k + 1) (sample f x y) then 1 else 0)
    (λ x y p q.
    let other = none (y * f.width + x) (omega (arith, is_picture.size, in_frame f.width f.height x y p q)) in
    elim (cases_lt (sample f x y) k) [
      | inl low ↦ rw (lt-leb k (sample f x y) low, lt-leb (k + 1) (sample f x y) (omega arith)) refl
      | inr high ↦ elim (cases_eq (sample f x y) k) [
        | inl same ↦ absurd (other same)
        | inr ne ↦ rw (le-leb k (sample f x y) high, le-leb (k + 1) (sample f x y) (omega arith)) refl
      ]
    ])

-- over the maxval nothing is large
none_over : (e : List Offset) (least : ℕ) (f : Picture) (i : ℕ) → IsPicture f → i < f.height * f.width → is_large_at e least f i (f.maxval + 1) ≡ false
none_over e least f i is_picture lt =
    let t = threshold (f.maxval + 1) f in
    let zero : get_or (large_components e least t).samples i 0 ≡ 0 =
    by_places (λ j. get_or (large_components e least t).samples j 0 ≡ 0) f.width f.height
    (λ x y p q.
    let low = sample_bounded f is_picture x y p q in
    let here : sample t x y ≡ 0 = sample-drawn Bit f.width f.height 1 (λ x y. if nat_le (f.maxval + 1) (sample f x y) then 1 else 0) x y p q ∙ rw (lt-leb (f.maxval + 1) (sample f x y) (omega arith)) refl in
    let is = sample-large e least t x y p q in
    elim (marks least (sample t x y) (area (component e t x y))) [
      | yes one le is_one ↦ absurd (omega arith)
      | no none is_none ↦ is ∙ is_none
    ]) i lt in
    ne_eqb (get_or (large_components e least t).samples i 0) 1 (λ one. absurd (omega arith))

-- ---- one level

pub level_absent : (e : List Offset) (least : ℕ) (f : Picture) (m : ℕ) (levels : List ℕ) → IsPicture f → 1 ≤ m → m ≤ f.maxval
    → ((i : ℕ) → i < length f.samples → get_or f.samples i 0 ≡ m → ⊥) → AreOpenedOver e least f m levels → AreOpenedOver e least f (m - 1) levels
level_absent e least f m levels is_picture some le none are = record {
  size = are.size;
  each = λ i lt.
      let old = are.each i lt in
      let same : is_large_at e least f i m ≡ is_large_at e least f i (m + 1) = ap (λ (t : Picture). get_or (large_components e least t).samples i 0 == 1) (same_threshold f m is_picture none) in
      stays (is_large_at e least f i) m f.maxval (get_or levels i 0) some
      (λ zero. same ∙ elim (cases_eq m f.maxval) [
        | inl top ↦ ap (λ (k : ℕ). is_large_at e least f i (k + 1)) top ∙ none_over e least f i is_picture lt
        | inr ne ↦ old.above (m + 1) (omega arith) (omega arith) (omega arith)
      ]) old;
}

pub level_given : (e : List Offset) (least : ℕ) (f t large : Picture) (m : ℕ) (set levels levels' : List ℕ) → 1 ≤ m → m ≤ f.maxval → t ≡ threshold m f → large ≡ area_opening e least t → set ≡ large.samples → length levels' ≡ length levels
    → ((i : ℕ) → i < length levels → get_or levels' i 0 ≡ (if get_or set i 0 == 1 && get_or levels i 0 == 0 then m else get_or levels i 0))
    → AreOpenedOver e least f m levels → AreOpenedOver e least f (m - 1) levels'
level_given e least f t large m set levels levels' some le cut opened are_set size each are = record {
  size = size ∙ are.size;
  each = λ i lt.
      let is : set ≡ (large_components e least (threshold m f)).samples =
      are_set ∙ ap (λ (g : Picture). g.samples) (opened ∙ opening_of_set e least t (threshold_set m f t cut) ∙ ap (large_components e least) cut) in
      let passes : is_large_at e least f i m ≡ (get_or set i 0 == 1) = ap (λ (l : List ℕ). get_or l i 0 == 1) (sym is) in
      given (is_large_at e least f i) m f.maxval (get_or levels i 0) (get_or levels' i 0) (get_or set i 0 == 1) some le passes (each i (omega (arith, are.size, lt))) (are.each i lt);
}

-- as many places as levels
pub set_size : (e : List Offset) (least : ℕ) (f t large : Picture) (m : ℕ) (set levels : List ℕ) → t ≡ threshold m f → large ≡ area_opening e least t → set ≡ large.samples → AreOpenedOver e least f m levels → length set ≡ length levels
set_size e least f t large m set levels cut opened are_set are =
    let is : set ≡ (large_components e least (threshold m f)).samples =
    are_set ∙ ap (λ (g : Picture). g.samples) (opened ∙ opening_of_set e least t (threshold_set m f t cut) ∙ ap (large_components e least) cut) in
    ap length is
    ∙ length-rows (λ x y. if sample (threshold m f) x y == 1 && nat_le least (area (component e (threshold m f) x y)) then 1 else 0) f.width 0 f.height
    ∙ sym are.size

-- ---- from the first to the last

pub none_yet : (e : List Offset) (least : ℕ) (f : Picture) (n : ℕ) (levels : List ℕ) → n ≡ f.height * f.width → levels ≡ replicate n 0 → AreOpenedOver e least f f.maxval levels
none_yet e least f n levels size is =
    let many : length levels ≡ n = ap length is ∙ length-replicate n 0 in
    record {
      size = many ∙ size;
      each = λ i lt.
          let zero : get_or levels i 0 ≡ 0 = ap (λ (l : List ℕ). get_or l i 0) is ∙ get_or-replicate n i 0 0 (omega arith) in
          record {
            low = omega arith;
            over = λ some. absurd (omega arith);
            here = λ some. absurd (omega arith);
            above = λ k over higher low. absurd (omega arith);
          };
    }

-- an image with the sides of another
pub shown_as : (f : Picture) (k : Kind) (w h m : ℕ) (levels : List ℕ) → k ≡ f.kind → w ≡ f.width → h ≡ f.height → m ≡ f.maxval → picture k w h m levels ≡ picture f.kind f.width f.height f.maxval levels
shown_as f k w h m levels kinds wide high top = rw (kinds, wide, high, top) refl

pub levels_low : (e : List Offset) (least : ℕ) (f : Picture) (levels : List ℕ) → AreOpenedOver e least f 0 levels → All (λ s. s ≤ f.maxval) levels
levels_low e least f levels are = All-from_get_or (λ s. s ≤ f.maxval) levels 0 (λ i lt. (are.each i (omega (arith, are.size))).low)

pub levels_opened : (e : List Offset) (least : ℕ) (f : Picture) (levels : List ℕ) → AreOpenedOver e least f 0 levels → picture f.kind f.width f.height f.maxval levels ≡ area_opening e least f
levels_opened e least f levels are =
    same_picture (picture f.kind f.width f.height f.maxval levels) (area_opening e least f) (record { kind = refl; width = refl; height = refl; maxval = refl }) are.size
    (length-rows (λ x y. greatest (filter (λ k. sample (large_components e least (threshold k f)) x y == 1) (range_with_len 1 f.maxval))) f.width 0 f.height)
    (λ x y p q.
    let o = are.each (y * f.width + x) (in_frame f.width f.height x y p q) in
    let v = get_or levels (y * f.width + x) 0 in
    let is = greatest_is (λ k. sample (large_components e least (threshold k f)) x y == 1) f.maxval v o.low o.here (λ k some over le. o.above k (omega arith) over le) in
    sym (sample-redrawn f (λ x y. greatest (filter (λ k. sample (large_components e least (threshold k f)) x y == 1) (range_with_len 1 f.maxval))) x y p q ∙ is))
