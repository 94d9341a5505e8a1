-- Components that are large enough, and their areas.
use Rattle.std.proofs.Common.{◌≡◌, ◌≢◌, ℕ, zero, suc, ◌+◌, ◌-◌, ◌*◌, ◌<◌, ◌≤◌, List, [], ◌∷◌, length, get_or, refl, ap, sym, subst, arith, ◌∙◌, inl, inr, cond, true}
use Rattle.std.specs.Prelude.{◌↔◌, ◌&&◌, ◌==◌, nat_le, if◌then◌else◌, slice_index, sum, filter, count_by}
use Rattle.std.specs.List.{range_with_len}
use Rattle.std.proofs.lemmas.Bool.{cases_lt, cases_eq, and_from, eq-eqb, ne_eqb, le-leb, lt-leb}
use Rattle.std.proofs.lemmas.List.Sums.{sum_by-cons}
use Rattle.mw_model.specs.declared.shapes.Kind.TheVariants.{Bit}
use Rattle.mw_model.specs.declared.offsets.Offset.{Offset}
use Rattle.mw_model.specs.Pictures.{Picture, sample, redrawn, IsSet}
use Rattle.mw_model.specs.Flat.{greatest, threshold}
use Rattle.mw_model.specs.Laws.{Below, SameShape}
use Rattle.mw_model.proofs.ImagePlaces.{sample-drawn, sample-redrawn, sample_bounded, drawn_same, same_picture, shape_sym, shape_trans, length-rows, by_places}
use Rattle.mw_model.proofs.ImageLaws.{drawn_picture}
use Rattle.mw_model.proofs.Iterated.{sum_below}
use Rattle.mw_geodesic.specs.Neighbours.{IsPlace, IsSymmetric}
use Rattle.mw_geodesic.specs.Geodesics.{reconstruction}
use Rattle.mw_geodesic.specs.Paths.{point}
use Rattle.mw_geodesic.specs.Components.{component, area, large_components, area_opening}
use Rattle.mw_geodesic.specs.Labels.{label_at, IsLabelling, AreAreas}
use Rattle.mw_geodesic.proofs.Components.{one_component, in_component, leads_from}
use Rattle.mw_geodesic.proofs.Reconstructed.{rebuilt_shape, rebuilt_size, rebuilt_within, rebuilt_rises, rebuilt_within_itself}

-- the mark of a place: it is in the set, and its component has the area
abbrev pub mark : ℕ → ℕ → ℕ → ℕ
mark a s n = if s == 1 && nat_le a n then 1 else 0

pub data Marks (a s n : ℕ) : Type 0 where
  yes : s ≡ 1 → a ≤ n → mark a s n ≡ 1 → Marks a s n
  no : (s ≡ 1 → a ≤ n → ⊥) → mark a s n ≡ 0 → Marks a s n

pub marks : (a s n : ℕ) → Marks a s n
marks a s n = elim (cases_eq s 1) [
  | inr ne ↦ no (λ e le. ne e) (rw (ne_eqb s 1 ne) refl)
  | inl e ↦ elim (cases_lt n a) [
    | inr le ↦ let both : (s == 1 && nat_le a n) ≡ true = and_from (s == 1) (nat_le a n) (eq-eqb s 1 e) (le-leb a n le) in yes e le (rw both refl)
    | inl lt ↦ no (λ e' le. absurd (omega arith)) (rw (eq-eqb s 1 e, lt-leb a n lt) refl)
  ]
]

pub mark_bounded : (a s n : ℕ) → mark a s n ≤ 1
mark_bounded a s n = elim (marks a s n) [
  | yes one le is ↦ omega arith
  | no none is ↦ omega arith
]

pub mark_low : (a s n top : ℕ) → top ≡ 1 → mark a s n ≤ top
mark_low a s n top is = omega (arith, mark_bounded a s n)

pub sample-large : (e : List Offset) (a : ℕ) (f : Picture) (x y : ℕ) → x < f.width → y < f.height → sample (large_components e a f) x y ≡ mark a (sample f x y) (area (component e f x y))
sample-large e a f x y p q = sample-redrawn f (λ x y. if sample f x y == 1 && nat_le a (area (component e f x y)) then 1 else 0) x y p q

pub large_below : (e : List Offset) (a : ℕ) (f : Picture) → Below (large_components e a f) f
large_below e a f x y p q =
    let is = sample-large e a f x y p q in
    elim (marks a (sample f x y) (area (component e f x y))) [
      | yes one le is_one ↦ omega arith
      | no none is_none ↦ omega arith
    ]

pub component_shape : (e : List Offset) (f : Picture) (x y : ℕ) → SameShape (component e f x y) f
component_shape e f x y = shape_trans (rebuilt_shape e f (point f x y)) (record { kind = refl; width = refl; height = refl; maxval = refl })

points_below : (f g : Picture) (u v : ℕ) → SameShape f g → Below (point f u v) (point g u v)
points_below f g u v shape x y p q =
    let is = sample-redrawn f (λ x y. if x == u && y == v then 1 else 0) x y p q in
    let is' = sample-redrawn g (λ x y. if x == u && y == v then 1 else 0) x y (omega (arith, shape.width)) (omega (arith, shape.height)) in
    omega arith

-- A greater set has no smaller components.
area_rises : (e : List Offset) (f g : Picture) (x y : ℕ) → SameShape f g → Below f g → area (component e f x y) ≤ area (component e g x y)
area_rises e f g x y shape below =
    let f_point : SameShape f (point f x y) = record { kind = refl; width = refl; height = refl; maxval = refl } in
    let g_point : SameShape g (point g x y) = record { kind = refl; width = refl; height = refl; maxval = refl } in
    sum_below (component e f x y) (component e g x y) (shape_trans (component_shape e f x y) (shape_trans shape (shape_sym (component_shape e g x y))))
    (rebuilt_size e f (point f x y)) (rebuilt_size e g (point g x y))
    (rebuilt_rises e f g (point f x y) (point g x y) f_point (shape_trans (shape_sym f_point) (shape_trans shape g_point)) below (points_below f g x y shape))

pub large_rises : (e : List Offset) (a : ℕ) (f g : Picture) → IsSet g → SameShape f g → Below f g → Below (large_components e a f) (large_components e a g)
large_rises e a f g is_set shape below x y p q =
    let p' : x < g.width = omega (arith, shape.width) in
    let q' : y < g.height = omega (arith, shape.height) in
    let is = sample-large e a f x y p q in
    let is' = sample-large e a g x y p' q' in
    elim (marks a (sample f x y) (area (component e f x y))) [
      | no none is_none ↦ omega arith
      | yes one le is_one ↦
          let low = below x y p q in
          let top = sample_bounded g is_set.picture x y p' q' in
          let larger = area_rises e f g x y shape below in
          elim (marks a (sample g x y) (area (component e g x y))) [
            | yes one' le' is_one' ↦ omega arith
            | no none' is_none' ↦ absurd (none' (omega (arith, is_set.maxval)) (omega arith))
          ]
    ]

-- the component of a place that is large is among what is large
component_large : (e : List Offset) (a : ℕ) (f : Picture) (x y : ℕ) → IsSymmetric e → IsSet f → a ≤ area (component e f x y) → Below (component e f x y) (large_components e a f)
component_large e a f x y turns is_set large u v p q =
    let c = component e f x y in
    let shape = component_shape e f x y in
    let p' : u < f.width = omega (arith, shape.width) in
    let q' : v < f.height = omega (arith, shape.height) in
    let low = rebuilt_within e f (point f x y) u v p q in
    let top = sample_bounded f is_set.picture u v p' q' in
    let one = is_set.maxval in
    let is = sample-large e a f u v p' q' in
    elim (cases_eq (sample c u v) 1) [
      | inr ne ↦ absurd_or_low (sample c u v) (sample (large_components e a f) u v) ne (omega arith)
      | inl there ↦
          let same = one_component e f u v x y turns is_set p' q' there in
          let areas : area (component e f u v) ≡ area c = ap area same in
          elim (marks a (sample f u v) (area (component e f u v))) [
            | yes one' le' is_one' ↦ omega arith
            | no none' is_none' ↦ absurd (none' (omega arith) (omega arith))
          ]
    ]
  where
    absurd_or_low : (s t : ℕ) → s ≢ 1 → s ≤ 1 → s ≤ t
    absurd_or_low zero t ne le = omega arith
    absurd_or_low (suc zero) t ne le = absurd (ne refl)
    absurd_or_low (suc (suc s)) t ne le = absurd (omega arith)

-- Among what is large nothing is too small.
pub large_again : (e : List Offset) (a : ℕ) (f : Picture) → IsSymmetric e → IsSet f → large_components e a (large_components e a f) ≡ large_components e a f
large_again e a f turns is_set =
    let l = large_components e a f in
    drawn_same f.kind f.width f.height f.maxval (λ x y. mark a (sample l x y) (area (component e l x y))) (λ x y. mark a (sample f x y) (area (component e f x y)))
    (λ x y p q.
    let is = sample-large e a f x y p q in
    elim (marks a (sample f x y) (area (component e f x y))) [
      | no none is_none ↦ elim (marks a (sample l x y) (area (component e l x y))) [
        | no none' is_none' ↦ is_none' ∙ sym is_none
        | yes one' le' is_one' ↦ absurd (omega arith)
      ]
      | yes one le is_one ↦
          let c = component e f x y in
          let pt = point f x y in
          let c_shape = component_shape e f x y in
          let l_shape = component_shape e l x y in
          let within = component_large e a f x y turns is_set le in
          let up : Below (reconstruction e c pt) (component e l x y) = rebuilt_rises e c l pt pt (shape_trans c_shape (record { kind = refl; width = refl; height = refl; maxval = refl }))
          (record { kind = refl; width = refl; height = refl; maxval = refl }) within (λ x y p q. omega arith) in
          let whole : reconstruction e c pt ≡ c = rebuilt_within_itself e f pt in
          let larger = sum_below c (component e l x y) (shape_trans c_shape (record { kind = sym l_shape.kind; width = sym l_shape.width; height = sym l_shape.height; maxval = sym l_shape.maxval })) (rebuilt_size e f pt) (rebuilt_size e l pt)
          (subst (λ (t : Picture). Below t (component e l x y)) whole up) in
          elim (marks a (sample l x y) (area (component e l x y))) [
            | yes one' le' is_one' ↦ is_one' ∙ sym is_one
            | no none' is_none' ↦ absurd (none' (omega arith) (omega arith))
          ]
    ])

-- ---- of a set, the area opening is what is large

whole_threshold : (f : Picture) → IsSet f → threshold 1 f ≡ f
whole_threshold f is_set =
    let t = threshold 1 f in
    same_picture t f (record { kind = sym is_set.kind; width = refl; height = refl; maxval = sym is_set.maxval })
    (length-rows (λ x y. if nat_le 1 (sample f x y) then 1 else 0) f.width 0 f.height) is_set.picture.size
    (λ x y p q.
    let top = sample_bounded f is_set.picture x y p q in
    let is = sample-drawn Bit f.width f.height 1 (λ x y. if nat_le 1 (sample f x y) then 1 else 0) x y p q in
    elim (cases_lt (sample f x y) 1) [
      | inl low ↦ is ∙ rw (lt-leb 1 (sample f x y) low) (omega arith)
      | inr high ↦ is ∙ rw (le-leb 1 (sample f x y) high) (omega (arith, is_set.maxval))
    ])

one_level : (a s n t : ℕ) → t ≡ mark a s n → greatest (filter (λ (k : ℕ). t == 1) (1 ∷ [])) ≡ mark a s n
one_level a s n t is = elim (marks a s n) [
  | yes one le is_one ↦ rw (is ∙ is_one, is_one) refl
  | no none is_none ↦ rw (is ∙ is_none, is_none) refl
]

pub opening_of_set : (e : List Offset) (a : ℕ) (f : Picture) → IsSet f → area_opening e a f ≡ large_components e a f
opening_of_set e a f is_set =
    drawn_same f.kind f.width f.height f.maxval (λ x y. greatest (filter (λ k. sample (large_components e a (threshold k f)) x y == 1) (range_with_len 1 f.maxval)))
    (λ x y. mark a (sample f x y) (area (component e f x y)))
    (λ x y p q.
    let at : sample (large_components e a (threshold 1 f)) x y ≡ mark a (sample f x y) (area (component e f x y)) =
    ap (λ (t : Picture). sample (large_components e a t) x y) (whole_threshold f is_set) ∙ sample-large e a f x y p q in
    ap (λ (m : ℕ). greatest (filter (λ k. sample (large_components e a (threshold k f)) x y == 1) (range_with_len 1 m))) is_set.maxval
    ∙ one_level a (sample f x y) (area (component e f x y)) (sample (large_components e a (threshold 1 f)) x y) at)

-- ---- areas by labels

sum_of_marks : (n : ℕ) (xs labels : List ℕ) → length xs ≡ length labels → ((i : ℕ) → i < length xs → get_or xs i 0 ≡ (if get_or labels i 0 == n then 1 else 0)) → sum xs ≡ count_by (λ l. l == n) labels
sum_of_marks n [] [] size each = refl
sum_of_marks n [] (l ∷ ls) size each = absurd (omega arith)
sum_of_marks n (x ∷ xs) [] size each = absurd (omega arith)
sum_of_marks n (x ∷ xs) (l ∷ ls) size each =
    let rest = sum_of_marks n xs ls (omega arith) (λ i p. each (suc i) (omega arith)) in
    let here : x ≡ (if l == n then 1 else 0) = each zero (omega arith) in
    let first = sum_by-cons (λ s. s) x xs in
    let second = sum_by-cons (λ s. cond (s == n) 1 0) l ls in
    omega arith

at_most_greatest : (xs : List ℕ) (i : ℕ) → get_or xs i 0 ≤ greatest xs
at_most_greatest [] i = omega arith
at_most_greatest (x ∷ xs) zero = omega arith
at_most_greatest (x ∷ xs) (suc i) = omega (arith, at_most_greatest xs i)

-- the component of a place has the samples that its label tells
label_tells : (e : List Offset) (f : Picture) (count : ℕ) (labels : List ℕ) (x y u v : ℕ) → IsSet f → IsLabelling e f count labels → IsPlace f x y → IsPlace f u v → sample f x y ≡ 1
    → sample (component e f x y) u v ≡ (if label_at f labels u v == label_at f labels x y then 1 else 0)
label_tells e f count labels x y u v is_set labelling place there one =
    let c = component e f x y in
    let shape = component_shape e f x y in
    let low = rebuilt_within e f (point f x y) u v (omega (arith, shape.width, there.column)) (omega (arith, shape.height, there.row)) in
    let top = sample_bounded f is_set.picture u v there.column there.row in
    let most = is_set.maxval in
    let inside = in_component e f u v x y there.column there.row in
    elim (cases_eq (label_at f labels u v) (label_at f labels x y)) [
      | inl same ↦
          let is_one : sample f u v ≡ 1 = elim (cases_eq (sample f u v) 0) [
            | inl none ↦ absurd (not_both (sample f x y) one ((labelling.outside x y place).0 (sym same ∙ (labelling.outside u v there).1 none)))
            | inr ne ↦ one_of (sample f u v) ne (omega arith)
          ] in
          let high = inside.1 ((labelling.one u v x y there place is_one).0 same) in
          let is : sample c u v ≡ 1 = omega arith in
          rw (eq-eqb (label_at f labels u v) (label_at f labels x y) same) is
      | inr other ↦
          let is : sample c u v ≡ 0 = elim (cases_lt (sample c u v) 1) [
            | inl none ↦ omega arith
            | inr some ↦
                let way = inside.0 some in
                let from = leads_from e f u v x y way in
                absurd (other ((labelling.one u v x y there place (omega (arith, from.1))).1 way))
          ] in
          rw (ne_eqb (label_at f labels u v) (label_at f labels x y) other) is
    ]
  where
    not_both : (s : ℕ) → s ≡ 1 → s ≡ 0 → ⊥
    not_both s e z = absurd (omega arith)

    one_of : (s : ℕ) → s ≢ 0 → s ≤ 1 → s ≡ 1
    one_of zero ne le = absurd (ne refl)
    one_of (suc zero) ne le = refl
    one_of (suc (suc s)) ne le = absurd (omega arith)

-- The area of a component is that of its label.
pub area_of_label : (e : List Offset) (f : Picture) (count : ℕ) (labels areas : List ℕ) (x y : ℕ) → IsSet f → IsLabelling e f count labels → AreAreas labels count areas → IsPlace f x y → sample f x y ≡ 1
    → area (component e f x y) ≡ slice_index areas (label_at f labels x y - 1)
area_of_label e f count labels areas x y is_set labelling are place one =
    let c = component e f x y in
    let n = label_at f labels x y in
    let size = rebuilt_size e f (point f x y) in
    let shape = component_shape e f x y in
    let tall = shape.height in
    let wide = shape.width in
    let sizes : length c.samples ≡ f.height * f.width = size ∙ product c.height c.width f.height f.width tall wide in
    let counted = sum_of_marks n c.samples labels (sizes ∙ sym labelling.size)
    (λ i p. by_places (λ i. get_or c.samples i 0 ≡ (if get_or labels i 0 == n then 1 else 0)) f.width f.height
    (λ u v a b.
    let at = label_tells e f count labels x y u v is_set labelling place (record { column = a; row = b }) one in
    ap (λ (w : ℕ). get_or c.samples (v * w + u) 0) (sym wide) ∙ at) i (omega arith)) in
    let some : n ≢ 0 = λ none. absurd (omega (arith, (labelling.outside x y place).0 none)) in
    let positive : 1 ≤ n = at_least_one n some in
    let most = at_most_greatest labels (y * f.width + x) in
    let top = labelling.counted in
    let number : n - 1 + 1 ≡ n = omega arith in
    let told = are.each (n - 1) (omega (arith, are.size)) in
    counted ∙ sym (told ∙ ap (λ (t : ℕ). count_by (λ l. l == t) labels) number)
  where
    product : (a b c d : ℕ) → a ≡ c → b ≡ d → a * b ≡ c * d
    product a b c d p q = cc

    at_least_one : (n : ℕ) → n ≢ 0 → 1 ≤ n
    at_least_one zero ne = absurd (ne refl)
    at_least_one (suc n) ne = omega arith

-- Kept by the areas of their labels, the places are those of the large components.
pub large_by_labels : (e : List Offset) (a : ℕ) (f : Picture) (count : ℕ) (labels areas : List ℕ) → IsSet f → IsLabelling e f count labels → AreAreas labels count areas
    → (x y : ℕ) → x < f.width → y < f.height → mark a (sample f x y) (slice_index areas (label_at f labels x y - 1)) ≡ mark a (sample f x y) (area (component e f x y))
large_by_labels e a f count labels areas is_set labelling are x y p q =
    elim (cases_eq (sample f x y) 1) [
      | inl one ↦ ap (mark a (sample f x y)) (sym (area_of_label e f count labels areas x y is_set labelling are (record { column = p; row = q }) one))
      | inr ne ↦ rw (ne_eqb (sample f x y) 1 ne) refl
    ]

-- ---- area openings of sets

large_set : (e : List Offset) (a : ℕ) (f : Picture) → IsSet f → IsSet (large_components e a f)
large_set e a f is_set = record {
  picture = drawn_picture f.kind f.width f.height f.maxval (λ x y. mark a (sample f x y) (area (component e f x y)))
      (λ x y p q. omega (arith, is_set.maxval, mark_bounded a (sample f x y) (area (component e f x y))));
  kind = is_set.kind;
  maxval = is_set.maxval;
}

pub opened_union : (e : List Offset) (a : ℕ) (f : Picture) (x y : ℕ) → IsSet f → x < f.width → y < f.height
    → (sample (area_opening e a f) x y ≡ 1) ↔ ((sample f x y ≡ 1) × (a ≤ area (component e f x y)))
opened_union e a f x y is_set p q =
    let is : sample (area_opening e a f) x y ≡ mark a (sample f x y) (area (component e f x y)) =
    ap (λ (t : Picture). sample t x y) (opening_of_set e a f is_set) ∙ sample-large e a f x y p q in
    elim (marks a (sample f x y) (area (component e f x y))) [
      | yes one le is_one ↦ ((λ h. (one, le)), (λ h. is ∙ is_one))
      | no none is_none ↦ ((λ h. absurd (omega arith)), (λ h. absurd (none h.0 h.1)))
    ]

pub opened_below_set : (e : List Offset) (a : ℕ) (f : Picture) → IsSet f → Below (area_opening e a f) f
opened_below_set e a f is_set = subst (λ (t : Picture). Below t f) (sym (opening_of_set e a f is_set)) (large_below e a f)

pub opened_rises : (e : List Offset) (a : ℕ) (f g : Picture) → IsSet f → IsSet g → SameShape f g → Below f g → Below (area_opening e a f) (area_opening e a g)
opened_rises e a f g is_set is_set' shape below =
    subst (λ (t : Picture). Below t (area_opening e a g)) (sym (opening_of_set e a f is_set))
    (subst (λ (t : Picture). Below (large_components e a f) t) (sym (opening_of_set e a g is_set')) (large_rises e a f g is_set' shape below))

pub opened_again : (e : List Offset) (a : ℕ) (f : Picture) → IsSymmetric e → IsSet f → area_opening e a (area_opening e a f) ≡ area_opening e a f
opened_again e a f turns is_set =
    let is = opening_of_set e a f is_set in
    ap (area_opening e a) is ∙ opening_of_set e a (large_components e a f) (large_set e a f is_set) ∙ large_again e a f turns is_set ∙ sym is

pub drawn_by_labels : (e : List Offset) (a : ℕ) (f : Picture) (count : ℕ) (labels areas labels' areas' : List ℕ) → IsSet f → IsLabelling e f count labels → AreAreas labels count areas → labels' ≡ labels → areas' ≡ areas
    → redrawn f (λ x y. mark a (sample f x y) (slice_index areas' (label_at f labels' x y - 1))) ≡ area_opening e a f
drawn_by_labels e a f count labels areas labels' areas' is_set labelling are same_labels same_areas =
    rw (same_labels, same_areas)
    (drawn_same f.kind f.width f.height f.maxval (λ x y. mark a (sample f x y) (slice_index areas (label_at f labels x y - 1))) (λ x y. mark a (sample f x y) (area (component e f x y)))
    (large_by_labels e a f count labels areas is_set labelling are)
    ∙ sym (opening_of_set e a f is_set))
