-- A set has one labelling.
use Rattle.std.proofs.Common.{◌≡◌, ◌≢◌, ℕ, zero, suc, ◌+◌, ◌*◌, ◌<◌, ◌≤◌, List, length, get_or, take, refl, ap, sym, arith, ◌∙◌, inl, inr}
use Rattle.std.proofs.lemmas.Bool.{cases_lt, cases_eq}
use Rattle.std.proofs.lemmas.List.{ext_get_or}
use Rattle.std.proofs.lemmas.Nat.{mul-add-lt}
use Rattle.std.proofs.Math.Nat.{mul_comm}
use Rattle.mw_model.specs.declared.offsets.Offset.{Offset}
use Rattle.mw_model.specs.Pictures.{Picture, sample, IsSet}
use Rattle.mw_model.specs.Flat.{greatest}
use Rattle.mw_model.proofs.ImagePlaces.{sample_bounded}
use Rattle.mw_geodesic.specs.Neighbours.{IsPlace}
use Rattle.mw_geodesic.specs.Labels.{label_at, IsLabelling}
use Rattle.mw_geodesic.proofs.Markings.{greatest_more, same_front, place_of}

-- the place of a label that is at most the greatest of the first ones
record Used (labels : List ℕ) (i v : ℕ) : Type 0 where
  at : ℕ
  before : at < i
  is : get_or labels at 0 ≡ v

used_below : (labels : List ℕ) (i v : ℕ) → i ≤ length labels → ((j : ℕ) → j < i → get_or labels j 0 ≤ greatest (take j labels) + 1) → 1 ≤ v → v ≤ greatest (take i labels) → Used labels i v
used_below labels zero v within rises some low = absurd (omega arith)
used_below labels (suc i) v within rises some low =
    let more = greatest_more labels i (omega arith) in
    let top = rises i (omega arith) in
    elim (cases_lt (greatest (take i labels)) v) [
      | inr old ↦
          let was = used_below labels i v (omega arith) (λ j p. rises j (omega arith)) some old in
          record { at = was.at; before = omega (arith, was.before); is = was.is }
      | inl new ↦ record { at = i; before = omega arith; is = omega arith }
    ]

-- the label of a place follows from those before it, where one of these is the same
follows : (e : List Offset) (f : Picture) (c : ℕ) (labels : List ℕ) (c' : ℕ) (labels' : List ℕ) (x y : ℕ) → IsSet f → IsLabelling e f c labels → IsLabelling e f c' labels' → IsPlace f x y → sample f x y ≡ 1
    → ((j : ℕ) → j < y * f.width + x → get_or labels j 0 ≡ get_or labels' j 0) → Used labels (y * f.width + x) (label_at f labels x y) → label_at f labels x y ≡ label_at f labels' x y
follows e f c labels c' labels' x y is_set first second place one before used =
    place_of f (λ j. j < y * f.width + x → get_or labels j 0 ≡ label_at f labels x y → label_at f labels x y ≡ label_at f labels' x y)
    (λ u v there less same.
    let way = (first.one x y u v place there one).0 (sym same) in
    let also = (second.one x y u v place there one).1 way in
    sym same ∙ before (v * f.width + u) less ∙ sym also)
    used.at (omega (arith, used.before, in_frame f x y place)) used.before used.is
  where
    in_frame : (f : Picture) (x y : ℕ) → IsPlace f x y → y * f.width + x < f.height * f.width
    in_frame f x y place = omega (arith, mul-add-lt y f.width x f.height place.row place.column, mul_comm f.width f.height)

next_same : (e : List Offset) (f : Picture) (c : ℕ) (labels : List ℕ) (c' : ℕ) (labels' : List ℕ) (x y : ℕ) → IsSet f → IsLabelling e f c labels → IsLabelling e f c' labels' → IsPlace f x y
    → ((j : ℕ) → j < y * f.width + x → get_or labels j 0 ≡ get_or labels' j 0) → label_at f labels x y ≡ label_at f labels' x y
next_same e f c labels c' labels' x y is_set first second place before =
    let i = y * f.width + x in
    let within : i < f.height * f.width = omega (arith, mul-add-lt y f.width x f.height place.row place.column, mul_comm f.width f.height) in
    elim (cases_eq (sample f x y) 0) [
      | inl out ↦ (first.outside x y place).1 out ∙ sym ((second.outside x y place).1 out)
      | inr ne ↦
          let low = sample_bounded f is_set.picture x y place.column place.row in
          let top = is_set.maxval in
          let one : sample f x y ≡ 1 = omega arith in
          let some : label_at f labels x y ≢ 0 = λ z. ne ((first.outside x y place).0 z) in
          let some' : label_at f labels' x y ≢ 0 = λ z. ne ((second.outside x y place).0 z) in
          let front : greatest (take i labels) ≡ greatest (take i labels') = ap greatest (same_front labels labels' i (first.size ∙ sym second.size) before) in
          let rise = first.rises i (omega (arith, first.size)) in
          let rise' = second.rises i (omega (arith, second.size)) in
          elim (cases_lt (greatest (take i labels)) (label_at f labels x y)) [
            | inr old ↦ follows e f c labels c' labels' x y is_set first second place one before
                (used_below labels i (label_at f labels x y) (omega (arith, first.size)) (λ j p. first.rises j (omega (arith, first.size))) (positive _ some) old)
            | inl new ↦ elim (cases_lt (greatest (take i labels')) (label_at f labels' x y)) [
              | inr old ↦ sym (follows e f c' labels' c labels x y is_set second first place one (λ j p. sym (before j p))
                  (used_below labels' i (label_at f labels' x y) (omega (arith, second.size)) (λ j p. second.rises j (omega (arith, second.size))) (positive _ some') old))
              | inl new' ↦ omega arith
            ]
          ]
    ]
  where
    positive : (n : ℕ) → n ≢ 0 → 1 ≤ n
    positive zero ne = absurd (ne refl)
    positive (suc n) ne = omega arith

same_below : (e : List Offset) (f : Picture) (c : ℕ) (labels : List ℕ) (c' : ℕ) (labels' : List ℕ) (i : ℕ) → IsSet f → IsLabelling e f c labels → IsLabelling e f c' labels' → i ≤ f.height * f.width
    → (j : ℕ) → j < i → get_or labels j 0 ≡ get_or labels' j 0
same_below e f c labels c' labels' zero is_set first second within j lt = absurd (omega arith)
same_below e f c labels c' labels' (suc i) is_set first second within j lt =
    let rest = same_below e f c labels c' labels' i is_set first second (omega arith) in
    elim (cases_lt j i) [
      | inl less ↦ rest j less
      | inr far ↦
          let same : j ≡ i = omega arith in
          rw same (place_of f (λ k. ((j : ℕ) → j < k → get_or labels j 0 ≡ get_or labels' j 0) → get_or labels k 0 ≡ get_or labels' k 0)
          (λ x y place before. next_same e f c labels c' labels' x y is_set first second place before) i (omega arith) rest)
    ]

pub one_labelling : (e : List Offset) (f : Picture) (c : ℕ) (labels : List ℕ) (c' : ℕ) (labels' : List ℕ) → IsSet f → IsLabelling e f c labels → IsLabelling e f c' labels' → labels ≡ labels'
one_labelling e f c labels c' labels' is_set first second =
    ext_get_or 0 labels labels' (first.size ∙ sym second.size)
    (λ j p. same_below e f c labels c' labels' (f.height * f.width) is_set first second (omega arith) j (omega (arith, first.size)))
