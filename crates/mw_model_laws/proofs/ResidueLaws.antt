-- The residues of a skeleton, and the places that are restored.
use Rattle.std.proofs.Common.{◌≡◌, ◌≢◌, ℕ, zero, suc, ◌+◌, ◌-◌, ◌<◌, ◌≤◌, true, List, max, refl, ap, sym, subst, arith, ◌∙◌, inl, inr}
use Rattle.std.specs.Prelude.{◌↔◌}
use Rattle.std.proofs.lemmas.Bool.{cases_eq, cases_order}
use Rattle.std.proofs.Math.Nat.{zero-add, suc-add}
use Rattle.mw_model.specs.declared.offsets.Offset.{Offset}
use Rattle.mw_model.specs.Pictures.{Picture, sample, IsSet}
use Rattle.mw_model.specs.Flat.{erosion, dilation, reflected, opening}
use Rattle.mw_model.specs.Iterates.{times, is_residue, skeleton, level_set, restoration}
use Rattle.mw_model.specs.Laws.{HoldsOrigin}
use Rattle.mw_model.proofs.ImagePlaces.{sample_bounded}
use Rattle.mw_model.proofs.ImageOrder.{bounded_erosion, bounded_dilation}
use Rattle.mw_model.proofs.Iterated.{eroded_shape}
use Rattle.mw_model.proofs.SkeletonLaws.{erosion_in_opening, eroded_falls, residue_parts, no_residue, mark_sound, mark_complete, skeleton_last, skeleton_other, sample-union, part_below, restoration_shape, restoration_picture}

pub times-sum : (operator : Picture → Picture) (m n : ℕ) (f : Picture) → times (m + n) operator f ≡ times m operator (times n operator f)
times-sum operator zero n f = ap (λ (k : ℕ). times k operator f) (zero-add n)
times-sum operator (suc m) n f = ap (λ (k : ℕ). times k operator f) (suc-add m n) ∙ ap operator (times-sum operator m n f)

-- For a set and an element with its origin, at a place of the frame.
module _ (b : List Offset) (depth : ℕ) (f : Picture) (x y : ℕ) (holds : HoldsOrigin b) (set : IsSet f) (p : x < f.width) (q : y < f.height) where
  abbrev eroded : ℕ → Picture
  eroded n = times n (erosion b) f

  -- a place of a residue is in no later erosion
  residue_gone : (n m : ℕ) → n < m → is_residue b (eroded n) x y ≡ true → sample (eroded m) x y ≡ 0
  residue_gone n m after held =
      let away = (residue_parts b (eroded n) x y held).1 in
      let shape = eroded_shape b n f in
      let in_width : x < (eroded n).width = omega (arith, shape.width) in
      let in_height : y < (eroded n).height = omega (arith, shape.height) in
      let opening_small : sample (opening b (eroded n)) x y ≤ 1 =
      omega (arith, bounded_dilation (reflected b) (erosion b (eroded n)) (bounded_erosion b (eroded n)) x y in_width in_height, shape.maxval, set.maxval) in
      let later_shape = eroded_shape b (m - suc n + suc n) f in
      let same : m - suc n + suc n ≡ m = omega arith in
      let falls = eroded_falls b f holds (suc n) (m - suc n) x y (omega (arith, later_shape.width)) (omega (arith, later_shape.height)) in
      let inside = erosion_in_opening b (eroded n) holds x y in_width in_height in
      let is : sample (eroded (m - suc n + suc n)) x y ≡ sample (eroded m) x y = ap (λ (t : ℕ). sample (eroded t) x y) same in
      none _ _ _ _ is falls inside opening_small away
    where
      none : (a c d o : ℕ) → c ≡ a → c ≤ d → d ≤ o → o ≤ 1 → o ≢ 1 → a ≡ 0
      none a c d o is p q small away = omega arith

  pub residue_not_last : (n : ℕ) → n < depth → is_residue b (eroded n) x y ≡ true → sample (eroded depth) x y ≡ 0
  residue_not_last n below held = residue_gone n depth below held

  not_both : (n m : ℕ) → n < m → is_residue b (eroded n) x y ≡ true → is_residue b (eroded m) x y ≡ true → ⊥
  not_both n m after held too =
      let gone = residue_gone n m after held in
      let here = (residue_parts b (eroded m) x y too).0 in
      clash _ gone here
    where
      clash : (a : ℕ) → a ≡ 0 → a ≡ 1 → ⊥
      clash a e d = omega arith

  pub residues_disjoint : (n m : ℕ) → is_residue b (eroded n) x y ≡ true → is_residue b (eroded m) x y ≡ true → n ≡ m
  residues_disjoint n m held too =
      elim (cases_order n m) [
        | inl same ↦ same
        | inr (inl less) ↦ absurd (not_both n m less held too)
        | inr (inr more) ↦ absurd (not_both m n more too held)
      ]

  pub residue_marked : (n : ℕ) → n < depth → (sample (skeleton b depth f) x y ≡ n + 1) ↔ (is_residue b (eroded n) x y ≡ true)
  residue_marked n below = (there, back)
    where
      there : sample (skeleton b depth f) x y ≡ n + 1 → is_residue b (eroded n) x y ≡ true
      there e = elim (cases_eq (sample (eroded depth) x y) 1) [
        | inl last ↦ let mark = skeleton_last b depth f x y p q last in absurd (omega arith)
        | inr other ↦ mark_sound b f depth n x y (sym (skeleton_other b depth f x y p q other) ∙ e)
      ]

      later : (m : ℕ) → is_residue b (eroded n) x y ≡ true → n < m → sample (eroded m) x y ≢ 1
      later m held after one = let gone = residue_gone n m after held in omega arith

      back : is_residue b (eroded n) x y ≡ true → sample (skeleton b depth f) x y ≡ n + 1
      back held =
          skeleton_other b depth f x y p q (later depth held below)
          ∙ mark_complete b f depth n x y below held (λ m after. no_residue b (eroded m) x y (later m held after))

  pub last_marked : (sample (skeleton b depth f) x y ≡ depth + 1) ↔ (sample (eroded depth) x y ≡ 1)
  last_marked = (there, λ last. skeleton_last b depth f x y p q last)
    where
      there : sample (skeleton b depth f) x y ≡ depth + 1 → sample (eroded depth) x y ≡ 1
      there e = elim (cases_eq (sample (eroded depth) x y) 1) [
        | inl last ↦ last
        | inr other ↦ let held = mark_sound b f depth depth x y (sym (skeleton_other b depth f x y p q other) ∙ e) in (residue_parts b (eroded depth) x y held).0
      ]

-- the place is in the n-fold dilation of the places that are marked n + 1, for some n up to the depth
abbrev pub IsRestored : List Offset → ℕ → Picture → ℕ → ℕ → Type 0
IsRestored b depth g x y = (n : ℕ) × (n ≤ depth) × (sample (times n (dilation (reflected b)) (level_set (n + 1) g)) x y ≡ 1)

restored_small : (b : List Offset) (depth : ℕ) (g : Picture) (x y : ℕ) → x < g.width → y < g.height → sample (restoration b depth g) x y ≤ 1
restored_small b depth g x y p q =
    let shape = restoration_shape b depth g in
    omega (arith, sample_bounded (restoration b depth g) (restoration_picture b depth g) x y (omega (arith, shape.width)) (omega (arith, shape.height)), shape.maxval)

pub restored_from : (b : List Offset) (depth : ℕ) (g : Picture) (x y : ℕ) → x < g.width → y < g.height → sample (restoration b depth g) x y ≡ 1 → IsRestored b depth g x y
restored_from b zero g x y p q e = (0, omega arith, e)
restored_from b (suc m) g x y p q e =
    let part = times (suc m) (dilation (reflected b)) (level_set (m + 2) g) in
    let before = restoration b m g in
    let shape = restoration_shape b m g in
    let whole = sample-union before part x y (omega (arith, shape.width)) (omega (arith, shape.height)) in
    elim (cases_eq (sample before x y) 1) [
      | inl one ↦ let found = restored_from b m g x y p q one in (found.0, omega (arith, found.1), found.2)
      | inr other ↦
          let low = restored_small b m g x y p q in
          let here : sample part x y ≡ 1 = upper (sample (restoration b (suc m) g) x y) (sample before x y) (sample part x y) whole e low other in
          let same : m + 2 ≡ suc m + 1 = omega arith in
          (suc m, omega arith, subst (λ (k : ℕ). sample (times (suc m) (dilation (reflected b)) (level_set k g)) x y ≡ 1) same here)
    ]
  where
    upper : (u a c : ℕ) → u ≡ max a c → u ≡ 1 → a ≤ 1 → a ≢ 1 → c ≡ 1
    upper u a c is one low other = omega arith

pub restored_back : (b : List Offset) (depth : ℕ) (g : Picture) (x y : ℕ) → x < g.width → y < g.height → IsRestored b depth g x y → sample (restoration b depth g) x y ≡ 1
restored_back b depth g x y p q (n, le, e) =
    let shape = level_shape (n + 1) n in
    let high = part_below b g depth n (n + 1) le refl x y (omega (arith, shape.0)) (omega (arith, shape.1)) in
    let low = restored_small b depth g x y p q in
    equal _ _ high low e
  where
    level_shape : (k n : ℕ) → ((times n (dilation (reflected b)) (level_set k g)).width ≡ g.width) × ((times n (dilation (reflected b)) (level_set k g)).height ≡ g.height)
    level_shape k zero = (refl, refl)
    level_shape k (suc n) = level_shape k n

    equal : (a c : ℕ) → a ≤ c → c ≤ 1 → a ≡ 1 → c ≡ 1
    equal a c high low one = omega arith
