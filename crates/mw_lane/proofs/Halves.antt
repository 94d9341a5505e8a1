-- A row in two halves, of which a part of the front is merged with the beginning of the back.
use Rattle.std.proofs.Common.{◌≡◌, ℕ, ◌+◌, ◌-◌, ◌<◌, ◌≤◌, List, ◌++◌, length, take, drop, get_or, ap, arith, ◌∙◌, inl, inr, length-append, length-take, length-drop}
use Rattle.std.proofs.Math.Nat.{add-sub_of_le}
use Rattle.std.proofs.lemmas.Bool.{cases_lt}
use Rattle.std.proofs.lemmas.List.{get_or_append_left, get_or-append_right, get_or-take, get_or-drop}
use Rattle.std.proofs.lemmas.Simd.{get_or-zip2, length-zip2}
use Rattle.mw_model.proofs.mw_facts.Parts.{get_or-put_mid_below, get_or-put_mid_within, get_or-put_mid_above}
use borrow.Rule.Slice.PartMut.{put_mid, post_of}
use lib.Lanes.{zip2}

pub record IsHalved {A : Type 0} (f : A → A → A) (row front back made : List A) (at shift m k : ℕ) : Type 0 where
  pub front_size : length front ≡ at + shift
  pub back_size : length back + (at + shift) ≡ length row
  pub front_is : (i : ℕ) (d : A) → i < at + shift → get_or front i d ≡ get_or row i d
  pub back_is : (i : ℕ) (d : A) → get_or back i d ≡ get_or row (at + shift + i) d
  pub room : at + shift + m ≤ length row
  pub apart : m ≤ shift
  pub count : k ≡ m
  pub made_is : made ≡ zip2 f (take k (drop at front)) (take m back)

made_size : {A : Type 0} (f : A → A → A) (row front back made : List A) (at shift m k : ℕ) → IsHalved f row front back made at shift m k → length made ≡ k
made_size f row front back made at shift m k h =
    let first = take k (drop at front) in
    let second = take m back in
    let first_len : length first ≡ k = omega (arith, length-take k (drop at front), length-drop at front, h.front_size, h.apart, h.count) in
    let second_len : length second ≡ m = omega (arith, length-take m back, h.back_size, h.room) in
    ap length h.made_is ∙ length-zip2 f first second (omega (arith, h.count)) ∙ first_len

whole_size : {A : Type 0} (f : A → A → A) (row front back made : List A) (at shift m k : ℕ) → IsHalved f row front back made at shift m k → length (put_mid at k front made) ≡ at + shift
whole_size f row front back made at shift m k h =
    let size = made_size f row front back made at shift m k h in
    omega (arith, size, h.front_size, h.apart, h.count, length-append (take at front) (made ++ post_of at k front), length-append made (post_of at k front), length-take at front, length-drop k (drop at front), length-drop at front)

pub halved_below : {A : Type 0} (f : A → A → A) (row front back made : List A) (at shift m k : ℕ) → IsHalved f row front back made at shift m k
    → (p : ℕ) (d : A) → p < at → get_or (put_mid at k front made ++ back) p d ≡ get_or row p d
halved_below f row front back made at shift m k h p d lt =
    let size = whole_size f row front back made at shift m k h in
    get_or_append_left (put_mid at k front made) back d p (omega (arith, size))
    ∙ get_or-put_mid_below at k front made p d (omega (arith, h.front_size)) lt
    ∙ h.front_is p d (omega arith)

pub halved_within : {A : Type 0} (f : A → A → A) (row front back made : List A) (at shift m k : ℕ) → IsHalved f row front back made at shift m k
    → (p : ℕ) (d : A) → at ≤ p → p < at + m → get_or (put_mid at k front made ++ back) p d ≡ f (get_or row p d) (get_or row (p + shift) d)
halved_within f row front back made at shift m k h p d from to =
    let size = whole_size f row front back made at shift m k h in
    let small = made_size f row front back made at shift m k h in
    let first = take k (drop at front) in
    let second = take m back in
    get_or_append_left (put_mid at k front made) back d p (omega (arith, size, h.apart))
    ∙ get_or-put_mid_within at k front made p d (omega (arith, h.front_size)) from (omega (arith, small, h.count))
    ∙ ap (λ (t : List _). get_or t (p - at) d) h.made_is
    ∙ get_or-zip2 f first second (p - at) d d d (omega (arith, length-take k (drop at front), length-drop at front, h.front_size, h.apart, h.count)) (omega (arith, length-take m back, h.back_size, h.room))
    ∙ ap (λ (t : _). f t (get_or second (p - at) d)) (get_or-take k (drop at front) (p - at) d (omega (arith, h.count)) ∙ get_or-drop at front (p - at) d ∙ ap (λ (t : ℕ). get_or front t d) (add-sub_of_le from) ∙ h.front_is p d (omega (arith, h.apart)))
    ∙ ap (λ (t : _). f (get_or row p d) t) (get_or-take m back (p - at) d (omega arith) ∙ h.back_is (p - at) d ∙ ap (λ (t : ℕ). get_or row t d) (far at shift p from))
  where
    far : (at shift p : ℕ) → at ≤ p → at + shift + (p - at) ≡ p + shift
    far at shift p le = omega arith

pub halved_above : {A : Type 0} (f : A → A → A) (row front back made : List A) (at shift m k : ℕ) → IsHalved f row front back made at shift m k
    → (p : ℕ) (d : A) → at + m ≤ p → get_or (put_mid at k front made ++ back) p d ≡ get_or row p d
halved_above f row front back made at shift m k h p d from =
    let size = whole_size f row front back made at shift m k h in
    let small = made_size f row front back made at shift m k h in
    elim (cases_lt p (at + shift)) [
      | inl inside ↦
          get_or_append_left (put_mid at k front made) back d p (omega (arith, size))
          ∙ get_or-put_mid_above at k front made p d (omega (arith, h.front_size)) small (omega (arith, h.count))
          ∙ h.front_is p d inside
      | inr past ↦
          get_or-append_right (put_mid at k front made) back (at + shift) p d size past
          ∙ h.back_is (p - (at + shift)) d
          ∙ ap (λ (t : ℕ). get_or row t d) (add-sub_of_le past)
    ]
