-- A skeleton is enough to restore its set.
use Rattle.std.proofs.Common.{◌≡◌, ◌≢◌, ℕ, zero, suc, ◌+◌, ◌-◌, ◌*◌, ◌<◌, ◌≤◌, not, true, false, List, [], ◌∷◌, length, max, ℤ, pos, ◌+ℤ◌, refl, ap, sym, subst, arith, ◌∙◌, inl, inr}
use Rattle.std.specs.Prelude.{◌==◌, if◌then◌else◌}
use Rattle.std.proofs.lemmas.Bool.{cases_eq, cases_Bool, eq-eqb, ne_eqb, eqb-true, eqb-false, and_parts, and_from, and_left, not-true, not_from_false}
use Rattle.std.proofs.lemmas.Int.{ints}
use Rattle.mw_model.specs.declared.offsets.Offset.{Offset}
use Rattle.mw_model.specs.declared.shapes.Kind.TheVariants.{Bit, Grey}
use Rattle.mw_model.specs.Pictures.{Picture, sample, IsSet, IsPicture}
use Rattle.mw_model.specs.Flat.{erosion, dilation, reflected, opening}
use Rattle.mw_model.specs.Iterates.{times, is_residue, residue_mark, skeleton, level_set, union, restoration}
use Rattle.mw_model.specs.Laws.{Below, SameShape, HoldsOrigin}
use Rattle.mw_model.proofs.ImagePlaces.{sample-drawn, sample-redrawn, same_picture, sample_bounded, shape_trans, shape_sym, shape_itself, redrawn_shape, below_itself, below_trans, length-rows}
use Rattle.mw_model.proofs.Covers.{Covers, reflected-IsTurned, turned_back, least_below, below_greatest}
use Rattle.mw_model.proofs.ImageLaws.{drawn_picture}
use Rattle.mw_model.proofs.ImageOrder.{IsBounded, sample-erosion, sample-dilation, bounded_erosion, bounded_dilation, below_erosion, dilation_below}
use Rattle.mw_model.proofs.Iterated.{eroded_shape, dilated_shape, dilated_rises, bounded_dilated, opened_below, times_turn, opened_shape}

-- An element that holds its origin covers the place where it is placed.
pub covers_place : (b : List Offset) → HoldsOrigin b → (x y : ℕ) → Covers b x y x y
covers_place [] (k, lt, e) x y = absurd (omega arith)
covers_place (c ∷ cs) (zero, lt, e) x y = inl (still x c.dx (ap (λ (t : Offset). t.dx) e), still y c.dy (ap (λ (t : Offset). t.dy) e))
  where
    still : (x : ℕ) (d : ℤ) → d ≡ pos 0 → pos x +ℤ d ≡ pos x
    still x d e = omega (arith, ints)
covers_place (c ∷ cs) (suc k, lt, e) x y = inr (covers_place cs (k, omega arith, e) x y)

pub erosion_falls : (b : List Offset) (f : Picture) → HoldsOrigin b → Below (erosion b f) f
erosion_falls b f holds x y p q = omega (arith, sample-erosion b f x y p q, least_below f b f.maxval x y x y p q (covers_place b holds x y))

-- the next erosion is in the opening
pub erosion_in_opening : (b : List Offset) (f : Picture) → HoldsOrigin b → Below (erosion b f) (opening b f)
erosion_in_opening b f holds x y p q =
    omega (arith, sample-dilation (reflected b) (erosion b f) x y p q, below_greatest (erosion b f) (reflected b) x y x y p q (reflected-IsTurned b x y x y (covers_place b holds x y)))

-- later erosions are below earlier ones
pub eroded_falls : (b : List Offset) (f : Picture) → HoldsOrigin b → (n k : ℕ) → Below (times (k + n) (erosion b) f) (times n (erosion b) f)
eroded_falls b f holds n zero = subst (λ (m : ℕ). Below (times m (erosion b) f) (times n (erosion b) f)) (same n) (below_itself (times n (erosion b) f))
  where
    same : (n : ℕ) → n ≡ zero + n
    same n = omega arith
eroded_falls b f holds n (suc k) =
    subst (λ (m : ℕ). Below (times m (erosion b) f) (times n (erosion b) f)) (same n k)
    (below_trans (times (suc (k + n)) (erosion b) f) (times (k + n) (erosion b) f) (times n (erosion b) f)
    (redrawn_shape (times (k + n) (erosion b) f) _) (erosion_falls b (times (k + n) (erosion b) f) holds) (eroded_falls b f holds n k))
  where
    same : (n k : ℕ) → suc (k + n) ≡ suc k + n
    same n k = omega arith

-- Below the n-fold dilation is below the n-fold erosion.
pub below_eroded : (b : List Offset) (n : ℕ) (g f : Picture) → SameShape g f → IsBounded g → Below (times n (dilation (reflected b)) g) f → Below g (times n (erosion b) f)
below_eroded b zero g f shape bounded below = below
below_eroded b (suc n) g f shape bounded below =
    subst (λ (t : Picture). Below g t) (times_turn (erosion b) n f)
    (below_eroded b n g (erosion b f) (shape_trans shape (shape_sym (redrawn_shape f _))) bounded
    (below_erosion f (times n (dilation (reflected b)) g) b (reflected b) (reflected-IsTurned b) (shape_trans (dilated_shape (reflected b) n g) shape) (bounded_dilated (reflected b) n g bounded) below))

pub residue_parts : (b : List Offset) (f : Picture) (x y : ℕ) → is_residue b f x y ≡ true → (sample f x y ≡ 1) × (sample (opening b f) x y ≢ 1)
residue_parts b f x y e =
    let parts = and_parts (sample f x y == 1) (not (sample (opening b f) x y == 1)) e in
    (eqb-true (sample f x y) 1 parts.0, eqb-false (sample (opening b f) x y) 1 (not-true (sample (opening b f) x y == 1) parts.1))

residue_from : (b : List Offset) (f : Picture) (x y : ℕ) → sample f x y ≡ 1 → sample (opening b f) x y ≢ 1 → is_residue b f x y ≡ true
residue_from b f x y here away =
    and_from (sample f x y == 1) (not (sample (opening b f) x y == 1)) (eq-eqb (sample f x y) 1 here) (not_from_false (sample (opening b f) x y == 1) (ne_eqb (sample (opening b f) x y) 1 away))

pub no_residue : (b : List Offset) (f : Picture) (x y : ℕ) → sample f x y ≢ 1 → is_residue b f x y ≡ false
no_residue b f x y away = and_left (sample f x y == 1) (not (sample (opening b f) x y == 1)) (ne_eqb (sample f x y) 1 away)

-- a mark n + 1 stands in the residue of the n-fold erosion
pub mark_sound : (b : List Offset) (f : Picture) (k n x y : ℕ) → residue_mark b f k x y ≡ n + 1 → is_residue b (times n (erosion b) f) x y ≡ true
mark_sound b f zero n x y e = absurd (omega arith)
mark_sound b f (suc k) n x y e =
    elim (cases_Bool (is_residue b (times k (erosion b) f) x y)) [
      | inl held ↦
          let here : k + 1 ≡ n + 1 = rw held at e in
          let same : k ≡ n = omega arith in
          subst (λ (m : ℕ). is_residue b (times m (erosion b) f) x y ≡ true) same held
      | inr lost ↦ mark_sound b f k n x y (rw lost at e)
    ]

-- where no later residue has the place, the mark is that of the residue that has it
pub mark_complete : (b : List Offset) (f : Picture) (k n x y : ℕ) → n < k → is_residue b (times n (erosion b) f) x y ≡ true
    → ((m : ℕ) → n < m → is_residue b (times m (erosion b) f) x y ≡ false) → residue_mark b f k x y ≡ n + 1
mark_complete b f zero n x y lt held none = absurd (omega arith)
mark_complete b f (suc k) n x y lt held none =
    elim (cases_eq n k) [
      | inl same ↦
          let here : is_residue b (times k (erosion b) f) x y ≡ true = subst (λ (m : ℕ). is_residue b (times m (erosion b) f) x y ≡ true) same held in
          rw here (omega arith)
      | inr other ↦ rw (none k (omega arith)) (mark_complete b f k n x y (omega arith) held none)
    ]

-- one value of a level set
level_one : (k : ℕ) (g : Picture) (x y : ℕ) → x < g.width → y < g.height → sample g x y ≡ k → sample (level_set k g) x y ≡ 1
level_one k g x y p q e = sample-drawn Bit g.width g.height 1 (λ x y. if sample g x y == k then 1 else 0) x y p q ∙ rw (eq-eqb (sample g x y) k e) refl

level_zero : (k : ℕ) (g : Picture) (x y : ℕ) → x < g.width → y < g.height → sample g x y ≢ k → sample (level_set k g) x y ≡ 0
level_zero k g x y p q e = sample-drawn Bit g.width g.height 1 (λ x y. if sample g x y == k then 1 else 0) x y p q ∙ rw (ne_eqb (sample g x y) k e) refl

pub level_bounded : (k : ℕ) (g : Picture) → IsBounded (level_set k g)
level_bounded k g x y p q =
    elim (cases_eq (sample g x y) k) [
      | inl e ↦ omega (arith, level_one k g x y p q e)
      | inr e ↦ omega (arith, level_zero k g x y p q e)
    ]

-- what the skeleton shows at a place
pub skeleton_last : (b : List Offset) (depth : ℕ) (f : Picture) (x y : ℕ) → x < f.width → y < f.height → sample (times depth (erosion b) f) x y ≡ 1 → sample (skeleton b depth f) x y ≡ depth + 1
skeleton_last b depth f x y p q e =
    sample-drawn Grey f.width f.height (depth + 1) (λ x y. if sample (times depth (erosion b) f) x y == 1 then depth + 1 else residue_mark b f depth x y) x y p q
    ∙ rw (eq-eqb (sample (times depth (erosion b) f) x y) 1 e) refl

pub skeleton_other : (b : List Offset) (depth : ℕ) (f : Picture) (x y : ℕ) → x < f.width → y < f.height → sample (times depth (erosion b) f) x y ≢ 1 → sample (skeleton b depth f) x y ≡ residue_mark b f depth x y
skeleton_other b depth f x y p q e =
    sample-drawn Grey f.width f.height (depth + 1) (λ x y. if sample (times depth (erosion b) f) x y == 1 then depth + 1 else residue_mark b f depth x y) x y p q
    ∙ rw (ne_eqb (sample (times depth (erosion b) f) x y) 1 e) refl

-- the places marked n + 1 are in the n-fold erosion
level_below : (b : List Offset) (depth : ℕ) (f : Picture) (n k : ℕ) → k ≡ n + 1 → Below (level_set k (skeleton b depth f)) (times n (erosion b) f)
level_below b depth f n k k-is x y p q =
    let g = skeleton b depth f in
    elim (cases_eq (sample g x y) k) [
      | inr away ↦ omega (arith, level_zero k g x y p q away)
      | inl marked ↦
          let one = level_one k g x y p q marked in
          elim (cases_eq (sample (times depth (erosion b) f) x y) 1) [
            | inl last ↦
                let same : depth ≡ n = omega (arith, skeleton_last b depth f x y p q last) in
                let there : sample (times n (erosion b) f) x y ≡ 1 = subst (λ (m : ℕ). sample (times m (erosion b) f) x y ≡ 1) same last in
                omega arith
            | inr other ↦
                let there = (residue_parts b (times n (erosion b) f) x y (mark_sound b f depth n x y (sym (skeleton_other b depth f x y p q other) ∙ marked ∙ k-is))).0 in
                omega arith
          ]
    ]

pub restoration_shape : (b : List Offset) (n : ℕ) (g : Picture) → SameShape (restoration b n g) (level_set 1 g)
restoration_shape b zero g = shape_itself (level_set 1 g)
restoration_shape b (suc n) g = shape_trans (redrawn_shape (restoration b n g) _) (restoration_shape b n g)

restoration_size : (b : List Offset) (n : ℕ) (g : Picture) → length (restoration b n g).samples ≡ (restoration b n g).height * (restoration b n g).width
restoration_size b zero g = length-rows (λ x y. if sample g x y == 1 then 1 else 0) g.width 0 g.height
restoration_size b (suc n) g =
    let before = restoration b n g in
    length-rows (λ x y. max (sample before x y) (sample (times (suc n) (dilation (reflected b)) (level_set (n + 2) g)) x y)) before.width 0 before.height

-- the sample of a union
pub sample-union : (f g : Picture) (x y : ℕ) → x < f.width → y < f.height → sample (union f g) x y ≡ max (sample f x y) (sample g x y)
sample-union f g x y p q = sample-redrawn f (λ x y. max (sample f x y) (sample g x y)) x y p q

-- each dilated level is below the restoration
pub part_below : (b : List Offset) (g : Picture) (m n k : ℕ) → n ≤ m → k ≡ n + 1 → Below (times n (dilation (reflected b)) (level_set k g)) (restoration b m g)
part_below b g zero n k le k-is x y p q =
    let n-is : n ≡ 0 = omega arith in
    let one : k ≡ 1 = omega arith in
    base n k n-is one x y p q
  where
    base : (n k : ℕ) → n ≡ 0 → k ≡ 1 → Below (times n (dilation (reflected b)) (level_set k g)) (level_set 1 g)
    base n k n-is one = rw (n-is, one) (below_itself (level_set 1 g))
part_below b g (suc m) n k le k-is x y p q =
    let part = times (suc m) (dilation (reflected b)) (level_set (m + 2) g) in
    let before = restoration b m g in
    let here = dilated_shape (reflected b) n (level_set k g) in
    let shape = restoration_shape b m g in
    let union_is = sample-union before part x y (omega (arith, here.width, shape.width)) (omega (arith, here.height, shape.height)) in
    elim (cases_eq n (suc m)) [
      | inl same ↦
          let k-now : k ≡ m + 2 = omega arith in
          let is : times n (dilation (reflected b)) (level_set k g) ≡ part =
          ap (λ (t : ℕ). times t (dilation (reflected b)) (level_set k g)) same ∙ ap (λ (t : ℕ). times (suc m) (dilation (reflected b)) (level_set t g)) k-now in
          omega (arith, union_is, ap (λ (t : Picture). sample t x y) is)
      | inr other ↦ omega (arith, union_is, part_below b g m n k (omega arith) k-is x y p q)
    ]

-- what is restored is an image
pub restoration_picture : (b : List Offset) (n : ℕ) (g : Picture) → IsPicture (restoration b n g)
restoration_picture b zero g = drawn_picture Bit g.width g.height 1 (λ x y. if sample g x y == 1 then 1 else 0)
    (λ x y p q. omega (arith, level_bounded 1 g x y p q, sample-drawn Bit g.width g.height 1 (λ x y. if sample g x y == 1 then 1 else 0) x y p q))
restoration_picture b (suc n) g =
    let before = restoration b n g in
    let part = times (suc n) (dilation (reflected b)) (level_set (n + 2) g) in
    let shape = restoration_shape b n g in
    let part_shape = dilated_shape (reflected b) (suc n) (level_set (n + 2) g) in
    let part_bounded = bounded_dilated (reflected b) (suc n) (level_set (n + 2) g) (level_bounded (n + 2) g) in
    drawn_picture before.kind before.width before.height before.maxval (λ x y. max (sample before x y) (sample part x y))
    (λ x y p q. both _ _ _ (sample_bounded before (restoration_picture b n g) x y p q)
    (omega (arith, part_bounded x y (omega (arith, shape.width, part_shape.width)) (omega (arith, shape.height, part_shape.height)), part_shape.maxval, shape.maxval)))
  where
    both : (a c m : ℕ) → a ≤ m → c ≤ m → max a c ≤ m
    both a c m p q = omega arith

-- For a set and an element with its origin.
module _ (b : List Offset) (depth : ℕ) (f : Picture) (holds : HoldsOrigin b) (set : IsSet f) where
  abbrev eroded : ℕ → Picture
  eroded n = times n (erosion b) f

  abbrev restored : Picture
  restored = restoration b depth (skeleton b depth f)

  pub eroded_set : (n x y : ℕ) → x < f.width → y < f.height → sample (eroded n) x y ≤ 1
  eroded_set zero x y p q = omega (arith, sample_bounded f set.picture x y p q, set.maxval)
  eroded_set (suc n) x y p q =
      let shape = eroded_shape b n f in
      let bound = bounded_erosion b (eroded n) x y (omega (arith, shape.width)) (omega (arith, shape.height)) in
      omega (arith, bound, shape.maxval, set.maxval)

  level_shape : (k : ℕ) → SameShape (level_set k (skeleton b depth f)) f
  level_shape k = record { kind = sym set.kind; width = refl; height = refl; maxval = sym set.maxval }

  restored_shape : SameShape restored f
  restored_shape = shape_trans (restoration_shape b depth (skeleton b depth f)) (level_shape 1)

  -- no more than the set
  restored_below : (n : ℕ) → Below (restoration b n (skeleton b depth f)) f
  restored_below zero x y p q = level_below b depth f 0 1 refl x y p q
  restored_below (suc n) x y p q =
      let g = skeleton b depth f in
      let before = restoration b n g in
      let part = times (suc n) (dilation (reflected b)) (level_set (n + 2) g) in
      let shape = restoration_shape b n g in
      let in_width : x < f.width = omega (arith, shape.width) in
      let in_height : y < f.height = omega (arith, shape.height) in
      let part_shape = dilated_shape (reflected b) (suc n) (level_set (n + 2) g) in
      let rises = dilated_rises (reflected b) (suc n) (level_set (n + 2) g) (eroded (suc n))
      (shape_trans (level_shape (n + 2)) (shape_sym (eroded_shape b (suc n) f))) (level_below b depth f (suc n) (n + 2) (omega arith)) in
      let first = rises x y (omega (arith, part_shape.width)) (omega (arith, part_shape.height)) in
      let whole = opened_shape b (suc n) f in
      let second = opened_below b (suc n) f x y (omega (arith, whole.width)) (omega (arith, whole.height)) in
      let rest = restored_below n x y p q in
      highest _ _ _ _ _ (sample-union before part x y p q) rest first second
    where
      highest : (u a c d e : ℕ) → u ≡ max a c → a ≤ e → c ≤ d → d ≤ e → u ≤ e
      highest u a c d e is p q r = omega arith

  -- a level is below the erosions of what is restored
  level_below_eroded : (n k : ℕ) → n ≤ depth → k ≡ n + 1 → Below (level_set k (skeleton b depth f)) (times n (erosion b) restored)
  level_below_eroded n k le k-is =
      below_eroded b n (level_set k (skeleton b depth f)) restored (shape_trans (level_shape k) (shape_sym restored_shape)) (level_bounded k (skeleton b depth f))
      (part_below b (skeleton b depth f) depth n k le k-is)

  -- a place of the n-fold erosion that is not in its opening has the mark n + 1
  marked_there : (n x y : ℕ) → n < depth → x < f.width → y < f.height → sample (eroded n) x y ≡ 1 → sample (opening b (eroded n)) x y ≢ 1 → sample (skeleton b depth f) x y ≡ n + 1
  marked_there n x y lt p q here away =
      let shape = eroded_shape b n f in
      let opening_small : sample (opening b (eroded n)) x y ≤ 1 =
      omega (arith, bounded_dilation (reflected b) (erosion b (eroded n)) (bounded_erosion b (eroded n)) x y (omega (arith, shape.width)) (omega (arith, shape.height)), shape.maxval, set.maxval) in
      let gone : (m : ℕ) → n < m → sample (eroded m) x y ≢ 1 = λ m after one.
      let later_shape = eroded_shape b (m - suc n + suc n) f in
      let same : m - suc n + suc n ≡ m = omega arith in
      let falls = eroded_falls b f holds (suc n) (m - suc n) x y (omega (arith, later_shape.width)) (omega (arith, later_shape.height)) in
      let inside = erosion_in_opening b (eroded n) holds x y (omega (arith, shape.width)) (omega (arith, shape.height)) in
      let is : sample (eroded (m - suc n + suc n)) x y ≡ sample (eroded m) x y = ap (λ (t : ℕ). sample (eroded t) x y) same in
      clash _ _ _ _ one is falls inside opening_small away in
      skeleton_other b depth f x y p q (gone depth lt)
      ∙ mark_complete b f depth n x y lt (residue_from b (eroded n) x y here away) (λ m after. no_residue b (eroded m) x y (gone m after))
    where
      clash : (a c d o : ℕ) → a ≡ 1 → c ≡ a → c ≤ d → d ≤ o → o ≤ 1 → o ≢ 1 → ⊥
      clash a c d o one is p q small away = omega arith

  -- no less than the set, from the last erosion back
  eroded_below : (k n : ℕ) → n + k ≡ depth → Below (eroded n) (times n (erosion b) restored)
  eroded_below zero n e x y p q =
      let same : n ≡ depth = omega arith in
      let shape = eroded_shape b n f in
      let in_width : x < f.width = omega (arith, shape.width) in
      let in_height : y < f.height = omega (arith, shape.height) in
      elim (cases_eq (sample (eroded n) x y) 1) [
        | inl here ↦
            let last = skeleton_last b depth f x y in_width in_height (sym (ap (λ (t : ℕ). sample (eroded t) x y) same) ∙ here) in
            let level = level_one (depth + 1) (skeleton b depth f) x y in_width in_height last in
            let upper = level_below_eroded n (depth + 1) (omega arith) (omega arith) x y in_width in_height in
            omega arith
        | inr away ↦ omega (arith, eroded_set n x y in_width in_height)
      ]
  eroded_below (suc k) n e x y p q =
      let shape = eroded_shape b n f in
      let in_width : x < f.width = omega (arith, shape.width) in
      let in_height : y < f.height = omega (arith, shape.height) in
      elim (cases_eq (sample (eroded n) x y) 1) [
        | inr away ↦ omega (arith, eroded_set n x y in_width in_height)
        | inl here ↦ elim (cases_eq (sample (opening b (eroded n)) x y) 1) [
          | inl inside ↦
              let next = eroded_below k (suc n) (omega arith) in
              let target = times n (erosion b) restored in
              let opened = dilation_below target (erosion b (eroded n)) b (reflected b) (turned_back b)
              (shape_trans (eroded_shape b (suc n) f) (shape_trans (shape_sym restored_shape) (shape_sym (eroded_shape b n restored)))) next in
              omega (arith, opened x y p q)
          | inr outside ↦
              let marked = marked_there n x y (omega arith) in_width in_height here outside in
              let level = level_one (n + 1) (skeleton b depth f) x y in_width in_height marked in
              let upper = level_below_eroded n (n + 1) (omega arith) refl x y in_width in_height in
              omega arith
        ]
      ]

  pub restoration-skeleton : restored ≡ f
  restoration-skeleton =
      same_picture restored f restored_shape (restoration_size b depth (skeleton b depth f)) set.picture.size
      (λ x y p q.
      let upper = restored_below depth x y p q in
      let shape = restored_shape in
      let lower = eroded_below depth 0 (omega arith) x y (omega (arith, shape.width)) (omega (arith, shape.height)) in
      equal _ _ upper lower)
    where
      equal : (a c : ℕ) → a ≤ c → c ≤ a → a ≡ c
      equal a c p q = omega arith
