-- A flood: what holds while places are taken from the queue.
use Rattle.std.proofs.Common.{◌≡◌, ℕ, zero, suc, ◌+◌, ◌-◌, ◌*◌, ◌<◌, ◌≤◌, ◌⊎◌, List, [], ◌∷◌, ◌++◌, length, get_or, drop, min, pos, ◌+ℤ◌, refl, ap, sym, subst, arith, ◌∙◌, inl, inr, length-append}
use Rattle.std.specs.Prelude.{sum}
use Rattle.std.proofs.lemmas.Int.{ints}
use Rattle.std.proofs.lemmas.Bool.{cases_lt, cases_eq}
use Rattle.std.proofs.lemmas.Nat.{mul-add-lt, same_from_place}
use Rattle.std.proofs.lemmas.List.{get_or-set_same, get_or-set_other, length-set, drop_all}
use Rattle.std.proofs.lemmas.List.Elements.{All-set}
use Rattle.std.proofs.lemmas.List.Sums.{sum_by-set, sum_by-le}
use Rattle.std.proofs.Math.Seq.{drop-cons}
use Rattle.std.proofs.Math.Nat.{mul_comm}
use Rattle.mw_model.specs.declared.offsets.Offset.{Offset}
use Rattle.mw_model.specs.Pictures.{Picture, sample, IsPicture}
use Rattle.mw_model.specs.Laws.{SameShape}
use Rattle.mw_model.proofs.ImagePlaces.{sample_bounded, redrawn_shape}
use Rattle.mw_geodesic.specs.declared.neighbours.Place.{Place}
use Rattle.mw_geodesic.specs.Neighbours.{Joins, ElementCovers}
use Rattle.mw_geodesic.specs.Geodesics.{reconstruction}
use Rattle.mw_geodesic.specs.Floods.{Gained, kept, gained, HasGrown, QueuedIfNeeded, left_out, put_in, with_sample, OfferMade, refused, taken, Has, IsPartlyRebuilt, StaysBetween, AllWait, HasNothing}
use Rattle.mw_geodesic.proofs.Geodesic.{start, spread_shape, spread_above, reconstruction_closed, only_reconstruction}

-- ---- the queue

pub has_pushed : (qs rs : List Place) (u v : ℕ) → Has qs u v → Has (qs ++ rs) u v
has_pushed [] rs u v h = absurd h
has_pushed (q ∷ qs) rs u v (inl e) = inl e
has_pushed (q ∷ qs) rs u v (inr h) = inr (has_pushed qs rs u v h)

pub has_last : (qs : List Place) (p : Place) → Has (qs ++ p ∷ []) p.x p.y
has_last [] p = inl (refl, refl)
has_last (q ∷ qs) p = inr (has_last qs p)

pub has_split : (qs : List Place) (p : Place) (u v : ℕ) → Has (qs ++ p ∷ []) u v → Has qs u v ⊎ ((p.x ≡ u) × (p.y ≡ v))
has_split [] p u v (inl e) = inr e
has_split [] p u v (inr h) = absurd h
has_split (q ∷ qs) p u v (inl e) = inl (inl e)
has_split (q ∷ qs) p u v (inr h) = elim (has_split qs p u v h) [ inl g ↦ inl (inr g) | inr e ↦ inr e ]

-- ---- offsets

pub covers_first : (e : List Offset) (i : ℕ) (d : Offset) (x y u v : ℕ) → i < length e → ElementCovers (drop i e) x y u v → Joins (get_or e i d) x y u v ⊎ ElementCovers (drop (i + 1) e) x y u v
covers_first e i d x y u v lt c =
    let whole : drop i e ≡ get_or e i d ∷ drop (suc i) e = drop-cons e i d lt in
    let one : suc i ≡ i + 1 = omega arith in
    let next : drop (suc i) e ≡ drop (i + 1) e = ap (λ (k : ℕ). drop k e) one in
    let here : ElementCovers (get_or e i d ∷ drop (i + 1) e) x y u v = subst (λ (t : List Offset). ElementCovers t x y u v) (whole ∙ ap (λ (t : List Offset). get_or e i d ∷ t) next) c in
    elim here [
      | inl j ↦ inl j
      | inr rest ↦ inr rest
    ]

pub covers_at : (e : List Offset) (i : ℕ) (d : Offset) (x y u v : ℕ) → i < length e → Joins (get_or e i d) x y u v → ElementCovers e x y u v
covers_at [] i d x y u v lt j = absurd (omega arith)
covers_at (b ∷ bs) zero d x y u v lt j = inl j
covers_at (b ∷ bs) (suc i) d x y u v lt j = inr (covers_at bs i d x y u v (omega arith) j)

-- an offset leads to a place from one place alone
pub one_behind : (b : Offset) (x y z w u v : ℕ) → Joins b x y u v → Joins b z w u v → (x ≡ z) × (y ≡ w)
one_behind b x y z w u v j k = (same x z u b.dx j.columns k.columns, same y w v b.dy j.rows k.rows)
  where
    same : (a c t : ℕ) (d : _) → pos a +ℤ d ≡ pos t → pos c +ℤ d ≡ pos t → a ≡ c
    same a c t d p q = omega (arith, ints)

-- ---- one sample raised

in_samples : (f : Picture) (x y : ℕ) → IsPicture f → x < f.width → y < f.height → y * f.width + x < length f.samples
in_samples f x y picture p q = omega (arith, picture.size, mul-add-lt y f.width x f.height q p, mul_comm f.width f.height)

pub set_same : (f : Picture) (x y s : ℕ) → IsPicture f → x < f.width → y < f.height → sample (with_sample f x y s) x y ≡ s
set_same f x y s picture p q = get_or-set_same f.samples (y * f.width + x) s 0 (in_samples f x y picture p q)

-- in another place it is as before
pub set_other : (f : Picture) (x y s u v : ℕ) → x < f.width → u < f.width → ((u ≡ x) × (v ≡ y) → ⊥) → sample (with_sample f x y s) u v ≡ sample f u v
set_other f x y s u v p p' other =
    get_or-set_other f.samples (y * f.width + x) (v * f.width + u) s 0 (λ e.
    let one = same_from_place v u y x f.width p' p e in
    other (one.1, one.0))

-- two places are one, or not
pub cases_place : (u v x y : ℕ) → ((u ≡ x) × (v ≡ y)) ⊎ ((u ≡ x) × (v ≡ y) → ⊥)
cases_place u v x y =
    elim (cases_eq u x) [
      | inr not ↦ inr (λ e. not e.0)
      | inl e ↦ elim (cases_eq v y) [
        | inr not ↦ inr (λ d. not d.1)
        | inl d ↦ inl (e, d)
      ]
    ]

pub set_picture : (f : Picture) (x y s : ℕ) → IsPicture f → s ≤ f.maxval → IsPicture (with_sample f x y s)
set_picture f x y s picture low = record {
  size = length-set f.samples (y * f.width + x) s ∙ picture.size;
  bounded = All-set (λ t. t ≤ f.maxval) f.samples (y * f.width + x) s low picture.bounded;
}

-- ---- what holds throughout

-- all places wait but for one, which has still to offer by the offsets from number i on
pub record OthersWait (e : List Offset) (mask f : Picture) (queue : List Place) (q : Place) (i : ℕ) : Type 0 where
  pub inside : (u v : ℕ) → Has queue u v → (u < f.width) × (v < f.height)
  pub waits : (x y u v : ℕ) → x < f.width → y < f.height → u < f.width → v < f.height → ElementCovers e x y u v
      → (min (sample f u v) (sample mask x y) ≤ sample f x y) ⊎ (Has queue u v ⊎ ((u ≡ q.x) × (v ≡ q.y) × ElementCovers (drop i e) x y u v))

pub taken_out : (e : List Offset) (mask f : Picture) (q : Place) (rest : List Place) → AllWait e mask f (q ∷ rest) → OthersWait e mask f rest q 0
taken_out e mask f q rest all = record {
  inside = λ u v h. all.inside u v (inr h);
  waits = λ x y u v a b c d covers. elim (all.waits x y u v a b c d covers) [
    | inl done ↦ inl done
    | inr has ↦ elim has [
      | inl here ↦ inr (inr (sym here.0, sym here.1, covers))
      | inr there ↦ inr (inl there)
    ]
  ];
}

pub all_offered : (e : List Offset) (mask f : Picture) (queue : List Place) (q : Place) (i : ℕ) → length e ≤ i → OthersWait e mask f queue q i → AllWait e mask f queue
all_offered e mask f queue q i end others = record {
  inside = others.inside;
  waits = λ x y u v a b c d covers. elim (others.waits x y u v a b c d covers) [
    | inl done ↦ inl done
    | inr more ↦ elim more [
      | inl has ↦ inr has
      | inr left ↦ absurd (subst (λ (t : List Offset). ElementCovers t x y u v) (drop_all i e end) left.2)
    ]
  ];
}

pub one_offered : (e : List Offset) (mask f : Picture) (queue : List Place) (q : Place) (i : ℕ) (d : Offset) (g : Picture) (after : List Place)
    → i < length e → IsPicture f → OthersWait e mask f queue q i → OfferMade mask (get_or e i d) q f queue g after → OthersWait e mask g after q (i + 1)
one_offered e mask f queue q i d g after lt picture others (refused none) = record {
  inside = others.inside;
  waits = λ x y u v a b c k covers. elim (others.waits x y u v a b c k covers) [
    | inl done ↦ inl done
    | inr more ↦ elim more [
      | inl has ↦ inr (inl has)
      | inr left ↦ elim (covers_first e i d x y u v lt left.2) [
        | inl joins ↦ inl (offered x y u v a b left.0 left.1 joins)
        | inr rest ↦ inr (inr (left.0, left.1, rest))
      ]
    ]
  ];
}
  where
    offered : (x y u v : ℕ) → x < f.width → y < f.height → u ≡ q.x → v ≡ q.y → Joins (get_or e i d) x y u v → min (sample f u v) (sample mask x y) ≤ sample f x y
    offered x y u v a b col row joins =
        let at : Joins (get_or e i d) x y q.x q.y = rw (← col, ← row) joins in
        rw (col, row) (none x y a b at)
one_offered e mask f queue q i d g after lt picture others (taken p behind gains) =
    let s = min (sample f q.x q.y) (sample mask p.x p.y) in
    let at_p = set_same f p.x p.y s picture behind.column behind.row in
    record {
      inside = λ u v has. elim (has_split queue p u v has) [
        | inl old ↦ others.inside u v old
        | inr e ↦ (omega (arith, e.0, behind.column), omega (arith, e.1, behind.row))
      ];
      waits = λ x y u v a b c k covers. elim (cases_place u v p.x p.y) [
        | inl source ↦ inr (inl (rw (source.0, source.1) (has_last queue p)))
        | inr elsewhere ↦
            let from = set_other f p.x p.y s u v behind.column c elsewhere in
            elim (cases_place x y p.x p.y) [
              | inl target ↦
                  let at = at_target x y target.0 target.1 in
                  elim (others.waits x y u v a b c k covers) [
                    | inl done ↦ inl (omega (arith, old_low x y target.0 target.1))
                    | inr more ↦ elim more [
                      | inl has ↦ inr (inl (has_pushed queue (p ∷ []) u v has))
                      | inr left ↦ inl (omega (arith, source_is u v left.0 left.1, mask_is x y target.0 target.1))
                    ]
                  ]
              | inr other ↦
                  let to = set_other f p.x p.y s x y behind.column a other in
                  elim (others.waits x y u v a b c k covers) [
                    | inl done ↦ inl (omega arith)
                    | inr more ↦ elim more [
                      | inl has ↦ inr (inl (has_pushed queue (p ∷ []) u v has))
                      | inr left ↦ elim (covers_first e i d x y u v lt left.2) [
                        | inl joins ↦
                            let at : Joins (get_or e i d) x y q.x q.y = rw (← left.0, ← left.1) joins in
                            absurd (other (one_behind (get_or e i d) x y p.x p.y q.x q.y at behind.joins))
                        | inr rest ↦ inr (inr (left.0, left.1, rest))
                      ]
                    ]
                  ]
            ]
      ];
    }
  where
    at_target : (x y : ℕ) → x ≡ p.x → y ≡ p.y → sample (with_sample f p.x p.y (min (sample f q.x q.y) (sample mask p.x p.y))) x y ≡ min (sample f q.x q.y) (sample mask p.x p.y)
    at_target x y col row = rw (col, row) (set_same f p.x p.y (min (sample f q.x q.y) (sample mask p.x p.y)) picture behind.column behind.row)

    old_low : (x y : ℕ) → x ≡ p.x → y ≡ p.y → sample f x y < min (sample f q.x q.y) (sample mask p.x p.y)
    old_low x y col row = rw (col, row) gains

    source_is : (u v : ℕ) → u ≡ q.x → v ≡ q.y → sample f u v ≡ sample f q.x q.y
    source_is u v col row = rw (col, row) refl

    mask_is : (x y : ℕ) → x ≡ p.x → y ≡ p.y → sample mask x y ≡ sample mask p.x p.y
    mask_is x y col row = rw (col, row) refl

-- A sample raised to what a place that the element covers, and its own mask, allow.
pub raised_between : (e : List Offset) (mask f : Picture) (x y u v : ℕ) → x < f.width → y < f.height → u < f.width → v < f.height → ElementCovers e x y u v
    → sample f x y < min (sample f u v) (sample mask x y) → StaysBetween e mask f (with_sample f x y (min (sample f u v) (sample mask x y)))
raised_between e mask f px py qx qy c r c' r' covers gains marker between =
    let s = min (sample f qx qy) (sample mask px py) in
    let picture = between.picture in
    let shape = between.shape in
    let bounded = sample_bounded f picture qx qy c' r' in
    let at = set_same f px py s picture c r in
    record {
      shape = record { kind = shape.kind; width = shape.width; height = shape.height; maxval = shape.maxval };
      picture = set_picture f px py s picture (omega arith);
      above = λ x y a b.
          let low = between.above x y a b in
          elim (cases_place x y px py) [
            | inl e ↦
                let before = between.above px py (omega (arith, shape.width)) (omega (arith, shape.height)) in
                rw (e.0, e.1) (omega arith)
            | inr other ↦ omega (arith, set_other f px py s x y c (omega (arith, shape.width)) other)
          ];
      below = λ x y a b. elim (cases_place x y px py) [
        | inl same ↦
            let closed = reconstruction_closed e mask marker in
            let wide = (spread_shape e mask marker (marker.height * marker.width)).width in
            let high = (spread_shape e mask marker (marker.height * marker.width)).height in
            let top = closed.closed px py qx qy (omega (arith, shape.width)) (omega (arith, shape.height)) (omega (arith, shape.width)) (omega (arith, shape.height)) covers in
            let source = between.below qx qy c' r' in
            rw (same.0, same.1) (omega arith)
        | inr other ↦ omega (arith, between.below x y a b, set_other f px py s x y c a other)
      ];
    }

pub still_between : (e : List Offset) (mask f : Picture) (queue : List Place) (q : Place) (i : ℕ) (d : Offset) (g : Picture) (after : List Place)
    → i < length e → q.x < f.width → q.y < f.height → OfferMade mask (get_or e i d) q f queue g after → StaysBetween e mask f g
still_between e mask f queue q i d g after lt c r (refused none) marker between = between
still_between e mask f queue q i d g after lt c r (taken p behind gains) marker between =
    raised_between e mask f p.x p.y q.x q.y behind.column behind.row c r (covers_at e i d p.x p.y q.x q.y lt behind.joins) gains marker between

-- ---- what is left to do: twice what can still be added to the samples, and the places that wait

abbrev pub room : Picture → ℕ
room f = f.height * f.width * f.maxval

abbrev pub cost : Picture → List Place → ℕ
cost f queue = 2 * (room f - sum f.samples) + length queue

filled_up : (f : Picture) → IsPicture f → sum f.samples ≤ room f
filled_up f picture = subst (λ (n : ℕ). sum f.samples ≤ n * f.maxval) picture.size (sum_by-le (λ s. s) f.maxval f.samples picture.bounded)

pub costs_no_more : (mask f : Picture) (queue : List Place) (b : Offset) (q : Place) (g : Picture) (after : List Place)
    → IsPicture f → IsPicture g → OfferMade mask b q f queue g after → cost g after ≤ cost f queue
costs_no_more mask f queue b q g after picture next (refused none) = omega arith
costs_no_more mask f queue b q g after picture next (taken p behind gains) =
    let s = min (sample f q.x q.y) (sample mask p.x p.y) in
    let more = sum_by-set (λ t. t) f.samples (p.y * f.width + p.x) s 0 (in_samples f p.x p.y picture behind.column behind.row) in
    let full = filled_up (with_sample f p.x p.y s) next in
    omega (arith, length-append queue (p ∷ []))

-- ---- the start and the end

pub flood_begins : (e : List Offset) (mask marker f : Picture) → f ≡ start mask marker → IsPicture f → IsPartlyRebuilt e mask marker f
flood_begins e mask marker f is picture =
    let shape : SameShape f marker = subst (λ (t : Picture). SameShape t marker) (sym is) (redrawn_shape marker _) in
    record {
      shape = shape;
      picture = picture;
      above = λ x y p q. omega (arith, ap (λ (t : Picture). sample t x y) is);
      below = λ x y p q.
          let low = spread_above e mask marker (marker.height * marker.width) x y (omega (arith, shape.width)) (omega (arith, shape.height)) in
          omega (arith, ap (λ (t : Picture). sample t x y) is);
    }

pub flood_ended : (e : List Offset) (mask marker f : Picture) (queue : List Place) → queue ≡ [] → IsPartlyRebuilt e mask marker f → AllWait e mask f queue
    → f ≡ reconstruction e mask marker
flood_ended e mask marker f queue none between all =
    only_reconstruction e mask marker f between.shape between.picture.size between.above
    (record {
      closed = λ x y u v a b c d covers. elim (all.waits x y u v a b c d covers) [
        | inl done ↦ done
        | inr has ↦ absurd (subst (λ (t : List Place). Has t u v) none has)
      ];
    })
    between.below

-- ---- which places wait

-- the place has nothing to offer by the offsets before number i
abbrev pub NothingBefore : List Offset → ℕ → Picture → Picture → ℕ → ℕ → Type 0
NothingBefore e i mask f u v =
    (x y : ℕ) → x < f.width → y < f.height → ElementCovers e x y u v → (min (sample f u v) (sample mask x y) ≤ sample f x y) ⊎ ElementCovers (drop i e) x y u v

pub nothing_by_one_more : (e : List Offset) (i : ℕ) (d : Offset) (mask f : Picture) (u v : ℕ) → i < length e → NothingBefore e i mask f u v
    → ((x y : ℕ) → x < f.width → y < f.height → Joins (get_or e i d) x y u v → min (sample f u v) (sample mask x y) ≤ sample f x y) → NothingBefore e (i + 1) mask f u v
nothing_by_one_more e i d mask f u v lt before here x y a b covers =
    elim (before x y a b covers) [
      | inl done ↦ inl done
      | inr left ↦ elim (covers_first e i d x y u v lt left) [
        | inl joins ↦ inl (here x y a b joins)
        | inr rest ↦ inr rest
      ]
    ]

pub nothing_at_all : (e : List Offset) (i : ℕ) (mask f : Picture) (u v : ℕ) → length e ≤ i → NothingBefore e i mask f u v → HasNothing e mask f u v
nothing_at_all e i mask f u v end before x y a b covers =
    elim (before x y a b covers) [
      | inl done ↦ done
      | inr left ↦ absurd (subst (λ (t : List Offset). ElementCovers t x y u v) (drop_all i e end) left)
    ]

-- ---- sweeps

pub grown_itself : (e : List Offset) (mask f : Picture) → IsPicture f → HasGrown e mask f f
grown_itself e mask f picture = record { stays = λ marker between. between; picture = picture; width = refl; height = refl }

pub grown_on : (e : List Offset) (mask f g h : Picture) → HasGrown e mask f g → HasGrown e mask g h → HasGrown e mask f h
grown_on e mask f g h first second = record {
  stays = λ marker between. second.stays marker (first.stays marker between);
  picture = second.picture;
  width = second.width ∙ first.width;
  height = second.height ∙ first.height;
}

pub gained_grown : (e : List Offset) (i : ℕ) (d : Offset) (mask f : Picture) (p : Place) (g : Picture) → i < length e → IsPicture f → p.x < f.width → p.y < f.height
    → Gained mask (get_or e i d) p f g → HasGrown e mask f g
gained_grown e i d mask f p g lt picture c r kept = grown_itself e mask f picture
gained_grown e i d mask f p g lt picture c r (gained q there gains) = record {
  stays = raised_between e mask f p.x p.y q.x q.y c r there.column there.row (covers_at e i d p.x p.y q.x q.y lt there.joins) gains;
  picture =
      let bounded = sample_bounded f picture q.x q.y there.column there.row in
      set_picture f p.x p.y (min (sample f q.x q.y) (sample mask p.x p.y)) picture (omega arith);
  width = refl;
  height = refl;
}

-- ---- the places that wait, one place more

abbrev pub Told : List Offset → Picture → Picture → List Place → ℕ → ℕ → Type 0
Told e mask f queue u v = HasNothing e mask f u v ⊎ Has queue u v

pub told_on : (e : List Offset) (mask f : Picture) (queue : List Place) (q : Place) (after : List Place) (u v : ℕ) → QueuedIfNeeded (HasNothing e mask f q.x q.y) q queue after → Told e mask f queue u v → Told e mask f after u v
told_on e mask f queue q after u v (left_out none) told = told
told_on e mask f queue q after u v put_in told = elim told [ inl none ↦ inl none | inr has ↦ inr (has_pushed queue (q ∷ []) u v has) ]

pub told_here : (e : List Offset) (mask f : Picture) (queue : List Place) (q : Place) (after : List Place) → QueuedIfNeeded (HasNothing e mask f q.x q.y) q queue after → Told e mask f after q.x q.y
told_here e mask f queue q after (left_out none) = inl none
told_here e mask f queue q after put_in = inr (has_last queue q)

pub still_inside : (P : Type 0) (width height : ℕ) (queue : List Place) (q : Place) (after : List Place) → q.x < width → q.y < height → QueuedIfNeeded P q queue after
    → ((u v : ℕ) → Has queue u v → (u < width) × (v < height)) → (u v : ℕ) → Has after u v → (u < width) × (v < height)
still_inside P width height queue q after c r (left_out none) inside u v has = inside u v has
still_inside P width height queue q after c r put_in inside u v has = elim (has_split queue q u v has) [
  | inl old ↦ inside u v old
  | inr e ↦ (omega (arith, e.0), omega (arith, e.1))
]

pub told_row : (e : List Offset) (mask f : Picture) (queue : List Place) (q : Place) (after : List Place) (x y : ℕ) → q.x ≡ x → q.y ≡ y → QueuedIfNeeded (HasNothing e mask f q.x q.y) q queue after
    → ((u : ℕ) → u < x → Told e mask f queue u y) → (u : ℕ) → u < x + 1 → Told e mask f after u y
told_row e mask f queue q after x y ex ey queued row u lt = elim (cases_lt u x) [
  | inl less ↦ told_on e mask f queue q after u y queued (row u less)
  | inr more ↦
      let same : x ≡ u = omega arith in
      rw (← same, ← ex, ← ey) (told_here e mask f queue q after queued)
]

pub told_rows : (e : List Offset) (mask f : Picture) (queue : List Place) (width x y : ℕ) → width ≤ x → ((u v : ℕ) → u < width → v < y → Told e mask f queue u v)
    → ((u : ℕ) → u < x → Told e mask f queue u y) → (u v : ℕ) → u < width → v < y + 1 → Told e mask f queue u v
told_rows e mask f queue width x y end rows row u v lt lv = elim (cases_lt v y) [
  | inl less ↦ rows u v lt less
  | inr more ↦
      let same : y ≡ v = omega arith in
      rw (← same) (row u (omega arith))
]

pub all_told : (e : List Offset) (mask f : Picture) (queue : List Place) (width height y : ℕ) → width ≡ f.width → height ≡ f.height → height ≤ y
    → ((u v : ℕ) → Has queue u v → (u < width) × (v < height)) → ((u v : ℕ) → u < width → v < y → Told e mask f queue u v) → AllWait e mask f queue
all_told e mask f queue width height y across down end inside rows = record {
  inside = λ u v has. let h = inside u v has in (omega (arith, h.0), omega (arith, h.1));
  waits = λ x y' u v a b c d covers. elim (rows u v (omega arith) (omega arith)) [
    | inl none ↦ inl (none x y' a b covers)
    | inr has ↦ inr has
  ];
}
