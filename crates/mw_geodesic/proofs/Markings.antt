-- Labels: what holds while a component is marked, and between components.
use Rattle.std.proofs.Common.{◌≡◌, ◌≢◌, ℕ, zero, suc, ◌+◌, ◌*◌, ◌<◌, ◌≤◌, ◌⊎◌, List, [], ◌∷◌, length, get_or, drop, take, max, set, refl, ap, sym, subst, arith, ◌∙◌, inl, inr, cond, true, false, length-append}
use Rattle.std.specs.Prelude.{count_by, ◌==◌}
use Rattle.std.proofs.lemmas.Bool.{cases_lt, cases_eq, eq-eqb, ne_eqb}
use Rattle.std.proofs.lemmas.Nat.{mul-add-lt, same_from_place}
use Rattle.std.proofs.lemmas.List.{get_or-set_same, get_or-set_other, length-set, drop_all, take_all}
use Rattle.std.proofs.lemmas.List.Sums.{sum_by-set}
use Rattle.std.proofs.Math.Nat.{mul_comm}
use Rattle.mw_model.specs.declared.offsets.Offset.{Offset}
use Rattle.mw_model.specs.Pictures.{Picture, sample, IsSet}
use Rattle.mw_model.specs.Flat.{greatest}
use Rattle.mw_model.proofs.ImagePlaces.{sample_bounded, by_places}
use Rattle.mw_geodesic.specs.declared.neighbours.Place.{Place}
use Rattle.mw_geodesic.specs.Neighbours.{IsPlace, Joins, ElementCovers, IsSymmetric}
use Rattle.mw_geodesic.specs.Floods.{Has}
use Rattle.mw_geodesic.specs.Paths.{ends, goes, AreConnected}
use Rattle.mw_geodesic.specs.Labels.{label_at, IsLabelling}
use Rattle.mw_geodesic.specs.Markings.{PartlyLabelled, Marked, passed, marked, Visited, passed_by, named}
use Rattle.mw_geodesic.proofs.Raised.{has_pushed, has_last, has_split, covers_first, covers_at, one_behind, cases_place}
use Rattle.mw_geodesic.proofs.Components.{leads_itself, leads_from, leads_on, leads_back, point_is}

-- ---- one label set

in_labels : (f : Picture) (labels : List ℕ) (x y : ℕ) → length labels ≡ f.height * f.width → IsPlace f x y → y * f.width + x < length labels
in_labels f labels x y size place = omega (arith, size, mul-add-lt y f.width x f.height place.row place.column, mul_comm f.width f.height)

label_same : (f : Picture) (labels : List ℕ) (x y n : ℕ) → length labels ≡ f.height * f.width → IsPlace f x y → label_at f (set labels (y * f.width + x) n) x y ≡ n
label_same f labels x y n size place = get_or-set_same labels (y * f.width + x) n 0 (in_labels f labels x y size place)

label_other : (f : Picture) (labels : List ℕ) (x y n u v : ℕ) → IsPlace f x y → IsPlace f u v → ((u ≡ x) × (v ≡ y) → ⊥) → label_at f (set labels (y * f.width + x) n) u v ≡ label_at f labels u v
label_other f labels x y n u v place place' other =
    get_or-set_other labels (y * f.width + x) (v * f.width + u) n 0 (λ e.
    let one = same_from_place v u y x f.width place'.column place.column e in
    other (one.1, one.0))

-- ---- between components

-- ---- while a component is marked

-- what was labelled stays; what was not, and is, has the new label and is connected with the seed; and each place of the new label whose neighbours are not all labelled waits
pub record Marking (e : List Offset) (f : Picture) (n s t : ℕ) (old labels : List ℕ) (queue : List Place) : Type 0 where
  pub size : length labels ≡ f.height * f.width
  pub kept : (x y : ℕ) → IsPlace f x y → label_at f old x y ≢ 0 → label_at f labels x y ≡ label_at f old x y
  pub new : (x y : ℕ) → IsPlace f x y → label_at f old x y ≡ 0 → (label_at f labels x y ≡ 0) ⊎ ((label_at f labels x y ≡ n) × AreConnected e f x y s t)
  pub seed : label_at f labels s t ≡ n
  pub inside : (u v : ℕ) → Has queue u v → IsPlace f u v × (label_at f labels u v ≡ n) × (label_at f old u v ≡ 0)

pub record MarkingWaits (e : List Offset) (f : Picture) (n : ℕ) (labels : List ℕ) (queue : List Place) : Type 0 where
  pub waits : (x y u v : ℕ) → IsPlace f x y → IsPlace f u v → ElementCovers e x y u v → label_at f labels u v ≡ n → sample f x y ≡ 1 → (label_at f labels x y ≢ 0) ⊎ Has queue u v

pub record MarkingOthersWait (e : List Offset) (f : Picture) (n : ℕ) (labels : List ℕ) (queue : List Place) (q : Place) (i : ℕ) : Type 0 where
  pub waits : (x y u v : ℕ) → IsPlace f x y → IsPlace f u v → ElementCovers e x y u v → label_at f labels u v ≡ n → sample f x y ≡ 1
      → (label_at f labels x y ≢ 0) ⊎ (Has queue u v ⊎ ((u ≡ q.x) × (v ≡ q.y) × ElementCovers (drop i e) x y u v))

pub mark_taken_out : (e : List Offset) (f : Picture) (n : ℕ) (labels : List ℕ) (q : Place) (rest : List Place) → MarkingWaits e f n labels (q ∷ rest) → MarkingOthersWait e f n labels rest q 0
mark_taken_out e f n labels q rest all = record {
  waits = λ x y u v a b covers is one. elim (all.waits x y u v a b covers is one) [
    | inl done ↦ inl done
    | inr has ↦ elim has [
      | inl here ↦ inr (inr (sym here.0, sym here.1, covers))
      | inr there ↦ inr (inl there)
    ]
  ];
}

pub mark_all_offered : (e : List Offset) (f : Picture) (n : ℕ) (labels : List ℕ) (queue : List Place) (q : Place) (i : ℕ) → length e ≤ i → MarkingOthersWait e f n labels queue q i → MarkingWaits e f n labels queue
mark_all_offered e f n labels queue q i end others = record {
  waits = λ x y u v a b covers is one. elim (others.waits x y u v a b covers is one) [
    | inl done ↦ inl done
    | inr more ↦ elim more [
      | inl has ↦ inr has
      | inr left ↦ absurd (subst (λ (t : List Offset). ElementCovers t x y u v) (drop_all i e end) left.2)
    ]
  ];
}

pub mark_one_offered : (e : List Offset) (f : Picture) (n : ℕ) (labels : List ℕ) (queue : List Place) (q : Place) (i : ℕ) (d : Offset) (labels' : List ℕ) (after : List Place)
    → i < length e → 1 ≤ n → length labels ≡ f.height * f.width → MarkingOthersWait e f n labels queue q i → Marked f (get_or e i d) q n labels queue labels' after
    → MarkingOthersWait e f n labels' after q (i + 1)
mark_one_offered e f n labels queue q i d labels' after lt some size others (passed none) = record {
  waits = λ x y u v a b covers is one. elim (others.waits x y u v a b covers is one) [
    | inl done ↦ inl done
    | inr more ↦ elim more [
      | inl has ↦ inr (inl has)
      | inr left ↦ elim (covers_first e i d x y u v lt left.2) [
        | inl joins ↦
            let at : Joins (get_or e i d) x y q.x q.y = rw (← left.0, ← left.1) joins in
            inl (none x y a at one)
        | inr rest ↦ inr (inr (left.0, left.1, rest))
      ]
    ]
  ];
}
mark_one_offered e f n labels queue q i d labels' after lt some size others (marked p behind in_set empty) =
    let place : IsPlace f p.x p.y = record { column = behind.column; row = behind.row } in
    let here = label_same f labels p.x p.y n size place in
    record {
      waits = λ x y u v a b covers is one. elim (cases_place u v p.x p.y) [
        | inl source ↦ inr (inl (rw (source.0, source.1) (has_last queue p)))
        | inr elsewhere ↦ elim (cases_place x y p.x p.y) [
          | inl target ↦
              let now : label_at f (set labels (p.y * f.width + p.x) n) x y ≡ n = rw (target.0, target.1) here in
              inl (λ z. absurd (omega arith))
          | inr other ↦
              let from = label_other f labels p.x p.y n u v place b elsewhere in
              let to = label_other f labels p.x p.y n x y place a other in
              elim (others.waits x y u v a b covers (sym from ∙ is) one) [
                | inl done ↦ inl (λ z. done (sym to ∙ z))
                | inr more ↦ elim more [
                  | inl has ↦ inr (inl (has_pushed queue (p ∷ []) u v has))
                  | inr left ↦ elim (covers_first e i d x y u v lt left.2) [
                    | inl joins ↦
                        let at : Joins (get_or e i d) x y q.x q.y = rw (← left.0, ← left.1) joins in
                        absurd (other (one_behind (get_or e i d) x y p.x p.y q.x q.y at behind.joins))
                    | inr rest ↦ inr (inr (left.0, left.1, rest))
                  ]
                ]
              ]
        ]
      ];
    }

pub still_marking : (e : List Offset) (f : Picture) (n s t : ℕ) (old labels : List ℕ) (queue : List Place) (q : Place) (i : ℕ) (d : Offset) (labels' : List ℕ) (after : List Place)
    → i < length e → IsPlace f s t → IsPlace f q.x q.y → label_at f labels q.x q.y ≡ n → label_at f old q.x q.y ≡ 0 → 1 ≤ n → Marking e f n s t old labels queue
    → Marked f (get_or e i d) q n labels queue labels' after → Marking e f n s t old labels' after
still_marking e f n s t old labels queue q i d labels' after lt seed place_q is_q was_q some marking (passed none) = marking
still_marking e f n s t old labels queue q i d labels' after lt seed place_q is_q was_q some marking (marked p behind in_set empty) =
    let place : IsPlace f p.x p.y = record { column = behind.column; row = behind.row } in
    let here = label_same f labels p.x p.y n marking.size place in
    -- the place behind had no label before either
    let before : label_at f old p.x p.y ≡ 0 = elim (cases_eq (label_at f old p.x p.y) 0) [
      | inl e ↦ e
      | inr ne ↦ let kept = marking.kept p.x p.y place ne in absurd (ne (sym kept ∙ empty))
    ] in
    let from : AreConnected e f q.x q.y s t = elim (marking.new q.x q.y place_q was_q) [
      | inl none ↦ absurd (omega arith)
      | inr is ↦ is.1
    ] in
    let way : AreConnected e f p.x p.y s t = goes p.x p.y q.x q.y (record { column = place.column; row = place.row }) (omega arith) (covers_at e i d p.x p.y q.x q.y lt behind.joins) from in
    record {
      size = length-set labels (p.y * f.width + p.x) n ∙ marking.size;
      kept = λ x y a ne. elim (cases_place x y p.x p.y) [
        | inl same ↦ absurd (ne (rw (same.0, same.1) before))
        | inr other ↦ label_other f labels p.x p.y n x y place a other ∙ marking.kept x y a ne
      ];
      new = λ x y a zero_before. elim (cases_place x y p.x p.y) [
        | inl same ↦ inr (rw (same.0, same.1) (here, way))
        | inr other ↦
            let as_was = label_other f labels p.x p.y n x y place a other in
            elim (marking.new x y a zero_before) [
              | inl none ↦ inl (as_was ∙ none)
              | inr is ↦ inr (as_was ∙ is.0, is.1)
            ]
      ];
      seed = elim (cases_place s t p.x p.y) [
        | inl same ↦ rw (same.0, same.1) here
        | inr other ↦ label_other f labels p.x p.y n s t place seed other ∙ marking.seed
      ];
      inside = λ u v has. elim (has_split queue p u v has) [
        | inl was ↦
            let in_old = marking.inside u v was in
            elim (cases_place u v p.x p.y) [
              | inl same ↦ (in_old.0, rw (same.0, same.1) here, in_old.2)
              | inr other ↦ (in_old.0, label_other f labels p.x p.y n u v place in_old.0 other ∙ in_old.1, in_old.2)
            ]
        | inr e ↦ (rw (← e.0, ← e.1) place, rw (← e.0, ← e.1) here, rw (← e.0, ← e.1) before)
      ];
    }

-- ---- a component begins

pub marking_begins : (e : List Offset) (f : Picture) (count n s t : ℕ) (old : List ℕ) (p : Place) → p.x ≡ s → p.y ≡ t → n ≡ count + 1 → PartlyLabelled e f count old → IsPlace f s t → sample f s t ≡ 1
    → label_at f old s t ≡ 0 → Marking e f n s t old (set old (t * f.width + s) n) (p ∷ [])
marking_begins e f count n s t old p ex ey is partly seed one empty =
    let here = label_same f old s t n partly.size seed in
    record {
      size = length-set old (t * f.width + s) n ∙ partly.size;
      kept = λ x y a ne. elim (cases_place x y s t) [
        | inl same ↦ absurd (ne (rw (same.0, same.1) empty))
        | inr other ↦ label_other f old s t n x y seed a other
      ];
      new = λ x y a zero_before. elim (cases_place x y s t) [
        | inl same ↦ inr (rw (same.0, same.1) (here, leads_itself e f s t seed (omega arith)))
        | inr other ↦ inl (label_other f old s t n x y seed a other ∙ zero_before)
      ];
      seed = here;
      inside = λ u v has. elim has [
        | inl same ↦ rw (← same.0, ← same.1, ex, ey) (seed, here, empty)
        | inr none ↦ absurd none
      ];
    }

pub waits_begin : (e : List Offset) (f : Picture) (count n s t : ℕ) (old : List ℕ) (p : Place) → p.x ≡ s → p.y ≡ t → n ≡ count + 1 → PartlyLabelled e f count old → IsPlace f s t
    → MarkingWaits e f n (set old (t * f.width + s) n) (p ∷ [])
waits_begin e f count n s t old p ex ey is partly seed = record {
  waits = λ x y u v a b covers label one. elim (cases_place u v s t) [
    | inl same ↦ inr (inl (ex ∙ sym same.0, ey ∙ sym same.1))
    | inr other ↦
        let as_was = label_other f old s t n u v seed b other in
        let low = partly.bounded u v b in
        absurd (omega arith)
  ];
}

-- ---- a component ends

-- what a path joins with a place of the new label has it too
marks_path : (e : List Offset) (f : Picture) (count n s t : ℕ) (old labels : List ℕ) (x y u v : ℕ) → IsSymmetric e → IsSet f → PartlyLabelled e f count old → Marking e f n s t old labels []
    → MarkingWaits e f n labels [] → IsPlace f x y → label_at f labels x y ≡ n → label_at f old x y ≡ 0 → 1 ≤ n → AreConnected e f u v x y
    → IsPlace f u v × (label_at f labels u v ≡ n) × (label_at f old u v ≡ 0)
marks_path e f count n s t old labels x y u v turns is_set partly marking waits place label before some (ends u' v' place' high top) =
    let same = point_is f x y u' v' place'.column place'.row top in
    rw (same.0, same.1) (place, label, before)
marks_path e f count n s t old labels x y u v turns is_set partly marking waits place label before some (goes u' v' a b place' high covers rest) =
    let from = marks_path e f count n s t old labels x y a b turns is_set partly marking waits place label before some rest in
    let here : IsPlace f u' v' = record { column = place'.column; row = place'.row } in
    let low = sample_bounded f is_set.picture u' v' here.column here.row in
    let top = is_set.maxval in
    let one : sample f u' v' ≡ 1 = omega arith in
    let far = leads_from e f a b x y rest in
    let labelled : label_at f labels u' v' ≢ 0 = elim (waits.waits u' v' a b here from.0 covers from.1 one) [ inl ne ↦ ne | inr none ↦ absurd none ] in
    let fresh : label_at f old u' v' ≡ 0 = elim (cases_eq (label_at f old u' v') 0) [
      | inl e ↦ e
      | inr ne ↦
          let way : AreConnected e f u' v' a b = goes u' v' a b (record { column = here.column; row = here.row }) (omega arith) covers (leads_itself e f a b from.0 far.1) in
          let same = partly.whole u' v' a b here from.0 ne way in
          absurd (ne (same ∙ from.2))
    ] in
    elim (marking.new u' v' here fresh) [
      | inl none ↦ absurd (labelled none)
      | inr is ↦ (here, is.0, fresh)
    ]

-- the label tells which it was
old_or_new : (e : List Offset) (f : Picture) (n s t : ℕ) (old labels : List ℕ) (queue : List Place) (x y : ℕ) → Marking e f n s t old labels queue → IsPlace f x y → label_at f labels x y ≢ 0
    → ((label_at f old x y ≢ 0) × (label_at f labels x y ≡ label_at f old x y)) ⊎ ((label_at f old x y ≡ 0) × (label_at f labels x y ≡ n) × AreConnected e f x y s t)
old_or_new e f n s t old labels queue x y marking place ne = elim (cases_eq (label_at f old x y) 0) [
  | inr was ↦ inl (was, marking.kept x y place was)
  | inl none ↦ elim (marking.new x y place none) [
    | inl still ↦ absurd (ne still)
    | inr is ↦ inr (none, is.0, is.1)
  ]
]

pub marking_ended : (e : List Offset) (f : Picture) (count n s t : ℕ) (old labels : List ℕ) (queue : List Place) → queue ≡ [] → IsSymmetric e → IsSet f → n ≡ count + 1 → PartlyLabelled e f count old
    → IsPlace f s t → Marking e f n s t old labels queue → MarkingWaits e f n labels queue → PartlyLabelled e f n labels
marking_ended e f count n s t old labels queue no_queue turns is_set is partly seed marking' waits' =
    let marking : Marking e f n s t old labels [] = subst (λ (q : List Place). Marking e f n s t old labels q) no_queue marking' in
    let waits : MarkingWaits e f n labels [] = subst (λ (q : List Place). MarkingWaits e f n labels q) no_queue waits' in
    record {
      size = marking.size;
      in_set = λ x y a ne. elim (old_or_new e f n s t old labels [] x y marking a ne) [
        | inl was ↦ partly.in_set x y a was.0
        | inr now ↦
            let from = leads_from e f x y s t now.2 in
            let low = sample_bounded f is_set.picture x y a.column a.row in
            let top = is_set.maxval in
            omega (arith, from.1)
      ];
      bounded = λ x y a. elim (cases_eq (label_at f labels x y) 0) [
        | inl none ↦ omega arith
        | inr ne ↦ elim (old_or_new e f n s t old labels [] x y marking a ne) [
          | inl was ↦ let low = partly.bounded x y a in omega (arith, was.1)
          | inr now ↦ omega (arith, now.1)
        ]
      ];
      sound = λ x y u v a b ne same.
          let ne' : label_at f labels u v ≢ 0 = λ z. ne (same ∙ z) in
          elim (old_or_new e f n s t old labels [] x y marking a ne) [
            | inl was ↦ elim (old_or_new e f n s t old labels [] u v marking b ne') [
              | inl was' ↦ partly.sound x y u v a b was.0 (sym was.1 ∙ same ∙ was'.1)
              | inr now' ↦ let low = partly.bounded x y a in absurd (omega (arith, was.1, now'.1))
            ]
            | inr now ↦ elim (old_or_new e f n s t old labels [] u v marking b ne') [
              | inl was' ↦ let low = partly.bounded u v b in absurd (omega (arith, now.1, was'.1))
              | inr now' ↦
                  let from = leads_from e f u v s t now'.2 in
                  let back = leads_back e f s t u v u v turns now'.2 (leads_itself e f u v from.0 from.1) in
                  leads_on e f s t u v x y now.2 back
            ]
          ];
      whole = λ x y u v a b ne way.
          let from = leads_from e f x y u v way in
          let back = leads_back e f u v x y x y turns way (leads_itself e f x y from.0 from.1) in
          elim (old_or_new e f n s t old labels [] x y marking a ne) [
            | inl was ↦
                let same = partly.whole x y u v a b was.0 way in
                let kept = marking.kept u v b (λ z. was.0 (same ∙ z)) in
                was.1 ∙ same ∙ sym kept
            | inr now ↦
                let there = marks_path e f count n s t old labels x y u v turns is_set partly marking waits a now.1 now.0 (omega arith) back in
                now.1 ∙ sym there.1
          ];
    }

-- ---- what is left to do

abbrev pub without_label : List ℕ → ℕ
without_label labels = count_by (λ l. l == 0) labels

abbrev pub mark_cost : List ℕ → List Place → ℕ
mark_cost labels queue = 2 * without_label labels + length queue

pub marks_cost : (f : Picture) (b : Offset) (q : Place) (n : ℕ) (labels : List ℕ) (queue : List Place) (labels' : List ℕ) (after : List Place) → 1 ≤ n → length labels ≡ f.height * f.width
    → Marked f b q n labels queue labels' after → mark_cost labels' after ≤ mark_cost labels queue
marks_cost f b q n labels queue labels' after some size (passed none) = omega arith
marks_cost f b q n labels queue labels' after some size (marked p behind in_set empty) =
    let less = sum_by-set (λ l. cond (l == 0) 1 0) labels (p.y * f.width + p.x) n 0 (in_labels f labels p.x p.y size (record { column = behind.column; row = behind.row })) in
    let was : (label_at f labels p.x p.y == 0) ≡ true = eq-eqb _ _ empty in
    let is : (n == 0) ≡ false = ne_eqb n 0 (λ z. absurd (omega arith)) in
    let now = rw (was, is) at less in
    omega (arith, length-append queue (p ∷ []), now)

-- what has the new label keeps it by a step
pub still_there : (f : Picture) (b : Offset) (q : Place) (n : ℕ) (labels : List ℕ) (queue : List Place) (labels' : List ℕ) (after : List Place) → IsPlace f q.x q.y → 1 ≤ n
    → length labels ≡ f.height * f.width → label_at f labels q.x q.y ≡ n → Marked f b q n labels queue labels' after → label_at f labels' q.x q.y ≡ 0 → ⊥
still_there f b q n labels queue labels' after place some size is (passed none) z = absurd (omega arith)
still_there f b q n labels queue labels' after place some size is (marked p behind in_set empty) z =
    let at : IsPlace f p.x p.y = record { column = behind.column; row = behind.row } in
    elim (cases_place q.x q.y p.x p.y) [
      | inl same ↦
          let here : label_at f (set labels (p.y * f.width + p.x) n) q.x q.y ≡ n = rw (same.0, same.1) (label_same f labels p.x p.y n size at) in
          absurd (omega arith)
      | inr other ↦ let as_was = label_other f labels p.x p.y n q.x q.y at place other in absurd (omega arith)
    ]

-- ---- the scan

-- the places before number i are labelled, and their labels rise by one at a time
pub record Scanned (e : List Offset) (f : Picture) (count : ℕ) (labels : List ℕ) (i : ℕ) : Type 0 where
  pub partly : PartlyLabelled e f count labels
  pub before : (j : ℕ) → j < i → get_or f.samples j 0 ≡ 1 → get_or labels j 0 ≢ 0
  pub rises : (j : ℕ) → j < i → get_or labels j 0 ≤ greatest (take j labels) + 1
  pub counted : greatest (take i labels) ≡ count

pub greatest_more : (xs : List ℕ) (i : ℕ) → i < length xs → greatest (take (suc i) xs) ≡ max (greatest (take i xs)) (get_or xs i 0)
greatest_more [] i lt = absurd (omega arith)
greatest_more (x ∷ xs) zero lt = omega arith
greatest_more (x ∷ xs) (suc i) lt = let rest = greatest_more xs i (omega arith) in omega arith

pub same_front : (xs ys : List ℕ) (i : ℕ) → length xs ≡ length ys → ((j : ℕ) → j < i → get_or xs j 0 ≡ get_or ys j 0) → take i xs ≡ take i ys
same_front xs ys zero e each = refl
same_front [] [] (suc i) e each = refl
same_front [] (y ∷ ys) (suc i) e each = absurd (omega arith)
same_front (x ∷ xs) [] (suc i) e each = absurd (omega arith)
same_front (x ∷ xs) (y ∷ ys) (suc i) e each =
    let head : x ≡ y = each zero (omega arith) in
    let tail : take i xs ≡ take i ys = same_front xs ys i (omega arith) (λ j p. each (suc j) (omega arith)) in
    cc

-- a place by its number
pub place_of : (f : Picture) (P : ℕ → Type 0) → ((x y : ℕ) → IsPlace f x y → P (y * f.width + x)) → (j : ℕ) → j < f.height * f.width → P j
place_of f P each j lt = by_places P f.width f.height (λ x y p q. each x y (record { column = p; row = q })) j lt

pub scan_begins : (e : List Offset) (f : Picture) (labels : List ℕ) → length labels ≡ f.height * f.width → ((j : ℕ) → get_or labels j 0 ≡ 0) → Scanned e f 0 labels 0
scan_begins e f labels size none = record {
  partly = record {
    size = size;
    in_set = λ x y a ne. absurd (ne (none (y * f.width + x)));
    bounded = λ x y a. omega (arith, none (y * f.width + x));
    sound = λ x y u v a b ne same. absurd (ne (none (y * f.width + x)));
    whole = λ x y u v a b ne way. absurd (ne (none (y * f.width + x)));
  };
  before = λ j lt. absurd (omega arith);
  rises = λ j lt. absurd (omega arith);
  counted = refl;
}

pub scan_on : (e : List Offset) (f : Picture) (count : ℕ) (labels : List ℕ) (x y count' : ℕ) (labels' : List ℕ) → IsPlace f x y → Visited e f x y count labels count' labels'
    → Scanned e f count labels (y * f.width + x) → Scanned e f count' labels' (suc (y * f.width + x))
scan_on e f count labels x y count' labels' place (passed_by told) scanned =
    let i = y * f.width + x in
    let within = in_labels f labels x y scanned.partly.size place in
    let more = greatest_more labels i within in
    let low = scanned.partly.bounded x y place in
    record {
      partly = scanned.partly;
      before = λ j lt one. elim (cases_lt j i) [
        | inl less ↦ scanned.before j less one
        | inr far ↦
            let same : j ≡ i = omega arith in
            rw same (told (rw (← same) one))
      ];
      rises = λ j lt. elim (cases_lt j i) [
        | inl less ↦ scanned.rises j less
        | inr far ↦
            let same : j ≡ i = omega arith in
            let top = scanned.counted in
            rw same (omega arith)
      ];
      counted = let top = scanned.counted in omega arith;
    }
scan_on e f count labels x y count' labels' place (named after one empty partly kept is) scanned =
    let i = y * f.width + x in
    let old = scanned.partly in
    let same_length : length labels' ≡ length labels = partly.size ∙ sym old.size in
    let within = in_labels f labels' x y partly.size place in
    let unchanged : (j : ℕ) → j < i → get_or labels' j 0 ≡ get_or labels j 0 = λ j lt. as_before j lt (omega (arith, old.size)) in
    let front : take i labels' ≡ take i labels = same_front labels' labels i same_length unchanged in
    let more = greatest_more labels' i within in
    let top : greatest (take i labels') ≡ count = ap greatest front ∙ scanned.counted in
    record {
      partly = partly;
      before = λ j lt one'. elim (cases_lt j i) [
        | inl less ↦ (λ z. scanned.before j less one' (sym (unchanged j less) ∙ z))
        | inr far ↦
            let same : j ≡ i = omega arith in
            rw same (λ z. absurd (omega arith))
      ];
      rises = λ j lt. elim (cases_lt j i) [
        | inl less ↦
            let part : take j labels' ≡ take j labels = same_front labels' labels j same_length (λ k p. unchanged k (omega arith)) in
            let was = scanned.rises j less in
            let now = unchanged j less in
            rw part (omega arith)
        | inr far ↦
            let same : j ≡ i = omega arith in
            rw same (omega arith)
      ];
      counted = omega arith;
    }
  where
    as_before : (j : ℕ) → j < y * f.width + x → j < f.height * f.width → get_or labels' j 0 ≡ get_or labels j 0
    as_before j lt in_frame =
        place_of f (λ k. k < y * f.width + x → get_or labels' k 0 ≡ get_or labels k 0)
        (λ u v a less. elim (cases_eq (label_at f labels u v) 0) [
          | inr ne ↦ kept u v a ne
          | inl none ↦ elim (cases_eq (label_at f labels' u v) 0) [
            | inl still ↦ still ∙ sym none
            | inr ne ↦ absurd (scanned.before (v * f.width + u) less (partly.in_set u v a ne) none)
          ]
        ]) j in_frame lt

pub scan_ended : (e : List Offset) (f : Picture) (count : ℕ) (labels : List ℕ) (i : ℕ) → IsSet f → i ≡ f.height * f.width → Scanned e f count labels i → IsLabelling e f count labels
scan_ended e f count labels i is_set end scanned =
    let partly = scanned.partly in
    let all : (x y : ℕ) → IsPlace f x y → sample f x y ≡ 1 → label_at f labels x y ≢ 0 =
    λ x y a one. scanned.before (y * f.width + x) (omega (arith, end, in_labels f labels x y partly.size a, partly.size)) one in
    record {
      size = partly.size;
      outside = λ x y a. (
        (λ none. elim (cases_eq (sample f x y) 0) [
          | inl zero_here ↦ zero_here
          | inr ne ↦
              let low = sample_bounded f is_set.picture x y a.column a.row in
              let top = is_set.maxval in
              absurd (all x y a (omega arith) none)
        ]),
        (λ zero_here. elim (cases_eq (label_at f labels x y) 0) [
          | inl none ↦ none
          | inr ne ↦ let one = partly.in_set x y a ne in absurd (omega arith)
        ]),
      );
      one = λ x y u v a b one. (partly.sound x y u v a b (all x y a one), partly.whole x y u v a b (all x y a one));
      rises = λ j lt. scanned.rises j (omega (arith, partly.size));
      counted = ap greatest (sym (take_all i labels (omega (arith, partly.size)))) ∙ scanned.counted;
    }

pub visited_few : (e : List Offset) (f : Picture) (x y count : ℕ) (labels : List ℕ) (count' : ℕ) (labels' : List ℕ) → Visited e f x y count labels count' labels' → count' ≤ count + 1
visited_few e f x y count labels count' labels' (passed_by told) = omega arith
visited_few e f x y count labels count' labels' (named after one empty partly kept is) = omega arith
