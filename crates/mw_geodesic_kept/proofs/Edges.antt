-- The components that touch the border of the frame.
use Rattle.std.proofs.Common.{◌≡◌, ℕ, ◌+◌, ◌-◌, ◌<◌, ◌≤◌, Bool, true, false, List, length, get_or, refl, ap, sym, arith, ◌∙◌, inl, inr}
use Rattle.std.specs.Prelude.{◌⊎◌, ◌||◌, ◌==◌, if◌then◌else◌}
use Rattle.std.proofs.lemmas.Bool.{cases_Bool, eq-eqb, eqb-true, true≢false}
use Rattle.mw_model.specs.declared.offsets.Offset.{Offset}
use Rattle.mw_model.specs.Pictures.{Picture, sample, IsSet}
use Rattle.mw_model.specs.Flat.{complement}
use Rattle.mw_model.proofs.ImagePlaces.{sample-redrawn, drawn_same, length-rows}
use Rattle.mw_geodesic.specs.Neighbours.{IsPlace}
use Rattle.mw_geodesic.specs.Geodesics.{reconstruction}
use Rattle.mw_geodesic.specs.Reconstructions.{at_border, border_over, border_cleared, holes_filled}
use Rattle.mw_geodesic.proofs.Borders.{sample-border_over, border_picture}
use Rattle.mw_geodesic_runs.specs.declared.runs.Run.{Run}
use Rattle.mw_geodesic_runs.specs.Runs.{run_numbered}
use Rattle.mw_geodesic_runs.specs.Components.{AreComponents}
use Rattle.mw_geodesic_runs.proofs.Joinings.{IsFrameRun, frame_run}
use Rattle.mw_geodesic_kept.specs.Keeping.{mark_of, HasPixelOf, IsAtEdge, AreMarked, IsKeptPart, touching_or_not}
use Rattle.mw_geodesic_kept.proofs.Kept.{run_place, run_sample}
use Rattle.mw_geodesic_kept.proofs.Marking.{marked_as}
use Rattle.mw_geodesic_kept.proofs.Rebuilt.{met_part}

-- ---- what stands at the border

any_of : (a b c d : Bool) → (a ≡ true) ⊎ ((b ≡ true) ⊎ ((c ≡ true) ⊎ (d ≡ true))) → (a || b || c || d) ≡ true
any_of true b c d e = refl
any_of false true c d e = refl
any_of false false true d e = refl
any_of false false false true e = refl
any_of false false false false (inl e) = e
any_of false false false false (inr (inl e)) = e
any_of false false false false (inr (inr (inl e))) = e
any_of false false false false (inr (inr (inr e))) = e

which_of : (a b c d : Bool) → (a || b || c || d) ≡ true → (a ≡ true) ⊎ ((b ≡ true) ⊎ ((c ≡ true) ⊎ (d ≡ true)))
which_of true b c d e = inl refl
which_of false true c d e = inr (inl refl)
which_of false false true d e = inr (inr (inl refl))
which_of false false false d e = inr (inr (inr e))

-- the place stands in the first or the last column or row
abbrev Outermost : Picture → ℕ → ℕ → Type 0
Outermost f x y = (x ≡ 0) ⊎ ((y ≡ 0) ⊎ ((x + 1 ≡ f.width) ⊎ (y + 1 ≡ f.height)))

border_from : (f : Picture) (x y : ℕ) → Outermost f x y → at_border f x y ≡ true
border_from f x y out = any_of (x == 0) (y == 0) (x + 1 == f.width) (y + 1 == f.height) (elim out [
  | inl e ↦ inl (eq-eqb x 0 e)
  | inr rest ↦ elim rest [
    | inl e ↦ inr (inl (eq-eqb y 0 e))
    | inr rest' ↦ elim rest' [
      | inl e ↦ inr (inr (inl (eq-eqb (x + 1) f.width e)))
      | inr e ↦ inr (inr (inr (eq-eqb (y + 1) f.height e)))
    ]
  ]
])

border_to : (f : Picture) (x y : ℕ) → at_border f x y ≡ true → Outermost f x y
border_to f x y is = elim (which_of (x == 0) (y == 0) (x + 1 == f.width) (y + 1 == f.height) is) [
  | inl e ↦ inl (eqb-true x 0 e)
  | inr rest ↦ elim rest [
    | inl e ↦ inr (inl (eqb-true y 0 e))
    | inr rest' ↦ elim rest' [
      | inl e ↦ inr (inr (inl (eqb-true (x + 1) f.width e)))
      | inr e ↦ inr (inr (inr (eqb-true (y + 1) f.height e)))
    ]
  ]
]

pixel_at : (f : Picture) (r : Run) (x : ℕ) → IsFrameRun f r → r.first ≤ x → x < r.end → Outermost f x r.row → HasPixelOf (border_over 0 f) r
pixel_at f r x run from to out =
    let within = run.run.within in
    let column : x < f.width = omega arith in
    record {
      at = x;
      from = from;
      to = to;
      is = sample-border_over 0 f x r.row column run.row ∙ rw (border_from f x r.row out) (run.run.inside x from to);
    }

edge_pixel : (f : Picture) (r : Run) → IsFrameRun f r → IsAtEdge f.width f.height r → HasPixelOf (border_over 0 f) r
edge_pixel f r run (inl top) = let some = run.run.some in pixel_at f r r.first run (omega arith) some (inr (inl top))
edge_pixel f r run (inr (inl bottom)) = let some = run.run.some in pixel_at f r r.first run (omega arith) some (inr (inr (inr bottom)))
edge_pixel f r run (inr (inr (inl left))) = let some = run.run.some in pixel_at f r r.first run (omega arith) some (inl left)
edge_pixel f r run (inr (inr (inr right))) =
    let some = run.run.some in
    let last : r.end - 1 + 1 ≡ f.width = omega arith in
    pixel_at f r (r.end - 1) run (omega arith) (omega arith) (inr (inr (inl last)))

pixel_edge : (f : Picture) (r : Run) → IsFrameRun f r → HasPixelOf (border_over 0 f) r → IsAtEdge f.width f.height r
pixel_edge f r run pixel =
    let x = pixel.at in
    let within = run.run.within in
    let from = pixel.from in
    let to = pixel.to in
    let one = pixel.is in
    let is = sample-border_over 0 f x r.row (omega arith) run.row in
    elim (cases_Bool (at_border f x r.row)) [
      | inr inner ↦
          let none : sample (border_over 0 f) x r.row ≡ 0 = is ∙ rw inner refl in
          absurd (omega arith)
      | inl edge ↦ elim (border_to f x r.row edge) [
        | inl left ↦ inr (inr (inl (omega arith)))
        | inr rest ↦ elim rest [
          | inl top ↦ inl top
          | inr rest' ↦ elim rest' [
            | inl right ↦ inr (inr (inr (omega arith)))
            | inr bottom ↦ inr (inl bottom)
          ]
        ]
      ]
    ]

-- ---- what touches the border, and what does not

border_set : (f : Picture) → IsSet f → IsSet (border_over 0 f)
border_set f is_set = record { picture = border_picture 0 f is_set.picture (omega arith); kind = is_set.kind; maxval = is_set.maxval }

touching_part : (e : List Offset) (f : Picture) (runs : List Run) (numbers : List ℕ) (marks : List Bool) (count : ℕ) → AreComponents e f runs numbers count → AreMarked (IsAtEdge f.width f.height) runs numbers (length runs) marks
    → IsKeptPart f runs numbers marks true (reconstruction e f (border_over 0 f))
touching_part e f runs numbers marks count are marked =
    met_part e f (border_over 0 f) runs numbers marks count are (border_set f are.set) (record { kind = refl; width = refl; height = refl; maxval = refl })
    (marked_as (IsAtEdge f.width f.height) (HasPixelOf (border_over 0 f)) runs numbers (length runs) marks
    (λ i lt edge. edge_pixel f (run_numbered runs i) (frame_run f runs i are.cut lt) edge)
    (λ i lt pixel. pixel_edge f (run_numbered runs i) (frame_run f runs i are.cut lt) pixel)
    marked)

-- what is left without a part that is kept is kept by the other mark
cleared_part : (e : List Offset) (f : Picture) (runs : List Run) (numbers : List ℕ) (marks : List Bool) (count : ℕ) → AreComponents e f runs numbers count → IsKeptPart f runs numbers marks true (reconstruction e f (border_over 0 f))
    → IsKeptPart f runs numbers marks false (border_cleared e f)
cleared_part e f runs numbers marks count are touching =
    let r = reconstruction e f (border_over 0 f) in
    let at : (x y : ℕ) → IsPlace f x y → sample (border_cleared e f) x y ≡ sample f x y - sample r x y = λ x y place. sample-redrawn f (λ x y. sample f x y - sample r x y) x y place.column place.row in
    record {
      shape = record { kind = refl; width = refl; height = refl; maxval = refl };
      size = length-rows (λ x y. sample f x y - sample r x y) f.width 0 f.height;
      kept = λ i x y lt mark h.
          let is = at x y (run_place f runs i x y are.cut lt h) in
          let one = run_sample f runs i x y are.cut lt h in
          let none = touching.dropped i x y lt (λ marked. true≢false (sym marked ∙ mark)) h in
          omega arith;
      dropped = λ i x y lt other h. elim (cases_Bool (mark_of marks (get_or numbers i 0))) [
        | inr unmarked ↦ absurd (other unmarked)
        | inl marked ↦
            let is = at x y (run_place f runs i x y are.cut lt h) in
            let one = run_sample f runs i x y are.cut lt h in
            let all = touching.kept i x y lt marked h in
            omega arith
      ];
      unset = λ x y place none. let is = at x y place in omega arith;
    }

pub border_part : (e : List Offset) (f : Picture) (runs : List Run) (numbers : List ℕ) (marks : List Bool) (wanted : Bool) (count : ℕ) → AreComponents e f runs numbers count → AreMarked (IsAtEdge f.width f.height) runs numbers (length runs) marks
    → IsKeptPart f runs numbers marks wanted (touching_or_not e wanted f)
border_part e f runs numbers marks true count are marked = touching_part e f runs numbers marks count are marked
border_part e f runs numbers marks false count are marked = cleared_part e f runs numbers marks count are (touching_part e f runs numbers marks count are marked)

-- ---- holes

border_of_complement : (f : Picture) → complement (border_over f.maxval f) ≡ border_over 0 (complement f)
border_of_complement f =
    drawn_same f.kind f.width f.height f.maxval (λ x y. f.maxval - sample (border_over f.maxval f) x y) (λ x y. if at_border f x y then sample (complement f) x y else 0)
    (λ x y p q.
    let is = sample-redrawn f (λ x y. if at_border f x y then sample f x y else f.maxval) x y p q in
    let turned = sample-redrawn f (λ x y. f.maxval - sample f x y) x y p q in
    elim (cases_Bool (at_border f x y)) [
      | inl edge ↦
          let here : sample (border_over f.maxval f) x y ≡ sample f x y = is ∙ rw edge refl in
          let there : (if at_border f x y then sample (complement f) x y else 0) ≡ sample (complement f) x y = rw edge refl in
          ap (λ (t : ℕ). f.maxval - t) here ∙ sym turned ∙ sym there
      | inr inner ↦
          let here : sample (border_over f.maxval f) x y ≡ f.maxval = is ∙ rw inner refl in
          let there : (if at_border f x y then sample (complement f) x y else 0) ≡ 0 = rw inner refl in
          let nothing : f.maxval - f.maxval ≡ 0 = omega arith in
          ap (λ (t : ℕ). f.maxval - t) here ∙ nothing ∙ sym there
    ])

-- Holes are what is not reached from the border outside the set.
pub filled_by_flips : (e : List Offset) (f outside touching filled : Picture) → holes_filled e f ≡ complement (reconstruction e (complement f) (complement (border_over f.maxval f))) → outside ≡ complement f → touching ≡ touching_or_not e true outside → filled ≡ complement touching
    → filled ≡ holes_filled e f
filled_by_flips e f outside touching filled dual outside_is touching_is filled_is =
    filled_is
    ∙ ap complement (touching_is ∙ ap (λ (t : Picture). reconstruction e t (border_over 0 t)) outside_is ∙ ap (reconstruction e (complement f)) (sym (border_of_complement f)))
    ∙ sym dual
