-- What is kept of a set, by the marks of its runs.
use Rattle.std.proofs.Common.{◌≡◌, ℕ, ◌<◌, Bool, true, false, List, length, get_or, refl, ap, sym, subst, arith, ◌∙◌, inl, inr}
use Rattle.std.specs.Prelude.{◌⊎◌}
use Rattle.std.proofs.lemmas.Bool.{cases_lt, cases_eq, true≢false, false≢true}
use Rattle.mw_model.specs.declared.offsets.Offset.{Offset}
use Rattle.mw_model.specs.Pictures.{Picture, sample, IsSet}
use Rattle.mw_model.specs.Laws.{SameShape}
use Rattle.mw_model.proofs.ImagePlaces.{sample_bounded, same_picture, shape_sym, shape_trans}
use Rattle.mw_geodesic.specs.Neighbours.{IsPlace}
use Rattle.mw_geodesic_runs.specs.declared.runs.Run.{Run}
use Rattle.mw_geodesic_runs.specs.Runs.{run_numbered, HasPlace, AreInOrder, RunsBefore}
use Rattle.mw_geodesic_runs.specs.Components.{AreComponents}
use Rattle.mw_geodesic_runs.proofs.Joinings.{frame_run}
use Rattle.mw_geodesic_kept.specs.Keeping.{mark_of, LieInFrame, RunsWritten, IsKeptPart}

pub same_or_not : (a b : Bool) → (a ≡ b) ⊎ (a ≡ b → ⊥)
same_or_not true true = inl refl
same_or_not true false = inr (λ e. true≢false e)
same_or_not false true = inr (λ e. false≢true e)
same_or_not false false = inl refl

-- ---- places of the runs of a set

pub one_of : (f : Picture) (x y : ℕ) → IsSet f → IsPlace f x y → (sample f x y ≡ 0 → ⊥) → sample f x y ≡ 1
one_of f x y is_set place ne =
    let low = sample_bounded f is_set.picture x y place.column place.row in
    let top = is_set.maxval in
    elim (cases_eq (sample f x y) 0) [ inl none ↦ absurd (ne none) | inr some ↦ omega arith ]

pub run_place : (f : Picture) (runs : List Run) (i x y : ℕ) → RunsBefore f 0 f.height runs → i < length runs → HasPlace (run_numbered runs i) x y → IsPlace f x y
run_place f runs i x y before lt h =
    let frame = frame_run f runs i before lt in
    let within = frame.run.within in
    let down = frame.row in
    let to = h.to in
    let row = h.row in
    record { column = omega arith; row = omega arith }

pub run_sample : (f : Picture) (runs : List Run) (i x y : ℕ) → RunsBefore f 0 f.height runs → i < length runs → HasPlace (run_numbered runs i) x y → sample f x y ≡ 1
run_sample f runs i x y before lt h = ap (λ (t : ℕ). sample f x t) h.row ∙ (before.each i lt).inside x h.from h.to

two_runs : (runs : List Run) (i j x y : ℕ) → AreInOrder runs → i < j → j < length runs → HasPlace (run_numbered runs i) x y → HasPlace (run_numbered runs j) x y → ⊥
two_runs runs i j x y order less lt h h' =
    let row = h.row in
    let row' = h'.row in
    let to = h.to in
    let from = h'.from in
    elim (order.each i j less lt) [
      | inl above ↦ absurd (omega arith)
      | inr beside ↦ let gap = beside.1 in absurd (omega arith)
    ]

-- runs that hold one place are one
pub one_run : (runs : List Run) (i j x y : ℕ) → AreInOrder runs → i < length runs → j < length runs → HasPlace (run_numbered runs i) x y → HasPlace (run_numbered runs j) x y → i ≡ j
one_run runs i j x y order lt lt' h h' = elim (cases_lt i j) [
  | inl less ↦ absurd (two_runs runs i j x y order less lt' h h')
  | inr ge ↦ elim (cases_lt j i) [
    | inl less ↦ absurd (two_runs runs j i x y order less lt h' h)
    | inr le ↦ omega arith
  ]
]

pub lie : (e : List Offset) (f : Picture) (runs : List Run) (numbers : List ℕ) (count bound : ℕ) → AreComponents e f runs numbers count → ((i : ℕ) → i < length runs → get_or numbers i 0 < bound) → LieInFrame f.width f.height bound runs numbers
lie e f runs numbers count bound are bounded = record {
  size = are.size;
  some = λ i lt. (are.cut.each i lt).some;
  across = λ i lt. (are.cut.each i lt).within;
  down = λ i lt. (frame_run f runs i are.cut lt).row;
  bounded = bounded;
}

-- ---- the part that is kept

pub written_kept : (f blank g : Picture) (runs : List Run) (numbers : List ℕ) (marks : List Bool) (wanted : Bool) → RunsBefore f 0 f.height runs → SameShape blank f → ((x y : ℕ) → IsPlace blank x y → sample blank x y ≡ 0)
    → RunsWritten f runs numbers marks wanted (length runs) blank g → IsKeptPart f runs numbers marks wanted g
written_kept f blank g runs numbers marks wanted before shape none written =
    let wide = shape.width in
    let tall = shape.height in
    let there : (x y : ℕ) → IsPlace f x y → IsPlace blank x y = λ x y place. record { column = omega (arith, place.column); row = omega (arith, place.row) } in
    record {
      shape = shape_trans written.shape shape;
      size = written.size;
      kept = λ i x y lt mark h. written.inside i x y lt mark h ∙ run_sample f runs i x y before lt h;
      dropped = λ i x y lt other h.
          let place = there x y (run_place f runs i x y before lt h) in
          written.outside x y place (λ j lt' mark h'. other (subst (λ (t : ℕ). mark_of marks (get_or numbers t 0) ≡ wanted) (one_run runs j i x y before.order lt' lt h' h) mark)) ∙ none x y place;
      unset = λ x y place zero_here.
          written.outside x y (there x y place) (λ j lt mark h. let one = run_sample f runs j x y before lt h in absurd (omega arith)) ∙ none x y (there x y place);
    }

-- There is one such part.
pub one_part : (f g h : Picture) (runs : List Run) (numbers : List ℕ) (marks : List Bool) (wanted : Bool) → IsSet f → RunsBefore f 0 f.height runs → IsKeptPart f runs numbers marks wanted g → IsKeptPart f runs numbers marks wanted h → g ≡ h
one_part f g h runs numbers marks wanted is_set before a b =
    let wide = a.shape.width in
    let tall = a.shape.height in
    same_picture g h (shape_trans a.shape (shape_sym b.shape)) a.size b.size
    (λ x y p q.
    let place : IsPlace f x y = record { column = omega arith; row = omega arith } in
    elim (cases_eq (sample f x y) 0) [
      | inl none ↦ a.unset x y place none ∙ sym (b.unset x y place none)
      | inr ne ↦
          let run = before.all x y place.column (inl place.row) (one_of f x y is_set place ne) in
          elim (same_or_not (mark_of marks (get_or numbers run.at 0)) wanted) [
            | inl is ↦ a.kept run.at x y run.within is run.holds ∙ sym (b.kept run.at x y run.within is run.holds)
            | inr other ↦ a.dropped run.at x y run.within other run.holds ∙ sym (b.dropped run.at x y run.within other run.holds)
          ]
    ])
