-- Runs that touch are connected, and runs of one component have its first place in common.
use Rattle.std.proofs.Common.{◌≡◌, ℕ, zero, suc, ◌+◌, ◌-◌, ◌*◌, ◌<◌, ◌≤◌, List, length, get_or, refl, ap, sym, subst, arith, ◌∙◌, inl, inr}
use Rattle.std.specs.Prelude.{◌==◌}
use Rattle.std.proofs.lemmas.Bool.{cases_lt, eqb-true, eq-eqb, false≢true}
use Rattle.std.proofs.lemmas.List.Sums.{fails_before_first, passes_at_first}
use Rattle.std.proofs.lemmas.Nat.{mul-add-lt}
use Rattle.std.proofs.Math.Nat.{mul_comm}
use Rattle.mw_model.specs.declared.offsets.Offset.{Offset}
use Rattle.mw_model.specs.Pictures.{Picture, sample, IsSet}
use Rattle.mw_model.proofs.ImagePlaces.{sample_bounded, by_places}
use Rattle.mw_geodesic.specs.Neighbours.{IsPlace, ElementCovers, IsSymmetric, neighbours_of}
use Rattle.mw_geodesic.specs.Paths.{goes, point, AreConnected}
use Rattle.mw_geodesic.specs.Components.{component, first_place}
use Rattle.mw_geodesic.proofs.Geodesic.{spread_shape}
use Rattle.mw_geodesic.proofs.Reconstructed.{rebuilt_size, rebuilt_within}
use Rattle.mw_geodesic.proofs.Components.{leads_itself, leads_from, leads_on, leads_back, in_component, own_component, one_component}
use Rattle.mw_geodesic.specs.declared.neighbours.Neighbours.{Neighbours}
use Rattle.mw_geodesic_runs.specs.declared.runs.Run.{Run}
use Rattle.mw_geodesic_runs.specs.Runs.{run_numbered, HasPlace, IsRunOfSet, RunsBefore}
use Rattle.mw_geodesic_runs.specs.Touching.{columns_reached, Touches, Agree}
use Rattle.mw_geodesic_runs.proofs.Sides.{symmetric, step_left, step_down}

-- ---- paths

-- there is a path back
turns_back : (e : List Offset) (f : Picture) (x y u v : ℕ) → IsSymmetric e → AreConnected e f x y u v → AreConnected e f u v x y
turns_back e f x y u v turns way = let from = leads_from e f x y u v way in leads_back e f u v x y x y turns way (leads_itself e f x y from.0 from.1)

one_step : (e : List Offset) (f : Picture) (x y u v : ℕ) → IsPlace f x y → IsPlace f u v → 1 ≤ sample f x y → 1 ≤ sample f u v → ElementCovers e x y u v → AreConnected e f x y u v
one_step e f x y u v here there high high' covers = goes x y u v (record { column = here.column; row = here.row }) high covers (leads_itself e f u v there high')

-- a run of a frame
pub record IsFrameRun (f : Picture) (r : Run) : Type 0 where
  pub run : IsRunOfSet f r
  pub row : r.row < f.height

pub frame_run : (f : Picture) (runs : List Run) (i : ℕ) → RunsBefore f 0 f.height runs → i < length runs → IsFrameRun f (run_numbered runs i)
frame_run f runs i before lt =
    let run = before.each i lt in
    let some = run.some in
    record {
      run = run;
      row = elim (before.ends i lt) [
        | inl above ↦ above
        | inr none ↦ absurd (omega (arith, none.1))
      ];
    }

run_place : (f : Picture) (r : Run) (x : ℕ) → IsFrameRun f r → x < r.end → IsPlace f x r.row
run_place f r x run lt = let within = run.run.within in record { column = omega arith; row = run.row }

run_high : (f : Picture) (r : Run) (x : ℕ) → IsFrameRun f r → r.first ≤ x → x < r.end → 1 ≤ sample f x r.row
run_high f r x run from to = let one = run.run.inside x from to in omega arith

to_first : (n : Neighbours) (f : Picture) (r : Run) (k x : ℕ) → IsFrameRun f r → x ≡ r.first + k → x < r.end → AreConnected (neighbours_of n) f x r.row r.first r.row
to_first n f r zero x run is lt =
    let same : x ≡ r.first = omega arith in
    let here : AreConnected (neighbours_of n) f r.first r.row r.first r.row = leads_itself (neighbours_of n) f r.first r.row (run_place f r r.first run (omega arith)) (run_high f r r.first run (omega arith) (omega arith)) in
    subst (λ (t : ℕ). AreConnected (neighbours_of n) f t r.row r.first r.row) (sym same) here
to_first n f r (suc k) x run is lt =
    let next : x ≡ r.first + k + 1 = omega arith in
    let rest = to_first n f r k (r.first + k) run refl (omega arith) in
    let covers : ElementCovers (neighbours_of n) x r.row (r.first + k) r.row = subst (λ (t : ℕ). ElementCovers (neighbours_of n) t r.row (r.first + k) r.row) (sym next) (step_left n (r.first + k) r.row) in
    let place = run_place f r x run lt in
    goes x r.row (r.first + k) r.row (record { column = place.column; row = place.row }) (run_high f r x run (omega arith) lt) covers rest

to_first_place : (n : Neighbours) (f : Picture) (r : Run) (x y : ℕ) → IsFrameRun f r → HasPlace r x y → AreConnected (neighbours_of n) f x y r.first r.row
to_first_place n f r x y run holds =
    let from = holds.from in
    let to = holds.to in
    subst (λ (t : ℕ). AreConnected (neighbours_of n) f x t r.first r.row) (sym holds.row) (to_first n f r (x - r.first) x run (omega arith) to)

in_one_run : (n : Neighbours) (f : Picture) (r : Run) (x u : ℕ) → IsFrameRun f r → r.first ≤ x → x < r.end → r.first ≤ u → u < r.end → AreConnected (neighbours_of n) f x r.row u r.row
in_one_run n f r x u run from to from' to' =
    leads_on (neighbours_of n) f r.first r.row u r.row x r.row (to_first n f r (x - r.first) x run (omega arith) to)
    (turns_back (neighbours_of n) f u r.row r.first r.row (symmetric n) (to_first n f r (u - r.first) u run (omega arith) to'))

-- ---- runs that touch

-- columns at which they do
record Meet (reach : ℕ) (a b : Run) : Type 0 where
  x : ℕ
  u : ℕ
  from : a.first ≤ x
  to : x < a.end
  from' : b.first ≤ u
  to' : u < b.end
  low : x ≤ u + reach
  high : u ≤ x + reach

meet : (reach : ℕ) (a b : Run) → a.first < a.end → b.first < b.end → Touches reach a b → Meet reach a b
meet reach a b some some' t =
    let left = t.left in
    let right = t.right in
    elim (cases_lt b.first a.first) [
      | inr le ↦ elim (cases_lt b.first a.end) [
        | inl inside ↦ record { x = b.first; u = b.first; from = le; to = inside; from' = omega arith; to' = some'; low = omega arith; high = omega arith }
        | inr past ↦ record { x = a.end - 1; u = b.first; from = omega arith; to = omega arith; from' = omega arith; to' = some'; low = omega arith; high = omega arith }
      ]
      | inl less ↦ elim (cases_lt a.first b.end) [
        | inl inside ↦ record { x = a.first; u = a.first; from = omega arith; to = some; from' = omega arith; to' = inside; low = omega arith; high = omega arith }
        | inr past ↦ record { x = a.first; u = b.end - 1; from = omega arith; to = some; from' = omega arith; to' = omega arith; low = omega arith; high = omega arith }
      ]
    ]

touching_joined : (n : Neighbours) (f : Picture) (a b : Run) → IsFrameRun f a → IsFrameRun f b → Touches (columns_reached n) a b → AreConnected (neighbours_of n) f a.first a.row b.first b.row
touching_joined n f a b run run' t =
    let e = neighbours_of n in
    let some = run.run.some in
    let some' = run'.run.some in
    let m = meet (columns_reached n) a b some some' t in
    let covers : ElementCovers (neighbours_of n) m.x a.row m.u b.row = subst (λ (t : ℕ). ElementCovers (neighbours_of n) m.x a.row m.u t) (sym t.below) (step_down n m.x a.row m.u m.low m.high) in
    let first = in_one_run n f a a.first m.x run (omega arith) some m.from m.to in
    let second = one_step e f m.x a.row m.u b.row (run_place f a m.x run m.to) (run_place f b m.u run' m.to') (run_high f a m.x run m.from m.to) (run_high f b m.u run' m.from' m.to') covers in
    let third = in_one_run n f b m.u b.first run' m.from' m.to' (omega arith) some' in
    leads_on e f m.x a.row b.first b.row a.first a.row first (leads_on e f m.u b.row b.first b.row m.x a.row second third)

-- ---- the colour of a component

-- the number of the first place of the component of a place
abbrev pub first_of : List Offset → Picture → ℕ → ℕ → ℕ
first_of e f x y = first_place (component e f x y)

one_first : (e : List Offset) (f : Picture) (x y u v : ℕ) → IsSymmetric e → IsSet f → IsPlace f x y → AreConnected e f x y u v → first_of e f x y ≡ first_of e f u v
one_first e f x y u v turns is_set place way =
    let shape = spread_shape e f (point f u v) (f.height * f.width) in
    let high = (in_component e f x y u v place.column place.row).1 way in
    let low = rebuilt_within e f (point f u v) x y (omega (arith, shape.width, place.column)) (omega (arith, shape.height, place.row)) in
    let top = sample_bounded f is_set.picture x y place.column place.row in
    let most = is_set.maxval in
    let here : sample (component e f u v) x y ≡ 1 = omega arith in
    ap first_place (one_component e f x y u v turns is_set place.column place.row here)

-- the first place of a component is one of it
record HasFirst (e : List Offset) (f : Picture) (x y : ℕ) : Type 0 where
  within : first_of e f x y < f.height * f.width
  is : get_or (component e f x y).samples (first_of e f x y) 0 ≡ 1

in_frame : (f : Picture) (x y : ℕ) → IsPlace f x y → y * f.width + x < f.height * f.width
in_frame f x y place = omega (arith, mul-add-lt y f.width x f.height place.row place.column, mul_comm f.width f.height)

has_first : (e : List Offset) (f : Picture) (x y : ℕ) → IsSet f → IsPlace f x y → sample f x y ≡ 1 → HasFirst e f x y
has_first e f x y is_set place one =
    let c = component e f x y in
    let shape = spread_shape e f (point f x y) (f.height * f.width) in
    let k = y * f.width + x in
    let size : length c.samples ≡ f.height * f.width = rebuilt_size e f (point f x y) ∙ product c.height c.width f.height f.width shape.height shape.width in
    let own : get_or c.samples k 0 ≡ 1 = ap (λ (w : ℕ). get_or c.samples (y * w + x) 0) (sym shape.width) ∙ own_component e f x y is_set place.column place.row one in
    let reached : first_of e f x y ≤ k = elim (cases_lt k (first_of e f x y)) [
      | inr le ↦ le
      | inl less ↦
          let fails = fails_before_first (λ s. s == 1) c.samples k 0 less in
          absurd (false≢true (sym fails ∙ eq-eqb (get_or c.samples k 0) 1 own))
    ] in
    let inside : first_of e f x y < f.height * f.width = omega (arith, in_frame f x y place) in
    record {
      within = inside;
      is = eqb-true (get_or c.samples (first_of e f x y) 0) 1 (passes_at_first (λ s. s == 1) c.samples 0 (omega arith));
    }
  where
    product : (a b c d : ℕ) → a ≡ c → b ≡ d → a * b ≡ c * d
    product a b c d p q = cc

joined_at : (e : List Offset) (f : Picture) (x y u v s t : ℕ) → IsSymmetric e → IsPlace f s t → get_or (component e f x y).samples (t * f.width + s) 0 ≡ 1 → get_or (component e f u v).samples (t * f.width + s) 0 ≡ 1
    → AreConnected e f x y u v
joined_at e f x y u v s t turns place one other =
    let c = component e f x y in
    let d = component e f u v in
    let shape = spread_shape e f (point f x y) (f.height * f.width) in
    let shape' = spread_shape e f (point f u v) (f.height * f.width) in
    let here : sample c s t ≡ 1 = ap (λ (w : ℕ). get_or c.samples (t * w + s) 0) shape.width ∙ one in
    let there : sample d s t ≡ 1 = ap (λ (w : ℕ). get_or d.samples (t * w + s) 0) shape'.width ∙ other in
    let first = (in_component e f s t x y place.column place.row).0 (omega arith) in
    let second = (in_component e f s t u v place.column place.row).0 (omega arith) in
    leads_back e f x y u v s t turns first second

pub joined_by_first : (e : List Offset) (f : Picture) (x y u v : ℕ) → IsSymmetric e → IsSet f → IsPlace f x y → IsPlace f u v → sample f x y ≡ 1 → sample f u v ≡ 1 → first_of e f x y ≡ first_of e f u v → AreConnected e f x y u v
joined_by_first e f x y u v turns is_set place place' one one' same =
    let first = has_first e f x y is_set place one in
    let second = has_first e f u v is_set place' one' in
    let also : get_or (component e f u v).samples (first_of e f x y) 0 ≡ 1 = ap (λ (k : ℕ). get_or (component e f u v).samples k 0) same ∙ second.is in
    by_places (λ k. get_or (component e f x y).samples k 0 ≡ 1 → get_or (component e f u v).samples k 0 ≡ 1 → AreConnected e f x y u v) f.width f.height
    (λ s t p q here there. joined_at e f x y u v s t turns (record { column = p; row = q }) here there) (first_of e f x y) first.within first.is also

-- the colour of a run
abbrev pub colour_of : Neighbours → Picture → List Run → ℕ → ℕ
colour_of n f runs i = first_of (neighbours_of n) f (run_numbered runs i).first (run_numbered runs i).row

pub colours_agree : (n : Neighbours) (f : Picture) (runs : List Run) → IsSet f → RunsBefore f 0 f.height runs → Agree (columns_reached n) runs 0 (length runs) (colour_of n f runs)
colours_agree n f runs is_set before = record {
  one = λ p q in_p in_q which t.
      let run = frame_run f runs p before in_p in
      let run' = frame_run f runs q before in_q in
      let some = run.run.some in
      one_first (neighbours_of n) f (run_numbered runs p).first (run_numbered runs p).row (run_numbered runs q).first (run_numbered runs q).row (symmetric n) is_set (run_place f (run_numbered runs p) (run_numbered runs p).first run some)
      (touching_joined n f (run_numbered runs p) (run_numbered runs q) run run' t);
}

pub joined_by_colour : (n : Neighbours) (f : Picture) (runs : List Run) (i j x y u v : ℕ) → IsSet f → RunsBefore f 0 f.height runs → i < length runs → j < length runs → HasPlace (run_numbered runs i) x y → HasPlace (run_numbered runs j) u v
    → colour_of n f runs i ≡ colour_of n f runs j → AreConnected (neighbours_of n) f x y u v
joined_by_colour n f runs i j x y u v is_set before lt lt' one other same =
    let e = neighbours_of n in
    let a = run_numbered runs i in
    let b = run_numbered runs j in
    let run = frame_run f runs i before lt in
    let run' = frame_run f runs j before lt' in
    let some = run.run.some in
    let some' = run'.run.some in
    let first = to_first_place n f a x y run one in
    let across = joined_by_first e f a.first a.row b.first b.row (symmetric n) is_set (run_place f a a.first run some) (run_place f b b.first run' some') (run.run.inside a.first (omega arith) some) (run'.run.inside b.first (omega arith) some') same in
    let last = turns_back e f u v b.first b.row (symmetric n) (to_first_place n f b u v run' other) in
    leads_on e f a.first a.row u v x y first (leads_on e f b.first b.row u v a.first a.row across last)
