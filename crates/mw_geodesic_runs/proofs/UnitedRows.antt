-- Rows that are united one after another.
use Rattle.std.proofs.Common.{◌≡◌, ℕ, zero, suc, ◌+◌, ◌*◌, ◌<◌, ◌≤◌, min, ◌-◌, List, [], ◌∷◌, ◌++◌, length, get_or, ap, sym, subst, arith, ◌∙◌, inl, inr}
use Rattle.std.proofs.lemmas.Bool.{cases_lt}
use Rattle.std.proofs.lemmas.List.{get_or_push, get_or_append_left, length_push}
use Rattle.mw_model.specs.Pictures.{Picture, IsSet}
use Rattle.mw_geodesic_runs.specs.declared.runs.Run.{Run}
use Rattle.mw_geodesic_runs.specs.Runs.{run_numbered, tally, begun, run_count, RunsBefore}
use Rattle.mw_geodesic_runs.specs.declared.spans.Span.{Span}
use Rattle.mw_geodesic_runs.specs.Rows.{AreCutAbove, AreRowRunsFrom, AreTwoRows, span_numbered, IsSpanOf, AreKept, AreHeldAbove}
use Rattle.mw_geodesic_runs.specs.Forests.{AllAlone}
use Rattle.mw_geodesic_runs.specs.Touching.{AreUnited, IsForestOf}
use Rattle.mw_geodesic_runs.proofs.Cuts.{begun_most}
use Rattle.mw_geodesic_runs.proofs.Tallies.{tally_more}
use Rattle.mw_geodesic_runs.proofs.RowsOfAll.{cut_none, split, cut_all}
use Rattle.mw_geodesic_runs.proofs.Meetings.{uniting_begins}
use Rattle.mw_geodesic_runs.proofs.TwoRows.{rows_united}

-- the rows above row y are united, of which the last has these runs, from a number on
pub record UnitedAbove (reach : ℕ) (runs : List Run) (y above : ℕ) (upper : List Run) (parent : List ℕ) : Type 0 where
  pub upper_from : AreRowRunsFrom runs above upper
  pub far : (p : ℕ) → p < above → (run_numbered runs p).row + 1 < y
  pub near : (p : ℕ) → above ≤ p → p < above + length upper → (run_numbered runs p).row + 1 ≡ y
  pub united : AreUnited reach runs 0 (above + length upper) parent

pub above_begins : (reach : ℕ) (runs : List Run) (parent : List ℕ) → AllAlone parent → length parent ≡ length runs → UnitedAbove reach runs 0 0 [] parent
above_begins reach runs parent alone size = record {
  upper_from = record { within = omega arith; same = λ k lt. absurd (omega arith) };
  far = λ p lt. absurd (omega arith);
  near = λ p from lt. absurd (omega arith);
  united = uniting_begins reach runs parent alone (sym size);
}

pub two_rows : (f : Picture) (reach : ℕ) (runs : List Run) (y above : ℕ) (upper lower : List Run) (parent : List ℕ) → y < f.height → RunsBefore f 0 f.height runs → AreCutAbove f y (above + length upper) → AreCutAbove f (y + 1) (above + length upper + length lower)
    → AreRowRunsFrom runs (above + length upper) lower → UnitedAbove reach runs y above upper parent → AreTwoRows runs y above upper lower
two_rows f reach runs y above upper lower parent high cut before next from was =
    let is = split f y (above + length upper) runs (omega arith) cut before in
    let is' = split f (y + 1) (above + length upper + length lower) runs (omega arith) cut next in
    record {
      order = cut.order;
      upper_from = was.upper_from;
      lower_from = from;
      far = was.far;
      near = was.near;
      here = λ p low lt.
          let within = from.within in
          let top = is.under p low (omega arith) in
          let bottom = is'.over p lt in
          omega arith;
      later = λ p low lt. let top = is'.under p low lt in omega arith;
    }

pub above_on : (f : Picture) (reach : ℕ) (runs : List Run) (y above : ℕ) (upper lower : List Run) (new : List ℕ) → AreTwoRows runs y above upper lower → AreUnited reach runs 0 (above + length upper + length lower) new
    → UnitedAbove reach runs (y + 1) (above + length upper) lower new
above_on f reach runs y above upper lower new rows united = record {
  upper_from = rows.lower_from;
  far = λ p lt. elim (cases_lt p above) [
    | inl less ↦ let row = rows.far p less in omega arith
    | inr from ↦ let row = rows.near p from lt in omega arith
  ];
  near = λ p from lt. let row = rows.here p from lt in omega arith;
  united = united;
}

pub above_ended : (f : Picture) (reach : ℕ) (runs : List Run) (y above : ℕ) (upper : List Run) (parent : List ℕ) → y ≡ f.height → RunsBefore f 0 f.height runs → AreCutAbove f y (above + length upper) → UnitedAbove reach runs y above upper parent
    → IsForestOf reach runs parent
above_ended f reach runs y above upper parent end cut before was = rows_united reach runs (above + length upper) parent (cut_all f y (above + length upper) runs end cut before) was.united

-- what uniting two rows does
abbrev pub UnitesRows : ℕ → ℕ → List Run → List Run → List ℕ → List ℕ → Type 0
UnitesRows reach above upper lower parent new =
    (runs : List Run) (y : ℕ) → AreTwoRows runs y above upper lower → AreUnited reach runs 0 (above + length upper) parent → AreUnited reach runs 0 (above + length upper + length lower) new

-- one row more is united
pub next_row : (f : Picture) (reach y above n above' : ℕ) (upper upper' lower lower' : List Run) (parent new : List ℕ) → y < f.height → n ≡ above + length upper → above' ≡ above + length upper → upper' ≡ upper → lower' ≡ lower
    → AreCutAbove f y n → AreCutAbove f (y + 1) (n + length lower) → ((runs : List Run) → RunsBefore f 0 f.height runs → AreRowRunsFrom runs n lower) → UnitesRows reach above upper' lower' parent new
    → (runs : List Run) → RunsBefore f 0 f.height runs → UnitedAbove reach runs y above upper parent → UnitedAbove reach runs (y + 1) above' lower new
next_row f reach y above n above' upper upper' lower lower' parent new high many next_above same same' before next from unites runs cut was =
    let unites' : UnitesRows reach above upper lower parent new = subst (λ (t : List Run). UnitesRows reach above t lower parent new) same (subst (λ (t : List Run). UnitesRows reach above upper' t parent new) same' unites) in
    let before' : AreCutAbove f y (above + length upper) = subst (λ (t : ℕ). AreCutAbove f y t) many before in
    let next' : AreCutAbove f (y + 1) (above + length upper + length lower) = subst (λ (t : ℕ). AreCutAbove f (y + 1) (t + length lower)) many next in
    let from' : AreRowRunsFrom runs (above + length upper) lower = subst (λ (t : ℕ). AreRowRunsFrom runs t lower) many (from runs cut) in
    let rows = two_rows f reach runs y above upper lower parent high cut before' next' from' was in
    subst (λ (t : ℕ). UnitedAbove reach runs (y + 1) t lower new) (sym next_above) (above_on f reach runs y above upper lower new rows (unites' runs y rows was.united))

-- ---- how many runs there are

pub cut_most : (f : Picture) (y n : ℕ) → y ≤ f.height → AreCutAbove f y n → n ≤ run_count f
cut_most f y n low was =
    let many = was.many in
    let none : min 0 f.width ≡ 0 = omega arith in
    let is = ap (begun f y) none in
    let count = was.cut.count in
    let more = tally_more (λ v. begun f v f.width) y f.height low in
    omega arith

rows_most : (f : Picture) (n : ℕ) → IsSet f → n ≤ f.height → tally (λ v. begun f v f.width) n ≤ n * f.width
rows_most f zero is_set low = omega arith
rows_most f (suc n) is_set low =
    let rest = rows_most f n is_set (omega arith) in
    let here = begun_most f n f.width is_set (omega arith) (omega arith) in
    omega arith

pub runs_most : (f : Picture) → IsSet f → run_count f ≤ f.height * f.width
runs_most f is_set = rows_most f f.height is_set (omega arith)

-- ---- spans

pub held_none : (f : Picture) (spans : List Span) (starts : List ℕ) → spans ≡ [] → starts ≡ 0 ∷ [] → AreHeldAbove f 0 spans starts
held_none f spans starts none zero_alone =
    let size : length spans ≡ 0 = ap (λ (t : List Span). length t) none in
    let first : get_or starts 0 0 ≡ 0 = ap (λ (t : List ℕ). get_or t 0 0) zero_alone in
    record {
      rows = ap (λ (t : List ℕ). length t) zero_alone;
      cut = λ v le.
          let at : 0 ≡ v = omega arith in
          subst (λ (t : ℕ). AreCutAbove f t (get_or starts t 0)) at (subst (λ (t : ℕ). AreCutAbove f 0 t) (sym first) (cut_none f));
      size = first ∙ sym size;
      are = λ runs cut k lt. absurd (omega arith);
    }

pub held_next : (f : Picture) (y m : ℕ) (row : List Run) (spans spans' : List Span) (starts starts' : List ℕ) → AreKept spans row spans' → starts' ≡ starts ++ m ∷ [] → m ≡ length spans' → AreCutAbove f (y + 1) (length spans + length row)
    → ((runs : List Run) → RunsBefore f 0 f.height runs → AreRowRunsFrom runs (length spans) row) → AreHeldAbove f y spans starts → AreHeldAbove f (y + 1) spans' starts'
held_next f y m row spans spans' starts starts' kept pushed is next from was =
    let rows = was.rows in
    let size = kept.size in
    let last : get_or starts' (y + 1) 0 ≡ m = ap (λ (t : List ℕ). get_or t (y + 1) 0) pushed ∙ get_or_push starts m 0 (y + 1) rows in
    record {
      rows = let more = ap (λ (t : List ℕ). length t) pushed ∙ length_push starts m in omega arith;
      cut = λ v le. elim (cases_lt v (y + 1)) [
        | inl less ↦
            let same : get_or starts' v 0 ≡ get_or starts v 0 = ap (λ (t : List ℕ). get_or t v 0) pushed ∙ get_or_append_left starts (m ∷ []) 0 v (omega arith) in
            subst (λ (t : ℕ). AreCutAbove f v t) (sym same) (was.cut v (omega arith))
        | inr past ↦
            let at : y + 1 ≡ v = omega arith in
            let here : length spans + length row ≡ get_or starts' (y + 1) 0 = omega arith in
            subst (λ (t : ℕ). AreCutAbove f t (get_or starts' t 0)) at (subst (λ (t : ℕ). AreCutAbove f (y + 1) t) here next)
      ];
      size = last ∙ is;
      are = λ runs cut k lt. elim (cases_lt k (length spans)) [
        | inl less ↦ subst (λ (t : Span). IsSpanOf (run_numbered runs k) t) (sym (kept.before k less)) (was.are runs cut k less)
        | inr past ↦
            let at : length spans + (k - length spans) ≡ k = omega arith in
            let run = (from runs cut).same (k - length spans) (omega arith) in
            subst (λ (t : ℕ). IsSpanOf (run_numbered runs t) (span_numbered spans' t)) at
            (subst (λ (t : Run). IsSpanOf t (span_numbered spans' (length spans + (k - length spans)))) (sym run) (kept.added (k - length spans) (omega arith)))
      ];
    }
