-- What the classes of a forest of runs are: the components of the set.
use Rattle.std.proofs.Common.{◌≡◌, ℕ, ◌*◌, ◌≤◌, List, length, get_or, refl, sym, subst, arith, ◌∙◌, inl}
use Rattle.std.specs.Prelude.{All}
use Rattle.mw_model.specs.declared.offsets.Offset.{Offset}
use Rattle.mw_model.specs.Pictures.{Picture, sample, IsSet}
use Rattle.mw_model.specs.Rasters.{Raster}
use Rattle.mw_pixel.specs.Images.{set_of}
use Rattle.mw_geodesic.specs.Neighbours.{IsPlace, neighbours_of}
use Rattle.mw_geodesic.specs.declared.neighbours.Neighbours.{Neighbours}
use Rattle.mw_geodesic_runs.specs.declared.runs.Run.{Run}
use Rattle.mw_geodesic_runs.specs.Runs.{InSomeRun, RunsBefore}
use Rattle.mw_geodesic_runs.specs.declared.spans.Span.{Span}
use Rattle.mw_geodesic_runs.specs.Rows.{AreHeldAbove}
use Rattle.mw_geodesic_runs.specs.Forests.{NumbersClasses}
use Rattle.mw_geodesic_runs.specs.Touching.{columns_reached, Agree, IsForestOf}
use Rattle.mw_geodesic_runs.specs.Components.{AreComponents, AreRunSpans}
use Rattle.mw_geodesic_runs.proofs.Numbered.{numbers_respect, one_colour}
use Rattle.mw_geodesic_runs.proofs.RowsOfAll.{all_cut}
use Rattle.mw_geodesic_runs.proofs.Sides.{neighbours_agree}
use Rattle.mw_geodesic_runs.proofs.Joinings.{colour_of, colours_agree, joined_by_colour}

pub are_components : (n : Neighbours) (f : Picture) (runs : List Run) (parent numbers : List ℕ) (count : ℕ) → IsSet f → RunsBefore f 0 f.height runs → IsForestOf (columns_reached n) runs parent
    → NumbersClasses parent (length parent) numbers count → AreComponents (neighbours_of n) f runs numbers count
are_components n f runs parent numbers count is_set before forest is =
    let size = forest.size in
    let agree : Agree (columns_reached n) runs 0 (length runs) (λ i. get_or numbers i 0) = forest.back (λ i. get_or numbers i 0) (numbers_respect parent numbers (length parent) count (omega arith) is) in
    let respects = forest.on (colour_of n f runs) (colours_agree n f runs is_set before) in
    record {
      set = is_set;
      cut = before;
      size = is.size ∙ size;
      some = λ i lt. is.some i (omega arith);
      most = λ i lt. is.most i (omega arith);
      near = λ i j x y u v lt lt' one other covers. neighbours_agree n runs (λ i. get_or numbers i 0) i j x y u v before.order agree lt lt' one other covers;
      joined = λ i j x y u v lt lt' one other same.
          joined_by_colour n f runs i j x y u v is_set before lt lt' one other (one_colour parent numbers (colour_of n f runs) count i j forest.forest is respects (omega arith) (omega arith) same);
      steps = λ i lt two k one. is.steps i (omega arith) two k one;
      top = λ one. let top = is.top one in let at = top.before in record { at = top.at; before = omega arith; is = top.is };
    }

-- the run of a place of the set
pub held : (e : List Offset) (f : Picture) (runs : List Run) (numbers : List ℕ) (count x y : ℕ) → AreComponents e f runs numbers count → IsPlace f x y → sample f x y ≡ 1 → InSomeRun runs x y
held e f runs numbers count x y are place one = are.cut.all x y place.column (inl place.row) one

pub set_is : (p : Raster ℕ) → length p.cells ≡ p.height * p.width → All (λ s. s ≤ 1) p.cells → IsSet (set_of p)
set_is p size small = record { picture = record { size = size; bounded = small }; kind = refl; maxval = refl }

-- the spans of the runs with the numbers of the classes of a forest
pub are_spans : (n : Neighbours) (f : Picture) (spans : List Span) (starts parent parent' numbers numbers' : List ℕ) (count reach : ℕ) → IsSet f → AreHeldAbove f f.height spans starts → reach ≡ columns_reached n → parent' ≡ parent
    → ((runs : List Run) → RunsBefore f 0 f.height runs → IsForestOf reach runs parent) → NumbersClasses parent' (length parent') numbers count → numbers' ≡ numbers → AreRunSpans (neighbours_of n) f spans starts numbers' count
are_spans n f spans starts parent parent' numbers numbers' count reach is_set held near same_parent forest told same = record {
  some = all_cut f f.height (get_or starts f.height 0) refl (held.cut f.height (omega arith));
  held = held;
  each = λ runs cut.
      let told' : NumbersClasses parent (length parent) numbers count = subst (λ (t : List ℕ). NumbersClasses t (length t) numbers count) same_parent told in
      subst (λ (t : List ℕ). AreComponents (neighbours_of n) f runs t count) (sym same)
      (are_components n f runs parent numbers count is_set cut (subst (λ (t : ℕ). IsForestOf t runs parent) near (forest runs cut)) told');
}
