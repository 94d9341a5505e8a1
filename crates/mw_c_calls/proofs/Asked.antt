-- What plans ask of an image and an element, by the numbers of refusals.
use Rattle.std.proofs.Common.{◌≡◌, ℕ, Bool, true, false, not, ◌&&◌, List, [], ◌∷◌, length, Option, None, refl, ap, subst, sym, Global}
use Rattle.std.specs.Prelude.{nat_le, option_map, Err, Ok}
use Rattle.std.specs.Arc.{arc_value}
use Rattle.std.specs.Borrow.{Bor}
use Rattle.std.specs.declared.sync.Arc.{Arc}
use Rattle.mw_model.specs.declared.codes.Code.{Code}
use Rattle.mw_model.specs.declared.limits.TheConstants.{SIZE_LIMIT, TURN_LIMIT}
use Rattle.mw_model.specs.declared.names.Name.{Name}
use Rattle.mw_model.specs.declared.operations.FlatOp.TheVariants as flat
use Rattle.mw_model.specs.declared.operations.GranOp.TheVariants as gran
use Rattle.mw_model.specs.declared.operations.Op.{Op}
use Rattle.mw_model.specs.declared.operations.Op.TheVariants as op
use Rattle.mw_model.specs.declared.offsets.Offset.{Offset}
use Rattle.mw_model.specs.declared.shapes.Shape.{Shape}
use Rattle.mw_model.specs.Elements.{Figure, holds_origin, overlaps}
use Rattle.mw_model.specs.Pictures.{Picture}
use Rattle.mw_model.specs.Refusals.{first_of, is_binary, when}
use Rattle.mw_model.specs.Values.{shape_of_picture}
use Rattle.mw_plan.specs.Asked.{IsRefusedBy, fault_in, first_fault, unless}
use Rattle.mw_plan.specs.Faults.{plan_code}
use Rattle.mw_plan.specs.declared.faults.PlanFault.{PlanFault}
use Rattle.mw_plan.specs.declared.faults.PlanFault.TheVariants as fault
use Rattle.mw_plan.specs.declared.inputs.Input.TheVariants as input
use Rattle.mw_c_arrays.specs.declared.arrays.Bitmap.{Bitmap}
use Rattle.mw_c_arrays.specs.Arrays.{element_in}
use Rattle.mw_c_calls.specs.Answers.{IsTold}
use Rattle.mw_c_calls.specs.Calls.{operation_fault, overlap_case, takes_one}
use Rattle.mw_c_calls.specs.Sources.{bitmap_figure}
use Rattle.mw_c_calls.proofs.Told.{told_err, told_ok}

-- one thing that is asked, and others behind it
asked_first : (x : Bool) (f : PlanFault) (fs : List (Option PlanFault)) (cs : List (Option Code)) → option_map plan_code (first_fault fs) ≡ first_of cs
    → option_map plan_code (first_fault (unless x f ∷ fs)) ≡ first_of (when (not x) (plan_code f) ∷ cs)
asked_first true f fs cs e = e
asked_first false f fs cs e = refl

asked_number : (first last k : ℕ) → option_map plan_code (first_fault (unless (nat_le first k && nat_le k last) fault.Param ∷ [])) ≡ first_of (when (not (nat_le first k && nat_le k last)) (plan_code fault.Param) ∷ [])
asked_number first last k = asked_first (nat_le first k && nat_le k last) fault.Param [] [] refl

-- what an operation by one element asks
pub asked_by_one : (o : Op) (g : Picture) (b : Bor (Arc Figure Global)) → takes_one o ≡ true
    → option_map plan_code (fault_in o (input.Image (shape_of_picture g)) (input.Element b) input.Absent) ≡ operation_fault o g (arc_value b.now).offsets
asked_by_one (op.Flat (flat.Erode f e)) g b one = refl
asked_by_one (op.Flat (flat.Dilate f e)) g b one = refl
asked_by_one (op.Flat (flat.Opening f e)) g b one = refl
asked_by_one (op.Flat (flat.Closing f e)) g b one = refl
asked_by_one (op.Flat (flat.Gradient f e)) g b one = refl
asked_by_one (op.Flat (flat.WhiteTopHat f e)) g b one = refl
asked_by_one (op.Flat (flat.BlackTopHat f e)) g b one = refl
asked_by_one (op.Flat (flat.Rank f e k)) g b one =
    asked_first (holds_origin (arc_value b.now).offsets) fault.NoOrigin _ _ (asked_number 1 (length (arc_value b.now).offsets) k)
asked_by_one (op.Flat (flat.Threshold f k)) g b one = absurd cc
asked_by_one (op.Flat (flat.HitMiss f hit miss)) g b one = absurd cc
asked_by_one (op.Gran (gran.Skeleton f e levels)) g b one =
    asked_first (is_binary (shape_of_picture g)) fault.Binary _ _ (asked_first (holds_origin (arc_value b.now).offsets) fault.NoOrigin _ _ (asked_number 1 TURN_LIMIT levels))
asked_by_one (op.Gran (gran.Restore f e levels)) g b one = asked_number 1 TURN_LIMIT levels
asked_by_one (op.Gran (gran.Spectrum f e levels)) g b one = asked_number 1 SIZE_LIMIT levels

-- what hits and misses ask
overlap_asked : (x : Bool) → option_map plan_code (first_fault (unless (not x) fault.Overlap ∷ [])) ≡ when x (plan_code fault.Overlap)
overlap_asked true = refl
overlap_asked false = refl

pub asked_by_two : (f hit miss : Name) (g : Picture) (b c : Bor (Arc Figure Global))
    → option_map plan_code (fault_in (op.Flat (flat.HitMiss f hit miss)) (input.Image (shape_of_picture g)) (input.Element b) (input.Element c)) ≡ overlap_case (arc_value b.now).offsets (arc_value c.now).offsets
asked_by_two f hit miss g b c = overlap_asked (overlaps (arc_value b.now).offsets (arc_value c.now).offsets)

-- the fault of a plan by one element is told by its number
pub asked_told : (A B : Type 0) (o : Op) (s : Shape) (f : Picture) (e : Bor (Arc Figure Global)) (b : Bitmap) (fault : PlanFault) (told : Code) → takes_one o ≡ true → s ≡ shape_of_picture f → arc_value e.now ≡ bitmap_figure b → told ≡ plan_code fault
    → IsRefusedBy {A = A} (fault_in o (input.Image s) (input.Element e) input.Absent) (Err fault) → IsTold {A = B} None (operation_fault o f (element_in b)) (Err told)
asked_told A B o s f e b fault told one same_shape same_element same_code refused =
    let asked = asked_by_one o f e one in
    let own = subst (λ (t : Shape). IsRefusedBy {A = A} (fault_in o (input.Image t) (input.Element e) input.Absent) (Err fault)) same_shape refused in
    let first = told_err A B (fault_in o (input.Image (shape_of_picture f)) (input.Element e) input.Absent) (operation_fault o f (arc_value e.now).offsets) fault asked own in
    subst (λ (x : Code). IsTold {A = B} None (operation_fault o f (element_in b)) (Err x)) (sym same_code)
    (subst (λ (t : List Offset). IsTold {A = B} None (operation_fault o f t) (Err (plan_code fault))) (ap (λ (u : Figure). u.offsets) same_element) first)

-- and where there is a plan nothing is missed
pub asked_ok : {A B : Type 0} (o : Op) (s : Shape) (f : Picture) (e : Bor (Arc Figure Global)) (b : Bitmap) (x : A) (y : B) → takes_one o ≡ true → s ≡ shape_of_picture f → arc_value e.now ≡ bitmap_figure b
    → IsRefusedBy (fault_in o (input.Image s) (input.Element e) input.Absent) (Ok x) → IsTold None (operation_fault o f (element_in b)) (Ok y)
asked_ok {A} {B} o s f e b x y one same_shape same_element refused =
    let asked = asked_by_one o f e one in
    let own = subst (λ (t : Shape). IsRefusedBy {A = A} (fault_in o (input.Image t) (input.Element e) input.Absent) (Ok x)) same_shape refused in
    subst (λ (t : List Offset). IsTold {A = B} None (operation_fault o f t) (Ok y)) (ap (λ (u : Figure). u.offsets) same_element)
    (told_ok (fault_in o (input.Image (shape_of_picture f)) (input.Element e) input.Absent) (operation_fault o f (arc_value e.now).offsets) x y asked own)
