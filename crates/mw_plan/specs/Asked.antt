-- What an operation asks of its inputs, the first thing that is wrong with them, and the shape of its result (own).
use Rattle.std.specs.Prelude.{ℕ, ◌+◌, ◌&&◌, Bool, true, false, nat_le, not, List, [], ◌∷◌, ◌++◌, length, Option, Some, None, Result, Ok, Err, ◌≡◌}
use Rattle.std.specs.Arc.{arc_value}
use Rattle.mw_model.specs.declared.offsets.Offset.{Offset}
use Rattle.mw_model.specs.declared.shapes.Shape.{Shape}
use Rattle.mw_model.specs.declared.shapes.Shape.TheVariants as shape
use Rattle.mw_model.specs.declared.operations.Op.{Op}
use Rattle.mw_model.specs.declared.operations.Op.TheVariants as op
use Rattle.mw_model.specs.declared.operations.FlatOp.TheVariants as flat
use Rattle.mw_model.specs.declared.operations.GranOp.TheVariants as gran
use Rattle.mw_model.specs.declared.limits.TheConstants.{LEVEL_LIMIT, SIZE_LIMIT, TURN_LIMIT}
use Rattle.mw_model.specs.Elements.{holds_origin, overlaps}
use Rattle.mw_model.specs.Refusals.{Wanted, AnImage, AnElement, inputs_wanted, is_image, is_binary}
use Rattle.mw_model.specs.Machine.{as_bits, as_grey}
use Rattle.mw_plan.specs.declared.faults.PlanFault.{PlanFault}
use Rattle.mw_plan.specs.declared.faults.PlanFault.TheVariants as fault
use Rattle.mw_plan.specs.declared.inputs.Input.{Input}
use Rattle.mw_plan.specs.declared.inputs.Input.TheVariants as input

-- ---- inputs

-- an image stands there
abbrev pub is_image_input : Input → Bool
is_image_input (input.Image s) = is_image s
is_image_input i = false

-- an element stands there
abbrev pub is_element_input : Input → Bool
is_element_input (input.Element e) = true
is_element_input i = false

-- the shape of the image
abbrev pub image_shape : Input → Shape
image_shape (input.Image s) = s
image_shape i = shape.Curve 0

-- the offsets of the element
abbrev pub offsets_of_input : Input → List Offset
offsets_of_input (input.Element e) = (arc_value e.now).offsets
offsets_of_input i = []

-- ---- faults

-- the fault, where what is asked does not hold
abbrev pub unless : Bool → PlanFault → Option PlanFault
unless true f = None
unless false f = Some f

-- the first fault
abbrev pub first_fault : List (Option PlanFault) → Option PlanFault
first_fault [] = None
first_fault (None ∷ faults) = first_fault faults
first_fault (Some f ∷ faults) = Some f

-- what stands in the place has to be what is wanted there
abbrev pub kind_fault : ℕ → Wanted → Input → Option PlanFault
kind_fault place (AnImage n) i = unless (is_image_input i) (fault.Kind place)
kind_fault place (AnElement n) i = unless (is_element_input i) (fault.Kind place)

-- what is wrong with the kinds of all inputs from this place on, in argument order; what is not wanted is not looked at
abbrev pub kind_faults : ℕ → List Wanted → List Input → List (Option PlanFault)
kind_faults place [] inputs = []
kind_faults place (w ∷ ws) [] = []
kind_faults place (w ∷ ws) (i ∷ is) = kind_fault place w i ∷ kind_faults (place + 1) ws is

-- the image has to be a set
abbrev pub binary_fault : Input → Option PlanFault
binary_fault a = unless (is_binary (image_shape a)) fault.Binary

-- the element has to hold its origin
abbrev pub origin_fault : Input → Option PlanFault
origin_fault b = unless (holds_origin (offsets_of_input b)) fault.NoOrigin

-- the number has to be from the first to the last
abbrev pub number_fault : ℕ → ℕ → ℕ → Option PlanFault
number_fault first last k = unless (nat_le first k && nat_le k last) fault.Param

-- what else an operation asks of its inputs and numbers
abbrev pub op_faults : Op → Input → Input → Input → List (Option PlanFault)
op_faults (op.Flat (flat.Rank f e k)) a b c = origin_fault b ∷ number_fault 1 (length (offsets_of_input b)) k ∷ []
op_faults (op.Flat (flat.Threshold f k)) a b c = number_fault 0 LEVEL_LIMIT k ∷ []
op_faults (op.Flat (flat.HitMiss f hit miss)) a b c = unless (not (overlaps (offsets_of_input b) (offsets_of_input c))) fault.Overlap ∷ []
op_faults (op.Gran (gran.Skeleton f e levels)) a b c = binary_fault a ∷ origin_fault b ∷ number_fault 1 TURN_LIMIT levels ∷ []
op_faults (op.Gran (gran.Restore f e levels)) a b c = number_fault 1 TURN_LIMIT levels ∷ []
op_faults (op.Gran (gran.Spectrum f e levels)) a b c = number_fault 1 SIZE_LIMIT levels ∷ []
op_faults o a b c = []

-- the first fault of an operation on these inputs, if there is one
abbrev pub fault_in : Op → Input → Input → Input → Option PlanFault
fault_in o a b c = first_fault (kind_faults 0 (inputs_wanted o) (a ∷ b ∷ c ∷ []) ++ op_faults o a b c)

-- a result is refused by this fault; where there is none, it is there, or memory was refused
abbrev pub IsRefusedBy : {A : Type 0} → Option PlanFault → Result A PlanFault → Type 0
IsRefusedBy (Some f) r = r ≡ Err f
IsRefusedBy None (Ok a) = Unit {0}
IsRefusedBy None (Err e) = e ≡ fault.NoMemory

-- ---- shapes

-- the shape of the result
abbrev pub shape_made : Op → Input → Shape
shape_made (op.Flat (flat.Threshold f k)) a = as_bits (image_shape a)
shape_made (op.Flat o) a = image_shape a
shape_made (op.Gran (gran.Skeleton f e levels)) a = as_grey (levels + 1) (image_shape a)
shape_made (op.Gran (gran.Restore f e levels)) a = as_bits (image_shape a)
shape_made (op.Gran (gran.Spectrum f e levels)) a = shape.Curve (levels + 1)
