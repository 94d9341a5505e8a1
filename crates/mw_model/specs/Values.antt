-- Values of tickets: what the payloads and the operators of the commands mean. No outcome is looked at (own).
use Rattle.std.specs.Prelude.{ℕ, List, [], ◌∷◌, ◌++◌, map, slice_index_or, Option, Some, None, option_map, option_and_then}
use Rattle.mw_model.specs.declared.shapes.Shape.{Shape}
use Rattle.mw_model.specs.declared.shapes.Shape.TheVariants as shape
use Rattle.mw_model.specs.declared.operations.Op.{Op}
use Rattle.mw_model.specs.declared.operations.Op.TheVariants as op
use Rattle.mw_model.specs.declared.operations.FlatOp.TheVariants as flat
use Rattle.mw_model.specs.declared.operations.GranOp.TheVariants as gran
use Rattle.mw_model.specs.declared.submissions.Command.{Command}
use Rattle.mw_model.specs.declared.submissions.Command.TheVariants as command
use Rattle.mw_model.specs.declared.submissions.Inputs.{Inputs}
use Rattle.mw_model.specs.declared.submissions.Submission.{Submission}
use Rattle.mw_model.specs.declared.offsets.Offset.{Offset}
use Rattle.mw_model.specs.Pictures.{Picture}
use Rattle.mw_model.specs.Elements.{Figure}
use Rattle.mw_model.specs.Flat.{erosion, dilation, opening, closing, gradient, white_top_hat, black_top_hat, rank, threshold, hit_or_miss}
use Rattle.mw_model.specs.Iterates.{skeleton, restoration, spectrum}

-- what stands under a ticket: an image, an element, or the volumes of a curve
pub data Value : Type 0 where
  ImageValue : Picture → Value
  ElementValue : Figure → Value
  CurveValue : List ℕ → Value

-- the shape of an image
abbrev pub shape_of_picture : Picture → Shape
shape_of_picture f = shape.Image f.kind f.width f.height f.maxval

-- the shape of an element
abbrev pub shape_of_figure : Figure → Shape
shape_of_figure b = shape.Element b.width b.height

-- the image in the place of an input, if one stands there
abbrev pub image_of : Option Value → Option Picture
image_of (Some (ImageValue f)) = Some f
image_of v = None

-- the offsets of the element in the place of an input, if one stands there
abbrev pub offsets_in : Option Value → Option (List Offset)
offsets_in (Some (ElementValue b)) = Some b.offsets
offsets_in v = None

-- what stands at a ticket, or in the place of an input, if anything does
abbrev pub value_at : List (Option Value) → ℕ → Option Value
value_at values t = slice_index_or values t None

-- an operator on an image and an element, where the inputs are these
abbrev pub of_both : List (Option Value) → (Picture → List Offset → Value) → Option Value
of_both inputs operator =
    option_and_then (λ f. option_map (λ b. operator f b) (offsets_in (value_at inputs 1))) (image_of (value_at inputs 0))

-- an image from an image and an element
abbrev pub drawn_by : List (Option Value) → (List Offset → Picture → Picture) → Option Value
drawn_by inputs operator = of_both inputs (λ f b. ImageValue (operator b f))

-- an image from an image and two elements
abbrev pub drawn_by_two : List (Option Value) → (List Offset → List Offset → Picture → Picture) → Option Value
drawn_by_two inputs operator =
    option_and_then (λ c. of_both inputs (λ f b. ImageValue (operator b c f))) (offsets_in (value_at inputs 2))

-- the value of an operation on the values of its inputs, in argument order
abbrev pub result_of : Op → List (Option Value) → Option Value
result_of (op.Flat (flat.Erode f b)) inputs = drawn_by inputs erosion
result_of (op.Flat (flat.Dilate f b)) inputs = drawn_by inputs dilation
result_of (op.Flat (flat.Opening f b)) inputs = drawn_by inputs opening
result_of (op.Flat (flat.Closing f b)) inputs = drawn_by inputs closing
result_of (op.Flat (flat.Gradient f b)) inputs = drawn_by inputs gradient
result_of (op.Flat (flat.WhiteTopHat f b)) inputs = drawn_by inputs white_top_hat
result_of (op.Flat (flat.BlackTopHat f b)) inputs = drawn_by inputs black_top_hat
result_of (op.Flat (flat.Rank f b k)) inputs = drawn_by inputs (λ e. rank e k)
result_of (op.Flat (flat.Threshold f k)) inputs = option_map (λ g. ImageValue (threshold k g)) (image_of (value_at inputs 0))
result_of (op.Flat (flat.HitMiss f hit miss)) inputs = drawn_by_two inputs hit_or_miss
result_of (op.Gran (gran.Skeleton f b levels)) inputs = drawn_by inputs (λ e. skeleton e levels)
result_of (op.Gran (gran.Restore f b levels)) inputs = drawn_by inputs (λ e. restoration e levels)
result_of (op.Gran (gran.Spectrum f b levels)) inputs = of_both inputs (λ g e. CurveValue (spectrum e levels g))

-- the ticket, where there is one
abbrev pub option_list : Option ℕ → List ℕ
option_list None = []
option_list (Some t) = t ∷ []

-- the tickets of the inputs, in argument order
abbrev pub tickets : Inputs → List ℕ
tickets i = option_list i.a ++ option_list i.b ++ option_list i.c

-- the value of a command: its payload, or its operator on the values before it
abbrev pub value_of : List (Option Value) → List ℕ → Command → Option Value → Option Value
value_of before inputs command.Given own = own
value_of before inputs (command.Run o) own = result_of o (map (value_at before) inputs)

-- the values in ticket order, each from those before it
abbrev pub values_after : List (Option Value) → List Submission → List (Option Value) → List (Option Value)
values_after before [] payloads = before
values_after before (e ∷ es) [] = before
values_after before (e ∷ es) (p ∷ ps) = values_after (before ++ value_of before (tickets e.inputs) e.command p ∷ []) es ps
