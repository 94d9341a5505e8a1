-- What C asks for, and what is wrong with a call: the first case that holds (own).
use Rattle.std.specs.Prelude.{ℕ, ◌==◌, Bool, true, false, not, nat_lt, List, [], ◌∷◌, length, Option, None, if◌then◌else◌}
use Rattle.mw_model.specs.declared.codes.Code.{Code}
use Rattle.mw_model.specs.declared.codes.Code.TheVariants as code
use Rattle.mw_model.specs.declared.limits.TheConstants.{SIZE_LIMIT, TURN_LIMIT}
use Rattle.mw_model.specs.declared.operations.FlatOp.TheVariants as flat
use Rattle.mw_model.specs.declared.operations.GranOp.TheVariants as gran
use Rattle.mw_model.specs.declared.operations.Op.{Op}
use Rattle.mw_model.specs.declared.operations.Op.TheVariants as op
use Rattle.mw_model.specs.declared.offsets.Offset.{Offset}
use Rattle.mw_model.specs.Elements.{holds_origin, overlaps}
use Rattle.mw_model.specs.Flat.{black_top_hat, closing, dilation, erosion, gradient, opening, rank, white_top_hat}
use Rattle.mw_model.specs.Pictures.{Picture}
use Rattle.mw_model.specs.Refusals.{first_of, is_binary, param_case, when}
use Rattle.mw_model.specs.Values.{shape_of_picture}

-- the flat operator of a number
abbrev pub flat_of : ℕ → ℕ → List Offset → Picture → Picture
flat_of operation k e f =
    if operation == 0 then erosion e f else
    if operation == 1 then dilation e f else
    if operation == 2 then opening e f else
    if operation == 3 then closing e f else
    if operation == 4 then gradient e f else
    if operation == 5 then white_top_hat e f else
    if operation == 6 then black_top_hat e f else
    rank e k f

-- ---- what is looked at before memory is asked for

-- no operation has the number
abbrev pub operation_case : ℕ → Option Code
operation_case operation = when (not (nat_lt operation 8)) code.Param

-- the caller's array has not one place for each of so many
abbrev pub room_case : ℕ → ℕ → Option Code
room_case room count = when (not (room == count)) code.Length

-- the number of the call, the image, the room for what is made, and the element, in this order
abbrev pub call_fault : Option Code → Option Code → Option Code → Option Code → Option Code
call_fault number image room element = first_of (number ∷ image ∷ room ∷ element ∷ [])

-- ---- what is looked at behind that

-- the element does not hold its origin
abbrev pub no_origin_case : List Offset → Option Code
no_origin_case e = when (not (holds_origin e)) code.NoOrigin

-- what a rank asks of its element and its number
abbrev pub rank_fault : ℕ → List Offset → Option Code
rank_fault k e = first_of (no_origin_case e ∷ param_case 1 (length e) k ∷ [])

-- what a flat operator asks
abbrev pub flat_asks : ℕ → ℕ → List Offset → Option Code
flat_asks operation k e = if operation == 7 then rank_fault k e else None

-- the elements share an offset
abbrev pub overlap_case : List Offset → List Offset → Option Code
overlap_case hit miss = when (overlaps hit miss) code.Overlap

-- ---- operations by one element

-- the operation takes an image and one element
abbrev pub takes_one : Op → Bool
takes_one (op.Flat (flat.Threshold f k)) = false
takes_one (op.Flat (flat.HitMiss f hit miss)) = false
takes_one o = true

-- the operation makes an image
abbrev pub is_drawing : Op → Bool
is_drawing (op.Gran (gran.Spectrum f b levels)) = false
is_drawing o = true

-- what the operation asks of the image and the element
abbrev pub operation_fault : Op → Picture → List Offset → Option Code
operation_fault (op.Flat (flat.Rank f b k)) g e = rank_fault k e
operation_fault (op.Gran (gran.Skeleton f b levels)) g e = first_of (when (not (is_binary (shape_of_picture g))) code.Binary ∷ no_origin_case e ∷ param_case 1 TURN_LIMIT levels ∷ [])
operation_fault (op.Gran (gran.Restore f b levels)) g e = first_of (param_case 1 TURN_LIMIT levels ∷ [])
operation_fault (op.Gran (gran.Spectrum f b levels)) g e = first_of (param_case 1 SIZE_LIMIT levels ∷ [])
operation_fault o g e = None
