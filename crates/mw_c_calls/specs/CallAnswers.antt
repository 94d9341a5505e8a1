-- What each call of C is answered: by its numbers, by what is wrong with its image and with the room for what is made, and by
-- the sides, the origin and the bytes of its element.
use Rattle.std.specs.Prelude.{ℕ, ℤ, List, Option, None}
use Rattle.mw_model.specs.declared.codes.Code.{Code}
use Rattle.mw_model.specs.declared.limits.TheConstants.{SIZE_LIMIT, TURN_LIMIT}
use Rattle.mw_model.specs.Refusals.{param_case}
use Rattle.mw_c_arrays.specs.Arrays.{element_in_bytes}
use Rattle.mw_c_arrays.specs.Faults.{element_fault}
use Rattle.mw_c_calls.specs.Answers.{IsAnswer}
use Rattle.mw_c_calls.specs.Calls.{call_fault, flat_asks, no_origin_case, operation_case, overlap_case}
use Rattle.mw_c_calls.specs.Rows.{row_operation_case}

-- of a flat operator
abbrev pub IsFlatAnswer : ℕ → ℕ → Option Code → Option Code → ℕ → ℕ → ℕ → ℕ → List ℕ → ℤ → Type 0
IsFlatAnswer operation k image room width height x y bytes answer =
    IsAnswer (call_fault (operation_case operation) image room (element_fault width height x y bytes)) (flat_asks operation k (element_in_bytes width height x y bytes)) answer

-- of rows of a flat operator of one step
abbrev pub IsRowsAnswer : ℕ → ℕ → Option Code → Option Code → ℕ → ℕ → ℕ → ℕ → List ℕ → ℤ → Type 0
IsRowsAnswer operation k image room width height x y bytes answer =
    IsAnswer (call_fault (row_operation_case operation) image room (element_fault width height x y bytes)) (flat_asks operation k (element_in_bytes width height x y bytes)) answer

-- of hits and misses of two elements
abbrev pub IsHitsAnswer : Option Code → Option Code → ℕ → ℕ → ℕ → ℕ → List ℕ → ℕ → ℕ → ℕ → ℕ → List ℕ → ℤ → Type 0
IsHitsAnswer image room hit_width hit_height hit_x hit_y hit miss_width miss_height miss_x miss_y miss answer =
    IsAnswer (call_fault image room (element_fault hit_width hit_height hit_x hit_y hit) (element_fault miss_width miss_height miss_x miss_y miss))
    (overlap_case (element_in_bytes hit_width hit_height hit_x hit_y hit) (element_in_bytes miss_width miss_height miss_x miss_y miss)) answer

-- of a skeleton
abbrev pub IsSkeletonAnswer : ℕ → Option Code → Option Code → ℕ → ℕ → ℕ → ℕ → List ℕ → ℤ → Type 0
IsSkeletonAnswer levels image room width height x y bytes answer =
    IsAnswer (call_fault (param_case 1 TURN_LIMIT levels) image room (element_fault width height x y bytes)) (no_origin_case (element_in_bytes width height x y bytes)) answer

-- of a restoration
abbrev pub IsRestorationAnswer : ℕ → Option Code → Option Code → ℕ → ℕ → ℕ → ℕ → List ℕ → ℤ → Type 0
IsRestorationAnswer levels image room width height x y bytes answer =
    IsAnswer (call_fault (param_case 1 TURN_LIMIT levels) image room (element_fault width height x y bytes)) None answer

-- of a spectrum
abbrev pub IsSpectrumAnswer : ℕ → Option Code → Option Code → ℕ → ℕ → ℕ → ℕ → List ℕ → ℤ → Type 0
IsSpectrumAnswer levels image room width height x y bytes answer =
    IsAnswer (call_fault (param_case 1 SIZE_LIMIT levels) image room (element_fault width height x y bytes)) None answer
