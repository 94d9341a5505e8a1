-- What is written of the components of a set, and what is answered.
use Rattle.std.specs.Prelude.{◌≡◌, ◌⊎◌, ℕ, ◌*◌, ◌<◌, ◌≤◌, ℤ, pos, List, Option, Some, None}
use Rattle.mw_model.specs.declared.codes.Code.{Code}
use Rattle.mw_model.specs.declared.codes.Code.TheVariants as code
use Rattle.mw_model.specs.declared.offsets.Offset.{Offset}
use Rattle.mw_geodesic.specs.Neighbours.{IsSymmetric}
pub use Rattle.mw_geodesic_labels.specs.Regions.{AreRegionsWritten, HasComponents}
use Rattle.mw_c_calls.specs.Answers.{refusal_number}
use Rattle.mw_c_geodesic.specs.declared.refusals.Refusal.TheVariants as refusal
use Rattle.mw_c_geodesic.specs.Told.{number_told}

-- The code is what is wrong with the arrays. Where nothing is, there is room for the components or not, or it is told that the element is not symmetric; or memory was refused.
abbrev pub IsRegionsAnswer : List Offset → Option Code → ℕ → ℕ → ℤ → Type 0
IsRegionsAnswer e (Some c) room count answer = answer ≡ refusal_number c
IsRegionsAnswer e None room count answer =
    ((answer ≡ pos 0) × IsSymmetric e × (7 * count ≤ room))
    ⊎ (((answer ≡ refusal_number code.Length) × IsSymmetric e × (room < 7 * count))
    ⊎ (((answer ≡ number_told refusal.OneWay) × (IsSymmetric e → ⊥)) ⊎ (answer ≡ refusal_number code.Memory)))
