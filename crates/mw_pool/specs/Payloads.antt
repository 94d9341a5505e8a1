-- What a call tells of the bytes of its payload.
use Rattle.std.specs.Prelude.{◌≡◌, ℕ, ◌⊎◌, List, Option}
use Rattle.mw_model.specs.declared.codes.Code.TheVariants as code
use Rattle.mw_model.specs.declared.calls.Given.{Given}
use Rattle.mw_model.specs.declared.calls.Given.TheVariants as given
use Rattle.mw_model.specs.Values.{Value}
use Rattle.mw_model.specs.Scripts.{ImageGiven, ElementGiven}

-- the shape of the image that the bytes are a file of, or why they are none, or want of memory
abbrev pub TellsImage : List ℕ → Given → Type 0
TellsImage bytes g = (g ≡ given.Bad code.Memory) ⊎ ((p : Option Value) × ImageGiven bytes g p)

-- the shape of the element that the bytes are with this origin, or why they are none, or want of memory
abbrev pub TellsElement : List ℕ → ℕ → ℕ → Given → Type 0
TellsElement bytes ox oy g = (g ≡ given.Bad code.Memory) ⊎ ((p : Option Value) × ElementGiven bytes ox oy g p)
