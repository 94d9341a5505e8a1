-- What a payload is read as (own).
use Rattle.std.specs.Prelude.{◌≡◌, ◌⊎◌, ℕ, List, Result, Ok, Err}
use Rattle.mw_model.specs.declared.codes.Code.{Code}
use Rattle.mw_model.specs.declared.codes.Code.TheVariants as code
use Rattle.mw_model.specs.Pictures.{Picture, IsImage}
use Rattle.mw_model.specs.Elements.{Figure, IsElement, ElementRefuses}
use Rattle.mw_model.specs.NetpbmGrammar.{IsFile}
use Rattle.mw_model.specs.NetpbmRefusals.{Refuses}

-- the payload of a LOAD as an image, or why it is none, or want of memory
abbrev pub ReadsImage : List ℕ → Result Picture Code → Type 0
ReadsImage bytes (Ok f) = IsFile bytes f × IsImage f
ReadsImage bytes (Err c) = (c ≡ code.Memory) ⊎ Refuses bytes c

-- the payload of an ELEMENT as an element with this origin, or why it is none, or want of memory
abbrev pub ReadsElement : List ℕ → ℕ → ℕ → Result Figure Code → Type 0
ReadsElement bytes ox oy (Ok b) = IsElement bytes ox oy b
ReadsElement bytes ox oy (Err c) = (c ≡ code.Memory) ⊎ ElementRefuses bytes ox oy c
