-- What samples an array has (own).
use Rattle.std.specs.Prelude.{◌≡◌, ℕ}
use Rattle.mw_c_arrays.specs.declared.sources.ArrayImage.{ArrayImage}
use Rattle.mw_c_arrays.specs.declared.sources.ArrayImage.TheVariants as source

-- it has levels of grey, in samples whose greatest level is this
abbrev pub HasLevelsUpTo : ℕ → ArrayImage → Type 0
HasLevelsUpTo top (source.Grey8 f) = top ≡ 255
HasLevelsUpTo top (source.Grey16 f) = top ≡ 65535
HasLevelsUpTo top (source.Pixels f) = ⊥
