-- What is told of faults, and to whom a writer fails (own).
use Rattle.std.specs.Prelude.{◌≡◌, ◌⊎◌, ℕ, Bool, true, List, Option}
use Rattle.std.specs.Io.KnownBytes.{Appends}
use Rattle.mw_wire.specs.Writes.{CutsShort}

-- what is known of what the writer of faults holds, and whether it failed
pub record Told : Type 0 where
  pub text : Option (List ℕ)
  pub failed : Bool

-- exactly this was told; or less of it, where the writer failed
abbrev pub TellsLine : Told → Told → List ℕ → Type 0
TellsLine old new line =
    (Appends old.text new.text line × (new.failed ≡ old.failed)) ⊎ (CutsShort old.text new.text line × (new.failed ≡ true))
