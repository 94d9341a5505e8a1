-- How a call is answered whose payload holds nothing.
use Rattle.std.specs.Prelude.{◌≡◌, ◌≢◌, Some}
use Rattle.mw_model.specs.declared.names.Name.{Name}
use Rattle.mw_model.specs.declared.codes.Code.{Code}
use Rattle.mw_model.specs.declared.codes.Code.TheVariants as code
use Rattle.mw_model.specs.declared.calls.Given.TheVariants as given
use Rattle.mw_model.specs.declared.calls.Reply.{Reply}
use Rattle.mw_model.specs.declared.calls.Reply.TheVariants as reply
use Rattle.mw_model.specs.Refusals.{Table}
use Rattle.mw_core_refusals.specs.Checks.{given_case}

-- by the first case that holds, which is not that the payload's memory was refused
pub record IsFault (w : Table) (n : Name) (fault : Code) (r : Reply) : Type 0 where
  pub why : Code
  pub reply : r ≡ reply.Refused why
  pub case : given_case w n (given.Bad fault) ≡ Some why
  pub memory : why ≢ code.Memory
