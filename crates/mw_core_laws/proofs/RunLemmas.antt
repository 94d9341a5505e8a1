-- Runs of one item more, and what follows from an answer.
use Rattle.std.proofs.Common.{List, [], ◌∷◌, ◌++◌, refl, subst}
use Rattle.mw_model.specs.declared.calls.LogItem.{LogItem}
use Rattle.mw_model.specs.Machine.{Machine, Run, Step}

-- a run goes on by one step
pub run-push : (a b c : Machine) (log : List LogItem) (i : LogItem) → Run a log b → Step b i c → Run a (log ++ i ∷ []) c
run-push a b c [] i r s = let P : Machine → Type 0 = λ x. Step x i c in (c, subst P r s, refl)
run-push a b c (j ∷ log) i r s = (r.0, r.1, run-push r.0 b c log i r.2 s)
