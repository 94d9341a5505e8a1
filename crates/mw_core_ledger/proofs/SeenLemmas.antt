-- What a core shows of the work under a ticket.
use Rattle.std.proofs.Common.{◌≡◌, ℕ, List, Option, Some, None, map, option_map, ap, ◌∙◌, refl, sym}
use Rattle.std.proofs.Math.ListN.{get_or-map}
use Rattle.mw_model.specs.Stands.{progress_at}
use Rattle.mw_model.specs.Tasks.{Progress}
use Rattle.mw_core_tasks.specs.mw_core_progress.ProgressView.{ProgressView}
use Rattle.mw_core_ledger.specs.Books.{progress_of, work_at}

pub progress-shown : (in_progress : List (Option ProgressView)) (t : ℕ) → progress_at (map (option_map progress_of) in_progress) t ≡ option_map progress_of (work_at in_progress t)
progress-shown in_progress t = get_or-map (option_map progress_of) in_progress t None

pub progress-seen : (in_progress : List (Option ProgressView)) (t : ℕ) (u : ProgressView) → work_at in_progress t ≡ Some u → progress_at (map (option_map progress_of) in_progress) t ≡ Some u.progress
progress-seen in_progress t u e = progress-shown in_progress t ∙ ap (option_map progress_of) e

-- behind what is shown of work there is work
pub work-shown : (in_progress : List (Option ProgressView)) (t : ℕ) (p : Progress) → progress_at (map (option_map progress_of) in_progress) t ≡ Some p → (u : ProgressView) × (work_at in_progress t ≡ Some u) × (u.progress ≡ p)
work-shown in_progress t p e = of_some (work_at in_progress t) (sym (progress-shown in_progress t) ∙ e)
  where
    of_some : (o : Option ProgressView) → option_map progress_of o ≡ Some p → (u : ProgressView) × (o ≡ Some u) × (u.progress ≡ p)
    of_some None h = absurd cc
    of_some (Some u) h = (u, refl, cc)
