use Rattle.mw_plan.proofs.Accepted.{accepted_entries, accepted_faultless, accepted_values, machine_values}
use Rattle.mw_plan.proofs.laws.accepted_runs_have_no_fault.Goals as goal

pub returns : goal.returns
returns c = record { entries = accepted_entries; faultless = accepted_faultless; values = accepted_values; machine = machine_values }
