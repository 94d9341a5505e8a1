use Rattle.std.proofs.Common.{ℕ, List, Result, Ok, Vec, Global, sym, ap, ◌∙◌}
use Rattle.mw_model.specs.Rasters.{Raster}
use Rattle.mw_netpbm_plain.specs.declared.fault.ReadFault.{ReadFault}
use Rattle.mw_netpbm_plain.specs.Reading.{result_viewed}
use Rattle.mw_netpbm_plain.proofs.PlainSets.{set_found}
use Rattle.mw_netpbm_plain.proofs.sets.set.Goals as goal

abbrev items_in : Result (Vec ℕ Global) ReadFault → Result (List ℕ) ReadFault
items_in found = result_viewed (λ v. v.items) found

pub new-requires : goal.new-requires
new-requires c = (set_found c.args.width c.args.height c.args.bytes.now c.in-Ok-Ok.words.items (ap items_in (sym c.in-Ok-Ok.field-0-is) ∙ c.in-Ok-Ok.ensures.value)).0

pub returns-in-Ok-Ok : goal.returns-in-Ok-Ok
returns-in-Ok-Ok c =
    (set_found c.args.width c.args.height c.args.bytes.now c.in-Ok-Ok.words.items (ap items_in (sym c.in-Ok-Ok.field-0-is) ∙ c.in-Ok-Ok.ensures.value)).1
    ∙ ap (λ (f : Raster ℕ). Ok f) (sym c.new.ensures)
