-- Where an item of the log may ask for memory.
use Rattle.std.specs.Prelude.{◌+◌, length, count_by}
use Rattle.mw_model.specs.Refusals.{is_pending}
use Rattle.mw_model.specs.Stands.{CoreView}
use Rattle.mw_store.specs.RowRoom.{FillsRows}

-- the items of the log, and the places that are kept for the ends of pending entries, fill their rows of 16
abbrev pub IsLogFull : CoreView → Type 0
IsLogFull c = FillsRows (length c.log + count_by is_pending c.table.outcomes)
