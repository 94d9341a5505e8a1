-- Parts of what a core shows.
use Rattle.std.specs.Prelude.{◌≡◌, length}
use Rattle.mw_model.specs.Stands.{CoreView}
use Rattle.mw_store.specs.Stored.{Stored, StoreIsWhole}

-- what the store of a core shows
abbrev pub stored_of : CoreView → Stored
stored_of c = record { table = c.table; kept = c.kept }

-- there is a place for work with each name, and the store is whole
pub record IsComplete (c : CoreView) : Type 0 where
  pub stored : StoreIsWhole (stored_of c)
  pub work : length c.work ≡ length c.table.names
