-- Where one more entry may ask for memory: places are made for rows of 16 entries at least.
use Rattle.std.specs.Prelude.{ℕ, ◌≡◌, ◌≤◌, ◌+◌, ◌*◌, ◌/◌, ◌%◌, true, List}
use Rattle.mw_model.specs.declared.submissions.Inputs.{Inputs}
use Rattle.mw_model.specs.declared.calls.Outcome.{Outcome}
use Rattle.mw_model.specs.Refusals.{is_pending, outcome_at}
use Rattle.mw_store.specs.declared.kept.Entry.{Entry}
use Rattle.mw_store.specs.declared.kept.Entry.TheVariants as entry
use Rattle.mw_store.specs.Wanted.{is_among}

-- so many entries fill their rows
abbrev pub FillsRows : ℕ → Type 0
FillsRows n = n % 16 ≡ 0

-- with so many places, the last row of so many entries has all of its own
abbrev pub HasRow : ℕ → ℕ → Type 0
HasRow count places = 16 * ((count + 15) / 16) ≤ places

-- so it is with each column of so many entries, and with their names
pub record HasRowOfEach (count a b c d e f : ℕ) : Type 0 where
  pub submissions : HasRow count a
  pub outcomes : HasRow count b
  pub kept : HasRow count c
  pub wanted : HasRow count d
  pub waiting : HasRow count e
  pub names : HasRow count f

-- one of the inputs is pending, and so its list takes one more that waits for it
abbrev pub AwaitsInput : List Outcome → Inputs → Type 0
AwaitsInput outcomes inputs = (t : ℕ) × (is_among inputs t ≡ true) × (is_pending (outcome_at outcomes t) ≡ true)

-- beside its places in the columns the entry takes the count of an element's owners, or places in the lists of its inputs
abbrev pub TakesMore : List Outcome → Entry → Type 0
TakesMore outcomes (entry.Image f) = ⊥
TakesMore outcomes (entry.Element b) = Unit {0}
TakesMore outcomes (entry.Run s) = AwaitsInput outcomes s.inputs
