-- How a session may end, and where it may do so for want of memory.
use Rattle.std.specs.Prelude.{◌≡◌, ◌≢◌, ◌<◌, ◌⊎◌, ℕ, List, [], ◌++◌, length}
use Rattle.std.specs.List.{position_or_len}
use Rattle.mw_model.specs.declared.codes.Code.TheVariants.{Memory}
use Rattle.mw_model.specs.declared.requests.End.{End}
use Rattle.mw_model.specs.declared.requests.End.TheVariants.{Ended}
use Rattle.mw_model.specs.Lines.{Partial}
use Rattle.mw_model.specs.Scripts.{Ends}
use Rattle.mw_session_intake.specs.Intake.{AsksForPayload, Held, IsPortion}
use Rattle.mw_session_intake.specs.Reading.{front, is_line_end}

-- What is gathered where less than a request is held and other bytes wait to be taken: the payload that the line at the front awaits; or a line, whose LF has not been taken.
pub data Gathers (held waiting : List ℕ) : Type 0 where
  payload : AsksForPayload held → front held ≡ Partial → waiting ≢ [] → Gathers held waiting
  line : front held ≡ Partial → position_or_len is_line_end held ≡ length held → waiting ≢ [] → Gathers held waiting

-- the next portion of what waits, which goes no further than to the end of that payload or line, is longer than there are places for
abbrev pub LacksPlaces : Held → List ℕ → Type 0
LacksPlaces h waiting = (portion behind : List ℕ) × (waiting ≡ portion ++ behind) × IsPortion h portion × (h.spare < length portion)

-- want of memory may end a session where these bytes are left and an intake holds the first of them: a payload or a line is gathered, and there is no place for more of it
abbrev pub WantsRoom : Held → List ℕ → Type 0
WantsRoom h rest = (waiting : List ℕ) × (rest ≡ h.bytes ++ waiting) × Gathers h.bytes waiting × LacksPlaces h waiting

-- so it may where an intake holds some of them; or before anything was read
abbrev pub LacksRoom : List ℕ → List ℕ → Type 0
LacksRoom bytes rest = (bytes ≡ []) ⊎ ((h : Held) × WantsRoom h rest)

-- the session may end so where these bytes are left, and by want of memory only where it lacks room
abbrev pub EndsAt : (List ℕ → Type 0) → Type 0 → List ℕ → End → Type 0
EndsAt lacks whole rest e = Ends whole rest e × (e ≡ Ended Memory → lacks rest)
