-- What an intake keeps, and what it answers.
use Rattle.std.specs.Prelude.{◌≡◌, ℕ, ◌+◌, ◌-◌, ◌≤◌, ◌<◌, ◌⊎◌, List, [], ◌∷◌, ◌++◌, length, take, Option, None, Some, if◌then◌else◌, nat_lt}
use Rattle.std.specs.List.{position_or_len}
use Rattle.mw_model.specs.declared.requests.Request.{Request}
use Rattle.mw_model.specs.declared.requests.Request.TheVariants as request
use Rattle.mw_model.specs.declared.requests.Next.{Next}
use Rattle.mw_model.specs.declared.requests.Next.TheVariants as next
use Rattle.mw_model.specs.declared.requests.Ask.TheVariants as ask
use Rattle.mw_model.specs.declared.requests.Awaited.{Awaited}
use Rattle.mw_model.specs.declared.requests.Head.TheVariants.{Payload}
use Rattle.mw_model.specs.Lines.{Asked, AskLoad, AskElement, AskAlone, Found, Partial, Fault, line_of}
use Rattle.mw_session_intake.specs.Reading.{front, head_of, is_line_end}

-- What an intake shows: the bytes that have come and are no request yet; how many of them, the last ones, are not in the place of a payload; and how many bytes more have places, so that they come without memory being asked for.
pub record Held : Type 0 where
  pub bytes : List ℕ
  pub loose : ℕ
  pub spare : ℕ

-- a request without where its payload lies
abbrev pub asked : Request → Asked
asked (request.Load name payload) = AskLoad name payload.items
asked (request.Element name ox oy payload) = AskElement name ox oy payload.items
asked (request.Run name op) = AskAlone (ask.Run name op)
asked (request.Cancel name) = AskAlone (ask.Cancel name)
asked (request.Release name) = AskAlone (ask.Release name)
asked (request.Status name) = AskAlone (ask.Status name)
asked (request.Fetch name) = AskAlone (ask.Fetch name)
asked (request.Wait name) = AskAlone (ask.Wait name)
asked request.Quit = AskAlone ask.Quit

-- what next answers of the bytes that stood there, and what is left
abbrev pub TellsFront : Next → List ℕ → List ℕ → Type 0
TellsFront (next.Request r) old new = front old ≡ Found (asked r) new
TellsFront next.More old new = (front old ≡ Partial) × (new ≡ old)
TellsFront (next.Bad c) old new = (front old ≡ Fault c) × (new ≡ old)

-- the line, with its LF, awaits a payload of this length
pub record IsPayloadLine (line : List ℕ) (what : Awaited) (len : ℕ) : Type 0 where
  pub ends : position_or_len is_line_end line + 1 ≡ length line
  pub short : length line ≤ 201
  pub head : head_of (take (position_or_len is_line_end line) line) ≡ Some (Payload what len)
  pub limit : len ≤ 134217728

-- a line that awaits a payload stands at the front
abbrev pub AsksForPayload : List ℕ → Type 0
AsksForPayload bytes = (used : ℕ) × (what : Awaited) × (len : ℕ) × IsPayloadLine (take used bytes) what len

-- so many bytes have not come of the payload that the line at the front awaits
abbrev pub Misses : List ℕ → ℕ → Type 0
Misses bytes n = (line got : List ℕ) × (what : Awaited) × (bytes ≡ line ++ got) × IsPayloadLine line what (length got + n)

-- The line at the front awaits a payload, bytes of that have come with it, and none of them is in its place.
pub record CameWithLine (h : Held) : Type 0 where
  pub loose : h.loose ≡ length h.bytes
  pub used : ℕ
  pub what : Awaited
  pub len : ℕ
  pub line : IsPayloadLine (take used h.bytes) what len
  pub more : used < length h.bytes

-- Nothing is loose, or no more than a line with its LF: so no byte of a payload has come with its line.
abbrev pub IsTidy : Held → Type 0
IsTidy h = (h.loose ≡ 0) ⊎ ((h.loose ≡ length h.bytes) × (length h.bytes ≤ position_or_len is_line_end h.bytes + 1))

-- nothing is loose, or less than a line
abbrev pub HasNoWholeLine : Held → Type 0
HasNoWholeLine h = (h.loose ≡ 0) ⊎ ((h.loose ≡ length h.bytes) × (position_or_len is_line_end h.bytes ≡ length h.bytes))

-- The piece goes no further than to the end of the payload that is gathered, or else of a line.
pub record IsPortion (h : Held) (piece : List ℕ) : Type 0 where
  pub payload : (n : ℕ) → 0 < n → Misses h.bytes n → length piece ≤ n
  pub line : ((n : ℕ) → 0 < n → ¬ Misses h.bytes n) → length piece ≤ position_or_len is_line_end piece + 1

-- what next leaves of tidy bytes
abbrev pub Leaves : Next → Held → Type 0
Leaves (next.Request r) new = (new.loose ≡ 0) × (new.bytes ≡ [])
Leaves next.More new = HasNoWholeLine new
Leaves (next.Bad c) new = Unit {0}

-- the line that asks for a payload of this length, with its LF
unfoldable pub line_for : Awaited → ℕ → List ℕ
line_for what len = line_of (Payload what len) ++ 10 ∷ []

-- the line of the payload that is being gathered, if one is
abbrev pub line_kept : Option (Awaited × ℕ) → List ℕ
line_kept None = []
line_kept (Some w) = line_for w.0 w.1

-- no payload is being gathered, or one is, and then all that has come of it is in its place
abbrev pub IsGathering : Option (Awaited × ℕ) → List ℕ → ℕ → ℕ → Type 0
IsGathering None payload at end = payload ≡ []
IsGathering (Some w) payload at end = IsPayloadLine (line_for w.0 w.1) w.0 w.1 × (length payload ≤ w.1) × (length payload < w.1 → at ≡ end)

-- How many bytes more have places: those of a payload come first, and the others behind what is loose. have and cap are how many of it have come and have places, and room is how many loose bytes have places.
abbrev pub spare_of : Option (Awaited × ℕ) → ℕ → ℕ → ℕ → ℕ → ℕ
spare_of None have cap loose room = room - loose
spare_of (Some w) have cap loose room = if nat_lt cap w.1 then cap - have else w.1 - have + (room - loose)

-- a request takes at least one byte
abbrev pub Falls : Next → List ℕ → List ℕ → Type 0
Falls (next.Request r) old new = length new < length old
Falls next.More old new = Unit {0}
Falls (next.Bad c) old new = Unit {0}
