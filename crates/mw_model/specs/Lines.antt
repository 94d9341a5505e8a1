-- The lines of the protocol, and what they ask for (own).
use Rattle.std.specs.Prelude.{◌<◌, ◌≤◌, map, decimal, ◌≡◌, ◌≢◌, ℕ, true, if◌then◌else◌, nat_lt, List, [], ◌∷◌, ◌++◌, length, take, drop, Option, None, Some, codes}
use Rattle.std.specs.List.{join_with_byte, AllByRecursion}
use Rattle.mw_model.specs.declared.names.Name.{Name}
use Rattle.mw_model.specs.declared.operations.Op.{Op}
use Rattle.mw_model.specs.declared.operations.Op.TheVariants.{Flat, Gran}
use Rattle.mw_model.specs.declared.operations.FlatOp.TheVariants.{Erode, Dilate, Opening, Closing, Gradient, WhiteTopHat, BlackTopHat, Rank, Threshold, HitMiss}
use Rattle.mw_model.specs.declared.operations.GranOp.TheVariants.{Skeleton, Restore, Spectrum}
use Rattle.mw_model.specs.declared.requests.Ask.{Ask}
use Rattle.mw_model.specs.declared.requests.Ask.TheVariants as ask
use Rattle.mw_model.specs.declared.requests.Awaited.{Awaited}
use Rattle.mw_model.specs.declared.requests.Awaited.TheVariants as awaited
use Rattle.mw_model.specs.declared.requests.Head.{Head}
use Rattle.mw_model.specs.declared.requests.Head.TheVariants.{Payload, Alone}
use Rattle.mw_model.specs.declared.codes.Code.{Code}
use Rattle.mw_model.specs.declared.codes.Code.TheVariants as code
use Rattle.mw_model.specs.Names.{is_name, name_of, spelling}

-- ---- the lines

-- what stands in a place of a line: a fixed text, a name or a number
pub data Word : Type 0 where
  Fixed : List ℕ → Word
  ForName : Name → Word
  ForNumber : ℕ → Word

-- how a word is written
abbrev pub spelled : Word → List ℕ
spelled (Fixed text) = text
spelled (ForName name) = spelling name
spelled (ForNumber n) = decimal n

-- some text spells the name
abbrev pub IsName : Name → Type 0
IsName name = (text : List ℕ) × (is_name text ≡ true) × (name ≡ name_of text)

-- a number has at most nine digits
abbrev pub Fits : Word → Type 0
Fits (Fixed text) = Unit {0}
Fits (ForName name) = IsName name
Fits (ForNumber n) = n < 1000000000

-- an operation and its arguments
abbrev pub op_words : Op → List Word
op_words (Flat (Erode f b)) = Fixed (codes "ERODE") ∷ ForName f ∷ ForName b ∷ []
op_words (Flat (Dilate f b)) = Fixed (codes "DILATE") ∷ ForName f ∷ ForName b ∷ []
op_words (Flat (Opening f b)) = Fixed (codes "OPEN") ∷ ForName f ∷ ForName b ∷ []
op_words (Flat (Closing f b)) = Fixed (codes "CLOSE") ∷ ForName f ∷ ForName b ∷ []
op_words (Flat (Gradient f b)) = Fixed (codes "GRADIENT") ∷ ForName f ∷ ForName b ∷ []
op_words (Flat (WhiteTopHat f b)) = Fixed (codes "WTOPHAT") ∷ ForName f ∷ ForName b ∷ []
op_words (Flat (BlackTopHat f b)) = Fixed (codes "BTOPHAT") ∷ ForName f ∷ ForName b ∷ []
op_words (Flat (Rank f b k)) = Fixed (codes "RANK") ∷ ForName f ∷ ForName b ∷ ForNumber k ∷ []
op_words (Flat (Threshold f k)) = Fixed (codes "THRESHOLD") ∷ ForName f ∷ ForNumber k ∷ []
op_words (Flat (HitMiss f hit miss)) = Fixed (codes "HITMISS") ∷ ForName f ∷ ForName hit ∷ ForName miss ∷ []
op_words (Gran (Skeleton f b levels)) = Fixed (codes "SKELETON") ∷ ForName f ∷ ForName b ∷ ForNumber levels ∷ []
op_words (Gran (Restore g b levels)) = Fixed (codes "RESTORE") ∷ ForName g ∷ ForName b ∷ ForNumber levels ∷ []
op_words (Gran (Spectrum f b levels)) = Fixed (codes "SPECTRUM") ∷ ForName f ∷ ForName b ∷ ForNumber levels ∷ []

-- each line, word by word
abbrev pub words_of : Head → List Word
words_of (Payload (awaited.Image name) len) = Fixed (codes "LOAD") ∷ ForName name ∷ ForNumber len ∷ []
words_of (Payload (awaited.Element name ox oy) len) = Fixed (codes "ELEMENT") ∷ ForName name ∷ ForNumber ox ∷ ForNumber oy ∷ ForNumber len ∷ []
words_of (Alone (ask.Run name op)) = Fixed (codes "RUN") ∷ ForName name ∷ op_words op
words_of (Alone (ask.Cancel name)) = Fixed (codes "CANCEL") ∷ ForName name ∷ []
words_of (Alone (ask.Release name)) = Fixed (codes "RELEASE") ∷ ForName name ∷ []
words_of (Alone (ask.Status name)) = Fixed (codes "STATUS") ∷ ForName name ∷ []
words_of (Alone (ask.Fetch name)) = Fixed (codes "FETCH") ∷ ForName name ∷ []
words_of (Alone (ask.Wait name)) = Fixed (codes "WAIT") ∷ ForName name ∷ []
words_of (Alone ask.Quit) = Fixed (codes "QUIT") ∷ []

-- the line that says this: its words with exactly one blank between two
abbrev pub line_of : Head → List ℕ
line_of head = join_with_byte 32 (map spelled (words_of head))

-- its names are names, and its numbers have at most nine digits
abbrev pub IsSayable : Head → Type 0
IsSayable head = AllByRecursion Fits (words_of head)

-- what a line says, without its LF: what can be said and has this line, or nothing
abbrev pub Says : List ℕ → Option Head → Type 0
Says line (Some head) = IsSayable head × (line_of head ≡ line)
Says line None = (head : Head) → IsSayable head → line_of head ≢ line

-- ---- requests

-- a request with its payload, without where it lies in memory
pub data Asked : Type 0 where
  AskLoad : Name → List ℕ → Asked
  AskElement : Name → ℕ → ℕ → List ℕ → Asked
  AskAlone : Ask → Asked

-- the request of a line with its payload
abbrev pub asked_with : Awaited → List ℕ → Asked
asked_with (awaited.Image name) payload = AskLoad name payload
asked_with (awaited.Element name ox oy) payload = AskElement name ox oy payload

-- what stands at the front of a byte list: a request and the bytes after it, less than one, or a fault
pub data Front : Type 0 where
  Found : Asked → List ℕ → Front
  Partial : Front
  Fault : Code → Front

-- what follows a line that awaits a payload
abbrev pub with_payload : Awaited → ℕ → List ℕ → Front
with_payload what n behind =
    if nat_lt 134217728 n then Fault code.Length
    else (if nat_lt (length behind) n then Partial else Found (asked_with what (take n behind)) (drop n behind))

-- what follows a line
abbrev pub after_head : Option Head → List ℕ → Front
after_head None behind = Fault code.Line
after_head (Some (Payload what n)) behind = with_payload what n behind
after_head (Some (Alone a)) behind = Found (AskAlone a) behind

-- no LF stands in the bytes
abbrev pub NoLineEnd : List ℕ → Type 0
NoLineEnd bytes = AllByRecursion (λ b. b ≢ 10) bytes

-- What stands at the front of the bytes: a line ends with the first LF, and has at most 200 bytes before it.
pub data IsFront (bytes : List ℕ) (front : Front) : Type 0 where
  too_long : 200 < length bytes → NoLineEnd (take 201 bytes) → front ≡ Fault code.Line → IsFront bytes front
  unended : length bytes ≤ 200 → NoLineEnd bytes → front ≡ Partial → IsFront bytes front
  ended : (line behind : List ℕ) (said : Option Head) → bytes ≡ line ++ 10 ∷ behind → NoLineEnd line → length line ≤ 200 → Says line said → front ≡ after_head said behind → IsFront bytes front

-- the bytes begin with these requests, and this is what stands after them
abbrev pub Begins : List ℕ → List Asked → List ℕ → Type 0
Begins bytes [] behind = behind ≡ bytes
Begins bytes (r ∷ rs) behind = (mid : List ℕ) × IsFront bytes (Found r mid) × Begins mid rs behind
