-- A reading of the lines, word by word, and of the front of a byte list.
use Rattle.std.specs.Prelude.{ℕ, ◌+◌, Bool, ◌==◌, if◌then◌else◌, nat_lt, List, length, take, drop, Option, None, Some, codes}
use Rattle.std.specs.List.{position_or_len}
use Rattle.std.specs.Str.{bytes_eq}
use Rattle.mw_model.specs.declared.names.Name.{Name}
use Rattle.mw_model.specs.declared.operations.Op.{Op}
use Rattle.mw_model.specs.declared.operations.Op.TheVariants.{Flat, Gran}
use Rattle.mw_model.specs.declared.operations.FlatOp.{FlatOp}
use Rattle.mw_model.specs.declared.operations.FlatOp.TheVariants.{Erode, Dilate, Opening, Closing, Gradient, WhiteTopHat, BlackTopHat, Rank, Threshold, HitMiss}
use Rattle.mw_model.specs.declared.operations.GranOp.TheVariants.{Skeleton, Restore, Spectrum}
use Rattle.mw_model.specs.declared.requests.Ask.{Ask}
use Rattle.mw_model.specs.declared.requests.Ask.TheVariants as ask
use Rattle.mw_model.specs.declared.requests.Awaited.TheVariants as awaited
use Rattle.mw_model.specs.declared.requests.Head.{Head}
use Rattle.mw_model.specs.declared.requests.Head.TheVariants.{Payload, Alone}
use Rattle.mw_model.specs.declared.codes.Code.TheVariants as code
use Rattle.mw_model.specs.Lines.{Front, Partial, Fault, after_head}
pub use Rattle.mw_session_words.specs.Words.{◌>>=◌, is_blank, words, name_word, digits_number, is_number, number_word, rest, word_in, name_in, first_number, at_end, is_digit}

-- a name and no more
abbrev pub one_name : List (List ℕ) → Option Name
one_name ws = do
  a ← name_in ws
  at_end (rest ws) a

-- two names and no more
abbrev pub two_names : List (List ℕ) → Option (Name × Name)
two_names ws = do
  a ← name_in ws
  b ← name_in (rest ws)
  at_end (rest (rest ws)) (a, b)

-- three names and no more
abbrev pub three_names : List (List ℕ) → Option (Name × Name × Name)
three_names ws = do
  a ← name_in ws
  b ← name_in (rest ws)
  c ← name_in (rest (rest ws))
  at_end (rest (rest (rest ws))) (a, b, c)

-- a name, a number and no more
abbrev pub name_and_number : List (List ℕ) → Option (Name × ℕ)
name_and_number ws = do
  a ← name_in ws
  n ← first_number (rest ws)
  at_end (rest (rest ws)) (a, n)

-- two names, a number and no more
abbrev pub two_names_and_number : List (List ℕ) → Option (Name × Name × ℕ)
two_names_and_number ws = do
  a ← name_in ws
  b ← name_in (rest ws)
  n ← first_number (rest (rest ws))
  at_end (rest (rest (rest ws))) (a, b, n)

-- a name, three numbers and no more
abbrev pub name_and_three_numbers : List (List ℕ) → Option (Name × ℕ × ℕ × ℕ)
name_and_three_numbers ws = do
  a ← name_in ws
  k ← first_number (rest ws)
  m ← first_number (rest (rest ws))
  n ← first_number (rest (rest (rest ws)))
  at_end (rest (rest (rest (rest ws)))) (a, k, m, n)

-- the operations on an image and an element
unfoldable pub window_op : List ℕ → Name → Name → Option FlatOp
window_op word f b =
    if bytes_eq word (codes "ERODE") then Some (Erode f b)
    else (if bytes_eq word (codes "DILATE") then Some (Dilate f b)
    else (if bytes_eq word (codes "OPEN") then Some (Opening f b)
    else (if bytes_eq word (codes "CLOSE") then Some (Closing f b)
    else (if bytes_eq word (codes "GRADIENT") then Some (Gradient f b)
    else (if bytes_eq word (codes "WTOPHAT") then Some (WhiteTopHat f b)
    else (if bytes_eq word (codes "BTOPHAT") then Some (BlackTopHat f b)
    else None))))))

-- what a RUN computes: the word of an operation, and its arguments
unfoldable pub op_with : List ℕ → List (List ℕ) → Option Op
op_with word ws =
    if bytes_eq word (codes "THRESHOLD") then name_and_number ws >>= (λ a. Some (Flat (Threshold a.0 a.1)))
    else (if bytes_eq word (codes "HITMISS") then three_names ws >>= (λ a. Some (Flat (HitMiss a.0 a.1 a.2)))
    else (if bytes_eq word (codes "RANK") then two_names_and_number ws >>= (λ a. Some (Flat (Rank a.0 a.1 a.2)))
    else (if bytes_eq word (codes "SKELETON") then two_names_and_number ws >>= (λ a. Some (Gran (Skeleton a.0 a.1 a.2)))
    else (if bytes_eq word (codes "RESTORE") then two_names_and_number ws >>= (λ a. Some (Gran (Restore a.0 a.1 a.2)))
    else (if bytes_eq word (codes "SPECTRUM") then two_names_and_number ws >>= (λ a. Some (Gran (Spectrum a.0 a.1 a.2)))
    else two_names ws >>= (λ a. window_op word a.0 a.1 >>= (λ op. Some (Flat op))))))))

-- a RUN: the name of the result, and what is computed
abbrev pub run_in : List (List ℕ) → Option Ask
run_in ws = do
  name ← name_in ws
  word ← word_in (rest ws)
  op ← op_with word (rest (rest ws))
  Some (ask.Run name op)

-- a request without a payload, but RUN: its word, and a name
unfoldable pub ask_with : List ℕ → List (List ℕ) → Option Ask
ask_with word ws =
    if bytes_eq word (codes "CANCEL") then one_name ws >>= (λ a. Some (ask.Cancel a))
    else (if bytes_eq word (codes "RELEASE") then one_name ws >>= (λ a. Some (ask.Release a))
    else (if bytes_eq word (codes "STATUS") then one_name ws >>= (λ a. Some (ask.Status a))
    else (if bytes_eq word (codes "FETCH") then one_name ws >>= (λ a. Some (ask.Fetch a))
    else (if bytes_eq word (codes "WAIT") then one_name ws >>= (λ a. Some (ask.Wait a))
    else (if bytes_eq word (codes "QUIT") then at_end ws ask.Quit
    else None)))))

-- what a line says: its first word, and the words behind it
unfoldable pub head_with : List ℕ → List (List ℕ) → Option Head
head_with word ws =
    if bytes_eq word (codes "LOAD") then name_and_number ws >>= (λ a. Some (Payload (awaited.Image a.0) a.1))
    else (if bytes_eq word (codes "ELEMENT") then name_and_three_numbers ws >>= (λ a. Some (Payload (awaited.Element a.0 a.1 a.2) a.3))
    else (if bytes_eq word (codes "RUN") then run_in ws >>= (λ a. Some (Alone a))
    else ask_with word ws >>= (λ a. Some (Alone a))))

-- what a line says, without its LF
unfoldable pub head_of : List ℕ → Option Head
head_of line = do
  word ← word_in (words line)
  head_with word (rest (words line))

-- LF
abbrev pub is_line_end : ℕ → Bool
is_line_end b = b == 10

-- what stands at the front: up to the first LF a line, if it comes in time
unfoldable pub front : List ℕ → Front
front bytes =
    if nat_lt 200 (position_or_len is_line_end bytes) then Fault code.Line
    else (if nat_lt (position_or_len is_line_end bytes) (length bytes)
    then after_head (head_of (take (position_or_len is_line_end bytes) bytes)) (drop (position_or_len is_line_end bytes + 1) bytes)
    else Partial)
