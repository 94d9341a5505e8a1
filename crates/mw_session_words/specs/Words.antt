-- The words of a line, and what each is read as.
use Rattle.std.specs.Prelude.{ℕ, ◌+◌, ◌-◌, ◌*◌, Bool, true, ◌&&◌, ◌==◌, if◌then◌else◌, nat_le, List, [], ◌∷◌, length, drop, Option, None, Some, fold, slice_index}
use Rattle.std.specs.List.{list_all, slice_split}
use Rattle.std.specs.Borrow.{Bor}
use Rattle.mw_model.specs.declared.names.Name.{Name}
use Rattle.mw_model.specs.Names.{is_name, name_of}
pub use Rattle.mw_model.specs.NetpbmGrammar.{is_digit}

infixl 10 ◌>>=◌
-- one reading after another
abbrev pub ◌>>=◌ : {A B : Type 0} → Option A → (A → Option B) → Option B
None >>= f = None
(Some x) >>= f = f x

-- a blank
abbrev pub is_blank : ℕ → Bool
is_blank b = b == 32

-- the words of a line: what stands before, between and behind its blanks
abbrev pub words : List ℕ → List (List ℕ)
words = slice_split is_blank

-- a name
abbrev pub name_word : List ℕ → Option Name
name_word word = if is_name word then Some (name_of word) else None

-- the number that digits spell
abbrev pub digits_number : List ℕ → ℕ
digits_number = fold (λ n b. 10 * n + (b - 48)) 0

-- one to nine digits, the first of which is 0 only where it stands alone
abbrev pub is_number : List ℕ → Bool
is_number word = nat_le 1 (length word) && nat_le (length word) 9 && list_all is_digit word && (if slice_index word 0 == 48 then length word == 1 else true)

-- a number
abbrev pub number_word : List ℕ → Option ℕ
number_word word = if is_number word then Some (digits_number word) else None

-- the words behind the first
abbrev pub rest : List (List ℕ) → List (List ℕ)
rest = drop 1

-- the first word, as it stands
abbrev pub word_in : List (List ℕ) → Option (List ℕ)
word_in [] = None
word_in (w ∷ ws) = Some w

-- the first word, read as a name
abbrev pub name_in : List (List ℕ) → Option Name
name_in ws = word_in ws >>= name_word

-- the first word, read as a number
abbrev pub first_number : List (List ℕ) → Option ℕ
first_number ws = word_in ws >>= number_word

-- what is said where no word is left
abbrev pub at_end : {A : Type 0} → List (List ℕ) → A → Option A
at_end [] x = Some x
at_end (w ∷ ws) x = None

-- the words of what is left of a line, and none behind its last word
abbrev pub words_left : Option (Bor (List ℕ)) → List (List ℕ)
words_left None = []
words_left (Some line) = words line.now

-- the bytes behind a reference, where there is one
abbrev pub seen : Option (Bor (List ℕ)) → Option (List ℕ)
seen None = None
seen (Some word) = Some word.now
