-- The first word of a line.
use Rattle.std.proofs.Common.{◌≡◌, ℕ, suc, ◌+◌, ◌<◌, ◌≤◌, Bool, true, false, not, cond, List, [], ◌∷◌, length, take, drop, refl, arith, None}
use Rattle.std.specs.Bool.{if◌then◌else◌}
use Rattle.std.specs.List.{position_or_len, onto_first}
use Rattle.std.proofs.lemmas.List.Splits.{slice_split_first}
use Rattle.mw_session_words.specs.Words.{words, is_blank, at_end}

-- what stands before the first blank, and the words behind it
pub words_first : (line : List ℕ) → position_or_len is_blank line < length line →
    words line ≡ take (position_or_len is_blank line) line ∷ words (drop (position_or_len is_blank line + 1) line)
words_first line h = slice_split_first is_blank line 0 h

last_step : (t : Bool) (b p : ℕ) (bs : List ℕ) → suc (length bs) ≤ cond (not t) (1 + p) 0 → (length bs ≤ p → words bs ≡ bs ∷ []) →
    (if t then [] ∷ words bs else onto_first b (words bs)) ≡ (b ∷ bs) ∷ []
last_step true b p bs h g = absurd (omega arith)
last_step false b p bs h g = let e = g (omega arith) in rw e refl

-- the last word
pub words_last : (line : List ℕ) → length line ≤ position_or_len is_blank line → words line ≡ line ∷ []
words_last [] h = refl
words_last (b ∷ bs) h = last_step (is_blank b) b (position_or_len is_blank bs) bs h (words_last bs)

put_none : {A : Type 0} (t : Bool) (b : ℕ) (bs : List ℕ) (ws : List (List ℕ)) (x : A) → at_end (if t then [] ∷ ws else onto_first b ws) x ≡ None
put_none true b bs ws x = refl
put_none false b bs [] x = refl
put_none false b bs (w ∷ ws) x = refl

-- a line has a word
pub words_some : {A : Type 0} (line : List ℕ) (x : A) → at_end (words line) x ≡ None
words_some [] x = refl
words_some (b ∷ bs) x = put_none (is_blank b) b bs (words bs) x
