-- The line of what can be said is read as that.
use Rattle.std.proofs.Common.{◌≡◌, ℕ, ◌<◌, Bool, true, false, not, List, [], ◌∷◌, ◌++◌, map, refl, ap, ◌∙◌, Some, decimal, arith}
use Rattle.std.specs.List.{join_with_byte, AllByRecursion, list_all}
use Rattle.std.proofs.lemmas.Bool.{and_parts, ne_eqb, not-true}
use Rattle.std.proofs.lemmas.Fmt.{digits_decimal}
use Rattle.mw_model.specs.declared.names.Name.{Name}
use Rattle.mw_model.specs.declared.operations.Op.{Op}
use Rattle.mw_model.specs.declared.operations.Op.TheVariants.{Flat, Gran}
use Rattle.mw_model.specs.declared.operations.FlatOp.TheVariants.{Erode, Dilate, Opening, Closing, Gradient, WhiteTopHat, BlackTopHat, Rank, Threshold, HitMiss}
use Rattle.mw_model.specs.declared.operations.GranOp.TheVariants.{Skeleton, Restore, Spectrum}
use Rattle.mw_model.specs.declared.requests.Ask.TheVariants as ask
use Rattle.mw_model.specs.declared.requests.Awaited.TheVariants as awaited
use Rattle.mw_model.specs.declared.requests.Head.{Head}
use Rattle.mw_model.specs.declared.requests.Head.TheVariants.{Payload, Alone}
use Rattle.mw_model.specs.Names.{spelling, is_name_byte}
use Rattle.mw_model.proofs.Spellings.{spelling_of}
use Rattle.mw_model.specs.Lines.{Word, Fixed, ForName, ForNumber, Fits, IsName, spelled, op_words, words_of, line_of, IsSayable}
use Rattle.mw_session_intake.specs.Reading.{words, is_blank, is_digit, one_name, two_names, three_names, name_and_number, two_names_and_number, name_and_three_numbers, window_op, op_with, run_in, ask_with, head_with, head_of, word_in, rest, ◌>>=◌}
use Rattle.mw_session_intake.proofs.Fields.{own, name_spelled, number_spelled}

-- no blank stands in the word
NoBlank : List ℕ → Type 0
NoBlank word = list_all (λ b. not (is_blank b)) word ≡ true

not_blank : (p : ℕ → Bool) (b : ℕ) → p 32 ≡ false → p b ≡ true → is_blank b ≡ false
not_blank p b at h = ne_eqb b 32 (λ e. let same : p b ≡ p 32 = ap p e in cc)

no_blank_of : (p : ℕ → Bool) (word : List ℕ) → p 32 ≡ false → list_all p word ≡ true → list_all (λ b. not (is_blank b)) word ≡ true
no_blank_of p [] at h = refl
no_blank_of p (b ∷ word) at h =
    let q = and_parts (p b) (list_all p word) h in
    rw (not_blank p b at q.0) (no_blank_of p word at q.1)

split_last : (word : List ℕ) → list_all (λ b. not (is_blank b)) word ≡ true → words word ≡ word ∷ []
split_last [] h = refl
split_last (b ∷ word) h =
    let q = and_parts (not (is_blank b)) (list_all (λ c. not (is_blank c)) word) h in
    rw (not-true (is_blank b) q.0, split_last word q.1) refl

split_before : (word behind : List ℕ) → list_all (λ b. not (is_blank b)) word ≡ true → words (word ++ 32 ∷ behind) ≡ word ∷ words behind
split_before [] behind h = refl
split_before (b ∷ word) behind h =
    let q = and_parts (not (is_blank b)) (list_all (λ c. not (is_blank c)) word) h in
    rw (not-true (is_blank b) q.0, split_before word behind q.1) refl

-- words without blanks, joined by single blanks, are the words of the line
split_joined : (word : List ℕ) (ws : List (List ℕ)) → AllByRecursion NoBlank (word ∷ ws) → words (join_with_byte 32 (word ∷ ws)) ≡ word ∷ ws
unfolding NoBlank
split_joined word [] h = split_last word h.0
split_joined word (next ∷ ws) h = split_before word (join_with_byte 32 (next ∷ ws)) h.0 ∙ ap (λ l. word ∷ l) (split_joined next ws h.1)

name_open : (name : Name) → IsName name → NoBlank (spelling name)
unfolding NoBlank
name_open name h =
    let t : spelling name ≡ h.0 = ap (λ n. spelling n) h.2 ∙ spelling_of h.0 h.1 in
    let bytes = and_parts _ (list_all is_name_byte h.0) h.1 in
    rw t (no_blank_of is_name_byte h.0 refl bytes.1)

number_open : (n : ℕ) → n < 1000000000 → NoBlank (decimal n)
unfolding NoBlank
number_open n h = no_blank_of is_digit (decimal n) refl (digits_decimal own n (omega arith))

-- what stands in a place has no blank, where a fixed text has none
abbrev FixedOpen : Word → Type 0
FixedOpen (Fixed text) = NoBlank text
FixedOpen (ForName name) = Unit {0}
FixedOpen (ForNumber n) = Unit {0}

word_open : (w : Word) → FixedOpen w → Fits w → NoBlank (spelled w)
word_open (Fixed text) o h = o
word_open (ForName name) o h = name_open name h
word_open (ForNumber n) o h = number_open n h

words_open : (ws : List Word) → AllByRecursion FixedOpen ws → AllByRecursion Fits ws → AllByRecursion NoBlank (map spelled ws)
words_open [] o h = tt
words_open (w ∷ ws) o h = (word_open w o.0 h.0, words_open ws o.1 h.1)

op_open : (op : Op) → AllByRecursion FixedOpen (op_words op)
unfolding NoBlank
op_open (Flat (Erode f b)) = (refl, (tt, (tt, tt)))
op_open (Flat (Dilate f b)) = (refl, (tt, (tt, tt)))
op_open (Flat (Opening f b)) = (refl, (tt, (tt, tt)))
op_open (Flat (Closing f b)) = (refl, (tt, (tt, tt)))
op_open (Flat (Gradient f b)) = (refl, (tt, (tt, tt)))
op_open (Flat (WhiteTopHat f b)) = (refl, (tt, (tt, tt)))
op_open (Flat (BlackTopHat f b)) = (refl, (tt, (tt, tt)))
op_open (Flat (Rank f b k)) = (refl, (tt, (tt, (tt, tt))))
op_open (Flat (Threshold f k)) = (refl, (tt, (tt, tt)))
op_open (Flat (HitMiss f hit miss)) = (refl, (tt, (tt, (tt, tt))))
op_open (Gran (Skeleton f b levels)) = (refl, (tt, (tt, (tt, tt))))
op_open (Gran (Restore g b levels)) = (refl, (tt, (tt, (tt, tt))))
op_open (Gran (Spectrum f b levels)) = (refl, (tt, (tt, (tt, tt))))

head_open : (h : Head) → AllByRecursion FixedOpen (words_of h)
unfolding NoBlank
head_open (Payload (awaited.Image name) len) = (refl, (tt, (tt, tt)))
head_open (Payload (awaited.Element name ox oy) len) = (refl, (tt, (tt, (tt, (tt, tt)))))
head_open (Alone (ask.Run name op)) = (refl, (tt, op_open op))
head_open (Alone (ask.Cancel name)) = (refl, (tt, tt))
head_open (Alone (ask.Release name)) = (refl, (tt, tt))
head_open (Alone (ask.Status name)) = (refl, (tt, tt))
head_open (Alone (ask.Fetch name)) = (refl, (tt, tt))
head_open (Alone (ask.Wait name)) = (refl, (tt, tt))
head_open (Alone ask.Quit) = (refl, tt)

one_name_reads : (a : Name) → IsName a → one_name (spelling a ∷ []) ≡ Some a
one_name_reads a h = rw (name_spelled a h) refl

two_names_reads : (a b : Name) → IsName a → IsName b → two_names (spelling a ∷ spelling b ∷ []) ≡ Some (a, b)
two_names_reads a b h k = rw (name_spelled a h, name_spelled b k) refl

three_names_reads : (a b c : Name) → IsName a → IsName b → IsName c → three_names (spelling a ∷ spelling b ∷ spelling c ∷ []) ≡ Some (a, b, c)
three_names_reads a b c h k l = rw (name_spelled a h, name_spelled b k, name_spelled c l) refl

name_and_number_reads : (a : Name) (n : ℕ) → IsName a → n < 1000000000 → name_and_number (spelling a ∷ decimal n ∷ []) ≡ Some (a, n)
name_and_number_reads a n h k = rw (name_spelled a h, number_spelled n k) refl

two_names_and_number_reads : (a b : Name) (n : ℕ) → IsName a → IsName b → n < 1000000000 → two_names_and_number (spelling a ∷ spelling b ∷ decimal n ∷ []) ≡ Some (a, b, n)
two_names_and_number_reads a b n h k l = rw (name_spelled a h, name_spelled b k, number_spelled n l) refl

name_and_three_numbers_reads : (a : Name) (k m n : ℕ) → IsName a → k < 1000000000 → m < 1000000000 → n < 1000000000 → name_and_three_numbers (spelling a ∷ decimal k ∷ decimal m ∷ decimal n ∷ []) ≡ Some (a, k, m, n)
name_and_three_numbers_reads a k m n h i j l = rw (name_spelled a h, number_spelled k i, number_spelled m j, number_spelled n l) refl

abbrev first_text : List Word → List ℕ
first_text [] = []
first_text (w ∷ ws) = spelled w

abbrev words_behind : List Word → List Word
words_behind [] = []
words_behind (w ∷ ws) = ws

op_split : (op : Op) → map spelled (op_words op) ≡ first_text (op_words op) ∷ map spelled (words_behind (op_words op))
op_split (Flat (Erode f b)) = refl
op_split (Flat (Dilate f b)) = refl
op_split (Flat (Opening f b)) = refl
op_split (Flat (Closing f b)) = refl
op_split (Flat (Gradient f b)) = refl
op_split (Flat (WhiteTopHat f b)) = refl
op_split (Flat (BlackTopHat f b)) = refl
op_split (Flat (Rank f b k)) = refl
op_split (Flat (Threshold f k)) = refl
op_split (Flat (HitMiss f hit miss)) = refl
op_split (Gran (Skeleton f b levels)) = refl
op_split (Gran (Restore g b levels)) = refl
op_split (Gran (Spectrum f b levels)) = refl

-- what is read of an operation's words, the first of them apart
op_reads : (op : Op) → AllByRecursion Fits (op_words op) → op_with (first_text (op_words op)) (map spelled (words_behind (op_words op))) ≡ Some op
unfolding op_with window_op
op_reads (Flat (Erode f b)) h = rw (two_names_reads f b h.1.0 h.1.1.0) refl
op_reads (Flat (Dilate f b)) h = rw (two_names_reads f b h.1.0 h.1.1.0) refl
op_reads (Flat (Opening f b)) h = rw (two_names_reads f b h.1.0 h.1.1.0) refl
op_reads (Flat (Closing f b)) h = rw (two_names_reads f b h.1.0 h.1.1.0) refl
op_reads (Flat (Gradient f b)) h = rw (two_names_reads f b h.1.0 h.1.1.0) refl
op_reads (Flat (WhiteTopHat f b)) h = rw (two_names_reads f b h.1.0 h.1.1.0) refl
op_reads (Flat (BlackTopHat f b)) h = rw (two_names_reads f b h.1.0 h.1.1.0) refl
op_reads (Flat (Rank f b k)) h = rw (two_names_and_number_reads f b k h.1.0 h.1.1.0 h.1.1.1.0) refl
op_reads (Flat (Threshold f k)) h = rw (name_and_number_reads f k h.1.0 h.1.1.0) refl
op_reads (Flat (HitMiss f hit miss)) h = rw (three_names_reads f hit miss h.1.0 h.1.1.0 h.1.1.1.0) refl
op_reads (Gran (Skeleton f b levels)) h = rw (two_names_and_number_reads f b levels h.1.0 h.1.1.0 h.1.1.1.0) refl
op_reads (Gran (Restore g b levels)) h = rw (two_names_and_number_reads g b levels h.1.0 h.1.1.0 h.1.1.1.0) refl
op_reads (Gran (Spectrum f b levels)) h = rw (two_names_and_number_reads f b levels h.1.0 h.1.1.0 h.1.1.1.0) refl

run_reads : (name : Name) (op : Op) → IsName name → AllByRecursion Fits (op_words op) → run_in (spelling name ∷ map spelled (op_words op)) ≡ Some (ask.Run name op)
run_reads name op h k = rw (name_spelled name h, op_split op, op_reads op k) refl

-- the words of what can be said are read as that
words_read : (h : Head) → IsSayable h → (word_in (map spelled (words_of h)) >>= (λ word. head_with word (rest (map spelled (words_of h))))) ≡ Some h
unfolding head_with ask_with
words_read (Payload (awaited.Image name) len) h = rw (name_and_number_reads name len h.1.0 h.1.1.0) refl
words_read (Payload (awaited.Element name ox oy) len) h = rw (name_and_three_numbers_reads name ox oy len h.1.0 h.1.1.0 h.1.1.1.0 h.1.1.1.1.0) refl
words_read (Alone (ask.Run name op)) h = rw (run_reads name op h.1.0 h.1.1) refl
words_read (Alone (ask.Cancel name)) h = rw (one_name_reads name h.1.0) refl
words_read (Alone (ask.Release name)) h = rw (one_name_reads name h.1.0) refl
words_read (Alone (ask.Status name)) h = rw (one_name_reads name h.1.0) refl
words_read (Alone (ask.Fetch name)) h = rw (one_name_reads name h.1.0) refl
words_read (Alone (ask.Wait name)) h = rw (one_name_reads name h.1.0) refl
words_read (Alone ask.Quit) h = refl

some_split : (ws : List (List ℕ)) (words_are : List ℕ) (more : List (List ℕ)) → ws ≡ words_are ∷ more → AllByRecursion NoBlank ws → words (join_with_byte 32 ws) ≡ ws
some_split [] w more e h = cc
some_split (v ∷ vs) w more e h = split_joined v vs h

head_first : (h : Head) → (w : List ℕ) × (more : List (List ℕ)) × (map spelled (words_of h) ≡ w ∷ more)
head_first (Payload (awaited.Image name) len) = (_, _, refl)
head_first (Payload (awaited.Element name ox oy) len) = (_, _, refl)
head_first (Alone (ask.Run name op)) = (_, _, refl)
head_first (Alone (ask.Cancel name)) = (_, _, refl)
head_first (Alone (ask.Release name)) = (_, _, refl)
head_first (Alone (ask.Status name)) = (_, _, refl)
head_first (Alone (ask.Fetch name)) = (_, _, refl)
head_first (Alone (ask.Wait name)) = (_, _, refl)
head_first (Alone ask.Quit) = (_, _, refl)

head_some : (h : Head) → IsSayable h → words (line_of h) ≡ map spelled (words_of h)
head_some h s =
    let f = head_first h in
    some_split (map spelled (words_of h)) f.0 f.1 f.2 (words_open (words_of h) (head_open h) s)

-- the line of what can be said is read as that
pub said_is_read : (h : Head) → IsSayable h → head_of (line_of h) ≡ Some h
unfolding head_of
said_is_read h s = rw (head_some h s) (words_read h s)
