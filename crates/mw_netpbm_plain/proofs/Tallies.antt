-- Signs and words, part by part.
use Rattle.std.proofs.Common.{◌≡◌, ℕ, zero, suc, ◌+◌, ◌-◌, ◌^◌, Bool, true, false, cond, eqb, not, ◌||◌, List, [], ◌∷◌, ◌++◌, min, replicate, refl, sym, ap, ◌∙◌, arith}
use Rattle.std.proofs.lemmas.List.Sums.{sum_by-append}
use Rattle.std.proofs.Math.Bool.{or_assoc, or-false}
use Rattle.mw_model.specs.NetpbmGrammar.{is_white}
use Rattle.mw_netpbm_plain.specs.Tallies.{signs_in, words_in, ends_white, has_hash}

words_append : (white : Bool) (front after : List ℕ) → words_in white (front ++ after) ≡ words_in white front + words_in (ends_white white front) after
words_append white [] after = omega arith
words_append white (b ∷ front) after = let rest = words_append (is_white b) front after in omega arith

hash_append : (front after : List ℕ) → has_hash (front ++ after) ≡ (has_hash front || has_hash after)
hash_append [] after = refl
hash_append (b ∷ front) after = ap (λ (t : Bool). eqb b 35 || t) (hash_append front after) ∙ sym (or_assoc (eqb b 35) (has_hash front) (has_hash after))

signs_append : (front after : List ℕ) → signs_in (front ++ after) ≡ signs_in front + signs_in after
signs_append front after = sum_by-append (λ (b : ℕ). cond (not (is_white b)) 1 0) front after

-- ---- white space behind the bytes

no_signs : (n : ℕ) → signs_in (replicate n 32) ≡ 0
no_signs zero = refl
no_signs (suc n) = no_signs n

no_words : (white : Bool) (n : ℕ) → words_in white (replicate n 32) ≡ 0
no_words white zero = refl
no_words true (suc n) = let rest = no_words true n in omega arith
no_words false (suc n) = let rest = no_words true n in omega arith

no_hash : (n : ℕ) → has_hash (replicate n 32) ≡ false
no_hash zero = refl
no_hash (suc n) = no_hash n

pub signs_padded : (bytes block : List ℕ) (n : ℕ) → block ≡ bytes ++ replicate n 32 → signs_in block ≡ signs_in bytes
signs_padded bytes block n is = ap signs_in is ∙ signs_append bytes (replicate n 32) ∙ omega (arith, no_signs n)

pub words_padded : (white : Bool) (bytes block : List ℕ) (n : ℕ) → block ≡ bytes ++ replicate n 32 → words_in white block ≡ words_in white bytes
words_padded white bytes block n is = ap (words_in white) is ∙ words_append white bytes (replicate n 32) ∙ omega (arith, no_words (ends_white white bytes) n)

pub hash_padded : (bytes block : List ℕ) (n : ℕ) → block ≡ bytes ++ replicate n 32 → has_hash block ≡ has_hash bytes
hash_padded bytes block n is = ap has_hash is ∙ hash_append bytes (replicate n 32) ∙ ap (λ (t : Bool). has_hash bytes || t) (no_hash n) ∙ or-false (has_hash bytes)

-- ---- what is counted, and what is still to be

pub record IsTally (signs words : ℕ) (blank hash : Bool) (rest bytes : List ℕ) : Type 0 where
  pub all_signs : min (signs + signs_in rest) (2 ^ 64 - 1) ≡ min (signs_in bytes) (2 ^ 64 - 1)
  pub all_words : min (words + words_in blank rest) (2 ^ 64 - 1) ≡ min (words_in true bytes) (2 ^ 64 - 1)
  pub all_hashes : (hash || has_hash rest) ≡ has_hash bytes

-- counts that stop at the greatest number
counted_on : (a b c all total more top : ℕ) → all ≡ b + c → more ≡ min (a + b) top → min (a + all) top ≡ total → min (more + c) top ≡ total
counted_on a b c all total more top split more-is is = omega (arith, split, more-is, is)

pub tally_more : (signs words : ℕ) (blank hash : Bool) (more_signs more_words : ℕ) (more_blank more_hash : Bool) (front after rest bytes : List ℕ) → front ++ after ≡ rest → IsTally signs words blank hash rest bytes
    → more_signs ≡ min (signs + signs_in front) (2 ^ 64 - 1) → more_words ≡ min (words + words_in blank front) (2 ^ 64 - 1) → more_blank ≡ ends_white blank front → more_hash ≡ (hash || has_hash front)
    → IsTally more_signs more_words more_blank more_hash after bytes
tally_more signs words blank hash more_signs more_words more_blank more_hash front after rest bytes parts tally signs-is words-is blank-is hash-is =
    let signs_split : signs_in rest ≡ signs_in front + signs_in after = ap signs_in (sym parts) ∙ signs_append front after in
    let words_split : words_in blank rest ≡ words_in blank front + words_in more_blank after = ap (words_in blank) (sym parts) ∙ words_append blank front after ∙ ap (λ (w : Bool). words_in blank front + words_in w after) (sym blank-is) in
    record {
      all_signs = counted_on signs (signs_in front) (signs_in after) (signs_in rest) (min (signs_in bytes) (2 ^ 64 - 1)) more_signs (2 ^ 64 - 1) signs_split signs-is tally.all_signs;
      all_words = counted_on words (words_in blank front) (words_in more_blank after) (words_in blank rest) (min (words_in true bytes) (2 ^ 64 - 1)) more_words (2 ^ 64 - 1) words_split words-is tally.all_words;
      all_hashes = ap (λ (t : Bool). t || has_hash after) hash-is ∙ or_assoc hash (has_hash front) (has_hash after) ∙ ap (λ (t : Bool). hash || t) (sym (hash_append front after) ∙ ap has_hash parts) ∙ tally.all_hashes;
    }

-- the last bytes, with white space behind them
pub record IsCounted (signs words : ℕ) (hash : Bool) (bytes : List ℕ) : Type 0 where
  pub signs_are : signs ≡ min (signs_in bytes) (2 ^ 64 - 1)
  pub words_are : words ≡ min (words_in true bytes) (2 ^ 64 - 1)
  pub hash_is : hash ≡ has_hash bytes

pub all_counted : (signs words : ℕ) (blank hash : Bool) (more_signs more_words : ℕ) (more_hash : Bool) (rest block bytes : List ℕ) (n : ℕ) → block ≡ rest ++ replicate n 32 → IsTally signs words blank hash rest bytes
    → more_signs ≡ min (signs + signs_in block) (2 ^ 64 - 1) → more_words ≡ min (words + words_in blank block) (2 ^ 64 - 1) → more_hash ≡ (hash || has_hash block) → IsCounted more_signs more_words more_hash bytes
all_counted signs words blank hash more_signs more_words more_hash rest block bytes n block-is tally signs-is words-is hash-is = record {
  signs_are = signs-is ∙ ap (λ (t : ℕ). min (signs + t) (2 ^ 64 - 1)) (signs_padded rest block n block-is) ∙ tally.all_signs;
  words_are = words-is ∙ ap (λ (t : ℕ). min (words + t) (2 ^ 64 - 1)) (words_padded blank rest block n block-is) ∙ tally.all_words;
  hash_is = hash-is ∙ ap (λ (t : Bool). hash || t) (hash_padded rest block n block-is) ∙ tally.all_hashes;
}
