-- Names and their spelling.
use Rattle.std.proofs.Common.{◌≡◌, ℕ, zero, suc, List, [], ◌∷◌, ◌++◌, true, false, not, refl, sym, ap, ◌∙◌, length, replicate, arith, ◌-◌, eqb}
use Rattle.std.specs.List.{list_all, before_first}
use Rattle.std.proofs.lemmas.Bool.{and_parts, ne_eqb}
use Rattle.std.proofs.lemmas.List.Sums.{take_while-cons}
use Rattle.mw_model.specs.Names.{is_name, is_name_byte, is_zero, name_of, spelling}

name_byte_is_not_zero : (b : ℕ) → is_name_byte b ≡ true → eqb b 0 ≡ false
name_byte_is_not_zero zero h = cc
name_byte_is_not_zero (suc b) h = ne_eqb (suc b) 0 (λ e. absurd (omega (arith, e)))

-- zeros behind name bytes are cut off again
zeros_end : (text : List ℕ) (n : ℕ) → list_all is_name_byte text ≡ true → before_first is_zero (text ++ replicate n 0) ≡ text
zeros_end [] zero h = refl
zeros_end [] (suc n) h = refl
zeros_end (b ∷ text) n h =
    let p = and_parts (is_name_byte b) (list_all is_name_byte text) h in
    take_while-cons (λ b. not (eqb b 0)) b (text ++ replicate n 0) ∙ rw (name_byte_is_not_zero b p.0) (ap (λ l. b ∷ l) (zeros_end text n p.1))

pub spelling_of : (text : List ℕ) → is_name text ≡ true → spelling (name_of text) ≡ text
spelling_of text h = zeros_end text (32 - length text) ((and_parts _ _ h).1)

pub name_of_injective : (a b : List ℕ) → is_name a ≡ true → is_name b ≡ true → name_of a ≡ name_of b → a ≡ b
name_of_injective a b h k e = sym (spelling_of a h) ∙ ap (λ n. spelling n) e ∙ spelling_of b k
