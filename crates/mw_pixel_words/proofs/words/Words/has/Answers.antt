use Rattle.std.proofs.Common.{◌≡◌, ℕ, zero, suc, ◌+◌, ◌*◌, ◌/◌, ◌%◌, ◌^◌, ◌<◌, cond, nat_eq, bit_and, get_or, Some, ap, sym, ◌∙◌, arith, refl}
use Rattle.std.proofs.lemmas.Nat.{mul-add-lt}
use Rattle.std.proofs.lemmas.Nat.Bits.{shr_and_one, bit_at-lt}
use Rattle.std.proofs.lemmas.Option.{slice_get-get_or}
use Rattle.std.specs.Int.{bit_at}
use Rattle.mw_pixel_words.proofs.Bits.{bit_of_its_word}
use Rattle.mw_pixel_words.proofs.words.Words.has.Goals as goal

one_or_none : (n : ℕ) → n < 2 → cond (nat_eq n 1) 1 0 ≡ n
one_or_none zero lt = refl
one_or_none (suc zero) lt = refl
one_or_none (suc (suc n)) lt = absurd (omega arith)

pub returns : goal.returns
returns c =
    let x = c.args.x in
    let y = c.args.y in
    let self = c.args.self.now in
    let row = c.row-row.result.now in
    let word = get_or row (x / 64) 0 in
    let bit = bit_at word (x % 64) in
    let tested : cond (nat_eq (bit_and (word / 2 ^ (x % 64)) 1) 1) 1 0 ≡ get_or self.cells (y * self.width + x) 0 =
    ap (λ (t : ℕ). cond (nat_eq t 1) 1 0) (shr_and_one word (x % 64)) ∙ one_or_none bit (bit_at-lt word (x % 64)) ∙ sym (bit_of_its_word row x) ∙ c.row-row.ensures.samples x c.requires.across in
    slice_get-get_or self.cells (y * self.width + x) 0 (omega (arith, c.width-width.ensures.size, mul-add-lt y self.width x self.height c.requires.down c.requires.across)) ∙ ap Some (sym tested)
