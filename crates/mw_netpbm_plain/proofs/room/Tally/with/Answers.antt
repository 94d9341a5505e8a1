use Rattle.std.proofs.Common.{ℕ, Bool, ◌+◌, ◌-◌, ◌*◌, ◌%◌, ◌^◌, ◌||◌, min, bit_and, bit_or, ap, ◌∙◌}
use Rattle.std.specs.Int.RustNames.{count_ones}
use Rattle.mw_netpbm_plain.proofs.Masks.{as_digit, signs_counted, words_counted, last_white, hash_found}
use Rattle.mw_netpbm_plain.proofs.room.Tally.with.Goals as goal

pub returns-clause-signs : goal.returns-clause-signs
returns-clause-signs c = c.saturating_add.ensures ∙ ap (λ (t : ℕ). min (c.args.self.signs + t) (2 ^ 64 - 1)) (signs_counted c.blanks-blanks.result c.args.bytes.now c.requires c.blanks-blanks.ensures)

pub returns-clause-words : goal.returns-clause-words
returns-clause-words c =
    let mask = c.blanks-blanks.result in
    c.saturating_add-2.ensures
    ∙ ap (λ (t : ℕ). min (c.args.self.words + count_ones (bit_and (2 ^ 64 - 1 - mask) (bit_or (mask * 2 ^ 1 % 2 ^ 64) t))) (2 ^ 64 - 1)) (c.from.ensures ∙ as_digit c.args.self.blank)
    ∙ ap (λ (t : ℕ). min (c.args.self.words + t) (2 ^ 64 - 1)) (words_counted mask c.args.self.blank c.args.bytes.now c.requires c.blanks-blanks.ensures)

pub returns-clause-blank : goal.returns-clause-blank
returns-clause-blank c = last_white c.blanks-blanks.result c.args.self.blank c.args.bytes.now c.requires c.blanks-blanks.ensures

pub returns-clause-hash : goal.returns-clause-hash
returns-clause-hash c = c.either.ensures ∙ ap (λ (t : Bool). c.args.self.hash || t) (hash_found c.places_of-hash.result c.args.bytes.now c.places_of-hash.ensures)
