use Rattle.std.proofs.Common.{◌≡◌, ℕ, ◌<◌, ◌≤◌, List, ap, sym, arith, length, get_or, subst, ◌∙◌}
use Rattle.std.proofs.lemmas.List.{length-replicate}
use Rattle.mw_model.proofs.mw_facts.Elements.{take-written}
use Rattle.mw_rank_numbers.specs.LevelSets.{bit_in, below_in, IsSummed}
use Rattle.mw_rank_numbers.specs.Numbers.{level_in_part, IsNumbering}
use Rattle.mw_rank_numbers.proofs.Backs.{are_numbers, lowest_everywhere, numbers_within}
use Rattle.mw_rank_numbers.proofs.Sets.{some_levels}
use Rattle.mw_rank_numbers.proofs.numbering.numbers_of.Goals as goal

pub number_part-requires-clause-size : goal.number_part-requires-clause-size
number_part-requires-clause-size g c = ap length c.deref-2.ensures.value ∙ c.in_ok-set.ensures.size

pub number_part-requires-clause-summed : goal.number_part-requires-clause-summed
number_part-requires-clause-summed g c =
    let count : c.in_ok-sums.sums.count ≡ length c.as_mut_slice.result.now = sym (ap length (c.as_mut_slice.ensures.value ∙ c.in_ok-levels.ensures) ∙ length-replicate c.in_ok-sums.sums.count c.sample_of.result) in
    subst (λ (l : List ℕ). IsSummed l c.deref-3.result.now (length c.as_mut_slice.result.now)) (c.deref.ensures.value ∙ sym c.deref-2.ensures.value)
    (subst (λ (l : List ℕ). IsSummed c.deref.result.now l (length c.as_mut_slice.result.now)) (sym c.deref-3.ensures.value) (subst (λ (n : ℕ). IsSummed c.deref.result.now c.in_ok-sums.sums.before.items n) count c.in_ok-sums.ensures))

pub number_part-requires-clause-marked : goal.number_part-requires-clause-marked
number_part-requires-clause-marked g c = λ i j across down.
    subst (λ (l : List ℕ). bit_in l (level_in_part g.P.Pixel.level g.P.Pixel.TOP c.args.window.now c.args.part i j) ≡ 1) (sym c.deref-2.ensures.value) (c.in_ok-set.ensures.marked i j across down)

pub number_part-requires-clause-lowest : goal.number_part-requires-clause-lowest
number_part-requires-clause-lowest g c = subst (λ (l : List ℕ). bit_in l 0 ≡ 1) (sym c.deref-2.ensures.value) c.in_ok-set.ensures.lowest

pub number_part-requires-clause-zero : goal.number_part-requires-clause-zero
number_part-requires-clause-zero g c = lowest_everywhere g.P.Pixel.level c.in_ok-sums.sums.count c.sample_of.result c.as_mut_slice.result.now (c.as_mut_slice.ensures.value ∙ c.in_ok-levels.ensures) c.sample_of.ensures
    (some_levels c.deref.result.now c.in_ok-sums.sums.before.items c.in_ok-sums.sums.count c.in_ok-sums.ensures (subst (λ (l : List ℕ). bit_in l 0 ≡ 1) (sym c.deref.ensures.value) c.in_ok-set.ensures.lowest))

pub returns-clause-numbers : goal.returns-clause-numbers
returns-clause-numbers g c =
    let level = g.P.Pixel.level in
    let top = g.P.Pixel.TOP in
    let words = c.deref-2.result.now in
    let w = c.args.window.now in
    let part = c.args.part in
    let made = c.number_part.new.levels in
    let known = c.in_ok-number_part.ensures in
    let written = take-written c.in_ok-levels.levels.items made c.in_ok-levels.levels.len (omega (arith, known.size, ap length c.as_mut_slice.ensures.value)) in
    let marked : (i j : ℕ) → i < part.width → j < part.height → bit_in words (level_in_part level top w part i j) ≡ 1 = λ i j across down. subst (λ (l : List ℕ). bit_in l (level_in_part level top w part i j) ≡ 1) (sym c.deref-2.ensures.value) (c.in_ok-set.ensures.marked i j across down) in
    let lowest : bit_in words 0 ≡ 1 = subst (λ (l : List ℕ). bit_in l 0 ≡ 1) (sym c.deref-2.ensures.value) c.in_ok-set.ensures.lowest in
    (below_in words, subst (λ (l : List _). IsNumbering level top (below_in words) l w part c.number_part.new.numbers.items) (sym written) (are_numbers level top words made w part c.number_part.new.numbers.items lowest known.zero marked known.back known.numbers))

pub returns-clause-under : goal.returns-clause-under
returns-clause-under g c = λ p lt.
    let level = g.P.Pixel.level in
    let top = g.P.Pixel.TOP in
    let words = c.deref-2.result.now in
    let w = c.args.window.now in
    let part = c.args.part in
    let made = c.number_part.new.levels in
    let known = c.in_ok-number_part.ensures in
    let written = take-written c.in_ok-levels.levels.items made c.in_ok-levels.levels.len (omega (arith, known.size, ap length c.as_mut_slice.ensures.value)) in
    let marked : (i j : ℕ) → i < part.width → j < part.height → bit_in words (level_in_part level top w part i j) ≡ 1 = λ i j across down. subst (λ (l : List ℕ). bit_in l (level_in_part level top w part i j) ≡ 1) (sym c.deref-2.ensures.value) (c.in_ok-set.ensures.marked i j across down) in
    let count : c.in_ok-sums.sums.count ≡ length c.as_mut_slice.result.now = sym (ap length (c.as_mut_slice.ensures.value ∙ c.in_ok-levels.ensures) ∙ length-replicate c.in_ok-sums.sums.count c.sample_of.result) in
    let summed : IsSummed words c.deref-3.result.now (length c.as_mut_slice.result.now) =
    subst (λ (l : List ℕ). IsSummed l c.deref-3.result.now (length c.as_mut_slice.result.now)) (c.deref.ensures.value ∙ sym c.deref-2.ensures.value)
    (subst (λ (l : List ℕ). IsSummed c.deref.result.now l (length c.as_mut_slice.result.now)) (sym c.deref-3.ensures.value) (subst (λ (n : ℕ). IsSummed c.deref.result.now c.in_ok-sums.sums.before.items n) count c.in_ok-sums.ensures)) in
    let size : length words ≡ 1024 = ap length c.deref-2.ensures.value ∙ c.in_ok-set.ensures.size in
    let below = numbers_within words c.deref-3.result.now (length c.as_mut_slice.result.now) part.width part.height (level_in_part level top w part) c.number_part.new.numbers.items size summed marked known.numbers p lt in
    subst (λ (n : ℕ). get_or c.number_part.new.numbers.items p 0 < n) (sym (ap length written ∙ known.size)) below

pub returns-clause-some : goal.returns-clause-some
returns-clause-some g c =
    let words = c.deref-2.result.now in
    let made = c.number_part.new.levels in
    let known = c.in_ok-number_part.ensures in
    let written = take-written c.in_ok-levels.levels.items made c.in_ok-levels.levels.len (omega (arith, known.size, ap length c.as_mut_slice.ensures.value)) in
    let lowest : bit_in words 0 ≡ 1 = subst (λ (l : List ℕ). bit_in l 0 ≡ 1) (sym c.deref-2.ensures.value) c.in_ok-set.ensures.lowest in
    let count : c.in_ok-sums.sums.count ≡ length c.as_mut_slice.result.now = sym (ap length (c.as_mut_slice.ensures.value ∙ c.in_ok-levels.ensures) ∙ length-replicate c.in_ok-sums.sums.count c.sample_of.result) in
    let summed : IsSummed words c.deref-3.result.now (length c.as_mut_slice.result.now) =
    subst (λ (l : List ℕ). IsSummed l c.deref-3.result.now (length c.as_mut_slice.result.now)) (c.deref.ensures.value ∙ sym c.deref-2.ensures.value)
    (subst (λ (l : List ℕ). IsSummed c.deref.result.now l (length c.as_mut_slice.result.now)) (sym c.deref-3.ensures.value) (subst (λ (n : ℕ). IsSummed c.deref.result.now c.in_ok-sums.sums.before.items n) count c.in_ok-sums.ensures)) in
    let some = some_levels words c.deref-3.result.now (length c.as_mut_slice.result.now) summed lowest in
    subst (λ (n : ℕ). 1 ≤ n) (sym (ap length written ∙ known.size)) some
