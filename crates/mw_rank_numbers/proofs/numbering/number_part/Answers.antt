use Rattle.std.proofs.Common.{ℕ, ◌≡◌, ◌<◌, get_or, arith, inl, inr, ap, sym, ◌∙◌, subst}
use Rattle.std.proofs.lemmas.Bool.{cases_lt}
use Rattle.mw_rank.specs.Ranks.{GainsRow, HasRows}
use Rattle.mw_rank_numbers.specs.LevelSets.{bit_in, below_in, IsBack, IsSummed}
use Rattle.mw_rank_numbers.specs.Numbers.{level_in_part}
use Rattle.mw_rank_numbers.proofs.Backs.{rows_gained, rows_none}
use Rattle.mw_rank_numbers.proofs.numbering.number_part.Goals as goal

pub loop-j-init : goal.loop-j-init
loop-j-init g c = record { size = omega arith; numbers = rows_none _ c.args.part.width c.args.numbers.now.items c.requires.empty; back = λ i k across down. absurd (omega arith); zero = c.requires.zero }

pub push_numbers-requires-clause-summed : goal.push_numbers-requires-clause-summed
push_numbers-requires-clause-summed g c = subst (λ (m : ℕ). IsSummed c.args.order.words.now c.args.order.before.now m) (sym c.loop-j.invariant.size) c.requires.summed

pub push_numbers-requires-clause-marked : goal.push_numbers-requires-clause-marked
push_numbers-requires-clause-marked g c = λ i lt.
    let across : i < c.args.part.width = omega (arith, c.part_row.ensures.size) in
    subst (λ (v : ℕ). bit_in c.args.order.words.now v ≡ 1) (sym (c.part_row.ensures.levels i across)) (c.requires.marked i c.loop-j.j across (omega arith))

pub loop-j-preserved : goal.loop-j-preserved
loop-j-preserved g c =
    let level-in = level_in_part g.P.Pixel.level g.P.Pixel.TOP c.args.window.now c.args.part in
    let words = c.args.order.words.now in
    let known = c.loop-j.invariant in
    let n = c.loop-j.j in
    let width = c.args.part.width in
    let row = λ (i : ℕ). below_in words (g.P.Pixel.level (get_or c.part_row.result.now i g.P.Pixel.TOP)) in
    let gains : GainsRow (λ (m : ℕ). m) row width c.loop-j.numbers.items c.push_numbers.new.numbers.items =
    subst (λ (m : ℕ). GainsRow (λ (p : ℕ). p) row m c.loop-j.numbers.items c.push_numbers.new.numbers.items) c.part_row.ensures.size c.in_ok-push_numbers.ensures.numbers in
    record {
      size = c.in_ok-push_numbers.ensures.size ∙ known.size;
      numbers = rows_gained (λ i k. below_in words (level-in i k)) row width n c.loop-j.numbers.items c.push_numbers.new.numbers.items (λ i lt. ap (below_in words) (c.part_row.ensures.levels i lt)) gains known.numbers;
      back = λ i k across down. elim (cases_lt k n) [
        | inl early ↦ c.in_ok-push_numbers.ensures.kept (level-in i k) (c.requires.marked i k across (omega arith)) (known.back i k across early)
        | inr here ↦
            subst (λ (v : ℕ). IsBack g.P.Pixel.level words c.push_numbers.new.levels v) (c.part_row.ensures.levels i across ∙ ap (level-in i) (let e : n ≡ k = omega arith in e))
            (c.in_ok-push_numbers.ensures.back i (omega (arith, c.part_row.ensures.size)))
      ];
      zero = c.in_ok-push_numbers.ensures.kept 0 c.requires.lowest known.zero;
    }

pub returns-clause-numbers : goal.returns-clause-numbers
returns-clause-numbers g c =
    let all : c.loop-j.j ≡ c.args.part.height = omega arith in
    subst (λ (m : ℕ). HasRows (λ (p : ℕ). p) (λ i k. below_in c.args.order.words.now (level_in_part g.P.Pixel.level g.P.Pixel.TOP c.args.window.now c.args.part i k)) c.args.part.width m c.loop-j.numbers.items) all c.loop-j.invariant.numbers

pub returns-clause-back : goal.returns-clause-back
returns-clause-back g c = λ i j across down. c.loop-j.invariant.back i j across (omega arith)
