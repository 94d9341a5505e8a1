use Rattle.std.proofs.Common.{◌+◌, ℕ, ◌≡◌, ◌<◌, List, length, arith, ap, sym, ◌∙◌, subst, get_or, set, length-set, refl}
use Rattle.mw_rank.specs.Ranks.{GainsRow}
use Rattle.mw_rank.proofs.Rows.{gains_more}
use Rattle.mw_rank_numbers.specs.LevelSets.{bit_in, below_in, IsBack}
use Rattle.mw_rank_numbers.proofs.Sets.{number_inside}
use Rattle.mw_rank_numbers.proofs.Backs.{before_end, sample_level, backs_more, still_back, gains_none}
use Rattle.mw_rank_numbers.proofs.numbering.push_numbers.Goals as goal

pub loop-sample-init : goal.loop-sample-init
loop-sample-init g c = record {
  size = refl;
  numbers = gains_none _ _;
  back = λ i lt. absurd (omega arith);
  kept = λ v has back. back;
}

pub put_at-requires : goal.put_at-requires
put_at-requires g c =
    let samples = c.args.samples.now in
    let words = c.args.order.words.now in
    let n = c.loop-sample.sample-index in
    let inside : n < length samples = omega arith in
    let s = c.value.result in
    let small : s < 65536 = omega arith in
    let here = sample_level g.P.Pixel.level g.P.Pixel.TOP samples n c.sample-item.result s inside c.sample-item.is c.value.ensures.level in
    let has : bit_in words s ≡ 1 = subst (λ (v : ℕ). bit_in words v ≡ 1) (sym here) (c.requires.marked n inside) in
    number_inside words c.args.order.before.now (length c.args.levels.now) s c.number_of-number.result (length c.loop-sample.levels) c.requires.summed c.loop-sample.invariant.size small has c.number_of-number.ensures

pub loop-sample-preserved : goal.loop-sample-preserved
loop-sample-preserved g c =
    let level = g.P.Pixel.level in
    let top = g.P.Pixel.TOP in
    let samples = c.args.samples.now in
    let words = c.args.order.words.now in
    let n = c.loop-sample.sample-index in
    let inside : n < length samples = omega arith in
    let known = c.loop-sample.invariant in
    let levels = c.loop-sample.levels in
    let a = c.sample-item.result in
    let s = c.value.result in
    let small : s < 65536 = omega arith in
    let number = c.number_of-number.result in
    let here = sample_level level top samples n a s inside c.sample-item.is c.value.ensures.level in
    let has : bit_in words s ≡ 1 = subst (λ (v : ℕ). bit_in words v ≡ 1) (sym here) (c.requires.marked n inside) in
    let number-is = c.number_of-number.ensures in
    let room = number_inside words c.args.order.before.now (length c.args.levels.now) s number (length levels) c.requires.summed known.size small has number-is in
    let put : c.put_at.new.levels ≡ set levels number a = c.put_at.ensures in
    record {
      size = ap length put ∙ length-set levels number a ∙ known.size;
      numbers = gains_more (λ (m : ℕ). m) (λ i. below_in words (level (get_or samples i top))) n c.args.numbers.now.items c.loop-sample.numbers.items c.push.new.self.items number c.in_ok-push.ensures.items (number-is ∙ ap (below_in words) here) known.numbers;
      back = subst (λ (l : List _). (i : ℕ) → i < n + 1 → IsBack level words l (level (get_or samples i top))) (sym put) (backs_more level top words samples levels a s number n here c.value.ensures.level number-is room has (λ i lt. c.requires.marked i (before_end i n (length samples) lt inside)) known.back);
      kept = λ v also back. subst (λ (l : List _). IsBack level words l v) (sym put) (still_back level words levels a s number v c.value.ensures.level number-is room has also (known.kept v also back));
    }

pub returns-in_err-push-clause-kept : goal.returns-in_err-push-clause-kept
returns-in_err-push-clause-kept g c = λ v also back.
    let level = g.P.Pixel.level in
    let samples = c.args.samples.now in
    let words = c.args.order.words.now in
    let n = c.loop-sample.sample-index in
    let inside : n < length samples = omega arith in
    let known = c.loop-sample.invariant in
    let levels = c.loop-sample.levels in
    let a = c.sample-item.result in
    let s = c.value.result in
    let small : s < 65536 = omega arith in
    let number-is = c.number_of-number.ensures in
    let here = sample_level level g.P.Pixel.TOP samples n a s inside c.sample-item.is c.value.ensures.level in
    let has : bit_in words s ≡ 1 = subst (λ (v : ℕ). bit_in words v ≡ 1) (sym here) (c.requires.marked n inside) in
    let room = number_inside words c.args.order.before.now (length c.args.levels.now) s c.number_of-number.result (length levels) c.requires.summed known.size small has number-is in
    subst (λ (l : List _). IsBack level words l v) (sym c.put_at.ensures) (still_back level words levels a s c.number_of-number.result v c.value.ensures.level number-is room has also (known.kept v also back))

pub returns-clause-numbers : goal.returns-clause-numbers
returns-clause-numbers g c =
    let all : c.loop-sample.sample-index ≡ length c.args.samples.now = omega arith in
    subst (λ (m : ℕ). GainsRow (λ (p : ℕ). p) (λ i. below_in c.args.order.words.now (g.P.Pixel.level (get_or c.args.samples.now i g.P.Pixel.TOP))) m c.args.numbers.now.items c.loop-sample.numbers.items) all c.loop-sample.invariant.numbers

pub returns-clause-back : goal.returns-clause-back
returns-clause-back g c = λ i lt. c.loop-sample.invariant.back i (omega arith)
