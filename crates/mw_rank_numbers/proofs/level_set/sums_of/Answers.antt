use Rattle.std.proofs.Common.{◌≡◌, ℕ, ◌*◌, ◌≤◌, length, get_or, ap, arith, inl, inr, ◌∙◌}
use Rattle.std.proofs.lemmas.Bool.{cases_lt}
use Rattle.std.proofs.lemmas.List.{get_or_append_left, get_or_push, length_push}
use Rattle.std.proofs.lemmas.Nat.{ones-le}
use Rattle.mw_rank_numbers.specs.LevelSets.{below_in}
use Rattle.mw_rank_numbers.proofs.Sets.{below_more}
use Rattle.mw_rank_numbers.proofs.level_set.sums_of.Goals as goal
use lib.Count.{ones}

pub loop-word-init : goal.loop-word-init
loop-word-init c = record { size = ap length c.in_ok-before.ensures.items; before = λ i lt. absurd (omega arith); count = omega arith; few = omega arith }

pub loop-word-preserved : goal.loop-word-preserved
loop-word-preserved c =
    let words = c.args.words.now in
    let n = c.loop-word.word-index in
    let known = c.loop-word.invariant in
    let fits = c.type_inv.words n in
    let few : ones (get_or words n 0) ≤ 64 = ones-le 64 (get_or words n 0) (omega arith) in
    let more = below_more words n (omega arith) in
    let push = c.in_ok-push.ensures.items in
    record {
      size = ap length push ∙ length_push c.loop-word.before.items c.loop-word.count ∙ (let e = known.size in omega arith);
      before = λ i lt. elim (cases_lt i n) [
        | inl early ↦ ap (λ (l : _). get_or l i 0) push ∙ get_or_append_left c.loop-word.before.items _ 0 i (omega (arith, known.size)) ∙ known.before i early
        | inr here ↦
            let at : n ≡ i = omega arith in
            ap (λ (l : _). get_or l i 0) push ∙ get_or_push c.loop-word.before.items c.loop-word.count 0 i (known.size ∙ at) ∙ known.count ∙ ap (λ (p : ℕ). below_in words (64 * p)) at
      ];
      count = omega (arith, more, known.count);
      few = omega (arith, few, known.few);
    }

pub returns : goal.returns
returns c =
    let known = c.loop-word.invariant in
    let n = c.loop-word.word-index in
    let all : n ≡ 1024 = omega (arith, c.requires) in
    record {
      size = known.size ∙ all;
      before = λ i lt. known.before i (omega (arith, lt, all));
      all = known.count ∙ ap (below_in c.args.words.now) (let e : 64 * n ≡ 65536 = omega (arith, all) in e);
    }
