use Rattle.std.proofs.Common.{◌≡◌, ℕ, ◌+◌, ◌*◌, ◌<◌, cond, length, Option, IfSome, ap, subst, sym, arith, ◌∙◌}
use Rattle.std.specs.Prelude.{nat_lt}
use Rattle.std.specs.List.{AllByRecursion}
use Rattle.std.proofs.lemmas.List.{length-map}
use Rattle.mw_bits.specs.mw_element_runs.Runs.{IsRun}
use Rattle.mw_bits.specs.mw_pixel_words.Packed.{bit_of, stride_of, IsPacked}
use Rattle.mw_model.specs.Windows.{seen_at}
use Rattle.mw_rank_bits.specs.Elements.{single_run, lacks_under}
use Rattle.mw_rank_bits.proofs.Around.{single_runs_are}
use Rattle.mw_rank_bits.proofs.Made.{rank_made}
use Rattle.mw_rank_bits.proofs.tiles.rank_by_words.Goals as goal

pub extent_of-requires : goal.extent_of-requires
extent_of-requires c = subst (AllByRecursion IsRun) (sym (c.as_slice-runs.ensures.value ∙ c.in_ok-held.ensures)) (single_runs_are c.args.offsets.now)

pub few_lacking-requires : goal.few_lacking-requires
few_lacking-requires c =
    let offsets = c.args.offsets.now in
    let laid = c.has_layout.ensures c.if-not-has_layout.false in
    let count : length c.as_slice-runs.result.now ≡ length offsets = ap length (c.as_slice-runs.ensures.value ∙ c.in_ok-held.ensures) ∙ length-map offsets single_run in
    record {
      inside = c.in-Some.ensures.inside;
      near = c.is_near.ensures c.if-not-is_near.false;
      few = omega (arith, count, c.requires);
      number = omega (arith, count, c.number_of-number.ensures);
      some = (laid.0, laid.1);
      small = (laid.2, laid.3);
    }

pub met-ranks-requires : goal.met-ranks-requires
met-ranks-requires c =
    let tile = c.args.tile in
    let seen = c.in_ok-seen.ensures.over_window in
    let words = c.in-Some-2.words.items in
    let packed : IsPacked tile.width tile.height words = subst (λ (o : Option _). IfSome o (λ v. IsPacked tile.width tile.height v.items)) c.in-Some-2.is c.in_ok-words.ensures.packed in
    subst (λ (t : ℕ). IsPacked t c.in_ok-seen.seen.height words) (sym seen.width) (subst (λ (t : ℕ). IsPacked tile.width t words) (sym seen.height) packed)

pub returns : goal.returns
returns c =
    let tile = c.args.tile in
    let runs = c.as_slice-runs.result.now in
    let number = c.number_of-number.result in
    let sight = seen_at c.args.set.now in
    let few : (x y : ℕ) → x < tile.width → y < tile.height → bit_of c.in-Some-2.words.items (y * (64 * stride_of tile.width) + x) ≡ cond (nat_lt (lacks_under sight runs (tile.x + x) (tile.y + y)) number) 1 0 =
    subst (λ (o : Option _). IfSome o (λ v. (x y : ℕ) → x < tile.width → y < tile.height → bit_of v.items (y * (64 * stride_of tile.width) + x) ≡ cond (nat_lt (lacks_under sight runs (tile.x + x) (tile.y + y)) number) 1 0)) c.in-Some-2.is c.in_ok-words.ensures.cells in
    rank_made c.args.k number c.args.set.now c.args.offsets.now tile runs c.in-Some-2.words.items c.in_ok-seen.seen c.met-ranks.result
    c.is_sound.ensures c.number_of-number.ensures (c.as_slice-runs.ensures.value ∙ c.in_ok-held.ensures) few c.in_ok-seen.ensures.over_window c.met-ranks.ensures
