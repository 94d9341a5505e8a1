use Rattle.std.proofs.Common.{ℕ, List, ◌-◌, ◌++◌, length, take, ap, ◌∙◌}
use Rattle.std.proofs.lemmas.List.{take-append-drop}
use Rattle.mw_netpbm_plain.proofs.Tallies.{IsCounted, tally_more, all_counted}
use Rattle.mw_netpbm_plain.proofs.room.counted.Goals as goal

pub by_block-preserved : goal.by_block-preserved
by_block-preserved c =
    let tally = c.by_block.tally in
    let more = c.with-tally.result in
    let rest = c.by_block.rest.now in
    let after = c.split_at.result.1.now in
    let halves = ap (λ (t : List ℕ). t ++ after) c.split_at.ensures.front ∙ ap (λ (t : List ℕ). take 64 rest ++ t) c.split_at.ensures.back ∙ take-append-drop 64 rest in
    tally_more tally.signs tally.words tally.blank tally.hash more.signs more.words more.blank more.hash c.split_at.result.0.now after rest c.args.bytes.now halves c.by_block.invariant
    c.with-tally.ensures.signs c.with-tally.ensures.words c.with-tally.ensures.blank c.with-tally.ensures.hash

pub returns : goal.returns
returns c =
    let tally = c.by_block.tally in
    let more = c.with.result in
    let rest = c.by_block.rest.now in
    let all : IsCounted more.signs more.words more.hash c.args.bytes.now =
    all_counted tally.signs tally.words tally.blank tally.hash more.signs more.words more.hash rest c.padded-last.result c.args.bytes.now (64 - length rest) c.padded-last.ensures c.by_block.invariant
    c.with.ensures.signs c.with.ensures.words c.with.ensures.hash in
    record { signs = all.signs_are; words = all.words_are; hash = all.hash_is }
