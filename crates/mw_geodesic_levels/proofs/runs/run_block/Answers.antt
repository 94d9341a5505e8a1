use Rattle.std.proofs.Common.{◌≡◌, ◌+◌, ◌*◌, ◌≤◌, length, arith, sym, ◌∙◌}
use Rattle.std.proofs.Math.Nat.{mul-le-mul_left}
use Rattle.mw_geodesic_levels.specs.Levels.{level_numbered}
use Rattle.mw_geodesic_levels.specs.Runs.{column}
use Rattle.mw_geodesic_levels.proofs.Blocks.{block_raised, block_inside, block_back, replicated, wide_enough}
use Rattle.mw_geodesic_levels.proofs.runs.run_block.Goals as goal

pub returns : goal.returns
returns g c =
    let level = g.P.Pixel.level in
    block_raised c.args.frame (level_numbered level c.args.mask.now) (level_numbered level c.args.samples.now) (level_numbered level c.store.new.samples) (level_numbered level c.load.new.run) (level_numbered level c.load-2.new.run) (level_numbered level c.spread.new.made) c.args.forward c.args.y c.args.p c.saturating_sub.result c.number-start.result c.number-before.result (level c.at-first.result)
    c.requires.row c.requires.columns c.saturating_sub.ensures
    (omega (arith, c.number-start.ensures.value, c.column_of.ensures.value)) (omega (arith, c.number-before.ensures.value, c.column_of-2.ensures.value)) c.number-before.ensures.within c.at-first.ensures
    (λ j lt. c.load.ensures.before j lt ∙ replicated level c.at-first.result 128 j (omega arith)) c.load.ensures.block c.load-2.ensures.block c.spread.ensures
    (λ i lt. c.store.ensures.over i (omega arith)) (λ h made under i lt. c.store.ensures.within h made (λ j less. under j (omega arith)) i (omega arith))

pub load-requires-clause-inside : goal.load-requires-clause-inside
load-requires-clause-inside g c = λ k lt.
    let is : c.number-start.result ≡ c.args.y * c.args.frame.width + column c.args.forward c.args.frame.width c.args.p = omega (arith, c.number-start.ensures.value, c.column_of.ensures.value) in
    let in_frame = block_inside c.args.forward c.args.frame.width c.args.frame.height c.args.y c.args.p c.number-start.result c.requires.columns c.requires.row is k lt in
    omega arith

pub load-requires-clause-back : goal.load-requires-clause-back
load-requires-clause-back g c =
    let is : c.number-start.result ≡ c.args.y * c.args.frame.width + column c.args.forward c.args.frame.width c.args.p = omega (arith, c.number-start.ensures.value, c.column_of.ensures.value) in
    block_back c.args.forward c.args.frame.width c.args.y c.args.p c.number-start.result c.requires.columns is

pub load-requires-2-clause-inside : goal.load-requires-2-clause-inside
load-requires-2-clause-inside g c = λ k lt.
    let is : c.number-start.result ≡ c.args.y * c.args.frame.width + column c.args.forward c.args.frame.width c.args.p = omega (arith, c.number-start.ensures.value, c.column_of.ensures.value) in
    let in_frame = block_inside c.args.forward c.args.frame.width c.args.frame.height c.args.y c.args.p c.number-start.result c.requires.columns c.requires.row is k lt in
    omega arith

pub load-requires-2-clause-back : goal.load-requires-2-clause-back
load-requires-2-clause-back g c =
    let is : c.number-start.result ≡ c.args.y * c.args.frame.width + column c.args.forward c.args.frame.width c.args.p = omega (arith, c.number-start.ensures.value, c.column_of.ensures.value) in
    block_back c.args.forward c.args.frame.width c.args.y c.args.p c.number-start.result c.requires.columns is

pub store-requires-clause-inside : goal.store-requires-clause-inside
store-requires-clause-inside g c = λ k lt.
    let is : c.number-start.result ≡ c.args.y * c.args.frame.width + column c.args.forward c.args.frame.width c.args.p = omega (arith, c.number-start.ensures.value, c.column_of.ensures.value) in
    let in_frame = block_inside c.args.forward c.args.frame.width c.args.frame.height c.args.y c.args.p c.number-start.result c.requires.columns c.requires.row is k lt in
    omega arith

pub store-requires-clause-back : goal.store-requires-clause-back
store-requires-clause-back g c =
    let is : c.number-start.result ≡ c.args.y * c.args.frame.width + column c.args.forward c.args.frame.width c.args.p = omega (arith, c.number-start.ensures.value, c.column_of.ensures.value) in
    block_back c.args.forward c.args.frame.width c.args.y c.args.p c.number-start.result c.requires.columns is

pub spread-requires-clause-run_begun : goal.spread-requires-clause-run_begun
spread-requires-clause-run_begun g c = λ j lt. sym (c.load.ensures.before j lt)

pub spread-requires-clause-ways_begun : goal.spread-requires-clause-ways_begun
spread-requires-clause-ways_begun g c = λ j lt. sym (c.load-2.ensures.before j lt)

pub whole_as_slice-load : goal.whole_as_slice-load
whole_as_slice-load g c =
    let room : 128 ≤ length c.args.mask.now = let wide = wide_enough c.args.frame.width c.args.frame.height c.args.y c.requires.wide c.requires.row in omega arith in
    omega (arith, c.well_formed.0.1, mul-le-mul_left (prog.Memory.size (denote.Memory.lone g.row.P.mir)) room)

pub whole_as_slice-load-2 : goal.whole_as_slice-load-2
whole_as_slice-load-2 g c =
    let room : 128 ≤ length c.args.mask.now = let wide = wide_enough c.args.frame.width c.args.frame.height c.args.y c.requires.wide c.requires.row in omega arith in
    omega (arith, c.well_formed.0.1, mul-le-mul_left (prog.Memory.size (denote.Memory.lone g.row.P.mir)) room)

pub whole_as_slice-spread : goal.whole_as_slice-spread
whole_as_slice-spread g c =
    let room : 128 ≤ length c.args.mask.now = let wide = wide_enough c.args.frame.width c.args.frame.height c.args.y c.requires.wide c.requires.row in omega arith in
    omega (arith, c.well_formed.0.1, mul-le-mul_left (prog.Memory.size (denote.Memory.lone g.row.P.mir)) room)

pub whole_as_slice-spread-2 : goal.whole_as_slice-spread-2
whole_as_slice-spread-2 g c =
    let room : 128 ≤ length c.args.mask.now = let wide = wide_enough c.args.frame.width c.args.frame.height c.args.y c.requires.wide c.requires.row in omega arith in
    omega (arith, c.well_formed.0.1, mul-le-mul_left (prog.Memory.size (denote.Memory.lone g.row.P.mir)) room)

pub whole_as_slice-spread-3 : goal.whole_as_slice-spread-3
whole_as_slice-spread-3 g c =
    let room : 128 ≤ length c.args.mask.now = let wide = wide_enough c.args.frame.width c.args.frame.height c.args.y c.requires.wide c.requires.row in omega arith in
    omega (arith, c.well_formed.0.1, mul-le-mul_left (prog.Memory.size (denote.Memory.lone g.row.P.mir)) room)

pub whole_as_slice-spread-4 : goal.whole_as_slice-spread-4
whole_as_slice-spread-4 g c =
    let room : 128 ≤ length c.args.mask.now = let wide = wide_enough c.args.frame.width c.args.frame.height c.args.y c.requires.wide c.requires.row in omega arith in
    omega (arith, c.well_formed.0.1, mul-le-mul_left (prog.Memory.size (denote.Memory.lone g.row.P.mir)) room)

pub shared_whole_as_slice-store : goal.shared_whole_as_slice-store
shared_whole_as_slice-store g c =
    let room : 128 ≤ length c.args.mask.now = let wide = wide_enough c.args.frame.width c.args.frame.height c.args.y c.requires.wide c.requires.row in omega arith in
    omega (arith, c.well_formed.0.1, mul-le-mul_left (prog.Memory.size (denote.Memory.lone g.row.P.mir)) room)
