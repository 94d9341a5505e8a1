use Rattle.std.proofs.Common.{arith}
use Rattle.mw_ready.specs.Kept.{takes}
use Rattle.mw_ready.proofs.Raising.{counted_first, counted_second, counted_third, lowers_three, sources_split, of_source}
use Rattle.mw_ready.proofs.reads.lower_sources.Goals as goal

pub lower_source-requires-clause-some : goal.lower_source-requires-clause-some
lower_source-requires-clause-some c =
    let a = c.args in
    let s = c.sources-first.result in
    let b = c.met_by-block.result in
    counted_first (takes a.need a.grid a.tile) (of_source a.grid b s.0) (of_source a.grid b s.1) (of_source a.grid b s.2) a.counts.now
    (sources_split a.grid a.need b a.tile s.0 s.1 s.2 (omega (arith, c.requires.tile)) c.sources-first.ensures c.met_by-block.ensures.meets) c.requires.some

pub lower_source-requires-2-clause-some : goal.lower_source-requires-2-clause-some
lower_source-requires-2-clause-some c =
    let a = c.args in
    let s = c.sources-first.result in
    let b = c.met_by-block.result in
    counted_second (takes a.need a.grid a.tile) (of_source a.grid b s.0) (of_source a.grid b s.1) (of_source a.grid b s.2) a.counts.now c.lower_source.new.counts
    (sources_split a.grid a.need b a.tile s.0 s.1 s.2 (omega (arith, c.requires.tile)) c.sources-first.ensures c.met_by-block.ensures.meets) c.requires.some c.lower_source.ensures

pub lower_source-requires-3-clause-some : goal.lower_source-requires-3-clause-some
lower_source-requires-3-clause-some c =
    let a = c.args in
    let s = c.sources-first.result in
    let b = c.met_by-block.result in
    counted_third (takes a.need a.grid a.tile) (of_source a.grid b s.0) (of_source a.grid b s.1) (of_source a.grid b s.2) a.counts.now c.lower_source.new.counts c.lower_source-2.new.counts
    (sources_split a.grid a.need b a.tile s.0 s.1 s.2 (omega (arith, c.requires.tile)) c.sources-first.ensures c.met_by-block.ensures.meets) c.requires.some c.lower_source.ensures c.lower_source-2.ensures

pub returns : goal.returns
returns c =
    let a = c.args in
    let s = c.sources-first.result in
    let b = c.met_by-block.result in
    lowers_three (takes a.need a.grid a.tile) (of_source a.grid b s.0) (of_source a.grid b s.1) (of_source a.grid b s.2) a.counts.now c.lower_source.new.counts c.lower_source-2.new.counts c.lower_source-3.new.counts
    (sources_split a.grid a.need b a.tile s.0 s.1 s.2 (omega (arith, c.requires.tile)) c.sources-first.ensures c.met_by-block.ensures.meets) c.lower_source.ensures c.lower_source-2.ensures c.lower_source-3.ensures
