use Rattle.std.proofs.Common.{◌+◌, ◌-◌, arith}
use Rattle.mw_lane.proofs.Halves.{IsHalved, halved_below, halved_within, halved_above}
use Rattle.mw_lane.proofs.ahead.part_ahead.Goals as goal

known : (g : _) (c : goal.After-row-2-1 g) → IsHalved g.E.Extremum.merge c.args.row.now c.split_at_mut-front.result.0.now c.split_at_mut-front.result.1.now c.combine_rows.new.acc c.args.at c.args.shift c.args.m (c.args.at + c.args.m - c.args.at)
known g c = record {
  front_size = c.split_at_mut-front.ensures.front_len;
  back_size = c.split_at_mut-front.ensures.back_len;
  front_is = c.split_at_mut-front.ensures.by_index.0;
  back_is = c.split_at_mut-front.ensures.by_index.1;
  room = c.requires.room;
  apart = c.requires.apart;
  count = omega arith;
  made_is = c.combine_rows.ensures;
}

pub returns-clause-below : goal.returns-clause-below
returns-clause-below g c = halved_below g.E.Extremum.merge c.args.row.now c.split_at_mut-front.result.0.now c.split_at_mut-front.result.1.now c.combine_rows.new.acc c.args.at c.args.shift c.args.m (c.args.at + c.args.m - c.args.at) (known g c)

pub returns-clause-within : goal.returns-clause-within
returns-clause-within g c = halved_within g.E.Extremum.merge c.args.row.now c.split_at_mut-front.result.0.now c.split_at_mut-front.result.1.now c.combine_rows.new.acc c.args.at c.args.shift c.args.m (c.args.at + c.args.m - c.args.at) (known g c)

pub returns-clause-above : goal.returns-clause-above
returns-clause-above g c = halved_above g.E.Extremum.merge c.args.row.now c.split_at_mut-front.result.0.now c.split_at_mut-front.result.1.now c.combine_rows.new.acc c.args.at c.args.shift c.args.m (c.args.at + c.args.m - c.args.at) (known g c)
