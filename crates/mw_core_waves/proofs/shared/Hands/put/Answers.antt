use Rattle.mw_core_waves.proofs.Jobs.{all-made-later, all-kept-then}
use Rattle.mw_core_waves.proofs.shared.Hands.put.Goals as goal

pub put_hand-requires : goal.put_hand-requires
put_hand-requires c = all-made-later c.args.jobs.now c.put_hands.new.jobs c.args.self.mine.items c.put_hands.ensures c.requires.mine

pub returns : goal.returns
returns c = all-kept-then c.args.jobs.now c.put_hands.new.jobs c.put_hand.new.jobs c.put_hands.ensures c.put_hand.ensures
