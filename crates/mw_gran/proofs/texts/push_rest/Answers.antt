use Rattle.std.proofs.Common.{arith}
use Rattle.mw_gran.proofs.CurveTexts.{rest_pushed, no_rest}
use Rattle.mw_gran.proofs.texts.push_rest.Goals as goal

pub returns-then-count-eq0 : goal.returns-then-count-eq0
returns-then-count-eq0 c = no_rest c.args.volumes.now c.args.text.now.items (omega arith)

pub returns : goal.returns
returns c =
    rest_pushed c.args.volumes.now c.args.text.now.items c.extend_from_slice.new.self.items c.push_number.new.text.items c.push.new.self.items (omega arith) c.in_ok-extend_from_slice.ensures.items
    c.in_ok-push_number.ensures c.in_ok-push.ensures.items
