use Rattle.std.proofs.Common.{◌≡◌, take, Some, None, ◌∙◌, arith, length-take}
use Rattle.mw_session_intake.specs.Reading.{head_of}
use Rattle.mw_model.specs.declared.requests.Head.TheVariants.{Payload, Alone}
use Rattle.mw_session_intake.proofs.Front.{cut_bound, cut_end, cut_open, cut_head, payload_line, payload_long}
use Rattle.mw_session_intake.proofs.cut.cut_front.Goals as goal

pub returns-then-end-bytes : goal.returns-then-end-bytes
returns-then-end-bytes c = (cut_open c.args.bytes.now c.line_end-end.result c.line_end-end.ensures (omega arith) (omega arith), omega arith)

pub slice_bounds-head-end : goal.slice_bounds-head-end
slice_bounds-head-end c = let b = cut_bound c.args.bytes.now c.line_end-end.result c.line_end-end.ensures in simp length-take (omega arith)

pub returns-in-None : goal.returns-in-None
returns-in-None c =
    let b = cut_bound c.args.bytes.now c.line_end-end.result c.line_end-end.ensures in
    let g : None ≡ head_of (take c.line_end-end.result c.args.bytes.now) = cc in
    cut_head c.args.bytes.now c.line_end-end.result None c.line_end-end.ensures (omega arith) (omega arith) g

pub returns-in-Some-Alone : goal.returns-in-Some-Alone
returns-in-Some-Alone c =
    let b = cut_bound c.args.bytes.now c.line_end-end.result c.line_end-end.ensures in
    let g : Some (Alone c.in-Some-Alone.ask) ≡ head_of (take c.line_end-end.result c.args.bytes.now) = cc in
    let place = cut_end c.args.bytes.now c.line_end-end.result c.line_end-end.ensures (omega arith) in
    (omega arith, omega arith, cut_head c.args.bytes.now c.line_end-end.result _ c.line_end-end.ensures (omega arith) (omega arith) g, omega (arith, place))

pub returns-then-len-gt-PAYLOAD_LIMIT : goal.returns-then-len-gt-PAYLOAD_LIMIT
returns-then-len-gt-PAYLOAD_LIMIT c =
    let b = cut_bound c.args.bytes.now c.line_end-end.result c.line_end-end.ensures in
    let g : Some (Payload c.in-Some-Payload.what c.in-Some-Payload.len) ≡ head_of (take c.line_end-end.result c.args.bytes.now) = cc in
    cut_head c.args.bytes.now c.line_end-end.result _ c.line_end-end.ensures (omega arith) (omega arith) g ∙ payload_long c.in-Some-Payload.what c.in-Some-Payload.len _ (omega arith)

pub returns-else-len-gt-PAYLOAD_LIMIT : goal.returns-else-len-gt-PAYLOAD_LIMIT
returns-else-len-gt-PAYLOAD_LIMIT c =
    let b = cut_bound c.args.bytes.now c.line_end-end.result c.line_end-end.ensures in
    let g : Some (Payload c.in-Some-Payload.what c.in-Some-Payload.len) ≡ head_of (take c.line_end-end.result c.args.bytes.now) = cc in
    (omega arith, payload_line c.args.bytes.now c.line_end-end.result _ _ c.line_end-end.ensures (omega arith) (omega arith) g (omega arith))
