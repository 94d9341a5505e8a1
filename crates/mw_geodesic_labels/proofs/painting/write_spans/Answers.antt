use Rattle.std.proofs.Common.{◌≡◌, ◌+◌, ◌∙◌, ℕ, length, get_or, refl, ap, sym, subst, arith}
use Rattle.mw_geodesic_labels.proofs.HeldSpans.{placed}
use Rattle.mw_geodesic_labels.proofs.Written.{WrittenUpTo, writing_begins, writing_on, writing_ended}
use Rattle.mw_geodesic_labels.proofs.painting.write_spans.Goals as goal

pub loop-y-init : goal.loop-y-init
loop-y-init c = λ held. subst (λ (t : ℕ). WrittenUpTo c.args.width held.runs c.args.numbers.now t 0 (length c.args.labels.now) c.args.labels.now) (sym held.begins) (writing_begins c.args.width held.runs c.args.numbers.now c.args.labels.now)

pub loop-k-init : goal.loop-k-init
loop-k-init c = c.loop-y.invariant

pub loop-k-preserved : goal.loop-k-preserved
loop-k-preserved c = λ held.
    let p = placed c.args.width (length c.args.labels.now) c.args.height c.loop-y.y c.loop-k.k c.args.spans.now c.args.starts.now c.args.numbers.now held (omega arith) (omega (arith, c.loop-k.auto.k)) (omega arith) in
    writing_on c.args.width held.runs c.args.numbers.now c.loop-k.k _ c.loop-k.at _ _ (length c.args.labels.now) c.loop-k.labels c.overwrite.new.places c.overwrite-in-loop-k.new.places held.known p.within refl p.begins p.ends c.overwrite.ensures c.overwrite-in-loop-k.ensures
    (c.loop-k.invariant held)

pub loop-y-preserved : goal.loop-y-preserved
loop-y-preserved c = λ held.
    let rises = held.rises c.loop-y.y (omega arith) in
    let end : c.loop-k.k ≡ get_or c.args.starts.now (c.loop-y.y + 1) 0 = omega (arith, c.loop-k.auto.k-end rises) in
    subst (λ (t : ℕ). WrittenUpTo c.args.width held.runs c.args.numbers.now t c.loop-k.at (length c.args.labels.now) c.loop-k.labels) end (c.loop-k.invariant held)

pub returns : goal.returns
returns c = λ held.
    let end : c.loop-y.y ≡ c.args.height = omega arith in
    let all : get_or c.args.starts.now c.loop-y.y 0 ≡ length held.runs = ap (λ (t : ℕ). get_or c.args.starts.now t 0) end ∙ held.ends in
    let was = c.loop-y.invariant held in
    writing_ended c.args.width held.runs c.args.numbers.now (get_or c.args.starts.now c.loop-y.y 0) c.loop-y.at _ (length c.args.labels.now) c.loop-y.labels c.overwrite-2.new.places held.known all was.as_many c.overwrite-2.ensures was

pub overwrite-requires-clause-order : goal.overwrite-requires-clause-order
overwrite-requires-clause-order c =
    let p = placed c.args.width (length c.args.labels.now) c.args.height c.loop-y.y c.loop-k.k c.args.spans.now c.args.starts.now c.args.numbers.now c.requires (omega arith) (omega (arith, c.loop-k.auto.k)) (omega arith) in
    let begins = p.begins in
    let ahead = (c.loop-k.invariant c.requires).ahead c.loop-k.k (omega arith) p.within in
    omega arith

pub overwrite-requires-clause-room : goal.overwrite-requires-clause-room
overwrite-requires-clause-room c =
    let p = placed c.args.width (length c.args.labels.now) c.args.height c.loop-y.y c.loop-k.k c.args.spans.now c.args.starts.now c.args.numbers.now c.requires (omega arith) (omega (arith, c.loop-k.auto.k)) (omega arith) in
    let order = p.order in
    let room = p.room in
    omega (arith, c.loop-k.auto.labels)

pub overwrite-requires-in-loop-k-clause-order : goal.overwrite-requires-in-loop-k-clause-order
overwrite-requires-in-loop-k-clause-order c =
    let p = placed c.args.width (length c.args.labels.now) c.args.height c.loop-y.y c.loop-k.k c.args.spans.now c.args.starts.now c.args.numbers.now c.requires (omega arith) (omega (arith, c.loop-k.auto.k)) (omega arith) in
    let order = p.order in
    omega arith

pub overwrite-requires-in-loop-k-clause-room : goal.overwrite-requires-in-loop-k-clause-room
overwrite-requires-in-loop-k-clause-room c =
    let p = placed c.args.width (length c.args.labels.now) c.args.height c.loop-y.y c.loop-k.k c.args.spans.now c.args.starts.now c.args.numbers.now c.requires (omega arith) (omega (arith, c.loop-k.auto.k)) (omega arith) in
    let room = p.room in
    omega (arith, c.loop-k.auto.labels, c.overwrite.auto.places)

pub overwrite-requires-2-clause-order : goal.overwrite-requires-2-clause-order
overwrite-requires-2-clause-order c = let within = (c.loop-y.invariant c.requires).within in omega (arith, c.loop-y.auto.labels)
