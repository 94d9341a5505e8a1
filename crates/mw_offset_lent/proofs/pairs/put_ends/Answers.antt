use Rattle.std.proofs.Common.{◌≡◌, ℕ, ◌+◌, ◌*◌, length, get_or, ap, arith, ◌∙◌, inl, inr}
use Rattle.mw_offset_lent.proofs.Puts.{put_none, put_part}
use Rattle.mw_offset_lent.specs.Places.{merged_at}
use Rattle.mw_offset_lent.proofs.Rooms.{all_fit}
use Rattle.mw_offset_lent.proofs.pairs.put_ends.Goals as goal

pub put_block-requires-clause-inside : goal.put_block-requires-clause-inside
put_block-requires-clause-inside g c =
    let s = c.args.split in
    let e = c.args.ends in
    all_fit s.all.now (c.args.from + e.upper + 2 * g.P.Laned.WIDTH) (c.args.from + s.wide + s.width) (length c.args.cells.now) (omega (arith, c.requires.upper)) c.requires.inside

pub put_block-requires-2-clause-inside : goal.put_block-requires-2-clause-inside
put_block-requires-2-clause-inside g c =
    let s = c.args.split in
    let e = c.args.ends in
    all_fit s.all.now (c.args.from + s.wide + e.lower + 2 * g.P.Laned.WIDTH) (c.args.from + s.wide + s.width) (length c.args.cells.now) (omega (arith, c.requires.lower)) c.requires.inside

pub returns-clause-put : goal.returns-clause-put
returns-clause-put g c =
    let s = c.args.split in
    let e = c.args.ends in
    let w = 2 * g.P.Laned.WIDTH in
    let old = c.args.out.now in
    let mid = c.put_block.new.out in
    let new = c.put_block-2.new.out in
    put_part e.at (2 * s.width) (e.at + s.width + e.lower) w old mid new (omega arith) (omega (arith, c.requires.lower))
    (put_part e.at (2 * s.width) (e.at + e.upper) w old old mid (omega arith) (omega (arith, c.requires.upper)) (put_none e.at (2 * s.width) old) c.put_block.ensures.put) c.put_block-2.ensures.put

pub returns-clause-upper : goal.returns-clause-upper
returns-clause-upper g c = λ i lt.
    let f = g.E.Extremum.merge in
    let n = c.args.neutral in
    let s = c.args.split in
    let e = c.args.ends in
    let mid = c.put_block.new.out in
    let here : e.at + (e.upper + i) ≡ e.at + e.upper + i = omega arith in
    let there : c.args.from + e.upper + i ≡ c.args.from + (e.upper + i) = omega arith in
    c.put_block-2.ensures.put.before (e.at + (e.upper + i)) n (omega (arith, lt, c.requires.upper))
    ∙ ap (λ (t : ℕ). get_or mid t n) here
    ∙ c.put_block.ensures.made i lt
    ∙ ap (λ (t : ℕ). merged_at f c.args.cells.now n t n s.all.now) there

pub returns-clause-lower : goal.returns-clause-lower
returns-clause-lower g c = λ i lt.
    let f = g.E.Extremum.merge in
    let n = c.args.neutral in
    let s = c.args.split in
    let e = c.args.ends in
    let new = c.put_block-2.new.out in
    let here : e.at + s.width + (e.lower + i) ≡ e.at + s.width + e.lower + i = omega arith in
    let there : c.args.from + s.wide + e.lower + i ≡ c.args.from + s.wide + (e.lower + i) = omega arith in
    ap (λ (t : ℕ). get_or new t n) here ∙ c.put_block-2.ensures.made i lt ∙ ap (λ (t : ℕ). merged_at f c.args.cells.now n t n s.all.now) there

pub returns-clause-kept : goal.returns-clause-kept
returns-clause-kept g c = λ i d out_of_upper out_of_lower.
    let s = c.args.split in
    let e = c.args.ends in
    let w = 2 * g.P.Laned.WIDTH in
    let old = c.args.out.now in
    let mid = c.put_block.new.out in
    let new = c.put_block-2.new.out in
    let last : get_or new (e.at + i) d ≡ get_or mid (e.at + i) d = elim out_of_lower [
      | inl low ↦ c.put_block-2.ensures.put.before (e.at + i) d (omega (arith, low))
      | inr high ↦ c.put_block-2.ensures.put.behind (e.at + i) d (omega (arith, high))
    ] in
    last ∙ elim out_of_upper [
      | inl low ↦ c.put_block.ensures.put.before (e.at + i) d (omega (arith, low))
      | inr high ↦ c.put_block.ensures.put.behind (e.at + i) d (omega (arith, high))
    ]
