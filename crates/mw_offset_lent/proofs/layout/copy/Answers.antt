use Rattle.std.proofs.Common.{◌≡◌, ℕ, ◌+◌, ◌-◌, List, length, drop, get_or, ap, arith, ◌∙◌, length-take, length-drop}
use Rattle.std.proofs.lemmas.List.{get_or-take, get_or-drop}
use Rattle.mw_model.proofs.mw_facts.Parts.{get_or-put_mid_above, get_or-put_mid_below, get_or-put_mid_within, length-put_mid}
use Rattle.mw_offset_lent.proofs.layout.copy.Goals as goal

pub returns-clause-put : goal.returns-clause-put
returns-clause-put g c =
    let at = c.args.at in
    let n = c.args.n in
    let from = c.args.from in
    let samples = c.args.samples.now in
    let made = c.copy_from_slice.new.self in
    let size : length made ≡ at + n - at = omega (arith, ap length c.copy_from_slice.ensures.after, length-take (from + n - from) (drop from samples), length-drop from samples, c.requires.samples) in
    record {
      size = length-put_mid at (at + n - at) c.args.out.now made size (omega (arith, c.requires.room));
      before = λ p d lt. get_or-put_mid_below at (at + n - at) c.args.out.now made p d (omega (arith, c.requires.room)) lt;
      behind = λ p d le. get_or-put_mid_above at (at + n - at) c.args.out.now made p d (omega (arith, c.requires.room)) size (omega (arith, le));
    }

pub returns-clause-made : goal.returns-clause-made
returns-clause-made g c = λ i d lt.
    let at = c.args.at in
    let n = c.args.n in
    let from = c.args.from in
    let samples = c.args.samples.now in
    let made = c.copy_from_slice.new.self in
    let size : length made ≡ at + n - at = omega (arith, ap length c.copy_from_slice.ensures.after, length-take (from + n - from) (drop from samples), length-drop from samples, c.requires.samples) in
    let here : at + i - at ≡ i = omega arith in
    get_or-put_mid_within at (at + n - at) c.args.out.now made (at + i) d (omega (arith, c.requires.room)) (omega arith) (omega (arith, lt, size))
    ∙ ap (λ (t : ℕ). get_or made t d) here
    ∙ ap (λ (t : List g.row.P.Denot). get_or t i d) c.copy_from_slice.ensures.after
    ∙ get_or-take (from + n - from) (drop from samples) i d (omega (arith, lt))
    ∙ get_or-drop from samples i d
