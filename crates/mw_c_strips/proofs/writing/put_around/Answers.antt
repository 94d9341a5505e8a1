use Rattle.std.proofs.Common.{◌≡◌, ℕ, ◌+◌, ◌*◌, length, ap, sym, arith, ◌∙◌}
use Rattle.std.proofs.lemmas.Nat.{mul-le}
use Rattle.mw_c_arrays.specs.Sources.{picture_in}
use Rattle.mw_c_layers.specs.Layers.{rule_picture}
use Rattle.mw_c_strips.specs.Rows.{rows_from}
use Rattle.mw_c_lent.proofs.Rows.{samples_between}
use Rattle.mw_c_strips.proofs.InPlace.{nothing_between, rows_in_three}
use Rattle.mw_c_strips.proofs.writing.put_around.Goals as goal
use Rattle.mw_c_strips.proofs.writing.put_around.Goals.{After-split_at_mut-made}

pub split_at_mut-head-requires : goal.split_at_mut-head-requires
split_at_mut-head-requires g c =
    let m = c.args.middle in
    let w = (picture_in m.f).width in
    let is = c.requires.between in
    omega (
      arith,
      samples_between c.args.first m.from c.width-width.result w is.behind c.width-width.ensures,
      mul-le m.from w c.args.end w (omega (arith, is.some, is.within)) (omega arith),
      c.requires.ends.samples,
    )

pub split_at_mut-made-requires : goal.split_at_mut-made-requires
split_at_mut-made-requires g c =
    let m = c.args.middle in
    let w = (picture_in m.f).width in
    let is = c.requires.between in
    omega (
      arith,
      samples_between c.args.first m.from c.width-width.result w is.behind c.width-width.ensures,
      samples_between m.from m.to c.width-width.result w (omega (arith, is.some)) c.width-width.ensures,
      mul-le m.to w c.args.end w is.within (omega arith),
      c.requires.ends.samples,
      c.split_at_mut-head.ensures.back_len,
    )

pub put_middle-requires : goal.put_middle-requires
put_middle-requires g c =
    let m = c.args.middle in
    let w = (picture_in m.f).width in
    let is = c.requires.between in
    record {
      sound = c.requires.sound;
      rows = record {
        some = is.some;
        within = omega (arith, is.within, c.requires.ends.within);
        samples = omega (arith, samples_between m.from m.to c.width-width.result w (omega (arith, is.some)) c.width-width.ensures, c.split_at_mut-made.ensures.front_len);
      };
    }

pub put_any-requires : goal.put_any-requires
put_any-requires g c =
    let m = c.args.middle in
    let w = (picture_in m.f).width in
    let is = c.requires.between in
    let head = c.split_at_mut-head.result.0.now in
    let samples : m.from * w ≡ c.args.first * w + length head = omega (arith, samples_between c.args.first m.from c.width-width.result w is.behind c.width-width.ensures, c.split_at_mut-head.ensures.front_len) in
    record {
      sound = c.requires.sound;
      ends = λ some. record { some = some; within = omega (arith, is.some, is.within, c.requires.ends.within); samples = samples };
      none = λ none. nothing_between c.args.first m.from w (length head) is.behind none samples;
      stands = c.requires.stands;
    }

-- the rows behind the middle
samples_behind : (g : _) (c : After-split_at_mut-made g) → c.args.end * (picture_in c.args.middle.f).width ≡ c.args.middle.to * (picture_in c.args.middle.f).width + length c.split_at_mut-made.result.1.now
samples_behind g c =
    let m = c.args.middle in
    let w = (picture_in m.f).width in
    let is = c.requires.between in
    omega (
      arith,
      samples_between c.args.first m.from c.width-width.result w is.behind c.width-width.ensures,
      samples_between m.from m.to c.width-width.result w (omega (arith, is.some)) c.width-width.ensures,
      c.requires.ends.samples,
      c.split_at_mut-head.ensures.back_len,
      c.split_at_mut-made.ensures.back_len,
    )

pub put_any-requires-2 : goal.put_any-requires-2
put_any-requires-2 g c =
    let m = c.args.middle in
    let w = (picture_in m.f).width in
    let tail = c.split_at_mut-made.result.1.now in
    let samples = samples_behind g (goal.at.put_any-requires-2 g c).After-split_at_mut-made in
    record {
      sound = c.requires.sound;
      ends = λ some. record { some = some; within = c.requires.ends.within; samples = samples };
      none = λ none. nothing_between m.to c.args.end w (length tail) c.requires.between.within none samples;
      stands = c.requires.stands;
    }

pub returns-clause-made : goal.returns-clause-made
returns-clause-made g c _ =
    let m = c.args.middle in
    let first = c.args.first in
    let is = c.requires.between in
    let w = (picture_in m.f).width in
    let f = rule_picture m.rule (picture_in m.f) in
    let head = c.put_any.new.out in
    let made = c.put_middle.new.out in
    let tail = c.put_any-2.new.out in
    let samples = samples_behind g (goal.at.returns-clause-made g c).After-split_at_mut-made in
    rows_in_three g.P.Pixel.level f first m.from m.to (length c.args.out.now) head made tail
    (omega (arith, samples_between first m.from c.width-width.result w is.behind c.width-width.ensures, c.split_at_mut-head.ensures.front_len, c.put_any.auto.out))
    (omega (arith, samples_between m.from m.to c.width-width.result w (omega (arith, is.some)) c.width-width.ensures, c.split_at_mut-made.ensures.front_len, c.put_middle.auto.out))
    (omega (arith, c.split_at_mut-head.ensures.front_len, c.split_at_mut-head.ensures.back_len, c.split_at_mut-made.ensures.front_len, c.split_at_mut-made.ensures.back_len, c.put_any.auto.out, c.put_middle.auto.out, c.put_any-2.auto.out))
    (c.put_any.ensures ∙ ap (λ (n : ℕ). rows_from first n f) (sym c.put_any.auto.out))
    (c.in_ok-put_middle.ensures.made c.if-not-branch.false ∙ ap (λ (n : ℕ). rows_from m.from n f) (sym c.put_middle.auto.out))
    (c.put_any-2.ensures ∙ ap (λ (n : ℕ). rows_from m.to n f) (sym c.put_any-2.auto.out))
