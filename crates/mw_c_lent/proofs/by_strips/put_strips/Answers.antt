use Rattle.std.proofs.Common.{◌≡◌, ℕ, ◌+◌, ◌-◌, ◌*◌, ◌≤◌, min, length, refl, sym, subst, arith, inl, inr, ◌∙◌}
use Rattle.mw_model.specs.declared.offsets.Rect.{Rect}
use Rattle.mw_c_arrays.specs.Sources.{picture_in}
use Rattle.mw_c_lent.specs.Composites.{composite_picture, first_made}
use Rattle.mw_c_lent.specs.Rules.{rule_picture}
use Rattle.mw_c_lent.specs.Standing.{seen_from, seen_to}
use Rattle.mw_c_lent.proofs.InStrips.{none_held, room_behind}
use Rattle.mw_c_lent.proofs.Slid.{room_for}
use Rattle.mw_c_lent.proofs.Stood.{rows_at}
use Rattle.mw_c_lent.proofs.Written.{no_rows}
use Rattle.std.proofs.lemmas.Bool.{cases_lt}
use Rattle.mw_c_lent.specs.Suited.{IsFirstHeight}
use Rattle.mw_c_lent.proofs.by_strips.put_strips.Goals as goal

pub strips-init : goal.strips-init
strips-init g c =
    let level = g.P.Pixel.level in
    let k = c.args.composition in
    let f = picture_in k.f in
    let above = c.saturating_sub-above.result in
    record {
      begun = omega arith;
      within = omega (arith, c.requires.rows.some);
      behind = omega (arith, c.saturating_sub-above.ensures);
      joined = omega (arith, c.saturating_sub-above.ensures);
      held = none_held above above c.width-width.result (length c.args.between.now) refl;
      between = refl;
      size = refl;
      stands = no_rows level (rule_picture (first_made k.composite) f) above above c.args.between.now refl;
      made = no_rows level (composite_picture k.composite f) c.args.stretch.first c.args.stretch.first c.args.out.now refl;
      none = λ same. refl;
      fresh = λ same. refl;
    }

pub strips-preserved : goal.strips-preserved
strips-preserved g c =
    let level = g.P.Pixel.level in
    let k = c.args.composition in
    let f = picture_in k.f in
    let i = c.strips.invariant in
    let strip : Rect = record { x = 0; y = c.strips.done; width = c.width-width.result; height = c.strip_height.result } in
    let stood = c.stood_for-standing.result in
    let between = c.put_or_stop.new.between in
    let low : c.strips.done + c.strip_height.result ≤ f.height = omega (arith, c.strip_height.ensures.within, c.strips-test.true, c.requires.rows.within) in
    let most : ℕ = min (c.args.stretch.rows + (k.reach.up + k.reach.down)) f.height in
    let room : most * c.width-width.result ≤ length between =
    subst (λ (t : ℕ). most * t ≤ length between) (sym c.width-width.ensures) (omega (arith, c.requires.between, i.between, c.put_or_stop.ensures.between)) in
    record {
      begun = omega (arith, i.begun);
      within = omega (arith, c.strip_height.ensures.within, c.strips-test.true);
      behind = omega (arith, c.stood_for-standing.ensures.from);
      joined = omega (arith, c.stood_for-standing.ensures.to, c.height-height.ensures, low);
      held = room_for (stood.to - stood.from) most c.width-width.result (length between) (omega (arith, c.stood_for-standing.ensures.from, c.stood_for-standing.ensures.to, c.height-height.ensures, c.strip_height.ensures.most)) room;
      between = c.put_or_stop.ensures.between ∙ i.between;
      size = c.put_or_stop.ensures.size ∙ i.size;
      stands = rows_at level (rule_picture (first_made k.composite) f) (seen_from k.reach strip) (seen_to f.height k.reach strip) stood.from stood.to between (sym c.stood_for-standing.ensures.from)
          (sym (subst (λ (t : ℕ). stood.to ≡ seen_to t k.reach strip) c.height-height.ensures c.stood_for-standing.ensures.to)) (c.in_ok-put_or_stop.ensures.stands c.if-not-branch.false);
      made = c.in_ok-put_or_stop.ensures.made c.if-not-branch.false i.made;
      none = λ same. absurd (omega (arith, same, i.begun, c.strip_height.ensures.some));
      fresh = λ same. absurd (omega (arith, same, i.begun, c.strip_height.ensures.some));
    }

pub put_or_stop-requires-clause-between : goal.put_or_stop-requires-clause-between
put_or_stop-requires-clause-between g c =
    let level = g.P.Pixel.level in
    let k = c.args.composition in
    let f = picture_in k.f in
    let i = c.strips.invariant in
    let more : ℕ = k.reach.up + k.reach.down in
    let most : ℕ = min (c.args.stretch.rows + more) f.height in
    let room : most * c.width-width.result ≤ length c.strips.between = subst (λ (t : ℕ). most * t ≤ length c.strips.between) (sym c.width-width.ensures) (omega (arith, c.requires.between, i.between)) in
    room_for (min (c.strip_height.result + more) f.height) most c.width-width.result (length c.strips.between) (omega (arith, c.strip_height.ensures.most)) room

pub put_or_stop-requires-clause-room : goal.put_or_stop-requires-clause-room
put_or_stop-requires-clause-room g c =
    let level = g.P.Pixel.level in
    let k = c.args.composition in
    let f = picture_in k.f in
    let i = c.strips.invariant in
    let s = c.args.stretch in
    room_behind s.first c.strips.done c.strip_height.result s.end c.width-width.result f.width (length c.strips.out) i.begun (omega (arith, c.strip_height.ensures.within, c.strips-test.true)) c.requires.rows.some c.width-width.ensures
    (subst (λ (t : ℕ). s.end * f.width ≡ s.first * f.width + t) (sym i.size) c.requires.rows.samples)

pub returns-then-not-branch-clause-taken : goal.returns-then-not-branch-clause-taken
returns-then-not-branch-clause-taken g c = λ fits suits.
    let i = c.strips.invariant in
    let s = c.args.stretch in
    let strip : Rect = record { x = 0; y = c.strips.done; width = c.width-width.result; height = c.strip_height.result } in
    elim (cases_lt s.first c.strips.done) [
      | inl less ↦ less
      | inr past ↦
          let same : c.strips.done ≡ s.first = omega (arith, past, i.begun) in
          let high : IsFirstHeight s.rows (s.end - s.first) c.strip_height.result = subst (λ (t : ℕ). IsFirstHeight s.rows (s.end - t) c.strip_height.result) same c.strip_height.ensures.first in
          let yes = c.in_ok-put_or_stop.ensures.taken same (i.fresh same) fits (suits strip c.width-width.ensures high) in
          absurd (cc (yes, c.if-not-branch.true))
    ]

pub returns-clause-taken : goal.returns-clause-taken
returns-clause-taken g c = λ fits suits. omega (arith, c.strips-test.false, c.requires.rows.some)
