use Rattle.std.proofs.Common.{◌≡◌, ℕ, ◌+◌, ◌*◌, ◌≤◌, map, ap, sym, subst, arith, ◌∙◌}
use Rattle.std.specs.List.{AllByRecursion}
use Rattle.mw_model.specs.declared.offsets.Rect.{Rect}
use Rattle.mw_offset_lent.specs.Offsets.{place_among}
use Rattle.mw_offset_lent.proofs.Rooms.{near_places, small_places}
use Rattle.mw_offset_lent.proofs.tiles.put_tile.Goals as goal

pub best_shift-shift-requires-clause-places : goal.best_shift-shift-requires-clause-places
best_shift-shift-requires-clause-places g c =
    let l = c.args.laid in
    let laid = c.requires.laid in
    small_places l.around l.wide (l.wide + 8) c.as_slice-all.result.now laid.across laid.down (omega (arith, laid.wide, laid.across)) (omega (arith, laid.wide, laid.across)) (near_places l.around l.wide c.args.offsets.now c.as_slice-all.result.now (c.as_slice-all.ensures.value ∙ c.in_ok-places.ensures) c.requires.within)

pub shares_of-requires-clause-places : goal.shares_of-requires-clause-places
shares_of-requires-clause-places g c =
    let l = c.args.laid in
    let laid = c.requires.laid in
    small_places l.around l.wide (l.wide + 8) c.as_slice-all.result.now laid.across laid.down (omega (arith, laid.wide, laid.across)) (omega (arith, laid.wide, laid.across)) (near_places l.around l.wide c.args.offsets.now c.as_slice-all.result.now (c.as_slice-all.ensures.value ∙ c.in_ok-places.ensures) c.requires.within)

pub shares_of-requires-2-clause-places : goal.shares_of-requires-2-clause-places
shares_of-requires-2-clause-places g c =
    let l = c.args.laid in
    let laid = c.requires.laid in
    let stride = c.place-place.result.width in
    small_places l.around stride (stride + 8) c.as_slice-inner.result.now laid.across laid.down (omega arith) (omega arith) (near_places l.around stride c.standing_of-standing.result.now c.as_slice-inner.result.now (c.as_slice-inner.ensures.value ∙ c.in_ok-there.ensures) (c.standing_of-standing.ensures.within l.around.across l.around.down c.requires.within))

pub put_strips-requires-clause-work : goal.put_strips-requires-clause-work
put_strips-requires-clause-work g c =
    let l = c.args.laid in
    let laid = c.requires.laid in
    let w = c.args.lent.now in
    let lanes = g.P.Laned.WIDTH in
    let place = c.place-place.ensures.value in
    let stride = c.place-place.result.width in
    let narrow = 4 * c.WIDTH-narrow.result in
    let offsets = c.args.offsets.now in
    let lines = c.lines_of-lines.ensures in
    record {
      laid = laid;
      split = c.split_of.ensures.split lanes c.requires.lanes c.requires.wide (omega (arith, laid.wide));
      wide = c.split_of.ensures.wide;
      width = c.split_of.ensures.width;
      places = near_places l.around l.wide offsets _ (c.split_of.ensures.all ∙ c.as_slice-all.ensures.value ∙ c.in_ok-places.ensures) c.requires.within;
      lines = λ some. record {
        all = subst (λ (t : Rect). c.lines_of-lines.result ≤ t.height) place lines.all;
        left = subst (λ (t : Rect). l.tile.x ≡ t.x) place (lines.left some);
        right = subst (λ (t : Rect). l.tile.width ≡ t.width) place (lines.right some);
        split = c.split_of-2.ensures.split lanes c.requires.lanes c.requires.wide (omega (arith, lines.right some));
        wide = c.split_of-2.ensures.wide ∙ ap (λ (t : Rect). t.width) place;
        width = c.split_of-2.ensures.width;
        places = subst (λ (t : ℕ). AllByRecursion (λ p. p ≤ 2 * l.around.down * t + 2 * l.around.across) c.split_of-2.result.all.now) (sym c.split_of-2.ensures.wide)
            (near_places l.around stride c.standing_of-standing.result.now _ (c.split_of-2.ensures.all ∙ c.as_slice-inner.ensures.value ∙ c.in_ok-there.ensures) (c.standing_of-standing.ensures.within l.around.across l.around.down c.requires.within));
        narrow = omega (arith, c.WIDTH-narrow.ensures);
        edges = near_places l.around narrow c.standing_of-standing.result.now _ (c.as_slice-outer.ensures.value ∙ c.in_ok-edges.ensures) (c.standing_of-standing.ensures.within l.around.across l.around.down c.requires.within);
        across = omega (arith, lines.across some, c.WIDTH.ensures);
        room = omega (arith, lines.room some, c.WIDTH.ensures);
      };
    }

pub returns-clause-made : goal.returns-clause-made
returns-clause-made g c =
    let l = c.args.laid in
    c.put_strips.ensures.made c.args.offsets.now
    (record {
      places = c.split_of.ensures.all ∙ c.as_slice-all.ensures.value ∙ c.in_ok-places.ensures;
      inner = λ some. c.split_of-2.ensures.all ∙ c.as_slice-inner.ensures.value ∙ c.in_ok-there.ensures ∙ ap (map (place_among l.around c.place-place.result.width)) (c.standing_of-standing.ensures.all some) ∙ sym (ap (λ (t : ℕ). map (place_among l.around t) c.args.offsets.now) c.split_of-2.ensures.wide);
      edges = λ some. c.as_slice-outer.ensures.value ∙ c.in_ok-edges.ensures ∙ ap (map (place_among l.around (4 * c.WIDTH-narrow.result))) (c.standing_of-standing.ensures.all some);
      within = c.requires.within;
    })

pub places_of-requires-2-clause-within : goal.places_of-requires-2-clause-within
places_of-requires-2-clause-within g c = c.standing_of-standing.ensures.within c.args.laid.around.across c.args.laid.around.down c.requires.within

pub places_of-requires-3-clause-within : goal.places_of-requires-3-clause-within
places_of-requires-3-clause-within g c = c.standing_of-standing.ensures.within c.args.laid.around.across c.args.laid.around.down c.requires.within
