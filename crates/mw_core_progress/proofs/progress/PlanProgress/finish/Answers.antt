use Rattle.std.proofs.Common.{◌≡◌, ◌≢◌, ◌<◌, true, List, not, ◌&&◌, length, take, drop, ◌++◌, get_or, set, sym, ap, subst, ◌∙◌, arith}
use Rattle.std.proofs.lemmas.List.{length-map, get_or_read}
use Rattle.std.proofs.lemmas.Bool.{both_ways}
use Rattle.mw_model.specs.Tasks.{is_running}
use Rattle.mw_grid.specs.Blocks.{sees}
use Rattle.mw_grid.specs.Grids.{tile_count}
use Rattle.mw_core_planes.specs.mw_ready.Boards.{step_reads}
use Rattle.mw_core_planes.specs.mw_tile_planes.Tiles.{Tiled, tile_cells}
use Rattle.mw_core_planes.specs.MadeTiles.{cells_of_made}
use Rattle.mw_core_planes.specs.StepPlanes.{shown, form, no_place, place_at, planes_shown, placed_in, is_read, Suits, SweptAll}
use Rattle.mw_core_planes.specs.declared.step_planes.StepPlane.{StepPlane}
use Rattle.mw_core_progress.specs.ProgressView.{ProgressView, IsFinished, ResultFits, number_of}
use Rattle.mw_core_progress.specs.Parts.{underway_kept}
use Rattle.mw_core_progress.proofs.Boarded.{runs_is}
use Rattle.mw_core_progress.proofs.Opened.{shown_at}
use Rattle.mw_core_progress.proofs.Placing.{put_ready}
use Rattle.mw_core_progress.proofs.Settled.{Finishing, read_places}
use Rattle.mw_core_progress.proofs.Finish.{finish_all, all_new}
use Rattle.mw_core_progress.proofs.progress.PlanProgress.finish.Goals as goal

pub finish-requires : goal.finish-requires
finish-requires c =
    let i = c.self.inside in
    let a = c.args in
    let g = i.grid in
    let ps = i.places.items in
    let fits = subst (λ (u : ProgressView). ResultFits u a.step a.tile a.made) (sym c.self.view_is) c.requires.fits in
    let running = subst (λ (u : ProgressView). is_running u.progress (number_of u.progress a.step a.tile) ≡ true) (sym c.self.view_is) c.requires.running in
    runs_is i.plan i.input g i.ready.board (planes_shown g ps) i.ready.order a.step a.tile c.self.invariant.1 c.tasks_are_those_of_work.ensures fits.within fits.inside running

pub drop_read-requires-clause-steps : goal.drop_read-requires-clause-steps
drop_read-requires-clause-steps c =
    let i = c.self.inside in
    let a = c.args in
    let g = i.grid in
    let ps = i.places.items in
    let fits = subst (λ (u : ProgressView). ResultFits u a.step a.tile a.made) (sym c.self.view_is) c.requires.fits in
    let running = subst (λ (u : ProgressView). is_running u.progress (number_of u.progress a.step a.tile) ≡ true) (sym c.self.view_is) c.requires.running in
    λ k read. subst (λ (xs : List StepPlane). (k < length xs) × (form (place_at xs k) ≢ 2)) (sym c.deref_mut.ensures.value)
    (read_places i.plan i.input g i.ready ps a.step k c.need-need.result c.self.invariant.0 c.self.invariant.1 c.self.invariant.2 fits.within c.need-need.ensures read)

pub drop_read-requires-clause-grids : goal.drop_read-requires-clause-grids
drop_read-requires-clause-grids c =
    let i = c.self.inside in
    let a = c.args in
    let g = i.grid in
    let ps = i.places.items in
    let fits = subst (λ (u : ProgressView). ResultFits u a.step a.tile a.made) (sym c.self.view_is) c.requires.fits in
    let running = subst (λ (u : ProgressView). is_running u.progress (number_of u.progress a.step a.tile) ≡ true) (sym c.self.view_is) c.requires.running in
    λ k. subst (λ (xs : List StepPlane). (shown g (place_at xs k)).tiling ≡ g) (sym c.deref_mut.ensures.value) (ap (λ (q : Tiled). q.tiling) (sym (shown_at g ps k)) ∙ c.self.invariant.0.tilings k)

pub drop_read-requires-clause-counts : goal.drop_read-requires-clause-counts
drop_read-requires-clause-counts c =
    let i = c.self.inside in
    let a = c.args in
    let g = i.grid in
    let ps = i.places.items in
    let fits = subst (λ (u : ProgressView). ResultFits u a.step a.tile a.made) (sym c.self.view_is) c.requires.fits in
    let running = subst (λ (u : ProgressView). is_running u.progress (number_of u.progress a.step a.tile) ≡ true) (sym c.self.view_is) c.requires.running in
    λ k. subst (λ (xs : List StepPlane). length (shown g (place_at xs k)).tiles ≡ tile_count g) (sym c.deref_mut.ensures.value) (ap (λ (q : Tiled). length q.tiles) (sym (shown_at g ps k)) ∙ c.self.invariant.0.counts k)

pub put-requires-clause-tiling : goal.put-requires-clause-tiling
put-requires-clause-tiling c =
    let i = c.self.inside in
    let a = c.args in
    let g = i.grid in
    let ps = i.places.items in
    let fits = subst (λ (u : ProgressView). ResultFits u a.step a.tile a.made) (sym c.self.view_is) c.requires.fits in
    let running = subst (λ (u : ProgressView). is_running u.progress (number_of u.progress a.step a.tile) ≡ true) (sym c.self.view_is) c.requires.running in
    let now = c.finish.new.self in
    let swept = c.drop_read.new.places in
    let sweeps = subst (λ (xs : List StepPlane). SweptAll g (λ k v. step_reads c.need-need.result k && sees g c.need-need.result.reach a.tile v && not (is_read now.board k v)) xs swept) c.deref_mut.ensures.value c.drop_read.ensures in
    let written : take i.places.len (swept ++ drop (length swept) ps) ≡ swept = all_new i.places.len swept ps sweeps.count (let ok = i.places.ok in omega arith) in
    let size : length (planes_shown g ps) ≡ length i.plan = c.self.invariant.0.planes in
    let lt : a.step < length swept = (let e = sweeps.count in omega (arith, size, length-map ps (shown g), fits.within)) in
    let was : c.index_mut.result.now ≡ place_at swept a.step = get_or_read swept a.step c.index_mut.result.now lt (subst (λ (xs : List StepPlane). c.index_mut.result.now ≡ get_or xs a.step c.index_mut.result.now) written c.index_mut.ensures.value) no_place in
    let r = put_ready i.plan i.input g i.ready ps swept a.step a.tile a.made c.self.invariant.0 c.self.invariant.2 (record { gone = λ k v. step_reads c.need-need.result k && sees g c.need-need.result.reach a.tile v && not (is_read now.board k v); running = running; fits = fits; sweeps = sweeps }) in
    ap (λ (q : StepPlane). (shown g q).tiling) was ∙ r.tiling

pub put-requires-clause-free : goal.put-requires-clause-free
put-requires-clause-free c =
    let i = c.self.inside in
    let a = c.args in
    let g = i.grid in
    let ps = i.places.items in
    let fits = subst (λ (u : ProgressView). ResultFits u a.step a.tile a.made) (sym c.self.view_is) c.requires.fits in
    let running = subst (λ (u : ProgressView). is_running u.progress (number_of u.progress a.step a.tile) ≡ true) (sym c.self.view_is) c.requires.running in
    let now = c.finish.new.self in
    let swept = c.drop_read.new.places in
    let sweeps = subst (λ (xs : List StepPlane). SweptAll g (λ k v. step_reads c.need-need.result k && sees g c.need-need.result.reach a.tile v && not (is_read now.board k v)) xs swept) c.deref_mut.ensures.value c.drop_read.ensures in
    let written : take i.places.len (swept ++ drop (length swept) ps) ≡ swept = all_new i.places.len swept ps sweeps.count (let ok = i.places.ok in omega arith) in
    let size : length (planes_shown g ps) ≡ length i.plan = c.self.invariant.0.planes in
    let lt : a.step < length swept = (let e = sweeps.count in omega (arith, size, length-map ps (shown g), fits.within)) in
    let was : c.index_mut.result.now ≡ place_at swept a.step = get_or_read swept a.step c.index_mut.result.now lt (subst (λ (xs : List StepPlane). c.index_mut.result.now ≡ get_or xs a.step c.index_mut.result.now) written c.index_mut.ensures.value) no_place in
    let r = put_ready i.plan i.input g i.ready ps swept a.step a.tile a.made c.self.invariant.0 c.self.invariant.2 (record { gone = λ k v. step_reads c.need-need.result k && sees g c.need-need.result.reach a.tile v && not (is_read now.board k v); running = running; fits = fits; sweeps = sweeps }) in
    ap (λ (q : StepPlane). tile_cells (shown g q).tiles a.tile) was ∙ r.free

pub put-requires-clause-suits : goal.put-requires-clause-suits
put-requires-clause-suits c =
    let i = c.self.inside in
    let a = c.args in
    let g = i.grid in
    let ps = i.places.items in
    let fits = subst (λ (u : ProgressView). ResultFits u a.step a.tile a.made) (sym c.self.view_is) c.requires.fits in
    let running = subst (λ (u : ProgressView). is_running u.progress (number_of u.progress a.step a.tile) ≡ true) (sym c.self.view_is) c.requires.running in
    let now = c.finish.new.self in
    let swept = c.drop_read.new.places in
    let sweeps = subst (λ (xs : List StepPlane). SweptAll g (λ k v. step_reads c.need-need.result k && sees g c.need-need.result.reach a.tile v && not (is_read now.board k v)) xs swept) c.deref_mut.ensures.value c.drop_read.ensures in
    let written : take i.places.len (swept ++ drop (length swept) ps) ≡ swept = all_new i.places.len swept ps sweeps.count (let ok = i.places.ok in omega arith) in
    let size : length (planes_shown g ps) ≡ length i.plan = c.self.invariant.0.planes in
    let lt : a.step < length swept = (let e = sweeps.count in omega (arith, size, length-map ps (shown g), fits.within)) in
    let was : c.index_mut.result.now ≡ place_at swept a.step = get_or_read swept a.step c.index_mut.result.now lt (subst (λ (xs : List StepPlane). c.index_mut.result.now ≡ get_or xs a.step c.index_mut.result.now) written c.index_mut.ensures.value) no_place in
    let r = put_ready i.plan i.input g i.ready ps swept a.step a.tile a.made c.self.invariant.0 c.self.invariant.2 (record { gone = λ k v. step_reads c.need-need.result k && sees g c.need-need.result.reach a.tile v && not (is_read now.board k v); running = running; fits = fits; sweeps = sweeps }) in
    subst (λ (q : StepPlane). Suits g q a.tile a.made) (sym was) r.suits

pub invariant_of-self : goal.invariant_of-self
invariant_of-self c =
    let i = c.self.inside in
    let a = c.args in
    let g = i.grid in
    let ps = i.places.items in
    let fits = subst (λ (u : ProgressView). ResultFits u a.step a.tile a.made) (sym c.self.view_is) c.requires.fits in
    let running = subst (λ (u : ProgressView). is_running u.progress (number_of u.progress a.step a.tile) ≡ true) (sym c.self.view_is) c.requires.running in
    let now = c.finish.new.self in
    let swept = c.drop_read.new.places in
    let sweeps = subst (λ (xs : List StepPlane). SweptAll g (λ k v. step_reads c.need-need.result k && sees g c.need-need.result.reach a.tile v && not (is_read now.board k v)) xs swept) c.deref_mut.ensures.value c.drop_read.ensures in
    let written : take i.places.len (swept ++ drop (length swept) ps) ≡ swept = all_new i.places.len swept ps sweeps.count (let ok = i.places.ok in omega arith) in
    let size : length (planes_shown g ps) ≡ length i.plan = c.self.invariant.0.planes in
    let lt : a.step < length swept = (let e = sweeps.count in omega (arith, size, length-map ps (shown g), fits.within)) in
    let was : c.index_mut.result.now ≡ place_at swept a.step = get_or_read swept a.step c.index_mut.result.now lt (subst (λ (xs : List StepPlane). c.index_mut.result.now ≡ get_or xs a.step c.index_mut.result.now) written c.index_mut.ensures.value) no_place in
    let f : Finishing i.plan i.input g i.ready ps = record {
      step = a.step;
      tile = a.tile;
      cells = cells_of_made a.made;
      need = c.need-need.result;
      now = now;
      swept = swept;
      after = set (take i.places.len (swept ++ drop (length swept) ps)) a.step c.put.new.self;
      keep = c.is_kept.result;
      within = fits.within;
      inside = fits.inside;
      running = running;
      need_is = c.need-need.ensures;
      board = c.finish.ensures;
      sweeps = sweeps;
      keep_is = c.is_kept.ensures;
      kept = λ e. (c.put.new.self, ap (λ (xs : List StepPlane). set xs a.step c.put.new.self) written, c.put.ensures.value ∙ ap (λ (q : StepPlane). placed_in (shown g q) a.tile (cells_of_made a.made)) was, c.put.ensures.form ∙ ap form was);
      dropped = λ e. absurd (both_ways c.is_kept.result e c.if-is_kept.true);
    } in
    let d = finish_all i.plan i.input g i.ready ps f c.self.invariant.0 c.self.invariant.1 c.tasks_are_those_of_work.ensures c.self.invariant.2 in
    (d.whole, d.boarded, d.placed, c.self.invariant.3, c.self.invariant.4)

pub invariant_of-self-else-is_kept : goal.invariant_of-self-else-is_kept
invariant_of-self-else-is_kept c =
    let i = c.self.inside in
    let a = c.args in
    let g = i.grid in
    let ps = i.places.items in
    let fits = subst (λ (u : ProgressView). ResultFits u a.step a.tile a.made) (sym c.self.view_is) c.requires.fits in
    let running = subst (λ (u : ProgressView). is_running u.progress (number_of u.progress a.step a.tile) ≡ true) (sym c.self.view_is) c.requires.running in
    let now = c.finish.new.self in
    let swept = c.drop_read.new.places in
    let sweeps = subst (λ (xs : List StepPlane). SweptAll g (λ k v. step_reads c.need-need.result k && sees g c.need-need.result.reach a.tile v && not (is_read now.board k v)) xs swept) c.deref_mut.ensures.value c.drop_read.ensures in
    let written : take i.places.len (swept ++ drop (length swept) ps) ≡ swept = all_new i.places.len swept ps sweeps.count (let ok = i.places.ok in omega arith) in
    let f : Finishing i.plan i.input g i.ready ps = record {
      step = a.step;
      tile = a.tile;
      cells = cells_of_made a.made;
      need = c.need-need.result;
      now = now;
      swept = swept;
      after = take i.places.len (swept ++ drop (length swept) ps);
      keep = c.is_kept.result;
      within = fits.within;
      inside = fits.inside;
      running = running;
      need_is = c.need-need.ensures;
      board = c.finish.ensures;
      sweeps = sweeps;
      keep_is = c.is_kept.ensures;
      kept = λ e. absurd (both_ways c.is_kept.result c.if-is_kept.false e);
      dropped = λ e. written;
    } in
    let d = finish_all i.plan i.input g i.ready ps f c.self.invariant.0 c.self.invariant.1 c.tasks_are_those_of_work.ensures c.self.invariant.2 in
    (d.whole, d.boarded, d.placed, c.self.invariant.3, c.self.invariant.4)

pub returns-then-is_kept-clause-finished : goal.returns-then-is_kept-clause-finished
returns-then-is_kept-clause-finished c =
    let i = c.self.inside in
    let a = c.args in
    let g = i.grid in
    let ps = i.places.items in
    let fits = subst (λ (u : ProgressView). ResultFits u a.step a.tile a.made) (sym c.self.view_is) c.requires.fits in
    let running = subst (λ (u : ProgressView). is_running u.progress (number_of u.progress a.step a.tile) ≡ true) (sym c.self.view_is) c.requires.running in
    let now = c.finish.new.self in
    let swept = c.drop_read.new.places in
    let sweeps = subst (λ (xs : List StepPlane). SweptAll g (λ k v. step_reads c.need-need.result k && sees g c.need-need.result.reach a.tile v && not (is_read now.board k v)) xs swept) c.deref_mut.ensures.value c.drop_read.ensures in
    let written : take i.places.len (swept ++ drop (length swept) ps) ≡ swept = all_new i.places.len swept ps sweeps.count (let ok = i.places.ok in omega arith) in
    let size : length (planes_shown g ps) ≡ length i.plan = c.self.invariant.0.planes in
    let lt : a.step < length swept = (let e = sweeps.count in omega (arith, size, length-map ps (shown g), fits.within)) in
    let was : c.index_mut.result.now ≡ place_at swept a.step = get_or_read swept a.step c.index_mut.result.now lt (subst (λ (xs : List StepPlane). c.index_mut.result.now ≡ get_or xs a.step c.index_mut.result.now) written c.index_mut.ensures.value) no_place in
    let f : Finishing i.plan i.input g i.ready ps = record {
      step = a.step;
      tile = a.tile;
      cells = cells_of_made a.made;
      need = c.need-need.result;
      now = now;
      swept = swept;
      after = set (take i.places.len (swept ++ drop (length swept) ps)) a.step c.put.new.self;
      keep = c.is_kept.result;
      within = fits.within;
      inside = fits.inside;
      running = running;
      need_is = c.need-need.ensures;
      board = c.finish.ensures;
      sweeps = sweeps;
      keep_is = c.is_kept.ensures;
      kept = λ e. (c.put.new.self, ap (λ (xs : List StepPlane). set xs a.step c.put.new.self) written, c.put.ensures.value ∙ ap (λ (q : StepPlane). placed_in (shown g q) a.tile (cells_of_made a.made)) was, c.put.ensures.form ∙ ap form was);
      dropped = λ e. absurd (both_ways c.is_kept.result e c.if-is_kept.true);
    } in
    let d = finish_all i.plan i.input g i.ready ps f c.self.invariant.0 c.self.invariant.1 c.tasks_are_those_of_work.ensures c.self.invariant.2 in
    subst (λ (u : ProgressView). IsFinished u (underway_kept i.plan i.input g now (set (take i.places.len (swept ++ drop (length swept) ps)) a.step c.put.new.self)) (number_of u.progress a.step a.tile) (cells_of_made a.made)) c.self.view_is d.finished

pub returns-then-is_kept-clause-whole : goal.returns-then-is_kept-clause-whole
returns-then-is_kept-clause-whole c =
    let i = c.self.inside in
    let a = c.args in
    let g = i.grid in
    let ps = i.places.items in
    let fits = subst (λ (u : ProgressView). ResultFits u a.step a.tile a.made) (sym c.self.view_is) c.requires.fits in
    let running = subst (λ (u : ProgressView). is_running u.progress (number_of u.progress a.step a.tile) ≡ true) (sym c.self.view_is) c.requires.running in
    let now = c.finish.new.self in
    let swept = c.drop_read.new.places in
    let sweeps = subst (λ (xs : List StepPlane). SweptAll g (λ k v. step_reads c.need-need.result k && sees g c.need-need.result.reach a.tile v && not (is_read now.board k v)) xs swept) c.deref_mut.ensures.value c.drop_read.ensures in
    let written : take i.places.len (swept ++ drop (length swept) ps) ≡ swept = all_new i.places.len swept ps sweeps.count (let ok = i.places.ok in omega arith) in
    let size : length (planes_shown g ps) ≡ length i.plan = c.self.invariant.0.planes in
    let lt : a.step < length swept = (let e = sweeps.count in omega (arith, size, length-map ps (shown g), fits.within)) in
    let was : c.index_mut.result.now ≡ place_at swept a.step = get_or_read swept a.step c.index_mut.result.now lt (subst (λ (xs : List StepPlane). c.index_mut.result.now ≡ get_or xs a.step c.index_mut.result.now) written c.index_mut.ensures.value) no_place in
    let f : Finishing i.plan i.input g i.ready ps = record {
      step = a.step;
      tile = a.tile;
      cells = cells_of_made a.made;
      need = c.need-need.result;
      now = now;
      swept = swept;
      after = set (take i.places.len (swept ++ drop (length swept) ps)) a.step c.put.new.self;
      keep = c.is_kept.result;
      within = fits.within;
      inside = fits.inside;
      running = running;
      need_is = c.need-need.ensures;
      board = c.finish.ensures;
      sweeps = sweeps;
      keep_is = c.is_kept.ensures;
      kept = λ e. (c.put.new.self, ap (λ (xs : List StepPlane). set xs a.step c.put.new.self) written, c.put.ensures.value ∙ ap (λ (q : StepPlane). placed_in (shown g q) a.tile (cells_of_made a.made)) was, c.put.ensures.form ∙ ap form was);
      dropped = λ e. absurd (both_ways c.is_kept.result e c.if-is_kept.true);
    } in
    let d = finish_all i.plan i.input g i.ready ps f c.self.invariant.0 c.self.invariant.1 c.tasks_are_those_of_work.ensures c.self.invariant.2 in
    d.whole

pub returns-else-is_kept-clause-finished : goal.returns-else-is_kept-clause-finished
returns-else-is_kept-clause-finished c =
    let i = c.self.inside in
    let a = c.args in
    let g = i.grid in
    let ps = i.places.items in
    let fits = subst (λ (u : ProgressView). ResultFits u a.step a.tile a.made) (sym c.self.view_is) c.requires.fits in
    let running = subst (λ (u : ProgressView). is_running u.progress (number_of u.progress a.step a.tile) ≡ true) (sym c.self.view_is) c.requires.running in
    let now = c.finish.new.self in
    let swept = c.drop_read.new.places in
    let sweeps = subst (λ (xs : List StepPlane). SweptAll g (λ k v. step_reads c.need-need.result k && sees g c.need-need.result.reach a.tile v && not (is_read now.board k v)) xs swept) c.deref_mut.ensures.value c.drop_read.ensures in
    let written : take i.places.len (swept ++ drop (length swept) ps) ≡ swept = all_new i.places.len swept ps sweeps.count (let ok = i.places.ok in omega arith) in
    let f : Finishing i.plan i.input g i.ready ps = record {
      step = a.step;
      tile = a.tile;
      cells = cells_of_made a.made;
      need = c.need-need.result;
      now = now;
      swept = swept;
      after = take i.places.len (swept ++ drop (length swept) ps);
      keep = c.is_kept.result;
      within = fits.within;
      inside = fits.inside;
      running = running;
      need_is = c.need-need.ensures;
      board = c.finish.ensures;
      sweeps = sweeps;
      keep_is = c.is_kept.ensures;
      kept = λ e. absurd (both_ways c.is_kept.result c.if-is_kept.false e);
      dropped = λ e. written;
    } in
    let d = finish_all i.plan i.input g i.ready ps f c.self.invariant.0 c.self.invariant.1 c.tasks_are_those_of_work.ensures c.self.invariant.2 in
    subst (λ (u : ProgressView). IsFinished u (underway_kept i.plan i.input g now (take i.places.len (swept ++ drop (length swept) ps))) (number_of u.progress a.step a.tile) (cells_of_made a.made)) c.self.view_is d.finished

pub returns-else-is_kept-clause-whole : goal.returns-else-is_kept-clause-whole
returns-else-is_kept-clause-whole c =
    let i = c.self.inside in
    let a = c.args in
    let g = i.grid in
    let ps = i.places.items in
    let fits = subst (λ (u : ProgressView). ResultFits u a.step a.tile a.made) (sym c.self.view_is) c.requires.fits in
    let running = subst (λ (u : ProgressView). is_running u.progress (number_of u.progress a.step a.tile) ≡ true) (sym c.self.view_is) c.requires.running in
    let now = c.finish.new.self in
    let swept = c.drop_read.new.places in
    let sweeps = subst (λ (xs : List StepPlane). SweptAll g (λ k v. step_reads c.need-need.result k && sees g c.need-need.result.reach a.tile v && not (is_read now.board k v)) xs swept) c.deref_mut.ensures.value c.drop_read.ensures in
    let written : take i.places.len (swept ++ drop (length swept) ps) ≡ swept = all_new i.places.len swept ps sweeps.count (let ok = i.places.ok in omega arith) in
    let f : Finishing i.plan i.input g i.ready ps = record {
      step = a.step;
      tile = a.tile;
      cells = cells_of_made a.made;
      need = c.need-need.result;
      now = now;
      swept = swept;
      after = take i.places.len (swept ++ drop (length swept) ps);
      keep = c.is_kept.result;
      within = fits.within;
      inside = fits.inside;
      running = running;
      need_is = c.need-need.ensures;
      board = c.finish.ensures;
      sweeps = sweeps;
      keep_is = c.is_kept.ensures;
      kept = λ e. absurd (both_ways c.is_kept.result c.if-is_kept.false e);
      dropped = λ e. written;
    } in
    let d = finish_all i.plan i.input g i.ready ps f c.self.invariant.0 c.self.invariant.1 c.tasks_are_those_of_work.ensures c.self.invariant.2 in
    d.whole
