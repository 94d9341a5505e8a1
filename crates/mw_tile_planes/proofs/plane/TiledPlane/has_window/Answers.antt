use Rattle.std.proofs.Common.{◌≡◌, ℕ, IsTrue, ap, sym, rules, ◌∙◌}
use Rattle.mw_model.specs.declared.shapes.Kind.TheVariants as kind
use Rattle.mw_step_task.specs.mw_tile.Windows.{SourceWindow}
use Rattle.mw_step_task.specs.mw_tile_pieces.Shared.{grey_joint, source_joint}
use Rattle.mw_tile_planes.specs.Held.{tiled, tiled_held}
use Rattle.mw_tile_planes.proofs.Windows.{placed_of, shared_matches, within_of}
use Rattle.mw_tile_planes.proofs.plane.TiledPlane.has_window.Goals as goal

pub are_tiles-requires-clause-within : goal.are_tiles-requires-clause-within
are_tiles-requires-clause-within c =
    let g = c.self.inside.grid in
    let arm = c.in-Bits-Bits in
    let place : c.place.result ≡ c.args.rect = search rules in
    within_of kind.Bit 1 g c.deref.result.now c.args.self.now c.args.rect arm.w.now.place (ap (tiled kind.Bit 1 g) c.deref.ensures.value ∙ ap (tiled_held g) (sym c.in-Bits-Bits.is-0) ∙ c.self.view_is) (ap (λ (s : SourceWindow). s.view.place) (sym arm.ensures.0) ∙ sym c.place.ensures ∙ place) c.requires.within

pub are_tiles-requires-clause-placed : goal.are_tiles-requires-clause-placed
are_tiles-requires-clause-placed c =
    let g = c.self.inside.grid in
    let arm = c.in-Bits-Bits in
    let place : c.place.result ≡ c.args.rect = search rules in
    placed_of kind.Bit 1 g c.deref.result.now c.args.self.now c.args.rect arm.w.now.place (ap (tiled kind.Bit 1 g) c.deref.ensures.value ∙ ap (tiled_held g) (sym c.in-Bits-Bits.is-0) ∙ c.self.view_is) (ap (λ (s : SourceWindow). s.view.place) (sym arm.ensures.0) ∙ sym c.place.ensures ∙ place) c.requires.placed

pub returns-in-Bits-Bits : goal.returns-in-Bits-Bits
returns-in-Bits-Bits c =
    let g = c.self.inside.grid in
    let arm = c.in-Bits-Bits in
    let place : c.place.result ≡ c.args.rect = search rules in
    let is : c.args.window.now ≡ source_joint kind.Bit 1 arm.w.now = arm.ensures.0 in
    shared_matches kind.Bit 1 g c.deref.result.now c.args.self.now arm.w.now c.args.rect c.args.window.now (IsTrue c.are_tiles.result) (ap (tiled kind.Bit 1 g) c.deref.ensures.value ∙ ap (tiled_held g) (sym c.in-Bits-Bits.is-0) ∙ c.self.view_is) c.requires.within arm.ensures.1 is (sym c.place.ensures ∙ place) c.are_tiles.ensures

pub are_tiles-requires-then-m-n-clause-within : goal.are_tiles-requires-then-m-n-clause-within
are_tiles-requires-then-m-n-clause-within c =
    let g = c.self.inside.grid in
    let arm = c.in-Grey8-Grey8 in
    let place : c.place.result ≡ c.args.rect = search rules in
    within_of kind.Grey c.in-Grey8-Grey8.m g c.deref-then-m-n.result.now c.args.self.now c.args.rect arm.w.now.place (ap (tiled kind.Grey c.in-Grey8-Grey8.m g) c.deref-then-m-n.ensures.value ∙ ap (tiled_held g) (sym c.in-Grey8-Grey8.is-0) ∙ c.self.view_is) (ap (λ (s : SourceWindow). s.view.place) (sym arm.ensures.0) ∙ sym c.place.ensures ∙ place) c.requires.within

pub are_tiles-requires-then-m-n-clause-placed : goal.are_tiles-requires-then-m-n-clause-placed
are_tiles-requires-then-m-n-clause-placed c =
    let g = c.self.inside.grid in
    let arm = c.in-Grey8-Grey8 in
    let place : c.place.result ≡ c.args.rect = search rules in
    placed_of kind.Grey c.in-Grey8-Grey8.m g c.deref-then-m-n.result.now c.args.self.now c.args.rect arm.w.now.place (ap (tiled kind.Grey c.in-Grey8-Grey8.m g) c.deref-then-m-n.ensures.value ∙ ap (tiled_held g) (sym c.in-Grey8-Grey8.is-0) ∙ c.self.view_is) (ap (λ (s : SourceWindow). s.view.place) (sym arm.ensures.0) ∙ sym c.place.ensures ∙ place) c.requires.placed

pub returns-then-m-n : goal.returns-then-m-n
returns-then-m-n c =
    let g = c.self.inside.grid in
    let arm = c.in-Grey8-Grey8 in
    let place : c.place.result ≡ c.args.rect = search rules in
    let is : c.args.window.now ≡ source_joint kind.Grey c.in-Grey8-Grey8.m arm.w.now = arm.ensures.0 ∙ ap (λ (n : ℕ). grey_joint arm.w.now n) (sym c.if-m-n.true) in
    shared_matches kind.Grey c.in-Grey8-Grey8.m g c.deref-then-m-n.result.now c.args.self.now arm.w.now c.args.rect c.args.window.now (IsTrue c.are_tiles-then-m-n.result) (ap (tiled kind.Grey c.in-Grey8-Grey8.m g) c.deref-then-m-n.ensures.value ∙ ap (tiled_held g) (sym c.in-Grey8-Grey8.is-0) ∙ c.self.view_is) c.requires.within arm.ensures.1 is (sym c.place.ensures ∙ place) c.are_tiles-then-m-n.ensures

pub are_tiles-requires-then-m-n-2-clause-within : goal.are_tiles-requires-then-m-n-2-clause-within
are_tiles-requires-then-m-n-2-clause-within c =
    let g = c.self.inside.grid in
    let arm = c.in-Grey16-Grey16 in
    let place : c.place.result ≡ c.args.rect = search rules in
    within_of kind.Grey c.in-Grey16-Grey16.m g c.deref-then-m-n-2.result.now c.args.self.now c.args.rect arm.w.now.place (ap (tiled kind.Grey c.in-Grey16-Grey16.m g) c.deref-then-m-n-2.ensures.value ∙ ap (tiled_held g) (sym c.in-Grey16-Grey16.is-0) ∙ c.self.view_is) (ap (λ (s : SourceWindow). s.view.place) (sym arm.ensures.0) ∙ sym c.place.ensures ∙ place) c.requires.within

pub are_tiles-requires-then-m-n-2-clause-placed : goal.are_tiles-requires-then-m-n-2-clause-placed
are_tiles-requires-then-m-n-2-clause-placed c =
    let g = c.self.inside.grid in
    let arm = c.in-Grey16-Grey16 in
    let place : c.place.result ≡ c.args.rect = search rules in
    placed_of kind.Grey c.in-Grey16-Grey16.m g c.deref-then-m-n-2.result.now c.args.self.now c.args.rect arm.w.now.place (ap (tiled kind.Grey c.in-Grey16-Grey16.m g) c.deref-then-m-n-2.ensures.value ∙ ap (tiled_held g) (sym c.in-Grey16-Grey16.is-0) ∙ c.self.view_is) (ap (λ (s : SourceWindow). s.view.place) (sym arm.ensures.0) ∙ sym c.place.ensures ∙ place) c.requires.placed

pub returns-then-m-n-2 : goal.returns-then-m-n-2
returns-then-m-n-2 c =
    let g = c.self.inside.grid in
    let arm = c.in-Grey16-Grey16 in
    let place : c.place.result ≡ c.args.rect = search rules in
    let is : c.args.window.now ≡ source_joint kind.Grey c.in-Grey16-Grey16.m arm.w.now = arm.ensures.0 ∙ ap (λ (n : ℕ). grey_joint arm.w.now n) (sym c.if-m-n-2.true) in
    shared_matches kind.Grey c.in-Grey16-Grey16.m g c.deref-then-m-n-2.result.now c.args.self.now arm.w.now c.args.rect c.args.window.now (IsTrue c.are_tiles-then-m-n-2.result) (ap (tiled kind.Grey c.in-Grey16-Grey16.m g) c.deref-then-m-n-2.ensures.value ∙ ap (tiled_held g) (sym c.in-Grey16-Grey16.is-0) ∙ c.self.view_is) c.requires.within arm.ensures.1 is (sym c.place.ensures ∙ place) c.are_tiles-then-m-n-2.ensures
