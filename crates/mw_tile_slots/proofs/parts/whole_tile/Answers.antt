use Rattle.std.proofs.Common.{◌≡◌, rules}
use Rattle.mw_tile_slots.proofs.Numbers.{whole_stands, whole_shows}
use Rattle.mw_tile_slots.proofs.parts.whole_tile.Goals as goal

pub returns-in-Some-clause-stands : goal.returns-in-Some-clause-stands
returns-in-Some-clause-stands g c =
    let same : c.rect.result ≡ c.args.rect = search rules in
    whole_stands c.args.grid c.args.tiles.now c.tile_number-i.result c.index-tiles-i.result c.in-Some.placed c.rect.result c.args.rect c.requires c.index-tiles-i.is c.in-Some.is c.rect.ensures.value same c.tile_number-i.ensures.within

pub returns-in-Some-clause-value : goal.returns-in-Some-clause-value
returns-in-Some-clause-value g c =
    let same : c.rect.result ≡ c.args.rect = search rules in
    whole_shows c.args.grid c.args.tiles.now c.tile_number-i.result c.index-tiles-i.result c.in-Some.placed c.rect.result c.args.rect c.requires c.index-tiles-i.is c.in-Some.is c.rect.ensures.value same c.tile_number-i.ensures.within
