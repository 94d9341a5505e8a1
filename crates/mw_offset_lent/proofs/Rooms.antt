-- Places that lie in the cells.
use Rattle.std.proofs.Common.{◌≡◌, ℕ, ◌+◌, ◌-◌, ◌*◌, ◌≤◌, ◌<◌, ◌^◌, pos, ◌+ℤ◌, List, [], ◌∷◌, length, get_or, take, map, ap, sym, subst, arith}
use Rattle.std.specs.List.{AllByRecursion}
use Rattle.std.proofs.lemmas.List.{take_more}
use Rattle.std.proofs.lemmas.Nat.{mul-le}
use Rattle.std.proofs.lemmas.Int.{ints}
use Rattle.mw_model.specs.declared.offsets.Offset.{Offset}
use Rattle.mw_model.specs.Rectangles.{nonnegative}
use Rattle.mw_model.proofs.Nonnegative.{nonnegative_is}
use Rattle.mw_model.proofs.mw_facts.Alls.{all-append, all-contains, all-each_contained, all-weaker}
use Rattle.mw_offset_lent.specs.declared.places.Around.{Around}
use Rattle.mw_offset_lent.specs.Offsets.{LeadsWithin, place_among}
use Rattle.mw_offset_lent.specs.Splits.{IsCover}

pub shared_fits : (shared rest all : List ℕ) (ahead n m size : ℕ) → ahead + n ≤ m → IsCover shared rest all ahead → AllByRecursion (λ p. p + m ≤ size) all → AllByRecursion (λ p. p + n ≤ size) shared
shared_fits shared rest all ahead n m size le cover fits = all-each_contained (λ p. p + n ≤ size) shared (λ p has.
    let from = cover.shared p has in
    let is = from.2 in
    let there = all-contains (λ p. p + m ≤ size) all from.0 fits from.1 in
    omega (arith, is, there, le))

pub rest_fits : (shared rest all : List ℕ) (ahead n m size : ℕ) → n ≤ m → IsCover shared rest all ahead → AllByRecursion (λ p. p + m ≤ size) all → AllByRecursion (λ p. p + n ≤ size) rest
rest_fits shared rest all ahead n m size le cover fits = all-each_contained (λ p. p + n ≤ size) rest (λ p has.
    let there = all-contains (λ p. p + m ≤ size) all p fits (cover.rest p has) in
    omega (arith, there, le))

pub all_fit : (all : List ℕ) (n m size : ℕ) → n ≤ m → AllByRecursion (λ p. p + m ≤ size) all → AllByRecursion (λ p. p + n ≤ size) all
all_fit all n m size le fits = all-weaker (λ p. p + m ≤ size) (λ p. p + n ≤ size) all (λ p there. omega (arith, there, le)) fits

-- where the last of so many rows ends
pub places_fit : (all : List ℕ) (down across wide width split_wide split_width high most size : ℕ) → split_wide ≡ wide → split_width ≡ width → wide ≡ width + 2 * across → 0 < high → high ≤ most → (most + 2 * down) * wide ≤ size
    → AllByRecursion (λ p. p ≤ 2 * down * wide + 2 * across) all → AllByRecursion (λ p. p + ((high - 1) * split_wide + split_width) ≤ size) all
places_fit all down across wide width split_wide split_width high most size wide-is width-is sides some le fits near =
    all-weaker (λ p. p ≤ 2 * down * wide + 2 * across) (λ p. p + ((high - 1) * split_wide + split_width) ≤ size) all (λ p there.
    let whole : (high - 1) * wide + 2 * down * wide + wide ≡ (high + 2 * down) * wide = omega (arith, spread (high - 1) (2 * down) wide, ap (λ (t : ℕ). t * wide) back) in
    let same : (high - 1) * split_wide ≡ (high - 1) * wide = ap (λ (t : ℕ). (high - 1) * t) wide-is in
    omega (arith, there, whole, same, width-is, sides, fits, mul-le (high + 2 * down) wide (most + 2 * down) wide (omega (arith, le)) (omega arith))) near
  where
    back : high - 1 + 2 * down + 1 ≡ high + 2 * down
    back = omega (arith, some)

    spread : (a b m : ℕ) → (a + b + 1) * m ≡ a * m + b * m + m
    spread a b m = omega arith

-- the place of an offset that leads no further than what is laid out
place_near : (a : Around) (wide : ℕ) (b : Offset) → LeadsWithin a.across a.down b → place_among a wide b ≤ 2 * a.down * wide + 2 * a.across
place_near a wide b within =
    let dy-is = nonnegative_is (b.dy +ℤ pos a.down) in
    let dx-is = nonnegative_is (b.dx +ℤ pos a.across) in
    let rows : nonnegative (b.dy +ℤ pos a.down) ≤ 2 * a.down = omega (arith, ints, dy-is, within.up, within.down) in
    let columns : nonnegative (b.dx +ℤ pos a.across) ≤ 2 * a.across = omega (arith, ints, dx-is, within.left, within.right) in
    omega (arith, columns, mul-le (nonnegative (b.dy +ℤ pos a.down)) wide (2 * a.down) wide rows (omega arith))

pub near_places : (a : Around) (wide : ℕ) (offsets : List Offset) (places : List ℕ) → places ≡ map (place_among a wide) offsets → AllByRecursion (LeadsWithin a.across a.down) offsets → AllByRecursion (λ p. p ≤ 2 * a.down * wide + 2 * a.across) places
near_places a wide offsets places is within = subst (AllByRecursion (λ p. p ≤ 2 * a.down * wide + 2 * a.across)) (sym is) (each offsets within)
  where
    each : (offsets : List Offset) → AllByRecursion (LeadsWithin a.across a.down) offsets → AllByRecursion (λ p. p ≤ 2 * a.down * wide + 2 * a.across) (map (place_among a wide) offsets)
    each [] all = tt
    each (b ∷ bs) all = (place_near a wide b all.0, each bs all.1)

pub small_places : (a : Around) (wide more : ℕ) (places : List ℕ) → a.across ≤ 64 → a.down ≤ 64 → wide < 2 ^ 34 → more ≤ 2 ^ 35 → AllByRecursion (λ p. p ≤ 2 * a.down * wide + 2 * a.across) places → AllByRecursion (λ p. p + more < 2 ^ 64) places
small_places a wide more places across down small few near = all-weaker (λ p. p ≤ 2 * a.down * wide + 2 * a.across) (λ p. p + more < 2 ^ 64) places
    (λ p there. omega (arith, there, across, small, few, mul-le (2 * a.down) wide 128 wide (omega (arith, down)) (omega arith))) near

pub wider : (a b c d : ℕ) (o : Offset) → a ≤ c → b ≤ d → LeadsWithin a b o → LeadsWithin c d o
wider a b c d o across down within = record { left = let e = within.left in omega (arith, ints); right = let e = within.right in omega (arith, ints); up = let e = within.up in omega (arith, ints); down = let e = within.down in omega (arith, ints) }

-- one offset more, and room for more
pub within_more : (a b c d i : ℕ) (offsets : List Offset) (none : Offset) → i < length offsets → a ≤ c → b ≤ d → LeadsWithin c d (get_or offsets i none) → AllByRecursion (LeadsWithin a b) (take i offsets) → AllByRecursion (LeadsWithin c d) (take (i + 1) offsets)
within_more a b c d i offsets none lt across down here before =
    subst (AllByRecursion (LeadsWithin c d)) (sym (take_more offsets i none lt))
    (all-append (LeadsWithin c d) (take i offsets) (get_or offsets i none ∷ []) (all-weaker (LeadsWithin a b) (LeadsWithin c d) (take i offsets) (λ o within. wider a b c d o across down within) before) (here, tt))

pub all_below : (all : List ℕ) (n m size : ℕ) → n ≤ m → AllByRecursion (λ p. p + m < size) all → AllByRecursion (λ p. p + n < size) all
all_below all n m size le fits = all-weaker (λ p. p + m < size) (λ p. p + n < size) all (λ p there. omega (arith, there, le)) fits

pub rows_end : (down across wide width split_wide split_width high most size : ℕ) → split_wide ≡ wide → split_width ≡ width → wide ≡ width + 2 * across → 0 < high → high ≤ most → (most + 2 * down) * wide ≤ size → (high - 1) * split_wide + split_width ≤ size
rows_end down across wide width split_wide split_width high most size wide-is width-is sides some le fits =
    let whole : (high - 1) * wide + wide ≡ high * wide = omega (arith, next (high - 1) wide, ap (λ (t : ℕ). t * wide) (let e : high - 1 + 1 ≡ high = omega (arith, some) in e)) in
    let same : (high - 1) * split_wide ≡ (high - 1) * wide = ap (λ (t : ℕ). (high - 1) * t) wide-is in
    omega (arith, whole, same, width-is, sides, fits, mul-le high wide (most + 2 * down) wide (omega (arith, le)) (omega arith))
  where
    next : (a m : ℕ) → (a + 1) * m ≡ a * m + m
    next a m = omega arith
