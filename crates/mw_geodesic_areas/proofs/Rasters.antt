-- Samples that are read and written, and planes of them.
use Rattle.std.proofs.Common.{◌≡◌, ℕ, ◌-◌, ◌<◌, Bool, true, false, List, length, get_or, set, map, ap, sym, arith, ◌∙◌}
use Rattle.std.proofs.lemmas.List.{get_or-map, get_or-set_same, get_or-set_other, map-set, length-map}
use Rattle.mw_geodesic_levels.specs.Levels.{level_numbered, IsPut}
use Rattle.mw_geodesic_areas.specs.Seen.{level_seen}

-- a sample that is written
pub put_is : {A : Type 0} (level : A → ℕ) (xs : List A) (i : ℕ) (s : A) → i < length xs → IsPut (level s) i (level_numbered level xs) (level_numbered level (set xs i s))
put_is level xs i s lt = record {
  here = ap (λ (l : List ℕ). get_or l i 0) (map-set level xs i s) ∙ get_or-set_same (map level xs) i (level s) 0 (omega (arith, length-map xs level));
  others = λ j ne. ap (λ (l : List ℕ). get_or l j 0) (map-set level xs i s) ∙ get_or-set_other (map level xs) i j (level s) 0 ne;
}

-- a sample as it is looked at
pub seen_turned : {A : Type 0} (level : A → ℕ) (turned : Bool) (maxval : ℕ) (xs : List A) (i v : ℕ) → turned ≡ true → i < length xs → v ≡ maxval - level_numbered level xs i → v ≡ level_seen level turned maxval xs i
unfolding level_seen
seen_turned level true maxval xs i v is lt same = same ∙ sym (get_or-map (λ s. maxval - s) (map level xs) i 0 0 (omega (arith, length-map xs level)))
seen_turned level false maxval xs i v is lt same = absurd cc

pub seen_plainly : {A : Type 0} (level : A → ℕ) (turned : Bool) (maxval : ℕ) (xs : List A) (i v : ℕ) → turned ≡ false → v ≡ level_numbered level xs i → v ≡ level_seen level turned maxval xs i
unfolding level_seen
seen_plainly level true maxval xs i v is same = absurd cc
seen_plainly level false maxval xs i v is same = same
