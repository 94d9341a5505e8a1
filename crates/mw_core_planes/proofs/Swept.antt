-- Tiles that are dropped, one after another.
use Rattle.std.proofs.Common.{◌≡◌, ℕ, ◌<◌, Bool, true, false, ◌||◌, nat_eq, cond, List, length, get_or, set, Option, None, refl, sym, ap, ◌∙◌, arith, inl, inr}
use Rattle.std.proofs.lemmas.Bool.{cases_eq, eq-eqb, ne_eqb}
use Rattle.std.proofs.lemmas.List.{length-set, get_or-set_same, get_or-set_other}
use Rattle.mw_tile_planes.specs.Tiles.{Tiled, tile_cells}
use Rattle.mw_grid.specs.Grids.{Tiling}
use Rattle.mw_core_planes.specs.StepPlanes.{shown, place_at, Swept, SweptAll}
use Rattle.mw_core_planes.specs.declared.step_planes.StepPlane.{StepPlane}

abbrev no_cells : Option (List ℕ)
no_cells = None

-- the same tiles, told otherwise
pub swept-same : (gone told : ℕ → Bool) (p q : Tiled) → ((v : ℕ) → v < length p.tiles → gone v ≡ told v) → Swept gone p q → Swept told p q
swept-same gone told p q same s = record {
  kind = s.kind;
  maxval = s.maxval;
  tiling = s.tiling;
  count = s.count;
  each = λ v lt. s.each v lt ∙ ap (λ (b : Bool). cond b None (tile_cells p.tiles v)) (same v lt);
}

cond_twice : (a b c : Bool) (o : Option (List ℕ)) → c ≡ a || b → cond b no_cells (cond a no_cells o) ≡ cond c no_cells o
cond_twice true true c o e = ap (λ (x : Bool). cond x no_cells o) (sym e)
cond_twice true false c o e = ap (λ (x : Bool). cond x no_cells o) (sym e)
cond_twice false true c o e = ap (λ (x : Bool). cond x no_cells o) (sym e)
cond_twice false false c o e = ap (λ (x : Bool). cond x no_cells o) (sym e)

-- these tiles and then those
pub swept-then : (first second both : ℕ → Bool) (p q r : Tiled) → ((v : ℕ) → v < length p.tiles → both v ≡ first v || second v) → Swept first p q → Swept second q r → Swept both p r
swept-then first second both p q r e s t = record {
  kind = t.kind ∙ s.kind;
  maxval = t.maxval ∙ s.maxval;
  tiling = t.tiling ∙ s.tiling;
  count = t.count ∙ s.count;
  each = λ v lt.
      t.each v (let size = s.count in omega arith)
      ∙ ap (λ (o : Option (List ℕ)). cond (second v) no_cells o) (s.each v lt)
      ∙ cond_twice (first v) (second v) (both v) (tile_cells p.tiles v) (e v lt);
}

-- one tile
pub swept-one : (p : Tiled) (i : ℕ) → Swept (λ v. nat_eq v i) p (record p { tiles = set p.tiles i None })
swept-one p i = record {
  kind = refl;
  maxval = refl;
  tiling = refl;
  count = length-set p.tiles i None;
  each = λ v lt. elim (cases_eq v i) [
    | inl here ↦
        ap (λ (k : ℕ). get_or (set p.tiles i None) k None) here ∙ get_or-set_same p.tiles i None None (omega arith) ∙ ap (λ (b : Bool). cond b None (tile_cells p.tiles v)) (sym (eq-eqb v i here))
    | inr other ↦
        get_or-set_other p.tiles i v None None other ∙ ap (λ (b : Bool). cond b None (tile_cells p.tiles v)) (sym (ne_eqb v i other))
  ];
}

-- ---- the places of all steps

pub all-same : (g : Tiling) (gone told : ℕ → ℕ → Bool) (old new : List StepPlane) → ((k v : ℕ) → k < length old → v < length (shown g (place_at old k)).tiles → gone k v ≡ told k v) → SweptAll g gone old new → SweptAll g told old new
all-same g gone told old new same s = record {
  count = s.count;
  forms = s.forms;
  each = λ k lt. swept-same (gone k) (told k) (shown g (place_at old k)) (shown g (place_at new k)) (λ v v-lt. same k v lt v-lt) (s.each k lt);
}

pub all-then : (g : Tiling) (first second both : ℕ → ℕ → Bool) (old mid new : List StepPlane) → ((k v : ℕ) → both k v ≡ first k v || second k v) → SweptAll g first old mid → SweptAll g second mid new → SweptAll g both old new
all-then g first second both old mid new e s t = record {
  count = t.count ∙ s.count;
  forms = λ k. t.forms k ∙ s.forms k;
  each = λ k lt. swept-then (first k) (second k) (both k) (shown g (place_at old k)) (shown g (place_at mid k)) (shown g (place_at new k)) (λ v v-lt. e k v) (s.each k lt) (t.each k (let size = s.count in omega arith));
}
