-- Where an offset leads from.
use Rattle.std.proofs.Common.{◌≡◌, ℕ, suc, ℤ, pos, negsuc, ◌+ℤ◌, ◌<◌, List, length, get_or, arith}
use Rattle.std.proofs.lemmas.Int.{ints}
use Rattle.mw_model.specs.declared.offsets.Offset.{Offset}
use Rattle.mw_geodesic.specs.Neighbours.{Joins, ElementCovers, IsSymmetric}
use Rattle.mw_geodesic.proofs.Raised.{covers_at}

-- two coordinates that a number leads between
record Between (d : ℤ) : Type 0 where
  from : ℕ
  to : ℕ
  is : pos from +ℤ d ≡ pos to

between : (d : ℤ) → Between d
between (pos k) = record { from = 0; to = k; is = omega (arith, ints) }
between (negsuc k) = record { from = suc k; to = 0; is = omega (arith, ints) }

-- An element that does not cover the way back of one of its offsets is not symmetric.
pub one_way : (e : List Offset) (i : ℕ) (d : Offset) → i < length e → ((x y u v : ℕ) → Joins (get_or e i d) x y u v → ElementCovers e u v x y → ⊥) → IsSymmetric e → ⊥
one_way e i d lt nowhere turns =
    let across = between (get_or e i d).dx in
    let down = between (get_or e i d).dy in
    let joins : Joins (get_or e i d) across.from down.from across.to down.to = record { columns = across.is; rows = down.is } in
    nowhere across.from down.from across.to down.to joins (turns across.from down.from across.to down.to (covers_at e i d across.from down.from across.to down.to lt joins))
