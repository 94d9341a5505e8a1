-- An element holds its origin where the test says so.
use Rattle.std.proofs.Common.{◌≡◌, suc, Bool, true, false, List, [], ◌∷◌, pos, sym, arith, ◌∙◌, inl, inr}
use Rattle.std.specs.Prelude.{◌||◌, ◌&&◌}
use Rattle.std.specs.Ordering.{int_eq}
use Rattle.std.proofs.lemmas.Bool.Decides.{Decides-and, Decides-int_eq}
use Rattle.std.proofs.lemmas.Bool.{cases_Bool}
use Rattle.mw_model.specs.declared.offsets.Offset.{Offset}
use Rattle.mw_model.specs.Elements.{holds_origin}
use Rattle.mw_model.specs.Laws.{HoldsOrigin}
use Rattle.mw_model.proofs.Covers.{offset, offset-same}

abbrev at_origin : Offset → Bool
at_origin b = int_eq b.dx (pos 0) && int_eq b.dy (pos 0)

is_origin : (b : Offset) → at_origin b ≡ true → b ≡ offset (pos 0) (pos 0)
is_origin b e =
    let both = (Decides-and (int_eq b.dx (pos 0)) (int_eq b.dy (pos 0)) (Decides-int_eq b.dx (pos 0)) (Decides-int_eq b.dy (pos 0))).0 e in
    offset-same b.dx b.dy (pos 0) (pos 0) both.0 both.1

or_false_left : (x y : Bool) → x ≡ false → (x || y) ≡ true → y ≡ true
or_false_left true y off e = absurd cc
or_false_left false y off e = e

pub holds_origin-HoldsOrigin : (bs : List Offset) → holds_origin bs ≡ true → HoldsOrigin bs
holds_origin-HoldsOrigin [] e = absurd cc
holds_origin-HoldsOrigin (b ∷ bs) e = elim (cases_Bool (at_origin b)) [
  | inl at_it ↦ (0, omega arith, is_origin b at_it)
  | inr elsewhere ↦ let rest = holds_origin-HoldsOrigin bs (or_false_left (at_origin b) (holds_origin bs) elsewhere e) in (suc rest.0, (let lt = rest.1 in omega arith), rest.2)
]

-- the test that a branch has made
pub origin_held : (bs : List Offset) (t : Bool) → t ≡ holds_origin bs → t ≡ true → HoldsOrigin bs
origin_held bs t is passed = holds_origin-HoldsOrigin bs (sym is ∙ passed)
