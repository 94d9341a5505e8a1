-- Rows of places.
use Rattle.std.proofs.Common.{◌≡◌, ℕ, ◌≤◌, Result, Ok, Err, OnErr, subst, sym, ◌∙◌, arith}
use Rattle.mw_store.specs.RowRoom.{FillsRows, HasRow}

-- more places are made
pub row-more : (n c d : ℕ) → HasRow n c → c ≤ d → HasRow n d
row-more n c d row more = omega (arith, row, more)

-- where a column that has whole rows finds no place for one more, the entries fill their rows
pub rows-full : (len n m places : ℕ) → len ≡ n → n ≡ m → HasRow n places → (HasRow len places → FillsRows len) → FillsRows m
rows-full len n m places same shown row told = subst FillsRows (same ∙ shown) (told (subst (λ k. HasRow k places) (sym same) row))

-- a clause on an error
pub on_err : {X E A : Type 0} (r : Result X E) → A → OnErr r A
on_err (Ok x) a = tt
on_err (Err e) a = a
