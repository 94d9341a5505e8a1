-- Samples and the top of their type.
use Rattle.std.proofs.Common.{◌≡◌, ℕ, ◌≤◌, ◌<◌, List, length, get_or, false, sym, arith}
use Rattle.std.specs.Prelude.{nat_lt}
use mir.Val.{Fits}
use Rattle.std.specs.Int.{w16, w8}
use Rattle.std.specs.List.{list_any}
use Rattle.std.proofs.lemmas.Bool.{le-ltb}
use Rattle.std.proofs.lemmas.List.Elements.{All-from_get_or}
use Rattle.std.proofs.lemmas.List.Folds.{list_any_none}

-- no sample is over it
none_over : (top most : ℕ) (xs : List ℕ) → ((i : ℕ) → get_or xs i 0 ≤ top) → top ≤ most → false ≡ list_any (λ s. nat_lt most s) xs
none_over top most xs fit over =
    sym (list_any_none (λ s. nat_lt most s) xs (All-from_get_or (λ s. nat_lt most s ≡ false) xs 0 (λ i lt. let small : get_or xs i 0 ≤ top = fit i in le-ltb most (get_or xs i 0) (omega (arith, small, over)))))

pub none_over_8 : (most : ℕ) (xs : List ℕ) → ((i : ℕ) → Fits w8 (get_or xs i 0)) → 255 ≤ most → false ≡ list_any (λ s. nat_lt most s) xs
none_over_8 most xs fit over = none_over 255 most xs (λ i. let small : get_or xs i 0 < 256 = (fit i).fits in omega (arith, small)) over

pub none_over_16 : (most : ℕ) (xs : List ℕ) → ((i : ℕ) → Fits w16 (get_or xs i 0)) → 65535 ≤ most → false ≡ list_any (λ s. nat_lt most s) xs
none_over_16 most xs fit over = none_over 65535 most xs (λ i. let small : get_or xs i 0 < 65536 = (fit i).fits in omega (arith, small)) over
