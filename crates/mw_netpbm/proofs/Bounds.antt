-- No sample is over what its bytes can hold.
use Rattle.std.proofs.Common.{ℕ, suc, ◌*◌, ◌+◌, ◌≤◌, List, [], ◌∷◌, fold, max, get_or, arith, w8, Fits}
use Rattle.mw_netpbm.specs.Rasters.{two_byte_samples}

pub fold-max_bytes : (a : ℕ) (bytes : List ℕ) → a ≤ 255 → ((i : ℕ) → Fits w8 (get_or bytes i 0)) → fold max a bytes ≤ 255
fold-max_bytes a [] small fits = small
fold-max_bytes a (b ∷ bs) small fits = fold-max_bytes (max a b) bs (omega (arith, small, (fits 0).fits)) (λ i. fits (suc i))

pub fold-max_two_bytes : (a : ℕ) (bytes : List ℕ) → a ≤ 65535 → ((i : ℕ) → Fits w8 (get_or bytes i 0)) → fold max a (two_byte_samples bytes) ≤ 65535
unfolding two_byte_samples
fold-max_two_bytes a [] small fits = small
fold-max_two_bytes a (b ∷ []) small fits = small
fold-max_two_bytes a (b ∷ c ∷ bs) small fits = fold-max_two_bytes (max a (b * 256 + c)) bs (omega (arith, small, (fits 0).fits, (fits 1).fits)) (λ i. fits (suc (suc i)))
