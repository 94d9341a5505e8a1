-- What is read fits its header.
use Rattle.std.proofs.Common.{◌≡◌, ℕ, ◌*◌, ◌≤◌, List, Ok}
use Rattle.std.proofs.lemmas.List.Elements.{All-from_recursion}
use Rattle.mw_netpbm.specs.Rasters.{grey8_at, grey16_at, bits_in_raster}
use Rattle.mw_netpbm_plain.specs.Whole.{IsFit}
use Rattle.mw_netpbm.proofs.Sides.{grey8_ok, grey16_ok, bits_ok}

pub bits_fit : (width height : ℕ) (bytes xs : List ℕ) → bits_in_raster width height bytes ≡ Ok xs → IsFit (height * width) 1 xs
bits_fit width height bytes xs e =
    let all = bits_ok width height bytes xs e in
    (all.2, All-from_recursion (λ s. s ≤ 1) xs all.3)

pub grey8_fit : (count m : ℕ) (bytes xs : List ℕ) → grey8_at count m bytes ≡ Ok xs → IsFit count m xs
grey8_fit count m bytes xs e = let all = grey8_ok count m bytes xs e in (all.1, All-from_recursion (λ s. s ≤ m) xs all.2)

pub grey16_fit : (count m : ℕ) (bytes xs : List ℕ) → grey16_at count m bytes ≡ Ok xs → IsFit count m xs
grey16_fit count m bytes xs e = let all = grey16_ok count m bytes xs e in (all.2, All-from_recursion (λ s. s ≤ m) xs all.3)
