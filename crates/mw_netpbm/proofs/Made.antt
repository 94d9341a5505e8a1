-- Images made of what is read.
use Rattle.std.proofs.Common.{◌≡◌, ℕ, List, map, Result, Ok, Err, sym, ap, subst, ◌∙◌}
use Rattle.std.specs.Prelude.{IfOk}
use Rattle.mw_netpbm_plain.specs.declared.fault.ReadFault.{ReadFault}
use Rattle.mw_netpbm_plain.specs.Reading.{Fails, result_viewed, Gives}
use Rattle.mw_netpbm_plain.specs.Whole.{IsFit, raster_from}
use Rattle.mw_netpbm.specs.Whole.{set_from}
use Rattle.mw_model.specs.declared.formats.Format.TheVariants.{RawBits}
use Rattle.mw_model.specs.NetpbmGrammar.{picture_under}
use Rattle.mw_model.specs.Pictures.{Picture}
use Rattle.mw_model.specs.Rasters.{Raster, raster}
use Rattle.mw_netpbm_plain.specs.mw_pixel.Images.{set_of}
pub use Rattle.mw_netpbm_plain.proofs.Faults.{Fails_from}
use Rattle.mw_netpbm_plain.proofs.Faults.{Fails_then, Fails_back, Fails_same, map_same}
use Rattle.mw_netpbm_plain.proofs.Sides.{ok_is}

abbrev pub read_ok : List ℕ → Result (List ℕ) ReadFault
read_ok xs = Ok xs

-- numbers that are their own levels
pub Gives_levels : {X : Type 0} (view : X → List ℕ) (found : Result X ReadFault) (read : Result (List ℕ) ReadFault) → Gives (λ v. map (λ x. x) (view v)) found read → Gives view found read
Gives_levels view (Ok v) read g = g ∙ ap (λ (xs : List ℕ). Ok xs) (map_same (view v))
Gives_levels view (Err e) read g = g

pub fit_found : {X : Type 0} (view : X → List ℕ) (found : Result X ReadFault) (read : Result (List ℕ) ReadFault) (count m : ℕ) → Gives view found read → ((xs : List ℕ) → read ≡ Ok xs → IsFit count m xs)
    → IfOk found (λ v. IsFit count m (view v))
fit_found view (Ok v) read count m g fit = fit (view v) g
fit_found view (Err e) read count m g fit = tt

pub seen_fit : {X : Type 0} (view : X → List ℕ) (found : Result X ReadFault) (read : Result (List ℕ) ReadFault) (count m : ℕ) → result_viewed view found ≡ read → ((xs : List ℕ) → read ≡ Ok xs → IsFit count m xs)
    → IfOk found (λ v. IsFit count m (view v))
seen_fit view (Ok v) read count m e fit = fit (view v) (sym e)
seen_fit view (Err d) read count m e fit = tt

-- the image of a set is given as its raster was found
pub set_made : (width height : ℕ) (found : Result (Raster ℕ) ReadFault) (read : Result (List ℕ) ReadFault) (made : Result Picture ReadFault) → Gives (λ f. f) found (raster_from width height read) → Gives (λ i. i) made (result_viewed set_of found)
    → Gives (λ i. i) made (set_from width height read)
set_made width height (Ok f) (Ok xs) made g k =
    let image : Raster ℕ → Result Picture ReadFault = λ p. Ok (set_of p) in
    subst (λ (r : Result Picture ReadFault). Gives (λ i. i) made r) (ap image (sym (ok_is (raster width height xs) f g))) k
set_made width height (Ok f) (Err d) made g k = absurd cc
set_made width height (Err d) read (Ok i) g k = absurd cc
set_made width height (Err d) read (Err e) g k =
    subst (λ (x : ReadFault). Fails x (set_from width height read)) (Fails_same Picture e d k)
    (Fails_then d read (λ xs. picture_under (record { format = RawBits; width = width; height = height; maxval = 1 }) xs) (Fails_back d read (raster width height) g))
