-- What is written is a file of the image.
use Rattle.std.proofs.Common.{◌≡◌, ℕ, zero, suc, ◌^◌, ◌<◌, Bool, true, ◌&&◌, List, [], ◌∷◌, IsTrue, refl, sym, subst, arith, rules, ◌≤◌}
use Rattle.std.specs.List.{AllByRecursion, flat_map}
use Rattle.std.specs.Fmt.{decimal}
use Rattle.std.proofs.lemmas.Bool.{le-ltb, lt-ltb, and_parts}
use Rattle.std.proofs.lemmas.List.Concat.{flat_map-cons}
use Rattle.std.proofs.lemmas.Str.Parse.{IsNumeralModel, numerals_by_fold}
use Rattle.std.proofs.lemmas.Fmt.{digits_decimal, digits_value-decimal, decimal_nonempty}
use Rattle.mw_model.specs.declared.shapes.Kind.{Kind}
use Rattle.mw_model.specs.declared.shapes.Kind.TheVariants as kinds
use Rattle.mw_model.specs.Pictures.{Picture, FitsKind, IsImage}
use Rattle.mw_model.specs.declared.formats.Format.TheVariants.{PlainBits, PlainGrey, RawGrey, RawBits}
use Rattle.mw_model.specs.NetpbmGrammar.{is_white, is_digit, SizeFits, MaxvalFits, nothing, IsNumber, value_after, IsField, IsPairs, IsLevels, IsFile, picture_under, kind_of}
use Rattle.mw_model.specs.NetpbmWriting.{two_bytes, grey_raster, grey_header, set_header, packed_rows, text_of}
use Rattle.mw_netpbm.proofs.Packing.{rows_packed}
use Rattle.mw_netpbm_plain.proofs.Begun.{SetMaxval, begun_maxval}
use Rattle.std.proofs.lemmas.List.Elements.{All-from_recursion, recursion_from_All}
use Rattle.mw_netpbm_plain.specs.declared.fault.ReadFault.{ReadFault}
use Rattle.std.specs.Prelude.{IfOk, Result, Ok, Err}
use Rattle.mw_model.specs.declared.formats.Format.{Format}

abbrev all_digits : List ℕ → Bool
all_digits [] = true
all_digits (d ∷ ds) = is_digit d && all_digits ds

own : IsNumeralModel (λ ds. all_digits ds ≡ true) (value_after 0)
own = numerals_by_fold _ (search rules) value_after (search rules)

digits_each : (ds : List ℕ) → all_digits ds ≡ true → AllByRecursion (λ d. IsTrue (is_digit d)) ds
digits_each [] e = tt
digits_each (d ∷ ds) e = let h = and_parts (is_digit d) (all_digits ds) e in (h.0, digits_each ds h.1)

decimal_number : (n : ℕ) → n < 2 ^ 64 → IsNumber (decimal n) n
decimal_number n lt = record { some = decimal_nonempty n lt; each = digits_each (decimal n) (digits_decimal own n lt); value = digits_value-decimal own n lt }

field_of : (b n : ℕ) → is_white b ≡ true → n < 2 ^ 64 → IsField (b ∷ decimal n) n
field_of b n w lt = record { first = b; blank = []; digits = decimal n; parts = refl; is_white = w; is_blank = nothing; is_number = decimal_number n lt }

pairs_of : (ss : List ℕ) → IsPairs (flat_map two_bytes ss) ss
pairs_of [] = tt
pairs_of (s ∷ ss) = subst (λ (b : List ℕ). IsPairs b (s ∷ ss)) (sym (flat_map-cons two_bytes s ss)) (omega arith, pairs_of ss)

levels_of : (m : ℕ) (ss : List ℕ) → IsLevels m (grey_raster m ss) ss
levels_of m ss = ((λ lt. rw (lt-ltb m 256 lt) refl), (λ le. rw (le-ltb _ _ le) (pairs_of ss)))

-- the samples of an image are within its maxval
bounded : (i : Picture) → IsImage i → AllByRecursion (λ s. s ≤ i.maxval) i.samples
bounded i is = recursion_from_All (λ s. s ≤ i.maxval) i.samples is.picture.bounded

-- the sides of an image are within the limits of a file
sizes_fit : (i : Picture) → IsImage i → SizeFits i.width i.height
sizes_fit i is = record {
  some_column = omega (arith, is.width.0);
  some_row = omega (arith, is.height.0);
  narrow = is.width.1;
  low = is.height.1;
  area = is.area;
}

grey_written : (w h m : ℕ) (ss : List ℕ) → (let i : Picture = record { kind = kinds.Grey; width = w; height = h; maxval = m; samples = ss } in IsImage i → IsFile (text_of i) i)
grey_written wide high m ss is =
    let w : wide < 2 ^ 64 = omega (arith, is.width.1) in
    let h : high < 2 ^ 64 = omega (arith, is.height.1) in
    let top : m < 2 ^ 64 = omega (arith, is.maxval.1) in
    record {
      header = record { format = RawGrey; width = wide; height = high; maxval = m };
      raster = grey_raster m ss;
      begins = record {
        text = grey_header wide high m;
        parts = refl;
        is_header = record {
          width = 10 ∷ decimal wide;
          height = 32 ∷ decimal high;
          maxval = 10 ∷ decimal m;
          last = 10;
          parts = refl;
          is_width = field_of 10 wide refl w;
          is_height = field_of 32 high refl h;
          is_maxval = field_of 10 m refl top;
          is_last = refl;
        };
      };
      size_fits = sizes_fit (record { kind = kinds.Grey; width = wide; height = high; maxval = m; samples = ss }) is;
      maxval_fits = record { some = omega (arith, is.maxval.0); small = is.maxval.1 };
      is_raster = record { count = is.picture.size; spelled = levels_of m ss };
      within = bounded (record { kind = kinds.Grey; width = wide; height = high; maxval = m; samples = ss }) is;
      shows = refl;
    }

set_written : (w h : ℕ) (ss : List ℕ) → (let i : Picture = record { kind = kinds.Bit; width = w; height = h; maxval = 1; samples = ss } in IsImage i → IsFile (text_of i) i)
set_written wide high ss is =
    let w : wide < 2 ^ 64 = omega (arith, is.width.1) in
    let h : high < 2 ^ 64 = omega (arith, is.height.1) in
    let within = bounded (record { kind = kinds.Bit; width = wide; height = high; maxval = 1; samples = ss }) is in
    record {
      header = record { format = RawBits; width = wide; height = high; maxval = 1 };
      raster = packed_rows wide high ss;
      begins = record {
        text = set_header wide high;
        parts = refl;
        is_header = record {
          width = 10 ∷ decimal wide;
          height = 32 ∷ decimal high;
          maxval = [];
          last = 10;
          parts = refl;
          is_width = field_of 10 wide refl w;
          is_height = field_of 32 high refl h;
          is_maxval = (refl, refl);
          is_last = refl;
        };
      };
      size_fits = sizes_fit (record { kind = kinds.Bit; width = wide; height = high; maxval = 1; samples = ss }) is;
      maxval_fits = record { some = omega arith; small = omega arith };
      is_raster = record { count = is.picture.size; spelled = rows_packed wide high ss is.picture.size within };
      within = within;
      shows = refl;
    }

written_as : (kind : Kind) (w h m : ℕ) (ss : List ℕ) → (let i : Picture = record { kind = kind; width = w; height = h; maxval = m; samples = ss } in IsImage i → IsFile (text_of i) i)
written_as kinds.Grey w h m ss is = grey_written w h m ss is
written_as kinds.Bit w h zero ss is = absurd (omega (arith, is.maxval))
written_as kinds.Bit w h (suc zero) ss is = set_written w h ss is
written_as kinds.Bit w h (suc (suc m)) ss is = absurd (omega (arith, is.maxval))

pub written : (i : Picture) → IsImage i → IsFile (text_of i) i
written i is = written_as i.kind i.width i.height i.maxval i.samples is

-- ---- what a file shows is within the limits

kind_maxval : (format : Format) (m : ℕ) → MaxvalFits m → SetMaxval format m → FitsKind (kind_of format) m
kind_maxval PlainBits m fits h = h
kind_maxval RawBits m fits h = h
kind_maxval PlainGrey m fits h = (omega (arith, fits.some), fits.small)
kind_maxval RawGrey m fits h = (omega (arith, fits.some), fits.small)

pub writable : (bytes : List ℕ) (i : Picture) → IsFile bytes i → IsImage i
writable bytes i is =
    let h = is.header in
    let made : IsImage (picture_under h i.samples) = record {
      picture = record { size = is.is_raster.count; bounded = All-from_recursion (λ s. s ≤ h.maxval) i.samples is.within };
      maxval = kind_maxval h.format h.maxval is.maxval_fits (begun_maxval bytes is.raster h is.begins);
      width = (omega (arith, is.size_fits.some_column), is.size_fits.narrow);
      height = (omega (arith, is.size_fits.some_row), is.size_fits.low);
      area = is.size_fits.area;
    } in
    subst IsImage (sym is.shows) made

pub writable_ok : (bytes : List ℕ) (r : Result Picture ReadFault) → IfOk r (λ i. IsFile bytes i) → IfOk r (λ i. IsImage i)
writable_ok bytes (Ok i) h = writable bytes i h
writable_ok bytes (Err e) h = tt
