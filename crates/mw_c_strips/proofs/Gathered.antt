-- Planes that are put together strip by strip.
use Rattle.std.proofs.Common.{◌≡◌, ℕ, ◌+◌, ◌-◌, ◌*◌, ◌/◌, ◌%◌, ◌<◌, ◌≤◌, List, [], ◌++◌, map, length, get_or, take, drop, ap, sym, arith, ◌∙◌, inl, inr, length-take}
use Rattle.std.specs.Prelude.{slice_range}
use Rattle.std.specs.Int.{bit_at}
use Rattle.std.proofs.lemmas.Bool.{cases_lt}
use Rattle.std.proofs.lemmas.List.{map-append, length-append, get_or_append_left, get_or-append_right}
use Rattle.std.proofs.Math.Seq.{take-add}
use Rattle.mw_model.specs.declared.offsets.Rect.{Rect}
use Rattle.mw_model.specs.declared.shapes.Kind.{Kind}
use Rattle.mw_model.specs.declared.shapes.Kind.TheVariants as kind
use Rattle.mw_model.specs.Pictures.{Picture, picture, sample}
use Rattle.mw_model.specs.Tasks.{cells_in}
use Rattle.mw_pixel.specs.mw_pixel_words.Packed.{bit_of, stride_of, samples_of, IsPacked}
use Rattle.mw_pixel.proofs.mw_pixel_words.Bits.{bit_of_its_word, bit_of_word, length-samples_of, rows_fit, sample_is_bit, samples_are_bits}
use Rattle.mw_c_layers.specs.Parts.{IsStrip}
use Rattle.mw_c_lent.proofs.Rows.{rows_are}

-- the first rows, and those of the strip behind them
pub taken_more : (f : Picture) (r : Rect) (done w : ℕ) (part : List ℕ) → IsStrip r f → length f.samples ≡ f.height * f.width → r.y ≡ done → w ≡ f.width → part ≡ cells_in r (sample f)
    → take (done * w) f.samples ++ part ≡ take ((done + r.height) * w) f.samples
taken_more f r done w part strip size y-is w-is is =
    ap (λ (ns : List ℕ). take (done * w) f.samples ++ ns) (is ∙ sym (rows_are f r strip size) ∙ there)
    ∙ sym (take-add (done * w) (r.height * w) f.samples)
    ∙ ap (λ (n : ℕ). take n f.samples) (split done r.height w)
  where
    count : (a b : ℕ) → a + b - a ≡ b
    count a b = omega arith

    split : (a b n : ℕ) → a * n + b * n ≡ (a + b) * n
    split a b n = omega arith

    m-is : r.width ≡ w
    m-is = strip.wide ∙ sym w-is

    there : slice_range f.samples (r.y * r.width) (r.y * r.width + r.height * r.width) ≡ take (r.height * w) (drop (done * w) f.samples)
    there =
        ap (λ (n : ℕ). take n (drop (r.y * r.width) f.samples)) (count (r.y * r.width) (r.height * r.width))
        ∙ ap (λ (m : ℕ). take (r.height * m) (drop (r.y * m) f.samples)) m-is
        ∙ ap (λ (y : ℕ). take (r.height * w) (drop (y * w) f.samples)) y-is

-- samples with these levels, and those of the strip behind them
pub levels_more : {A : Type 0} (level : A → ℕ) (p : Picture) (r : Rect) (done w : ℕ) (old new items : List A) → items ≡ old ++ new → map level old ≡ take (done * w) p.samples
    → IsStrip r p → length p.samples ≡ p.height * p.width → r.y ≡ done → w ≡ p.width → map level new ≡ cells_in r (sample p) → map level items ≡ take ((done + r.height) * w) p.samples
levels_more level p r done w old new items is before strip size y-is w-is part =
    ap (map level) is ∙ map-append level old new ∙ ap (λ (ns : List ℕ). ns ++ map level new) before ∙ taken_more p r done w (map level new) strip size y-is w-is part

-- no rows at first
pub none_taken : (w : ℕ) (xs : List ℕ) → [] ≡ take (0 * w) xs
none_taken w xs = let none : 0 ≡ 0 * w = omega arith in ap (λ (n : ℕ). take n xs) none

-- ---- words of rows behind others

bit_front : (a b : List ℕ) (q : ℕ) → q < 64 * length a → bit_of (a ++ b) q ≡ bit_of a q
bit_front a b q lt =
    bit_of_its_word (a ++ b) q ∙ ap (λ (t : ℕ). bit_at t (q % 64)) (get_or_append_left a b 0 (q / 64) (omega arith)) ∙ sym (bit_of_its_word a q)

bit_back : (a b : List ℕ) (n q : ℕ) → length a ≡ n → bit_of (a ++ b) (64 * n + q) ≡ bit_of b q
bit_back a b n q len =
    let back : n + q / 64 - n ≡ q / 64 = omega arith in
    bit_of_word (a ++ b) (n + q / 64) (q % 64) (64 * n + q) (omega arith) (omega arith)
    ∙ ap (λ (t : ℕ). bit_at t (q % 64)) (get_or-append_right a b n (n + q / 64) 0 len (omega arith) ∙ ap (λ (t : ℕ). get_or b t 0) back)
    ∙ sym (bit_of_its_word b q)

split_rows : (a b n : ℕ) → a * n + b * n ≡ (a + b) * n
split_rows a b n = omega arith

-- a place of a row of the second
behind : (j y s x : ℕ) → y ≤ j → j * (64 * s) + x ≡ 64 * (y * s) + ((j - y) * (64 * s) + x)
behind j y s x le =
    let j-is : j ≡ y + (j - y) = omega arith in ap (λ (t : ℕ). t * (64 * s) + x) j-is ∙ spread y (j - y) s x
  where
    spread : (y i s x : ℕ) → (y + i) * (64 * s) + x ≡ 64 * (y * s) + (i * (64 * s) + x)
    spread y i s x = omega arith

pub packed_none : (w : ℕ) → IsPacked w 0 []
packed_none w = record { size = omega arith; clean = λ x y row_less past less. absurd (omega arith) }

pub packed_more : (w y h : ℕ) (a b : List ℕ) → IsPacked w y a → IsPacked w h b → IsPacked w (y + h) (a ++ b)
packed_more w y h a b first second =
    let s = stride_of w in
    record {
      size = omega (arith, length-append a b, first.size, second.size, split_rows y h s);
      clean = λ x j row_less past less. elim (cases_lt j y) [
        | inl above ↦ bit_front a b (j * (64 * s) + x) (omega (arith, rows_fit j y s above, first.size)) ∙ first.clean x j above past less
        | inr below ↦
            ap (bit_of (a ++ b)) (behind j y s x below) ∙ bit_back a b (y * s) ((j - y) * (64 * s) + x) first.size ∙ second.clean x (j - y) (omega arith) past less
      ];
    }

pub samples_none : (w : ℕ) (xs : List ℕ) → samples_of w 0 [] ≡ take (0 * w) xs
samples_none w xs =
    sym (samples_are_bits w 0 [] (take (0 * w) xs) (omega (arith, length-take (0 * w) xs)) (λ x y lt row_less. absurd (omega arith)))

pub samples_more : (w y h : ℕ) (a b : List ℕ) → IsPacked w y a → samples_of w (y + h) (a ++ b) ≡ samples_of w y a ++ samples_of w h b
samples_more w y h a b first =
    let s = stride_of w in
    let p = samples_of w y a in
    let q = samples_of w h b in
    sym (samples_are_bits w (y + h) (a ++ b) (p ++ q) (omega (arith, length-append p q, length-samples_of w y a, length-samples_of w h b, split_rows y h w))
    (λ x j lt row_less. elim (cases_lt j y) [
      | inl above ↦
          get_or_append_left p q 0 (j * w + x) (omega (arith, length-samples_of w y a, rows_fit j y w above))
          ∙ sample_is_bit w y a x j lt above
          ∙ sym (bit_front a b (j * (64 * s) + x) (omega (arith, rows_fit j y s above, first.size)))
      | inr below ↦
          let i = j - y in
          let j-is : j ≡ y + i = omega arith in
          let place : j * w + x ≡ y * w + (i * w + x) = ap (λ (t : ℕ). t * w + x) j-is ∙ apart y i w x in
          ap (λ (t : ℕ). get_or (p ++ q) t 0) place
          ∙ get_or-append_right p q (y * w) (y * w + (i * w + x)) 0 (length-samples_of w y a) (omega arith)
          ∙ ap (λ (t : ℕ). get_or q t 0) (back (y * w) (i * w + x))
          ∙ sample_is_bit w h b x i lt (omega arith)
          ∙ sym (ap (bit_of (a ++ b)) (behind j y s x below) ∙ bit_back a b (y * s) (i * (64 * s) + x) first.size)
    ]))
  where
    apart : (y i w x : ℕ) → (y + i) * w + x ≡ y * w + (i * w + x)
    apart y i w x = omega arith

    back : (a b : ℕ) → a + b - a ≡ b
    back a b = omega arith

-- ---- the set that words are

pub set_is : (p : Picture) (w h : ℕ) (cells : List ℕ) → p.kind ≡ kind.Bit → p.maxval ≡ 1 → w ≡ p.width → h ≡ p.height → cells ≡ p.samples → picture kind.Bit w h 1 cells ≡ p
set_is p w h cells kinds top wide high same =
    ap (λ (k : Kind). picture k w h 1 cells) (sym kinds)
    ∙ ap (λ (t : ℕ). picture p.kind w h t cells) (sym top)
    ∙ ap (λ (m : ℕ). picture p.kind m h p.maxval cells) wide
    ∙ ap (λ (n : ℕ). picture p.kind p.width n p.maxval cells) high
    ∙ ap (λ (ns : List ℕ). picture p.kind p.width p.height p.maxval ns) same
