-- What is found of a marker in a run.
use Rattle.std.proofs.Common.{◌≡◌, ℕ, ◌*◌, ◌<◌, ◌≤◌, List, length, take, sym, arith, ◌∙◌, length-take}
use Rattle.mw_model.specs.Pictures.{Picture, sample}
use Rattle.mw_pixel.specs.mw_pixel_words.Packed.{bit_of, stride_of}
use Rattle.mw_pixel.proofs.mw_pixel_words.Bits.{bit_of_part}
use Rattle.mw_geodesic_runs.specs.declared.runs.Run.{Run}
use Rattle.mw_geodesic_kept.specs.Keeping.{HasPixelOf}

part_bit : (words : List ℕ) (m x : ℕ) → x < 64 * m → bit_of (take m words) x ≡ bit_of words x
part_bit words m x lt = bit_of_part words 0 m x x lt (omega arith)

pub pixel_met : (f : Picture) (r : Run) (words : List ℕ) (m next : ℕ) → m ≡ stride_of r.end → m ≤ length words → r.end ≤ f.width → ((x : ℕ) → x < f.width → bit_of words x ≡ sample f x r.row) → r.first ≤ next
    → (next < 64 * length (take m words) → bit_of (take m words) next ≡ 1) → next < r.end → HasPixelOf f r
pixel_met f r words m next m_is fits across samples from found lt =
    let size : length (take m words) ≡ m = omega (arith, length-take m words) in
    let inside : next < 64 * m = omega arith in
    record { at = next; from = from; to = lt; is = sym (samples next (omega arith)) ∙ sym (part_bit words m next inside) ∙ found (omega arith) }

pub pixel_missed : (f : Picture) (r : Run) (words : List ℕ) (m next : ℕ) → m ≡ stride_of r.end → r.end ≤ f.width → ((x : ℕ) → x < f.width → bit_of words x ≡ sample f x r.row) → ((x : ℕ) → r.first ≤ x → x < next → bit_of (take m words) x ≡ 0)
    → r.end ≤ next → HasPixelOf f r → ⊥
pixel_missed f r words m next m_is across samples none past pixel =
    let to = pixel.to in
    let one = pixel.is in
    let zero_there = none pixel.at pixel.from (omega arith) in
    let same = part_bit words m pixel.at (omega arith) in
    let shown = samples pixel.at (omega arith) in
    absurd (omega arith)
