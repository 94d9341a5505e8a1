-- Cells that are written one run after another.
use Rattle.std.proofs.Common.{◌≡◌, ℕ, ◌+◌, ◌-◌, ◌<◌, ◌≤◌, List, length, drop, Option, slice_get, refl, ap, sym, arith, ◌∙◌, inl, inr}
use Rattle.std.proofs.lemmas.Bool.{cases_lt}
use Rattle.mw_model.proofs.mw_facts.Elements.{slice_get-put_below, slice_get-put_within}
use Rattle.mw_model.proofs.mw_facts.Parts.{length-put_mid}
use Rattle.mw_pixel_words.specs.Runs.{put_at, HasFront}

pub front_more : {A : Type 0} (value : ℕ → Option A) (n m total : ℕ) (cells out row : List A) → out ≡ put_at n row cells → length row ≡ m → n + m ≤ total → ((i : ℕ) → i < m → slice_get row i ≡ value (n + i))
    → HasFront value n total cells → HasFront value (n + m) total out
front_more value n m total cells out row out-is len room row-is before =
    let size = before.size in
    let here : n ≤ length cells = omega arith in
    record {
      size = ap length out-is ∙ length-put_mid n (length row) cells row refl (omega arith) ∙ size;
      same = λ k lt.
          ap (λ (t : List _). slice_get t k) out-is
          ∙ elim (cases_lt k n) [
            | inl earlier ↦ slice_get-put_below n row cells (drop (length row) (drop n cells)) k here earlier ∙ before.same k earlier
            | inr from ↦
                let k-is : n + (k - n) ≡ k = omega arith in
                ap (slice_get (put_at n row cells)) (sym k-is)
                ∙ slice_get-put_within n row cells (drop (length row) (drop n cells)) (k - n) here (omega arith)
                ∙ row-is (k - n) (omega arith)
                ∙ ap value k-is
          ];
    }
