-- Merging a part of a row into a part of another.
use Rattle.std.proofs.Common.{◌≡◌, ℕ, ◌+◌, ◌-◌, ◌<◌, ◌≤◌, List, length, take, drop, get_or, min, Some, None, slice_get, ap, sym, arith, ◌∙◌, inl, inr, length-take, length-drop}
use Rattle.std.proofs.Math.Nat.{add-sub_of_le, add_comm}
use Rattle.std.proofs.lemmas.Bool.{cases_lt}
use Rattle.std.proofs.lemmas.Option.{slice_get-get_or, slice_get_past}
use Rattle.std.proofs.lemmas.List.{get_or-take, get_or-drop}
use Rattle.std.proofs.lemmas.Simd.{get_or-zip2, length-zip2}
use Rattle.mw_model.proofs.mw_facts.Parts.{get_or-put_mid_within, get_or-put_mid_above}
use Rattle.mw_lane.specs.Shifted.{merge_at}
use borrow.Rule.Slice.PartMut.{put_mid}
use lib.Lanes.{zip2}

pub part_done : {A : Type 0} (f : A → A → A) (row out part : List A) (ahead behind count m k x : ℕ) (d : A)
    → behind ≤ length out → ahead ≤ length row → count ≡ min (length row - ahead) (length out - behind) → m ≡ count → k ≡ count
    → part ≡ zip2 f (take m (drop behind out)) (take k (drop ahead row)) → behind ≤ x → x < length out
    → get_or (put_mid behind m out part) x d ≡ merge_at f (get_or out x d) (slice_get row (x - behind + ahead))
part_done f row out part ahead behind count m k x d room rest count-is m-is k-is part-is from to =
    let first = take m (drop behind out) in
    let second = take k (drop ahead row) in
    let first_len : length first ≡ count = omega (arith, length-take m (drop behind out), length-drop behind out) in
    let second_len : length second ≡ count = omega (arith, length-take k (drop ahead row), length-drop ahead row) in
    let whole : length part ≡ m = ap length part-is ∙ length-zip2 f first second (omega arith) ∙ first_len ∙ sym m-is in
    elim (cases_lt x (behind + count)) [
      | inl inside ↦
          let there : slice_get row (x - behind + ahead) ≡ Some (get_or row (x - behind + ahead) d) = slice_get-get_or row (x - behind + ahead) d (omega arith) in
          rw there (get_or-put_mid_within behind m out part x d room from (omega arith)
          ∙ ap (λ (t : List _). get_or t (x - behind) d) part-is
          ∙ get_or-zip2 f first second (x - behind) d d d (omega arith) (omega arith)
          ∙ ap (λ (t : _). f t (get_or second (x - behind) d)) (get_or-take m (drop behind out) (x - behind) d (omega arith) ∙ get_or-drop behind out (x - behind) d ∙ ap (λ (t : ℕ). get_or out t d) (add-sub_of_le from))
          ∙ ap (λ (t : _). f (get_or out x d) t) (get_or-take k (drop ahead row) (x - behind) d (omega arith) ∙ get_or-drop ahead row (x - behind) d ∙ ap (λ (t : ℕ). get_or row t d) (add_comm ahead (x - behind))))
      | inr past ↦
          let none : slice_get row (x - behind + ahead) ≡ None = slice_get_past row (x - behind + ahead) (omega arith) in
          rw none (get_or-put_mid_above behind m out part x d room whole (omega arith))
    ]
