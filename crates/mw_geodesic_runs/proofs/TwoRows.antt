-- Two runs that go along two rows: what they have not met does not touch.
use Rattle.std.proofs.Common.{◌≡◌, ℕ, ◌+◌, ◌<◌, ◌≤◌, ◌⊎◌, List, length, ap, subst, arith, inl, inr}
use Rattle.std.proofs.lemmas.Bool.{cases_lt}
use Rattle.mw_geodesic_runs.specs.declared.runs.Run.{Run}
use Rattle.mw_geodesic_runs.specs.Runs.{run_numbered}
use Rattle.mw_geodesic_runs.specs.Rows.{Overlap, AreTwoRows}
use Rattle.mw_geodesic_runs.specs.Forests.{IsForest, HasJoinedIf}
use Rattle.mw_geodesic_runs.specs.Touching.{Touches, Agree, AreUnited, IsForestOf}
use Rattle.mw_geodesic_runs.proofs.Meetings.{agree_less, uniting_first, uniting_second}

pub rows_united : (reach : ℕ) (runs : List Run) (j : ℕ) (parent : List ℕ) → j ≡ length runs → AreUnited reach runs 0 j parent → IsForestOf reach runs parent
rows_united reach runs j parent end was = record {
  forest = was.forest;
  size = was.size;
  back = λ f respects. agree_less reach runs 0 (length runs) 0 j f (omega arith) (omega arith) (was.back f respects);
  on = λ f agree. was.on f (agree_less reach runs 0 j 0 (length runs) f (omega arith) (omega arith) agree);
}

uniting_as : (reach : ℕ) (runs : List Run) (i j k l : ℕ) (parent : List ℕ) → k ≤ l → ((f : ℕ → ℕ) → Agree reach runs i j f → Agree reach runs k l f) → ((f : ℕ → ℕ) → Agree reach runs k l f → Agree reach runs i j f) → AreUnited reach runs i j parent
    → AreUnited reach runs k l parent
uniting_as reach runs i j k l parent ahead there back was = record {
  forest = was.forest;
  size = was.size;
  ahead = ahead;
  back = λ f respects. there f (was.back f respects);
  on = λ f agree. was.on f (back f agree);
}

-- what is far above touches nothing of the two rows
far_apart : (reach : ℕ) (runs : List Run) (y above : ℕ) (upper lower : List Run) (parent : List ℕ) → AreTwoRows runs y above upper lower → AreUnited reach runs 0 (above + length upper) parent → AreUnited reach runs above (above + length upper) parent
far_apart reach runs y above upper lower parent rows was =
    uniting_as reach runs 0 (above + length upper) above (above + length upper) parent (omega arith)
    (λ f agree. record {
      one = λ p q in_p in_q which t. elim which [
        | inr before ↦ agree.one p q in_p in_q (inr before) t
        | inl far ↦
            let below = t.below in
            let row = rows.far p far in
            let before : q < above + length upper = elim (cases_lt q (above + length upper)) [
              | inl less ↦ less
              | inr from ↦ let low = row_from q from in_q in absurd (omega arith)
            ] in
            agree.one p q in_p in_q (inr before) t
      ];
    })
    (λ f agree. agree_less reach runs 0 (above + length upper) above (above + length upper) f (omega arith) (omega arith) agree) was
  where
    row_from : (q : ℕ) → above + length upper ≤ q → q < length runs → y ≤ (run_numbered runs q).row
    row_from q from lt = elim (cases_lt q (above + length upper + length lower)) [
      | inl less ↦ let row = rows.here q from less in omega arith
      | inr past ↦ let row = rows.later q past lt in omega arith
    ]

pub rows_begin : (reach : ℕ) (runs : List Run) (y above : ℕ) (upper lower : List Run) (parent : List ℕ) → AreTwoRows runs y above upper lower → AreUnited reach runs 0 (above + length upper) parent
    → AreUnited reach runs (above + 0) (above + length upper + 0) parent
rows_begin reach runs y above upper lower parent rows was =
    let i : above ≡ above + 0 = omega arith in
    let j : above + length upper ≡ above + length upper + 0 = omega arith in
    subst (λ (t : ℕ). AreUnited reach runs t (above + length upper + 0) parent) i (subst (λ (t : ℕ). AreUnited reach runs above t parent) j (far_apart reach runs y above upper lower parent rows was))

-- where one of the rows has ended, all that touches in them is united
pub rows_end : (reach : ℕ) (runs : List Run) (y above i j : ℕ) (upper lower : List Run) (parent : List ℕ) → AreTwoRows runs y above upper lower → i ≤ length upper → j ≤ length lower → (length upper ≤ i) ⊎ (length lower ≤ j)
    → AreUnited reach runs (above + i) (above + length upper + j) parent → AreUnited reach runs 0 (above + length upper + length lower) parent
rows_end reach runs y above i j upper lower parent rows in_upper in_lower ended was =
    let end = above + length upper + length lower in
    uniting_as reach runs (above + i) (above + length upper + j) 0 end parent (omega arith)
    (λ f agree. record {
      one = λ p q in_p in_q which t. elim which [
        | inl none ↦ absurd (omega arith)
        | inr before ↦ elim (cases_lt q (above + length upper + j)) [
          | inl done ↦ agree.one p q in_p in_q (inr done) t
          | inr left ↦
              let below = t.below in
              let row = rows.here q (omega arith) (omega arith) in
              let over : p < above + length upper = elim (cases_lt p (above + length upper)) [
                | inl less ↦ less
                | inr from ↦ let low = row_from p from in_p in absurd (omega arith)
              ] in
              let whole : length upper ≤ i = elim ended [ inl all ↦ all | inr all ↦ absurd (omega arith) ] in
              agree.one p q in_p in_q (inl (omega arith)) t
        ]
      ];
    })
    (λ f agree. record {
      one = λ p q in_p in_q which t. elim which [
        | inr before ↦ agree.one p q in_p in_q (inr (omega arith)) t
        | inl before ↦
            let below = t.below in
            let row : (run_numbered runs p).row + 1 ≤ y = elim (cases_lt p above) [
              | inl far ↦ let row = rows.far p far in omega arith
              | inr from ↦ let row = rows.near p from (omega arith) in omega arith
            ] in
            let in_rows : q < above + length upper + length lower = elim (cases_lt q (above + length upper + length lower)) [
              | inl less ↦ less
              | inr past ↦ let later = rows.later q past in_q in absurd (omega arith)
            ] in
            agree.one p q in_p in_q (inr in_rows) t
      ];
    }) was
  where
    row_from : (q : ℕ) → above + length upper ≤ q → q < length runs → y ≤ (run_numbered runs q).row
    row_from q from lt = elim (cases_lt q (above + length upper + length lower)) [
      | inl less ↦ let row = rows.here q from less in omega arith
      | inr past ↦ let row = rows.later q past lt in omega arith
    ]

-- two runs of the rows, by their numbers among all
record Pair (reach : ℕ) (runs : List Run) (p q : ℕ) (a b : Run) : Type 0 where
  there : Touches reach (run_numbered runs p) (run_numbered runs q) → Overlap reach a b
  back : Overlap reach a b → Touches reach (run_numbered runs p) (run_numbered runs q)
  below : (run_numbered runs p).row + 1 ≡ (run_numbered runs q).row
  end : (run_numbered runs p).end ≡ a.end
  end' : (run_numbered runs q).end ≡ b.end

pair : (reach : ℕ) (runs : List Run) (y above i j : ℕ) (upper lower : List Run) → AreTwoRows runs y above upper lower → i < length upper → j < length lower
    → Pair reach runs (above + i) (above + length upper + j) (run_numbered upper i) (run_numbered lower j)
pair reach runs y above i j upper lower rows lt lt' =
    let is = rows.upper_from.same i lt in
    let is' = rows.lower_from.same j lt' in
    let first = ap (λ (t : Run). t.first) is in
    let end = ap (λ (t : Run). t.end) is in
    let first' = ap (λ (t : Run). t.first) is' in
    let end' = ap (λ (t : Run). t.end) is' in
    let row = rows.near (above + i) (omega arith) (omega arith) in
    let row' = rows.here (above + length upper + j) (omega arith) (omega arith) in
    record {
      there = λ t. let left = t.left in let right = t.right in record { left = omega arith; right = omega arith };
      back = λ o. let left = o.left in let right = o.right in record { below = omega arith; left = omega arith; right = omega arith };
      below = omega arith;
      end = end;
      end' = end';
    }

joined_same : (P Q : Type 0) (old new : List ℕ) (a b : ℕ) → (P → Q) → (Q → P) → HasJoinedIf Q old a b new → HasJoinedIf P old a b new
joined_same P Q old new a b there back joined = record {
  back = joined.back;
  one = λ f respects p. joined.one f respects (there p);
  on = λ f respects same. joined.on f respects (λ q. same (back q));
}

pub rows_first : (reach : ℕ) (runs : List Run) (y above i j m : ℕ) (upper lower : List Run) (parent new : List ℕ) → reach ≤ 1 → AreTwoRows runs y above upper lower → i < length upper → j < length lower → m ≡ i + 1 → length new ≡ length parent → IsForest new
    → HasJoinedIf (Overlap reach (run_numbered upper i) (run_numbered lower j)) parent (above + i) (above + length upper + j) new → (run_numbered upper i).end < (run_numbered lower j).end
    → AreUnited reach runs (above + i) (above + length upper + j) parent → AreUnited reach runs (above + m) (above + length upper + j) new
rows_first reach runs y above i j m upper lower parent new low rows lt lt' next size forest joined ends was =
    let p = pair reach runs y above i j upper lower rows lt lt' in
    let a = run_numbered runs (above + i) in
    let b = run_numbered runs (above + length upper + j) in
    let end = p.end in
    let end' = p.end' in
    let within = rows.lower_from.within in
    let up : above + i + 1 ≡ above + m = omega arith in
    let on = uniting_first reach runs (above + i) (above + length upper + j) parent new low (omega arith) rows.order size forest
    (joined_same (Touches reach a b) (Overlap reach (run_numbered upper i) (run_numbered lower j)) parent new (above + i) (above + length upper + j) p.there p.back joined) (inr (p.below, omega arith)) was in
    subst (λ (t : ℕ). AreUnited reach runs t (above + length upper + j) new) up on

pub rows_second : (reach : ℕ) (runs : List Run) (y above i j m : ℕ) (upper lower : List Run) (parent new : List ℕ) → reach ≤ 1 → AreTwoRows runs y above upper lower → i < length upper → j < length lower → m ≡ j + 1 → length new ≡ length parent → IsForest new
    → HasJoinedIf (Overlap reach (run_numbered upper i) (run_numbered lower j)) parent (above + i) (above + length upper + j) new → (run_numbered lower j).end ≤ (run_numbered upper i).end
    → AreUnited reach runs (above + i) (above + length upper + j) parent → AreUnited reach runs (above + i) (above + length upper + m) new
rows_second reach runs y above i j m upper lower parent new low rows lt lt' next size forest joined late was =
    let p = pair reach runs y above i j upper lower rows lt lt' in
    let a = run_numbered runs (above + i) in
    let b = run_numbered runs (above + length upper + j) in
    let end = p.end in
    let end' = p.end' in
    let below = p.below in
    let within = rows.lower_from.within in
    let up : above + length upper + j + 1 ≡ above + length upper + m = omega arith in
    let on = uniting_second reach runs (above + i) (above + length upper + j) parent new low (omega arith) rows.order size forest
    (joined_same (Touches reach a b) (Overlap reach (run_numbered upper i) (run_numbered lower j)) parent new (above + i) (above + length upper + j) p.there p.back joined)
    (λ first. elim first [ inl rows ↦ omega arith | inr same ↦ omega (arith, same.1) ]) was in
    subst (λ (t : ℕ). AreUnited reach runs (above + i) t new) up on
