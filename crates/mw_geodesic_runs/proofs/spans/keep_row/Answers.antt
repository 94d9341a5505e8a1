use Rattle.std.proofs.Common.{◌≡◌, ◌+◌, ◌<◌, ◌∙◌, ◌∷◌, [], ℕ, List, length, refl, ap, sym, subst, arith, inl, inr}
use Rattle.std.proofs.lemmas.Bool.{cases_lt}
use Rattle.std.proofs.lemmas.List.{length_push, get_or_push, get_or_append_left}
use Rattle.mw_geodesic_runs.specs.declared.spans.Span.{Span}
use Rattle.mw_geodesic_runs.specs.Runs.{run_numbered}
use Rattle.mw_geodesic_runs.specs.Rows.{no_span, span_numbered, IsSpanOf}
use Rattle.mw_geodesic_runs.proofs.spans.keep_row.Goals as goal

pub push_reserved-requires : goal.push_reserved-requires
push_reserved-requires c =
    let size = c.loop-k.invariant.size in
    let same = c.loop-k.invariant.room in
    let room = c.requires in
    omega (arith, c.loop-k.spans.ok.0)

pub loop-k-preserved : goal.loop-k-preserved
loop-k-preserved c =
    let k = c.loop-k.k in
    let old = c.loop-k.spans.items in
    let m = length c.args.spans.now.items in
    let run = run_numbered c.args.row.now k in
    let span : Span = record { first = run.first; end = run.end } in
    let pushed = c.push_reserved.ensures.items in
    let size = c.loop-k.invariant.size in
    let here : (i : ℕ) → i < length old → span_numbered c.push_reserved.new.self.items i ≡ span_numbered old i =
    λ i lt. ap (λ (t : List Span). span_numbered t i) pushed ∙ get_or_append_left old (span ∷ []) no_span i lt in
    record {
      size = let more = ap (λ (t : List Span). length t) pushed ∙ length_push old span in omega arith;
      before = λ i lt. here i (omega arith) ∙ c.loop-k.invariant.before i lt;
      added = λ i lt. elim (cases_lt i k) [
        | inl less ↦ subst (λ (t : Span). IsSpanOf (run_numbered c.args.row.now i) t) (sym (here (m + i) (omega arith))) (c.loop-k.invariant.added i less)
        | inr past ↦
            let at : k ≡ i = omega arith in
            let new : span_numbered c.push_reserved.new.self.items (m + k) ≡ span = ap (λ (t : List Span). span_numbered t (m + k)) pushed ∙ get_or_push old span no_span (m + k) size in
            let is : IsSpanOf run span = record { first = refl; end = refl } in
            subst (λ (t : ℕ). IsSpanOf (run_numbered c.args.row.now t) (span_numbered c.push_reserved.new.self.items (m + t))) at (subst (λ (t : Span). IsSpanOf run t) (sym new) is)
      ];
      room = c.push_reserved.ensures.capacity ∙ c.loop-k.invariant.room;
    }
