use Rattle.std.proofs.Common.{ℕ, ◌≡◌, ◌*◌, ◌<◌, ◌%◌, ◌∙◌, refl, arith, cond, replicate, ap, get_or, Bool, true, false}
use Rattle.std.proofs.lemmas.List.{get_or-replicate}
use Rattle.std.proofs.lemmas.Simd.{length-zip2, get_or-zip2}
use mir.Val.{bool_byte}
use Rattle.mw_rank_rows.proofs.vectors.lanes_if.Goals as goal

pub returns-clause-size : goal.returns-clause-size
returns-clause-size c = length-zip2 (λ (x y : ℕ). (x * y) % 65536) c.args.lanes (replicate 8 c.from.result) c.requires ∙ c.requires

pub returns-clause-lanes : goal.returns-clause-lanes
returns-clause-lanes c = λ j lt small.
    let a = get_or c.args.lanes j 0 in
    get_or-zip2 (λ (x y : ℕ). (x * y) % 65536) c.args.lanes (replicate 8 c.from.result) j 0 0 0 (omega (arith, c.requires)) lt
    ∙ ap (λ (t : ℕ). a * t % 65536) (get_or-replicate 8 j c.from.result 0 lt ∙ c.from.ensures ∙ byte c.args.test)
    ∙ kept a c.args.test small
  where
    byte : (b : Bool) → bool_byte b ≡ cond b 1 0
    byte true = refl
    byte false = refl

    kept : (a : ℕ) (b : Bool) → a < 65536 → a * cond b 1 0 % 65536 ≡ a * cond b 1 0
    kept a true small = omega arith
    kept a false small = omega arith
