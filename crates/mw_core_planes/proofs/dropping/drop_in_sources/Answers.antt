use Rattle.std.proofs.Common.{◌≢◌, ℕ, ◌+◌, Bool, not, ◌&&◌, take, get_or, None, sym, ap, subst, ◌∙◌, arith}
use Rattle.std.specs.List.{list_any}
use Rattle.std.proofs.lemmas.List.{take_all}
use Rattle.mw_grid.specs.Blocks.{in_block}
use Rattle.mw_ready.specs.Boards.{is_source}
use Rattle.mw_core_planes.specs.StepPlanes.{is_read}
use Rattle.mw_core_planes.proofs.Sources.{source_at, any_more, or_and_one}
use Rattle.mw_core_planes.proofs.Swept.{all-then, all-same}
use Rattle.mw_core_planes.proofs.dropping.drop_in_sources.Goals as goal

pub drop_in_source-requires-clause-step : goal.drop_in_source-requires-clause-step
drop_in_source-requires-clause-step c = λ k e.
    let r = c.requires.steps k (source_at c.args.sources.now c.loop-i.i k e) in
    let size = c.loop-i.invariant.count in (
      r.0,
      omega (arith, r.1, size),
      subst (λ (n : ℕ). n ≢ 2) (sym (c.loop-i.invariant.forms k)) r.2,
    )

pub loop-i-preserved : goal.loop-i-preserved
loop-i-preserved c =
    let a = c.args in
    let i = c.loop-i.i in
    let rest : ℕ → ℕ → Bool = λ k v. in_block a.grid a.block v && not (is_read a.ready.now.board k v) in
    all-then a.grid (λ k v. list_any (is_source k) (take i a.sources.now) && rest k v) (λ k v. is_source k (get_or a.sources.now i None) && rest k v) (λ k v. list_any (is_source k) (take (i + 1) a.sources.now) && rest k v)
    a.places.now c.loop-i.places c.drop_in_source.new.places
    (λ k v. ap (λ (b : Bool). b && rest k v) (any_more a.sources.now i k) ∙ or_and_one (list_any (is_source k) (take i a.sources.now)) (is_source k (get_or a.sources.now i None)) (rest k v))
    c.loop-i.invariant c.drop_in_source.ensures

pub returns : goal.returns
returns c =
    let a = c.args in
    all-same a.grid (λ k v. list_any (is_source k) (take c.loop-i.i a.sources.now) && (in_block a.grid a.block v && not (is_read a.ready.now.board k v)))
    (λ k v. list_any (is_source k) a.sources.now && (in_block a.grid a.block v && not (is_read a.ready.now.board k v))) a.places.now c.loop-i.places
    (λ k v k-lt v-lt. ap (λ (b : Bool). b && (in_block a.grid a.block v && not (is_read a.ready.now.board k v))) (ap (list_any (is_source k)) (take_all c.loop-i.i a.sources.now (omega arith))))
    c.loop-i.invariant
