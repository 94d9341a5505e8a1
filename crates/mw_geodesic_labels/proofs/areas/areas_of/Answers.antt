use Rattle.std.proofs.Common.{◌≡◌, ◌+◌, ◌-◌, ◌<◌, ◌≤◌, ◌^◌, ◌∙◌, List, ℕ, get_or, length, refl, sym, ap, subst, arith}
use Rattle.std.proofs.lemmas.List.{length-replicate, length-set}
use Rattle.mw_geodesic_runs.specs.declared.runs.Run.{Run}
use Rattle.mw_geodesic_labels.specs.Gathering.{AreAreasOf}
use Rattle.mw_geodesic_labels.proofs.RunAreas.{areas_none, area_fits, area_on}
use Rattle.mw_geodesic_labels.proofs.areas.areas_of.Goals as goal

pub loop-y-init : goal.loop-y-init
loop-y-init c = record {
  size = ap (λ (t : List ℕ). length t) c.in_ok-areas.ensures ∙ length-replicate c.args.count 0;
  areas = λ held.
      subst (λ (t : ℕ). AreAreasOf held.runs c.args.numbers.now t c.args.count c.in_ok-areas.areas.items) (sym held.begins)
      (areas_none held.runs c.args.numbers.now c.in_ok-areas.areas.items c.args.count c.in_ok-areas.ensures);
}

pub loop-k-init : goal.loop-k-init
loop-k-init c = record { size = c.loop-y.invariant.size; areas = c.loop-y.invariant.areas }

pub add_area-requires-clause-some : goal.add_area-requires-clause-some
add_area-requires-clause-some c =
    let held = c.requires in
    let k = c.loop-k.k in
    let from : get_or c.args.starts.now c.loop-y.y 0 ≤ k = omega (arith, c.loop-k.auto.k) in
    let is = held.is c.loop-y.y k (omega arith) from (omega arith) in
    let within = held.within (c.loop-y.y + 1) (omega arith) in
    subst (λ (t : Run). t.first < t.end) is (held.known.wide.run k (omega arith))

pub add_area-requires-clause-positive : goal.add_area-requires-clause-positive
add_area-requires-clause-positive c =
    let held = c.requires in
    let within = held.within (c.loop-y.y + 1) (omega arith) in
    held.known.wide.some c.loop-k.k (omega arith)

pub add_area-requires-clause-most : goal.add_area-requires-clause-most
add_area-requires-clause-most c =
    let held = c.requires in
    let within = held.within (c.loop-y.y + 1) (omega arith) in
    let most = held.known.most c.loop-k.k (omega arith) in
    let size = c.loop-k.invariant.size in
    omega arith

pub add_area-requires-clause-fits : goal.add_area-requires-clause-fits
add_area-requires-clause-fits c =
    let held = c.requires in
    let k = c.loop-k.k in
    let n = get_or c.args.numbers.now k 0 in
    let from : get_or c.args.starts.now c.loop-y.y 0 ≤ k = omega (arith, c.loop-k.auto.k) in
    let is = held.is c.loop-y.y k (omega arith) from (omega arith) in
    let within = held.within (c.loop-y.y + 1) (omega arith) in
    subst (λ (t : Run). get_or c.loop-k.areas.items (n - 1) 0 + (t.end - t.first) < 2 ^ 32) is
    (area_fits held.runs c.args.numbers.now c.loop-k.areas.items c.args.count k n (omega arith) (held.known.wide.some k (omega arith)) (held.known.most k (omega arith)) held.known.wide (c.loop-k.invariant.areas held))

pub loop-k-preserved : goal.loop-k-preserved
loop-k-preserved c =
    let k = c.loop-k.k in
    record {
      size = ap (λ (t : List ℕ). length t) c.add_area.ensures ∙ length-set c.loop-k.areas.items _ _ ∙ c.loop-k.invariant.size;
      areas = λ held.
          let from : get_or c.args.starts.now c.loop-y.y 0 ≤ k = omega (arith, c.loop-k.auto.k) in
          let is = held.is c.loop-y.y k (omega arith) from (omega arith) in
          let within = held.within (c.loop-y.y + 1) (omega arith) in
          area_on held.runs c.args.numbers.now c.loop-k.areas.items c.add_area.new.areas.items c.args.count k _ (get_or c.args.numbers.now k 0) _ is refl refl (held.known.wide.some k (omega arith)) (held.known.most k (omega arith)) (sym c.loop-k.invariant.size)
          c.add_area.ensures (c.loop-k.invariant.areas held);
    }

pub loop-y-preserved : goal.loop-y-preserved
loop-y-preserved c = record {
  size = c.loop-k.invariant.size;
  areas = λ held.
      let rises = held.rises c.loop-y.y (omega arith) in
      let end : c.loop-k.k ≡ get_or c.args.starts.now (c.loop-y.y + 1) 0 = omega (arith, c.loop-k.auto.k-end rises) in
      subst (λ (t : ℕ). AreAreasOf held.runs c.args.numbers.now t c.args.count c.loop-k.areas.items) end (c.loop-k.invariant.areas held);
}

pub returns-clause-areas : goal.returns-clause-areas
returns-clause-areas c = λ held.
    let end : c.loop-y.y ≡ c.args.height = omega arith in
    let all : get_or c.args.starts.now c.loop-y.y 0 ≡ length held.runs = ap (λ (t : ℕ). get_or c.args.starts.now t 0) end ∙ held.ends in
    subst (λ (t : ℕ). AreAreasOf held.runs c.args.numbers.now t c.args.count c.loop-y.areas.items) all (c.loop-y.invariant.areas held)
