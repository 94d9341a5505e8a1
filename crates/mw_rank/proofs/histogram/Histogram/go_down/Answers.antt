use Rattle.std.proofs.Common.{◌≡◌, ℕ, ap, arith, inl, inr}
use Rattle.mw_rank.specs.Tallies.{count_under}
use Rattle.mw_rank.proofs.Counts.{count-zero}
use Rattle.mw_rank.proofs.histogram.Histogram.go_down.Goals as goal

pub leap_down-requires : goal.leap_down-requires
leap_down-requires c =
    let r = c.requires.held.1 in
    (c.requires.held.0, record { others = r.others; tallies = c.lower.ensures.tallies c.requires.held.0 r.others r.tallies; few = r.few })

pub lower-requires-then-self-n : goal.lower-requires-then-self-n
lower-requires-then-self-n c =
    let r = c.requires.held.1 in
    record { held = (c.requires.held.0, record { others = r.others; tallies = c.leap_down.ensures.tallies c.requires.held.0 r.others (c.lower.ensures.tallies c.requires.held.0 r.others r.tallies); few = r.few }) }

pub returns-then-self-n-clause-tallies : goal.returns-then-self-n-clause-tallies
returns-then-self-n-clause-tallies c = λ top ns t. c.lower-then-self-n.ensures.tallies top ns (c.leap_down.ensures.tallies top ns (c.lower.ensures.tallies top ns t))

pub returns-then-self-n-clause-few : goal.returns-then-self-n-clause-few
returns-then-self-n-clause-few c = elim c.lower-then-self-n.ensures.few [
  | inl few ↦ few
  | inr lowest ↦
      let r = c.requires.held.1 in
      let t = c.lower-then-self-n.ensures.tallies c.requires.held.0 r.others (c.leap_down.ensures.tallies c.requires.held.0 r.others (c.lower.ensures.tallies c.requires.held.0 r.others r.tallies)) in
      let e : count_under c.lower-then-self-n.new.self.level r.others ≡ count_under 0 r.others = ap (λ (v : ℕ). count_under v r.others) (let z : c.lower-then-self-n.new.self.level ≡ 0 = omega (arith, lowest) in z) in
      omega (arith, e, count-zero r.others, t.below, c.requires.some)
]

pub returns-then-self-n-clause-enough : goal.returns-then-self-n-clause-enough
returns-then-self-n-clause-enough c = λ top ns t. c.lower-then-self-n.ensures.enough top ns (c.leap_down.ensures.tallies top ns (c.lower.ensures.tallies top ns t)) (c.leap_down.ensures.many (omega arith))

pub returns-else-self-n-clause-enough : goal.returns-else-self-n-clause-enough
returns-else-self-n-clause-enough c = λ top ns t. c.lower.ensures.enough top ns t c.requires.many
