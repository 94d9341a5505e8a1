use Rattle.std.proofs.Common.{◌≡◌, ℕ, ◌∙◌, ap, List, [], ◌∷◌, length, length-set, set, get_or, cond, arith}
use Rattle.mw_ready.specs.Boards.{step_reads}
use Rattle.mw_ready.specs.Links.{link_at}
use Rattle.mw_ready.proofs.Joining.{first-three, first-kept, next-three, next-written}
use Rattle.mw_ready.proofs.links.join.Goals as goal

pub returns-clause-first : goal.returns-clause-first
returns-clause-first c = λ s lt.
    let a = c.args in
    let next = c.first_reader.result ∷ c.first_reader-2.result ∷ c.first_reader-3.result ∷ [] in
    let here = set a.links.now a.step (record (link_at a.links.now a.step) { next = next }) in
    let size : length here ≡ length a.links.now = simp length-set in
    let steps : length a.need.steps ≡ 3 = omega arith in
    first-three here c.read_first.new.links c.read_first-2.new.links c.read_first-3.new.links a.need.steps a.step s steps
    (c.read_first.ensures.first s (omega arith))
    (c.read_first-2.ensures.first s (omega (arith, c.read_first.ensures.size)))
    (c.read_first-3.ensures.first s (omega (arith, c.read_first.ensures.size, c.read_first-2.ensures.size)))
    ∙ ap (λ (k : ℕ). cond (step_reads a.need s) a.step k) (first-kept a.links.now a.step s next c.requires)

pub returns-clause-next : goal.returns-clause-next
returns-clause-next c = λ i s i-lt s-lt reads.
    let a = c.args in
    let next = c.first_reader.result ∷ c.first_reader-2.result ∷ c.first_reader-3.result ∷ [] in
    ap (λ (xs : List ℕ). get_or xs i 0) (c.read_first-3.ensures.next a.step ∙ c.read_first-2.ensures.next a.step ∙ c.read_first.ensures.next a.step ∙ next-written a.links.now a.step next c.requires)
    ∙ next-three c.first_reader.result c.first_reader-2.result c.first_reader-3.result (link_at a.links.now s).first i s a.need.steps (c.first_reader.ensures s s-lt) (c.first_reader-2.ensures s s-lt) (c.first_reader-3.ensures s s-lt) i-lt reads
