use Rattle.std.proofs.Common.{[], ◌∷◌, get_or, drop, refl, sym, ◌∙◌}
use Rattle.mw_netpbm_plain.proofs.FewDigits.{sample_of_few, six_first, white_tail, is_short, white_after}
use Rattle.mw_netpbm_plain.proofs.short.short_sample.Goals as goal

pub returns-then-is_white-2-clause-sample : goal.returns-then-is_white-2-clause-sample
returns-then-is_white-2-clause-sample c = λ left.
    let bytes = c.args.bytes.now in
    let rest = c.split_at.result.1.now in
    let few = get_or bytes 1 0 ∷ get_or bytes 2 0 ∷ get_or bytes 3 0 ∷ get_or bytes 4 0 ∷ get_or bytes 5 0 ∷ [] in
    sample_of_few left (get_or bytes 0 0) c.short_number-n.result.0 c.short_number-n.result.1 few bytes (drop 6 bytes) rest
    (six_first bytes c.in-len7-up.len_at_least) (sym c.if-is_white.ensures) c.short_number-n.ensures.number c.short_number-n.ensures.few c.split_at.ensures.back (white_tail rest (sym c.if-is_white-2.ensures))

pub returns-then-is_white-2-clause-short : goal.returns-then-is_white-2-clause-short
returns-then-is_white-2-clause-short c = (
  λ yes. is_short c.args.is_deep c.args.bytes.now c.split_at.result.1.now c.short_number-n.result.1 c.in-len7-up.len_at_least (sym c.if-is_white.ensures) (sym c.if-is_digit.ensures) c.short_number-n.ensures.count c.split_at.ensures.back (sym c.if-is_white-2.ensures),
  λ short. refl,
)

pub returns-else-is_white-2-clause-short : goal.returns-else-is_white-2-clause-short
returns-else-is_white-2-clause-short c = (
  λ no. absurd cc,
  λ short. c.if-is_white-2.ensures ∙ white_after c.args.is_deep c.args.bytes.now c.split_at.result.1.now c.short_number-n.result.1 c.short_number-n.ensures.count c.split_at.ensures.back short,
)
