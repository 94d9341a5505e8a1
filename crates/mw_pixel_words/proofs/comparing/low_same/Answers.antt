use Rattle.std.proofs.lemmas.Bool.{eqb-true, eq-eqb}
use Rattle.mw_pixel_words.proofs.Compared.{low_bits_of_same, same_of_low_bits}
use Rattle.mw_pixel_words.proofs.comparing.low_same.Goals as goal

pub returns : goal.returns
returns c = (
  λ same. low_bits_of_same c.args.a c.args.b c.args.count c.requires.1 (eqb-true _ _ same),
  λ same. eq-eqb _ _ (same_of_low_bits c.args.a c.args.b c.args.count c.requires.1 same),
)
