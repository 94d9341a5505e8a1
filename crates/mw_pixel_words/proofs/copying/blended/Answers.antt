use Rattle.mw_pixel_words.proofs.Copies.{blended_word}
use Rattle.mw_pixel_words.proofs.copying.blended.Goals as goal

pub returns : goal.returns
returns c = blended_word c.args.lead c.args.count c.args.word c.args.other c.requires.some c.requires.room
