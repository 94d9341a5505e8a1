-- The numbers and words of refusals (own).
use Rattle.std.specs.Prelude.{ℕ, List, codes}
use Rattle.mw_model.specs.declared.codes.Code.{Code}
use Rattle.mw_model.specs.declared.codes.Code.TheVariants as code

-- the number and the word of a refusal
abbrev pub number_and_word : Code → ℕ × List ℕ
number_and_word code.Line = (10, codes "LINE")
number_and_word code.Length = (11, codes "LENGTH")
number_and_word code.Cut = (12, codes "CUT")
number_and_word code.Magic = (20, codes "MAGIC")
number_and_word code.Header = (21, codes "HEADER")
number_and_word code.Size = (22, codes "SIZE")
number_and_word code.Maxval = (23, codes "MAXVAL")
number_and_word code.Short = (24, codes "SHORT")
number_and_word code.Sample = (25, codes "SAMPLE")
number_and_word code.Trailing = (26, codes "TRAILING")
number_and_word code.NotPlain = (30, codes "NOT_PLAIN")
number_and_word code.Origin = (31, codes "ORIGIN")
number_and_word code.Empty = (32, codes "EMPTY")
number_and_word code.NameTaken = (40, codes "NAME_TAKEN")
number_and_word code.Unknown = (41, codes "UNKNOWN")
number_and_word code.Kind = (42, codes "KIND")
number_and_word code.Dead = (43, codes "DEAD")
number_and_word code.Binary = (44, codes "BINARY")
number_and_word code.NoOrigin = (45, codes "NO_ORIGIN")
number_and_word code.Overlap = (46, codes "OVERLAP")
number_and_word code.Param = (47, codes "PARAM")
number_and_word code.Full = (48, codes "FULL")
number_and_word code.Settled = (49, codes "SETTLED")
number_and_word code.Memory = (50, codes "MEMORY")
number_and_word code.Released = (51, codes "RELEASED")
number_and_word code.Pending = (52, codes "PENDING")
