use Rattle.mw_bits.proofs.uniform.some_stays.Given as goal

abbrev pub invariant-loop-i : goal.invariant-loop-i
invariant-loop-i l = Unit {0}
