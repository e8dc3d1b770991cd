-- The record's number falls at each call. Assumes nothing.
use Rattle.fit.proofs.+chains.Given as goal

abbrev pub decreases-chains : goal.decreases-chains
decreases-chains l = l.n
