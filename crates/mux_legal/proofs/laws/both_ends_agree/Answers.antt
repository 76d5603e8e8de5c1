use Rattle.mux_legal.proofs.BothEnds.{both_ends_agree}
use Rattle.mux_legal.proofs.Numbers.{numbers_tell_places}
use Rattle.mux_legal.proofs.PairNumbers.{numbers_tell_pairs}
use Rattle.mux_legal.proofs.laws.both_ends_agree.Goals as goal

pub returns-clause-agree : goal.returns-clause-agree
returns-clause-agree c = both_ends_agree

pub returns-clause-numbers : goal.returns-clause-numbers
returns-clause-numbers c = numbers_tell_places

pub returns-clause-pairs : goal.returns-clause-pairs
returns-clause-pairs c = numbers_tell_pairs
