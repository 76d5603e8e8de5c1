use Rattle.line_session.proofs.Cuts.{cut_is}
use Rattle.line_session.proofs.words.split_word.Goals as goal

pub returns : goal.returns
returns c = cut_is c.args.text.now c.split_once.result c.split_once.ensures.cases
