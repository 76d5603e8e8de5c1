use Rattle.operator_port.proofs.Unasked.{no_words}
use Rattle.operator_port.proofs.question.parse_words.Goals as goal

pub returns-in-None : goal.returns-in-None
returns-in-None c =
    no_words c.args.line.now c.in_default.ensures c.in_default-parse_name.ensures c.in_default-parse_name-2.ensures
    c.in_default-parse_server.ensures c.in-None.ensures
