use Rattle.operator_port.proofs.Placed.{other_word, plain_whole}
use Rattle.operator_port.proofs.place.parse_place.Goals as goal

pub returns-in-plain : goal.returns-in-plain
returns-in-plain c =
    plain_whole c.args.place.now c.in-Some.text.now c.in-Some.word.now c.in-Some.ensures.0 c.in-Some.ensures.1 c.in-plain.is
    c.parse_address-in-plain.result c.with_init-in-plain.result c.parse_address-in-plain.ensures c.with_init-in-plain.ensures

pub returns-in_default-word : goal.returns-in_default-word
returns-in_default-word c =
    other_word c.args.place.now c.in-Some.text.now c.in-Some.word.now c.in-Some.ensures.0 c.in-Some.ensures.1 c.in_default-word.not-plain
