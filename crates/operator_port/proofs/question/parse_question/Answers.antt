use Rattle.operator_port.proofs.Once.{asks_one}
use Rattle.operator_port.proofs.Unasked.{asked_by_words}
use Rattle.operator_port.proofs.question.parse_question.Goals as goal

pub returns-in_default-clause-question : goal.returns-in_default-clause-question
returns-in_default-clause-question c =
    let d = c.in_default in
    asked_by_words c.args.line.now c.parse_words.result (record {
      no_help = d.not-help;
      no_health = d.not-health;
      no_routes = d.not-routes;
      no_servers = d.not-servers;
      no_drain = d.not-text;
      no_stop = d.not-stop;
      no_events = d.not-events;
      no_full = d.not-text-2;
      no_config = d.not-config;
      no_metrics = d.not-metrics;
      no_record = d.not-record;
    }) c.parse_words.ensures

pub returns-in_default-clause-one : goal.returns-in_default-clause-one
returns-in_default-clause-one c =
    let d = c.in_default in
    asks_one c.args.line.now (record {
      no_help = d.not-help;
      no_health = d.not-health;
      no_routes = d.not-routes;
      no_servers = d.not-servers;
      no_drain = d.not-text;
      no_stop = d.not-stop;
      no_events = d.not-events;
      no_full = d.not-text-2;
      no_config = d.not-config;
      no_metrics = d.not-metrics;
      no_record = d.not-record;
    })
