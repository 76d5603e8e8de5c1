-- A line that asks nothing.
use Rattle.std.proofs.Common.{◌≡◌, inl, inr, ℕ, List, Option, Some, None, MatchOption, codes}
use Rattle.std.specs.declared.net.socket_addr.SocketAddr.{SocketAddr}
use Rattle.mux_history.specs.declared.session.InitMode.{InitMode}
use Rattle.operator_port.specs.declared.question.Question.{Question}
use Rattle.operator_port.specs.Questions.{Query, help, health, routes, servers, server, forget, drain_all, rejoin, cut, stop, events, full, config, metrics, script, AsksByWords, Names, Places, Spells, StopsIn, view}

-- it is none of the whole lines, and no word with a name or a number
pub record IsNone (line : List ℕ) : Type 0 where
  pub no_help : line ≡ codes "help" → ⊥
  pub no_health : line ≡ codes "health" → ⊥
  pub no_routes : line ≡ codes "routes" → ⊥
  pub no_servers : line ≡ codes "servers" → ⊥
  pub no_drain : line ≡ codes "drain all" → ⊥
  pub no_stop : line ≡ codes "stop" → ⊥
  pub no_events : line ≡ codes "events" → ⊥
  pub no_full : line ≡ codes "status full" → ⊥
  pub no_config : line ≡ codes "config" → ⊥
  pub no_metrics : line ≡ codes "metrics" → ⊥
  pub no_record : line ≡ codes "record" → ⊥

-- a line that begins with none of the words asks nothing by one
pub no_words : (line : List ℕ) → ((name : List ℕ) → Names (codes "rejoin ") name line → ⊥)
    → ((name : List ℕ) → Names (codes "cut ") name line → ⊥) → ((name : List ℕ) → Names (codes "forget ") name line → ⊥)
    → ((name : List ℕ) (address : SocketAddr) (init : InitMode) → Places name address init line → ⊥)
    → ((seconds : ℕ) → StopsIn seconds line → ⊥) → AsksByWords line → ⊥
no_words line no_rejoin no_cut no_forget no_server no_number (inl (name, k)) = no_rejoin name k
no_words line no_rejoin no_cut no_forget no_server no_number (inr (inl (name, k))) = no_cut name k
no_words line no_rejoin no_cut no_forget no_server no_number (inr (inr (inl (name, k)))) = no_forget name k
no_words line no_rejoin no_cut no_forget no_server no_number (inr (inr (inr (inl (name, address, init, k))))) = no_server name address init k
no_words line no_rejoin no_cut no_forget no_server no_number (inr (inr (inr (inr (seconds, k))))) = no_number seconds k

unasked : (line : List ℕ) → IsNone line → (AsksByWords line → ⊥) → (query : Query) → Spells query line → ⊥
unasked line none wordless help k = none.no_help k
unasked line none wordless health k = none.no_health k
unasked line none wordless routes k = none.no_routes k
unasked line none wordless servers k = none.no_servers k
unasked line none wordless (server name address init) k = wordless (inr (inr (inr (inl (name, address, init, k)))))
unasked line none wordless (forget name) k = wordless (inr (inr (inl (name, k))))
unasked line none wordless drain_all k = none.no_drain k
unasked line none wordless (rejoin name) k = wordless (inl (name, k))
unasked line none wordless (cut name) k = wordless (inr (inl (name, k)))
unasked line none wordless (stop seconds) (inl k) = none.no_stop k.0
unasked line none wordless (stop seconds) (inr k) = wordless (inr (inr (inr (inr (seconds, k)))))
unasked line none wordless events k = none.no_events k
unasked line none wordless full k = none.no_full k
unasked line none wordless config k = none.no_config k
unasked line none wordless metrics k = none.no_metrics k
unasked line none wordless script k = none.no_record k

-- the same of the question that a line of more words asks, if it asks one
pub asked_by_words : (line : List ℕ) (asked : Option Question) → IsNone line
    → MatchOption asked (AsksByWords line → ⊥) (λ question. Spells (view question) line)
    → MatchOption asked ((query : Query) → Spells query line → ⊥) (λ question. Spells (view question) line)
asked_by_words line None none k = unasked line none k
asked_by_words line (Some question) none k = k
