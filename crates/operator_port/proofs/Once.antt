-- A line that asks one question.
use Rattle.std.proofs.Common.{◌≡◌, ◌⊎◌, ◌++◌, ◌==◌, inl, inr, ℕ, List, get_or, false, codes, refl, sym, ap, ◌∙◌}
use Rattle.std.proofs.lemmas.Bool.{both_ways, eq-eqb}
use Rattle.std.proofs.lemmas.List.{append_cancel_left}
use Rattle.std.specs.declared.net.socket_addr.SocketAddr.{SocketAddr}
use Rattle.std.specs.Str.Parse.{digits_value}
use Rattle.mux_history.specs.declared.session.InitMode.{InitMode}
use Rattle.operator_port.specs.Questions.{Query, help, health, routes, servers, server, forget, drain_all, rejoin, cut, stop, events, full, config, metrics, script, Places, Spells, StopsIn}
use Rattle.operator_port.proofs.Placed.{places_one}
use Rattle.operator_port.proofs.Unasked.{IsNone}

-- what a line of more words asks
abbrev Worded : Query → List ℕ → Type 0
Worded query line =
    ((name : List ℕ) × (query ≡ rejoin name) × (line ≡ codes "rejoin " ++ name))
    ⊎ ((name : List ℕ) × (query ≡ cut name) × (line ≡ codes "cut " ++ name))
    ⊎ ((name : List ℕ) × (query ≡ forget name) × (line ≡ codes "forget " ++ name))
    ⊎ ((name : List ℕ) × (address : SocketAddr) × (init : InitMode) × (query ≡ server name address init) × Places name address init line)
    ⊎ ((seconds : ℕ) × (query ≡ stop seconds) × StopsIn seconds line)

worded : (line : List ℕ) → IsNone line → (query : Query) → Spells query line → Worded query line
worded line none help k = absurd (none.no_help k)
worded line none health k = absurd (none.no_health k)
worded line none routes k = absurd (none.no_routes k)
worded line none servers k = absurd (none.no_servers k)
worded line none (server name address init) k = inr (inr (inr (inl (name, address, init, refl, k))))
worded line none (forget name) k = inr (inr (inl (name, refl, k.0)))
worded line none drain_all k = absurd (none.no_drain k)
worded line none (rejoin name) k = inl (name, refl, k.0)
worded line none (cut name) k = inr (inl (name, refl, k.0))
worded line none (stop seconds) (inl k) = absurd (none.no_stop k.0)
worded line none (stop seconds) (inr k) = inr (inr (inr (inr (seconds, refl, k))))
worded line none events k = absurd (none.no_events k)
worded line none full k = absurd (none.no_full k)
worded line none config k = absurd (none.no_config k)
worded line none metrics k = absurd (none.no_metrics k)
worded line none script k = absurd (none.no_record k)

same_name : (word name other line : List ℕ) → line ≡ word ++ name → line ≡ word ++ other → name ≡ other
same_name word name other line is same = append_cancel_left word name other (sym is ∙ same)

same_server : (name other : List ℕ) (a b : SocketAddr) (i j : InitMode) → (name ≡ other) × (a ≡ b) × (i ≡ j) → server name a i ≡ server other b j
same_server name other a b i j (names, addresses, inits) = cc

same_stop : (n m : ℕ) (line : List ℕ) → StopsIn n line → StopsIn m line → n ≡ m
same_stop n m line (digits, is, (_, value, _), _) (others, same, (_, worth, _), _) =
    sym value ∙ ap (digits_value 10) (same_name (codes "stop ") digits others line is same) ∙ worth

-- two lines of one text are alike at each place
apart : (i c d : ℕ) (one other line : List ℕ) → line ≡ one → line ≡ other → get_or one i 0 ≡ c → get_or other i 0 ≡ d → (c == d) ≡ false → ⊥
apart i c d one other line is same here there unlike =
    both_ways (c == d) unlike (eq-eqb c d (sym here ∙ ap (λ l. get_or l i 0) (sym is ∙ same) ∙ there))

words_one : (one other : Query) (line : List ℕ) → Worded one line → Worded other line → one ≡ other
words_one one other line (inl (name, is, at)) (inl (named, same, to)) = is ∙ ap rejoin (same_name (codes "rejoin ") name named line at to) ∙ sym same
words_one one other line (inl (name, is, at)) (inr (inl (named, same, to))) = absurd (apart 0 114 99 _ _ line at to refl refl refl)
words_one one other line (inl (name, is, at)) (inr (inr (inl (named, same, to)))) = absurd (apart 0 114 102 _ _ line at to refl refl refl)
words_one one other line (inl (name, is, at)) (inr (inr (inr (inl (named, address, init, same, (place, to, _, _)))))) = absurd (apart 0 114 115 _ _ line at to refl refl refl)
words_one one other line (inl (name, is, at)) (inr (inr (inr (inr (seconds, same, (digits, to, _, _)))))) = absurd (apart 0 114 115 _ _ line at to refl refl refl)
words_one one other line (inr (inl (name, is, at))) (inl (named, same, to)) = absurd (apart 0 99 114 _ _ line at to refl refl refl)
words_one one other line (inr (inl (name, is, at))) (inr (inl (named, same, to))) = is ∙ ap cut (same_name (codes "cut ") name named line at to) ∙ sym same
words_one one other line (inr (inl (name, is, at))) (inr (inr (inl (named, same, to)))) = absurd (apart 0 99 102 _ _ line at to refl refl refl)
words_one one other line (inr (inl (name, is, at))) (inr (inr (inr (inl (named, address, init, same, (place, to, _, _)))))) = absurd (apart 0 99 115 _ _ line at to refl refl refl)
words_one one other line (inr (inl (name, is, at))) (inr (inr (inr (inr (seconds, same, (digits, to, _, _)))))) = absurd (apart 0 99 115 _ _ line at to refl refl refl)
words_one one other line (inr (inr (inl (name, is, at)))) (inl (named, same, to)) = absurd (apart 0 102 114 _ _ line at to refl refl refl)
words_one one other line (inr (inr (inl (name, is, at)))) (inr (inl (named, same, to))) = absurd (apart 0 102 99 _ _ line at to refl refl refl)
words_one one other line (inr (inr (inl (name, is, at)))) (inr (inr (inl (named, same, to)))) = is ∙ ap forget (same_name (codes "forget ") name named line at to) ∙ sym same
words_one one other line (inr (inr (inl (name, is, at)))) (inr (inr (inr (inl (named, address, init, same, (place, to, _, _)))))) = absurd (apart 0 102 115 _ _ line at to refl refl refl)
words_one one other line (inr (inr (inl (name, is, at)))) (inr (inr (inr (inr (seconds, same, (digits, to, _, _)))))) = absurd (apart 0 102 115 _ _ line at to refl refl refl)
words_one one other line (inr (inr (inr (inl (name, address, init, is, (place, at, _, _)))))) (inl (named, same, to)) = absurd (apart 0 115 114 _ _ line at to refl refl refl)
words_one one other line (inr (inr (inr (inl (name, address, init, is, (place, at, _, _)))))) (inr (inl (named, same, to))) = absurd (apart 0 115 99 _ _ line at to refl refl refl)
words_one one other line (inr (inr (inr (inl (name, address, init, is, (place, at, _, _)))))) (inr (inr (inl (named, same, to)))) = absurd (apart 0 115 102 _ _ line at to refl refl refl)
words_one one other line (inr (inr (inr (inl (name, address, init, is, at))))) (inr (inr (inr (inl (named, addressed, begins, same, to))))) =
    is ∙ same_server name named address addressed init begins (places_one name named address addressed init begins line at to) ∙ sym same
words_one one other line (inr (inr (inr (inl (name, address, init, is, (place, at, _, _)))))) (inr (inr (inr (inr (seconds, same, (digits, to, _, _)))))) = absurd (apart 1 101 116 _ _ line at to refl refl refl)
words_one one other line (inr (inr (inr (inr (seconds, is, (digits, at, _, _)))))) (inl (named, same, to)) = absurd (apart 0 115 114 _ _ line at to refl refl refl)
words_one one other line (inr (inr (inr (inr (seconds, is, (digits, at, _, _)))))) (inr (inl (named, same, to))) = absurd (apart 0 115 99 _ _ line at to refl refl refl)
words_one one other line (inr (inr (inr (inr (seconds, is, (digits, at, _, _)))))) (inr (inr (inl (named, same, to)))) = absurd (apart 0 115 102 _ _ line at to refl refl refl)
words_one one other line (inr (inr (inr (inr (seconds, is, (digits, at, _, _)))))) (inr (inr (inr (inl (named, address, init, same, (place, to, _, _)))))) = absurd (apart 1 116 101 _ _ line at to refl refl refl)
words_one one other line (inr (inr (inr (inr (seconds, is, at))))) (inr (inr (inr (inr (later, same, to))))) =
    is ∙ ap stop (same_stop seconds later line at to) ∙ sym same

-- a line that is none of the whole lines asks one question at most
pub asks_one : (line : List ℕ) → IsNone line → (one other : Query) → Spells one line → Spells other line → one ≡ other
asks_one line none one other k l = words_one one other line (worded line none one k) (worded line none other l)
