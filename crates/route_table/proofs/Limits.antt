-- The numbers of a document are in their keys' ranges.
use Rattle.std.proofs.Common.{◌≡◌, ℕ, ◌≤◌, nat_le, ◌&&◌, if◌then◌else◌, Bool, true, false, pos, negsuc, Option, Some, None, Result, Ok, Err, refl, subst}
use Rattle.std.proofs.lemmas.Bool.{leb-true}
use Rattle.mux_history.specs.Bounds.{InRange}
use Rattle.toml.specs.Data.{Data, string, integer, float, boolean, datetime, array, table, Members}
use Rattle.route_table.specs.declared.key.Key.{Key}
use Rattle.route_table.specs.declared.key.Key.TheVariants.{Listen, Admin, Boot, MaxFrame, Window, Out, History, ServerWindow, ServerOut, ServerHistory, OutBytes, Clients, Sessions, Retries, TickMs, AdminIdleMs, ClientIdleMs, FrameMs, ServerSilentMs, Operator, MetricsHttp, ReconnectMs, EjectAfter, EjectMs, Threads, Recorded}
use Rattle.route_table.specs.declared.settings.Settings.{Settings}
use Rattle.route_table.specs.Fault.{Fault, bad_value, and_then}
use Rattle.route_table.specs.Table.{Range, value_at, in_range, number_of, number_at, address_at, optional_address_at, optional_number_at, audit_at, settings_in}

-- what the first of two steps gave, where both went well
given : {A B : Type 0} {P : Type 0} (r : Result A Fault) (next : A → Result B Fault) (b : B) → Ok b ≡ and_then r next
    → ((a : A) → r ≡ Ok a → Ok b ≡ next a → P) → P
given (Ok a) next b is rest = rest a refl is
given (Err e) next b is rest = absurd (cc)

same_ok : {A : Type 0} (a b : A) (r : Result A Fault) → r ≡ Ok a → r ≡ Ok b → a ≡ b
same_ok a b r first second = cc

judged : (b c : Bool) (m n : ℕ) (e : Fault) → (if b && c then Ok m else Err e) ≡ Ok n → (b ≡ true) × (c ≡ true) × (m ≡ n)
judged true true m n e is = (refl, refl, cc)
judged true false m n e is = absurd (cc)
judged false c m n e is = absurd (cc)

in_range_within : (key : Key) (range : Range) (m n : ℕ) → in_range key range m ≡ Ok n → (range.low ≤ n) × (n ≤ range.high)
in_range_within key range m n is =
    let (above, below, same) = judged (nat_le range.low m) (nat_le m range.high) m n (bad_value key) is in
    subst (λ k. (range.low ≤ k) × (k ≤ range.high)) same (leb-true _ _ above, leb-true _ _ below)

number_of_within : (key : Key) (range : Range) (o : Option Data) (n : ℕ) → number_of key range o ≡ Ok n → (range.low ≤ n) × (n ≤ range.high)
number_of_within key range None n is = in_range_within key range range.default n is
number_of_within key range (Some (integer (pos m))) n is = in_range_within key range m n is
number_of_within key range (Some (integer (negsuc m))) n is = absurd (cc)
number_of_within key range (Some (string text)) n is = absurd (cc)
number_of_within key range (Some (float x)) n is = absurd (cc)
number_of_within key range (Some (boolean b)) n is = absurd (cc)
number_of_within key range (Some (datetime d)) n is = absurd (cc)
number_of_within key range (Some (array ds)) n is = absurd (cc)
number_of_within key range (Some (table ms)) n is = absurd (cc)

pub number_within : (doc : Members) (key : Key) (range : Range) (n : ℕ) → number_at doc key range ≡ Ok n → (range.low ≤ n) × (n ≤ range.high)
unfolding number_at
number_within doc key range n is = number_of_within key range (value_at doc key) n is

-- and so are those of the settings, for clients' sessions and for servers'
abbrev pub AreWithin : Settings → Type 0
AreWithin s =
    InRange (record { max_frame = s.max_frame; window = s.window; out = s.out; history = s.history; retries = s.retries })
    × InRange (record { max_frame = s.max_frame; window = s.server_window; out = s.server_out; history = s.server_history; retries = s.retries })

pub settings_within : (doc : Members) (s : Settings) → Ok s ≡ settings_in doc → AreWithin s
unfolding settings_in
settings_within doc s is =
    given (address_at doc Listen) _ s is λ listen listen_is is1.
    given (address_at doc Admin) _ s is1 λ admin admin_is is2.
    given (number_at doc Boot _) _ s is2 λ boot boot_is is3.
    given (number_at doc MaxFrame _) _ s is3 λ max_frame frame_is is4.
    given (number_at doc Window _) _ s is4 λ window window_is is5.
    given (number_at doc Out _) _ s is5 λ out out_is is6.
    given (number_at doc History _) _ s is6 λ history history_is is7.
    given (number_at doc ServerWindow _) _ s is7 λ server_window server_window_is is8.
    given (number_at doc ServerOut _) _ s is8 λ server_out server_out_is is9.
    given (number_at doc ServerHistory _) _ s is9 λ server_history server_history_is is10.
    given (number_at doc OutBytes _) _ s is10 λ out_bytes out_bytes_is is11.
    given (number_at doc Clients _) _ s is11 λ clients clients_is is12.
    given (number_at doc Sessions _) _ s is12 λ sessions sessions_is is13.
    given (number_at doc Retries _) _ s is13 λ retries retries_is is14.
    given (number_at doc TickMs _) _ s is14 λ tick_ms tick_is is15.
    given (number_at doc AdminIdleMs _) _ s is15 λ admin_idle_ms idle_is is16.
    given (optional_number_at doc ClientIdleMs _) _ s is16 λ client_idle_ms client_idle_is is17.
    given (number_at doc FrameMs _) _ s is17 λ frame_ms frame_ms_is is18.
    given (optional_number_at doc ServerSilentMs _) _ s is18 λ server_silent_ms silent_is is19.
    given (optional_address_at doc Operator) _ s is19 λ operator operator_is is20.
    given (optional_address_at doc MetricsHttp) _ s is20 λ metrics_http http_is is21.
    given (optional_number_at doc ReconnectMs _) _ s is21 λ reconnect_ms reconnect_is is22.
    given (optional_number_at doc EjectAfter _) _ s is22 λ eject_after after_is is23.
    given (number_at doc EjectMs _) _ s is23 λ eject_ms eject_is is24.
    given (number_at doc Threads _) _ s is24 λ threads threads_is is25.
    given (number_at doc Recorded _) _ s is25 λ recorded recorded_is is26.
    given (audit_at doc) _ s is26 λ audit audit_is is27.
    let (frame_above, frame_below) = number_within doc MaxFrame _ max_frame frame_is in
    let (window_above, window_below) = number_within doc Window _ window window_is in
    let (out_above, out_below) = number_within doc Out _ out out_is in
    let (history_above, history_below) = number_within doc History _ history history_is in
    let (server_window_above, server_window_below) = number_within doc ServerWindow _ server_window server_window_is in
    let (server_out_above, server_out_below) = number_within doc ServerOut _ server_out server_out_is in
    let (server_history_above, server_history_below) = number_within doc ServerHistory _ server_history server_history_is in
    let (retries_above, retries_below) = number_within doc Retries _ retries retries_is in
    let whole : Settings = record {
      listen = listen;
      admin = admin;
      boot = boot;
      max_frame = max_frame;
      window = window;
      out = out;
      history = history;
      server_window = server_window;
      server_out = server_out;
      server_history = server_history;
      out_bytes = out_bytes;
      clients = clients;
      sessions = sessions;
      retries = retries;
      tick_ms = tick_ms;
      admin_idle_ms = admin_idle_ms;
      client_idle_ms = client_idle_ms;
      frame_ms = frame_ms;
      server_silent_ms = server_silent_ms;
      operator = operator;
      metrics_http = metrics_http;
      reconnect_ms = reconnect_ms;
      eject_after = eject_after;
      eject_ms = eject_ms;
      threads = threads;
      recorded = recorded;
      audit = audit;
    } in
    let same : whole ≡ s = same_ok whole s (Ok s) is27 refl in
    subst AreWithin same (
      record {
        frame_above = frame_above;
        frame_below = frame_below;
        window_above = window_above;
        window_below = window_below;
        out_above = out_above;
        out_below = out_below;
        history_above = history_above;
        history_below = history_below;
        retries_below = retries_below;
      },
      record {
        frame_above = frame_above;
        frame_below = frame_below;
        window_above = server_window_above;
        window_below = server_window_below;
        out_above = server_out_above;
        out_below = server_out_below;
        history_above = server_history_above;
        history_below = server_history_below;
        retries_below = retries_below;
      },
    )
