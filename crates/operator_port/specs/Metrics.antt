-- The figures in Prometheus' text format.
use Rattle.std.specs.Prelude.{ℕ, ◌+◌, ◌-◌, ◌^◌, ◌==◌, List, [], ◌∷◌, ◌++◌, map, flat_map, min, sum_by, count_by, cond, codes, decimal, string_bytes}
use Rattle.mux_history.specs.declared.delays.Spans.{Spans}
use Rattle.mux_history.specs.declared.delays.TheConstants.{BOUNDS}
use Rattle.mux_history.specs.Delaying.{bucket_of, count_to}
use Rattle.hub_close.specs.declared.words.DownWord.{DownWord}
use Rattle.hub_close.specs.declared.words.DownWord.TheVariants as down
use Rattle.hub_close.specs.declared.words.UpWord.{UpWord}
use Rattle.hub_close.specs.declared.words.UpWord.TheVariants as up
use Rattle.operator_port.specs.declared.counters.Counter.{Counter}
use Rattle.operator_port.specs.declared.counters.Counter.TheVariants as counters
use Rattle.operator_port.specs.declared.counters.ServerCounter.{ServerCounter}
use Rattle.operator_port.specs.declared.counters.ServerCounter.TheVariants as of_work
use Rattle.operator_port.specs.declared.ends.Ends.{Ends}
use Rattle.operator_port.specs.declared.ends.Ends.TheVariants as ends
use Rattle.operator_port.specs.declared.figures.Bucket.{Bucket}
use Rattle.operator_port.specs.declared.figures.ClientRow.{ClientRow}
use Rattle.operator_port.specs.declared.figures.EndRow.{EndRow}
use Rattle.operator_port.specs.declared.figures.Figures.{Figures}
use Rattle.operator_port.specs.declared.figures.Latency.{Latency}
use Rattle.operator_port.specs.declared.figures.ServerRow.{ServerRow}
use Rattle.operator_port.specs.declared.figures.ServerWork.{ServerWork}
use Rattle.operator_port.specs.declared.figures.Traffic.{Traffic}
use Rattle.operator_port.specs.declared.sample.ClientFigure.{ClientFigure}
use Rattle.operator_port.specs.declared.sample.ClientFigure.TheVariants as of_client
use Rattle.operator_port.specs.declared.sample.ServerFigure.{ServerFigure}
use Rattle.operator_port.specs.declared.sample.ServerFigure.TheVariants as of_server
use Rattle.operator_port.specs.declared.metrics.Family.{Family}
use Rattle.operator_port.specs.declared.metrics.TheConstants.{VERSION}
use Rattle.operator_port.specs.declared.metrics.Family.TheVariants as families
use Rattle.operator_port.specs.declared.destinations.DestinationCounter.TheVariants as of_destination
use Rattle.operator_port.specs.Destinations.{destination_family, destination_help, destination_sample}
use Rattle.operator_port.specs.Ends.{end_text, ends_family, ends_help, ends_rows}
use Rattle.operator_port.specs.Escapes.{label_byte}
use Rattle.operator_port.specs.Seconds.{lease_seconds, seconds_of_micros, seconds_of_millis}
use Rattle.operator_port.specs.States.{down_code, down_text, up_code, up_text}

-- LINES

-- what a family is for, and of which type it is: two lines
abbrev pub head : (name help kind : List ℕ) → List ℕ
head name help kind =
    codes "# HELP " ++ (name ++ (codes " " ++ (help ++ (codes "\n# TYPE " ++ (name ++ (codes " " ++ kind))))))

-- a value by its text
abbrev pub text_line : (name text : List ℕ) → List ℕ
text_line name text = name ++ (codes " " ++ text)

abbrev pub value_line : List ℕ → ℕ → List ℕ
value_line name value = text_line name (decimal value)

abbrev pub one_value : (name help kind : List ℕ) → ℕ → List (List ℕ)
one_value name help kind value = head name help kind ∷ value_line name value ∷ []

-- the same with a label
abbrev pub labelled_line : (name label of text : List ℕ) → List ℕ
labelled_line name label of text =
    name ++ (codes "{" ++ (label ++ (codes "=\"" ++ (flat_map label_byte of ++ (codes "\"} " ++ text)))))

abbrev pub sample_line : (name label of : List ℕ) → ℕ → List ℕ
sample_line name label of value = labelled_line name label of (decimal value)

-- VALUES

-- a sum that stops at the greatest number of 64 bits
abbrev pub sum_to : {X : Type 0} → (X → ℕ) → List X → ℕ
sum_to f xs = min (sum_by f xs) (2 ^ 64 - 1)

abbrev pub client_figure : ClientFigure → ClientRow → ℕ
client_figure of_client.Entries row = row.entries
client_figure of_client.Records row = row.records
client_figure of_client.Epochs row = row.epoch
client_figure of_client.Queued row = row.queued

abbrev pub server_figure : ServerFigure → ServerRow → ℕ
server_figure of_server.Up row = cond (up_code row.word == 4) 1 0
server_figure of_server.Load row = row.load
server_figure of_server.Ejected row = cond (row.ejected == 0) 0 1
server_figure of_server.Records row = row.records
server_figure of_server.Epochs row = row.epoch
server_figure of_server.Queued row = row.queued

abbrev pub counter_figure : Counter → Traffic → ℕ
counter_figure counters.Dispatches t = min (t.steps.took + t.steps.took_drained) (2 ^ 64 - 1)
counter_figure counters.Discards t = t.steps.discarded
counter_figure counters.Replies t = t.steps.passed
counter_figure counters.Nacks t = t.steps.nacked
counter_figure counters.DrainedNacks t = t.steps.took_drained
counter_figure counters.NoRoute t = t.steps.unrouted
counter_figure counters.UpstreamLost t = t.steps.failed
counter_figure counters.Retries t = t.steps.retried
counter_figure counters.LateAnswers t = t.steps.late
counter_figure counters.ClientFramesRead t = t.clients.frames_read
counter_figure counters.ClientFramesWritten t = t.clients.frames_written
counter_figure counters.ClientBytesRead t = t.clients.bytes_read
counter_figure counters.ClientBytesWritten t = t.clients.bytes_written
counter_figure counters.ServerFramesRead t = t.servers.frames_read
counter_figure counters.ServerFramesWritten t = t.servers.frames_written
counter_figure counters.ServerBytesRead t = t.servers.bytes_read
counter_figure counters.ServerBytesWritten t = t.servers.bytes_written

abbrev pub client_family : ClientFigure → List ℕ
client_family of_client.Entries = codes "voltgalley_open_dispatches"
client_family of_client.Records = codes "voltgalley_client_records"
client_family of_client.Epochs = codes "voltgalley_client_epochs"
client_family of_client.Queued = codes "voltgalley_client_queued_frames"

abbrev pub server_family : ServerFigure → List ℕ
server_family of_server.Up = codes "voltgalley_server_up"
server_family of_server.Load = codes "voltgalley_server_load"
server_family of_server.Ejected = codes "voltgalley_server_ejected"
server_family of_server.Records = codes "voltgalley_server_records"
server_family of_server.Epochs = codes "voltgalley_server_epoch"
server_family of_server.Queued = codes "voltgalley_server_queued_frames"

abbrev pub client_help : ClientFigure → List ℕ
client_help of_client.Entries = codes "Dispatches that clients hold."
client_help of_client.Records = codes "Records of the present epochs of clients' sessions."
client_help of_client.Epochs = codes "Epochs of clients' sessions that were ended."
client_help of_client.Queued = codes "Frames that clients haven't read yet."

abbrev pub server_help : ServerFigure → List ℕ
server_help of_server.Up = codes "1 if the server is open, else 0."
server_help of_server.Load = codes "Dispatches that the server has."
server_help of_server.Ejected = codes "1 if the server is asked last, else 0."
server_help of_server.Records = codes "Records of the present epoch of the server's session."
server_help of_server.Epochs = codes "Epochs of the server's session that were ended."
server_help of_server.Queued = codes "Frames that the server hasn't read yet."

abbrev pub counter_family : Counter → List ℕ
counter_family counters.Dispatches = codes "voltgalley_dispatches_total"
counter_family counters.Discards = codes "voltgalley_discards_total"
counter_family counters.Replies = codes "voltgalley_replies_total"
counter_family counters.Nacks = codes "voltgalley_nacks_total"
counter_family counters.DrainedNacks = codes "voltgalley_drained_nacks_total"
counter_family counters.NoRoute = codes "voltgalley_no_route_total"
counter_family counters.UpstreamLost = codes "voltgalley_upstream_lost_total"
counter_family counters.Retries = codes "voltgalley_retries_total"
counter_family counters.LateAnswers = codes "voltgalley_late_answers_total"
counter_family counters.ClientFramesRead = codes "voltgalley_client_read_frames_total"
counter_family counters.ClientFramesWritten = codes "voltgalley_client_written_frames_total"
counter_family counters.ClientBytesRead = codes "voltgalley_client_read_bytes_total"
counter_family counters.ClientBytesWritten = codes "voltgalley_client_written_bytes_total"
counter_family counters.ServerFramesRead = codes "voltgalley_server_read_frames_total"
counter_family counters.ServerFramesWritten = codes "voltgalley_server_written_frames_total"
counter_family counters.ServerBytesRead = codes "voltgalley_server_read_bytes_total"
counter_family counters.ServerBytesWritten = codes "voltgalley_server_written_bytes_total"

abbrev pub counter_help : Counter → List ℕ
counter_help counters.Dispatches = codes "Dispatches that were taken from clients."
counter_help counters.Discards = codes "Open dispatches that clients discarded."
counter_help counters.Replies = codes "Replies of servers that were passed on to clients, nacks among them."
counter_help counters.Nacks = codes "Dispatches that no server could take."
counter_help counters.DrainedNacks = codes "Dispatches that came behind their client's Rdrain."
counter_help counters.NoRoute = codes "Dispatches to a destination without a route."
counter_help counters.UpstreamLost = codes "Dispatches whose server was lost before it answered."
counter_help counters.Retries = codes "Nacks of servers after which another try was made."
counter_help counters.LateAnswers = codes "Answers to dispatches that were discarded, or whose client was gone."
counter_help counters.ClientFramesRead = codes "Frames that were read from clients."
counter_help counters.ClientFramesWritten = codes "Frames that were handed over to be written to clients."
counter_help counters.ClientBytesRead = codes "Bytes of the frames that were read from clients."
counter_help counters.ClientBytesWritten = codes "Bytes of the frames that were handed over to be written to clients."
counter_help counters.ServerFramesRead = codes "Frames that were read from servers."
counter_help counters.ServerFramesWritten = codes "Frames that were handed over to be written to servers."
counter_help counters.ServerBytesRead = codes "Bytes of the frames that were read from servers."
counter_help counters.ServerBytesWritten = codes "Bytes of the frames that were handed over to be written to servers."

abbrev pub work_figure : ServerCounter → ServerWork → ℕ
work_figure of_work.Sendings w = w.steps.offered
work_figure of_work.Replies w = w.steps.settled
work_figure of_work.Nacks w = w.steps.settled_nack
work_figure of_work.Errors w = w.errors
work_figure of_work.LostSendings w = w.steps.lost_one

abbrev pub work_family : ServerCounter → List ℕ
work_family of_work.Sendings = codes "voltgalley_server_sendings_total"
work_family of_work.Replies = codes "voltgalley_server_replies_total"
work_family of_work.Nacks = codes "voltgalley_server_nacks_total"
work_family of_work.Errors = codes "voltgalley_server_errors_total"
work_family of_work.LostSendings = codes "voltgalley_server_lost_sendings_total"

abbrev pub work_help : ServerCounter → List ℕ
work_help of_work.Sendings = codes "Dispatches that were sent to the server."
work_help of_work.Replies = codes "Replies of the server that are no nack."
work_help of_work.Nacks = codes "Replies of the server that are a nack."
work_help of_work.Errors = codes "Replies of the server that are an error."
work_help of_work.LostSendings = codes "Dispatches that the server had when it was lost."

-- SAMPLES

abbrev pub client_state_line : List ClientRow → DownWord → List ℕ
client_state_line rows word =
    sample_line (codes "voltgalley_clients") (codes "state") (down_text word)
    (count_by (λ c. down_code c.word == down_code word) rows)

abbrev pub server_state_line : List ServerRow → UpWord → List ℕ
server_state_line rows word =
    sample_line (codes "voltgalley_servers") (codes "state") (up_text word)
    (count_by (λ s. up_code s.word == up_code word) rows)

abbrev pub server_sample : ServerFigure → ServerRow → List ℕ
server_sample figure row =
    sample_line (server_family figure) (codes "server") (string_bytes row.name) (server_figure figure row)

abbrev pub work_sample : ServerCounter → ServerWork → List ℕ
work_sample counter w =
    sample_line (work_family counter) (codes "server") (string_bytes w.name) (work_figure counter w)

abbrev pub end_sample : Ends → EndRow → List ℕ
end_sample kind row = sample_line (ends_family kind) (codes "cause") (end_text row.end) row.count

abbrev pub lease_sample : (now : ℕ) → ServerRow → List ℕ
lease_sample now row =
    labelled_line (codes "voltgalley_server_lease_seconds") (codes "server") (string_bytes row.name)
    (lease_seconds row.lapse now)

abbrev pub down_words : List DownWord
down_words = down.Open ∷ down.Draining ∷ down.Drained ∷ down.Closed ∷ []

abbrev pub up_words : List UpWord
up_words = up.Opening ∷ up.Open ∷ up.Retired ∷ up.Drained ∷ up.Closed ∷ []

-- how many took no longer than a bound
abbrev pub bucket_line : List ℕ → ℕ → List ℕ
bucket_line bound count =
    sample_line (codes "voltgalley_dispatch_seconds_bucket") (codes "le") bound count

abbrev pub bucket_sample : Bucket → List ℕ
bucket_sample b = bucket_line (seconds_of_micros b.bound) b.count

-- the last bucket, which has all, and what they took together
abbrev pub histogram_totals : (count sum : ℕ) → List (List ℕ)
histogram_totals count sum =
    bucket_line (codes "+Inf") count
    ∷ text_line (codes "voltgalley_dispatch_seconds_sum") (seconds_of_micros sum)
    ∷ value_line (codes "voltgalley_dispatch_seconds_count") count ∷ []

abbrev pub histogram : Latency → List (List ℕ)
histogram l =
    head (codes "voltgalley_dispatch_seconds") (codes "How long dispatches took.") (codes "histogram")
    ∷ (map bucket_sample l.buckets.items ++ histogram_totals l.count l.sum)

-- the same of those to a server, by what its replies were; its name has letters, digits and hyphens alone

abbrev pub server_bucket : (server outcome bound : List ℕ) → ℕ → List ℕ
server_bucket server outcome bound count =
    codes "voltgalley_server_dispatch_seconds_bucket{server=\"" ++ (server ++ (codes "\",outcome=\"" ++ (outcome
    ++ (codes "\",le=\"" ++ (bound ++ (codes "\"} " ++ decimal count))))))

abbrev pub server_bucket_sample : (server outcome : List ℕ) → Spans → (bound : ℕ) → List ℕ
server_bucket_sample server outcome s bound =
    server_bucket server outcome (seconds_of_millis bound) (count_to (bucket_of bound + 1) s)

abbrev pub server_seconds : (server outcome seconds : List ℕ) → List ℕ
server_seconds server outcome seconds =
    codes "voltgalley_server_dispatch_seconds_sum{server=\"" ++ (server ++ (codes "\",outcome=\"" ++ (outcome
    ++ (codes "\"} " ++ seconds))))

abbrev pub server_sum : (server outcome : List ℕ) → ℕ → List ℕ
server_sum server outcome sum = server_seconds server outcome (seconds_of_millis sum)

abbrev pub server_count : (server outcome : List ℕ) → ℕ → List ℕ
server_count server outcome count =
    codes "voltgalley_server_dispatch_seconds_count{server=\"" ++ (server ++ (codes "\",outcome=\"" ++ (outcome
    ++ (codes "\"} " ++ decimal count))))

abbrev pub server_totals : (server outcome : List ℕ) → (count sum : ℕ) → List (List ℕ)
server_totals server outcome count sum =
    server_bucket server outcome (codes "+Inf") count ∷ server_sum server outcome sum
    ∷ server_count server outcome count ∷ []

abbrev pub spans_lines : (server outcome : List ℕ) → Spans → List (List ℕ)
spans_lines server outcome s =
    map (server_bucket_sample server outcome s) BOUNDS ++ server_totals server outcome (count_to 13 s) s.sum

abbrev pub server_histogram : ServerWork → List (List ℕ)
server_histogram w =
    spans_lines (string_bytes w.name) (codes "reply") w.delays.replies
    ++ spans_lines (string_bytes w.name) (codes "nack") w.delays.nacks

-- FAMILIES: two lines of what it is, and its values

abbrev pub gauge : (name help : List ℕ) → List ℕ
gauge name help = head name help (codes "gauge")

abbrev pub build_info : (version : List ℕ) → List (List ℕ)
build_info version =
    gauge (codes "voltgalley_build_info") (codes "1, with the version of the router.")
    ∷ sample_line (codes "voltgalley_build_info") (codes "version") version 1 ∷ []

abbrev pub boot_lines : ℕ → List (List ℕ)
boot_lines boot = one_value (codes "voltgalley_boot") (codes "The number of the boot.") (codes "gauge") boot

abbrev pub uptime_lines : (elapsed : ℕ) → List (List ℕ)
uptime_lines elapsed =
    gauge (codes "voltgalley_uptime_seconds") (codes "Time since the router's start.")
    ∷ text_line (codes "voltgalley_uptime_seconds") (seconds_of_millis elapsed) ∷ []

abbrev pub family_lines : Figures → Family → List (List ℕ)
family_lines f families.BuildInfo = build_info VERSION.now
family_lines f families.Boot = boot_lines f.boot
family_lines f families.Uptime = uptime_lines f.elapsed
family_lines f families.Clients =
    gauge (codes "voltgalley_clients") (codes "Sessions of clients by how they stand.")
    ∷ map (client_state_line f.clients.items) down_words
family_lines f families.Servers =
    gauge (codes "voltgalley_servers") (codes "Servers by how they stand.") ∷ map (server_state_line f.servers.items) up_words
family_lines f (families.OfClients figure) =
    one_value (client_family figure) (client_help figure) (codes "gauge") (sum_to (client_figure figure) f.clients.items)
family_lines f (families.OfServers figure) =
    gauge (server_family figure) (server_help figure) ∷ map (server_sample figure) f.servers.items
family_lines f families.Leases =
    gauge (codes "voltgalley_server_lease_seconds") (codes "What is left of the server's lease.")
    ∷ map (lease_sample f.elapsed) f.servers.items
family_lines f (families.Counter c) =
    one_value (counter_family c) (counter_help c) (codes "counter") (counter_figure c f.traffic)
family_lines f (families.OfWork counter) =
    head (work_family counter) (work_help counter) (codes "counter") ∷ map (work_sample counter) f.work.items
family_lines f (families.OfDestinations counter) =
    head (destination_family counter) (destination_help counter) (codes "counter")
    ∷ map (destination_sample counter) f.destinations.items
family_lines f (families.Ended kind) =
    head (ends_family kind) (ends_help kind) (codes "counter") ∷ map (end_sample kind) (ends_rows kind f.ended)
family_lines f families.Latency = histogram f.latency
family_lines f families.ServerLatency =
    head (codes "voltgalley_server_dispatch_seconds") (codes "How long dispatches to the server took.") (codes "histogram")
    ∷ flat_map server_histogram f.work.items

abbrev pub all_families : List Family
all_families =
    families.BuildInfo ∷ families.Boot ∷ families.Uptime ∷ families.Clients ∷ families.Servers
    ∷ families.OfClients of_client.Entries ∷ families.OfClients of_client.Records
    ∷ families.OfClients of_client.Epochs ∷ families.OfClients of_client.Queued
    ∷ families.OfServers of_server.Up ∷ families.OfServers of_server.Load ∷ families.OfServers of_server.Ejected ∷ families.Leases
    ∷ families.OfServers of_server.Records ∷ families.OfServers of_server.Epochs ∷ families.OfServers of_server.Queued
    ∷ families.Counter counters.Dispatches ∷ families.Counter counters.Discards
    ∷ families.Counter counters.Replies ∷ families.Counter counters.Nacks
    ∷ families.Counter counters.DrainedNacks ∷ families.Counter counters.NoRoute
    ∷ families.Counter counters.UpstreamLost ∷ families.Counter counters.Retries
    ∷ families.Counter counters.LateAnswers
    ∷ families.OfWork of_work.Sendings ∷ families.OfWork of_work.Replies ∷ families.OfWork of_work.Nacks
    ∷ families.OfWork of_work.Errors ∷ families.OfWork of_work.LostSendings
    ∷ families.OfDestinations of_destination.Dispatches ∷ families.OfDestinations of_destination.Nacks
    ∷ families.Counter counters.ClientFramesRead ∷ families.Counter counters.ClientFramesWritten
    ∷ families.Counter counters.ClientBytesRead ∷ families.Counter counters.ClientBytesWritten
    ∷ families.Counter counters.ServerFramesRead ∷ families.Counter counters.ServerFramesWritten
    ∷ families.Counter counters.ServerBytesRead ∷ families.Counter counters.ServerBytesWritten
    ∷ families.Ended ends.Clients ∷ families.Ended ends.Servers ∷ families.Ended ends.TurnedAway
    ∷ families.Latency ∷ families.ServerLatency ∷ []

unfoldable pub metric_lines : Figures → List (List ℕ)
metric_lines f = flat_map (family_lines f) all_families ++ (codes "# EOF" ∷ [])
