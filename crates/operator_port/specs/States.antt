-- How sessions stand.
use Rattle.std.specs.Prelude.{ℕ, List, codes}
use Rattle.hub_close.specs.declared.words.DownWord.{DownWord}
use Rattle.hub_close.specs.declared.words.DownWord.TheVariants as down
use Rattle.hub_close.specs.declared.words.UpWord.{UpWord}
use Rattle.hub_close.specs.declared.words.UpWord.TheVariants as up

abbrev pub down_text : DownWord → List ℕ
down_text down.Closed = codes "closed"
down_text down.Drained = codes "drained"
down_text down.Draining = codes "draining"
down_text down.Open = codes "open"

abbrev pub up_text : UpWord → List ℕ
up_text up.Closed = codes "closed"
up_text up.Drained = codes "drained"
up_text up.Retired = codes "retired"
up_text up.Opening = codes "opening"
up_text up.Open = codes "open"

-- one number for each, to compare by
abbrev pub down_code : DownWord → ℕ
down_code down.Closed = 0
down_code down.Drained = 1
down_code down.Draining = 2
down_code down.Open = 3

abbrev pub up_code : UpWord → ℕ
up_code up.Closed = 0
up_code up.Drained = 1
up_code up.Retired = 2
up_code up.Opening = 3
up_code up.Open = 4
