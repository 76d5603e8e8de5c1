use Rattle.hub.proofs.OneCall.{every_reply_goes_home}
use Rattle.hub.proofs.laws.a_reply_goes_home.Goals as goal

pub returns : goal.returns
returns c = record { home = every_reply_goes_home }
