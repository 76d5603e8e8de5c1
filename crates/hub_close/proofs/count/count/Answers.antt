use Rattle.std.proofs.Common.{arith}
use Rattle.hub_close.specs.declared.count.Class.TheVariants.{Dispatch, Reply, Gained, Used, Noted, Offered}
use Rattle.hub_close.proofs.Classes.{count_is}
use Rattle.hub_close.proofs.count.count.Goals as goal

pub returns-in-Dispatch : goal.returns-in-Dispatch
returns-in-Dispatch c = λ all is. rw c.in-Dispatch.is (omega (arith, count_is Dispatch all))

pub returns-in-Reply : goal.returns-in-Reply
returns-in-Reply c = λ all is. rw c.in-Reply.is (omega (arith, count_is Reply all))

pub returns-in-Gained : goal.returns-in-Gained
returns-in-Gained c = λ all is. rw c.in-Gained.is (omega (arith, count_is Gained all))

pub returns-in-Used : goal.returns-in-Used
returns-in-Used c = λ all is. rw c.in-Used.is (omega (arith, count_is Used all))

pub returns-in-Noted : goal.returns-in-Noted
returns-in-Noted c = λ all is. rw c.in-Noted.is (omega (arith, count_is Noted all))

pub returns-in-Offered : goal.returns-in-Offered
returns-in-Offered c = λ all is. rw c.in-Offered.is (omega (arith, count_is Offered all))
