use Rattle.std.specs.Prelude.{◌≡◌, ◌≤◌}
use Rattle.translate_book.specs.Book.{open_count}
use Rattle.server_session.specs.State.{State, shut_down, figures_in}
use Rattle.server_session.specs.Decide.{free_records}
use Rattle.server_session.proofs.session.ServerSession.shut_down.Given as goal

abbrev pub shutting_down : State → State
shutting_down s = record s { book = shut_down s.book }

abbrev pub invariant-loop-seq : goal.invariant-loop-seq
invariant-loop-seq l = record {
  shut : shutting_down l.self ≡ shutting_down l.fn.self;
  records : free_records (figures_in l.fn.self) ≤ free_records (figures_in l.self);
}

abbrev pub decreases-loop-seq : goal.decreases-loop-seq
decreases-loop-seq l = open_count l.self.book
