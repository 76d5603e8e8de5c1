use Rattle.std.proofs.Common.{ap, sym, refl, ◌∙◌}
use Rattle.translate_book.specs.Book.{entry_at, first_owing}
use Rattle.server_session.specs.State.{State}
use Rattle.server_session.proofs.Recalling.{none_owed, owing, recalled_step}
use Rattle.server_session.proofs.session.ServerSession.lose_next.Goals as goal

pub returns-in_default : goal.returns-in_default
returns-in_default c = record {
  step = λ p b.
      let ended = ap (λ (s : State). s.closed) (sym c.self.view_is) ∙ c.if-not-self.false in
      let none = ap (λ (s : State). first_owing s.book) (sym c.self.view_is) ∙ sym c.first_due.ensures ∙ c.in_default.is in
      (p, (none_owed c.args.self.now p b ended none, refl), b);
}

pub recall_next-requires : goal.recall_next-requires
recall_next-requires c =
    let o = owing c.in-Some.seq 0 c.self.inside.book.entries c.self.inside.book.last c.len-held.ensures.rising (sym c.first_due.ensures ∙ c.in-Some.is) in
    (o.0, ap (λ (s : State). entry_at c.in-Some.seq s.book) (sym c.self.view_is) ∙ o.1, o.2)

pub returns : goal.returns
returns c = record {
  step = λ p b.
      let ended = ap (λ (s : State). s.closed) (sym c.self.view_is) ∙ c.if-not-self.false in
      let first = ap (λ (s : State). first_owing s.book) (sym c.self.view_is) ∙ sym c.first_due.ensures ∙ c.in-Some.is in
      recalled_step c.args.self.now p c.in-Some.seq c.recall_next.result c.recall_next.new.self b ended first c.recall_next.ensures.result c.recall_next.ensures.new;
}
