use Rattle.std.proofs.Common.{None, ap, sym, ◌∙◌, arith}
use Rattle.translate_book.specs.declared.entry.Change.TheVariants as changes
use Rattle.server_session.proofs.Books.{Entries}
use Rattle.server_session.proofs.Soundness.{lighter}
use Rattle.server_session.proofs.Shutting.{shut_again, shut_none}
use Rattle.server_session.proofs.session.ServerSession.shut_down.Invariants.{shutting_down}
use Rattle.server_session.proofs.session.ServerSession.shut_down.Goals as goal

pub loop-seq-preserved : goal.loop-seq-preserved
loop-seq-preserved c =
    let x = c.in-Some.ensures.some in
    let freed = c.change-effect.ensures.records x.0 x.1 in
    let light = lighter (changes.Shut None) x.0 tt in
    record {
      shut =
          ap shutting_down c.change-effect.ensures.new
          ∙ ap (λ (es : Entries). record c.loop-seq.self { book = es }) (shut_again c.in-Some.seq c.loop-seq.self.book x.0 x.1 x.2)
          ∙ c.loop-seq.invariant.shut;
      records = omega (arith, c.loop-seq.invariant.records, freed, light);
    }

pub returns-clause-new : goal.returns-clause-new
returns-clause-new c =
    ap (λ (es : Entries). record c.loop-seq.self { book = es }) (sym (shut_none c.loop-seq.self.book c.in_default.ensures.none)) ∙ c.loop-seq.invariant.shut
