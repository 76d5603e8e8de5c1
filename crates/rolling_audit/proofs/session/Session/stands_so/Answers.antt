use Rattle.std.proofs.Common.{ℕ, List, ◌≡◌, inl, inr, sym, ◌∙◌, subst}
use Rattle.std.proofs.lemmas.Bool.{eqb-true}
use Rattle.mux_agree.proofs.Standings.{client_so, down_so, server_so, up_so}
use Rattle.rolling_audit.proofs.Stands.{client_free, client_rests, client_waits, no_zero, not_free, server_free, server_held}
use Rattle.mux_history.specs.declared.record.Record.{Record}
use Rattle.mux_history.specs.Standings.{stands_so}
use Rattle.rolling_audit.specs.Stands.{NothingWaits, Stands}
use Rattle.rolling_audit.proofs.session.Session.stands_so.Goals as goal

pub returns-then-is_empty : goal.returns-then-is_empty
returns-then-is_empty c = record { yes = λ h boot past s. (sym (is boot past s) ∙ h, rests boot past s); no = λ h boot past s. inl (sym (is boot past s) ∙ h) }
  where
    rests : (boot : ℕ) (past : List Record) → Stands boot c.args.self.now past → NothingWaits c.args.self.now.id past
    rests boot past s = client_rests boot c.args.self.now c.in-Client.field-0 past s c.in-Client.is (eqb-true _ 0 (sym c.is_empty.ensures ∙ c.if-is_empty.true))

    is : (boot : ℕ) (past : List Record) → Stands boot c.args.self.now past → c.is_down_so.result ≡ stands_so c.args.self.now.mode c.args.self.now.id past c.args.standing
    is boot past s =
        client_so c.args.self.now.mode c.args.self.now.id past c.args.standing c.in-Client.field-0 c.is_down_so.result c.in-Client.is
        (client_free c.args.self.now c.in-Client.field-0 past c.in-Client.is (rests boot past s))
        (down_so c.args.self.now.about past c.args.self.now.outline s.outline c.args.standing c.is_down_so.result c.is_down_so.ensures)

pub returns-else-is_empty-clause-no : goal.returns-else-is_empty-clause-no
returns-else-is_empty-clause-no c =
    λ h boot past s. inr (client_waits boot c.args.self.now c.in-Client.field-0 past s c.in-Client.is (sym c.is_empty.ensures ∙ c.if-is_empty.false))

pub returns-then-is_empty-2 : goal.returns-then-is_empty-2
returns-then-is_empty-2 c = record { yes = λ h boot past s. (sym (is boot past s) ∙ h, subst (λ id. NothingWaits id past) (sym c.in-Server.is) tt); no = λ h boot past s. inl (sym (is boot past s) ∙ h) }
  where
    is : (boot : ℕ) (past : List Record) → Stands boot c.args.self.now past → c.is_up_so.result ≡ stands_so c.args.self.now.mode c.args.self.now.id past c.args.standing
    is boot past s =
        server_so c.args.self.now.mode c.args.self.now.id past c.args.standing c.in-Server.field-0 c.is_up_so.result c.in-Server.is
        (server_free boot c.args.self.now c.in-Server.field-0 past s c.in-Server.is (c.is_empty-in-Server.ensures.0 c.if-is_empty-2.true))
        (up_so c.args.self.now.about past c.args.self.now.outline s.outline c.args.self.now.mode c.args.standing c.is_up_so.result c.is_up_so.ensures)

pub returns-else-is_empty-2-clause-no : goal.returns-else-is_empty-2-clause-no
returns-else-is_empty-2-clause-no c =
    λ h boot past s.
    inl (not_free c.args.self.now.mode c.args.self.now.id past c.args.standing (server_held boot c.args.self.now c.in-Server.field-0 past s c.in-Server.is
    (no_zero _ c.is_empty-in-Server.result c.is_empty-in-Server.ensures.1 c.if-is_empty-2.false)))
