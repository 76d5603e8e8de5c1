use Rattle.std.proofs.Common.{◌≡◌, ◌++◌, OnOk, sym, subst}
use Rattle.operator_port.specs.Metrics.{family_lines}
use Rattle.operator_port.specs.Texts.{text_of}
use Rattle.operator_port.proofs.metrics.push_family.Goals as goal

pub returns-in-Servers : goal.returns-in-Servers
returns-in-Servers c =
    subst (λ family. OnOk c.push_servers.result (c.push_servers.new.text.items
    ≡ c.args.text.now.items ++ text_of (family_lines c.args.figures.now family)))
    (sym c.in-Servers.is) (rw c.as_slice-in-Servers.ensures.value at c.push_servers.ensures)

pub returns-in-Leases : goal.returns-in-Leases
returns-in-Leases c =
    subst (λ family. OnOk c.push_leases.result (c.push_leases.new.text.items
    ≡ c.args.text.now.items ++ text_of (family_lines c.args.figures.now family)))
    (sym c.in-Leases.is) (rw c.as_slice-in-Leases.ensures.value at c.push_leases.ensures)
