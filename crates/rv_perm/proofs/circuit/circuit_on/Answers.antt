use Rattle.std.proofs.Common.{◌≡◌, length, ap, ◌∙◌, arith}
use Rattle.rv_gate.specs.Circuit.{Cascade}
use Rattle.rv_gate.proofs.NameLemmas.{length-numbered}
use Rattle.rv_perm.specs.Perm.{Table}
use Rattle.rv_perm.proofs.circuit.circuit_on.Goals as goal

pub new-requires : goal.new-requires
new-requires c =
    omega (arith, ap length c.in_ok-names.ensures, length-numbered 120 c.lines.result, c.lines.ensures.value, c.lines.ensures.valid.0)

pub set_gates-requires-clause-fits : goal.set_gates-requires-clause-fits
set_gates-requires-clause-fits c =
    let as_many : length c.in_ok-circuit.circuit.names ≡ c.args.spec.now.table.lines =
    ap (λ (v : Cascade). length v.names) c.in_ok-circuit.ensures ∙ ap length c.in_ok-names.ensures
    ∙ length-numbered 120 c.lines.result ∙ c.lines.ensures.value ∙ ap (λ (t : Table). t.lines) c.perm.ensures.value in
    rw as_many c.requires.fits

pub mark_lines-requires : goal.mark_lines-requires
mark_lines-requires c =
    ap (λ (v : Cascade). length v.names) c.set_gates.ensures ∙ ap (λ (v : Cascade). length v.names) c.in_ok-circuit.ensures ∙ ap length c.in_ok-names.ensures
    ∙ length-numbered 120 c.lines.result ∙ c.lines.ensures.value ∙ ap (λ (t : Table). t.lines) c.perm.ensures.value
