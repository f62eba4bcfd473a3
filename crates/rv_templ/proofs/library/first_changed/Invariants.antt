use Rattle.std.proofs.Common.{◌≡◌, ◌-◌, ◌^◌, length}
use Rattle.rv_gate.specs.FirstAnswer.{first}
use Rattle.rv_templ.specs.Templates.{changed_at, first_changed}
use Rattle.rv_templ.proofs.library.first_changed.Given as goal

abbrev pub invariant-loop-number : goal.invariant-loop-number
invariant-loop-number l =
    first (changed_at (length l.circuit.names) l.circuit.gates) l.number (2 ^ length l.circuit.names - l.number) ≡ first_changed (length l.circuit.names) l.circuit.gates
