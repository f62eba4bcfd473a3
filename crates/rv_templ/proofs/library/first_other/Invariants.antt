use Rattle.std.proofs.Common.{◌≡◌, ◌-◌, length}
use Rattle.rv_gate.specs.FirstAnswer.{first}
use Rattle.rv_templ.specs.Templates.{other_at, first_other}
use Rattle.rv_templ.proofs.library.first_other.Given as goal

abbrev pub invariant-loop-place : goal.invariant-loop-place
invariant-loop-place l = first (other_at l.gates) l.place (length l.gates - l.place) ≡ first_other l.gates
