-- Circuits on the lines of a permutation.
use Rattle.std.specs.Prelude.{List}
use Rattle.rv_gate.specs.Names.{numbered}
use Rattle.rv_gate.specs.Circuit.{Cascade, fresh}
use Rattle.rv_gate.specs.declared.gate.Shape.{Shape}
use Rattle.rv_perm.specs.Marked.{Marked}

-- the gates on lines named x0, x1, and so on, with the permutation's marks
abbrev pub circuit_on : Marked → List Shape → Cascade
circuit_on m gates =
    record (fresh (numbered 120 m.table.lines)) {
      constants = m.constants;
      garbage = m.garbage;
      gates = gates;
    }
