-- The lines on which a network is drawn.
use Rattle.std.specs.Prelude.{ℕ}
use Rattle.rv_gate.specs.Circuit.{Cascade, fresh}
use Rattle.rv_gate.specs.Names.{numbered}

-- named `q0`, `q1` and so on
abbrev pub network_lines : ℕ → Cascade
network_lines lines = fresh (numbered 113 lines)
