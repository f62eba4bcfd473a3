-- Permutations with marks: what is put in on each line, and which outputs are garbage.
use Rattle.std.specs.Prelude.{◌≡◌, Bool, false, List, length, replicate}
use Rattle.rv_gate.specs.declared.circuit.Mark.{Mark}
use Rattle.rv_gate.specs.declared.circuit.Mark.TheVariants.{Input}
use Rattle.rv_perm.specs.Perm.{Table, IsPerm}

-- each list of marks has one entry for each line
pub record Marked : Type 0 where
  pub table : Table
  pub constants : List Mark
  pub garbage : List Bool

pub record IsMarked (m : Marked) : Type 0 where
  pub permutes : IsPerm m.table.lines m.table.images
  pub constants : length m.constants ≡ m.table.lines
  pub garbage : length m.garbage ≡ m.table.lines

-- no input is constant, no output is garbage
abbrev pub unmarked : Table → Marked
unmarked table =
    record {
      table = table;
      constants = replicate table.lines Input;
      garbage = replicate table.lines false;
    }
