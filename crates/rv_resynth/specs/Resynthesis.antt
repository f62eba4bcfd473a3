-- What becomes of a circuit.
use Rattle.std.specs.Prelude.{◌≡◌, ◌≤◌, Bool, List, length}
use Rattle.rv_gate.specs.Circuit.{Cascade}
use Rattle.rv_gate.specs.Marks.{input_count}
use Rattle.rv_gate.specs.declared.circuit.TheConstants.{MOST_GATES}
use Rattle.rv_compare.specs.Compare.{AreSame}
use Rattle.rv_search.specs.Measure.{measure}
use Rattle.rv_search.specs.declared.goal.Goal.{Goal}
use Rattle.rv_resynth.specs.Same.{Same}

-- the lines have the names, labels and marks that they had
pub record KeepsLines (old new : Cascade) : Type 0 where
  pub names : new.names ≡ old.names
  pub input_labels : new.input_labels ≡ old.input_labels
  pub output_labels : new.output_labels ≡ old.output_labels
  pub constants : new.constants ≡ old.constants
  pub garbage : new.garbage ≡ old.garbage

-- what the goal counts is no greater, and the gates are few enough for a circuit
pub record IsNoDearer (goal : Goal) (old new : Cascade) : Type 0 where
  pub measure : measure goal (length old.names) new.gates ≤ measure goal (length old.names) old.gates
  pub few : length new.gates ≤ MOST_GATES

-- the lines are as they were; the gates make the same of every word, and are no dearer
pub record IsResynthesis (goal : Goal) (old new : Cascade) : Type 0 where
  pub lines : KeepsLines old new
  pub same : Same (length old.names) old.gates new.gates
  pub no_dearer : IsNoDearer goal old new

-- the lines are as they were; the function by the marks is the same, and the gates are no dearer
pub record IsResynthesisByMarks (goal : Goal) (old new : Cascade) : Type 0 where
  pub lines : KeepsLines old new
  pub same : (x : List Bool) → length x ≡ input_count old.constants → AreSame old new x
  pub no_dearer : IsNoDearer goal old new
