-- How much comes of a generated permutation at the most.
use Rattle.std.specs.Prelude.{◌≤◌, length}
use Rattle.rv_gate.specs.Circuit.{Cascade}
use Rattle.rv_mct.specs.Widened.{gate_count, helper_count, lines_with_helpers}
use Rattle.rv_mct.specs.declared.aux.Aux.TheVariants.{Borrowed}

-- of a circuit and the simplified one
pub record AreFew (found simpler : Cascade) : Type 0 where
  pub gates : length found.gates ≤ 2048
  pub fewer : length simpler.gates ≤ length found.gates
  pub helpers : helper_count Borrowed simpler ≤ 1
  pub lines : lines_with_helpers Borrowed simpler ≤ 9
  pub decomposed : gate_count Borrowed simpler ≤ 65536
