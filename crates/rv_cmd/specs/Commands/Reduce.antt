-- `reduce`: a network that a search finds for that of an OpenQASM text.
use Rattle.std.specs.Prelude.{◌≡◌, ℕ, List, [], Option, Some, None, Ok}
use Rattle.rv_net.specs.Op.{Network}
use Rattle.rv_reduce.specs.ByGoal.{IsReductionBy}
use Rattle.rv_reduce.specs.Reduced.{IsReductionOf}
use Rattle.rv_reduce.specs.declared.goal.Goal.{Goal}
use Rattle.rv_reduce.specs.declared.goal.Goal.TheVariants.{Cx, Depth, Ops, T}
use Rattle.rv_qasm.specs.Reading.{Listing, in_register_q, qasm_of}
use Rattle.rv_qasm.specs.Text.{text_of}
use Rattle.rv_words.specs.declared.command.Goal as asked
use Rattle.rv_words.specs.declared.command.Goal.TheVariants as asks
use Rattle.rv_inputs.specs.Formats.{program}
use Rattle.rv_cmd.specs.Limits.{Limit}
use Rattle.rv_cmd.specs.Row.{ReadsFirst, always, finds}

-- nothing is refused
abbrev pub reduce_limits : Listing → List Limit
reduce_limits listing = []

-- Read back, the text is a network in one register q and without a measurement. Each amplitude of what was read is 2^k
-- times the network's, which has k pairs of H less, no more operations and no more T, and nothing left to cancel. What
-- was denoted or carried still is.
pub record IsReduced (listing : Listing) (text : List ℕ) : Type 0 where
  pub net : Network
  pub is : text ≡ text_of net
  pub read_back : qasm_of text ≡ Ok (in_register_q net)
  pub reduction : IsReductionOf listing.net net

-- how the arguments ask for a goal
abbrev pub reduce_goal : asked.Goal → Goal
reduce_goal asks.T = T
reduce_goal asks.Cx = Cx
reduce_goal asks.Depth = Depth
reduce_goal _ = Ops

-- Read back, the text is a network in one register q and without a measurement. It has the amplitudes of what was read,
-- with the root of two divided out of each H, and no more of what the goal counts and no more T than that has; where a
-- goal counts more than operations, Toffoli and Fredkin gates are blocks for this. What was denoted or carried still is.
pub record IsReducedBy (goal : Goal) (listing : Listing) (text : List ℕ) : Type 0 where
  pub net : Network
  pub is : text ≡ text_of net
  pub read_back : qasm_of text ≡ Ok (in_register_q net)
  pub reduction : IsReductionBy goal listing.net net

abbrev pub reduce_row : Option asked.Goal → ReadsFirst
reduce_row None = finds program reduce_limits always IsReduced
reduce_row (Some goal) = finds program reduce_limits always (IsReducedBy (reduce_goal goal))
