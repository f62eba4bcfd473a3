-- What each step makes of a generated permutation, in numbers.
use Rattle.std.specs.Prelude.{ℕ, ◌≤◌, true, length}
use Rattle.rv_gate.specs.Circuit.{Cascade}
use Rattle.rv_perm.specs.Marked.{unmarked}
use Rattle.rv_tbs.specs.Synthesis.{synthesis_of}
use Rattle.rv_tbs.specs.declared.method.Method.TheVariants.{Best}
use Rattle.rv_mct.specs.Widened.{decomposed, helper_count}
use Rattle.rv_mct.specs.declared.aux.Aux.TheVariants.{Borrowed}
use Rattle.rv_net.specs.Network.{expanded}
use Rattle.rv_cost.specs.NetCost.{net_cost}
use Rattle.rv_cost.specs.declared.network.NetCost.{NetCost}
use Rattle.rv_flow.specs.Flow.{simplified_if}
use Rattle.rv_flow.specs.Generator.{generated}
use Rattle.rv_flow.specs.declared.summary.Summary.{Summary}

-- of a circuit, the simplified one, and the costs of the network of its decomposition
abbrev pub summary_by : ℕ → ℕ → Cascade → Cascade → NetCost → Summary
summary_by lines seed found simpler cost =
    record {
      lines = lines;
      seed = seed;
      synthesised = length found.gates;
      simplified = length simpler.gates;
      decomposed = length (decomposed Borrowed simpler).gates;
      added = helper_count Borrowed simpler;
      operations = cost.operations;
      t = cost.t;
      depth = cost.depth;
    }

-- of a circuit
abbrev pub summary_from : ℕ → ℕ → Cascade → Summary
summary_from lines seed found =
    summary_by lines seed found (simplified_if true found)
    (net_cost (expanded (decomposed Borrowed (simplified_if true found))))

-- of the generated permutation's circuit
abbrev pub summary_of : ℕ → ℕ → Summary
summary_of lines seed = summary_from lines seed (synthesis_of Best (unmarked (generated lines seed)))

-- at most so many gates, before and after the decomposition, and operations
pub record IsSmall (s : Summary) : Type 0 where
  pub synthesised : s.synthesised ≤ 2048
  pub simplified : s.simplified ≤ s.synthesised
  pub decomposed : s.decomposed ≤ 65536
  pub added : s.added ≤ 1
  pub operations : s.operations ≤ 1245184
