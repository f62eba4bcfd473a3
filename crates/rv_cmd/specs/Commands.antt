-- The table of the commands: a row each.
pub mod Check
pub mod CheckConstants
pub mod CheckNetworks
pub mod Compare
pub mod Compute
pub mod Cost
pub mod Decompose
pub mod Demo
pub mod Draw
pub mod Embed
pub mod Esop
pub mod Flow
pub mod Fold
pub mod Map
pub mod Optimal
pub mod Realize
pub mod Reduce
pub mod Resynth
pub mod Route
pub mod Simulate
pub mod Single
pub mod Synth
pub mod Templates
pub mod ToReal
use Rattle.std.specs.Prelude.{Bool, false, true}
use Rattle.rv_words.specs.declared.asked.Settings.{Settings}
use Rattle.rv_words.specs.declared.command.Command.{Command}
use Rattle.rv_words.specs.declared.command.Command.TheVariants as command
use Rattle.rv_words.specs.declared.command.CheckedBy.{CheckedBy}
use Rattle.rv_words.specs.declared.command.CheckedBy.TheVariants.{Paths, Words}
use Rattle.rv_words.specs.declared.command.Form.{Form}
use Rattle.rv_words.specs.declared.command.Form.TheVariants as form
use Rattle.rv_cmd.specs.Goals.{search_goal}
use Rattle.rv_cmd.specs.Row.{ReadsFirst, Row, answers_as_it_reads, reads_first}
use Rattle.rv_cmd.specs.Commands.Check.{check_row}
use Rattle.rv_cmd.specs.Commands.CheckConstants.{constants_row}
use Rattle.rv_cmd.specs.Commands.CheckNetworks.{networks_row}
use Rattle.rv_cmd.specs.Commands.Compare.{compare_row}
use Rattle.rv_cmd.specs.Commands.Compute.{compute_row}
use Rattle.rv_cmd.specs.Commands.Cost.{cost_row}
use Rattle.rv_cmd.specs.Commands.Decompose.{decompose_row}
use Rattle.rv_cmd.specs.Commands.Demo.{demo_row}
use Rattle.rv_cmd.specs.Commands.Draw.{draw_row}
use Rattle.rv_cmd.specs.Commands.Embed.{embed_row}
use Rattle.rv_cmd.specs.Commands.Esop.{esop_row}
use Rattle.rv_cmd.specs.Commands.Flow.{flow_row, flow_synthesis}
use Rattle.rv_cmd.specs.Commands.Fold.{fold_row}
use Rattle.rv_cmd.specs.Commands.Map.{map_row}
use Rattle.rv_cmd.specs.Commands.Optimal.{optimal_row}
use Rattle.rv_cmd.specs.Commands.Realize.{realize_row}
use Rattle.rv_cmd.specs.Commands.Reduce.{reduce_row}
use Rattle.rv_cmd.specs.Commands.Resynth.{resynth_goal, resynth_row}
use Rattle.rv_cmd.specs.Commands.Route.{route_row}
use Rattle.rv_cmd.specs.Commands.Simulate.{simulate_row}
use Rattle.rv_cmd.specs.Commands.Single.{single_row}
use Rattle.rv_cmd.specs.Commands.Synth.{rows_method, synth_row}
use Rattle.rv_cmd.specs.Commands.Templates.{templates_row}
use Rattle.rv_cmd.specs.Commands.ToReal.{toreal_row}

-- by sums over paths from all words, or from those that hold the circuit's constants
abbrev pub row_by_paths : Bool → ReadsFirst
row_by_paths false = check_row Paths
row_by_paths true = constants_row

abbrev pub row_by : CheckedBy → Bool → ReadsFirst
row_by Words constants = check_row Words
row_by Paths constants = row_by_paths constants

-- two networks are compared by sums over paths alone
abbrev pub row_of_check : Form → CheckedBy → Bool → ReadsFirst
row_of_check form.Qasm by constants = networks_row
row_of_check _ by constants = row_by by constants

-- the row of a command, with what its options ask for
abbrev pub row_for : Command → Settings → Row
row_for command.Synth s = reads_first (synth_row (rows_method s.method))
row_for command.Embed s = reads_first embed_row
row_for command.Esop s = reads_first (esop_row s.to s.goal)
row_for command.Templates s = reads_first (templates_row s.library)
row_for command.Decompose s = reads_first (decompose_row s.aux)
row_for command.Map s = reads_first (map_row s.blocks s.aux)
row_for command.Cost s = reads_first (cost_row s.origin s.report)
row_for command.Simulate s = answers_as_it_reads (simulate_row s.all)
row_for command.ToReal s = reads_first toreal_row
row_for command.Flow s = reads_first (flow_row s.origin (flow_synthesis s.method) s.simplify s.blocks s.aux)
row_for command.Demo s = reads_first (demo_row s.lines s.seed)
row_for command.Fold s = reads_first fold_row
row_for command.Reduce s = reads_first (reduce_row s.goal)
row_for command.Check s = reads_first (row_of_check s.origin s.checked s.constants)
row_for command.Single s = reads_first single_row
row_for command.Route s = reads_first route_row
row_for command.Draw s = reads_first (draw_row s.origin s.picture s.wrap)
row_for command.Compare s = reads_first (compare_row s.origin s.all s.nodes)
row_for command.Resynth s = reads_first (resynth_row (resynth_goal s.goal) s.effort s.marks)
row_for command.Compute s = reads_first (compute_row s.curve (search_goal s.goal) s.effort s.seed s.lines)
row_for command.Optimal s = reads_first (optimal_row s.gates)
row_for command.Realize s = reads_first (realize_row s.origin s.curve (search_goal s.goal) s.seed s.lines)

abbrev pub row_of : Settings → Row
row_of settings = row_for settings.command settings
