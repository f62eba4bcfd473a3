-- The values of the options, the default first.
use Rattle.std.specs.Prelude.{ℕ, ◌≤◌, ◌&&◌, nat_le, List, Option, Some, None, Result, Ok, codes, if◌then◌else◌, option_and_then}
use Rattle.rv_reader.specs.Rules.{◌>>=◌, found_or}
use Rattle.std.specs.Str.{bytes_eq}
use Rattle.rv_text.specs.Decimal.{is_short_decimal, decimal_value}
use Rattle.rv_gate.specs.declared.word.TheConstants.{MOST_LINES}
use Rattle.rv_diagram.specs.declared.diagram.TheConstants.{MOST_NODES}
use Rattle.rv_perm.specs.declared.perm.TheConstants.{MOST_DEMO_LINES}
use Rattle.rv_words.specs.declared.choice.TheConstants.{MOST_EFFORT}
use Rattle.rv_tbs.specs.declared.method.Method.TheVariants.{Best, Out, Both}
use Rattle.rv_mct.specs.declared.aux.Aux.{Aux}
use Rattle.rv_mct.specs.declared.aux.Aux.TheVariants.{Borrowed, Clean}
use Rattle.rv_optimal.specs.declared.library.Library.{Library}
use Rattle.rv_optimal.specs.declared.library.Library.TheVariants.{Mixed, Positive}
use Rattle.rv_words.specs.declared.command.Command.{Command}
use Rattle.rv_words.specs.declared.command.Command.TheVariants.{Compare, Compute, Cost, Demo, Flow, Realize, Reduce, Resynth}
use Rattle.rv_words.specs.declared.command.Blocks.{Blocks}
use Rattle.rv_words.specs.declared.command.Blocks.TheVariants.{Exact, Relative, Toffoli, Near, Joined}
use Rattle.rv_words.specs.declared.command.CheckedBy.{CheckedBy}
use Rattle.rv_words.specs.declared.command.CheckedBy.TheVariants.{Words, Paths}
use Rattle.rv_words.specs.declared.command.Synthesis.{Synthesis}
use Rattle.rv_words.specs.declared.command.Synthesis.TheVariants.{Rows, SingleTargets}
use Rattle.rv_words.specs.declared.command.Goal.{Goal}
use Rattle.rv_words.specs.declared.command.Goal.TheVariants.{Cubes, Cx, Depth, Gates, Lines, Ops, Quantum, T}
use Rattle.rv_words.specs.declared.command.PictureForm.{PictureForm}
use Rattle.rv_words.specs.declared.command.PictureForm.TheVariants.{Text, Svg, Latex}
use Rattle.rv_words.specs.declared.command.ReportForm.{ReportForm}
use Rattle.rv_words.specs.declared.command.ReportForm.TheVariants as report
use Rattle.rv_words.specs.declared.command.Form.{Form}
use Rattle.rv_words.specs.declared.command.Form.TheVariants.{Real, Pla, Qasm, Perm, Blif}
use Rattle.rv_words.specs.declared.options.TheConstants.{METHOD, TO, FROM, AUX, LINES, SEED, WRAP, GOAL, EFFORT, BLOCKS, AS, GATES, BY, NODES}
use Rattle.rv_words.specs.Given.{Given}

-- `flow` also takes single-target gates, which `synth` leaves to `single`
abbrev pub single_for : Command → Option Synthesis
single_for Flow = Some SingleTargets
single_for command = None

abbrev pub method_of : Command → List ℕ → Option Synthesis
method_of command value =
    if bytes_eq value (codes "best") then Some (Rows Best)
    else (if bytes_eq value (codes "out") then Some (Rows Out)
    else (if bytes_eq value (codes "both") then Some (Rows Both)
    else (if bytes_eq value (codes "single") then single_for command
    else None)))

abbrev pub form_to : List ℕ → Option Form
form_to value =
    if bytes_eq value (codes "real") then Some Real
    else (if bytes_eq value (codes "pla") then Some Pla
    else None)

-- a truth table or a permutation
abbrev function_from : List ℕ → Option Form
function_from value =
    if bytes_eq value (codes "pla") then Some Pla
    else (if bytes_eq value (codes "perm") then Some Perm
    else None)

-- `flow` and `realize` read a truth table or a permutation, `compare` as its second input a circuit, one of these or a
-- logic network, and `cost` and `draw` a circuit or a network
abbrev pub form_from : Command → List ℕ → Option Form
form_from Flow value = function_from value
form_from Realize value = function_from value
form_from Compare value =
    if bytes_eq value (codes "real") then Some Real
    else (if bytes_eq value (codes "pla") then Some Pla
    else (if bytes_eq value (codes "perm") then Some Perm
    else (if bytes_eq value (codes "blif") then Some Blif
    else None)))
form_from command value =
    if bytes_eq value (codes "real") then Some Real
    else (if bytes_eq value (codes "qasm") then Some Qasm
    else None)

abbrev pub usual_form : Command → Form
usual_form Flow = Pla
usual_form Realize = Pla
usual_form command = Real

abbrev pub aux_of : List ℕ → Option Aux
aux_of value =
    if bytes_eq value (codes "borrowed") then Some Borrowed
    else (if bytes_eq value (codes "clean") then Some Clean
    else None)

-- what a search is to make small: for `esop` one of four, and without cubes for `resynth`; for `compute` and `realize`
-- also lines, and for `realize` CNOTs; for `reduce` operations, T, CNOTs
-- and depth
abbrev pub goal_of : Command → List ℕ → Option Goal
goal_of Resynth value =
    if bytes_eq value (codes "quantum") then Some Quantum
    else (if bytes_eq value (codes "t") then Some T
    else (if bytes_eq value (codes "gates") then Some Gates
    else None))
goal_of Compute value =
    if bytes_eq value (codes "lines") then Some Lines
    else (if bytes_eq value (codes "t") then Some T
    else (if bytes_eq value (codes "quantum") then Some Quantum
    else (if bytes_eq value (codes "gates") then Some Gates
    else None)))
goal_of Realize value =
    if bytes_eq value (codes "t") then Some T
    else (if bytes_eq value (codes "cx") then Some Cx
    else (if bytes_eq value (codes "quantum") then Some Quantum
    else (if bytes_eq value (codes "gates") then Some Gates
    else (if bytes_eq value (codes "lines") then Some Lines
    else None))))
goal_of Reduce value =
    if bytes_eq value (codes "ops") then Some Ops
    else (if bytes_eq value (codes "t") then Some T
    else (if bytes_eq value (codes "cx") then Some Cx
    else (if bytes_eq value (codes "depth") then Some Depth
    else None)))
goal_of command value =
    if bytes_eq value (codes "cubes") then Some Cubes
    else (if bytes_eq value (codes "gates") then Some Gates
    else (if bytes_eq value (codes "quantum") then Some Quantum
    else (if bytes_eq value (codes "t") then Some T
    else None)))

-- the goal that is not told: `resynth`, `compute` and `realize` always search
abbrev pub usual_goal : Command → Option Goal
usual_goal Resynth = Some Quantum
usual_goal Compute = Some T
usual_goal Realize = Some T
usual_goal command = None

abbrev pub usual_effort : Command → ℕ
usual_effort Resynth = 20
usual_effort Reduce = 20
usual_effort command = 100

-- a search begins with the numbers of seed 0
abbrev pub usual_seed : Command → ℕ
usual_seed Demo = 1
usual_seed command = 0

abbrev pub blocks_of : List ℕ → Option Blocks
blocks_of value =
    if bytes_eq value (codes "exact") then Some Exact
    else (if bytes_eq value (codes "relative") then Some Relative
    else (if bytes_eq value (codes "toffoli") then Some Toffoli
    else (if bytes_eq value (codes "near") then Some Near
    else (if bytes_eq value (codes "joined") then Some Joined
    else None))))

abbrev pub picture_of : List ℕ → Option PictureForm
picture_of value =
    if bytes_eq value (codes "text") then Some Text
    else (if bytes_eq value (codes "svg") then Some Svg
    else (if bytes_eq value (codes "latex") then Some Latex
    else None))

abbrev pub report_of : List ℕ → Option ReportForm
report_of value =
    if bytes_eq value (codes "text") then Some report.Text
    else (if bytes_eq value (codes "json") then Some report.Json
    else (if bytes_eq value (codes "csv") then Some report.Csv
    else None))

abbrev pub checked_of : List ℕ → Option CheckedBy
checked_of value =
    if bytes_eq value (codes "words") then Some Words
    else (if bytes_eq value (codes "paths") then Some Paths
    else None)

abbrev pub gates_of : List ℕ → Option Library
gates_of value =
    if bytes_eq value (codes "mct") then Some Positive
    else (if bytes_eq value (codes "mpmct") then Some Mixed
    else None)

-- the number of one to so many decimal digits
abbrev pub number_written : ℕ → List ℕ → Option ℕ
number_written digits text = if is_short_decimal digits text then Some (decimal_value text) else None

abbrev number_within : ℕ → ℕ → Option ℕ → Option ℕ
number_within least most number = option_and_then (λ n. if nat_le least n && nat_le n most then Some n else None) number

-- of at most five digits
abbrev pub number_in : ℕ → ℕ → List ℕ → Option ℕ
number_in least most text = number_within least most (number_written 5 text)

-- of at most seven digits
abbrev pub count_in : ℕ → ℕ → List ℕ → Option ℕ
count_in least most text = number_within least most (number_written 7 text)

-- the value of the option at a place, its default where it isn't given; of a bad value the place is told
abbrev pub chosen : {X : Type 0} → ℕ → X → (List ℕ → Option X) → Option (List ℕ) → Result X ℕ
chosen place default reads None = Ok default
chosen place default reads (Some text) = found_or place (reads text)

-- a value that is there, as one that may be there
abbrev pub wished : {X : Type 0} → Option X → Option (Option X)
wished None = None
wished (Some x) = Some (Some x)

abbrev pub method_in : Command → Given → Result Synthesis ℕ
method_in command g = chosen METHOD (Rows Best) (method_of command) (g (codes "method"))

abbrev pub to_in : Given → Result Form ℕ
to_in g = chosen TO Real form_to (g (codes "to"))

abbrev pub origin_in : Command → Given → Result Form ℕ
origin_in command g = chosen FROM (usual_form command) (form_from command) (g (codes "from"))

abbrev pub aux_in : Given → Result Aux ℕ
aux_in g = chosen AUX Borrowed aux_of (g (codes "aux"))

-- the lines of a generated permutation, or of a circuit that is to be found
abbrev pub most_lines : Command → ℕ
most_lines Demo = MOST_DEMO_LINES
most_lines command = MOST_LINES

abbrev pub usual_lines : Command → ℕ
usual_lines Demo = 4
usual_lines command = MOST_LINES

abbrev pub IsLineCount : Command → ℕ → Type 0
IsLineCount command lines = (1 ≤ lines) × (lines ≤ most_lines command)

abbrev pub lines_in : Command → Given → Result ℕ ℕ
lines_in command g = chosen LINES (usual_lines command) (number_in 1 (most_lines command)) (g (codes "lines"))

abbrev pub seed_in : Command → Given → Result ℕ ℕ
seed_in command g = chosen SEED (usual_seed command) (number_in 0 65535) (g (codes "seed"))

-- the gates in a block of a drawing
abbrev pub wrap_in : Given → Result ℕ ℕ
wrap_in g = chosen WRAP 24 (number_in 0 65535) (g (codes "wrap"))

abbrev pub goal_in : Command → Given → Result (Option Goal) ℕ
goal_in command g = chosen GOAL (usual_goal command) (λ value. wished (goal_of command value)) (g (codes "goal"))

abbrev pub effort_in : Command → Given → Result ℕ ℕ
effort_in command g = chosen EFFORT (usual_effort command) (number_in 0 MOST_EFFORT) (g (codes "effort"))

abbrev pub blocks_in : Given → Result Blocks ℕ
blocks_in g = chosen BLOCKS Exact blocks_of (g (codes "blocks"))

-- `cost` writes no picture
abbrev pub picture_in : Command → Given → Result PictureForm ℕ
picture_in Cost g = Ok Text
picture_in command g = chosen AS Text picture_of (g (codes "as"))

abbrev pub report_in : Command → Given → Result ReportForm ℕ
report_in Cost g = chosen AS report.Text report_of (g (codes "as"))
report_in command g = Ok report.Text

abbrev pub gates_in : Given → Result Library ℕ
gates_in g = chosen GATES Positive gates_of (g (codes "gates"))

abbrev pub checked_in : Given → Result CheckedBy ℕ
checked_in g = chosen BY Words checked_of (g (codes "by"))

abbrev pub IsNodeCount : ℕ → Type 0
IsNodeCount nodes = (1 ≤ nodes) × (nodes ≤ MOST_NODES)

abbrev pub nodes_in : Given → Result ℕ ℕ
nodes_in g = chosen NODES MOST_NODES (count_in 1 MOST_NODES) (g (codes "nodes"))

-- the values of the options that take one of a list or a range
pub record Values : Type 0 where
  pub method : Synthesis
  pub to : Form
  pub origin : Form
  pub aux : Aux
  pub lines : ℕ
  pub seed : ℕ
  pub wrap : ℕ
  pub goal : Option Goal
  pub effort : ℕ
  pub blocks : Blocks
  pub picture : PictureForm
  pub gates : Library
  pub checked : CheckedBy
  pub report : ReportForm
  pub nodes : ℕ

-- all values, or the place of the first that is bad
unfoldable pub values_in : Command → Given → Result Values ℕ
values_in command g = do
  method ← method_in command g
  to ← to_in g
  origin ← origin_in command g
  aux ← aux_in g
  lines ← lines_in command g
  seed ← seed_in command g
  wrap ← wrap_in g
  goal ← goal_in command g
  effort ← effort_in command g
  blocks ← blocks_in g
  picture ← picture_in command g
  gates ← gates_in g
  checked ← checked_in g
  report ← report_in command g
  nodes ← nodes_in g
  Ok (record {
    method = method;
    to = to;
    origin = origin;
    aux = aux;
    lines = lines;
    seed = seed;
    wrap = wrap;
    goal = goal;
    effort = effort;
    blocks = blocks;
    picture = picture;
    gates = gates;
    checked = checked;
    report = report;
    nodes = nodes;
  })
