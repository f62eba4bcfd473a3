-- `compare`: whether a circuit has the function of another circuit, a permutation or a logic network, or one that a
-- table allows.
use Rattle.std.specs.Prelude.{◌≡◌, ◌↔◌, ℕ, Bool, true, false, List, ◌++◌, ◌==◌, if◌then◌else◌, codes, decimal}
use Rattle.rv_gate.specs.Circuit.{Cascade}
use Rattle.rv_gate.specs.Marks.{input_count}
use Rattle.rv_perm.specs.Marked.{Marked}
use Rattle.rv_pla.specs.Pla.{TwoLevel}
use Rattle.rv_blif.specs.Logic.{Logic}
use Rattle.rv_compare.specs.Compare.{AreSame, GivesAllowed, GivesImage, GivesOutputs, HasManyInputs, IsAnswer, Size}
use Rattle.rv_compare.specs.Compare.{asked, asked_perm}
use Rattle.rv_compare.specs.Compare.{circuits_answer, logic_answer, perm_answer, size_by, size_for, size_in, size_of, table_answer}
use Rattle.rv_compare.specs.declared.comparison.CompareFault.{CompareFault}
use Rattle.rv_compare.specs.declared.comparison.CompareFault.TheVariants as fault
use Rattle.rv_compare.specs.declared.comparison.Comparison.{Comparison}
use Rattle.rv_compare.specs.declared.comparison.Comparison.TheVariants.{Differs, Inputs, Outputs, Same}
use Rattle.rv_faults.specs.Fault.{bits_of}
use Rattle.rv_faults.specs.declared.fault.InputFault.TheVariants.{Undecided}
use Rattle.rv_faults.specs.declared.fault.Measure.TheVariants.{Nodes}
use Rattle.rv_faults.specs.declared.fault.Refusal.{Refusal}
use Rattle.rv_faults.specs.declared.fault.Refusal.TheVariants.{OutOfMemory, Refused}
use Rattle.rv_words.specs.declared.command.Form.{Form}
use Rattle.rv_words.specs.declared.command.Form.TheVariants as form
use Rattle.rv_inputs.specs.Formats.{circuit, logic, permutation, table}
use Rattle.rv_cmd.specs.Limits.{LimitedText, unlimited}
use Rattle.rv_cmd.specs.Row.{ReadsFirst, always_told, two}

-- ---- where there is no answer

-- A circuit of more inputs than are compared on all words may remain undecided: no diagram of at most so many nodes
-- tells. It never does where there are at most 24 inputs.
abbrev pub IsUndecided : ℕ → Cascade → Refusal → Type 0
IsUndecided nodes c (Refused input why) = (input ≡ 0) × (why ≡ Undecided nodes Nodes) × HasManyInputs c
IsUndecided nodes c OutOfMemory = ⊥

-- a fault of a comparison, as a refusal
abbrev pub no_answer : ℕ → CompareFault → Refusal
no_answer nodes fault.Undecided = Refused 0 (Undecided nodes Nodes)
no_answer nodes fault.Mem = OutOfMemory

-- ---- the report

abbrev pub counts_said : List ℕ → ℕ → ℕ → List ℕ
counts_said what n m = what ++ (decimal n ++ (codes " and " ++ decimal m))

-- a word is told in bits, as many as there are inputs
abbrev pub differs_said : ℕ → ℕ → List ℕ
differs_said inputs word =
    if inputs == 0 then codes "differs at the empty word" else codes "differs at word " ++ bits_of inputs word

abbrev pub comparison_said : ℕ → Comparison → List ℕ
comparison_said inputs Same = codes "same"
comparison_said inputs (Inputs n m) = counts_said (codes "differs in inputs ") n m
comparison_said inputs (Outputs n m) = counts_said (codes "differs in outputs ") n m
comparison_said inputs (Differs word) = differs_said inputs word

abbrev pub comparison_text : ℕ → Comparison → List ℕ
comparison_text inputs answer = comparison_said inputs answer ++ codes "\n"

abbrev pub says_apart : Comparison → Bool
says_apart Same = false
says_apart (Inputs n m) = true
says_apart (Outputs n m) = true
says_apart (Differs word) = true

-- The report is `same`, with status 0, exactly if both sides have as many inputs and as many outputs, and agree at each
-- input word. Else it tells the least input word at which they don't, or both numbers of inputs, or of outputs, with
-- status 1.
pub record TellsComparison (a b : Size) (Agree : List Bool → Type 0) (answer : Comparison)
    (text : List ℕ) : Type 0 where
  pub is : text ≡ comparison_text a.inputs answer
  pub exact : (other : Comparison) → (answer ≡ other) ↔ IsAnswer a b Agree other
  pub status : (says_apart answer ≡ false) ↔ (answer ≡ Same)

-- ---- a circuit and another: they give the same word

abbrev pub circuits_report : Cascade → Cascade → LimitedText
circuits_report a b = unlimited (comparison_text (input_count a.constants) (circuits_answer a b))

abbrev pub circuits_differ : Cascade → Cascade → Bool
circuits_differ a b = says_apart (circuits_answer a b)

abbrev pub TellsCircuits : Cascade → Cascade → List ℕ → Type 0
TellsCircuits a b = TellsComparison (size_of a) (size_of b) (AreSame a b) (circuits_answer a b)

-- ---- a circuit and a permutation: they give the same word

abbrev pub perm_report : Cascade → Marked → LimitedText
perm_report c m = unlimited (comparison_text (input_count c.constants) (perm_answer c m))

abbrev pub perm_differs : Cascade → Marked → Bool
perm_differs c m = says_apart (perm_answer c m)

abbrev pub TellsPerm : Cascade → Marked → List ℕ → Type 0
TellsPerm c m = TellsComparison (size_of c) (size_by m) (GivesImage c m) (perm_answer c m)

-- ---- a circuit and a table: the circuit gives a word that the table allows

abbrev pub table_report : Cascade → TwoLevel → LimitedText
table_report c pla = unlimited (comparison_text (input_count c.constants) (table_answer c pla))

abbrev pub table_differs : Cascade → TwoLevel → Bool
table_differs c pla = says_apart (table_answer c pla)

abbrev pub TellsTable : Cascade → TwoLevel → List ℕ → Type 0
TellsTable c pla = TellsComparison (size_of c) (size_for pla) (GivesAllowed c pla) (table_answer c pla)

-- ---- a circuit and a logic network: the circuit gives the network's outputs

abbrev pub logic_report : Cascade → Logic → LimitedText
logic_report c network = unlimited (comparison_text (input_count c.constants) (logic_answer c network))

abbrev pub logic_differs : Cascade → Logic → Bool
logic_differs c network = says_apart (logic_answer c network)

abbrev pub TellsLogic : Cascade → Logic → List ℕ → Type 0
TellsLogic c network = TellsComparison (size_of c) (size_in network) (GivesOutputs c network) (logic_answer c network)

-- ---- the row: both as they are compared, by their marks or on all lines

-- what is said of a circuit and another side
abbrev pub with_circuit : {X : Type 0} → (Cascade → Cascade → X) → Bool → Cascade → Cascade → X
with_circuit said all a b = said (asked all a) (asked all b)

abbrev pub with_perm : {X : Type 0} → (Cascade → Marked → X) → Bool → Cascade → Marked → X
with_perm said all c m = said (asked all c) (asked_perm all m)

abbrev pub with_table : {X : Type 0} → (Cascade → TwoLevel → X) → Bool → Cascade → TwoLevel → X
with_table said all c pla = said (asked all c) pla

abbrev pub with_logic : {X : Type 0} → (Cascade → Logic → X) → Bool → Cascade → Logic → X
with_logic said all c network = said (asked all c) network

-- why there may be no report of a circuit and another side
abbrev pub LacksAnswer : {X : Type 0} → ℕ → Bool → Cascade → X → Refusal → Type 0
LacksAnswer nodes all c other = IsUndecided nodes (asked all c)

-- what the text means
abbrev pub MeansCircuits : Bool → Cascade → Cascade → List ℕ → Type 0
MeansCircuits all a b = TellsCircuits (asked all a) (asked all b)

abbrev pub MeansPerm : Bool → Cascade → Marked → List ℕ → Type 0
MeansPerm all c m = TellsPerm (asked all c) (asked_perm all m)

abbrev pub MeansTable : Bool → Cascade → TwoLevel → List ℕ → Type 0
MeansTable all c pla = TellsTable (asked all c) pla

abbrev pub MeansLogic : Bool → Cascade → Logic → List ℕ → Type 0
MeansLogic all c network = TellsLogic (asked all c) network

-- by the form of the second input, with diagrams of at most so many nodes
abbrev pub compare_row : Form → Bool → ℕ → ReadsFirst
compare_row form.Pla all nodes =
    two circuit table (with_table table_report all) (with_table table_differs all) always_told (MeansTable all)
compare_row form.Perm all nodes =
    two circuit permutation (with_perm perm_report all) (with_perm perm_differs all) always_told (MeansPerm all)
compare_row form.Blif all nodes =
    two circuit logic (with_logic logic_report all) (with_logic logic_differs all) (LacksAnswer nodes all) (MeansLogic all)
compare_row _ all nodes =
    two circuit circuit (with_circuit circuits_report all) (with_circuit circuits_differ all) (LacksAnswer nodes all)
    (MeansCircuits all)
