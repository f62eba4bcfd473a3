-- A circuit compared with a circuit, a permutation, a table or a logic network, on all words.
use Rattle.std.specs.Prelude.{◌≡◌, ◌≢◌, ℕ, ◌^◌, ◌<◌, ◌==◌, ◌⊎◌, if◌then◌else◌, Bool, true, false, List, length, replicate, Option, Some, None}
use Rattle.rv_gate.specs.Circuit.{Cascade}
use Rattle.rv_gate.specs.FirstAnswer.{first}
use Rattle.rv_gate.specs.Gate.{all_below, run, same_word}
use Rattle.rv_gate.specs.Marks.{input_count, output_count, with_constants, without_garbage}
use Rattle.rv_gate.specs.Word.{bit_of, word_of}
use Rattle.rv_gate.specs.declared.circuit.Mark.{Mark}
use Rattle.rv_gate.specs.declared.circuit.Mark.TheVariants.{Input}
use Rattle.rv_perm.specs.Marked.{Marked, unmarked}
use Rattle.rv_perm.specs.Perm.{permuted}
use Rattle.rv_pla.specs.FreeEntries.{IsAllowed, allows}
use Rattle.rv_pla.specs.Pla.{TwoLevel, entry}
use Rattle.rv_compare.specs.declared.comparison.TheConstants.{MOST_INPUTS}
use Rattle.rv_blif.specs.Logic.{Logic, outputs_of}
use Rattle.rv_compare.specs.declared.comparison.CompareFault.{CompareFault}
use Rattle.rv_compare.specs.declared.comparison.CompareFault.TheVariants.{Mem, Undecided}
use Rattle.rv_compare.specs.declared.comparison.Comparison.{Comparison}
use Rattle.rv_compare.specs.declared.comparison.Comparison.TheVariants.{Same, Inputs, Outputs, Differs}

-- what is put in on each line; on all lines a bit of the input
abbrev pub constants_asked : Bool → List Mark → List Mark
constants_asked all constants = if all then replicate (length constants) Input else constants

-- of each line, whether its output is left out; of all lines none is
abbrev pub garbage_asked : Bool → List Bool → List Bool
garbage_asked all garbage = if all then replicate (length garbage) false else garbage

-- a circuit as it is compared: by its marks, or on all lines, where these aren't looked at
abbrev pub asked : Bool → Cascade → Cascade
asked all c = record c { constants = constants_asked all c.constants; garbage = garbage_asked all c.garbage }

-- a permutation as it is compared
abbrev pub asked_perm : Bool → Marked → Marked
asked_perm all m = record m { constants = constants_asked all m.constants; garbage = garbage_asked all m.garbage }

-- the function of a circuit with marks: from the bits that are put in to those of the lines that aren't garbage
abbrev pub function_of : Cascade → List Bool → List Bool
function_of c x = without_garbage c.garbage (run c.gates (with_constants c.constants x))

-- the numbers of bits that a function takes and gives
pub record Size : Type 0 where
  pub inputs : ℕ
  pub outputs : ℕ

abbrev pub size_of : Cascade → Size
size_of c = record { inputs = input_count c.constants; outputs = output_count c.garbage }

-- the least number below a count at which something doesn't hold
pub record IsLeastFailing (count : ℕ) (P : ℕ → Type 0) (number : ℕ) : Type 0 where
  pub below : number < count
  pub fails : ¬ P number
  pub least : (less : ℕ) → less < number → P less

-- what an answer says of two functions of these sizes, which agree or don't at each input word
abbrev pub IsAnswer : Size → Size → (List Bool → Type 0) → Comparison → Type 0
IsAnswer a b Agree Same =
    (a.inputs ≡ b.inputs) × (a.outputs ≡ b.outputs) × ((x : List Bool) → length x ≡ a.inputs → Agree x)
IsAnswer a b Agree (Inputs n m) = (a.inputs ≡ n) × (b.inputs ≡ m) × (n ≢ m)
IsAnswer a b Agree (Outputs n m) = (a.inputs ≡ b.inputs) × (a.outputs ≡ n) × (b.outputs ≡ m) × (n ≢ m)
IsAnswer a b Agree (Differs number) =
    (a.inputs ≡ b.inputs) × (a.outputs ≡ b.outputs)
    × IsLeastFailing (2 ^ a.inputs) (λ k. Agree (word_of a.inputs k)) number

-- ---- the answer computed

-- the least number below a count at which a test fails
abbrev pub first_failing : ℕ → (ℕ → Bool) → Option ℕ
first_failing count test = first (λ k. if test k then None else Some k) 0 count

abbrev pub of_failing : Option ℕ → Comparison
of_failing None = Same
of_failing (Some number) = Differs number

-- what is found of two functions of these sizes, by a test of whether they agree at an input word
abbrev pub answer_by : Size → Size → (List Bool → Bool) → Comparison
answer_by a b agree =
    if a.inputs == b.inputs then
    (if a.outputs == b.outputs then of_failing (first_failing (2 ^ a.inputs) (λ k. agree (word_of a.inputs k)))
    else Outputs a.outputs b.outputs)
    else Inputs a.inputs b.inputs

-- ---- a circuit and another

-- they give the same word
abbrev pub AreSame : Cascade → Cascade → List Bool → Type 0
AreSame a b x = function_of a x ≡ function_of b x

abbrev pub CircuitsAnswer : Cascade → Cascade → Comparison → Type 0
CircuitsAnswer a b = IsAnswer (size_of a) (size_of b) (AreSame a b)

abbrev pub circuits_answer : Cascade → Cascade → Comparison
circuits_answer a b = answer_by (size_of a) (size_of b) (λ x. same_word (function_of a x) (function_of b x))

-- a circuit has too many inputs to be compared on all words, one after another
abbrev pub HasManyInputs : Cascade → Type 0
HasManyInputs c = MOST_INPUTS < input_count c.constants

-- why there may be no answer
abbrev pub EndsFor : Cascade → CompareFault → Type 0
EndsFor c Undecided = HasManyInputs c
EndsFor c Mem = Unit {0}

-- ---- a circuit and a permutation

-- the function of a permutation with marks
abbrev pub function_by : Marked → List Bool → List Bool
function_by m x = without_garbage m.garbage (permuted m.table (with_constants m.constants x))

abbrev pub size_by : Marked → Size
size_by m = record { inputs = input_count m.constants; outputs = output_count m.garbage }

-- they give the same word
abbrev pub GivesImage : Cascade → Marked → List Bool → Type 0
GivesImage c m x = function_of c x ≡ function_by m x

abbrev pub PermAnswer : Cascade → Marked → Comparison → Type 0
PermAnswer c m = IsAnswer (size_of c) (size_by m) (GivesImage c m)

abbrev pub perm_answer : Cascade → Marked → Comparison
perm_answer c m = answer_by (size_of c) (size_by m) (λ x. same_word (function_of c x) (function_by m x))

-- no line of the circuit holds a constant, and none is garbage
pub record IsUnmarked (c : Cascade) : Type 0 where
  pub constants : c.constants ≡ replicate (length c.names) Input
  pub garbage : c.garbage ≡ replicate (length c.names) false

-- no marks are looked at, or there are none
abbrev pub IsOnAllLines : Bool → Cascade → Marked → Type 0
IsOnAllLines all c m = (all ≡ true) ⊎ (IsUnmarked c × (m ≡ unmarked m.table))

-- ---- a circuit and a table

-- the circuit gives a word that the table allows
abbrev pub GivesAllowed : Cascade → TwoLevel → List Bool → Type 0
GivesAllowed c pla x = IsAllowed pla x (bit_of (function_of c x))

abbrev pub size_for : TwoLevel → Size
size_for pla = record { inputs = pla.inputs; outputs = pla.outputs }

abbrev pub TableAnswer : Cascade → TwoLevel → Comparison → Type 0
TableAnswer c pla = IsAnswer (size_of c) (size_for pla) (GivesAllowed c pla)

-- whether it does
abbrev pub gives_allowed : Cascade → TwoLevel → List Bool → Bool
gives_allowed c pla x = all_below (λ output. allows (entry pla x output) (bit_of (function_of c x) output)) pla.outputs

abbrev pub table_answer : Cascade → TwoLevel → Comparison
table_answer c pla = answer_by (size_of c) (size_for pla) (gives_allowed c pla)

-- ---- a circuit and a logic network

-- the circuit gives the network's outputs
abbrev pub GivesOutputs : Cascade → Logic → List Bool → Type 0
GivesOutputs c logic x = function_of c x ≡ outputs_of logic x

abbrev pub size_in : Logic → Size
size_in logic = record { inputs = length logic.inputs; outputs = length logic.outputs }

abbrev pub LogicAnswer : Cascade → Logic → Comparison → Type 0
LogicAnswer c logic = IsAnswer (size_of c) (size_in logic) (GivesOutputs c logic)

abbrev pub logic_answer : Cascade → Logic → Comparison
logic_answer c logic = answer_by (size_of c) (size_in logic) (λ x. same_word (function_of c x) (outputs_of logic x))
