-- What the text of an input denotes, or why it is refused.
use Rattle.std.specs.Prelude.{◌≡◌, ℕ, List, Option, Some, None, Result, Ok, Err}
use Rattle.rv_gate.specs.Circuit.{Cascade}
use Rattle.rv_real.specs.Reading.{real_of}
use Rattle.rv_real.specs.declared.fault.RealFault.{RealFault}
use Rattle.rv_real.specs.declared.fault.RealFault.TheVariants as real
use Rattle.rv_perm.specs.Marked.{Marked}
use Rattle.rv_perm.specs.Reading.{permutation_of}
use Rattle.rv_perm.specs.declared.fault.PermFault.{PermFault}
use Rattle.rv_perm.specs.declared.fault.PermFault.TheVariants as perm
use Rattle.rv_pla.specs.Pla.{TwoLevel}
use Rattle.rv_pla.specs.Reading.{pla_of}
use Rattle.rv_pla.specs.declared.fault.PlaFault.{PlaFault}
use Rattle.rv_pla.specs.declared.fault.PlaFault.TheVariants as pla
use Rattle.rv_qasm.specs.Reading.{Listing, qasm_of}
use Rattle.rv_qasm.specs.declared.fault.QasmFault.{QasmFault}
use Rattle.rv_qasm.specs.declared.fault.QasmFault.TheVariants as qasm
use Rattle.rv_blif.specs.Logic.{Logic}
use Rattle.rv_blif.specs.Reading.{logic_of}
use Rattle.rv_blif.specs.declared.fault.BlifFault.{BlifFault}
use Rattle.rv_blif.specs.declared.fault.BlifFault.TheVariants as blif
use Rattle.rv_faults.specs.declared.fault.Refusal.{Refusal}
use Rattle.rv_faults.specs.declared.fault.Refusal.TheVariants.{Refused, OutOfMemory}
use Rattle.rv_faults.specs.declared.fault.TextFormat.TheVariants.{Real, Permutation, Pla, Qasm, Blif}
use Rattle.rv_faults.specs.declared.fault.InputFault.{InputFault}
use Rattle.rv_faults.specs.declared.fault.InputFault.TheVariants.{Text, WrongLength, OutOfRange, Repeated, Conflict}

-- ---- a fault of a text, as why an input is refused; nothing stands for want of memory

abbrev pub no_circuit : RealFault → Option InputFault
no_circuit (real.Text fault) = Some (Text Real fault.line fault.code)
no_circuit real.Mem = None

abbrev pub no_permutation : PermFault → Option InputFault
no_permutation (perm.Text fault) = Some (Text Permutation fault.line fault.code)
no_permutation (perm.Length count) = Some (WrongLength count)
no_permutation (perm.OutOfRange place) = Some (OutOfRange place)
no_permutation (perm.Repeated first second) = Some (Repeated first second)
no_permutation perm.Mem = None

abbrev pub no_pla : PlaFault → Option InputFault
no_pla (pla.Text fault) = Some (Text Pla fault.line fault.code)
no_pla (pla.Conflict on off inputs word output) = Some (Conflict on off inputs word)
no_pla pla.Mem = None

abbrev pub no_program : QasmFault → Option InputFault
no_program (qasm.Text fault) = Some (Text Qasm fault.line fault.code)
no_program qasm.Mem = None

abbrev pub no_logic : BlifFault → Option InputFault
no_logic (blif.Text fault) = Some (Text Blif fault.line fault.code)
no_logic blif.Mem = None

-- ---- formats

-- the object that a text denotes, or why it denotes none
abbrev pub Format : Type 0 → Type 0
Format X = List ℕ → Result X (Option InputFault)

abbrev pub refused_as : {X E : Type 0} → (E → Option InputFault) → Result X E → Result X (Option InputFault)
refused_as why (Ok x) = Ok x
refused_as why (Err fault) = Err (why fault)

abbrev pub format : {X E : Type 0} → (List ℕ → Result X E) → (E → Option InputFault) → Format X
format denoted why text = refused_as why (denoted text)

-- RevLib's `.real`
abbrev pub circuit : Format Cascade
circuit = format real_of no_circuit

abbrev pub permutation : Format Marked
permutation = format permutation_of no_permutation

-- Espresso's PLA
abbrev pub table : Format TwoLevel
table = format pla_of no_pla

-- OpenQASM 2.0
abbrev pub program : Format Listing
program = format qasm_of no_program

-- BLIF
abbrev pub logic : Format Logic
logic = format logic_of no_logic

-- ---- the input of this number

abbrev pub refused_at : ℕ → Option InputFault → Refusal
refused_at input (Some why) = Refused input why
refused_at input None = OutOfMemory

-- what its text denotes, or that it is refused
abbrev pub at_input : {X : Type 0} → ℕ → Result X (Option InputFault) → Result X Refusal
at_input input (Ok x) = Ok x
at_input input (Err why) = Err (refused_at input why)

-- the text denotes an object, of which P holds
pub record DenotesWith {X : Type 0} (format : Format X) (text : List ℕ) (P : X → Type 0) : Type 0 where
  pub object : X
  pub is : format text ≡ Ok object
  pub fact : P object
