-- What a text denotes, said by its statements one after the other.
use Rattle.std.specs.Prelude.{◌≡◌, ◌⊎◌, ℕ, ◌<◌, true, false, List, [], ◌∷◌, ◌++◌, length, Result, Ok, Err}
use Rattle.rv_text.specs.Lines.{lines_of}
use Rattle.rv_text.specs.declared.fault.TextFault.{TextFault}
use Rattle.rv_qasm.specs.Statements.{Statement, statements_of, unended_of}
use Rattle.rv_qasm.specs.Rules.{SoFar, nothing_so_far, qubit_count, statement_read, unended_code}
use Rattle.rv_qasm.specs.Reading.{Listing, listing_of}
use Rattle.rv_qasm.specs.declared.code.TheConstants as code
use Rattle.rv_qasm.specs.declared.fault.QasmFault.{QasmFault}
use Rattle.rv_qasm.specs.declared.fault.QasmFault.TheVariants as faults

-- each statement breaks no rule, after those before it
abbrev pub AreAccepted : SoFar → List Statement → SoFar → Type 0
AreAccepted old [] new = new ≡ old
AreAccepted old (statement ∷ statements) new =
    (next : SoFar) × (statement_read old statement.tokens ≡ Ok next) × AreAccepted next statements new

-- the first statement that breaks a rule, after statements that break none
pub record BreaksFirst (old : SoFar) (statements : List Statement) (fault : TextFault) : Type 0 where
  pub before : List Statement
  pub statement : Statement
  pub after : List Statement
  pub so_far : SoFar
  pub statements_are : statements ≡ before ++ statement ∷ after
  pub accepted : AreAccepted old before so_far
  pub code_is : statement_read so_far statement.tokens ≡ Err fault.code
  pub line_is : fault.line ≡ statement.line

-- what a text of so many lines lacks after its statements: a `;`, its header, or a quantum register
abbrev pub EndsWrong : ℕ → SoFar → List Statement → TextFault → Type 0
EndsWrong lines so_far (statement ∷ _) fault =
    (fault.line ≡ statement.line) × (fault.code ≡ unended_code statement.tokens)
EndsWrong lines so_far [] fault =
    (fault.line ≡ lines)
    × (((so_far.has_version ≡ false) × (fault.code ≡ code.NO_HEADER))
    ⊎ ((so_far.has_version ≡ true) × (qubit_count so_far ≡ 0) × (fault.code ≡ code.NO_QUANTUM_REGISTER)))

-- A text is accepted: all its statements are, each has its `;`, and there are a header and a qubit.
pub record IsAccepted (text : List ℕ) (listing : Listing) : Type 0 where
  pub so_far : SoFar
  pub accepted : AreAccepted nothing_so_far (statements_of text) so_far
  pub ended : unended_of text ≡ []
  pub has_version : so_far.has_version ≡ true
  pub some : 0 < qubit_count so_far
  pub listing_is : listing ≡ listing_of so_far

-- a text is wrong at its end: all its statements are accepted
pub record IsWrongAtEnd (text : List ℕ) (fault : TextFault) : Type 0 where
  pub so_far : SoFar
  pub accepted : AreAccepted nothing_so_far (statements_of text) so_far
  pub wrong : EndsWrong (length (lines_of text)) so_far (unended_of text) fault

-- what a text denotes
abbrev pub IsDenoted : List ℕ → Result Listing QasmFault → Type 0
IsDenoted text (Ok listing) = IsAccepted text listing
IsDenoted text (Err (faults.Text fault)) =
    BreaksFirst nothing_so_far (statements_of text) fault ⊎ IsWrongAtEnd text fault
IsDenoted text (Err faults.Mem) = ⊥
