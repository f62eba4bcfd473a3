-- A text is accepted if each statement is, and its first fault is that of the first statement that has one.
use Rattle.std.proofs.Common.{◌≡◌, ℕ, List, [], ◌∷◌, ◌++◌, length, refl, sym, ap, inl, inr, arith, nat_eq}
use Rattle.std.specs.Prelude.{◌↔◌, Result, Ok, Err}
use Rattle.std.proofs.lemmas.Bool.{cases_Bool, eqb-true, eqb-false}
use Rattle.rv_text.specs.Lines.{lines_of}
use Rattle.rv_text.specs.declared.fault.TextFault.{TextFault}
use Rattle.rv_reader.specs.Rules.{◌>>=◌, on_line}
use Rattle.rv_reader.specs.Feeding.{faulted}
use Rattle.rv_qasm.specs.Statements.{Statement, statements_of, unended_of}
use Rattle.rv_qasm.specs.Rules.{SoFar, nothing_so_far, qubit_count, statement_read}
use Rattle.rv_qasm.specs.Reading.{Listing, statements_read, all_ended, at_end, ended_statements_read, qasm_of}
use Rattle.rv_qasm.specs.Denoted.{AreAccepted, BreaksFirst, EndsWrong, IsDenoted}
use Rattle.rv_qasm.specs.declared.fault.QasmFault.{QasmFault}
use Rattle.rv_qasm.specs.declared.fault.QasmFault.TheVariants as faults

read_accepted : (statements : List Statement) (old new : SoFar) → AreAccepted old statements new → statements_read old statements ≡ Ok new
read_accepted [] old new h = rw h refl
read_accepted (statement ∷ statements) old new h = rw h.1 (read_accepted statements h.0 new h.2)

read_broken : (before : List Statement) (statement : Statement) (after : List Statement) (old so_far : SoFar) (fault : TextFault)
    → AreAccepted old before so_far → statement_read so_far statement.tokens ≡ Err fault.code → fault.line ≡ statement.line
    → statements_read old (before ++ statement ∷ after) ≡ Err fault
read_broken [] statement after old so_far fault h wrong line = grind (arith)
read_broken (first ∷ before) statement after old so_far fault h wrong line = rw h.1 (read_broken before statement after h.0 so_far fault h.2 wrong line)

-- what statements gave that were read
abbrev HasRead : SoFar → List Statement → Result SoFar TextFault → Type 0
HasRead old statements (Ok new) = AreAccepted old statements new
HasRead old statements (Err fault) = BreaksFirst old statements fault

accepted_first : (old next : SoFar) (statement : Statement) (statements : List Statement) (r : Result SoFar TextFault) → statement_read old statement.tokens ≡ Ok next
    → HasRead next statements r → HasRead old (statement ∷ statements) r
accepted_first old next statement statements (Ok new) e h = (next, e, h)
accepted_first old next statement statements (Err fault) e h = record {
  before = statement ∷ h.before;
  statement = h.statement;
  after = h.after;
  so_far = h.so_far;
  statements_are = ap (λ (ss : List Statement). statement ∷ ss) h.statements_are;
  accepted = (next, e, h.accepted);
  code_is = h.code_is;
  line_is = h.line_is;
}

read_on : (old : SoFar) (statement : Statement) (statements : List Statement) (r : Result SoFar ℕ) → statement_read old statement.tokens ≡ r
    → ((next : SoFar) → HasRead next statements (statements_read next statements))
    → HasRead old (statement ∷ statements) (on_line statement.line r >>= λ next. statements_read next statements)
read_on old statement statements (Ok next) e more = accepted_first old next statement statements (statements_read next statements) e (more next)
read_on old statement statements (Err code) e more = record {
  before = [];
  statement = statement;
  after = statements;
  so_far = old;
  statements_are = refl;
  accepted = refl;
  code_is = e;
  line_is = refl;
}

have_read : (statements : List Statement) (old : SoFar) → HasRead old statements (statements_read old statements)
have_read [] old = refl
have_read (statement ∷ statements) old = read_on old statement statements (statement_read old statement.tokens) refl (have_read statements)

-- at the end
ended_so : (text : List ℕ) (so_far : SoFar) (unended : List Statement) → unended_of text ≡ unended → AreAccepted nothing_so_far (statements_of text) so_far
    → IsDenoted text (faulted faults.Text (all_ended unended so_far >>= at_end (length (lines_of text))))
ended_so text so_far (statement ∷ more) e h = inr (record { so_far = so_far; accepted = h; wrong = rw e (refl, refl) })
ended_so text so_far [] e h = elim (cases_Bool so_far.has_version) [
  | inl v ↦ elim (cases_Bool (nat_eq (qubit_count so_far) 0)) [
    | inl none ↦ rw (v, none) (inr (record { so_far = so_far; accepted = h; wrong = rw e (refl, inr (v, eqb-true _ _ none, refl)) }))
    | inr some ↦ rw (v, some) (record { so_far = so_far; accepted = h; ended = e; has_version = v; some = omega (arith, eqb-false _ _ some); listing_is = refl })
  ]
  | inr v ↦ rw v (inr (record { so_far = so_far; accepted = h; wrong = rw e (refl, inl (v, refl)) }))
]

denoted_so : (text : List ℕ) (r : Result SoFar TextFault) → HasRead nothing_so_far (statements_of text) r
    → IsDenoted text (faulted faults.Text (r >>= λ so_far. all_ended (unended_of text) so_far >>= at_end (length (lines_of text))))
denoted_so text (Ok so_far) h = ended_so text so_far (unended_of text) refl h
denoted_so text (Err fault) h = inl h

is_denoted : (text : List ℕ) → IsDenoted text (qasm_of text)
unfolding qasm_of
is_denoted text = denoted_so text (ended_statements_read text) (have_read (statements_of text) nothing_so_far)

-- what is wrong at the end is what is told
wrong_so : (lines : ℕ) (so_far : SoFar) (unended : List Statement) (fault : TextFault) → EndsWrong lines so_far unended fault
    → (all_ended unended so_far >>= at_end lines) ≡ Err fault
wrong_so lines so_far unended fault h = grind arith

denoted_alone : (text : List ℕ) (answer : Result Listing QasmFault) → IsDenoted text answer → qasm_of text ≡ answer
unfolding qasm_of
denoted_alone text answer h = grind (arith, read_accepted, statements_of, nothing_so_far, qubit_count, ended_statements_read, read_broken, wrong_so, lines_of, unended_of)

pub IsDenoted-qasm_of : (text : List ℕ) (answer : Result Listing QasmFault) → IsDenoted text answer ↔ (qasm_of text ≡ answer)
IsDenoted-qasm_of text answer = (denoted_alone text answer, λ e. rw (sym e) (is_denoted text))
