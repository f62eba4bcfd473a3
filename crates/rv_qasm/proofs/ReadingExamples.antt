-- Short texts with their statements, and what they denote.
use Rattle.std.proofs.Common.{◌≡◌, ℕ, List, [], ◌∷◌, codes, Ok, Err, refl}
use Rattle.rv_qasm.specs.Tokens.{tokens_after, qasm_tokens}
use Rattle.rv_qasm.specs.Statements.{Statement, ended_statements, unended_tokens, statements_of, unended_of}
use Rattle.rv_qasm.specs.Rules.{statement_read}
use Rattle.rv_qasm.specs.Reading.{qasm_of}
use Rattle.rv_qasm.specs.declared.fault.QasmFault.TheVariants as faults
use Rattle.rv_qasm.specs.declared.code.TheConstants as code

abbrev at : ℕ → List (List ℕ) → Statement
at line tokens = record { line = line; tokens = tokens }

semicolon_in_comment : statements_of (codes "a//;b\nc;") ≡ at 1 (codes "a" ∷ codes "c" ∷ []) ∷ []
unfolding qasm_tokens tokens_after ended_statements
semicolon_in_comment = refl

no_comment_in_string : statements_of (codes "a\";//\" b;") ≡ at 1 (codes "a" ∷ codes "\";//\"" ∷ codes "b" ∷ []) ∷ []
unfolding qasm_tokens tokens_after ended_statements
no_comment_in_string = refl

string_ends_with_its_line : statements_of (codes "\"a;\nb;") ≡ at 1 (codes "\"a;" ∷ codes "b" ∷ []) ∷ []
unfolding qasm_tokens tokens_after ended_statements
string_ends_with_its_line = refl

line_of_an_empty_statement : statements_of (codes "a\n;\n//\n;") ≡ at 1 (codes "a" ∷ []) ∷ at 4 [] ∷ []
unfolding qasm_tokens tokens_after ended_statements
line_of_an_empty_statement = refl

longest_tokens : statements_of (codes "1.x1.5->/- >;") ≡ at 1 (codes "1" ∷ codes "." ∷ codes "x1" ∷ codes "." ∷ codes "5" ∷ codes "->" ∷ codes "/" ∷ codes "-" ∷ codes ">" ∷ []) ∷ []
unfolding qasm_tokens tokens_after ended_statements
longest_tokens = refl

decimals : statements_of (codes "2.0.1;") ≡ at 1 (codes "2.0" ∷ codes "." ∷ codes "1" ∷ []) ∷ []
unfolding qasm_tokens tokens_after ended_statements
decimals = refl

unended : unended_of (codes "a;\n\n1./") ≡ at 3 (codes "1" ∷ codes "." ∷ codes "/" ∷ []) ∷ []
unfolding qasm_tokens tokens_after unended_tokens
unended = refl

none_unended : unended_of (codes "a; // b\n") ≡ []
unfolding qasm_tokens tokens_after unended_tokens
none_unended = refl

one_qubit : qasm_of (codes "OPENQASM 2.0;qreg q[1];") ≡ Ok (record { net = record { lines = 1; ops = [] }; registers = record { name = codes "q"; size = 1 } ∷ []; measurements = 0 })
unfolding qasm_tokens tokens_after ended_statements unended_tokens qasm_of statement_read
one_qubit = refl

unended_version : qasm_of (codes "\nOPENQASM 2.0") ≡ Err (faults.Text (record { line = 2; code = code.UNENDED_STATEMENT }))
unfolding qasm_tokens tokens_after ended_statements unended_tokens qasm_of statement_read
unended_version = refl

no_register : qasm_of (codes "OPENQASM\n2.0;\n") ≡ Err (faults.Text (record { line = 2; code = code.NO_QUANTUM_REGISTER }))
unfolding qasm_tokens tokens_after ended_statements unended_tokens qasm_of statement_read
no_register = refl

empty_text : qasm_of [] ≡ Err (faults.Text (record { line = 0; code = code.NO_HEADER }))
unfolding qasm_tokens tokens_after ended_statements unended_tokens qasm_of statement_read
empty_text = refl
