-- What is written of a network, read back, is that network in one register q, without measurements.
use Rattle.std.proofs.Common.{◌≡◌, ℕ, ◌+◌, ◌<◌, ◌≤◌, ◌^◌, true, false, List, [], ◌∷◌, ◌++◌, All, length, map, refl, arith, ap, sym, ◌∙◌, decimal, codes, ne_eqb, append_assoc, append-nil, length-append, Result, Ok}
use Rattle.std.specs.Prelude.{◌≢◌, bytes_eq}
use Rattle.std.specs.List.{flat_map}
use Rattle.std.proofs.lemmas.List.Elements.{All-head, All-tail}
use Rattle.rv_gate.specs.declared.word.TheConstants.{MOST_LINES}
use Rattle.rv_net.specs.Op.{IsNetwork, Network, OpFitsIn}
use Rattle.rv_net.specs.declared.net.TheConstants.{MOST_OPS}
use Rattle.rv_net.specs.declared.op.Op.{Op}
use Rattle.rv_net.specs.declared.op.Op.TheVariants.{X, Y, Z, H, S, Sdg, T, Tdg, Cx, Cz, Ccx, Swap, Cswap}
use Rattle.rv_qasm.specs.Gates.{op_on}
use Rattle.rv_qasm.specs.Text.{header, statement, text_of}
use Rattle.rv_qasm.specs.Tokens.{TokenOnLine, tokens_after, qasm_tokens}
use Rattle.rv_qasm.specs.Statements.{Statement, ended_statements, statement_of, unended_in, unended_of, unended_tokens}
use Rattle.rv_qasm.specs.Rules.{SoFar, nothing_so_far, statement_read}
use Rattle.rv_qasm.specs.Reading.{in_register_q, at_end, ended_statements_read, qasm_of, statements_read}
use Rattle.rv_reader.specs.Rules.{◌>>=◌, on_line}
use Rattle.rv_text.specs.Lines.{lines_of}
use Rattle.rv_text.proofs.inside.Decimal.{count_is, is_decimal-decimal}
use Rattle.std.proofs.lemmas.Bool.{le-ltb}
use Rattle.rv_qasm.specs.inside.Written.{IsReadyForGate}
use Rattle.rv_qasm.proofs.WrittenTokens.{AreSmall, gate-tokens, gate_tokens, number_token, operand_tokens, token}
use Rattle.rv_qasm.proofs.inside.WrittenStatements.{HasNone, IsGate, ended-more, one-read, three-read, two-read, unended-more, with_ops, written, zero-add}

-- ---- an operation by the name and the lines of its statement

abbrev name_of : Op → List ℕ
name_of (X q) = codes "x"
name_of (Y q) = codes "y"
name_of (Z q) = codes "z"
name_of (H q) = codes "h"
name_of (S q) = codes "s"
name_of (Sdg q) = codes "sdg"
name_of (T q) = codes "t"
name_of (Tdg q) = codes "tdg"
name_of (Cx a b) = codes "cx"
name_of (Cz a b) = codes "cz"
name_of (Ccx a b c) = codes "ccx"
name_of (Swap a b) = codes "swap"
name_of (Cswap c a b) = codes "cswap"

abbrev lines_on : Op → List ℕ
lines_on (X q) = q ∷ []
lines_on (Y q) = q ∷ []
lines_on (Z q) = q ∷ []
lines_on (H q) = q ∷ []
lines_on (S q) = q ∷ []
lines_on (Sdg q) = q ∷ []
lines_on (T q) = q ∷ []
lines_on (Tdg q) = q ∷ []
lines_on (Cx a b) = a ∷ b ∷ []
lines_on (Cz a b) = a ∷ b ∷ []
lines_on (Ccx a b c) = a ∷ b ∷ c ∷ []
lines_on (Swap a b) = a ∷ b ∷ []
lines_on (Cswap c a b) = c ∷ a ∷ b ∷ []

abbrev op_tokens : ℕ → Op → List TokenOnLine
op_tokens line op = gate_tokens line (name_of op) (lines_on op)

pub small : (n a : ℕ) → n ≤ MOST_LINES → a < n → a < 2 ^ 64
small n a few low = omega (arith, few, low)

are_small : (n : ℕ) (op : Op) → n ≤ MOST_LINES → OpFitsIn op n → AreSmall (lines_on op)
are_small n (X q) few fits = (small n q few fits, tt)
are_small n (Y q) few fits = (small n q few fits, tt)
are_small n (Z q) few fits = (small n q few fits, tt)
are_small n (H q) few fits = (small n q few fits, tt)
are_small n (S q) few fits = (small n q few fits, tt)
are_small n (Sdg q) few fits = (small n q few fits, tt)
are_small n (T q) few fits = (small n q few fits, tt)
are_small n (Tdg q) few fits = (small n q few fits, tt)
are_small n (Cx a b) few fits = (small n a few fits.0, (small n b few fits.1, tt))
are_small n (Cz a b) few fits = (small n a few fits.0, (small n b few fits.1, tt))
are_small n (Swap a b) few fits = (small n a few fits.0, (small n b few fits.1, tt))
are_small n (Ccx a b c) few fits = (small n a few fits.0, (small n b few fits.1, (small n c few fits.2, tt)))
are_small n (Cswap c a b) few fits = (small n c few fits.0, (small n a few fits.1, (small n b few fits.2, tt)))

-- its tokens
op-tokens : (op : Op) (line : ℕ) (rest : List ℕ) → AreSmall (lines_on op)
    → tokens_after 0 line (statement op ++ rest) ≡ op_tokens line op ++ (token line (codes ";") ∷ tokens_after 0 (line + 1) rest)
unfolding tokens_after
op-tokens (X q) line rest few = gate-tokens (codes "x") (q ∷ []) line rest (λ line rest. refl) few
op-tokens (Y q) line rest few = gate-tokens (codes "y") (q ∷ []) line rest (λ line rest. refl) few
op-tokens (Z q) line rest few = gate-tokens (codes "z") (q ∷ []) line rest (λ line rest. refl) few
op-tokens (H q) line rest few = gate-tokens (codes "h") (q ∷ []) line rest (λ line rest. refl) few
op-tokens (S q) line rest few = gate-tokens (codes "s") (q ∷ []) line rest (λ line rest. refl) few
op-tokens (Sdg q) line rest few = gate-tokens (codes "sdg") (q ∷ []) line rest (λ line rest. refl) few
op-tokens (T q) line rest few = gate-tokens (codes "t") (q ∷ []) line rest (λ line rest. refl) few
op-tokens (Tdg q) line rest few = gate-tokens (codes "tdg") (q ∷ []) line rest (λ line rest. refl) few
op-tokens (Cx a b) line rest few = gate-tokens (codes "cx") (a ∷ b ∷ []) line rest (λ line rest. refl) few
op-tokens (Cz a b) line rest few = gate-tokens (codes "cz") (a ∷ b ∷ []) line rest (λ line rest. refl) few
op-tokens (Ccx a b c) line rest few = gate-tokens (codes "ccx") (a ∷ b ∷ c ∷ []) line rest (λ line rest. refl) few
op-tokens (Swap a b) line rest few = gate-tokens (codes "swap") (a ∷ b ∷ []) line rest (λ line rest. refl) few
op-tokens (Cswap c a b) line rest few = gate-tokens (codes "cswap") (c ∷ a ∷ b ∷ []) line rest (λ line rest. refl) few

-- no `;` is among them
pub operands_none : (line : ℕ) (lines : List ℕ) → AreSmall lines → HasNone (operand_tokens line lines)
operands_none line [] few = tt
operands_none line (a ∷ []) few = (refl, (refl, ((written a few.0).no_semicolon, (refl, tt))))
operands_none line (a ∷ b ∷ more) few = (refl, (refl, ((written a few.0).no_semicolon, (refl, (refl, operands_none line (b ∷ more) few.1)))))

name_none : (op : Op) → bytes_eq (name_of op) (codes ";") ≡ false
name_none op = grind arith

-- ---- what its statement gives

abbrev op_statement : ℕ → Op → Statement
op_statement line op = statement_of (op_tokens line op) line

pub one : (so_far : SoFar) (n a : ℕ) (name : List ℕ) → IsReadyForGate so_far n → IsGate name 1 → n ≤ MOST_LINES → a < n
    → statement_read so_far (map (λ t. t.bytes) (gate_tokens 0 name (a ∷ []))) ≡ Ok (with_ops so_far (op_on name (a ∷ [])))
one so_far n a name ready gate few low = one-read so_far n name (decimal a) a ready gate (written a (small n a few low)) low

pub two : (so_far : SoFar) (n a b : ℕ) (name : List ℕ) → IsReadyForGate so_far n → IsGate name 2 → n ≤ MOST_LINES → (a < n) × (b < n) × (a ≢ b)
    → statement_read so_far (map (λ t. t.bytes) (gate_tokens 0 name (a ∷ b ∷ []))) ≡ Ok (with_ops so_far (op_on name (a ∷ b ∷ [])))
two so_far n a b name ready gate few fits =
    two-read so_far n name (decimal a) (decimal b) a b ready gate (written a (small n a few fits.0)) (written b (small n b few fits.1)) fits.0 fits.1 fits.2

pub three : (so_far : SoFar) (n a b c : ℕ) (name : List ℕ) → IsReadyForGate so_far n → IsGate name 3 → n ≤ MOST_LINES → (a < n) × (b < n) × (c < n) × (a ≢ b) × (a ≢ c) × (b ≢ c)
    → statement_read so_far (map (λ t. t.bytes) (gate_tokens 0 name (a ∷ b ∷ c ∷ []))) ≡ Ok (with_ops so_far (op_on name (a ∷ b ∷ c ∷ [])))
three so_far n a b c name ready gate few fits =
    three-read so_far n name (decimal a) (decimal b) (decimal c) a b c ready gate (written a (small n a few fits.0)) (written b (small n b few fits.1)) (written c (small n c few fits.2))
    fits.0 fits.1 fits.2 fits.3 fits.4 fits.5

op-read : (so_far : SoFar) (n : ℕ) (op : Op) (line : ℕ) → IsReadyForGate so_far n → n ≤ MOST_LINES → OpFitsIn op n
    → statement_read so_far (op_statement line op).tokens ≡ Ok (with_ops so_far (op ∷ []))
op-read so_far n (X q) line ready few fits = one so_far n q (codes "x") ready (record { body = λ s t. refl; size_is = refl; closed = refl }) few fits
op-read so_far n (Y q) line ready few fits = one so_far n q (codes "y") ready (record { body = λ s t. refl; size_is = refl; closed = refl }) few fits
op-read so_far n (Z q) line ready few fits = one so_far n q (codes "z") ready (record { body = λ s t. refl; size_is = refl; closed = refl }) few fits
op-read so_far n (H q) line ready few fits = one so_far n q (codes "h") ready (record { body = λ s t. refl; size_is = refl; closed = refl }) few fits
op-read so_far n (S q) line ready few fits = one so_far n q (codes "s") ready (record { body = λ s t. refl; size_is = refl; closed = refl }) few fits
op-read so_far n (Sdg q) line ready few fits = one so_far n q (codes "sdg") ready (record { body = λ s t. refl; size_is = refl; closed = refl }) few fits
op-read so_far n (T q) line ready few fits = one so_far n q (codes "t") ready (record { body = λ s t. refl; size_is = refl; closed = refl }) few fits
op-read so_far n (Tdg q) line ready few fits = one so_far n q (codes "tdg") ready (record { body = λ s t. refl; size_is = refl; closed = refl }) few fits
op-read so_far n (Cx a b) line ready few fits = two so_far n a b (codes "cx") ready (record { body = λ s t. refl; size_is = refl; closed = refl }) few fits
op-read so_far n (Cz a b) line ready few fits = two so_far n a b (codes "cz") ready (record { body = λ s t. refl; size_is = refl; closed = refl }) few fits
op-read so_far n (Ccx a b c) line ready few fits = three so_far n a b c (codes "ccx") ready (record { body = λ s t. refl; size_is = refl; closed = refl }) few fits
op-read so_far n (Swap a b) line ready few fits = two so_far n a b (codes "swap") ready (record { body = λ s t. refl; size_is = refl; closed = refl }) few fits
op-read so_far n (Cswap c a b) line ready few fits = three so_far n c a b (codes "cswap") ready (record { body = λ s t. refl; size_is = refl; closed = refl }) few fits

-- ---- all operations

abbrev op_statements : ℕ → List Op → List Statement
op_statements line [] = []
op_statements line (op ∷ ops) = op_statement line op ∷ op_statements (line + 1) ops

abbrev Fits : ℕ → Op → Type 0
Fits n op = OpFitsIn op n

abbrev Fit : ℕ → List Op → Type 0
Fit n ops = All (Fits n) ops

ops-statements : (n : ℕ) (ops : List Op) (line : ℕ) → n ≤ MOST_LINES → Fit n ops
    → ended_statements [] (tokens_after 0 line (flat_map statement ops)) ≡ op_statements line ops
unfolding tokens_after ended_statements
ops-statements n [] line few fit = refl
ops-statements n (op ∷ ops) line few fit =
    let s = are_small n op few (All-head (Fits n) op ops fit) in
    ap (ended_statements []) (op-tokens op line (flat_map statement ops) s)
    ∙ (ended-more [] (op_tokens line op) (token line (codes ";")) (tokens_after 0 (line + 1) (flat_map statement ops)) (name_none op, operands_none line (lines_on op) s) refl
    ∙ ap (λ (rest : List Statement). op_statement line op ∷ rest) (ops-statements n ops (line + 1) few (All-tail (Fits n) op ops fit)))

ops-ended : (n : ℕ) (ops : List Op) (line : ℕ) → n ≤ MOST_LINES → Fit n ops → unended_tokens [] (tokens_after 0 line (flat_map statement ops)) ≡ []
unfolding tokens_after unended_tokens
ops-ended n [] line few fit = refl
ops-ended n (op ∷ ops) line few fit =
    let s = are_small n op few (All-head (Fits n) op ops fit) in
    ap (unended_tokens []) (op-tokens op line (flat_map statement ops) s)
    ∙ (unended-more [] (op_tokens line op) (token line (codes ";")) (tokens_after 0 (line + 1) (flat_map statement ops)) (name_none op, operands_none line (lines_on op) s) refl
    ∙ ops-ended n ops (line + 1) few (All-tail (Fits n) op ops fit))

-- a register of n qubits, and operations
abbrev declared : ℕ → List Op → SoFar
declared n ops = record { has_version = true; quantum = record { name = codes "q"; size = n } ∷ []; classical = []; measured = 0; measurements = 0; ops = ops }

ops-read : (n : ℕ) (before ops : List Op) (line : ℕ) → n ≤ MOST_LINES → Fit n ops → length before + length ops ≤ MOST_OPS
    → statements_read (declared n before) (op_statements line ops) ≡ Ok (declared n (before ++ ops))
ops-read n before [] line few fit bounded = ap (λ (ops : List Op). Ok (declared n ops)) (sym (append-nil before))
ops-read n before (op ∷ ops) line few fit bounded =
    let ready : IsReadyForGate (declared n before) n = record { version = refl; register = refl; unmeasured = refl; room = omega (arith, bounded) } in
    rw (op-read (declared n before) n op line ready few (All-head (Fits n) op ops fit))
    (ops-read n (before ++ op ∷ []) ops (line + 1) few (All-tail (Fits n) op ops fit) (omega (arith, bounded, length-append before (op ∷ [])))
    ∙ ap (λ (all : List Op). Ok (declared n all)) (append_assoc before (op ∷ []) ops))

-- ---- the header

header_tokens : ℕ → List TokenOnLine
header_tokens n =
    token 1 (codes "OPENQASM") ∷ token 1 (codes "2.0") ∷ token 1 (codes ";") ∷ token 2 (codes "include") ∷ token 2 (codes "\"qelib1.inc\"") ∷ token 2 (codes ";")
    ∷ token 3 (codes "qreg") ∷ token 3 (codes "q") ∷ token 3 (codes "[") ∷ token 3 (decimal n) ∷ token 3 (codes "]") ∷ token 3 (codes ";") ∷ []

version-tokens : (rest : List ℕ) → tokens_after 0 1 (codes "OPENQASM 2.0;\n" ++ rest)
    ≡ token 1 (codes "OPENQASM") ∷ token 1 (codes "2.0") ∷ token 1 (codes ";") ∷ tokens_after 0 2 rest
unfolding tokens_after
version-tokens rest = refl

include-tokens : (rest : List ℕ) → tokens_after 0 2 (codes "include \"qelib1.inc\";\n" ++ rest)
    ≡ token 2 (codes "include") ∷ token 2 (codes "\"qelib1.inc\"") ∷ token 2 (codes ";") ∷ tokens_after 0 3 rest
unfolding tokens_after
include-tokens rest = refl

register-tokens : (n : ℕ) (rest : List ℕ) → n < 2 ^ 64 → tokens_after 0 3 (codes "qreg q[" ++ (decimal n ++ (codes "];\n" ++ rest)))
    ≡ token 3 (codes "qreg") ∷ token 3 (codes "q") ∷ token 3 (codes "[") ∷ token 3 (decimal n) ∷ token 3 (codes "]") ∷ token 3 (codes ";") ∷ tokens_after 0 4 rest
unfolding tokens_after
register-tokens n rest few =
    ap (λ (tokens : List TokenOnLine). token 3 (codes "qreg") ∷ token 3 (codes "q") ∷ token 3 (codes "[") ∷ tokens) (number_token (decimal n) (59 ∷ 10 ∷ rest) 3 (is_decimal-decimal n few))

header_lines : (n : ℕ) (rest : List ℕ)
    → header n ++ rest ≡ codes "OPENQASM 2.0;\n" ++ (codes "include \"qelib1.inc\";\n" ++ (codes "qreg q[" ++ (decimal n ++ (codes "];\n" ++ rest))))
header_lines n rest =
    ap (λ (bytes : List ℕ). codes "OPENQASM 2.0;\ninclude \"qelib1.inc\";\nqreg q[" ++ bytes) (append_assoc (decimal n) (codes "];\n") rest)

header-tokens : (n : ℕ) (rest : List ℕ) → n < 2 ^ 64 → tokens_after 0 1 (header n ++ rest) ≡ header_tokens n ++ tokens_after 0 4 rest
unfolding header_tokens
header-tokens n rest few =
    let last : List ℕ = codes "qreg q[" ++ (decimal n ++ (codes "];\n" ++ rest)) in
    ap (tokens_after 0 1) (header_lines n rest)
    ∙ (version-tokens (codes "include \"qelib1.inc\";\n" ++ last)
    ∙ ap (λ (tokens : List TokenOnLine). token 1 (codes "OPENQASM") ∷ token 1 (codes "2.0") ∷ token 1 (codes ";") ∷ tokens)
    (include-tokens last
    ∙ ap (λ (tokens : List TokenOnLine). token 2 (codes "include") ∷ token 2 (codes "\"qelib1.inc\"") ∷ token 2 (codes ";") ∷ tokens) (register-tokens n rest few)))

header-statements : (n : ℕ) (rest : List TokenOnLine) → n < 2 ^ 64
    → ended_statements [] (header_tokens n ++ rest)
    ≡ record { tokens = codes "OPENQASM" ∷ codes "2.0" ∷ []; line = 1 } ∷ record { tokens = codes "include" ∷ codes "\"qelib1.inc\"" ∷ []; line = 2 }
    ∷ record { tokens = codes "qreg" ∷ codes "q" ∷ codes "[" ∷ decimal n ∷ codes "]" ∷ []; line = 3 } ∷ ended_statements [] rest
unfolding ended_statements header_tokens
header-statements n rest small = rw ((written n small).no_semicolon) refl

header-ended : (n : ℕ) (rest : List TokenOnLine) → n < 2 ^ 64 → unended_tokens [] (header_tokens n ++ rest) ≡ unended_tokens [] rest
unfolding unended_tokens header_tokens
header-ended n rest small = rw ((written n small).no_semicolon) refl

abbrev versioned : SoFar
versioned = record { has_version = true; quantum = []; classical = []; measured = 0; measurements = 0; ops = [] }

register-read : (n : ℕ) → 1 ≤ n → n ≤ MOST_LINES → statement_read versioned (codes "qreg" ∷ codes "q" ∷ codes "[" ∷ decimal n ∷ codes "]" ∷ []) ≡ Ok (declared n [])
unfolding statement_read
register-read n some few =
    let w = written n (omega (arith, few)) in
    rw (w.closed, count_is n some (omega (arith, few)), w.value, zero-add n, le-ltb MOST_LINES n few) refl

header-read : (n : ℕ) (statements : List Statement) → 1 ≤ n → n ≤ MOST_LINES
    → statements_read nothing_so_far (record { tokens = codes "OPENQASM" ∷ codes "2.0" ∷ []; line = 1 } ∷ record { tokens = codes "include" ∷ codes "\"qelib1.inc\"" ∷ []; line = 2 }
    ∷ record { tokens = codes "qreg" ∷ codes "q" ∷ codes "[" ∷ decimal n ∷ codes "]" ∷ []; line = 3 } ∷ statements)
    ≡ statements_read (declared n []) statements
unfolding statement_read
header-read n statements some few = ap (λ (read : Result SoFar ℕ). on_line 3 read >>= λ next. statements_read next statements) (register-read n some few)

-- ---- all of it

ended : (net : Network) → IsNetwork net → ended_statements_read (text_of net) ≡ Ok (declared net.lines net.ops)
unfolding text_of qasm_tokens
ended net valid =
    let few : net.lines < 2 ^ 64 = omega (arith, valid.few) in
    let rest : List TokenOnLine = tokens_after 0 4 (flat_map statement net.ops) in
    ap (λ (tokens : List TokenOnLine). statements_read nothing_so_far (ended_statements [] tokens)) (header-tokens net.lines (flat_map statement net.ops) few)
    ∙ (ap (statements_read nothing_so_far) (header-statements net.lines rest few)
    ∙ (header-read net.lines (ended_statements [] rest) valid.some valid.few
    ∙ (ap (statements_read (declared net.lines [])) (ops-statements net.lines net.ops 4 valid.few valid.fitting)
    ∙ ops-read net.lines [] net.ops 4 valid.few valid.fitting (omega (arith, valid.bounded)))))

unended : (net : Network) → IsNetwork net → unended_of (text_of net) ≡ []
unfolding text_of qasm_tokens
unended net valid =
    let few : net.lines < 2 ^ 64 = omega (arith, valid.few) in
    ap (λ (tokens : List TokenOnLine). unended_in (unended_tokens [] tokens)) (header-tokens net.lines (flat_map statement net.ops) few)
    ∙ (ap unended_in (header-ended net.lines (tokens_after 0 4 (flat_map statement net.ops)) few)
    ∙ ap unended_in (ops-ended net.lines net.ops 4 valid.few valid.fitting))

pub read-back : (net : Network) → IsNetwork net → qasm_of (text_of net) ≡ Ok (in_register_q net)
unfolding qasm_of
read-back net valid = grind (arith, ended, unended, lines_of, text_of, at_end, in_register_q, zero-add, ne_eqb)
