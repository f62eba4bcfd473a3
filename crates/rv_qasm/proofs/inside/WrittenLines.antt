-- A line with a gate, read at once, gives what its bytes give one by one.
use Rattle.std.proofs.Common.{◌≡◌, ℕ, ◌+◌, ◌*◌, ◌<◌, ◌≤◌, ◌^◌, Bool, true, false, not, ◌&&◌, ◌||◌, List, [], ◌∷◌, ◌++◌, length, map, take, nat_eq, refl, sym, ap, subst, ◌∙◌, arith, inl, inr, decimal, codes, bytes_eq, append-nil, append_assoc, Result, Ok}
use Rattle.std.specs.Char.{is_ascii_digit}
use Rattle.std.specs.List.{list_all}
use Rattle.std.proofs.lemmas.Bool.{and_parts, or_cases, lt-ltb}
use Rattle.std.proofs.lemmas.List.Folds.{list_all-append}
use Rattle.std.proofs.lemmas.Slice.Eq.{bytes_eq-Decides}
use Rattle.std.proofs.lemmas.Fmt.{decimal_digit, decimal_step}
use Rattle.rv_text.specs.Bytes.{line_feed, dot}
use Rattle.rv_text.specs.Tokens.{is_blank}
use Rattle.rv_text.specs.declared.fault.TextFault.{TextFault}
use Rattle.rv_text.proofs.inside.Decimal.{is_decimal-decimal}
use Rattle.rv_text.proofs.inside.Spelled.{list_all-weaken}
use Rattle.rv_gate.specs.declared.word.TheConstants.{MOST_LINES}
use Rattle.rv_net.specs.declared.net.TheConstants.{MOST_OPS}
use Rattle.rv_qasm.specs.Gates.{is_one_of, is_on_one, is_on_two, is_on_three, op_on}
use Rattle.rv_qasm.specs.Text.{gate_on, qubit, qubits}
use Rattle.rv_qasm.specs.Tokens.{is_in_name, begins_name, slash, tokens_after}
use Rattle.rv_qasm.specs.Statements.{ended_statements, statement_of}
use Rattle.rv_qasm.specs.Reading.{statements_read}
use Rattle.rv_qasm.specs.Rules.{SoFar, qubit_count, statement_read, with_ops}
use Rattle.rv_qasm.specs.inside.Lexing.{Begun, begun_on, semicolon, goes_on, next, ends, opened, with_first, ended_by, begun_by, begun_line_by}
use Rattle.rv_qasm.specs.inside.Reached.{Reached, steps}
use Rattle.rv_qasm.specs.inside.Written.{IsReadyForGate, AreApart, MayReadLine, ReadsLine, gate_statement, is_gate_on}
use Rattle.rv_qasm.specs.declared.lexer.Mode.{Mode}
use Rattle.rv_qasm.specs.declared.lexer.Mode.TheVariants.{Between, Name, Digits, Point, Decimals, Quoted, Minus, Done, Slash, Comment}
use Rattle.rv_qasm.proofs.Bytes.{differs}
use Rattle.rv_qasm.proofs.inside.Statements.{statements_from}
use Rattle.rv_qasm.proofs.inside.Steps.{reached_by, steps-none, steps_read}
use Rattle.rv_qasm.proofs.WrittenTokens.{AreSmall, IsToken, gate-tokens, gate_tokens, token}
use Rattle.rv_qasm.proofs.inside.WrittenStatements.{IsGate, ended-more}
use Rattle.rv_qasm.proofs.inside.WrittenStatements.{with_ops as ops_added}
use Rattle.rv_qasm.proofs.inside.ReadBack.{one, two, three, operands_none, small}

-- ---- bytes of names, numbers, brackets, commas and spaces

abbrev is_plain : ℕ → Bool
is_plain c = is_in_name c || nat_eq c 32 || nat_eq c 91 || nat_eq c 93 || nat_eq c 44

-- what such bytes leave open
is_plain_mode : Mode → Bool
is_plain_mode Between = true
is_plain_mode Name = true
is_plain_mode Digits = true
is_plain_mode Done = true
is_plain_mode _ = false

abbrev Stays : Begun → ℕ → Type 0
Stays new line = (is_plain_mode new.mode ≡ true) × (new.line ≡ line)

ends_not : (mode : Mode) (c : ℕ) → is_plain c ≡ true → ends mode c ≡ false
ends_not mode c plain = rw (differs is_plain c semicolon plain refl) (elim (goes_on mode c) as (λ t. (not t && false) ≡ false) [ true ↦ refl | false ↦ refl ])

opened_plain : (c : ℕ) → is_plain c ≡ true → is_plain_mode (opened c) ≡ true
unfolding is_plain_mode
opened_plain c plain = grind arith

first_plain : (tokens : List (List ℕ)) (first line c : ℕ) → is_plain c ≡ true → Stays (with_first (record { tokens = tokens; first = first; line = line; mode = Between }) c) line
unfolding is_plain_mode
first_plain tokens first line c plain = by (is_blank (line_feed ∷ []) c) refl
  where
    by : (t : Bool) → is_blank (line_feed ∷ []) c ≡ t → Stays (with_first (record { tokens = tokens; first = first; line = line; mode = Between }) c) line
    by true e = rw (e, differs is_plain c line_feed plain refl) (refl, refl)
    by false e = rw (e, differs is_plain c slash plain refl) (opened_plain c plain, refl)

next_plain : (tokens : List (List ℕ)) (first line : ℕ) (mode : Mode) (c : ℕ) (t : Bool) → goes_on mode c ≡ t → is_plain_mode mode ≡ true → is_plain c ≡ true
    → Stays (next (record { tokens = tokens; first = first; line = line; mode = mode }) c) line
unfolding is_plain_mode
next_plain tokens first line Between c t e stays plain = first_plain tokens first line c plain
next_plain tokens first line Done c t e stays plain = first_plain tokens first line c plain
next_plain tokens first line Name c true e stays plain = rw e (refl, refl)
next_plain tokens first line Name c false e stays plain = rw e (first_plain tokens first line c plain)
next_plain tokens first line Digits c true e stays plain = rw (e, differs is_plain c dot plain refl) (refl, refl)
next_plain tokens first line Digits c false e stays plain = rw e (first_plain tokens first line c plain)
next_plain tokens first line Point c t e stays plain = absurd (let z = stays in cc)
next_plain tokens first line Decimals c t e stays plain = absurd (let z = stays in cc)
next_plain tokens first line Quoted c t e stays plain = absurd (let z = stays in cc)
next_plain tokens first line Minus c t e stays plain = absurd (let z = stays in cc)
next_plain tokens first line Slash c t e stays plain = absurd (let z = stays in cc)
next_plain tokens first line Comment c t e stays plain = absurd (let z = stays in cc)

end_plain : (tokens : List (List ℕ)) (first line : ℕ) (mode : Mode) → is_plain_mode mode ≡ true
    → begun_by (record { tokens = tokens; first = first; line = line; mode = mode }) (semicolon ∷ line_feed ∷ []) ≡ begun_on (line + 1)
unfolding is_plain_mode begun_by
end_plain tokens first line mode h = grind arith

-- a statement of such bytes, its semicolon and the end of its line
begun_plain : (cs : List ℕ) (b : Begun) (line : ℕ) → list_all is_plain cs ≡ true → Stays b line → begun_by b (cs ++ semicolon ∷ line_feed ∷ []) ≡ begun_on (line + 1)
unfolding begun_by
begun_plain [] b line all stays = end_plain b.tokens b.first b.line b.mode stays.0 ∙ ap (λ (n : ℕ). begun_on (n + 1)) stays.1
begun_plain (c ∷ cs) b line all stays =
    let parts = and_parts (is_plain c) (list_all is_plain cs) all in
    let more = next_plain b.tokens b.first b.line b.mode c (goes_on b.mode c) refl stays.0 parts.0 in
    rw (ends_not b.mode c parts.0) (begun_plain cs (next b c) line parts.1 (more.0, more.1 ∙ stays.1))

line_ended : (cs : List ℕ) (has_begun : Bool) → begun_line_by has_begun (cs ++ semicolon ∷ line_feed ∷ []) ≡ false
unfolding begun_line_by
line_ended [] has_begun = refl
line_ended (c ∷ cs) has_begun = line_ended cs (not (nat_eq c line_feed))

-- ---- the names of gates

abbrev AllOf : (List ℕ → Type 0) → List (List ℕ) → Type 0
AllOf P [] = Unit {0}
AllOf P (word ∷ words) = P word × AllOf P words

among : (P : List ℕ → Type 0) (words : List (List ℕ)) (name : List ℕ) → is_one_of words name ≡ true → AllOf P words → P name
among P [] name is all = absurd (let z = is in cc)
among P (word ∷ words) name is all = elim (or_cases (bytes_eq name word) (is_one_of words name) is) [
  | inl same ↦ subst P (sym ((bytes_eq-Decides name word).0 same)) all.0
  | inr later ↦ among P words name later all.1
]

both : {A B : Type 0} → A → B → A × B
both a b = (a, b)

record IsPlainGate (size : ℕ) (name : List ℕ) : Type 0 where
  gate : IsGate name size
  token : IsToken name
  no_semicolon : bytes_eq name (codes ";") ≡ false
  plain : list_all is_plain name ≡ true

on_one : (name : List ℕ) → is_on_one name ≡ true → IsPlainGate 1 name
unfolding tokens_after
on_one name is = among (IsPlainGate 1) (codes "x" ∷ codes "y" ∷ codes "z" ∷ codes "h" ∷ codes "s" ∷ codes "sdg" ∷ codes "t" ∷ codes "tdg" ∷ []) name is
    (both (record { gate = record { body = λ s t. refl; size_is = refl; closed = refl }; token = λ line rest. refl; no_semicolon = refl; plain = refl })
    (both (record { gate = record { body = λ s t. refl; size_is = refl; closed = refl }; token = λ line rest. refl; no_semicolon = refl; plain = refl })
    (both (record { gate = record { body = λ s t. refl; size_is = refl; closed = refl }; token = λ line rest. refl; no_semicolon = refl; plain = refl })
    (both (record { gate = record { body = λ s t. refl; size_is = refl; closed = refl }; token = λ line rest. refl; no_semicolon = refl; plain = refl })
    (both (record { gate = record { body = λ s t. refl; size_is = refl; closed = refl }; token = λ line rest. refl; no_semicolon = refl; plain = refl })
    (both (record { gate = record { body = λ s t. refl; size_is = refl; closed = refl }; token = λ line rest. refl; no_semicolon = refl; plain = refl })
    (both (record { gate = record { body = λ s t. refl; size_is = refl; closed = refl }; token = λ line rest. refl; no_semicolon = refl; plain = refl })
    (both (record { gate = record { body = λ s t. refl; size_is = refl; closed = refl }; token = λ line rest. refl; no_semicolon = refl; plain = refl })
    tt))))))))

on_two : (name : List ℕ) → is_on_two name ≡ true → IsPlainGate 2 name
unfolding tokens_after
on_two name is = among (IsPlainGate 2) (codes "cx" ∷ codes "CX" ∷ codes "cz" ∷ codes "swap" ∷ []) name is
    (both (record { gate = record { body = λ s t. refl; size_is = refl; closed = refl }; token = λ line rest. refl; no_semicolon = refl; plain = refl })
    (both (record { gate = record { body = λ s t. refl; size_is = refl; closed = refl }; token = λ line rest. refl; no_semicolon = refl; plain = refl })
    (both (record { gate = record { body = λ s t. refl; size_is = refl; closed = refl }; token = λ line rest. refl; no_semicolon = refl; plain = refl })
    (both (record { gate = record { body = λ s t. refl; size_is = refl; closed = refl }; token = λ line rest. refl; no_semicolon = refl; plain = refl })
    tt))))

on_three : (name : List ℕ) → is_on_three name ≡ true → IsPlainGate 3 name
unfolding tokens_after
on_three name is = among (IsPlainGate 3) (codes "ccx" ∷ codes "cswap" ∷ []) name is
    (both (record { gate = record { body = λ s t. refl; size_is = refl; closed = refl }; token = λ line rest. refl; no_semicolon = refl; plain = refl })
    (both (record { gate = record { body = λ s t. refl; size_is = refl; closed = refl }; token = λ line rest. refl; no_semicolon = refl; plain = refl })
    tt))

-- ---- what the bytes of a line are

digits_plain : (n : ℕ) → n < 2 ^ 64 → list_all is_plain (decimal n) ≡ true
digits_plain n small_n = list_all-weaken is_ascii_digit is_plain (λ c is. of_digit c is) (decimal n) (and_parts _ _ (is_decimal-decimal n small_n)).1
  where
    of_digit : (c : ℕ) → is_ascii_digit c ≡ true → is_plain c ≡ true
    of_digit c is = rw is (elim (begins_name c) as (λ t. ((t || true) || nat_eq c 32 || nat_eq c 91 || nat_eq c 93 || nat_eq c 44) ≡ true) [ true ↦ refl | false ↦ refl ])

qubit_plain : (n : ℕ) → n < 2 ^ 64 → list_all is_plain (qubit n) ≡ true
qubit_plain n small_n = list_all-append is_plain (decimal n) (codes "]") ∙ rw (digits_plain n small_n) refl

qubits_plain : (lines : List ℕ) → AreSmall lines → list_all is_plain (qubits lines) ≡ true
qubits_plain [] few = refl
qubits_plain (a ∷ []) few = qubit_plain a few.0
qubits_plain (a ∷ b ∷ more) few = list_all-append is_plain (qubit a) (codes "," ++ qubits (b ∷ more)) ∙ rw (qubit_plain a few.0) (qubits_plain (b ∷ more) few.1)

gate_plain : (name lines : List ℕ) → list_all is_plain name ≡ true → AreSmall lines → list_all is_plain (gate_on name lines) ≡ true
gate_plain name lines plain few = list_all-append is_plain name (codes " " ++ qubits lines) ∙ rw plain (qubits_plain lines few)

-- ---- a line

statement_from : (line : ℕ) (name lines : List ℕ) → IsToken name → bytes_eq name (codes ";") ≡ false → AreSmall lines
    → ended_by (begun_on line) (gate_statement name lines) ≡ statement_of (gate_tokens line name lines) line ∷ []
unfolding ended_statements tokens_after
statement_from line name lines is_token no_semicolon few =
    statements_from line (gate_statement name lines)
    ∙ ap (ended_statements []) (ap (tokens_after 0 line) (sym (append-nil (gate_statement name lines))) ∙ gate-tokens name lines line [] is_token few)
    ∙ ended-more [] (gate_tokens line name lines) (token line (codes ";")) [] (no_semicolon, operands_none line lines few) refl

abbrev reached : Begun → Bool → SoFar → Result Reached TextFault
reached b has so_far = Ok (record { begun = b; has_begun_line = has; so_far = so_far })

line_steps : (r : Reached) (line : ℕ) (name lines : List ℕ) (new : SoFar) → r.begun ≡ begun_on line → IsToken name → bytes_eq name (codes ";") ≡ false → list_all is_plain name ≡ true
    → AreSmall lines → statement_read r.so_far (map (λ t. t.bytes) (gate_tokens line name lines)) ≡ Ok new
    → steps r (gate_statement name lines) ≡ Ok (record { begun = begun_on (line + 1); has_begun_line = false; so_far = new })
unfolding is_plain_mode
line_steps r line name lines new at is_token no_semicolon plain few gives = grind (arith, ended_by, gate_statement, statement_of, gate_tokens, statement_from, begun_by, begun_on, begun_plain, gate_on, gate_plain, steps_read, statements_read, reached_by, begun_line_by, line_ended)

added : (so_far new : SoFar) (n : ℕ) (name lines : List ℕ) (given : Result SoFar ℕ) → IsReadyForGate so_far n → with_ops so_far (op_on name lines) ≡ Ok new → given ≡ Ok (ops_added so_far (op_on name lines)) → given ≡ Ok new
added so_far new n name lines given ready gives is = is ∙ (rw (lt-ltb (length so_far.ops) MOST_OPS ready.room) at gives)

lines_read : (r : Reached) (line n : ℕ) (name lines : List ℕ) (new : SoFar) → r.begun ≡ begun_on line → n ≤ MOST_LINES → IsReadyForGate r.so_far n → is_gate_on name lines ≡ true → AreApart n lines
    → with_ops r.so_far (op_on name lines) ≡ Ok new
    → steps r (gate_statement name lines) ≡ Ok (record { begun = begun_on (line + 1); has_begun_line = false; so_far = new })
lines_read r line n name [] new at few ready is apart gives = absurd (let z = is in cc)
lines_read r line n name (a ∷ []) new at few ready is apart gives =
    let g = on_one name is in
    line_steps r line name (a ∷ []) new at g.token g.no_semicolon g.plain (small n a few apart, tt) (added r.so_far new n name (a ∷ []) _ ready gives (one r.so_far n a name ready g.gate few apart))
lines_read r line n name (a ∷ b ∷ []) new at few ready is apart gives =
    let g = on_two name is in
    line_steps r line name (a ∷ b ∷ []) new at g.token g.no_semicolon g.plain (small n a few apart.0, (small n b few apart.1, tt)) (added r.so_far new n name (a ∷ b ∷ []) _ ready gives (two r.so_far n a b name ready g.gate few apart))
lines_read r line n name (a ∷ b ∷ c ∷ []) new at few ready is apart gives =
    let g = on_three name is in
    line_steps r line name (a ∷ b ∷ c ∷ []) new at g.token g.no_semicolon g.plain (small n a few apart.0, (small n b few apart.1, (small n c few apart.2, tt)))
    (added r.so_far new n name (a ∷ b ∷ c ∷ []) _ ready gives (three r.so_far n a b c name ready g.gate few apart))
lines_read r line n name (a ∷ b ∷ c ∷ d ∷ lines) new at few ready is apart gives = absurd (let z = is in cc)

pub line_read_steps : (r : Reached) (line : ℕ) (bytes : List ℕ) (n : ℕ) (new : SoFar) → r.begun ≡ begun_on line → qubit_count r.so_far ≤ MOST_LINES → ReadsLine r.so_far new bytes n
    → steps r (take n bytes) ≡ Ok (record { begun = begun_on (line + 1); has_begun_line = false; so_far = new })
line_read_steps r line bytes n new at few reads =
    ap (steps r) reads.begins.text ∙ lines_read r line (qubit_count r.so_far) reads.name reads.lines new at few reads.ready reads.begins.gate reads.apart reads.gives

-- if there was such a line
pub took_line : (r : Reached) (line : ℕ) (bytes : List ℕ) (n : ℕ) (so_far : SoFar) (begun : Begun) → r.begun ≡ begun_on line → MayReadLine r.so_far so_far bytes n → 0 < n
    → begun ≡ record r.begun { line = r.begun.line + 1 } → steps r (take n bytes) ≡ Ok (record { begun = begun; has_begun_line = false; so_far = so_far })
took_line r line bytes n so_far begun at (inl none) some is = absurd (omega (arith, none.0, some))
took_line r line bytes n so_far begun at (inr reads) some is =
    let same : begun ≡ begun_on (line + 1) = is ∙ ap (λ (b : Begun). record b { line = b.line + 1 }) at in
    line_read_steps r line bytes n so_far at reads.few reads ∙ ap (λ (b : Begun). reached b false so_far) (sym same)

pub took_none : (r : Reached) (bytes : List ℕ) (n : ℕ) (so_far : SoFar) → MayReadLine r.so_far so_far bytes n → n ≤ 0 → steps r (take n bytes) ≡ Ok (record { begun = r.begun; has_begun_line = r.has_begun_line; so_far = so_far })
took_none r bytes n so_far (inl none) least = ap (λ (k : ℕ). steps r (take k bytes)) none.0 ∙ steps-none r ∙ ap (λ (s : SoFar). reached r.begun r.has_begun_line s) (sym none.1)
took_none r bytes n so_far (inr reads) least = absurd (omega (arith, reads.begins.some, least))

-- ---- a qubit in bytes, by the digits of its number

pub one_digit_read : (before text : List ℕ) (d : ℕ) → d < 10 → text ≡ before ++ (48 + d) ∷ [] → text ≡ before ++ decimal d
one_digit_read before text d low is = is ∙ ap (λ (digits : List ℕ). before ++ digits) (sym (decimal_digit d low))

digits_of : (d e : ℕ) → 0 < d → d < 10 → e < 10 → decimal (10 * d + e) ≡ (48 + d) ∷ (48 + e) ∷ []
digits_of d e some low less = grind (arith, decimal_step, decimal_digit)

pub two_digits_read : (before at_ten at_digit : List ℕ) (d e : ℕ) → 0 < d → d < 10 → e < 10 → at_ten ≡ before ++ (48 + d) ∷ [] → at_digit ≡ at_ten ++ (48 + e) ∷ []
    → at_digit ≡ before ++ decimal (10 * d + e)
two_digits_read before at_ten at_digit d e some low less ten digit =
    rw (digit, ten, append_assoc before ((48 + d) ∷ []) ((48 + e) ∷ []), digits_of d e some low less) refl

pub qubit_of : (before number closed : List ℕ) (n : ℕ) → number ≡ ((before ++ 113 ∷ []) ++ 91 ∷ []) ++ decimal n → closed ≡ number ++ 93 ∷ [] → closed ≡ before ++ qubit n
qubit_of before number closed n is close = grind (arith, append_assoc)
