-- How many lines there were in the bytes.
use Rattle.std.proofs.Common.{◌≡◌, ℕ, ◌+◌, ◌-◌, Bool, true, false, not, cond, List, [], ◌∷◌, ◌++◌, length, refl, sym, ap, ◌∙◌, arith, nat_eq}
use Rattle.std.proofs.lemmas.Bool.{and_parts, eqb-true, not_from_false}
use Rattle.std.proofs.lemmas.List.{length-append}
use Rattle.rv_text.specs.Bytes.{line_feed}
use Rattle.rv_text.specs.Tokens.{is_blank}
use Rattle.rv_text.specs.Lines.{ended_after, begun_after, last_line, lines_of}
use Rattle.rv_qasm.specs.Tokens.{slash, line_after}
use Rattle.rv_qasm.specs.inside.Lexing.{Begun, semicolon, begun_on, goes_on, with_nothing_open, in_mode, with_new, opened, with_first, next, ends, begun_by, begun_line_by}
use Rattle.rv_qasm.specs.declared.lexer.Mode.{Mode}
use Rattle.rv_qasm.specs.declared.lexer.Mode.TheVariants.{Slash}
use Rattle.rv_qasm.proofs.Bytes.{differs}
use Rattle.rv_qasm.proofs.inside.Statements.{with_nothing_open-mode, continued-line}

no_line_feed : (mode : Mode) → goes_on mode line_feed ≡ false
no_line_feed mode = grind arith

with_nothing_open-line : (b : Begun) → (with_nothing_open b b.mode).line ≡ b.line
with_nothing_open-line b = ap (λ s. s.line) (with_nothing_open-mode b b.mode)

-- a byte that is no blank is no line feed
no_feed : (c : ℕ) → is_blank (line_feed ∷ []) c ≡ false → nat_eq c line_feed ≡ false
no_feed c blank = differs (λ k. not (is_blank (line_feed ∷ []) k)) c line_feed (not_from_false (is_blank (line_feed ∷ []) c) blank) refl

slash_line : (s : Begun) (c : ℕ) (t : Bool) → (cond t (in_mode s Slash) (with_new s c (opened c))).line ≡ s.line
slash_line s c true = refl
slash_line s c false = refl

first-line : (s : Begun) (c : ℕ) (t : Bool) → is_blank (line_feed ∷ []) c ≡ t → (with_first s c).line ≡ line_after s.line c
first-line s c true e = rw e refl
first-line s c false e = rw (e, no_feed c e) (slash_line s c (nat_eq c slash))

next-line : (b : Begun) (c : ℕ) (t : Bool) → goes_on b.mode c ≡ t → (next b c).line ≡ line_after b.line c
next-line b c true e = rw (e, differs (goes_on b.mode) c line_feed e (no_line_feed b.mode)) (continued-line b b.mode c)
next-line b c false e = rw e (first-line (with_nothing_open b b.mode) c (is_blank (line_feed ∷ []) c) refl ∙ ap (λ line. line_after line c) (with_nothing_open-line b))

-- the line of what is begun, after one byte more

one_byte : (c : ℕ) (cs begun : List ℕ) (b : Begun) (line : ℕ) → b.line ≡ line_after line c → ((b : Begun) (begun : List ℕ) → (begun_by b cs).line ≡ b.line + length (ended_after begun cs))
    → (t : Bool) → nat_eq c line_feed ≡ t → (begun_by b cs).line ≡ line + length (ended_after begun (c ∷ cs))
one_byte c cs begun b line is ih true e = rw e (omega (arith, ih b [], is ∙ ap (λ (t : Bool). cond t (line + 1) line) e))
one_byte c cs begun b line is ih false e = rw e (omega (arith, ih b (begun ++ c ∷ []), is ∙ ap (λ (t : Bool). cond t (line + 1) line) e))

ends_no_line : (mode : Mode) (c : ℕ) (line : ℕ) → ends mode c ≡ true → line ≡ line_after line c
ends_no_line mode c line e = rw (eqb-true c semicolon (and_parts (not (goes_on mode c)) (nat_eq c semicolon) e).1) refl

after_one : (c : ℕ) (cs begun : List ℕ) (b : Begun) → ((b : Begun) (begun : List ℕ) → (begun_by b cs).line ≡ b.line + length (ended_after begun cs))
    → (t : Bool) → ends b.mode c ≡ t → (begun_by b (c ∷ cs)).line ≡ b.line + length (ended_after begun (c ∷ cs))
unfolding begun_by
after_one c cs begun b ih true e = rw e (one_byte c cs begun (begun_on b.line) b.line (ends_no_line b.mode c b.line e) ih (nat_eq c line_feed) refl)
after_one c cs begun b ih false e = rw e (one_byte c cs begun (next b c) b.line (next-line b c (goes_on b.mode c) refl) ih (nat_eq c line_feed) refl)

line_by : (cs : List ℕ) (b : Begun) (begun : List ℕ) → (begun_by b cs).line ≡ b.line + length (ended_after begun cs)
unfolding begun_by
line_by [] b begun = omega arith
line_by (c ∷ cs) b begun = after_one c cs begun b (line_by cs) (ends b.mode c) refl

-- whether the last line is begun

abbrev has_bytes : List ℕ → Bool
has_bytes [] = false
has_bytes (c ∷ cs) = true

has_pushed : (bytes : List ℕ) (c : ℕ) → has_bytes (bytes ++ c ∷ []) ≡ true
has_pushed [] c = refl
has_pushed (b ∷ bytes) c = refl

has_begun_by : (cs begun : List ℕ) → begun_line_by (has_bytes begun) cs ≡ has_bytes (begun_after begun cs)
unfolding begun_line_by
has_begun_by [] begun = refl
has_begun_by (c ∷ cs) begun = elim (nat_eq c line_feed) as (λ t. begun_line_by (not t) cs ≡ has_bytes (cond t (begun_after [] cs) (begun_after (begun ++ c ∷ []) cs))) [
  | true ↦ has_begun_by cs []
  | false ↦ ap (λ t. begun_line_by t cs) (sym (has_pushed begun c)) ∙ has_begun_by cs (begun ++ c ∷ [])
]

count_of : (ended : List (List ℕ)) (begun : List ℕ) (line : ℕ) (has : Bool) → line ≡ 1 + length ended → has ≡ has_bytes begun → cond has line (line - 1) ≡ length (ended ++ last_line begun)
count_of ended [] line has l h = rw h (omega (arith, l, length-append ended []))
count_of ended (c ∷ cs) line has l h = rw h (omega (arith, l, length-append ended ((c ∷ cs) ∷ [])))

pub lines_counted : (text : List ℕ) → cond (begun_line_by false text) (begun_by (begun_on 1) text).line ((begun_by (begun_on 1) text).line - 1) ≡ length (lines_of text)
lines_counted text = count_of (ended_after [] text) (begun_after [] text) (begun_by (begun_on 1) text).line (begun_line_by false text) (line_by text (begun_on 1) []) (has_begun_by text [])
