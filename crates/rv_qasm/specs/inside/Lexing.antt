-- A statement whose bytes come one after another.
use Rattle.std.specs.Prelude.{ℕ, Bool, false, true, not, List, [], ◌∷◌, ◌++◌, length, ◌==◌, ◌||◌, ◌&&◌, if◌then◌else◌}
use Rattle.std.specs.Char.{is_ascii_digit}
use Rattle.rv_text.specs.Bytes.{line_feed, quote, dot}
use Rattle.rv_text.specs.Tokens.{is_blank}
use Rattle.rv_qasm.specs.Tokens.{minus, greater, slash, begins_name, is_in_name, line_after}
use Rattle.rv_qasm.specs.Statements.{Statement}
use Rattle.rv_qasm.specs.inside.Flat.{with_byte}
use Rattle.rv_qasm.specs.declared.lexer.Mode.{Mode}
use Rattle.rv_qasm.specs.declared.lexer.Mode.TheVariants.{Between, Name, Digits, Point, Decimals, Quoted, Minus, Done, Slash, Comment}

-- its tokens, the last of which is open unless the mode says otherwise
pub record Begun : Type 0 where
  pub tokens : List (List ℕ)
  -- the line of the first of them
  pub first : ℕ
  -- the line that is being read
  pub line : ℕ
  pub mode : Mode

-- `;`
abbrev pub semicolon : ℕ
semicolon = 59

-- a statement begins on a line
abbrev pub begun_on : ℕ → Begun
begun_on line = record { tokens = []; first = 0; line = line; mode = Between }

-- whether a byte belongs to what is open
abbrev pub goes_on : Mode → ℕ → Bool
goes_on Between c = false
goes_on Name c = is_in_name c
goes_on Digits c = is_ascii_digit c || c == dot
goes_on Point c = is_ascii_digit c
goes_on Decimals c = is_ascii_digit c
goes_on Quoted c = not (c == line_feed)
goes_on Minus c = c == greater
goes_on Done c = false
goes_on Slash c = c == slash
goes_on Comment c = not (c == line_feed)

-- brackets and the comma
abbrev pub is_mark : ℕ → Bool
is_mark c = c == 44 || (c == 91 || c == 93)

-- whether a mark ends what is open, and leaves no other token
abbrev pub is_cut_by_mark : Mode → Bool
is_cut_by_mark Point = false
is_cut_by_mark Quoted = false
is_cut_by_mark Slash = false
is_cut_by_mark Comment = false
is_cut_by_mark _ = true

abbrev pub with_new : Begun → ℕ → Mode → Begun
with_new b c mode = record b {
  tokens = b.tokens ++ (c ∷ []) ∷ [];
  first = if length b.tokens == 0 then b.line else b.first;
  mode = mode;
}

abbrev pub with_more : Begun → ℕ → Mode → Begun
with_more b c mode = record b { tokens = with_byte b.tokens c; mode = mode }

abbrev pub in_mode : Begun → Mode → Begun
in_mode b mode = record b { mode = mode }

-- with a byte that belongs to what is open
abbrev pub continued : Begun → Mode → ℕ → Begun
continued b Between c = b
continued b Name c = with_more b c Name
continued b Digits c = if c == dot then in_mode b Point else with_more b c Digits
continued b Point c = with_more (with_more b dot Decimals) c Decimals
continued b Decimals c = with_more b c Decimals
continued b Quoted c = with_more b c (if c == quote then Done else Quoted)
continued b Minus c = with_more b c Done
continued b Done c = b
continued b Slash c = in_mode b Comment
continued b Comment c = b

-- with nothing open: a dot or a slash that was left is a token
abbrev pub with_nothing_open : Begun → Mode → Begun
with_nothing_open b Point = with_new b dot Between
with_nothing_open b Slash = with_new b slash Between
with_nothing_open b _ = in_mode b Between

-- what a byte opens
abbrev pub opened : ℕ → Mode
opened c =
    if begins_name c then Name
    else (if is_ascii_digit c then Digits
    else (if c == quote then Quoted
    else (if c == minus then Minus
    else Done)))

-- with a byte, where nothing is open
abbrev pub with_first : Begun → ℕ → Begun
with_first b c =
    if is_blank (line_feed ∷ []) c then record b { line = line_after b.line c }
    else (if c == slash then in_mode b Slash
    else with_new b c (opened c))

-- with a byte that doesn't end the statement
abbrev pub next : Begun → ℕ → Begun
next b c = if goes_on b.mode c then continued b b.mode c else with_first (with_nothing_open b b.mode) c

-- whether a byte ends the statement
abbrev pub ends : Mode → ℕ → Bool
ends mode c = not (goes_on mode c) && c == semicolon

-- the statement that was begun, if it is at its end
abbrev pub statement_at : Begun → Statement
statement_at b = record { tokens = b.tokens; line = if length b.tokens == 0 then b.line else b.first }

-- the statements that `;` ends in the bytes
unfoldable pub ended_by : Begun → List ℕ → List Statement
ended_by b [] = []
ended_by b (c ∷ cs) =
    if ends b.mode c then statement_at (with_nothing_open b b.mode) ∷ ended_by (begun_on b.line) cs
    else ended_by (next b c) cs

-- the statement that is begun after the bytes
unfoldable pub begun_by : Begun → List ℕ → Begun
begun_by b [] = b
begun_by b (c ∷ cs) = if ends b.mode c then begun_by (begun_on b.line) cs else begun_by (next b c) cs

-- a statement at the end of the text
abbrev pub at_the_end : Begun → Begun
at_the_end b = with_nothing_open b b.mode

-- the last statement, if it has a token
abbrev pub unended_at : Begun → List Statement
unended_at b = if length b.tokens == 0 then [] else statement_at b ∷ []

-- whether there is a byte after the last line feed in bytes, if there was one before them or not
unfoldable pub begun_line_by : Bool → List ℕ → Bool
begun_line_by has_begun [] = has_begun
begun_line_by has_begun (c ∷ cs) = begun_line_by (not (c == line_feed)) cs
