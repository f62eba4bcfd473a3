-- A line of a text: its words, and what a directive asks of its operands.
use Rattle.std.specs.Prelude.{ℕ, Bool, false, not, List, [], ◌∷◌, ◌||◌, if◌then◌else◌, nat_lt, Option, Some, None, Result, Ok, Err, codes}
use Rattle.std.specs.Str.{bytes_eq}
use Rattle.rv_text.specs.Decimal.{decimal_value, is_count}
use Rattle.rv_text.specs.Tokens.{Lexeme, tokens_of}
use Rattle.rv_reader.specs.Rules.{broken, found_or}
use Rattle.rv_pla.specs.declared.code.TheConstants as code
use Rattle.rv_pla.specs.declared.kind.Kind.{Kind}
use Rattle.rv_pla.specs.declared.kind.Kind.TheVariants.{F, Fd, Fr, Fdr, Esop}

-- `|` is a blank
abbrev pub bar : List ℕ
bar = 124 ∷ []

abbrev pub words_of : List ℕ → List Lexeme
words_of line = tokens_of false bar line

-- ---- .i and .o

-- one operand
abbrev pub size_of : ℕ → List Lexeme → Result ℕ ℕ
size_of most [] = Err code.WRONG_NUMBER
size_of most (word ∷ []) =
    broken (not (is_count word.bytes)) code.WRONG_NUMBER
    (broken (nat_lt most (decimal_value word.bytes)) code.TOO_MANY_INPUTS_OR_OUTPUTS
    (Ok (decimal_value word.bytes)))
size_of most (word ∷ another ∷ words) = Err code.WRONG_NUMBER

-- ---- .type

unfoldable pub kind_named : List ℕ → Option Kind
kind_named name =
    if bytes_eq name (codes "f") then Some F
    else (if bytes_eq name (codes "fd") then Some Fd
    else (if bytes_eq name (codes "fr") then Some Fr
    else (if bytes_eq name (codes "fdr") then Some Fdr
    else (if bytes_eq name (codes "esop") then Some Esop
    else None))))

-- one operand
abbrev pub kind_of : List Lexeme → Result Kind ℕ
kind_of [] = Err code.NOT_SUPPORTED
kind_of (word ∷ []) = found_or code.NOT_SUPPORTED (kind_named word.bytes)
kind_of (word ∷ another ∷ words) = Err code.NOT_SUPPORTED

-- ---- other names

-- labels of inputs and outputs, and a number of terms
unfoldable pub is_dropped : List ℕ → Bool
is_dropped name = bytes_eq name (codes ".ilb") || bytes_eq name (codes ".ob") || bytes_eq name (codes ".p")

unfoldable pub is_end : List ℕ → Bool
is_end name = bytes_eq name (codes ".e") || bytes_eq name (codes ".end")

unfoldable pub is_unsupported : List ℕ → Bool
is_unsupported name =
    bytes_eq name (codes ".mv")
    || bytes_eq name (codes ".kiss")
    || bytes_eq name (codes ".symbolic")
    || bytes_eq name (codes ".phase")
    || bytes_eq name (codes ".pair")
