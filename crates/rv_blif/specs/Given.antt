-- What the lines of a BLIF text give, one after another.
use Rattle.std.specs.Prelude.{ℕ, ◌+◌, ◌-◌, Bool, true, false, not, List, [], ◌∷◌, ◌++◌, length, take, ◌==◌, ◌&&◌, if◌then◌else◌, nat_lt, slice_index, slice_index_or, slice_set, Option, Some, None, Result, Ok, Err, codes}
use Rattle.std.specs.List.{position}
use Rattle.std.specs.Str.{bytes_eq}
use Rattle.rv_text.specs.Bytes.{begins_with_dot}
use Rattle.rv_text.specs.Tokens.{Lexeme, joined}
use Rattle.rv_gate.specs.Gate.{same}
use Rattle.rv_reader.specs.Rules.{Rules, ◌>>=◌, broken}
use Rattle.rv_blif.specs.declared.code.TheConstants as code
use Rattle.rv_blif.specs.declared.logic.TheConstants.{MOST_SIGNALS}
use Rattle.rv_blif.specs.declared.product.Product.{Product}
use Rattle.rv_blif.specs.declared.product.TheConstants.{MOST_OPERANDS}
use Rattle.rv_blif.specs.declared.port.Port.{Port}
use Rattle.rv_blif.specs.Netlist.{Netlist, Cover}
use Rattle.rv_blif.specs.Row.{are_literals, input_part, product_of}
use Rattle.rv_blif.specs.Line.{words_of, goes_on, before_next, is_any_cut, is_dropped, is_latch, is_unsupported}

pub record Given : Type 0 where
  pub names : List (List ℕ)
  -- of each name, whether it is driven, and whether it is an output
  pub driven : List Bool
  pub exported : List Bool
  pub inputs : List ℕ
  pub outputs : List Port
  pub covers : List Cover
  -- the last `.names`, where rows may come
  pub last : Option Cover
  -- there was a `.model`
  pub is_named : Bool
  -- lines that go on in the next one
  pub begun : List ℕ
  -- there was a `.end`
  pub is_ended : Bool

-- a text begins
abbrev pub nothing_given : Given
nothing_given = record {
  names = [];
  driven = [];
  exported = [];
  inputs = [];
  outputs = [];
  covers = [];
  last = None;
  is_named = false;
  begun = [];
  is_ended = false;
}

-- ---- names

abbrev pub added : Given → List ℕ → Option ℕ → Given
added given name None =
    record given {
      names = given.names ++ name ∷ [];
      driven = given.driven ++ false ∷ [];
      exported = given.exported ++ false ∷ [];
    }
added given name (Some number) = given

abbrev pub number_by : Given → Option ℕ → ℕ
number_by given None = length given.names
number_by given (Some number) = number

-- the number of a name, which is the next one where the name is new
abbrev pub number_of : Given → List ℕ → ℕ
number_of given name = number_by given (position (bytes_eq name) given.names)

-- the name is among those of the text
unfoldable pub with_name : Given → List ℕ → Given
with_name given name = added given name (position (bytes_eq name) given.names)

-- ---- `.inputs` and `.outputs`

abbrev pub is_driven : Given → ℕ → Bool
is_driven given name = slice_index_or given.driven name false

-- one more signal: no more inputs and covers than a network has
abbrev pub signals_given : Given → ℕ
signals_given given = length given.inputs + length given.covers

abbrev pub input_numbered : ℕ → Given → Result Given ℕ
input_numbered name given =
    broken (is_driven given name) code.DRIVEN_TWICE
    (broken (not (nat_lt (signals_given given) MOST_SIGNALS)) code.TOO_MANY_SIGNALS
    (Ok (record given { driven = slice_set given.driven name true; inputs = given.inputs ++ name ∷ [] })))

abbrev pub input_given : Given → List ℕ → Result Given ℕ
input_given given name = input_numbered (number_of given name) (with_name given name)

abbrev pub inputs_given : Given → List Lexeme → Result Given ℕ
inputs_given given [] = Ok given
inputs_given given (word ∷ words) = input_given given word.bytes >>= λ next. inputs_given next words

abbrev pub output_numbered : ℕ → ℕ → Given → Result Given ℕ
output_numbered line name given =
    broken (slice_index_or given.exported name false) code.REPEATED_OUTPUT
    (broken (not (nat_lt (length given.outputs) MOST_SIGNALS)) code.TOO_MANY_SIGNALS
    (Ok (record given {
      exported = slice_set given.exported name true;
      outputs = given.outputs ++ record { line = line; name = name } ∷ [];
    })))

abbrev pub output_given : ℕ → Given → List ℕ → Result Given ℕ
output_given line given name = output_numbered line (number_of given name) (with_name given name)

abbrev pub outputs_given : ℕ → Given → List Lexeme → Result Given ℕ
outputs_given line given [] = Ok given
outputs_given line given (word ∷ words) = output_given line given word.bytes >>= λ next. outputs_given line next words

-- ---- `.names`

-- names with their numbers, after others
pub record Numbered : Type 0 where
  pub given : Given
  pub numbers : List ℕ

abbrev pub numbered : Given → List ℕ → List Lexeme → Numbered
numbered given numbers [] = record { given = given; numbers = numbers }
numbered given numbers (word ∷ words) =
    numbered (with_name given word.bytes) (numbers ++ number_of given word.bytes ∷ []) words

-- a `.names` without rows: the last name is driven, by 0
abbrev pub empty_cover : ℕ → List ℕ → ℕ → Cover
empty_cover line operands name =
    record { line = line; node = record { operands = operands; products = []; on = true }; name = name }

abbrev pub cover_numbered : ℕ → List ℕ → ℕ → Given → Result Given ℕ
cover_numbered line operands name given =
    broken (is_driven given name) code.DRIVEN_TWICE
    (broken (not (nat_lt (signals_given given) MOST_SIGNALS)) code.TOO_MANY_SIGNALS
    (Ok (record given { driven = slice_set given.driven name true; last = Some (empty_cover line operands name) })))

abbrev pub cover_given : ℕ → Numbered → Result Given ℕ
cover_given line n =
    broken (length n.numbers == 0) code.MISSING_NAME
    (broken (nat_lt (MOST_OPERANDS + 1) (length n.numbers)) code.TOO_MANY_OPERANDS
    (cover_numbered line (take (length n.numbers - 1) n.numbers) (slice_index n.numbers (length n.numbers - 1))
    n.given))

abbrev pub names_given : ℕ → Given → List Lexeme → Result Given ℕ
names_given line given words = cover_given line (numbered given [] words)

-- ---- rows

-- a cover with one row more: its rows are all of the ON set, or all of the OFF set
abbrev pub with_row : Cover → Product → Bool → Cover
with_row cover product on =
    record cover { node = record cover.node { products = cover.node.products ++ product ∷ []; on = on } }

abbrev pub is_mixed : Cover → Bool → Bool
is_mixed cover on = nat_lt 0 (length cover.node.products) && not (same on cover.node.on)

-- a cover with the row of these characters
abbrev pub row_added : Cover → List ℕ → Result Cover ℕ
row_added cover row =
    broken (not (length row == length cover.node.operands + 1)) code.WRONG_ROW_LENGTH
    (broken (not (are_literals row)) code.WRONG_CHARACTER
    (broken (is_mixed cover (slice_index row (length row - 1) == 49)) code.MIXED_ROWS
    (Ok (with_row cover (product_of (input_part row)) (slice_index row (length row - 1) == 49)))))

abbrev pub row_of : Given → Option Cover → List ℕ → Result Given ℕ
row_of given None row = Err code.ROW_OUT_OF_PLACE
row_of given (Some cover) row = row_added cover row >>= λ next. Ok (record given { last = Some next })

-- ---- lines

-- no rows come any more
abbrev pub closed_by : Given → Option Cover → Given
closed_by given None = given
closed_by given (Some cover) = record given { covers = given.covers ++ cover ∷ []; last = None }

abbrev pub closed : Given → Given
closed given = closed_by given given.last

-- by its name and its operands
unfoldable pub directive_of : ℕ → Given → List ℕ → List Lexeme → Result Given ℕ
directive_of line given name words =
    if bytes_eq name (codes ".names") then names_given line given words
    else (if bytes_eq name (codes ".inputs") then inputs_given given words
    else (if bytes_eq name (codes ".outputs") then outputs_given line given words
    else (if bytes_eq name (codes ".model")
    then broken given.is_named code.SECOND_MODEL (Ok (record given { is_named = true }))
    else (if bytes_eq name (codes ".end") then Ok (record given { is_ended = true })
    else (if is_dropped name then Ok given
    else (if is_latch name then Err code.LATCH
    else (if is_unsupported name then Err code.NOT_SUPPORTED
    else Err code.UNKNOWN_DIRECTIVE)))))))

-- a line without words is skipped; outside of remarks a word that ends with `\` is refused
abbrev pub line_by : Given → ℕ → List Lexeme → Result Given ℕ
line_by given line [] = Ok given
line_by given line (word ∷ words) =
    broken (not (is_dropped word.bytes) && is_any_cut (word ∷ words)) code.MISPLACED_BACKSLASH
    (if begins_with_dot word.bytes then directive_of line (closed given) word.bytes words
    else row_of given given.last (joined (word ∷ words)))

-- a line after what was begun
abbrev pub whole_line : Given → ℕ → List ℕ → Result Given ℕ
whole_line given line bytes = line_by (record given { begun = [] }) line (words_of (given.begun ++ bytes))

unfoldable pub line_of : Given → ℕ → List ℕ → Result Given ℕ
line_of given line bytes =
    if given.is_ended then Ok given
    else (if goes_on bytes then Ok (record given { begun = given.begun ++ before_next bytes })
    else whole_line given line bytes)

-- the text is read line by line
abbrev pub line_rules : Rules Given
line_rules = record { start = nothing_given; line_of = line_of }

-- what the lines say
abbrev pub netlist_of : Given → Netlist
netlist_of given = record { names = given.names; inputs = given.inputs; outputs = given.outputs; covers = given.covers }
