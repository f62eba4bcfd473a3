-- What each code of a fault says.
use Rattle.std.specs.Prelude.{ℕ, List, codes, if◌then◌else◌, ◌==◌}
use Rattle.rv_blif.specs.declared.code.TheConstants as code

abbrev pub text_of_code : ℕ → List ℕ
text_of_code c =
    if c == code.LATCH then codes "latch"
    else (if c == code.NOT_SUPPORTED then codes "not supported"
    else (if c == code.UNKNOWN_DIRECTIVE then codes "unknown directive"
    else (if c == code.SECOND_MODEL then codes "second model"
    else (if c == code.MISSING_NAME then codes "missing name"
    else (if c == code.TOO_MANY_OPERANDS then codes "too many operands"
    else (if c == code.TOO_MANY_SIGNALS then codes "too many signals"
    else (if c == code.DRIVEN_TWICE then codes "driven twice"
    else (if c == code.REPEATED_OUTPUT then codes "repeated output"
    else (if c == code.ROW_OUT_OF_PLACE then codes "row out of place"
    else (if c == code.WRONG_ROW_LENGTH then codes "wrong row length"
    else (if c == code.WRONG_CHARACTER then codes "wrong character"
    else (if c == code.MIXED_ROWS then codes "mixed rows"
    else (if c == code.NO_OUTPUTS then codes "no outputs"
    else (if c == code.NEVER_DRIVEN then codes "never driven"
    else (if c == code.CYCLE then codes "cycle"
    else codes "misplaced backslash")))))))))))))))
