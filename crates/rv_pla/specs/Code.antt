-- What each code of a fault says.
use Rattle.std.specs.Prelude.{ℕ, List, codes, if◌then◌else◌, ◌==◌}
use Rattle.rv_pla.specs.declared.code.TheConstants as code

abbrev pub text_of_code : ℕ → List ℕ
text_of_code c =
    if c == code.MISSING_DIRECTIVE then codes "missing directive"
    else (if c == code.WRONG_NUMBER then codes "wrong number"
    else (if c == code.TOO_MANY_INPUTS_OR_OUTPUTS then codes "too many inputs or outputs"
    else (if c == code.DIRECTIVE_OUT_OF_PLACE then codes "directive out of place"
    else (if c == code.UNKNOWN_DIRECTIVE then codes "unknown directive"
    else (if c == code.NOT_SUPPORTED then codes "not supported"
    else (if c == code.WRONG_TERM_LENGTH then codes "wrong term length"
    else (if c == code.WRONG_CHARACTER then codes "wrong character"
    else codes "too many terms")))))))
