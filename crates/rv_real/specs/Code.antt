-- What each code of a fault says.
use Rattle.std.specs.Prelude.{ℕ, List, codes, if◌then◌else◌, ◌==◌}
use Rattle.rv_real.specs.declared.code.TheConstants as code

abbrev pub text_of_code : ℕ → List ℕ
text_of_code c =
    if c == code.MISSING_DIRECTIVE then codes "missing directive"
    else (if c == code.WRONG_NUMBER then codes "wrong number"
    else (if c == code.REPEATED_LABEL then codes "repeated label"
    else (if c == code.UNKNOWN_LABEL then codes "unknown label"
    else (if c == code.UNKNOWN_GATE then codes "unknown gate"
    else (if c == code.WRONG_OPERAND_COUNT then codes "wrong operand count"
    else (if c == code.REPEATED_OPERAND then codes "repeated operand"
    else (if c == code.NOT_SUPPORTED then codes "not supported"
    else (if c == code.WRONG_MARK_ROW then codes "wrong mark row"
    else (if c == code.TEXT_AFTER_END then codes "text after .end"
    else (if c == code.NO_END then codes "no .end"
    else (if c == code.TOO_MANY_LINES then codes "too many lines"
    else (if c == code.TOO_MANY_GATES then codes "too many gates"
    else (if c == code.UNCLOSED_QUOTE then codes "unclosed quote"
    else (if c == code.DIRECTIVE_OUT_OF_PLACE then codes "directive out of place"
    else (if c == code.UNKNOWN_DIRECTIVE then codes "unknown directive"
    else (if c == code.SIGN_ON_TARGET then codes "sign on a target"
    else (if c == code.WRONG_LABEL_COUNT then codes "wrong label count"
    else codes "wrong name")))))))))))))))))
