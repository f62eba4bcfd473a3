-- What each code of a fault says.
use Rattle.std.specs.Prelude.{ℕ, List, codes, if◌then◌else◌, ◌==◌}
use Rattle.rv_perm.specs.declared.code.TheConstants as code

abbrev pub text_of_code : ℕ → List ℕ
text_of_code c =
    if c == code.NOT_A_NUMBER then codes "not a number"
    else (if c == code.UNKNOWN_DIRECTIVE then codes "unknown directive"
    else (if c == code.DIRECTIVE_OUT_OF_PLACE then codes "directive out of place"
    else codes "wrong mark row"))
