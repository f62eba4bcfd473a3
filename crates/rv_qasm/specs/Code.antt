-- What each code of a fault says.
use Rattle.std.specs.Prelude.{ℕ, List, codes, if◌then◌else◌, ◌==◌}
use Rattle.rv_qasm.specs.declared.code.TheConstants as code

abbrev pub text_of_code : ℕ → List ℕ
text_of_code c =
    if c == code.NO_HEADER then codes "no OPENQASM 2.0 header"
    else (if c == code.WRONG_SYNTAX then codes "wrong syntax"
    else (if c == code.UNKNOWN_REGISTER then codes "unknown register"
    else (if c == code.INDEX_OUT_OF_RANGE then codes "index out of range"
    else (if c == code.REPEATED_REGISTER then codes "repeated register"
    else (if c == code.TOO_MANY_QUBITS then codes "too many qubits"
    else (if c == code.REGISTER_SIZES_DIFFER then codes "register sizes differ"
    else (if c == code.REPEATED_OPERAND then codes "repeated operand"
    else (if c == code.UNKNOWN_GATE then codes "unknown gate"
    else (if c == code.NOT_SUPPORTED then codes "not supported"
    else (if c == code.GATE_AFTER_MEASUREMENT then codes "gate after measurement"
    else (if c == code.TOO_MANY_OPS then codes "too many operations"
    else (if c == code.NO_QUANTUM_REGISTER then codes "no quantum register"
    else (if c == code.WRONG_OPERAND_COUNT then codes "wrong operand count"
    else codes "unended statement")))))))))))))
