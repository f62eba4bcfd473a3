use Rattle.std.proofs.Common.{◌≡◌, min, drop, take}
use Rattle.std.specs.Str.{all_ascii_digits}
use Rattle.rv_text.specs.Decimal.{decimal_value}
use Rattle.rv_qasm.specs.declared.numbers.TheConstants.{BEYOND}
use Rattle.rv_qasm.proofs.numbers.capped_decimal.Given as goal

abbrev pub invariant-loop-byte : goal.invariant-loop-byte
invariant-loop-byte l =
    (l.n ≡ min (decimal_value (take l.byte-index l.bytes)) BEYOND) × (all_ascii_digits (drop l.byte-index l.bytes) ≡ all_ascii_digits l.bytes)
