-- A statement for each code, by its number.
use Rattle.std.proofs.Common.{◌≡◌, ◌^◌, ◌-◌, ℕ, true, List, [], ◌∷◌, codes, Result, Ok, Err, refl}
use Rattle.rv_qasm.specs.Reading.{at_end}
use Rattle.rv_qasm.specs.Rules.{SoFar, nothing_so_far, statement_read, unended_code}
use Rattle.rv_qasm.specs.declared.program.TheConstants.{MOST_MEASUREMENTS}

-- two qubits of a register q and two bits of a register c
abbrev two : SoFar
two = record nothing_so_far { has_version = true; quantum = record { name = codes "q"; size = 2 } ∷ []; classical = record { name = codes "c"; size = 2 } ∷ [] }

abbrev read : List (List ℕ) → Result SoFar ℕ
read tokens = statement_read two tokens

no_header : statement_read nothing_so_far (codes "x" ∷ []) ≡ Err 1
unfolding statement_read
no_header = refl

wrong_syntax : read [] ≡ Err 2
unfolding statement_read
wrong_syntax = refl

unknown_register : read (codes "x" ∷ codes "r" ∷ []) ≡ Err 3
unfolding statement_read
unknown_register = refl

index_out_of_range : read (codes "x" ∷ codes "q" ∷ codes "[" ∷ codes "2" ∷ codes "]" ∷ []) ≡ Err 4
unfolding statement_read
index_out_of_range = refl

repeated_register : read (codes "creg" ∷ codes "q" ∷ codes "[" ∷ codes "1" ∷ codes "]" ∷ []) ≡ Err 5
unfolding statement_read
repeated_register = refl

too_many_qubits : read (codes "qreg" ∷ codes "r" ∷ codes "[" ∷ codes "63" ∷ codes "]" ∷ []) ≡ Err 6
unfolding statement_read
too_many_qubits = refl

sizes_differ : read (codes "measure" ∷ codes "q" ∷ codes "->" ∷ codes "c" ∷ codes "[" ∷ codes "0" ∷ codes "]" ∷ []) ≡ Err 7
unfolding statement_read
sizes_differ = refl

repeated_operand : read (codes "cx" ∷ codes "q" ∷ codes "," ∷ codes "q" ∷ []) ≡ Err 8
unfolding statement_read
repeated_operand = refl

unknown_gate : read (codes "sx" ∷ codes "q" ∷ []) ≡ Err 9
unfolding statement_read
unknown_gate = refl

not_supported : read (codes "reset" ∷ codes "q" ∷ []) ≡ Err 10
unfolding statement_read
not_supported = refl

after_measurement : statement_read (record two { measured = 2 }) (codes "h" ∷ codes "q" ∷ []) ≡ Err 11
unfolding statement_read
after_measurement = refl

wrong_count : read (codes "cx" ∷ codes "q" ∷ []) ≡ Err 14
unfolding statement_read
wrong_count = refl

no_register : at_end 7 (record nothing_so_far { has_version = true }) ≡ Err (record { line = 7; code = 13 })
no_register = refl

unended : unended_code (codes "x" ∷ []) ≡ 15
unended = refl

measured : read (codes "measure" ∷ codes "q" ∷ codes "->" ∷ codes "c" ∷ []) ≡ Ok (record two { measured = 3; measurements = 2 })
unfolding statement_read
measured = refl

most_measurements : MOST_MEASUREMENTS ≡ 2 ^ 32 - 1
most_measurements = refl
