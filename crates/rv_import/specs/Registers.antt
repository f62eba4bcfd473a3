-- Registers of qubits, which are numbered in the order of their declaration.
use Rattle.std.specs.Prelude.{ℕ, ◌+◌, nat_lt, List, bytes_eq, if◌then◌else◌, Option, Some, None}
use Rattle.std.specs.List.{find}

pub record Register : Type 0 where
  pub name : List ℕ
  -- the number of its first qubit
  pub first : ℕ
  pub size : ℕ

abbrev pub register_of : List ℕ → List Register → Option Register
register_of name registers = find (λ (r : Register). bytes_eq name r.name) registers

-- the number of a register's qubit
abbrev pub qubit_of : Option Register → ℕ → Option ℕ
qubit_of None place = None
qubit_of (Some r) place = if nat_lt place r.size then Some (r.first + place) else None
