-- A statement that is read as its first token says.
use Rattle.std.specs.Prelude.{ℕ, List, Result, Err}
use Rattle.rv_qasm.specs.Rules.{SoFar, include_read, qreg_read, creg_read, barrier_read, id_read, measure_read, gate_read}
use Rattle.rv_qasm.specs.declared.code.TheConstants as code
use Rattle.rv_qasm.specs.declared.kind.Kind.{Kind}
use Rattle.rv_qasm.specs.declared.kind.Kind.TheVariants.{Unsupported, Include, Qreg, Creg, Barrier, Id, Measure, Gate}

abbrev pub read_as : Kind → SoFar → List ℕ → List (List ℕ) → Result SoFar ℕ
read_as Unsupported so_far name tokens = Err code.NOT_SUPPORTED
read_as Include so_far name tokens = include_read so_far tokens
read_as Qreg so_far name tokens = qreg_read so_far tokens
read_as Creg so_far name tokens = creg_read so_far tokens
read_as Barrier so_far name tokens = barrier_read so_far tokens
read_as Id so_far name tokens = id_read so_far tokens
read_as Measure so_far name tokens = measure_read so_far tokens
read_as Gate so_far name tokens = gate_read so_far name tokens
