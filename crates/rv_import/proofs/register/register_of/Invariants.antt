use Rattle.std.proofs.Common.{◌≡◌, drop}
use Rattle.rv_import.specs.Registers.{register_of}
use Rattle.rv_import.proofs.register.register_of.Given as goal

abbrev pub invariant-loop-register : goal.invariant-loop-register
invariant-loop-register l = register_of l.name l.registers ≡ register_of l.name (drop l.register-index l.registers)
