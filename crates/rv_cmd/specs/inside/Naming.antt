-- The input that a fault is of.
use Rattle.std.specs.Prelude.{ℕ, ◌<◌, List, length, Ok, Err}
use Rattle.rv_faults.specs.declared.fault.Fault.{Fault}
use Rattle.rv_faults.specs.declared.fault.Fault.TheVariants.{CannotRead, CannotWrite, Refused, TooLong, OutOfMemory}
use Rattle.rv_cmd.specs.declared.run_end.RunEnd.{RunEnd}
use Rattle.rv_cmd.specs.declared.run_end.RunEnd.TheVariants.{Understood, ArgumentsRefused}
use Rattle.rv_cmd.specs.Names.{names_read}

-- it is one of these names
abbrev pub IsAmong : List (List ℕ) → Fault → Type 0
IsAmong names (CannotRead input) = input < length names
IsAmong names CannotWrite = Unit {0}
IsAmong names (Refused input why) = input < length names
IsAmong names (TooLong input) = input < length names
IsAmong names OutOfMemory = Unit {0}

-- the fault of a run's end is of one of its inputs
abbrev pub NamesAnInput : RunEnd → Type 0
NamesAnInput (Understood settings (Ok differs)) = Unit {0}
NamesAnInput (Understood settings (Err fault)) = IsAmong (names_read settings) fault
NamesAnInput (ArgumentsRefused fault) = Unit {0}
