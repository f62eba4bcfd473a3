-- What a reader keeps of the lines that it read.
use Rattle.std.specs.Prelude.{◌≡◌, ℕ, ◌+◌, ◌≤◌, List, length, Option, Some, None, Result, Ok, Err}
use Rattle.std.specs.Global.{Vec}
use Rattle.rv_text.specs.declared.fault.TextFault.{TextFault}
use Rattle.rv_blif.specs.declared.fault.BlifFault.{BlifFault}
use Rattle.rv_blif.specs.declared.fault.BlifFault.TheVariants as faults
use Rattle.rv_blif.specs.Logic.{Output}
use Rattle.rv_blif.specs.declared.logic.TheConstants.{MOST_SIGNALS}
use Rattle.rv_blif.specs.Netlist.{Cover}
use Rattle.rv_blif.specs.Given.{Given}

-- one more cover, where there is a last one
abbrev pub last_count : Option Cover → ℕ
last_count None = 0
last_count (Some cover) = 1

-- what every state keeps
pub record IsGiven (given : Given) : Type 0 where
  pub few_signals : length given.inputs + length given.covers + last_count given.last ≤ MOST_SIGNALS
  pub few_outputs : length given.outputs ≤ MOST_SIGNALS

-- what was wanted is gathered, or memory was wanting
abbrev pub Gathered : Result (Vec Output) BlifFault → Result (List Output) TextFault → Type 0
Gathered (Ok v) want = want ≡ Ok v.items
Gathered (Err (faults.Text fault)) want = want ≡ Err fault
Gathered (Err faults.Mem) want = Unit {0}

-- what was wanted is the state now, or memory was wanting
abbrev pub IsRead : Result (Unit {0}) BlifFault → Given → Result Given TextFault → Type 0
IsRead (Ok _) new want = want ≡ Ok new
IsRead (Err (faults.Text fault)) new want = want ≡ Err fault
IsRead (Err faults.Mem) new want = Unit {0}
