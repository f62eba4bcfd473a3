-- What a reader keeps of the lines that it read.
use Rattle.std.specs.Prelude.{◌≡◌, ℕ, ◌+◌, min, Bool, List, [], ◌∷◌, ◌++◌, length, if◌then◌else◌, nat_lt, Option, None}
use Rattle.std.specs.Option.{option_map}
use Rattle.rv_gate.specs.declared.circuit.Mark.{Mark}
use Rattle.rv_perm.specs.declared.line.Row.{Row as Kept}
use Rattle.rv_perm.specs.declared.line.State.TheInside.{Inside}
use Rattle.rv_perm.specs.declared.perm.TheConstants.{MOST_NUMBERS}
use Rattle.rv_perm.specs.Given.{MarkRow}

pub record Given : Type 0 where
  pub constants : Option (MarkRow Mark)
  pub garbage : Option (MarkRow Bool)
  -- the numbers that are kept
  pub numbers : List ℕ
  -- how many numbers there were
  pub count : ℕ

-- a text begins
abbrev pub nothing_given : Given
nothing_given = record { constants = None; garbage = None; numbers = []; count = 0 }

-- One number more. Those beyond the most are counted and not kept, and all values from there on count as one,
-- which no permutation has.
abbrev pub with_number : Given → ℕ → Given
with_number given number =
    record given {
      numbers =
          if nat_lt given.count MOST_NUMBERS then given.numbers ++ min number MOST_NUMBERS ∷ [] else given.numbers;
      count = given.count + 1;
    }

-- ---- the fields of the state

abbrev pub row_kept : {M : Type 0} → Kept M → MarkRow M
row_kept row = record { marks = row.marks.items; line = row.line }

abbrev pub given_kept : Inside → Given
given_kept state =
    record {
      constants = option_map row_kept state.constants;
      garbage = option_map row_kept state.garbage;
      numbers = state.numbers.items;
      count = state.count;
    }

-- what every state keeps
pub record IsGiven (given : Given) : Type 0 where
  pub kept : length given.numbers ≡ min given.count MOST_NUMBERS
