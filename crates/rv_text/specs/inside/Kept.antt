-- What a value that cuts a text into lines keeps true.
use Rattle.std.specs.Prelude.{◌≡◌, ℕ, ◌+◌, ◌≤◌, max, false, List, ◌++◌, length}
use Rattle.rv_text.specs.declared.lines.TheConstants.{MOST_BYTES}
use Rattle.rv_text.specs.Held.{Held}

-- what is true of each value that has room for so many bytes of a line
pub record IsHeld (held : Held) (room : ℕ) : Type 0 where
  pub has_room : held.greatest ≤ room
  pub longest : length held.line ≤ held.greatest
  pub counted : held.number ≤ held.taken
  pub begun : held.is_ready ≡ false → held.number + length held.line ≤ held.taken
  pub limit : held.taken ≤ MOST_BYTES

-- a value that has taken bytes without a line feed
abbrev pub with_bytes : Held → List ℕ → Held
with_bytes old bytes = let line = old.line ++ bytes in
    record old { line = line; taken = old.taken + length bytes; greatest = max old.greatest (length line) }
