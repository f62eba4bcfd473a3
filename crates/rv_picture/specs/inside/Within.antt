-- The symbols of a gate on so many lines.
use Rattle.std.specs.Prelude.{ℕ, nat_lt, if◌then◌else◌}
use Rattle.rv_draw.specs.declared.symbol.Symbol.{Symbol}
use Rattle.rv_draw.specs.declared.symbol.Symbol.TheVariants.{Wire}

-- the symbol on a line, if it is one of so many
abbrev pub symbol_within : (ℕ → Symbol) → ℕ → ℕ → Symbol
symbol_within f lines line = if nat_lt line lines then f line else Wire
