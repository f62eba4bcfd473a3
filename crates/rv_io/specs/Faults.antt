-- Counts of faults and of calls. A count stands still at its last value, 2 ^ 64 - 1.
use Rattle.std.specs.Prelude.{ℕ, ◌+◌, ◌-◌, ◌^◌, ◌≤◌, min, nat_eq, Bool, List}
use Rattle.std.specs.List.{list_any}

-- a count, one further
abbrev pub next_count : ℕ → ℕ
next_count count = min (count + 1) (2 ^ 64 - 1)

-- The count rose: it is greater than before, or stands at its last value.
abbrev pub Rose : ℕ → ℕ → Type 0
Rose before now = next_count before ≤ now

-- after so many calls, whether the next one is among those that fail
abbrev pub is_failing : ℕ → List ℕ → Bool
is_failing calls failing = list_any (λ number. nat_eq number (next_count calls)) failing
