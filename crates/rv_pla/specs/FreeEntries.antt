-- Entries that may take any value.
use Rattle.std.specs.Prelude.{◌≡◌, ℕ, ◌<◌, Bool, true, false, not, List, length, IsTrue}
use Rattle.rv_pla.specs.Pla.{TwoLevel, entry}
use Rattle.rv_pla.specs.declared.entry.Entry.{Entry}
use Rattle.rv_pla.specs.declared.entry.Entry.TheVariants.{One, Zero, Free}

abbrev pub is_dont_care : Entry → Bool
is_dont_care One = false
is_dont_care Zero = false
is_dont_care Free = true

-- whether a bit may stand at an entry
abbrev pub allows : Entry → Bool → Bool
allows One bit = bit
allows Zero bit = not bit
allows Free bit = true

-- at an input word there is a bit for each output that may stand there: that of each entry that isn't free
abbrev pub IsAllowed : TwoLevel → List Bool → (ℕ → Bool) → Type 0
IsAllowed pla word bit = (output : ℕ) → output < pla.outputs → IsTrue (allows (entry pla word output) (bit output))

-- no entry is free
abbrev pub HasNoFree : TwoLevel → Type 0
HasNoFree pla =
    (word : List Bool) (output : ℕ) → length word ≡ pla.inputs → output < pla.outputs
    → is_dont_care (entry pla word output) ≡ false
