-- Keys that a renaming of the lines leads to one another.
use Rattle.std.specs.Prelude.{ℕ, zero, suc, ◌≡◌, min, List, [], ◌∷◌}
use Rattle.std.specs.List.{Contains}
use Rattle.rv_optimal.specs.inside.Packed.{composed}
use Rattle.rv_optimal.specs.declared.alike.Alike.{Alike}
use Rattle.rv_optimal.specs.declared.alike.Alike.TheVariants.{Equal, Renamed}

-- the numbers below 16, where a bit and the next one of each are exchanged, packed
unfoldable pub exchange : ℕ → ℕ
exchange zero = 0xfdecb9a875643120
exchange (suc zero) = 0xfebadc9876325410
exchange (suc (suc line)) = 0xfedc7654ba983210

-- a key on four lines, where a line and the next one exchange their names
unfoldable pub swapped : ℕ → ℕ → ℕ
swapped line key = composed 16 (exchange line) (composed 16 key (exchange line))

-- exchanges that lead through all orders of four lines
unfoldable pub walk : List ℕ
walk =
    0 ∷ 1 ∷ 2 ∷ 0 ∷ 2 ∷ 1 ∷ 0 ∷ 2 ∷ 0 ∷ 1 ∷ 2 ∷ 0 ∷ 2 ∷ 1 ∷ 0 ∷ 2 ∷ 0 ∷ 1 ∷ 2 ∷ 0 ∷ 2 ∷ 1 ∷ 0 ∷ []

-- the least of the keys to which exchanges lead
unfoldable pub least_on : List ℕ → ℕ → ℕ → ℕ
least_on [] best key = best
least_on (line ∷ rest) best key = least_on rest (min best (swapped line key)) (swapped line key)

-- the least of the keys that are alike
abbrev pub least : Alike → ℕ → ℕ
least Equal key = key
least Renamed key = least_on walk key key

-- some exchanges, one after another
unfoldable pub renamed : List ℕ → ℕ → ℕ
renamed [] key = key
renamed (line ∷ rest) key = renamed rest (swapped line key)

-- keys that are alike have circuits of as many gates, where each gate makes one of the moves
abbrev pub Suits : Alike → ℕ → List ℕ → Type 0
Suits Equal n moves = Unit {0}
Suits Renamed n moves = (n ≡ 4) × ((line step : ℕ) → Contains moves step → Contains moves (swapped line step))
