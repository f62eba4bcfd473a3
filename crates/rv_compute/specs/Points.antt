-- Circuits on more and more lines.
use Rattle.std.specs.Prelude.{ℕ, ◌<◌, ◌≤◌, List, [], ◌∷◌, All, length}
use Rattle.rv_blif.specs.Logic.{Logic}
use Rattle.rv_compute.specs.Computed.{Gives, IsComputed}
use Rattle.rv_compute.specs.declared.points.Point.{Point}

-- the circuit computes the network on no more lines than were asked for, and these are at most so many
pub record IsPoint (logic : Logic) (most : ℕ) (p : Point) : Type 0 where
  pub computed : IsComputed logic p.circuit
  pub gives : Gives logic p.circuit
  pub lines : length p.circuit.names ≤ p.lines
  pub few : p.lines ≤ most

-- the circuit has fewer than n lines
pub record HasFewer (n : ℕ) (p : Point) : Type 0 where
  pub fewer : length p.circuit.names < n

-- the circuit has more than n lines
pub record HasMore (n : ℕ) (p : Point) : Type 0 where
  pub more : n < length p.circuit.names

-- each circuit has more lines than those before it
abbrev pub AreOnMore : List Point → Type 0
AreOnMore [] = Unit {0}
AreOnMore (p ∷ rest) = All (HasMore (length p.circuit.names)) rest × AreOnMore rest
