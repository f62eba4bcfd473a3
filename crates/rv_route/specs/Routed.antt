-- A circuit whose gates touch neighbouring lines alone.
use Rattle.std.specs.Prelude.{ℕ, List, [], ◌∷◌, ◌++◌, length, map}
use Rattle.rv_gate.specs.Circuit.{Cascade}
use Rattle.rv_gate.specs.declared.gate.Shape.{Shape}
use Rattle.rv_route.specs.Placement.{home, gate_on}
use Rattle.rv_route.specs.Moves.{gathering, touched_positions, swapped, neighbours, way_home}

-- for each gate the lines that it touches gather, and it acts where they stand then; in the end all lines go home
unfoldable pub routed_from : List ℕ → List Shape → List Shape
routed_from placement [] = map neighbours (way_home (home (length placement)) placement)
routed_from placement (g ∷ rest) =
    let swaps : List ℕ = gathering (touched_positions placement g) in
    map neighbours swaps ++ (gate_on (swapped swaps placement) g ∷ routed_from (swapped swaps placement) rest)

-- a circuit routed: its names, labels and marks stay
abbrev pub routed : Cascade → Cascade
routed c = record c { gates = routed_from (home (length c.names)) c.gates }
