-- Worked examples of the definitions.
use Rattle.std.proofs.Common.{◌≡◌, ◌∷◌, [], refl}
use Rattle.rv_gate.specs.Word.{ones_of}
use Rattle.rv_gate.specs.Gate.{flip_under}
use Rattle.rv_gate.specs.declared.gate.Shape.TheVariants.{Swap}
use Rattle.rv_route.specs.Placement.{home}
use Rattle.rv_route.specs.Moves.{moves_up, moves_down, swapped, way_home}
use Rattle.rv_route.specs.Routed.{routed_from}

-- a CNOT of the outer ones of three lines, twice: the target moves down once, and back up as the line between goes home in the end
outer_twice : routed_from (home 3) (flip_under 1 2 ∷ (flip_under 1 2 ∷ [])) ≡ Swap 0 0 1 2 ∷ (flip_under 1 1 ∷ (flip_under 1 1 ∷ (Swap 0 0 1 2 ∷ [])))
unfolding routed_from moves_up moves_down swapped way_home ones_of
outer_twice = refl

-- a gate on neighbours stays
near : routed_from (home 3) (flip_under 3 2 ∷ []) ≡ flip_under 3 2 ∷ []
unfolding routed_from moves_up moves_down swapped way_home ones_of
near = refl

-- of three lines that are touched the lowest one moves up to the middle one
first_moves : routed_from (home 4) (flip_under 5 3 ∷ []) ≡ Swap 0 0 0 1 ∷ (flip_under 6 3 ∷ (Swap 0 0 0 1 ∷ []))
unfolding routed_from moves_up moves_down swapped way_home ones_of
first_moves = refl
