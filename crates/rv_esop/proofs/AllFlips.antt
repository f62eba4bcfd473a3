-- A cascade is of flips alone.
use Rattle.std.proofs.Common.{◌≡◌, ℕ, ◌+◌, List, [], ◌∷◌, map, filter, refl, subst, sym}
use Rattle.std.specs.Prelude.{All, IfOk, Result, Ok, Err}
use Rattle.std.specs.List.{range_with_len}
use Rattle.std.proofs.lemmas.List.Elements.{All-append, All-map, All-nil}
use Rattle.rv_gate.specs.Circuit.{Cascade}
use Rattle.rv_gate.specs.Gate.{IsFlip}
use Rattle.rv_gate.specs.Word.{has}
use Rattle.rv_pla.specs.declared.cube.Cube.{Cube}
use Rattle.rv_cube.specs.Esop.{Esop}
use Rattle.rv_cube.specs.Flip.{flip_of}
use Rattle.rv_esop.specs.Cascade.{cascade_of, flips_of_cube, flips_of_cubes}
use Rattle.rv_esop.specs.declared.circuit.EsopFault.{EsopFault}

flips_of_all : (inputs outputs : ℕ) (cubes : List Cube) → All IsFlip (flips_of_cubes inputs outputs cubes)
unfolding flips_of_cubes
flips_of_all inputs outputs [] = All-nil IsFlip
flips_of_all inputs outputs (cube ∷ rest) =
    All-append IsFlip (flips_of_cube inputs outputs cube) (flips_of_cubes inputs outputs rest)
    (All-map IsFlip (λ output. flip_of cube (inputs + output)) (filter (has cube.outs) (range_with_len 0 outputs)) (λ i d u. refl))
    (flips_of_all inputs outputs rest)

pub cascade-flips : (e : Esop) → All IsFlip (cascade_of e).gates
cascade-flips e = flips_of_all e.inputs e.outputs e.cubes

-- as the code answers
pub answer-flips : (e : Esop) (result : Result Cascade EsopFault) → IfOk result (λ c. c ≡ cascade_of e) → IfOk result (λ c. All IsFlip c.gates)
answer-flips e (Err fault) is = tt
answer-flips e (Ok c) is = subst (λ (d : Cascade). All IsFlip d.gates) (sym is) (cascade-flips e)
