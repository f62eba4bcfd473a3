-- Steps that are made again and again.
use Rattle.std.proofs.Common.{◌≡◌, ℕ, zero, suc, ◌-◌, ◌<◌, ◌≤◌, List, refl, sym, ◌∙◌, ap, arith}
use Rattle.std.specs.Prelude.{Option, None, Some}
use Rattle.std.specs.Option.{option_map_or}
use Rattle.rv_pla.specs.declared.cube.Cube.{Cube}
use Rattle.rv_cube.specs.Reduction.{repeated}

-- each step lowers a measure
abbrev pub Lowers : (List Cube → Option (List Cube)) → (List Cube → ℕ) → Type 0
Lowers step measure = (cubes next : List Cube) → step cubes ≡ Some next → measure next < measure cubes

repeated_some : (step : List Cube → Option (List Cube)) (turns : ℕ) (cubes next : List Cube) → step cubes ≡ Some next
    → repeated step (suc turns) cubes ≡ repeated step turns next
unfolding repeated
repeated_some step turns cubes next e = ap (λ o. option_map_or (repeated step turns) o cubes) e

pub repeated_end : (step : List Cube → Option (List Cube)) (turns : ℕ) (cubes : List Cube) → step cubes ≡ None → repeated step turns cubes ≡ cubes
unfolding repeated
repeated_end step turns cubes h = grind arith

-- what each step keeps, all of them keep
first_keeps : (P : List Cube → Type 0) (step : List Cube → Option (List Cube)) → ((cubes next : List Cube) → step cubes ≡ Some next → P cubes → P next)
    → (cubes : List Cube) (o : Option (List Cube)) (go : List Cube → List Cube) → step cubes ≡ o
    → ((l : List Cube) → P l → P (go l)) → P cubes → P (option_map_or go o cubes)
first_keeps P step h cubes o go h2 h3 h4 = grind arith

pub repeated_keeps : (P : List Cube → Type 0) (step : List Cube → Option (List Cube)) → ((cubes next : List Cube) → step cubes ≡ Some next → P cubes → P next)
    → (turns : ℕ) (cubes : List Cube) → P cubes → P (repeated step turns cubes)
unfolding repeated
repeated_keeps P step h zero cubes p = p
repeated_keeps P step h (suc turns) cubes p =
    first_keeps P step h cubes (step cubes) (repeated step turns) refl (λ l q. repeated_keeps P step h turns l q) p

-- with turns enough none is left
none_found : (step : List Cube → Option (List Cube)) (measure : List Cube → ℕ) (cubes : List Cube) (o : Option (List Cube)) → step cubes ≡ o
    → Lowers step measure → measure cubes ≤ 0 → o ≡ None
none_found step measure cubes None e low h = refl
none_found step measure cubes (Some next) e low h = absurd (let l = low cubes next e in omega arith)

first_settles : (step : List Cube → Option (List Cube)) (measure : List Cube → ℕ) → Lowers step measure
    → (cubes : List Cube) (o : Option (List Cube)) (go : List Cube → List Cube) → step cubes ≡ o
    → ((l : List Cube) → measure l < measure cubes → step (go l) ≡ None) → step (option_map_or go o cubes) ≡ None
first_settles step measure h cubes o go h2 h3 = grind arith

pub repeated_settles : (step : List Cube → Option (List Cube)) (measure : List Cube → ℕ) → Lowers step measure
    → (turns : ℕ) (cubes : List Cube) → measure cubes ≤ turns → step (repeated step turns cubes) ≡ None
unfolding repeated
repeated_settles step measure low zero cubes h = none_found step measure cubes (step cubes) refl low h
repeated_settles step measure low (suc turns) cubes h = let i0 = repeated_settles step measure low turns in grind (arith, i0, first_settles)

-- more turns change nothing
first_same : (step : List Cube → Option (List Cube)) (measure : List Cube → ℕ) → Lowers step measure
    → (cubes : List Cube) (o : Option (List Cube)) (go og : List Cube → List Cube) → step cubes ≡ o
    → ((l : List Cube) → measure l < measure cubes → go l ≡ og l) → option_map_or go o cubes ≡ option_map_or og o cubes
first_same step measure h cubes o go og h2 h3 = grind arith

enough_turns : (step : List Cube → Option (List Cube)) (measure : List Cube → ℕ) → Lowers step measure
    → (j k : ℕ) (cubes : List Cube) → measure cubes ≤ j → measure cubes ≤ k → repeated step j cubes ≡ repeated step k cubes
unfolding repeated
enough_turns step measure low zero k cubes hj hk =
    sym (repeated_end step k cubes (none_found step measure cubes (step cubes) refl low hj))
enough_turns step measure low (suc j) zero cubes hj hk =
    repeated_end step (suc j) cubes (none_found step measure cubes (step cubes) refl low hk)
enough_turns step measure low (suc j) (suc k) cubes hj hk = let i0 = enough_turns step measure low j k in grind (arith, i0, first_same)

-- one turn of the loop
pub repeated_once : (step : List Cube → Option (List Cube)) (measure : List Cube → ℕ) → Lowers step measure
    → (cubes next : List Cube) → step cubes ≡ Some next
    → repeated step (measure next) next ≡ repeated step (measure cubes) cubes
repeated_once step measure low cubes next e =
    let s = low cubes next e in
    let p : suc (measure cubes - 1) ≡ measure cubes = omega arith in
    enough_turns step measure low _ (measure cubes - 1) next (omega arith) (omega arith)
    ∙ sym (repeated_some step (measure cubes - 1) cubes next e)
    ∙ ap (λ t. repeated step t cubes) p
