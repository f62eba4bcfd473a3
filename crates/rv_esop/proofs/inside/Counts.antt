-- How many flips are counted.
use Rattle.std.proofs.Common.{◌≡◌, ℕ, suc, ◌+◌, ◌-◌, ◌<◌, ◌≤◌, Bool, true, false, cond, List, ◌∷◌, length, drop, get_or, ap, ◌∙◌, arith, length-append}
use Rattle.rv_gate.specs.Word.{has}
use Rattle.rv_gate.specs.declared.gate.Shape.{Shape}
use Rattle.rv_gate.specs.declared.gate.Shape.TheVariants.{Flip}
use Rattle.rv_pla.specs.declared.cube.Cube.{Cube}
use Rattle.rv_cube.specs.Reduction.{no_cube}
use Rattle.rv_esop.specs.Cascade.{flips_of_cubes}
use Rattle.rv_esop.specs.inside.Flips.{flips_from}
use Rattle.rv_esop.proofs.inside.Flips.{flips_of-more, flips_of-end}

-- one output more
pub count_next : (n : ℕ) (cube : Cube) (j m : ℕ) → j < m
    → length (flips_from n cube j (m - j))
    ≡ cond (has cube.outs j) 1 0 + length (flips_from n cube (j + 1) (m - (j + 1)))
unfolding flips_from
count_next n cube j m h =
    let p : m - j ≡ suc (m - (j + 1)) = omega arith in
    ap (λ k. length (flips_from n cube j k)) p ∙ choose (has cube.outs j) (flips_from n cube (j + 1) (m - (j + 1)))
  where
    choose : (t : Bool) (rest : List Shape)
        → length (cond t (Flip cube.care cube.want (n + j) ∷ rest) rest) ≡ cond t 1 0 + length rest
    choose true rest = omega arith
    choose false rest = omega arith

pub count_end : (n : ℕ) (cube : Cube) (j m : ℕ) → m ≤ j → length (flips_from n cube j (m - j)) ≡ 0
unfolding flips_from
count_end n cube j m h = let p : m - j ≡ 0 = omega arith in ap (λ k. length (flips_from n cube j k)) p

-- one cube more
pub cubes_next : (n o : ℕ) (cubes : List Cube) (k : ℕ) → k < length cubes
    → length (flips_of_cubes n o (drop k cubes))
    ≡ length (flips_from n (get_or cubes k no_cube) 0 o) + length (flips_of_cubes n o (drop (k + 1) cubes))
cubes_next n o cubes k h =
    ap length (flips_of-more n o cubes k no_cube h)
    ∙ length-append (flips_from n (get_or cubes k no_cube) 0 o) (flips_of_cubes n o (drop (k + 1) cubes))

pub cubes_end : (n o : ℕ) (cubes : List Cube) (k : ℕ) → length cubes ≤ k
    → length (flips_of_cubes n o (drop k cubes)) ≡ 0
cubes_end n o cubes k h = ap length (flips_of-end n o cubes k h)

pub ruleset counts = (cubes_next, cubes_end)
