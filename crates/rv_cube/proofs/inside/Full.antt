-- Which slots are full, also after one was set, and that each has a cube.
use Rattle.std.proofs.Common.{◌≡◌, ◌≢◌, ℕ, ◌<◌, true, false, List, ◌∷◌, ◌++◌, length, set, sym, ◌∙◌, ap, arith, length-set, get_or-set_same, get_or-set_other, [], not, ne_eqb}
use Rattle.std.specs.Prelude.{All}
use Rattle.std.proofs.lemmas.Bool.{cases_eq, cases_lt, false≢true, eqb-false, not-true}
use Rattle.std.proofs.lemmas.List.{get_or_past, get_or_push, get_or_append_left, length-append}
use Rattle.std.proofs.lemmas.List.Elements.{All-set}
use Rattle.std.proofs.lemmas.Nat.{pow_pos}
use Rattle.std.proofs.lemmas.Nat.Bits.{bit_at-zero}
use Rattle.rv_gate.proofs.LineSets.{has_one}
use Rattle.rv_pla.specs.declared.cube.Cube.{Cube}
use Rattle.rv_pla.specs.Cube.{IsCube}
use Rattle.rv_pla.specs.declared.cube.TheConstants.{MOST_OUTPUTS}
use Rattle.rv_cube.specs.Reduction.{no_cube, at}
use Rattle.rv_cube.specs.inside.Slots.{carries, full}
use Rattle.std.proofs.lemmas.Grind.{common_steps}

pub carries_some : (cube : Cube) → 0 < cube.outs → carries cube ≡ true
carries_some cube l = ap not (ne_eqb cube.outs 0 (λ e. omega arith))

pub some_carries : (cube : Cube) → carries cube ≡ true → 0 < cube.outs
some_carries cube h = let ne = eqb-false cube.outs 0 (not-true _ h) in omega arith

pub full_within : (slots : List Cube) (i : ℕ) → full slots i ≡ true → i < length slots
full_within slots i h = grind (arith, cases_lt, get_or_past, no_cube)

pub full_set-same : (slots : List Cube) (i : ℕ) (cube : Cube) → i < length slots → full (set slots i cube) i ≡ carries cube
full_set-same slots i cube h = ap carries (get_or-set_same slots i cube no_cube h)

pub full_set-other : (slots : List Cube) (i j : ℕ) (cube : Cube) → j ≢ i → full (set slots i cube) j ≡ full slots j
full_set-other slots i j cube ne = ap carries (get_or-set_other slots i j cube no_cube ne)

pub full_set : (slots : List Cube) (i j : ℕ) (cube : Cube) → full slots i ≡ true → carries cube ≡ true → full (set slots i cube) j ≡ full slots j
full_set slots i j cube h c = grind (arith, cases_eq, full_set-same, full_within, full_set-other)

pub full_cleared : (slots : List Cube) (i : ℕ) → full (set slots i no_cube) i ≡ false
full_cleared slots i = grind (arith, cases_lt, get_or-set_same, no_cube, length-set, get_or_past)

pub apart_from : (slots : List Cube) (i j : ℕ) → full slots i ≡ false → full slots j ≡ true → j ≢ i
apart_from slots i j e f s = false≢true (sym e ∙ ap (full slots) (sym s) ∙ f)

-- ---- each slot has a cube

pub no_cube_valid : (n outputs : ℕ) → IsCube n outputs no_cube
no_cube_valid n outputs = grind (arith, common_steps, pow_pos, has_one, bit_at-zero)

pub at_valid : (n outputs : ℕ) (slots : List Cube) (i : ℕ) → All (IsCube n outputs) slots → IsCube n outputs (at slots i)
at_valid n outputs slots i all = grind (arith, get_or_past, no_cube_valid)

pub valid_set : (n : ℕ) (slots : List Cube) (i : ℕ) (cube : Cube) → All (IsCube n MOST_OUTPUTS) slots → IsCube n MOST_OUTPUTS cube
    → All (IsCube n MOST_OUTPUTS) (set slots i cube)
valid_set n slots i cube valid own = All-set (IsCube n MOST_OUTPUTS) slots i cube own valid

pub at_open : (slots : List Cube) (i : ℕ) → at (slots ++ no_cube ∷ []) i ≡ at slots i
at_open slots i =
    grind (arith, cases_lt, get_or_append_left, no_cube, cases_eq, get_or_push, get_or_past, length-append)
