-- The loops and calls of the code against the definitions.
use Rattle.std.proofs.Common.{◌≡◌, ℕ, suc, ◌-◌, ◌^◌, ◌<◌, ◌≤◌, Bool, cond, eqb, List, ◌++◌, length, get_or, sym, ◌∙◌, ap, arith, subst, append_assoc}
use Rattle.std.specs.Prelude.{All}
use Rattle.rv_gate.specs.Gate.{IsGate}
use Rattle.rv_gate.specs.declared.gate.Shape.{Shape}
use Rattle.rv_gate.specs.declared.gate.Shape.TheVariants.{Flip}
use Rattle.rv_perm.specs.Perm.{IsPerm, Table}
use Rattle.rv_pla.specs.Cube.{Dash, symbol}
use Rattle.rv_pla.specs.declared.cube.Cube.{Cube}
use Rattle.rv_cube.specs.Esop.{IsTerm}
use Rattle.rv_cube.specs.ReedMuller.{reed_muller}
use Rattle.rv_cube.specs.Reduction.{reduced}
use Rattle.rv_dbs.specs.Walk.{other, left, right}
use Rattle.rv_dbs.specs.Singles.{values_of, flips_of, single, turned, between, is_changed, KeepsAbove, singles_from}
use Rattle.rv_dbs.proofs.Pairs.{other_within}
use Rattle.rv_dbs.proofs.Between.{IsFree, keeps_more, left_free, right_free, between_perm}
use Rattle.rv_dbs.proofs.inside.Gates.{free_care, value_at, length-values, small_values}
use Rattle.std.proofs.lemmas.Result.{on_ok_weaker}

-- ---- the values of a function

pub values_full : (n m : ℕ) (f : ℕ → Bool) (values : List ℕ) → m ≡ n → values ≡ values_of n f → length values ≡ 2 ^ m
values_full n m f values e is = ap length is ∙ length-values n f ∙ ap (λ k. 2 ^ k) (sym e)

pub values_small : (n : ℕ) (f : ℕ → Bool) (values : List ℕ) → values ≡ values_of n f → All (λ y. y < 2 ^ 1) values
values_small n f values is = let P : List ℕ → Type 0 = All (λ y. y < 2 ^ 1) in subst P (sym is) (small_values n f)

pub values_free : (n m k : ℕ) (f : ℕ → Bool) (values : List ℕ) → k < n → IsFree n k f → m ≡ n → values ≡ values_of n f → (x : ℕ) → x < 2 ^ m
    → get_or values (other k x) 0 ≡ get_or values x 0
values_free n m k f values h free e is x l = grind (arith, value_at, other_within)

-- ---- the flips of a list

pub term_gate : (n k : ℕ) (c : Cube) → n ≤ 16 → k < n → IsTerm n 1 c → symbol c (n - 1 - k) ≡ Dash → IsGate (Flip c.care c.want (n - 1 - k))
term_gate n k c few h t dash = (omega arith, free_care c (n - 1 - k) dash, t.is_cube.wanted)

-- the flips of the values of a function are its gate
pub flips_single : (n m k : ℕ) (f : ℕ → Bool) (values : List ℕ) → m ≡ n → values ≡ values_of n f
    → flips_of (m - 1 - k) (reduced m (reed_muller m values)) ≡ single n k f
unfolding single
flips_single n m k f values e is =
    ap (λ v. flips_of (m - 1 - k) (reduced m (reed_muller m v))) is ∙ ap (λ j. flips_of (j - 1 - k) (reduced j (reed_muller j (values_of n f)))) e

-- ---- what a gate makes of a word

bit_value : (b : Bool) (x y : ℕ) → cond (eqb (cond {A = ℕ} b 1 0) 1) x y ≡ cond b x y
bit_value b x y = grind arith

pub turned_by_values : (n k x : ℕ) (f : ℕ → Bool) (values : List ℕ) → x < 2 ^ n → values ≡ values_of n f
    → cond (eqb (get_or values x 0) 1) (other k x) x ≡ turned k f x
turned_by_values n k x f values h is =
    ap (λ v. cond (eqb v 1) (other k x) x) (ap (λ l. get_or l x 0) is ∙ value_at n f x 0 h) ∙ bit_value (f x) (other k x) x

-- ---- all gates

pub none_left : (n k : ℕ) (images : List ℕ) → k ≡ 0 → single n 0 (is_changed images) ≡ singles_from n k images
unfolding singles_from
none_left n k images e = sym (ap (λ j. singles_from n j images) e)

pub three_joined : (n k j : ℕ) (images : List ℕ) (g0 g1 g2 g3 : List Shape) → k ≡ suc j
    → g1 ≡ g0 ++ single n k (left n k images) → g2 ≡ g1 ++ singles_from n j (between n k images) → g3 ≡ g2 ++ single n k (right n k images)
    → g3 ≡ g0 ++ singles_from n k images
unfolding singles_from
three_joined n k j images g0 g1 g2 g3 e a b c = grind (arith, singles_from, append_assoc)

pub keeps_rest : (n k j : ℕ) (images : List ℕ) (rest : Table) → IsPerm n images → k < n → k ≡ suc j → KeepsAbove n k images
    → rest ≡ record { lines = n; images = between n k images } → (j < rest.lines) × KeepsAbove rest.lines j rest.images
keeps_rest n k j images rest p h e kept is = grind (arith, keeps_more)

-- what each gate of a line asks and gives
pub ruleset gates = (on_ok_weaker, left_free, right_free, between_perm, values_full, values_small, values_free, flips_single, none_left)
