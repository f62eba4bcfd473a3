-- The cascade adds the value of the list to the outputs.
use Rattle.std.proofs.Common.{◌≡◌, ℕ, zero, suc, ◌+◌, ◌-◌, ◌^◌, ◌<◌, ◌≤◌, Bool, true, false, not, cond, ◌&&◌, List, [], ◌∷◌, ◌++◌, length, get_or, set, refl, sym, ◌∙◌, ap, inl, inr, arith, append_assoc, length-append, drop, append-nil}
use Rattle.std.specs.Prelude.{bit_xor, All, map}
use Rattle.std.specs.List.{filter, range_with_len}
use Rattle.std.proofs.lemmas.Bool.{eqb-true, or_cases}
use Rattle.std.proofs.lemmas.Bool.Decides.{same_from_decides}
use Rattle.std.proofs.lemmas.List.{get_or_append_left, at_drop_more, drop_all}
use Rattle.std.proofs.lemmas.List.Elements.{All-head, All-tail}
use Rattle.rv_gate.specs.Word.{has, bit_of}
use Rattle.rv_gate.specs.Gate.{holds, flip, act, run, xor, IsGate, FitsIn}
use Rattle.rv_gate.specs.declared.gate.Shape.{Shape}
use Rattle.rv_gate.specs.declared.gate.Shape.TheVariants.{Flip}
use Rattle.rv_gate.proofs.inside.GateLemmas.{Hold, holds_Decides, run-append}
use Rattle.rv_gate.proofs.LineSets.{Within-below, has-above, has-cond, has-none, has-xor}
use Rattle.rv_pla.specs.Cube.{matches, IsCube}
use Rattle.rv_pla.specs.declared.cube.Cube.{Cube}
use Rattle.rv_cube.specs.Esop.{share, esop_value, IsTerm}
use Rattle.rv_pla.proofs.inside.Matching.{matches-holds}
use Rattle.rv_esop.specs.Cascade.{flips_of_cube, flips_of_cubes, xor_from, xor_set}
use Rattle.rv_esop.specs.inside.Flips.{flips_from}
use Rattle.rv_gate.proofs.Bits.{xor_false, xor_true, xor_assoc, and_true, and_false}

-- ---- the controls see only the inputs

held_longer : (care want n : ℕ) (x more : List Bool) → length x ≡ n → care < 2 ^ n → Hold care want x
    → Hold care want (x ++ more)
held_longer care want n x more len lt h line l on =
    let within : line < length x = let w = Within-below care n lt line on in omega arith in
    get_or_append_left x more false line within ∙ h line within on

held_shorter : (care want n : ℕ) (x more : List Bool) → length x ≡ n → care < 2 ^ n → Hold care want (x ++ more)
    → Hold care want x
held_shorter care want n x more len lt h line within on =
    sym (get_or_append_left x more false line within) ∙ h line (omega (arith, length-append x more)) on

pub holds-append : (care want n : ℕ) (x more : List Bool) → length x ≡ n → care < 2 ^ n
    → holds care want (x ++ more) ≡ holds care want x
holds-append care want n x more len lt =
    let d = holds_Decides care want (x ++ more) in
    let e = holds_Decides care want x in
    same_from_decides {P = Hold care want x} _ _
    (λ t. held_shorter care want n x more len lt (d.0 t), λ p. d.1 (held_longer care want n x more len lt p)) e

-- ---- tests

-- ---- one flip

set-place : (p v : List Bool) (b c : Bool) → set (p ++ b ∷ v) (length p) c ≡ p ++ c ∷ v
set-place [] v b c = refl
set-place (x ∷ p) v b c = ap (λ w. x ∷ w) (set-place p v b c)

bit-place : (p v : List Bool) (b : Bool) → bit_of (p ++ b ∷ v) (length p) ≡ b
bit-place [] v b = refl
bit-place (x ∷ p) v b = bit-place p v b

flip-place : (p v : List Bool) (b : Bool) (line : ℕ) → line ≡ length p → flip (p ++ b ∷ v) line ≡ p ++ not b ∷ v
flip-place p v b line e =
    rw e (ap (λ t. set (p ++ b ∷ v) (length p) (not t)) (bit-place p v b) ∙ set-place p v b (not b))

act-place : (care want line : ℕ) (p v : List Bool) (b on : Bool) → line ≡ length p → holds care want (p ++ b ∷ v) ≡ on
    → act (Flip care want line) (p ++ b ∷ v) ≡ p ++ xor b on ∷ v
act-place care want line p v b on e h =
    ap (λ t. cond t (flip (p ++ b ∷ v) line) (p ++ b ∷ v)) h ∙ choose on
  where
    choose : (t : Bool) → cond t (flip (p ++ b ∷ v) line) (p ++ b ∷ v) ≡ p ++ xor b t ∷ v
    choose true = flip-place p v b line e ∙ ap (λ c. p ++ c ∷ v) (sym (xor_true b))
    choose false = ap (λ c. p ++ c ∷ v) (sym (xor_false b))

-- ---- the flips of a cube

flips_from-all : (inputs : ℕ) (cube : Cube) (j m : ℕ)
    → flips_from inputs cube j m
    ≡ map (λ output. Flip cube.care cube.want (inputs + output)) (filter (has cube.outs) (range_with_len j m))
unfolding flips_from
flips_from-all inputs cube j zero = refl
flips_from-all inputs cube j (suc m) =
    let flip : ℕ → Shape = λ output. Flip cube.care cube.want (inputs + output) in
    let later : List ℕ = filter (has cube.outs) (range_with_len (j + 1) m) in
    ap (λ (rest : List Shape). cond (has cube.outs j) (flip j ∷ rest) rest) (flips_from-all inputs cube (j + 1) m)
    ∙ (elim (has cube.outs j) as (λ t. cond t (flip j ∷ map flip later) (map flip later) ≡ map flip
    (cond t (j ∷ later) later)) [ true ↦ refl | false ↦ refl ])

pub run_flips : (inputs : ℕ) (cube : Cube) (j : ℕ) (p v : List Bool) (on : Bool) → length p ≡ inputs + j
    → ((w : List Bool) → holds cube.care cube.want (p ++ w) ≡ on)
    → run (flips_from inputs cube j (length v)) (p ++ v) ≡ p ++ xor_from j v (cond on cube.outs 0)
unfolding flips_from xor_from
run_flips inputs cube j p [] on len h = refl
run_flips inputs cube j p (b ∷ v) on len h =
    let s : ℕ = cond on cube.outs 0 in
    let rest : List Shape = flips_from inputs cube (j + 1) (length v) in
    let next : (c : Bool) → run rest (p ++ c ∷ v) ≡ p ++ c ∷ xor_from (j + 1) v s =
    λ c.
    ap (run rest) (sym (append_assoc p (c ∷ []) v))
    ∙ run_flips inputs cube (j + 1) (p ++ c ∷ []) v on (length-append p (c ∷ []) ∙ omega arith)
    (λ w. ap (holds cube.care cube.want) (append_assoc p (c ∷ []) w) ∙ h (c ∷ w))
    ∙ append_assoc p (c ∷ []) (xor_from (j + 1) v s) in
    choose (has cube.outs j) refl next
  where
    choose : (t : Bool) → has cube.outs j ≡ t
        → ((c : Bool) → run (flips_from inputs cube (j + 1) (length v)) (p ++ c ∷ v)
        ≡ p ++ c ∷ xor_from (j + 1) v (cond on cube.outs 0))
        → run (cond t (Flip cube.care cube.want (inputs + j) ∷ flips_from inputs cube (j + 1) (length v))
        (flips_from inputs cube (j + 1) (length v))) (p ++ b ∷ v)
        ≡ p ++ xor b (has (cond on cube.outs 0) j) ∷ xor_from (j + 1) v (cond on cube.outs 0)
    choose true e next =
        ap (run (flips_from inputs cube (j + 1) (length v)))
        (act-place cube.care cube.want (inputs + j) p v b on (sym len) (h (b ∷ v)))
        ∙ next (xor b on)
        ∙ ap (λ t. p ++ xor b t ∷ xor_from (j + 1) v (cond on cube.outs 0))
        (sym (has-cond on cube.outs j ∙ ap (λ t. on && t) e ∙ and_true on))
    choose false e next =
        next b
        ∙ ap (λ t. p ++ t ∷ xor_from (j + 1) v (cond on cube.outs 0))
        (sym (ap (xor b) (has-cond on cube.outs j ∙ ap (λ t. on && t) e ∙ and_false on) ∙ xor_false b))

-- ---- all flips

pub xor-twice : (j : ℕ) (v : List Bool) (a b : ℕ) → xor_from j (xor_from j v a) b ≡ xor_from j v (bit_xor a b)
unfolding xor_from
xor-twice j [] a b = refl
xor-twice j (x ∷ v) a b =
    ap (λ t. t ∷ xor_from (j + 1) (xor_from (j + 1) v a) b)
    (xor_assoc x (has a j) (has b j) ∙ ap (xor x) (sym (has-xor a b j)))
    ∙ ap (λ w. xor x (has (bit_xor a b) j) ∷ w) (xor-twice (j + 1) v a b)

pub length-xor_from : (j : ℕ) (v : List Bool) (a : ℕ) → length (xor_from j v a) ≡ length v
unfolding xor_from
length-xor_from j [] a = refl
length-xor_from j (x ∷ v) a = ap suc (length-xor_from (j + 1) v a)

pub xor-nothing : (j : ℕ) (v : List Bool) → xor_from j v 0 ≡ v
unfolding xor_from
xor-nothing j [] = refl
xor-nothing j (x ∷ v) =
    ap (λ t. xor x t ∷ xor_from (j + 1) v 0) (has-none j)
    ∙ ap (λ t. t ∷ xor_from (j + 1) v 0) (xor_false x) ∙ ap (λ w. x ∷ w) (xor-nothing (j + 1) v)

pub run_flips_of : (inputs outputs : ℕ) (cubes : List Cube) (x v : List Bool) → All (IsTerm inputs outputs) cubes
    → length x ≡ inputs → length v ≡ outputs
    → run (flips_of_cubes inputs outputs cubes) (x ++ v) ≡ x ++ xor_set v (esop_value cubes x)
unfolding flips_of_cubes esop_value
run_flips_of inputs outputs [] x v all lx lv = ap (λ w. x ++ w) (sym (xor-nothing 0 v))
run_flips_of inputs outputs (cube ∷ rest) x v all lx lv =
    let s : ℕ = share cube x in
    let e : flips_of_cube inputs outputs cube ≡ flips_from inputs cube 0 (length v) =
    sym (flips_from-all inputs cube 0 outputs) ∙ ap (flips_from inputs cube 0) (sym lv) in
    run-append (flips_of_cube inputs outputs cube) (flips_of_cubes inputs outputs rest) (x ++ v)
    ∙ ap (λ g. run (flips_of_cubes inputs outputs rest) (run g (x ++ v))) e
    ∙ ap (run (flips_of_cubes inputs outputs rest))
    (run_flips inputs cube 0 x v (matches cube x) (lx ∙ omega arith)
    (λ w. holds-append cube.care cube.want inputs x w lx (All-head (IsTerm inputs outputs) cube rest all).is_cube.asked
    ∙ sym (matches-holds cube x)))
    ∙ run_flips_of inputs outputs rest x (xor_from 0 v s) (All-tail (IsTerm inputs outputs) cube rest all) lx
    (length-xor_from 0 v s ∙ lv)
    ∙ ap (λ w. x ++ w) (xor-twice 0 v s (esop_value rest x))

-- ---- the code

no_care : (n outputs line : ℕ) (cube : Cube) → IsCube n outputs cube → n ≤ line → has cube.care line ≡ false
no_care n outputs line cube v le = has-above cube.care n line v.asked le

pub cube_gate : (n outputs j : ℕ) (cube : Cube) → n ≤ 16 → j < 16 → IsCube n outputs cube
    → IsGate (Flip cube.care cube.want (n + j))
cube_gate n outputs j cube few fj v = (omega arith, no_care n outputs (n + j) cube v (omega arith), v.wanted)

pub cube_fits : (n outputs j : ℕ) (cube : Cube) → j < outputs → IsCube n outputs cube
    → FitsIn (Flip cube.care cube.want (n + j)) (n + outputs)
cube_fits n outputs j cube fj v line on =
    elim (or_cases _ _ on) [
      | inl c ↦ let l = Within-below cube.care n v.asked line c in omega arith
      | inr t ↦ let e = eqb-true line (n + j) t in omega arith
    ]

pub flips_some : (n : ℕ) (cube : Cube) (j o : ℕ) (g : List Shape) → j < o → has cube.outs j ≡ true
    → (g ++ Flip cube.care cube.want (n + j) ∷ []) ++ flips_from n cube (j + 1) (o - (j + 1))
    ≡ g ++ flips_from n cube j (o - j)
unfolding flips_from
flips_some n cube j o g h on =
    let p : o - j ≡ suc (o - (j + 1)) = omega arith in
    let rest : List Shape = flips_from n cube (j + 1) (o - (j + 1)) in
    append_assoc g (Flip cube.care cube.want (n + j) ∷ []) rest
    ∙ ap (λ b. g ++ cond b (Flip cube.care cube.want (n + j) ∷ rest) rest) (sym on)
    ∙ ap (λ m. g ++ flips_from n cube j m) (sym p)

pub flips_none : (n : ℕ) (cube : Cube) (j o : ℕ) (g : List Shape) → j < o → has cube.outs j ≡ false
    → g ++ flips_from n cube (j + 1) (o - (j + 1)) ≡ g ++ flips_from n cube j (o - j)
unfolding flips_from
flips_none n cube j o g h off =
    let p : o - j ≡ suc (o - (j + 1)) = omega arith in
    let rest : List Shape = flips_from n cube (j + 1) (o - (j + 1)) in
    ap (λ b. g ++ cond b (Flip cube.care cube.want (n + j) ∷ rest) rest) (sym off)
    ∙ ap (λ m. g ++ flips_from n cube j m) (sym p)

pub flips_end : (n : ℕ) (cube : Cube) (j o : ℕ) (g : List Shape) → o ≤ j → g ≡ g ++ flips_from n cube j (o - j)
unfolding flips_from
flips_end n cube j o g h = let z : o - j ≡ 0 =
    omega arith in sym (ap (λ m. g ++ flips_from n cube j m) z ∙ append-nil g)

pub flips_of-more : (n o : ℕ) (cubes : List Cube) (k : ℕ) (d : Cube) → k < length cubes
    → flips_of_cubes n o (drop k cubes) ≡ flips_from n (get_or cubes k d) 0 o ++ flips_of_cubes n o (drop (k + 1) cubes)
unfolding flips_of_cubes
flips_of-more n o cubes k d h =
    at_drop_more (flips_of_cubes n o) cubes k d h
    ∙ ap (λ (flips : List Shape). flips ++ flips_of_cubes n o (drop (k + 1) cubes))
    (sym (flips_from-all n (get_or cubes k d) 0 o))

pub flips_of-end : (n o : ℕ) (cubes : List Cube) (k : ℕ) → length cubes ≤ k → flips_of_cubes n o (drop k cubes) ≡ []
unfolding flips_of_cubes
flips_of-end n o cubes k h = ap (flips_of_cubes n o) (drop_all k cubes h)

-- all cubes are done
pub flips_of-all : (n o : ℕ) (cubes : List Cube) (k : ℕ) (gates : List Shape) → length cubes ≤ k
    → gates ++ flips_of_cubes n o (drop k cubes) ≡ flips_of_cubes n o cubes → gates ≡ flips_of_cubes n o cubes
flips_of-all n o cubes k gates h so_far =
    sym (ap (λ w. gates ++ w) (flips_of-end n o cubes k h) ∙ append-nil gates) ∙ so_far
