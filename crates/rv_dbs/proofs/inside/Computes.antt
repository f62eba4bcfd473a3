-- The gates compute the permutation, and are few.
use Rattle.std.proofs.Common.{◌≡◌, ℕ, zero, suc, ◌+◌, ◌-◌, ◌*◌, ◌^◌, ◌<◌, ◌≤◌, Bool, eqb, List, [], ◌∷◌, ◌++◌, length, get_or, refl, ◌∙◌, ap, inl, inr, arith, eq-eqb, length-append, subst}
use Rattle.std.proofs.lemmas.Bool.{eqb-true, or_cases}
use Rattle.std.proofs.Math.Nat.{mul-le-mul_right}
use Rattle.std.proofs.Math.Pow.{pow_mono}
use Rattle.std.proofs.lemmas.List.{length-map}
use Rattle.std.proofs.lemmas.List.Elements.{All-append, All-map}
use Rattle.rv_gate.specs.Word.{has, number_of, word_of}
use Rattle.rv_gate.specs.inside.laws.WordLaws.{length-word_of, number_of-lt, number_of-word_of_small}
use Rattle.rv_gate.specs.Gate.{run, targets, IsGate, FitsIn, IsFlip}
use Rattle.rv_gate.specs.declared.gate.Shape.{Shape}
use Rattle.rv_gate.specs.declared.gate.Shape.TheVariants.{Flip}
use Rattle.rv_gate.proofs.inside.GateLemmas.{run-append}
use Rattle.rv_gate.proofs.LineSets.{Within-below}
use Rattle.rv_pla.specs.declared.cube.Cube.{Cube}
use Rattle.rv_cube.specs.Esop.{IsTerm}
use Rattle.rv_cube.specs.ReedMuller.{reed_muller}
use Rattle.rv_cube.specs.Reduction.{reduced}
use Rattle.rv_perm.specs.Perm.{IsPerm, Computes}
use Rattle.rv_dbs.specs.Walk.{left, right}
use Rattle.rv_dbs.specs.Singles.{values_of, flips_of, single, turned, between, is_changed, KeepsAbove, singles_from, singles}
use Rattle.rv_dbs.specs.Runs.{turn_count, run_count, AreFlips}
use Rattle.rv_dbs.proofs.Pairs.{image_within}
use Rattle.rv_dbs.proofs.Between.{IsFree, turned_within, turned_back, left_free, right_free, between_at, between_perm, keeps_more, changed_is, changed_free}
use Rattle.rv_dbs.proofs.inside.Gates.{Does, free_care, list_is, single_does}

-- ---- one gate

no_turn : (target : ℕ) (cubes : List Cube) → turn_count (2 ^ target) (flips_of target cubes) ≡ 0
unfolding turn_count
no_turn target [] = refl
no_turn target (c ∷ rest) = let i0 = no_turn target rest in grind (arith, i0, eq-eqb)

one_run : (target : ℕ) (cubes : List Cube) → run_count (flips_of target cubes) ≤ 1
unfolding run_count
one_run target [] = omega arith
one_run target (c ∷ rest) = let r = no_turn target rest in omega (arith, r)

cube_fits : (n target : ℕ) (c : Cube) → target < n → IsTerm n 1 c → FitsIn (Flip c.care c.want target) n
cube_fits n target c h t line on =
    elim (or_cases (has c.care line) (eqb line target) on) [
      | inl asked ↦ Within-below c.care n t.is_cube.asked line asked
      | inr at ↦ (let e = eqb-true line target at in omega arith)
    ]

pub single_flips : (n k : ℕ) (f : ℕ → Bool) → n ≤ 16 → k < n → IsFree n k f → AreFlips n 1 (2 ^ (n - 1)) (single n k f)
unfolding single
single_flips n k f small h free =
    let l = list_is n k f h free in
    let cubes : List Cube = reduced n (reed_muller n (values_of n f)) in
    let gate : Cube → Shape = λ c. Flip c.care c.want (n - 1 - k) in
    record {
      flips = All-map IsFlip (λ (c : Cube). Flip c.care c.want (n - 1 - k)) (reduced n (reed_muller n (values_of n f))) (λ i d u. refl);
      valid = All-map IsGate (λ (c : Cube). Flip c.care c.want (n - 1 - k)) (reduced n (reed_muller n (values_of n f)))
          (λ i d u. (omega arith, free_care (get_or (reduced n (reed_muller n (values_of n f))) i d) (n - 1 - k) (l.dashed i d u), (l.terms i d u).is_cube.wanted));
      fits = All-map (λ g. FitsIn g n) (λ (c : Cube). Flip c.care c.want (n - 1 - k)) (reduced n (reed_muller n (values_of n f)))
          (λ i d u. cube_fits n (n - 1 - k) (get_or (reduced n (reed_muller n (values_of n f))) i d) (omega arith) (l.terms i d u));
      few_runs = one_run (n - 1 - k) (reduced n (reed_muller n (values_of n f)));
      few = let e = length-map (reduced n (reed_muller n (values_of n f))) (λ (c : Cube). Flip c.care c.want (n - 1 - k)) in let s = l.few in omega (arith, e, s);
    }

-- ---- gates one after the other

turns_after : (before : ℕ) (b : List Shape) → turn_count before b ≤ run_count b
unfolding turn_count run_count
turns_after before b = grind arith

turns_joined : (before : ℕ) (a b : List Shape) → turn_count before (a ++ b) ≤ turn_count before a + run_count b
unfolding turn_count
turns_joined before [] b = let r = turns_after before b in omega (arith, r)
turns_joined before (g ∷ a) b = let r = turns_joined (targets g) a b in omega (arith, r)

runs_joined : (a b : List Shape) → run_count (a ++ b) ≤ run_count a + run_count b
unfolding run_count
runs_joined [] b = omega arith
runs_joined (g ∷ a) b = let r = turns_joined (targets g) a b in omega (arith, r)

pub flips_joined : (n r s c d : ℕ) (a b : List Shape) → AreFlips n r c a → AreFlips n s d b → AreFlips n (r + s) (c + d) (a ++ b)
flips_joined n r s c d a b fa fb = record {
  flips = All-append IsFlip a b fa.flips fb.flips;
  valid = All-append IsGate a b fa.valid fb.valid;
  fits = All-append (λ g. FitsIn g n) a b fa.fits fb.fits;
  few_runs = let j = runs_joined a b in let x = fa.few_runs in let y = fb.few_runs in omega arith;
  few = let j = length-append a b in let x = fa.few in let y = fb.few in omega arith;
}

flips_within : (n r s c d : ℕ) (gates : List Shape) → r ≤ s → c ≤ d → AreFlips n r c gates → AreFlips n s d gates
flips_within n r s c d gates hr hc f = record {
  flips = f.flips;
  valid = f.valid;
  fits = f.fits;
  few_runs = let x = f.few_runs in omega arith;
  few = let x = f.few in omega arith;
}

-- ---- all gates

three_parts : (k m : ℕ) → m + (2 * k + 1) * m + m ≡ (2 * suc k + 1) * m
three_parts k m = omega arith

pub singles_flips : (n k : ℕ) (images : List ℕ) → IsPerm n images → k < n → KeepsAbove n k images
    → AreFlips n (2 * k + 1) ((2 * k + 1) * 2 ^ (n - 1)) (singles_from n k images)
unfolding singles_from
singles_flips n zero images p h kept =
    flips_within n 1 (2 * 0 + 1) (2 ^ (n - 1)) ((2 * 0 + 1) * 2 ^ (n - 1)) _ (omega arith) (omega arith)
    (single_flips n 0 (is_changed images) p.1 h (changed_free n images p kept))
singles_flips n (suc k) images p h kept =
    let m : ℕ = 2 ^ (n - 1) in
    let rest = singles_flips n k (between n (suc k) images) (between_perm n (suc k) images p h) (omega arith) (keeps_more n k images p h kept) in
    let one = single_flips n (suc k) (left n (suc k) images) p.1 h (left_free n (suc k) images p h) in
    let two = single_flips n (suc k) (right n (suc k) images) p.1 h (right_free n (suc k) images p h) in
    let a = flips_joined n 1 (2 * k + 1) (2 ^ (n - 1)) ((2 * k + 1) * 2 ^ (n - 1)) _ _ one rest in
    let all = flips_joined n (1 + (2 * k + 1)) 1 (2 ^ (n - 1) + (2 * k + 1) * 2 ^ (n - 1)) (2 ^ (n - 1)) _ _ a two in
    let sum : 2 ^ (n - 1) + (2 * k + 1) * 2 ^ (n - 1) + 2 ^ (n - 1) ≡ (2 * suc k + 1) * 2 ^ (n - 1) = three_parts k (2 ^ (n - 1)) in
    flips_within n (1 + (2 * k + 1) + 1) (2 * suc k + 1) (2 ^ (n - 1) + (2 * k + 1) * 2 ^ (n - 1) + 2 ^ (n - 1)) ((2 * suc k + 1) * 2 ^ (n - 1)) _ (omega arith) (omega (arith, sum)) all

pub does_then : (n : ℕ) (a b : List Shape) (g h : ℕ → ℕ) → Does n a g → Does n b h → ((x : ℕ) → x < 2 ^ n → g x < 2 ^ n) → Does n (a ++ b) (λ x. h (g x))
does_then n a b g h da db within w len =
    let lt : number_of w < 2 ^ n = let s = number_of-lt w in let e : 2 ^ length w ≡ 2 ^ n = ap (λ m. 2 ^ m) len in omega arith in
    run-append a b w ∙ ap (run b) (da w len) ∙ db (word_of n (g (number_of w))) (length-word_of n (g (number_of w)))
    ∙ ap (λ x. word_of n (h x)) (number_of-word_of_small n (g (number_of w)) (within (number_of w) lt))

pub singles_compute : (n k : ℕ) (images : List ℕ) → IsPerm n images → k < n → KeepsAbove n k images → Computes n (singles_from n k images) images
unfolding singles_from
singles_compute n zero images p h kept w len =
    let lt : number_of w < 2 ^ n = let s = number_of-lt w in let e : 2 ^ length w ≡ 2 ^ n = ap (λ m. 2 ^ m) len in omega arith in
    single_does n 0 (is_changed images) h (changed_free n images p kept) w len
    ∙ ap (word_of n) (changed_is n (number_of w) images p kept lt)
singles_compute n (suc k) images p h kept w len =
    let x : ℕ = number_of w in
    let lt : number_of w < 2 ^ n = let s = number_of-lt w in let e : 2 ^ length w ≡ 2 ^ n = ap (λ m. 2 ^ m) len in omega arith in
    let l : ℕ → Bool = left n (suc k) images in
    let r : ℕ → Bool = right n (suc k) images in
    let lf = left_free n (suc k) images p h in
    let rf = right_free n (suc k) images p h in
    let p2 = between_perm n (suc k) images p h in
    let into : (v : ℕ) → v < 2 ^ n → turned (suc k) (left n (suc k) images) v < 2 ^ n = λ v u. turned_within n (suc k) v (left n (suc k) images) h u in
    let rest = singles_compute n k (between n (suc k) images) p2 (omega arith) (keeps_more n k images p h kept) in
    let ab = does_then n (single n (suc k) (left n (suc k) images)) (singles_from n k (between n (suc k) images))
    (turned (suc k) (left n (suc k) images)) (λ v. get_or (between n (suc k) images) v 0) (single_does n (suc k) (left n (suc k) images) h lf) rest into in
    let abc = does_then n (single n (suc k) (left n (suc k) images) ++ singles_from n k (between n (suc k) images)) (single n (suc k) (right n (suc k) images))
    (λ v. get_or (between n (suc k) images) (turned (suc k) (left n (suc k) images) v) 0) (turned (suc k) (right n (suc k) images)) ab
    (single_does n (suc k) (right n (suc k) images) h rf) (λ v u. image_within n _ (between n (suc k) images) p2 (into v u)) in
    abc w len
    ∙ ap (λ y. word_of n (turned (suc k) (right n (suc k) images) y)) (between_at n (suc k) _ images (into (number_of w) lt))
    ∙ ap (λ v. word_of n (turned (suc k) (right n (suc k) images) (turned (suc k) (right n (suc k) images) (get_or images v 0)))) (turned_back n (suc k) (number_of w) (left n (suc k) images) lf lt)
    ∙ ap (word_of n) (turned_back n (suc k) (get_or images (number_of w) 0) (right n (suc k) images) rf (image_within n (number_of w) images p lt))

-- ---- the whole

pub keeps_none : (n : ℕ) (images : List ℕ) → KeepsAbove n (n - 1) images
keeps_none n images i x low high l = absurd (omega arith)

pub all_compute : (n : ℕ) (images : List ℕ) → IsPerm n images → Computes n (singles n images) images
all_compute n images p = singles_compute n (n - 1) images p (omega (arith, p.0)) (keeps_none n images)

pub all_flips : (n : ℕ) (images : List ℕ) → IsPerm n images → AreFlips n (2 * n - 1) ((2 * n - 1) * 2 ^ (n - 1)) (singles n images)
all_flips n images p =
    let some = p.0 in
    let e : 2 * (n - 1) + 1 ≡ 2 * n - 1 = omega arith in
    let P : ℕ → Type 0 = λ m. AreFlips n m (m * 2 ^ (n - 1)) (singles n images) in
    subst P e (singles_flips n (n - 1) images p (omega (arith, p.0)) (keeps_none n images))

-- on 16 lines at most 1015808
pub most_gates : (n : ℕ) → n ≤ 16 → (2 * n - 1) * 2 ^ (n - 1) ≤ 2 ^ 20
most_gates n h =
    let p : 2 ^ (n - 1) ≤ 2 ^ 15 = pow_mono {i = n - 1} {j = 15} (omega arith) in
    let a : (2 * n - 1) * 2 ^ (n - 1) ≤ 31 * 2 ^ (n - 1) = mul-le-mul_right (2 ^ (n - 1)) (omega arith) in
    omega (arith, a, p)
