-- A step on the outputs, and gates reversed.
use Rattle.std.proofs.Common.{◌≡◌, ℕ, ◌+◌, ◌^◌, ◌<◌, ◌≤◌, Bool, List, [], ◌∷◌, length, map, reverse, get_or, refl, sym, ◌∙◌, ap, subst, inl, inr, arith, ext_get_or}
use Rattle.std.proofs.lemmas.Bool.{cases_lt}
use Rattle.std.proofs.lemmas.Simd.{map-map}
use Rattle.std.proofs.lemmas.List.{length-map, get_or-map, reverse-append}
use Rattle.rv_gate.specs.Word.{number_of, word_of}
use Rattle.rv_gate.specs.inside.laws.WordLaws.{length-word_of, number_of-word_of_small, word_of-number_of}
use Rattle.rv_gate.specs.declared.word.TheConstants.{MOST_LINES}
use Rattle.rv_gate.specs.Gate.{act, run, act_on_number, run_on_number}
use Rattle.rv_gate.specs.declared.gate.Shape.{Shape}
use Rattle.rv_gate.proofs.inside.GateLemmas.{length-act, length-run, run-append, act_twice, word_of-act_on_number}
use Rattle.rv_perm.specs.Perm.{IsPerm}
use Rattle.rv_perm.proofs.Images.{perm_moved}
use Rattle.rv_tbs.specs.Synthesis.{turning, step_gates}
use Rattle.rv_tbs.specs.inside.Fixed.{FixedBelow}
use Rattle.rv_tbs.proofs.Turning.{Flips, turn_turns, turning_flips}

-- ---- gates on all images

pub word_of-run : (gates : List Shape) (n x : ℕ) → word_of n (run_on_number gates n x) ≡ run gates (word_of n x)
word_of-run gates n x =
    let v : List Bool = run gates (word_of n x) in
    let len : length v ≡ n = length-run gates (word_of n x) ∙ length-word_of n x in
    ap (λ k. word_of k (number_of v)) (sym len) ∙ word_of-number_of v

pub map_run_cons : (g : Shape) (gates : List Shape) (n : ℕ) (images : List ℕ)
    → map (run_on_number gates n) (map (act_on_number g n) images) ≡ map (run_on_number (g ∷ gates) n) images
map_run_cons g gates n images = grind (arith, map-map, run_on_number, act_on_number, number_of, word_of-act_on_number)

pub map_run_none : (n : ℕ) (images : List ℕ) → IsPerm n images → map (run_on_number [] n) images ≡ images
map_run_none n images p =
    ext_get_or 0 _ _ (length-map images (run_on_number [] n))
    (λ i h.
    let within : i < length images = omega (arith, length-map images (run_on_number [] n)) in
    let lt : get_or images i 0 < 2 ^ n = rw (← p.2) (p.3.0 i within) in
    get_or-map (run_on_number [] n) images i 0 0 within ∙ number_of-word_of_small n _ lt)

pub perm_run : (gates : List Shape) (n : ℕ) (images : List ℕ) → Flips n gates → IsPerm n images → IsPerm n (map (run_on_number gates n) images)
perm_run [] n images f p = let P : List ℕ → Type 0 = λ l. IsPerm n l in subst P (sym (map_run_none n images p)) p
perm_run (g ∷ gates) n images f p =
    let P : List ℕ → Type 0 = λ l. IsPerm n l in
    subst P (map_run_cons g gates n images) (perm_run gates n (map (act_on_number g n) images) f.1 (perm_moved g n images f.0.0 f.0.1 f.0.2 p))

-- ---- one step

pub image_above : (n k : ℕ) (images : List ℕ) → IsPerm n images → FixedBelow k images → k < 2 ^ n → k ≤ get_or images k 0
image_above n k images p fixed lt =
    elim (cases_lt (get_or images k 0) k) [
      | inl below ↦ absurd (p.3.1 (get_or images k 0) k below (omega (arith, p.2)) (fixed (get_or images k 0) below))
      | inr above ↦ above
    ]

-- the gates of a step are flips on its lines
pub step_flips : (n k x : ℕ) → n ≤ MOST_LINES → Flips n (turning (word_of n k) (word_of n x))
step_flips n k x small =
    let len : length (word_of n k) ≡ n = length-word_of n k in
    let F : ℕ → Type 0 = λ c. Flips c (turning (word_of n k) (word_of n x)) in
    subst F len (turning_flips (word_of n k) (word_of n x) (omega (arith, len)) (length-word_of n x ∙ sym len))

pub record Step (n k : ℕ) (images : List ℕ) (gates : List Shape) : Type 0 where
  pub flips : Flips n gates
  pub few : length gates ≤ n
  pub perm : IsPerm n (map (run_on_number gates n) images)
  pub fixed : FixedBelow (k + 1) (map (run_on_number gates n) images)

pub step_does : (n k : ℕ) (images : List ℕ) → IsPerm n images → FixedBelow k images → k < 2 ^ n → Step n k images (step_gates n k images)
step_does n k images p fixed lt =
    let j : ℕ = get_or images k 0 in
    let k_in : k < length images = omega (arith, p.2) in
    let jlt : j < 2 ^ n = rw (← p.2) (p.3.0 k k_in) in
    let goal : List Bool = word_of n k in
    let w : List Bool = word_of n j in
    let gl : length goal ≡ n = length-word_of n k in
    let wl : length w ≡ n = length-word_of n j in
    let gk : number_of goal ≡ k = number_of-word_of_small n k lt in
    let wj : number_of w ≡ j = number_of-word_of_small n j jlt in
    let le : k ≤ j = image_above n k images p fixed lt in
    let t = turn_turns goal w (wl ∙ sym gl) (omega arith) in
    let gates : List Shape = turning goal w in
    let flips = step_flips n k j (omega (arith, p.1)) in
    record {
      flips = flips;
      few = omega (arith, t.few);
      perm = perm_run gates n images flips p;
      fixed = λ y h.
          let y_in : y < length images = omega arith in
          get_or-map (run_on_number gates n) images y 0 0 y_in
          ∙ (elim (cases_lt y k) as (λ _. run_on_number gates n (get_or images y 0) ≡ y) [
            | inl below ↦
                let ylt : y < 2 ^ n = omega arith in
                let yy : number_of (word_of n y) ≡ y = number_of-word_of_small n y ylt in
                ap (run_on_number gates n) (fixed y below)
                ∙ ap number_of (t.spared (word_of n y) (length-word_of n y ∙ sym gl) (omega arith))
                ∙ yy
            | inr last ↦
                let at : y ≡ k = omega arith in
                rw at (ap number_of t.reached ∙ gk)
          ]);
    }

-- ---- gates reversed

pub run_reverse : (n : ℕ) (gates : List Shape) (w : List Bool) → Flips n gates → length w ≡ n → run (reverse gates) (run gates w) ≡ w
run_reverse n [] w f len = refl
run_reverse n (g ∷ gates) w f len =
    ap (λ r. run r (run gates (act g w))) (reverse-append (g ∷ []) gates)
    ∙ run-append (reverse gates) (g ∷ []) (run gates (act g w))
    ∙ ap (act g) (run_reverse n gates (act g w) f.1 (length-act g w ∙ len))
    ∙ act_twice g n w f.0.0 f.0.1 f.0.2 len
