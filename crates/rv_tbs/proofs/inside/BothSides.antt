-- Gates on the inputs and on the outputs meet, and compute the permutation.
use Rattle.std.proofs.lemmas.Grind.{common_steps}
use Rattle.std.proofs.Common.{◌≡◌, ℕ, zero, suc, ◌+◌, ◌*◌, ◌^◌, ◌<◌, ◌≤◌, Bool, true, false, List, [], ◌∷◌, ◌++◌, length, map, reverse, get_or, drop, refl, sym, ◌∙◌, ap, subst, inl, inr, arith, add-one, length-append}
use Rattle.std.proofs.lemmas.Bool.{cases_lt, cases_Bool, cond-true, cond-false}
use Rattle.std.proofs.lemmas.List.{get_or-map, reverse-append, reverse-reverse, length-reverse, drop_more, drop_all}
use Rattle.rv_gate.specs.Word.{number_of, word_of}
use Rattle.rv_gate.specs.inside.laws.WordLaws.{length-word_of, number_of-lt, number_of-word_of_small, word_of-number_of}
use Rattle.rv_gate.specs.Gate.{run, act_on_number, run_on_number, IsFlipOn}
use Rattle.rv_gate.specs.declared.gate.Shape.{Shape}
use Rattle.rv_gate.proofs.inside.GateLemmas.{length-run, run-append}
use Rattle.rv_perm.specs.Perm.{IsPerm, Computes, preimage_of, reindexed}
use Rattle.rv_perm.proofs.inside.Inverse.{onto, place_once, preimage_of-is, length-reindexed, get_or-reindexed}
use Rattle.rv_tbs.specs.Synthesis.{turning, step_gates, in_step_gates, applied_in, is_inward, Sides, sides, step, after, never, out_gates, both_gates}
use Rattle.rv_tbs.specs.inside.Fixed.{FixedBelow}
use Rattle.rv_tbs.proofs.Turning.{Flips, turn_turns}
use Rattle.rv_tbs.proofs.inside.OutGates.{word_of-run, step_does, step_flips, run_reverse}
use Rattle.rv_gate.proofs.Every.{every_append, every_reverse}

-- ---- gates on the inputs

pub run_on_number-lt : (gates : List Shape) (n x : ℕ) → run_on_number gates n x < 2 ^ n
run_on_number-lt gates n x = grind (arith, word_of, length-run, length-word_of, number_of-lt)

-- going through the gates and back
run_back : (n : ℕ) (gates : List Shape) (x : ℕ) → Flips n gates → x < 2 ^ n → run_on_number (reverse gates) n (run_on_number gates n x) ≡ x
run_back n gates x f lt =
    grind (arith, number_of, word_of-run, run_reverse, word_of, length-word_of, number_of-word_of_small)

run_forth : (n : ℕ) (gates : List Shape) (x : ℕ) → Flips n gates → x < 2 ^ n → run_on_number gates n (run_on_number (reverse gates) n x) ≡ x
run_forth n gates x f lt =
    ap (λ g. run_on_number g n (run_on_number (reverse gates) n x)) (sym (reverse-reverse gates)) ∙ run_back n (reverse gates) x (every_reverse (IsFlipOn n) gates f) lt

pub length-applied_in : (gates : List Shape) (n : ℕ) (images : List ℕ) → length (applied_in gates n images) ≡ length images
unfolding applied_in
length-applied_in [] n images = refl
length-applied_in (g ∷ gates) n images = length-applied_in gates n (reindexed (act_on_number g n) images) ∙ length-reindexed (act_on_number g n) images

run_on_number-reverse : (g : Shape) (gates : List Shape) (n x : ℕ) → act_on_number g n (run_on_number (reverse gates) n x) ≡ run_on_number (reverse (g ∷ gates)) n x
run_on_number-reverse g gates n x =
    grind (arith, common_steps, number_of, word_of-run, run-append, word_of, run_on_number, reverse-append)

-- the image of x is that of the word from which the gates go to x
pub get_or-applied_in : (gates : List Shape) (n : ℕ) (images : List ℕ) (x : ℕ) → length images ≡ 2 ^ n → x < 2 ^ n
    → get_or (applied_in gates n images) x 0 ≡ get_or images (run_on_number (reverse gates) n x) 0
unfolding applied_in
get_or-applied_in [] n images x len lt = ap (λ y. get_or images y 0) (sym (number_of-word_of_small n x lt))
get_or-applied_in (g ∷ gates) n images x len lt =
    let y : ℕ = run_on_number (reverse gates) n x in
    let y_in : y < 2 ^ n = run_on_number-lt (reverse gates) n x in
    get_or-applied_in gates n (reindexed (act_on_number g n) images) x (length-reindexed (act_on_number g n) images ∙ len) lt
    ∙ get_or-reindexed (act_on_number g n) images y (omega arith)
    ∙ ap (λ z. get_or images z 0) (run_on_number-reverse g gates n x)

pub IsPerm-applied_in : (n : ℕ) (gates : List Shape) (images : List ℕ) → Flips n gates → IsPerm n images → IsPerm n (applied_in gates n images)
IsPerm-applied_in n gates images f p =
    let len = length-applied_in gates n images in
    let within : (x : ℕ) → run_on_number (reverse gates) n x < length images = λ x. let r = run_on_number-lt (reverse gates) n x in omega (arith, p.2) in (
      p.0,
      p.1,
      len ∙ p.2,
      (
        λ x h.
            let lt : x < 2 ^ n = omega (arith, p.2) in
            let b = p.3.0 (run_on_number (reverse gates) n x) (within x) in
            omega (arith, get_or-applied_in gates n images x p.2 lt),
        λ x y l h e.
            let hy : y < 2 ^ n = omega (arith, p.2) in
            let hx : x < 2 ^ n = omega arith in
            let at = place_once images (run_on_number (reverse gates) n x) (run_on_number (reverse gates) n y) p.3 (within x) (within y)
            (sym (get_or-applied_in gates n images x p.2 hx) ∙ e ∙ get_or-applied_in gates n images y p.2 hy) in
            let xy : x ≡ y = sym (run_forth n gates x f hx) ∙ ap (run_on_number gates n) at ∙ run_forth n gates y f hy in
            omega arith,
      ),
    )

-- ---- a step on the inputs

-- the word that goes to k
pub source_is : (n k : ℕ) (images : List ℕ) → IsPerm n images → k < 2 ^ n → (preimage_of images k < 2 ^ n) × (get_or images (preimage_of images k) 0 ≡ k)
source_is n k images p lt =
    let o = onto n images k p lt in
    let e : preimage_of images k ≡ o.0 = preimage_of-is images o.0 k p.3.1 (omega (arith, p.2, o.1)) o.2 in
    (omega (arith, o.1), ap (λ x. get_or images x 0) e ∙ o.2)

pub record Inward (n k : ℕ) (images : List ℕ) (gates : List Shape) : Type 0 where
  pub flips : Flips n gates
  pub few : length gates ≤ n
  pub perm : IsPerm n (applied_in gates n images)
  pub fixed : FixedBelow (k + 1) (applied_in gates n images)

inward_from : (n k w : ℕ) (images : List ℕ) → IsPerm n images → FixedBelow k images → k < 2 ^ n → w < 2 ^ n → get_or images w 0 ≡ k
    → Inward n k images (turning (word_of n k) (word_of n w))
inward_from n k w images p fixed lt wlt wk =
    let goal : List Bool = word_of n k in
    let v : List Bool = word_of n w in
    let gl : length goal ≡ n = length-word_of n k in
    let vl : length v ≡ n = length-word_of n w in
    let gk : number_of goal ≡ k = number_of-word_of_small n k lt in
    let vw : number_of v ≡ w = number_of-word_of_small n w wlt in
    let le : k ≤ w = elim (cases_lt w k) [ inl less ↦ (let e = fixed w less in absurd (omega arith)) | inr ge ↦ ge ] in
    let t = turn_turns goal v (vl ∙ sym gl) (omega arith) in
    let gates : List Shape = turning goal v in
    let flips = step_flips n k w (omega (arith, p.1)) in
    record {
      flips = flips;
      few = omega (arith, t.few);
      perm = IsPerm-applied_in n gates images flips p;
      fixed = λ y h.
          let ylt : y < 2 ^ n = omega arith in
          get_or-applied_in gates n images y p.2 ylt
          ∙ (elim (cases_lt y k) as (λ _. get_or images (run_on_number (reverse gates) n y) 0 ≡ y) [
            | inl below ↦
                let yy : number_of (word_of n y) ≡ y = number_of-word_of_small n y ylt in
                let stays : run_on_number gates n y ≡ y = ap number_of (t.spared (word_of n y) (length-word_of n y ∙ sym gl) (omega arith)) ∙ yy in
                let back : run_on_number (reverse gates) n y ≡ y = ap (run_on_number (reverse gates) n) (sym stays) ∙ run_back n gates y flips ylt in
                ap (λ x. get_or images x 0) back ∙ fixed y below
            | inr last ↦
                let at : y ≡ k = omega arith in
                let to : run_on_number gates n w ≡ k = ap number_of t.reached ∙ gk in
                let back : run_on_number (reverse gates) n k ≡ w = ap (run_on_number (reverse gates) n) (sym to) ∙ run_back n gates w flips wlt in
                rw at (ap (λ x. get_or images x 0) back ∙ wk)
          ]);
    }

pub inward_does : (n k : ℕ) (images : List ℕ) → IsPerm n images → FixedBelow k images → k < 2 ^ n → Inward n k images (in_step_gates n k images)
inward_does n k images p fixed lt = let w = source_is n k images p lt in inward_from n k (preimage_of images k) images p fixed lt w.0 w.1

-- ---- the search

-- what holds between the permutation and what a search has found before step k
pub record Between (n k : ℕ) (images : List ℕ) (s : Sides) : Type 0 where
  pub perm : IsPerm n s.images
  pub fixed : FixedBelow k s.images
  pub ins : Flips n s.ins
  pub outs : Flips n s.outs
  pub few : length s.ins + length s.outs ≤ n * k
  pub meet : (y : ℕ) → y < 2 ^ n → run s.outs (word_of n (get_or images y 0)) ≡ word_of n (get_or s.images (run_on_number s.ins n y) 0)

between_none : (n : ℕ) (images : List ℕ) → IsPerm n images → Between n 0 images (sides images [] [])
between_none n images p = record {
  perm = p;
  fixed = λ y h. absurd (omega arith);
  ins = tt;
  outs = tt;
  few = omega arith;
  meet = λ y h. ap (λ x. word_of n (get_or images x 0)) (sym (number_of-word_of_small n y h));
}

between_in : (n k : ℕ) (images : List ℕ) (s : Sides) → k < 2 ^ n → Between n k images s
    → Between n (k + 1) images (sides (applied_in (in_step_gates n k s.images) n s.images) (s.ins ++ in_step_gates n k s.images) s.outs)
between_in n k images s lt b =
    let gates : List Shape = in_step_gates n k s.images in
    let i = inward_does n k s.images b.perm b.fixed lt in
    let times : n * (k + 1) ≡ n * k + n = omega arith in
    record {
      perm = i.perm;
      fixed = i.fixed;
      ins = every_append (IsFlipOn n) s.ins gates b.ins i.flips;
      outs = b.outs;
      few = omega (arith, b.few, i.few, length-append s.ins gates);
      meet = λ y h.
          let to : ℕ = run_on_number s.ins n y in
          let on : run_on_number (s.ins ++ gates) n y ≡ run_on_number gates n to =
          ap number_of (run-append s.ins gates (word_of n y)) ∙ ap (λ w. number_of (run gates w)) (sym (word_of-run s.ins n y)) in
          let at : get_or (applied_in gates n s.images) (run_on_number (s.ins ++ gates) n y) 0 ≡ get_or s.images to 0 =
          ap (λ x. get_or (applied_in gates n s.images) x 0) on
          ∙ get_or-applied_in gates n s.images (run_on_number gates n to) b.perm.2 (run_on_number-lt gates n to)
          ∙ ap (λ x. get_or s.images x 0) (run_back n gates to i.flips (run_on_number-lt s.ins n y)) in
          b.meet y h ∙ ap (word_of n) (sym at);
    }

between_out : (n k : ℕ) (images : List ℕ) (s : Sides) → k < 2 ^ n → Between n k images s
    → Between n (k + 1) images (sides (map (run_on_number (step_gates n k s.images) n) s.images) s.ins (s.outs ++ step_gates n k s.images))
between_out n k images s lt b =
    let gates : List Shape = step_gates n k s.images in
    let o = step_does n k s.images b.perm b.fixed lt in
    let times : n * (k + 1) ≡ n * k + n = omega arith in
    record {
      perm = o.perm;
      fixed = o.fixed;
      ins = b.ins;
      outs = every_append (IsFlipOn n) s.outs gates b.outs o.flips;
      few = omega (arith, b.few, o.few, length-append s.outs gates);
      meet = λ y h.
          let to : ℕ = run_on_number s.ins n y in
          let to_in : to < length s.images = let lt2 = run_on_number-lt s.ins n y in omega (arith, b.perm.2) in
          run-append s.outs gates (word_of n (get_or images y 0))
          ∙ ap (run gates) (b.meet y h)
          ∙ sym (word_of-run gates n (get_or s.images to 0))
          ∙ ap (word_of n) (sym (get_or-map (run_on_number gates n) s.images to 0 0 to_in));
    }

between_more : (inward : ℕ → List ℕ → Bool) (n k : ℕ) (images : List ℕ) (s : Sides) → k < 2 ^ n → Between n k images s → Between n (k + 1) images (step inward n k s)
unfolding step
between_more inward n k images s lt b =
    let P : Sides → Type 0 = Between n (k + 1) images in
    elim (cases_Bool (inward k s.images)) [
      | inl on ↦ subst P (sym (cond-true (inward k s.images) _ _ on)) (between_in n k images s lt b)
      | inr off ↦ subst P (sym (cond-false (inward k s.images) _ _ off)) (between_out n k images s lt b)
    ]

pub between_after : (inward : ℕ → List ℕ → Bool) (n : ℕ) (images : List ℕ) → IsPerm n images → (k : ℕ) → k ≤ 2 ^ n
    → Between n k images (after inward n images k)
unfolding after
between_after inward n images p zero h = between_none n images p
between_after inward n images p (suc k) h =
    let next : k + 1 ≡ suc k = omega arith in
    subst (λ i. Between n i images (step inward n k (after inward n images k))) next
    (between_more inward n k images (after inward n images k) (omega arith) (between_after inward n images p k (omega arith)))

-- ---- the circuit

-- what the gates of a synthesis are to the permutation
pub record Synthesizes (n : ℕ) (images : List ℕ) (gates : List Shape) : Type 0 where
  pub flips : Flips n gates
  pub few : length gates ≤ n * 2 ^ n
  pub computes : Computes n gates images

joined : (n : ℕ) (images : List ℕ) (s : Sides) → Between n (2 ^ n) images s → Synthesizes n images (s.ins ++ reverse s.outs)
joined n images s b = record {
  flips = every_append (IsFlipOn n) s.ins (reverse s.outs) b.ins (every_reverse (IsFlipOn n) s.outs b.outs);
  few = omega (arith, b.few, length-append s.ins (reverse s.outs), length-reverse s.outs);
  computes = λ w len.
      let y : ℕ = number_of w in
      let lt : y < 2 ^ n = rw len at (number_of-lt w) in
      let image : List Bool = word_of n (get_or images y 0) in
      let w_is : w ≡ word_of n y = sym (word_of-number_of w) ∙ ap (λ k. word_of k y) len in
      let to : run s.ins w ≡ run s.outs image =
      ap (run s.ins) w_is ∙ sym (word_of-run s.ins n y)
      ∙ ap (word_of n) (sym (b.fixed (run_on_number s.ins n y) (run_on_number-lt s.ins n y)))
      ∙ sym (b.meet y lt) in
      run-append s.ins (reverse s.outs) w ∙ ap (run (reverse s.outs)) to ∙ run_reverse n s.outs image b.outs (length-word_of n _);
}

pub both_synthesizes : (n : ℕ) (images : List ℕ) → IsPerm n images → Synthesizes n images (both_gates n images)
unfolding both_gates
both_synthesizes n images p = joined n images _ (between_after is_inward n images p (2 ^ n) (omega arith))

never_ins : (n : ℕ) (images : List ℕ) (k : ℕ) → (after never n images k).ins ≡ []
unfolding after step
never_ins n images zero = refl
never_ins n images (suc k) = never_ins n images k

pub out_synthesizes : (n : ℕ) (images : List ℕ) → IsPerm n images → Synthesizes n images (out_gates n images)
unfolding out_gates
out_synthesizes n images p =
    subst (Synthesizes n images) (ap (λ ins. ins ++ reverse (after never n images (2 ^ n)).outs) (never_ins n images (2 ^ n)))
    (joined n images _ (between_after never n images p (2 ^ n) (omega arith)))

-- ---- the loops against the definitions

pub applied_in-more : (gates : List Shape) (i : ℕ) (g : Shape) (n n' : ℕ) (images images' all : List ℕ)
    → i < length gates → g ≡ get_or gates i g → n' ≡ n → images' ≡ reindexed (act_on_number g n) images
    → applied_in (drop i gates) n images ≡ all → applied_in (drop (i + 1) gates) n' images' ≡ all
unfolding applied_in
applied_in-more gates i g n n' images images' all within read lines acted h = grind (arith, drop_more, applied_in)

pub applied_in-all : (gates : List Shape) (i n : ℕ) (images all : List ℕ) → length gates ≤ i → applied_in (drop i gates) n images ≡ all → images ≡ all
unfolding applied_in
applied_in-all gates i n images all past h = ap (λ l. applied_in l n images) (sym (drop_all i gates past)) ∙ h

-- one more step
pub step_in : (inward : ℕ → List ℕ → Bool) (n k : ℕ) (images images' : List ℕ) (ins ins' outs : List Shape) (b : Bool) → b ≡ inward k images → b ≡ true
    → images' ≡ applied_in (in_step_gates n k images) n images → ins' ≡ ins ++ in_step_gates n k images
    → sides images' ins' outs ≡ step inward n k (sides images ins outs)
unfolding step
step_in inward n k images images' ins ins' outs b test on acted pushed =
    rw (acted, pushed) (sym (cond-true (inward k images) _ _ (sym test ∙ on)))

pub step_out : (inward : ℕ → List ℕ → Bool) (n k : ℕ) (images images' : List ℕ) (ins outs outs' : List Shape) (b : Bool) → b ≡ inward k images → b ≡ false
    → images' ≡ map (run_on_number (step_gates n k images) n) images → outs' ≡ outs ++ step_gates n k images
    → sides images' ins outs' ≡ step inward n k (sides images ins outs)
unfolding step
step_out inward n k images images' ins outs outs' b test off acted pushed =
    rw (acted, pushed) (sym (cond-false (inward k images) _ _ (sym test ∙ off)))

pub after_more : (inward : ℕ → List ℕ → Bool) (n : ℕ) (images : List ℕ) (k : ℕ) → after inward n images (k + 1) ≡ step inward n k (after inward n images k)
unfolding after
after_more inward n images k = rw (add-one k) refl
