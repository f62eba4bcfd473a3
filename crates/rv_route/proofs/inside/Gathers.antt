-- The positions that pass a test gather: the moves lead them to a block of positions, and no others there.
use Rattle.std.proofs.Common.{◌≡◌, ℕ, zero, suc, ◌+◌, ◌-◌, ◌<◌, ◌≤◌, ◌⊎◌, Bool, true, false, cond, List, [], ◌∷◌, ◌++◌, length, get_or, take, drop, refl, sym, ◌∙◌, ap, inl, inr, arith, subst, add-one}
use Rattle.std.proofs.lemmas.Bool.{cases_eq, false≢true}
use Rattle.std.specs.List.{filter, range_with_len}
use Rattle.rv_route.specs.Moves.{swaps_up, swaps_down, moves_up, moves_down, middle, gathering}
use Rattle.rv_route.specs.inside.Standing.{AreAscending, shifted}
use Rattle.rv_route.proofs.inside.Moving.{travels, travels-append, travels_rise, travels_fall, shifted-at, shifted-below, shifted-above, shifted-down}

AreAscending-weaker : (low n : ℕ) (ps : List ℕ) → AreAscending (low + 1) n ps → AreAscending low n ps
AreAscending-weaker low n [] h = tt
AreAscending-weaker low n (p ∷ rest) h = (omega (arith, h.0), h.1, h.2)

module _ (f : ℕ → Bool) where
  -- the positions that pass, of d from low on
  abbrev pub passing : ℕ → ℕ → List ℕ
  passing low d = filter f (range_with_len low d)

  pub passing_ascend : (low d n : ℕ) → low + d ≡ n → AreAscending low n (passing low d)
  passing_ascend low zero n e = tt
  passing_ascend low (suc d) n e = by_test (f low) (passing_ascend (low + 1) d n (omega arith))
    where
      by_test : (b : Bool) → AreAscending (low + 1) n (passing (low + 1) d) → AreAscending low n (cond b (low ∷ passing (low + 1) d) (passing (low + 1) d))
      by_test true rest = (omega arith, omega arith, rest)
      by_test false rest = AreAscending-weaker low n (passing (low + 1) d) rest

  pub few : (low d : ℕ) → length (passing low d) ≤ d
  few low zero = omega arith
  few low (suc d) = by_test (f low) (few (low + 1) d)
    where
      by_test : (b : Bool) → length (passing (low + 1) d) ≤ d → length (cond b (low ∷ passing (low + 1) d) (passing (low + 1) d)) ≤ suc d
      by_test true rest = omega arith
      by_test false rest = omega arith

  pub some_pass : (low d q : ℕ) → low ≤ q → q < low + d → f q ≡ true → 0 < length (passing low d)
  some_pass low zero q from to on = absurd (omega arith)
  some_pass low (suc d) q from to on =
      elim (cases_eq q low) [
        | inl at ↦ rw (ap f (sym at) ∙ on) (omega arith)
        | inr other ↦ by_test (f low) (some_pass (low + 1) d q (omega arith) (omega arith) on)
      ]
    where
      by_test : (b : Bool) → 0 < length (passing (low + 1) d) → 0 < length (cond b (low ∷ passing (low + 1) d) (passing (low + 1) d))
      by_test true rest = omega arith
      by_test false rest = rest

  neither : (b : Bool) → b ≡ true → b ≡ false → ⊥
  neither b on off = false≢true (sym off ∙ on)

  -- ---- up and down

  -- where positions from low on, below top, are led: m of them to right below top
  record Up (low top m : ℕ) (to : ℕ → ℕ) : Type 0 where
    below : (q : ℕ) → q < low → to q ≡ q
    above : (q : ℕ) → top ≤ q → to q ≡ q
    on : (q : ℕ) → low ≤ q → q < top → f q ≡ true → (top ≤ to q + m) × (to q < top)
    off : (q : ℕ) → low ≤ q → q < top → f q ≡ false → (low ≤ to q) × (to q + m < top)

  up : (low d top : ℕ) → low + d ≡ top → Up low top (length (passing low d)) (travels (moves_up (passing low d) top))
  unfolding moves_up travels
  up low zero top e = record {
    below = λ q l. refl;
    above = λ q l. refl;
    on = λ q l m o. absurd (omega arith);
    off = λ q l m o. absurd (omega arith);
  }
  up low (suc d) top e = by_test (f low) refl (few (low + 1) d) (up (low + 1) d top (omega arith))
    where
      by_test : (b : Bool) → f low ≡ b → length (passing (low + 1) d) ≤ d
          → Up (low + 1) top (length (passing (low + 1) d)) (travels (moves_up (passing (low + 1) d) top))
          → Up low top (length (cond b (low ∷ passing (low + 1) d) (passing (low + 1) d)))
          (travels (moves_up (cond b (low ∷ passing (low + 1) d) (passing (low + 1) d)) top))
      by_test true here small w =
          let rest : List ℕ = passing (low + 1) d in
          let m : ℕ = length rest in
          let first : ℕ → ℕ = travels (moves_up rest top) in
          let goal : ℕ = top - suc m in
          let is : (q : ℕ) → travels (moves_up rest top ++ swaps_up low goal) q ≡ shifted low goal (first q) =
          λ q. travels-append (moves_up rest top) (swaps_up low goal) q ∙ travels_rise low goal (first q) (omega arith) in
          record {
            below = λ q l. grind (arith, is q, w.below q);
            above = λ q l. grind (arith, is q, w.above q);
            on = λ q l t o. (grind (arith, is q, w.below q, w.on q), grind (arith, is q, w.below q, w.on q));
            off = λ q l t o. (grind (arith, is q, w.below q, w.off q), grind (arith, is q, w.below q, w.off q));
          }
      by_test false here small w = record {
        below = λ q l. w.below q (omega arith);
        above = w.above;
        on = λ q l t o. (grind (arith, w.on q), grind (arith, w.on q));
        off = λ q l t o. (grind (arith, w.below q, w.off q), grind (arith, w.below q, w.off q));
      }

  -- where positions above bottom, below high, are led: m of those from low on to right above bottom
  record Down (bottom low high m : ℕ) (to : ℕ → ℕ) : Type 0 where
    below : (q : ℕ) → q ≤ bottom → to q ≡ q
    kept : (q : ℕ) → bottom < q → q < low → bottom + m < to q
    on : (q : ℕ) → low ≤ q → q < high → f q ≡ true → (bottom < to q) × (to q ≤ bottom + m)
    off : (q : ℕ) → low ≤ q → q < high → f q ≡ false → bottom + m < to q

  down : (low d bottom high : ℕ) → low + d ≡ high → bottom < low → Down bottom low high (length (passing low d)) (travels (moves_down (passing low d) bottom))
  unfolding moves_down travels
  down low zero bottom high e b = record {
    below = λ q l. refl;
    kept = λ q l t. omega arith;
    on = λ q l t o. absurd (omega arith);
    off = λ q l t o. absurd (omega arith);
  }
  down low (suc d) bottom high e b =
      by_test (f low) refl (down (low + 1) d (bottom + 1) high (omega arith) (omega arith)) (down (low + 1) d bottom high (omega arith) (omega arith))
    where
      by_test : (t : Bool) → f low ≡ t → Down (bottom + 1) (low + 1) high (length (passing (low + 1) d)) (travels (moves_down (passing (low + 1) d) (bottom + 1)))
          → Down bottom (low + 1) high (length (passing (low + 1) d)) (travels (moves_down (passing (low + 1) d) bottom))
          → Down bottom low high (length (cond t (low ∷ passing (low + 1) d) (passing (low + 1) d)))
          (travels (moves_down (cond t (low ∷ passing (low + 1) d) (passing (low + 1) d)) bottom))
      by_test true here w v =
          let rest : List ℕ = passing (low + 1) d in
          let then : ℕ → ℕ = travels (moves_down rest (bottom + 1)) in
          let all : ℕ → ℕ = travels (swaps_down low (bottom + 1) ++ moves_down rest (bottom + 1)) in
          let is : (q p : ℕ) → shifted low (bottom + 1) q ≡ p → all q ≡ then p =
          λ q p z. travels-append (swaps_down low (bottom + 1)) (moves_down rest (bottom + 1)) q ∙ ap then (travels_fall low (bottom + 1) q (omega arith) ∙ z) in
          record {
            below = λ q l. is q q (shifted-below low (bottom + 1) q (omega arith) (omega arith)) ∙ w.below q (omega arith);
            kept = λ q l t. (let z = is q (q + 1) (shifted-down low (bottom + 1) q (omega arith) t) in let k = w.kept (q + 1) (omega arith) (omega arith) in omega arith);
            on = λ q l t o.
                (elim (cases_eq q low) [
                  | inl at ↦
                      (let z : all q ≡ bottom + 1 = is q (bottom + 1) (ap (shifted low (bottom + 1)) at ∙ shifted-at low (bottom + 1)) ∙ w.below (bottom + 1) (omega arith) in
                      (omega arith, omega arith))
                  | inr other ↦
                      (let z = is q q (shifted-above low (bottom + 1) q (omega arith) (omega arith)) in let k = w.on q (omega arith) t o in (omega arith, omega arith))
                ]);
            off = λ q l t o.
                (elim (cases_eq q low) [
                  | inl at ↦ absurd (neither (f q) (ap f at ∙ here) o)
                  | inr other ↦ (let z = is q q (shifted-above low (bottom + 1) q (omega arith) (omega arith)) in let k = w.off q (omega arith) t o in omega arith)
                ]);
          }
      by_test false here w v = record {
        below = v.below;
        kept = λ q l t. v.kept q l (omega arith);
        on = λ q l t o. (grind (arith, v.on q), grind (arith, v.on q));
        off = λ q l t o. grind (arith, v.kept q, v.off q);
      }

  -- ---- around one of them

  record Cut (low n k : ℕ) (ps : List ℕ) : Type 0 where
    from : low ≤ get_or ps k 0
    within : get_or ps k 0 < n
    passes : f (get_or ps k 0) ≡ true
    first : take k ps ≡ passing low (get_or ps k 0 - low)
    last : drop (suc k) ps ≡ passing (get_or ps k 0 + 1) (n - (get_or ps k 0 + 1))

  cut : (low d n k : ℕ) → low + d ≡ n → k < length (passing low d) → Cut low n k (passing low d)
  cut low zero n k e lt = absurd (omega arith)
  cut low (suc d) n k e lt = by_test (cut (low + 1) d n) (f low) refl k lt
    where
      longer : (b : Bool) → f low ≡ b → (c : ℕ) → low + 1 ≤ c → cond b (low ∷ passing (low + 1) (c - (low + 1))) (passing (low + 1) (c - (low + 1))) ≡ passing low (c - low)
      longer b e c le =
          let z : suc (c - (low + 1)) ≡ c - low = omega arith in
          ap (λ t. cond t (low ∷ passing (low + 1) (c - (low + 1))) (passing (low + 1) (c - (low + 1)))) (sym e) ∙ ap (passing low) z

      by_test : ((k : ℕ) → low + 1 + d ≡ n → k < length (passing (low + 1) d) → Cut (low + 1) n k (passing (low + 1) d))
          → (b : Bool) → f low ≡ b → (k : ℕ) → k < length (cond b (low ∷ passing (low + 1) d) (passing (low + 1) d))
          → Cut low n k (cond b (low ∷ passing (low + 1) d) (passing (low + 1) d))
      by_test rest true here zero lt =
          let none : 0 ≡ low - low = omega arith in
          let all : d ≡ n - (low + 1) = omega arith in
          record { from = omega arith; within = omega arith; passes = here; first = ap (passing low) none; last = ap (passing (low + 1)) all }
      by_test rest true here (suc k) lt =
          let c = rest k (omega arith) (omega arith) in
          record {
            from = omega (arith, c.from);
            within = c.within;
            passes = c.passes;
            first = ap (λ l. low ∷ l) c.first ∙ longer true here (get_or (passing (low + 1) d) k 0) c.from;
            last = c.last;
          }
      by_test rest false here k lt =
          let c = rest k (omega arith) lt in
          record {
            from = omega (arith, c.from);
            within = c.within;
            passes = c.passes;
            first = c.first ∙ longer false here (get_or (passing (low + 1) d) k 0) c.from;
            last = c.last;
          }

  -- the positions that pass are led to a block, from lo to hi, and no others there
  pub record Block (n lo hi : ℕ) (to : ℕ → ℕ) : Type 0 where
    pub on : (q : ℕ) → q < n → f q ≡ true → (lo ≤ to q) × (to q ≤ hi)
    pub off : (q : ℕ) → q < n → f q ≡ false → (to q < lo) ⊎ (hi < to q)

  pub gathered : (n : ℕ) → 0 < length (passing 0 n) → (lo : ℕ) × (hi : ℕ) × Block n lo hi (travels (gathering (passing 0 n)))
  gathered n some =
      let ps : List ℕ = passing 0 n in
      let k : ℕ = middle (length ps) in
      let c : ℕ = get_or ps k 0 in
      let z = cut 0 n n k (omega arith) (omega arith) in
      let P : List ℕ → Type 0 = λ l. Up 0 c (length l) (travels (moves_up l c)) in
      let Q : List ℕ → Type 0 = λ l. Down c (c + 1) n (length l) (travels (moves_down l c)) in
      let below : List ℕ = take k ps in
      let behind : List ℕ = drop (k + 1) ps in
      let u : Up 0 c (length below) (travels (moves_up below c)) = subst P (sym z.first) (up 0 (c - 0) c (omega arith)) in
      let rest : behind ≡ passing (c + 1) (n - (c + 1)) = ap (λ i. drop i ps) (add-one k) ∙ z.last in
      let v : Down c (c + 1) n (length behind) (travels (moves_down behind c)) = subst Q (sym rest) (down (c + 1) (n - (c + 1)) c n (omega (arith, z.within)) (omega arith)) in
      let first : ℕ → ℕ = travels (moves_up below c) in
      let then : ℕ → ℕ = travels (moves_down behind c) in
      let is : (q : ℕ) → travels (gathering ps) q ≡ then (first q) = λ q. travels-append (moves_up below c) (moves_down behind c) q in (
        c - length below,
        c + length behind,
        record {
          on = λ q lt o. (grind (arith, is q, u.above q, u.on q, v.below, v.on q), grind (arith, is q, u.above q, u.on q, v.below, v.on q));
          off = λ q lt o. grind (arith, is q, z.passes, u.above q, u.off q, v.below, v.off q);
        },
      )
