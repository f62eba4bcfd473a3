-- What swaps of neighbours do to a placement.
use Rattle.std.proofs.lemmas.Grind.{common_steps}
use Rattle.std.proofs.Common.{◌≡◌, ◌≢◌, ℕ, ◌+◌, ◌<◌, cond, eqb, List, [], ◌∷◌, ◌++◌, length, get_or, All, refl, ◌∙◌, ap, arith, ne_eqb, eq-eqb}
use Rattle.std.proofs.lemmas.Bool.{cases_eq}
use Rattle.std.proofs.lemmas.List.Edits.{length-swap, swapped_from_swap}
use Rattle.std.proofs.lemmas.List.Elements.{All-head, All-tail}
use Rattle.std.specs.List.{swap}
use Rattle.rv_route.specs.Moves.{swapped}
use Rattle.rv_route.specs.inside.Standing.{IsPlacement, IsSwap}

-- ---- one swap

-- where the line at a position stood before its neighbours were swapped
abbrev pub twin : ℕ → ℕ → ℕ
twin p q = cond (eqb q p) (p + 1) (cond (eqb q (p + 1)) p q)

pub twin_low : (p q : ℕ) → q ≡ p → twin p q ≡ p + 1
twin_low p q e = rw (eq-eqb q p e) refl

pub twin_high : (p q : ℕ) → q ≡ p + 1 → twin p q ≡ p
twin_high p q e = let ne : q ≢ p = omega arith in rw (ne_eqb q p ne, eq-eqb q (p + 1) e) refl

pub twin_other : (p q : ℕ) → q ≢ p → q ≢ p + 1 → twin p q ≡ q
twin_other p q n m = rw (ne_eqb q p n, ne_eqb q (p + 1) m) refl

pub twin-twin : (p q : ℕ) → twin p (twin p q) ≡ q
twin-twin p q = grind arith

pub twin-lt : (n p q : ℕ) → p + 1 < n → q < n → twin p q < n
twin-lt n p q h lt = grind arith

pub get_or-swap : (s : List ℕ) (p q : ℕ) → p + 1 < length s → get_or (swap s p (p + 1)) q 0 ≡ get_or s (twin p q) 0
get_or-swap s p q h = grind (arith, common_steps, swapped_from_swap, cases_eq, twin_low, twin_high, twin_other)

pub IsPlacement-swap : (n : ℕ) (s : List ℕ) (p : ℕ) → p + 1 < n → IsPlacement n s → IsPlacement n (swap s p (p + 1))
IsPlacement-swap n s p h i =
    let at : (q : ℕ) → get_or (swap s p (p + 1)) q 0 ≡ get_or s (twin p q) 0 = λ q. get_or-swap s p q (omega (arith, i.len)) in
    record {
      len = length-swap s p (p + 1) ∙ i.len;
      place = λ line. twin p (i.place line);
      line = λ q lt. (let w = i.line (twin p q) (twin-lt n p q h lt) in
          (omega (arith, at q, w.0), ap (λ l. twin p (i.place l)) (at q) ∙ ap (twin p) w.1 ∙ twin-twin p q));
      stands = λ line lt. (let w = i.stands line lt in
          (twin-lt n p (i.place line) h w.0, at (twin p (i.place line)) ∙ ap (λ q. get_or s q 0) (twin-twin p (i.place line)) ∙ w.1));
    }

-- ---- many swaps

pub swapped_none : (s : List ℕ) → swapped [] s ≡ s
unfolding swapped
swapped_none s = refl

pub swapped_first : (p : ℕ) (ps s : List ℕ) → swapped (p ∷ ps) s ≡ swapped ps (swap s p (p + 1))
unfolding swapped
swapped_first p ps s = refl

pub length-swapped : (ps s : List ℕ) → length (swapped ps s) ≡ length s
unfolding swapped
length-swapped [] s = refl
length-swapped (p ∷ ps) s = length-swapped ps (swap s p (p + 1)) ∙ length-swap s p (p + 1)

pub swapped-append : (ps qs s : List ℕ) → swapped (ps ++ qs) s ≡ swapped qs (swapped ps s)
unfolding swapped
swapped-append [] qs s = refl
swapped-append (p ∷ ps) qs s = swapped-append ps qs (swap s p (p + 1))

pub IsPlacement-swapped : (n : ℕ) (ps s : List ℕ) → All (IsSwap n) ps → IsPlacement n s → IsPlacement n (swapped ps s)
unfolding swapped
IsPlacement-swapped n [] s w i = i
IsPlacement-swapped n (p ∷ ps) s w i =
    IsPlacement-swapped n ps (swap s p (p + 1)) (All-tail (IsSwap n) p ps w) (IsPlacement-swap n s p (All-head (IsSwap n) p ps w) i)
