-- How many operations a ladder has, and how many of them are T or its inverse, and H.
use Rattle.std.proofs.Common.{◌≡◌, ℕ, suc, ◌+◌, ◌*◌, ◌≤◌, cond, List, [], ◌∷◌, ◌++◌, length, refl, sym, ap, ◌∙◌, arith}
use Rattle.std.specs.List.{count_by}
use Rattle.std.proofs.lemmas.List.{length-append}
use Rattle.std.proofs.lemmas.List.Sums.{sum_by-append}
use Rattle.rv_net.specs.Amplitude.{count_h}
use Rattle.rv_net.specs.declared.op.Op.{Op}
use Rattle.rv_net.specs.declared.op.Op.TheVariants.{X, H, Cx}
use Rattle.rv_net.specs.Network.{toffoli}
use Rattle.rv_net.specs.Op.{is_t}
use Rattle.rv_net.proofs.inside.Network.{count_h-append}
use Rattle.rv_ladder.specs.Counts.{Counted, hadamards, operations}
use Rattle.rv_ladder.specs.Counts.{turns as turned}
use Rattle.rv_ladder.specs.Ladder.{borrowed_flip, clean_flip, down, half, quarter, quarter_back, rung}
use Rattle.rv_ladder.proofs.inside.Totals.{IsCount}

abbrev pub turns : List Op → ℕ
turns ops = count_by is_t ops

-- ---- of any measure that adds up

-- what is counted of the parts of a ladder; `steps` is what a rung has more than what is inside, and `path` the way down
record Parts (counted : Counted) (m : List Op → ℕ) (steps : ℕ) (path : ℕ → ℕ) : Type 0 where
  none : m [] ≡ 0
  append : (a b : List Op) → m (a ++ b) ≡ m a + m b
  zero : (q : ℕ) → m (X q ∷ []) ≡ counted.zero
  flip : (t : ℕ) → m (X t ∷ []) ≡ counted.plain 0
  cnot : (a t : ℕ) → m (Cx a t ∷ []) ≡ counted.plain 1
  toffoli : (a b t : ℕ) → m (toffoli a b t) ≡ counted.plain 2
  rung : (c t : ℕ) (inner : List Op) → m (rung c t inner) ≡ m inner + steps
  path_first : path 0 ≡ counted.plain 1 + steps
  path_next : (k : ℕ) → path (suc k) ≡ path k + 2 * counted.plain 1 + steps
  ends : (c h t k : ℕ) → m (H t ∷ quarter c h t) + m (quarter_back c h t) + m (H t ∷ []) + 2 * path k ≡ counted.borrowed (k + 3)
  clean_first : counted.clean 2 ≡ counted.plain 2
  clean_next : (k : ℕ) → counted.clean (k + 3) ≡ counted.clean (k + 2) + 2 * (counted.plain 1 + steps)

module _ (counted : Counted) (m : List Op → ℕ) (steps : ℕ) (path : ℕ → ℕ) (p : Parts counted m steps path) where
  of_down : (a b : ℕ) (more hs : List ℕ) (t : ℕ) → length more ≡ length hs → m (down a b more hs t) ≡ path (length more)
  unfolding down
  of_down a b [] hs t e = omega (arith, p.rung b t (Cx a t ∷ []), p.cnot a t, p.path_first)
  of_down a b (c ∷ more) [] t e = absurd (omega (arith, e))
  of_down a b (c ∷ more) (h ∷ hs) t e =
      let V : List Op = down a b more hs h in
      let one : List Op = Cx h t ∷ [] in
      omega (arith, p.rung c t (one ++ (V ++ one)), p.append one (V ++ one), p.append V one, p.cnot h t, of_down a b more hs h (omega (arith, e)), p.path_next (length more))

  of_borrowed : (a b : ℕ) (cs hs : List ℕ) (t : ℕ) → 1 ≤ length cs → length cs ≡ length hs → m (borrowed_flip a b cs hs t) ≡ counted.borrowed (length cs + 2)
  unfolding borrowed_flip
  of_borrowed a b [] hs t some e = absurd (omega (arith, some))
  of_borrowed a b (c ∷ more) [] t some e = absurd (omega (arith, e))
  of_borrowed a b (c ∷ more) (h ∷ hs) t some e =
      let V : List Op = down a b more hs h in
      let first : List Op = H t ∷ quarter c h t in
      let back : List Op = quarter_back c h t in
      let one : List Op = H t ∷ [] in
      let n : length more + 3 ≡ length (c ∷ more) + 2 = omega arith in
      omega (
        arith,
        p.append first (V ++ (back ++ (V ++ one))),
        p.append V (back ++ (V ++ one)),
        p.append back (V ++ one),
        p.append V one,
        of_down a b more hs h (omega (arith, e)),
        p.ends c h t (length more),
        ap counted.borrowed n,
      )

  of_clean : (a b : ℕ) (cs hs : List ℕ) (t : ℕ) → length cs ≡ length hs → m (clean_flip a b cs hs t) ≡ counted.clean (length cs + 2)
  unfolding clean_flip
  of_clean a b [] hs t e = p.toffoli a b t ∙ sym p.clean_first
  of_clean a b (c ∷ more) [] t e = absurd (omega (arith, e))
  of_clean a b (c ∷ more) (z ∷ hs) t e =
      let L : List Op = clean_flip z c more hs t in
      let V : List Op = rung b z (Cx a z ∷ []) in
      let n : length more + 3 ≡ length (c ∷ more) + 2 = omega arith in
      omega (arith, p.append V (L ++ V), p.append L V, p.rung b z (Cx a z ∷ []), p.cnot a z, of_clean z c more hs t (omega (arith, e)), p.clean_next (length more), ap counted.clean n)

  -- as it is counted in a circuit
  is_count : IsCount counted m
  is_count = record {
    none = p.none;
    append = p.append;
    zero = p.zero;
    flip = p.flip;
    cnot = p.cnot;
    toffoli = p.toffoli;
    borrowed = of_borrowed;
    clean = of_clean;
  }

-- ---- operations, T and H

abbrev pub size : List Op → ℕ
size ops = length ops

-- with n controls: 20n - 24 over borrowed lines if there are more than two, and 18n - 21 over clean ones
pub operations-are : IsCount operations size
unfolding toffoli
operations-are = is_count operations size 8 (λ k. 10 * k + 9) (record {
  none = refl;
  append = length-append;
  zero = λ q. refl;
  flip = λ t. refl;
  cnot = λ a t. refl;
  toffoli = λ a b t. refl;
  rung = λ c t inner. omega (arith, length-append inner (half c t ++ (H t ∷ [])));
  path_first = refl;
  path_next = λ k. omega arith;
  ends = λ c h t k. omega arith;
  clean_first = refl;
  clean_next = λ k. omega arith;
})

turns-append : (a b : List Op) → turns (a ++ b) ≡ turns a + turns b
turns-append a b = sum_by-append (λ o. cond {A = ℕ} (is_t o) 1 0) a b

turns-rung : (c t : ℕ) (inner : List Op) → turns (rung c t inner) ≡ turns inner + 4
turns-rung c t inner =
    let end : List Op = half c t ++ (H t ∷ []) in
    let e1 : turns (H t ∷ half c t) ≡ 2 = refl in
    let e2 : turns end ≡ 2 = refl in
    omega (arith, e1, e2, turns-append (H t ∷ half c t) (inner ++ end), turns-append inner end)

-- with n controls: 8n - 8 over borrowed lines if there are more than two, and 8n - 9 over clean ones
pub turns-are : IsCount turned turns
unfolding toffoli
turns-are = is_count turned turns 4 (λ k. 4 * k + 4) (record {
  none = refl;
  append = turns-append;
  zero = λ q. refl;
  flip = λ t. refl;
  cnot = λ a t. refl;
  toffoli = λ a b t. refl;
  rung = turns-rung;
  path_first = refl;
  path_next = λ k. omega arith;
  ends = λ c h t k. (let e1 : turns (H t ∷ quarter c h t) ≡ 4 = refl in let e2 : turns (quarter_back c h t) ≡ 4 = refl in let e3 : turns (H t ∷ []) ≡ 0 = refl in omega (arith, e1, e2, e3));
  clean_first = refl;
  clean_next = λ k. omega arith;
})

-- with n controls: 4n - 6 in both
pub hadamards-are : IsCount hadamards count_h
unfolding toffoli count_h
hadamards-are = is_count hadamards count_h 2 (λ k. 2 * k + 2) (record {
  none = refl;
  append = count_h-append;
  zero = λ q. refl;
  flip = λ t. refl;
  cnot = λ a t. refl;
  toffoli = λ a b t. refl;
  rung = λ c t inner. omega (arith, count_h-append inner (half c t ++ (H t ∷ [])));
  path_first = refl;
  path_next = λ k. omega arith;
  ends = λ c h t k. omega arith;
  clean_first = refl;
  clean_next = λ k. omega arith;
})
