-- The least words of walks, of twice as many words at each turn.
use Rattle.std.proofs.Common.{◌≡◌, ℕ, zero, suc, ◌+◌, ◌-◌, ◌^◌, ◌<◌, min, List, length, get_or, map, sym, ◌∙◌, ap, arith}
use Rattle.std.specs.Prelude.{All}
use Rattle.std.specs.List.{range_with_len}
use Rattle.std.proofs.lemmas.List.FromFn.{length-map-range_with_len, get_or-map-range_with_len, fill_by_all}
use Rattle.std.proofs.lemmas.Nat.{pow_pos}
use Rattle.std.proofs.Math.Nat.{pow-suc}
use Rattle.rv_perm.specs.Perm.{IsPerm}
use Rattle.std.specs.Fn.{iterate}
use Rattle.rv_dbs.specs.Walk.{next, least_from}
use Rattle.rv_dbs.specs.Singles.{table_by}
use Rattle.rv_dbs.specs.inside.Jumps.{lesser, twice}
use Rattle.rv_dbs.proofs.Walks.{after-add}
use Rattle.rv_dbs.proofs.Pairs.{other_within, image_within, preimage_within}

-- ---- tables

pub length-table : (n : ℕ) (f : ℕ → ℕ) → length (table_by n f) ≡ 2 ^ n
length-table n f = length-map-range_with_len f 0 (2 ^ n)

pub table_at : (n : ℕ) (f : ℕ → ℕ) (x : ℕ) → x < 2 ^ n → get_or (table_by n f) x 0 ≡ f x
table_at n f x h = get_or-map-range_with_len f 0 (2 ^ n) x x 0 h (omega arith)

-- a table by its entries
pub is_table : (n : ℕ) (f g : ℕ → ℕ) (m : ℕ) → m ≡ 2 ^ n → ((x : ℕ) → x < 2 ^ n → f x ≡ g x) → map f (range_with_len 0 m) ≡ table_by n g
is_table n f g m e h =
    fill_by_all g (map f (range_with_len 0 m)) (2 ^ n) 0 (length-map-range_with_len f 0 m ∙ e)
    (λ x l. get_or-map-range_with_len f 0 m x x 0 (omega arith) (omega arith) ∙ h x l)

-- ---- the least of twice as many

least_from-add : (step : ℕ → ℕ) (c d x : ℕ) → least_from step (c + suc d) x ≡ min (least_from step c x) (least_from step d (iterate step (suc c) x))
unfolding least_from
least_from-add step zero d x = let e : 0 + suc d ≡ suc d = omega arith in ap (λ m. least_from step m x) e
least_from-add step (suc c) d x =
    let e : suc c + suc d ≡ suc (c + suc d) = omega arith in
    let r = least_from-add step c d (step x) in
    ap (λ m. least_from step m x) e ∙ ap (min x) r ∙ (omega arith)

-- after so many turns: the least of 2 ^ turns words, and 2 ^ turns steps in one
pub record IsTurn (n : ℕ) (step : ℕ → ℕ) (turns : ℕ) (least jumps : List ℕ) : Type 0 where
  pub least_is : least ≡ table_by n (least_from step (2 ^ turns - 1))
  pub jumps_is : jumps ≡ table_by n (iterate step (2 ^ turns))

abbrev pub StaysWithin : ℕ → (ℕ → ℕ) → Type 0
StaysWithin m step = (x : ℕ) → x < m → step x < m

after_stays : (m : ℕ) (step : ℕ → ℕ) (k x : ℕ) → StaysWithin m step → x < m → iterate step k x < m
after_stays m step zero x s h = h
after_stays m step (suc k) x s h = after_stays m step k (step x) s (s x h)

pub first_turn : (n : ℕ) (step : ℕ → ℕ) (least jumps : List ℕ) → least ≡ table_by n (λ x. x) → jumps ≡ table_by n step → IsTurn n step 0 least jumps
unfolding least_from
first_turn n step least jumps a b = record { least_is = a; jumps_is = b }

pub jumps_within : (n : ℕ) (step : ℕ → ℕ) (turns : ℕ) (least jumps : List ℕ) → StaysWithin (2 ^ n) step → IsTurn n step turns least jumps
    → (length least ≡ length jumps) × All (λ y. y < length jumps) jumps
jumps_within n step turns least jumps s t = grind (arith, length-table, get_or-map-range_with_len, after_stays)

pub next_turn : (n : ℕ) (step : ℕ → ℕ) (turns : ℕ) (least jumps new_least new_jumps : List ℕ) → StaysWithin (2 ^ n) step → IsTurn n step turns least jumps
    → new_least ≡ lesser least jumps → new_jumps ≡ twice jumps → IsTurn n step (turns + 1) new_least new_jumps
next_turn n step turns least jumps new_least new_jumps s t a b =
    let half : ℕ = 2 ^ turns in
    let pos = pow_pos turns in
    let whole : 2 ^ (turns + 1) ≡ 2 ^ turns + 2 ^ turns = let p : turns + 1 ≡ suc turns = omega arith in ap (λ m. 2 ^ m) p ∙ (omega (arith, pow-suc 2 turns)) in
    let sum : 2 ^ (turns + 1) - 1 ≡ 2 ^ turns - 1 + suc (2 ^ turns - 1) = omega arith in
    let up : suc (2 ^ turns - 1) ≡ 2 ^ turns = omega arith in
    let lj : length jumps ≡ 2 ^ n = ap length t.jumps_is ∙ length-table n _ in
    let jump : (x : ℕ) → x < 2 ^ n → get_or jumps x 0 ≡ iterate step (2 ^ turns) x = λ x h. ap (λ l. get_or l x 0) t.jumps_is ∙ table_at n _ x h in
    let low : (x : ℕ) → x < 2 ^ n → get_or least x 0 ≡ least_from step (2 ^ turns - 1) x = λ x h. ap (λ l. get_or l x 0) t.least_is ∙ table_at n _ x h in
    record {
      least_is = a
          ∙ is_table n _ (least_from step (2 ^ (turns + 1) - 1)) (length jumps) lj
          (λ x h.
          let there = after_stays (2 ^ n) step (2 ^ turns) x s h in
          ap (λ v. min v (get_or least (get_or jumps x 0) 0)) (low x h)
          ∙ ap (λ v. min (least_from step (2 ^ turns - 1) x) (get_or least v 0)) (jump x h)
          ∙ ap (min (least_from step (2 ^ turns - 1) x)) (low (iterate step (2 ^ turns) x) there)
          ∙ ap (λ m. min (least_from step (2 ^ turns - 1) x) (least_from step (2 ^ turns - 1) (iterate step m x))) (sym up)
          ∙ sym (least_from-add step (2 ^ turns - 1) (2 ^ turns - 1) x)
          ∙ ap (λ m. least_from step m x) (sym sum));
      jumps_is = b
          ∙ is_table n _ (iterate step (2 ^ (turns + 1))) (length jumps) lj
          (λ x h.
          let there = after_stays (2 ^ n) step (2 ^ turns) x s h in
          ap (λ v. get_or jumps v 0) (jump x h) ∙ jump (iterate step (2 ^ turns) x) there
          ∙ sym (after-add step (2 ^ turns) (2 ^ turns) x) ∙ ap (λ m. iterate step m x) (sym whole));
    }

-- the walk stays among the words
pub next_stays : (n k : ℕ) (images : List ℕ) → IsPerm n images → k < n → StaysWithin (2 ^ n) (next k images)
unfolding next
next_stays n k images p h x l = other_within n k _ h (preimage_within n _ images p (other_within n k _ h (image_within n x images p l)))

-- a word and its pair are in a table
pub ruleset sides = (length-table, other_within)

-- turns begin and stay among the words
pub ruleset turns = (first_turn, jumps_within, next_stays)
