-- How the least key of a walk is found.
use Rattle.std.proofs.Common.{◌≡◌, ℕ, zero, suc, ◌+◌, ◌<◌, ◌≤◌, min, List, Contains, length, get_or, drop, sym, ◌∙◌, ap, subst, arith}
use Rattle.std.proofs.lemmas.List.{drop_all, drop_more, get_or_default}
use Rattle.rv_optimal.specs.inside.Alike.{exchange, swapped, walk, least_on}

pub walk_more : (start best key i new less : ℕ) → i < length walk → new ≡ swapped (get_or walk i 0) key → less ≡ min best new
    → least_on walk start start ≡ least_on (drop i walk) best key → least_on walk start start ≡ least_on (drop (i + 1) walk) less new
unfolding least_on
walk_more start best key i new less lt new_is less_is so_far =
    so_far ∙ ap (λ l. least_on l best key) (drop_more walk i 0 lt)
    ∙ ap (λ k. least_on (drop (i + 1) walk) (min best k) k) (sym new_is)
    ∙ ap (λ m. least_on (drop (i + 1) walk) m new) (sym less_is)

pub walk_all : (start best key i : ℕ) → length walk ≤ i → least_on walk start start ≡ least_on (drop i walk) best key → best ≡ least_on walk start start
unfolding least_on
walk_all start best key i past so_far = sym (so_far ∙ ap (λ l. least_on l best key) (drop_all i walk past))

-- what holds of all numbers holds of each
pub all_stay : (moves : List ℕ) (f : ℕ → ℕ) (n : ℕ) → length moves ≤ n → ((k : ℕ) → k < n → Contains moves (f (get_or moves k 0))) → (step : ℕ) → Contains moves step → Contains moves (f step)
all_stay moves f n all each step c =
    let is : get_or moves c.0 0 ≡ step = get_or_default moves c.0 0 step c.1 ∙ c.2 in
    subst (λ s. Contains moves (f s)) is (each c.0 (omega (arith, c.1, all)))

-- what holds of three lines holds of all, since there are no others
pub all_lines : (moves : List ℕ) → ((step : ℕ) → Contains moves step → Contains moves (swapped 0 step)) → ((step : ℕ) → Contains moves step → Contains moves (swapped 1 step))
    → ((step : ℕ) → Contains moves step → Contains moves (swapped 2 step)) → (line step : ℕ) → Contains moves step → Contains moves (swapped line step)
unfolding swapped exchange
all_lines moves first second third zero = first
all_lines moves first second third (suc zero) = second
all_lines moves first second third (suc (suc line)) = third
