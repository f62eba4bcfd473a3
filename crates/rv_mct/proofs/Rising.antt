-- The lines below a count that pass, and how many, line by line.
use Rattle.std.proofs.Common.{◌≡◌, ℕ, zero, suc, ◌+◌, ◌<◌, ◌≤◌, Bool, false, cond, [], ◌∷◌, ◌++◌, refl, sym, ap, ◌∙◌, arith}
use Rattle.std.proofs.lemmas.List.{append-nil}
use Rattle.rv_gate.proofs.Ranges.{filter-suc, count_by-suc}
use Rattle.rv_mct.specs.Blocks.{rising, count}

pub rising_zero : (p : ℕ → Bool) → rising p 0 ≡ []
unfolding rising
rising_zero p = refl

pub rising-suc : (p : ℕ → Bool) (n : ℕ) → rising p (suc n) ≡ rising p n ++ cond (p n) (n ∷ []) []
unfolding rising
rising-suc p n = filter-suc p n

-- where none passes from a line on
pub rising_upto : (p q : ℕ → Bool) (n line : ℕ) → line ≤ n → ((x : ℕ) → x < line → q x ≡ p x) → ((x : ℕ) → line ≤ x → x < n → q x ≡ false) → rising q n ≡ rising p line
rising_upto p q zero line few low high = let e : zero ≡ line = omega arith in rising_zero q ∙ sym (rising_zero p) ∙ ap (rising p) e
rising_upto p q (suc n) line few low high = let hyp = rising_upto p q n n in let hyp2 = rising_upto p q n line in grind (arith, hyp, hyp2, rising-suc, append-nil)

pub count_zero : (p : ℕ → Bool) → count p 0 ≡ 0
unfolding count
count_zero p = refl

pub count-suc : (p : ℕ → Bool) (n : ℕ) → count p (suc n) ≡ count p n + cond (p n) 1 0
unfolding count
count-suc p n = count_by-suc p n
