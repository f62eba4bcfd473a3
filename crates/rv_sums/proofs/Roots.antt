-- Powers of the root of two, as numbers.
use Rattle.std.proofs.Common.{◌≡◌, ℕ, zero, suc, ◌<◌, ℤ, pos, negsuc, List, [], ◌∷◌, get_or, refl, arith}
use Rattle.rv_net.specs.Cyclotomic.{power, root2, times, unity}
use Rattle.rv_ends.specs.Ends.{amount}
use Rattle.rv_ends.specs.declared.amount.Amount.{Amount}

abbrev pub root : ℤ → ℤ → ℤ → Amount
root a b d = record { a = a; b = b; c = pos 0; d = d }

abbrev pub roots : List Amount
roots =
    root (pos 1) (pos 0) (pos 0)
    ∷ root (pos 0) (pos 1) (negsuc 0)
    ∷ root (pos 2) (pos 0) (pos 0)
    ∷ root (pos 0) (pos 2) (negsuc 1)
    ∷ root (pos 4) (pos 0) (pos 0)
    ∷ root (pos 0) (pos 4) (negsuc 3)
    ∷ root (pos 8) (pos 0) (pos 0)
    ∷ root (pos 0) (pos 8) (negsuc 7)
    ∷ root (pos 16) (pos 0) (pos 0)
    ∷ root (pos 0) (pos 16) (negsuc 15)
    ∷ root (pos 32) (pos 0) (pos 0)
    ∷ root (pos 0) (pos 32) (negsuc 31)
    ∷ root (pos 64) (pos 0) (pos 0)
    ∷ []

pub root_at : (k : ℕ) → k < 13 → amount (get_or roots k (root (pos 0) (pos 0) (pos 0))) ≡ power root2 k
unfolding power times root2 unity
root_at zero lt = refl
root_at (suc zero) lt = refl
root_at (suc (suc zero)) lt = refl
root_at (suc (suc (suc zero))) lt = refl
root_at (suc (suc (suc (suc zero)))) lt = refl
root_at (suc (suc (suc (suc (suc zero))))) lt = refl
root_at (suc (suc (suc (suc (suc (suc zero)))))) lt = refl
root_at (suc (suc (suc (suc (suc (suc (suc zero))))))) lt = refl
root_at (suc (suc (suc (suc (suc (suc (suc (suc zero)))))))) lt = refl
root_at (suc (suc (suc (suc (suc (suc (suc (suc (suc zero))))))))) lt = refl
root_at (suc (suc (suc (suc (suc (suc (suc (suc (suc (suc zero)))))))))) lt = refl
root_at (suc (suc (suc (suc (suc (suc (suc (suc (suc (suc (suc zero))))))))))) lt = refl
root_at (suc (suc (suc (suc (suc (suc (suc (suc (suc (suc (suc (suc zero)))))))))))) lt = refl
root_at (suc (suc (suc (suc (suc (suc (suc (suc (suc (suc (suc (suc (suc n))))))))))))) lt = absurd (omega arith)
