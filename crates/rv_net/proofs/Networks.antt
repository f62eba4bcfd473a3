-- Networks as records, and the count of their T.
use Rattle.std.proofs.Common.{◌≡◌, ℕ, ◌+◌, cond, List, ◌++◌}
use Rattle.std.specs.Prelude.{count_by}
use Rattle.std.proofs.lemmas.List.Sums.{sum_by-append}
use Rattle.rv_net.specs.Op.{Network, is_t}
use Rattle.rv_net.specs.declared.op.Op.{Op}

pub same_network : (n m : ℕ) (a b : List Op) → n ≡ m → a ≡ b → ◌≡◌ {A = Network} (record { lines = n; ops = a }) (record { lines = m; ops = b })
same_network n m a b e f = λ i. record { lines = e i; ops = f i }

pub count_t-append : (a b : List Op) → count_by is_t (a ++ b) ≡ count_by is_t a + count_by is_t b
count_t-append a b = sum_by-append (λ o. cond (is_t o) 1 0) a b
