-- The count of H, by a test of each operation.
use Rattle.std.proofs.Common.{◌≡◌, ℕ, suc, ◌+◌, List, [], ◌∷◌, cond, refl, sym, ◌∙◌, arith}
use Rattle.std.proofs.lemmas.List.Sums.{sum_by-cons}
use Rattle.std.specs.Prelude.{count_by}
use Rattle.rv_net.specs.Amplitude.{count_h}
use Rattle.rv_net.specs.declared.op.Op.{Op}
use Rattle.rv_net.specs.declared.op.Op.TheVariants.{H}
use Rattle.rv_cost.specs.inside.Counting.{is_h}

more : (n m : ℕ) → n ≡ m → suc n ≡ 1 + m
more n m e = omega arith

pub count_h-count_by : (ops : List Op) → count_h ops ≡ count_by is_h ops
unfolding count_h
count_h-count_by [] = refl
count_h-count_by (H q ∷ rest) = more _ _ (count_h-count_by rest) ∙ sym (sum_by-cons (λ op. cond (is_h op) 1 0) (H q) rest)
count_h-count_by (op ∷ rest) = count_h-count_by rest
