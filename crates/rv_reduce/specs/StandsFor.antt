-- Operations that others may stand for, whatever follows: with as many H, and the same amplitudes.
use Rattle.std.specs.Prelude.{◌≡◌, ℕ, Bool, List, ◌++◌, All, length}
use Rattle.rv_net.specs.Amplitude.{amplitude, count_h}
use Rattle.rv_net.specs.Op.{OpFitsIn}
use Rattle.rv_net.specs.declared.op.Op.{Op}

-- on n lines
pub record StandsFor (n : ℕ) (old new : List Op) : Type 0 where
  pub amplitudes : (rest : List Op) (x y : List Bool) → length x ≡ n → amplitude (old ++ rest) x y ≡ amplitude (new ++ rest) x y
  pub hadamards : count_h new ≡ count_h old
  pub fitting : All (λ op. OpFitsIn op n) old → All (λ op. OpFitsIn op n) new
