-- Cancelling: an operation and a later one that undoes it are left out where all between them commute with the later.
use Rattle.std.specs.Prelude.{◌≡◌, ◌⊎◌, ℕ, ◌+◌, ◌*◌, ◌≤◌, Bool, IsTrue}
use Rattle.std.specs.Prelude.{List, [], ◌∷◌, ◌++◌, All, length, count_by}
use Rattle.rv_net.specs.Amplitude.{amplitude, count_h}
use Rattle.rv_net.specs.Cyclotomic.{doubled}
use Rattle.rv_net.specs.Op.{IsNetwork, Network, OpFitsIn, has_three_lines, is_t}
use Rattle.rv_net.specs.declared.op.Op.{Op}
use Rattle.rv_net.specs.declared.op.Op.TheVariants.{X, Y, Z, H, S, Sdg, T, Tdg, Cx, Cz, Ccx, Swap, Cswap}
use Rattle.rv_pairs.specs.Commuting.{commute}

abbrev pub inverse : Op → Op
inverse (S q) = Sdg q
inverse (Sdg q) = S q
inverse (T q) = Tdg q
inverse (Tdg q) = T q
inverse (X q) = X q
inverse (Y q) = Y q
inverse (Z q) = Z q
inverse (H q) = H q
inverse (Cx a b) = Cx a b
inverse (Cz a b) = Cz a b
inverse (Ccx a b c) = Ccx a b c
inverse (Swap a b) = Swap a b
inverse (Cswap c a b) = Cswap c a b

-- the same operation, where two of its lines may be exchanged
abbrev pub mirrored : Op → Op
mirrored (Cz a b) = Cz b a
mirrored (Ccx a b c) = Ccx b a c
mirrored (Swap a b) = Swap b a
mirrored (Cswap c a b) = Cswap c b a
mirrored (X q) = X q
mirrored (Y q) = Y q
mirrored (Z q) = Z q
mirrored (H q) = H q
mirrored (S q) = S q
mirrored (Sdg q) = Sdg q
mirrored (T q) = T q
mirrored (Tdg q) = Tdg q
mirrored (Cx a b) = Cx a b

abbrev pub Undoes : Op → Op → Type 0
Undoes p o = (p ≡ inverse o) ⊎ (p ≡ mirrored (inverse o))

-- an operation and a later one that undoes it, and all between them commute with the later one
pub record IsPair (ops : List Op) : Type 0 where
  pub before : List Op
  pub earlier : Op
  pub between : List Op
  pub later : Op
  pub after : List Op
  pub is : ops ≡ before ++ earlier ∷ (between ++ later ∷ after)
  pub undoes : Undoes earlier later
  pub commuting : All (λ o. IsTrue (commute o later)) between

-- The table is right: operations of which it says so commute, and one takes away what it undoes,
-- with a factor of 2 for an H.
pub record IsTable (n : ℕ) : Type 0 where
  pub commuting : (p o : Op) (rest : List Op) (x y : List Bool) → IsTrue (commute p o) → OpFitsIn p n → OpFitsIn o n
      → length x ≡ n → amplitude (p ∷ o ∷ rest) x y ≡ amplitude (o ∷ p ∷ rest) x y
  pub undoing : (p o : Op) (rest : List Op) (x y : List Bool) → Undoes p o → OpFitsIn o n
      → length x ≡ n → amplitude (p ∷ o ∷ rest) x y ≡ doubled (count_h (o ∷ [])) (amplitude rest x y)

-- What a network keeps that has so many pairs of H less, and other pairs less: since the root of two is not divided out
-- of an H, each pair of these brings a factor of 2, and nothing else changes an amplitude. There are no more operations,
-- no more T, and no more Toffoli and Fredkin gates, which stand for several T.
pub record Keeps (net result : Network) : Type 0 where
  pub pairs : ℕ
  pub lines : result.lines ≡ net.lines
  pub valid : IsNetwork result
  pub amplitudes : (x y : List Bool) → length x ≡ net.lines
      → amplitude net.ops x y ≡ doubled pairs (amplitude result.ops x y)
  pub hadamards : count_h net.ops ≡ count_h result.ops + 2 * pairs
  pub operations : length result.ops ≤ length net.ops
  pub t_gates : count_by is_t result.ops ≤ count_by is_t net.ops
  pub three_lines : count_by has_three_lines result.ops ≤ count_by has_three_lines net.ops

-- all of this, and no pair is left
pub record IsCancellingOf (net result : Network) : Type 0 where
  pub keeps : Keeps net result
  pub settled : ¬ IsPair result.ops
