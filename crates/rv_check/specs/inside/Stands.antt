-- What binds the kept vector and the whole one after each operation: the whole one is the kept one times the root of
-- two, so many times, and the kept one can't be divided further.
use Rattle.std.specs.Prelude.{◌≡◌, ◌≢◌, ◌+◌, ◌⊎◌, ℕ, zero, suc, Bool, false, List, [], ◌∷◌, All, length, if◌then◌else◌}
use Rattle.std.specs.List.{list_all}
use Rattle.rv_net.specs.Amplitude.{amplitude, count_h, same_word}
use Rattle.rv_net.specs.Cyclotomic.{Cyclotomic, nought, plus, root2, times}
use Rattle.rv_net.specs.declared.op.Op.{Op}
use Rattle.rv_check.specs.Reduced.{is_multiple}
use Rattle.rv_check.specs.declared.member.Member.{Member}
use Rattle.rv_check.specs.inside.Kept.{Kept}

-- the words of the members have so many bits
abbrev pub On : ℕ → List Member → Type 0
On n ms = All (λ m. length m.word ≡ n) ms

-- no member has the word
abbrev pub Fresh : List Bool → List Member → Type 0
Fresh w [] = Unit {0}
Fresh w (m ∷ ms) = (m.word ≢ w) × Fresh w ms

-- the words of the members differ
abbrev pub Apart : List Member → Type 0
Apart [] = Unit {0}
Apart (m ∷ ms) = Fresh m.word ms × Apart ms

-- a member's value at a word
abbrev pub at_word : List Bool → List Bool → Cyclotomic → Cyclotomic
at_word w z v = if same_word w z then v else nought

-- the sum of the values that the members have at a word
unfoldable pub value_at : List Member → List Bool → Cyclotomic
value_at [] z = nought
value_at (m ∷ ms) z = plus (at_word m.word z m.value) (value_at ms z)

-- the root of two multiplied in so many times
unfoldable pub scaled : ℕ → Cyclotomic → Cyclotomic
scaled zero u = u
scaled (suc n) u = times root2 (scaled n u)

-- each member's value is a multiple of the root of two
abbrev pub multiples : List Member → Bool
multiples ms = list_all (λ m. is_multiple m.value) ms

-- the same, where the kept one may still be divided
pub record StandsOver (ops : List Op) (x : List Bool) (k : Kept) : Type 0 where
  pub divisions : ℕ
  pub total : divisions + k.exponent ≡ count_h ops
  pub amplitudes : (z : List Bool) → amplitude ops x z ≡ scaled divisions (value_at k.members z)
  pub on : On (length x) k.members
  pub apart : Apart k.members

pub record Stands (ops : List Op) (x : List Bool) (k : Kept) : Type 0 where
  pub divisions : ℕ
  pub total : divisions + k.exponent ≡ count_h ops
  pub amplitudes : (z : List Bool) → amplitude ops x z ≡ scaled divisions (value_at k.members z)
  pub on : On (length x) k.members
  pub apart : Apart k.members
  pub greatest : (k.exponent ≡ 0) ⊎ (multiples k.members ≡ false)
