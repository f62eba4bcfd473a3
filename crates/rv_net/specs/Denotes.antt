-- What a network is: the map of words whose amplitudes it has, with the root of two for each H and no free phase.
use Rattle.std.specs.Prelude.{◌≡◌, ℕ, ◌+◌, Bool, List, ◌++◌, length, if◌then◌else◌, take, drop}
use Rattle.rv_gate.specs.Gate.{run, same_word}
use Rattle.rv_gate.specs.declared.gate.Shape.{Shape}
use Rattle.rv_mct.specs.Extends.{Extends, MayHold}
use Rattle.rv_mct.specs.declared.aux.Aux.{Aux}
use Rattle.rv_net.specs.Amplitude.{amplitude, count_h, sum_over_words}
use Rattle.rv_net.specs.Cyclotomic.{Cyclotomic, nought, power, root2, times}
use Rattle.rv_net.specs.declared.op.Op.{Op}

-- a permutation's amplitude for x and y, times the root of two for each H
abbrev pub amplitude_of_map : List Op → List Bool → List Bool → Cyclotomic
amplitude_of_map ops image y = if same_word image y then power root2 (count_h ops) else nought

-- on n lines
unfoldable pub Denotes : ℕ → List Op → (List Bool → List Bool) → Type 0
Denotes n ops map = (x y : List Bool) → length x ≡ n → length y ≡ n → amplitude ops x y ≡ amplitude_of_map ops (map x) y

-- On n lines, with further lines of which the helpers may hold what is allowed, and which are given back.
unfoldable pub Carries : Aux → ℕ → ℕ → List Op → (List Bool → List Bool) → Type 0
Carries aux n extra ops map =
    (word held y : List Bool) → length word ≡ n → length held ≡ extra → MayHold aux held → length y ≡ n + extra
    → amplitude ops (word ++ held) y ≡ amplitude_of_map ops (map word ++ held) y

-- The gates act on so many lines. Whatever circuit they extend with helper lines, the operations carry its run.
unfoldable pub CarriesExtended : ℕ → List Op → List Shape → Type 0
CarriesExtended lines ops gates =
    (aux : Aux) (n extra : ℕ) (extended : List Shape) → n + extra ≡ lines → Extends aux n extra gates extended
    → Carries aux n extra ops (run extended)

-- cut at any place, the amplitudes multiply as matrices do
unfoldable pub IsProductAt : List Op → List Op → List Op → Type 0
IsProductAt ops first second =
    (x z : List Bool)
    → amplitude ops x z ≡ sum_over_words (length x) (λ y. times (amplitude first x y) (amplitude second y z))

abbrev pub IsProduct : List Op → Type 0
IsProduct ops = (place : ℕ) → IsProductAt ops (take place ops) (drop place ops)
