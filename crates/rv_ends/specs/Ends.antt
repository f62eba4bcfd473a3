-- Sums over paths when no operation is left.
use Rattle.std.specs.Prelude.{Bool, List, map, if◌then◌else◌}
use Rattle.rv_gate.specs.Gate.{same_word}
use Rattle.rv_net.specs.Amplitude.{sum_over_words}
use Rattle.rv_net.specs.Cyclotomic.{Cyclotomic, nought, unity, times_w_power}
use Rattle.rv_terms.specs.Products.{odd}
use Rattle.rv_terms.specs.Phases.{power}
use Rattle.rv_terms.specs.declared.phases.Phases.{Phases}
use Rattle.rv_terms.specs.declared.sum.Sum.{Sum}
use Rattle.rv_ends.specs.declared.amount.Amount.{Amount}

-- a + b w + c w^2 + d w^3
abbrev pub amount : Amount → Cyclotomic
amount e = record { a = e.a; b = e.b; c = e.c; d = e.d }

-- where the path v from the word x ends
abbrev pub word_at : List Sum → List Bool → List Bool → List Bool
word_at sums x v = map (λ sum. odd sum x v) sums

-- what a path brings to the word z
abbrev pub path_value : List Sum → Phases → List Bool → List Bool → List Bool → Cyclotomic
path_value sums phases x z v =
    times_w_power (power phases x v) (if same_word (word_at sums x v) z then unity else nought)

-- the sum over all paths
abbrev pub over_all : List Sum → Phases → List Bool → List Bool → Cyclotomic
over_all sums phases x z = sum_over_words 64 (path_value sums phases x z)
