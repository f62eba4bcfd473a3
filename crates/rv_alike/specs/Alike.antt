-- Whether two networks do the same, as linear maps.
use Rattle.std.specs.Prelude.{◌≡◌, ◌<◌, ◌^◌, ◌&&◌, ◌==◌, Bool, List, length}
use Rattle.std.specs.List.{list_all}
use Rattle.rv_gate.specs.Word.{word_of}
use Rattle.rv_net.specs.Op.{Network}
use Rattle.rv_check.specs.Check.{are_same}
use Rattle.rv_check.specs.Reduced.{words}
use Rattle.rv_reduce.specs.ByGoal.{over_both}
use Rattle.rv_sums.specs.declared.finding.Finding.{Finding}
use Rattle.rv_sums.specs.declared.finding.Finding.TheVariants.{Same, Differs, Terms, Steps, Paths}

-- from the word x both have the same amplitudes, with no phase left free
abbrev pub AreAlikeFrom : Network → Network → List Bool → Type 0
AreAlikeFrom a b x = (y : List Bool) → length y ≡ a.lines → over_both a.ops b.ops x y ≡ over_both b.ops a.ops x y

-- from every word
abbrev pub AreAlike : Network → Network → Type 0
AreAlike a b = (x : List Bool) → length x ≡ a.lines → AreAlikeFrom a b x

-- Both have the same amplitudes, or from a word they don't. The others say nothing.
abbrev pub IsTold : Network → Network → Finding → Type 0
IsTold a b Same = AreAlike a b
IsTold a b (Differs word) = (word < 2 ^ a.lines) × (¬ AreAlikeFrom a b (word_of a.lines word))
IsTold a b Terms = Unit {0}
IsTold a b Steps = Unit {0}
IsTold a b (Paths left) = Unit {0}

-- ---- the same, as a test

abbrev pub are_alike_from : Network → Network → List Bool → Bool
are_alike_from a b x = list_all (λ y. are_same (over_both a.ops b.ops x y) (over_both b.ops a.ops x y)) (words a.lines)

-- on as many lines, and from every word
unfoldable pub are_alike : Network → Network → Bool
are_alike a b = (a.lines == b.lines) && list_all (are_alike_from a b) (words a.lines)
