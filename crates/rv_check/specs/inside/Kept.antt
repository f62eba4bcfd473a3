-- The vector that the code keeps, in lowest terms: the words that it has, each with a coefficient, and its least
-- denominator exponent.
use Rattle.std.specs.Prelude.{◌≡◌, ℕ, zero, suc, Bool, true, false, not, List, [], ◌∷◌, map, if◌then◌else◌, slice_set, take}
use Rattle.std.specs.List.{list_all, list_any, fold, filter}
use Rattle.rv_gate.specs.Word.{bit_of}
use Rattle.rv_net.specs.Amplitude.{same_word}
use Rattle.rv_net.specs.Cyclotomic.{Cyclotomic, nought, unity, plus, negated, times_w_power}
use Rattle.rv_net.specs.Op.{goes_to, phase_of}
use Rattle.rv_net.specs.declared.op.Op.{Op}
use Rattle.rv_net.specs.declared.op.Op.TheVariants.{H}
use Rattle.rv_check.specs.Check.{are_same}
use Rattle.rv_check.specs.Reduced.{is_large, is_multiple, quotient}
use Rattle.rv_check.specs.declared.member.Member.{Member}

-- a member's value with the phase that an operation brings
abbrev pub turned : Op → Member → Member
turned op m = record m { value = times_w_power (phase_of op m.word) m.value }

-- a member's word where an operation takes it
abbrev pub carried : Op → Member → Member
carried op m = record m { word = goes_to op m.word }

-- what an operation that is no H makes of a member
abbrev pub moved : Op → Member → Member
moved op m = carried op (turned op m)

-- the value added to that of the word
unfoldable pub added : List Member → List Bool → Cyclotomic → List Member
added [] word value = record { word = word; value = value } ∷ []
added (m ∷ members) word value =
    if same_word m.word word then record m { value = plus m.value value } ∷ members else m ∷ added members word value

-- both members that H on a line makes of one, added
unfoldable pub spread : ℕ → List Member → Member → List Member
spread line members m =
    added (added members (slice_set m.word line false) m.value) (slice_set m.word line true)
    (if bit_of m.word line then negated m.value else m.value)

-- a member whose value isn't 0
abbrev pub is_present : Member → Bool
is_present m = not (are_same m.value nought)

-- what H on a line makes of the members, its root of two not divided out
unfoldable pub mixed : ℕ → List Member → List Member
mixed line members = filter is_present (fold (spread line) [] members)

-- Each member's value stands over the root of two, as often as the exponent says.
pub record Kept : Type 0 where
  pub members : List Member
  pub exponent : ℕ

-- a member whose value is a multiple of the root of two, divided by it
abbrev pub divided : Member → Member
divided m = record m { value = quotient m.value }

-- members over so many roots of two, in lowest terms
unfoldable pub reduced_kept : ℕ → List Member → Kept
reduced_kept zero members = record { members = members; exponent = 0 }
reduced_kept (suc exponent) members =
    if list_all (λ m. is_multiple m.value) members then reduced_kept exponent (map divided members)
    else record { members = members; exponent = suc exponent }

-- the vector after one more operation
unfoldable pub kept_more : Kept → Op → Kept
kept_more k (H line) = reduced_kept (suc k.exponent) (mixed line k.members)
kept_more k op = record k { members = map (moved op) k.members }

-- the word x alone
abbrev pub kept_start : List Bool → Kept
kept_start x = record { members = record { word = x; value = unity } ∷ []; exponent = 0 }

-- the vector after operations, from the word x
unfoldable pub kept_after : List Op → List Bool → Kept
kept_after ops x = fold kept_more (kept_start x) ops

-- one of the members has a coefficient beyond the limit
unfoldable pub has_large : List Member → Bool
has_large members = list_any (λ m. is_large m.value) members

-- after so many of the first operations, from the word x, none has
unfoldable pub NotLarge : List Op → List Bool → ℕ → Type 0
NotLarge ops x place = has_large (kept_after (take place ops) x).members ≡ false
