-- A circuit checked against a network, exactly.
use Rattle.std.specs.Prelude.{ℕ, ◌^◌, ◌==◌, ◌&&◌, Bool, List, length, if◌then◌else◌, nat_lt, Option, Some, None, Result, Ok, Err, option_map}
use Rattle.std.specs.List.{list_all}
use Rattle.std.specs.Ordering.{int_eq}
use Rattle.rv_gate.specs.Circuit.{Cascade}
use Rattle.rv_gate.specs.FirstAnswer.{first}
use Rattle.rv_gate.specs.Gate.{run}
use Rattle.rv_gate.specs.Word.{word_of}
use Rattle.rv_gate.specs.declared.gate.Shape.{Shape}
use Rattle.rv_net.specs.Amplitude.{amplitude}
use Rattle.rv_net.specs.Cyclotomic.{Cyclotomic}
use Rattle.rv_net.specs.Denotes.{amplitude_of_map}
use Rattle.rv_net.specs.Op.{Network}
use Rattle.rv_net.specs.declared.op.Op.{Op}
use Rattle.rv_check.specs.Reduced.{words, first_large_place}
use Rattle.rv_check.specs.declared.checking.TheConstants.{MOST_CHECKED_LINES}
use Rattle.rv_check.specs.declared.checking.Verdict.{Verdict}
use Rattle.rv_check.specs.declared.checking.Verdict.TheVariants.{Same, Lines, Differs}
use Rattle.rv_check.specs.declared.checking.CheckFault.{CheckFault}
use Rattle.rv_check.specs.declared.checking.CheckFault.TheVariants.{CircuitLines, NetLines, TooLarge}

-- the same cyclotomic integer
abbrev pub are_same : Cyclotomic → Cyclotomic → Bool
are_same u v = int_eq u.a v.a && (int_eq u.b v.b && (int_eq u.c v.c && int_eq u.d v.d))

-- from the word x, the amplitudes are those of a map that takes x to this image, with no phase left free
unfoldable pub agrees : List Op → List Bool → List Bool → Bool
agrees ops x image = list_all (λ y. are_same (amplitude ops x y) (amplitude_of_map ops image y)) (words (length x))

-- from the word with this number, a coefficient is beyond the limit: the least place where one is
abbrev pub large_at : Network → ℕ → Option CheckFault
large_at net number = option_map (λ place. TooLarge number place) (first_large_place net.ops (word_of net.lines number))

-- the least word from which one is, and for it the least place
unfoldable pub first_large : Network → Option CheckFault
first_large net = first (large_at net) 0 (2 ^ net.lines)

-- the number of a word, if from it some amplitude isn't that of the circuit
abbrev pub difference_at : List Shape → Network → ℕ → Option ℕ
difference_at gates net number =
    if agrees net.ops (word_of net.lines number) (run gates (word_of net.lines number)) then None else Some number

-- the least such word
unfoldable pub first_difference : List Shape → Network → Option ℕ
first_difference gates net = first (difference_at gates net) 0 (2 ^ net.lines)

-- the verdict, where no coefficient is beyond the limit
abbrev pub verdict_of : Option ℕ → Verdict
verdict_of None = Same
verdict_of (Some number) = Differs number

-- a coefficient beyond the limit comes before any difference, also one at a lesser word
abbrev pub compared : Option CheckFault → Option ℕ → Result Verdict CheckFault
compared (Some fault) difference = Err fault
compared None difference = Ok (verdict_of difference)

-- the answer of a check; the marks of the circuit aren't looked at
unfoldable pub check_of : Cascade → Network → Result Verdict CheckFault
check_of c net =
    if nat_lt MOST_CHECKED_LINES (length c.names) then Err (CircuitLines (length c.names))
    else (if nat_lt MOST_CHECKED_LINES net.lines then Err (NetLines net.lines)
    else (if length c.names == net.lines then compared (first_large net) (first_difference c.gates net)
    else Ok (Lines (length c.names) net.lines)))
