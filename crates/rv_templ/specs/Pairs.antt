-- Pairs of gates that go or join.
use Rattle.std.specs.Prelude.{◌≡◌, ℕ, zero, suc, ◌<◌, ◌^◌, Bool, true, not, ◌&&◌, ◌||◌, if◌then◌else◌, ◌==◌, bit_or, bit_xor, List, [], ◌∷◌, ◌++◌, length, take, drop, Option, Some, None, option_map}
use Rattle.std.specs.Option.{option_or}
use Rattle.rv_gate.specs.declared.word.TheConstants.{MOST_LINES}
use Rattle.rv_gate.specs.declared.gate.Shape.{Shape}
use Rattle.rv_gate.specs.declared.gate.Shape.TheVariants.{Flip, Swap, Peres}
use Rattle.rv_gate.specs.Word.{has}
use Rattle.rv_gate.specs.Gate.{xor}
use Rattle.rv_gate.specs.Commuting.{rule}
use Rattle.rv_templ.specs.Gates.{gate_in}

-- the only line of a set, looked for below n
unfoldable pub lone : ℕ → ℕ → Option ℕ
lone set zero = None
lone set (suc n) = if set == 2 ^ n then Some n else lone set n

-- the set with a line in it or not
unfoldable pub with_line : ℕ → ℕ → Bool → ℕ
with_line set line b = if b then bit_or set (2 ^ line) else if has set line then bit_xor set (2 ^ line) else set

-- the lines that are not to one flip what they are to the other: a control that wants 0, a control that wants 1, no
-- control
abbrev pub apart_on : ℕ → ℕ → ℕ → ℕ → ℕ
apart_on care want care2 want2 = bit_or (bit_xor care care2) (bit_xor want want2)

-- the flip that has on a line the third of these: a control that wants 0, a control that wants 1, no control
unfoldable pub third_flip : ℕ → ℕ → ℕ → ℕ → ℕ → ℕ → Shape
third_flip care want care2 want2 target line =
    Flip (with_line care line (xor (has care line) (has care2 line)))
    (with_line want line (xor (has care line) (has care2 line) && not (has want line || has want2 line))) target

abbrev pub third_at : ℕ → ℕ → ℕ → ℕ → ℕ → Option ℕ → Option (List Shape)
third_at care want care2 want2 target None = None
third_at care want care2 want2 target (Some line) = Some (third_flip care want care2 want2 target line ∷ [])

-- what two gates come to that stand side by side: nothing, one flip, or None where they are no pair
unfoldable pub paired : Shape → Shape → Option (List Shape)
paired (Flip care want target) (Flip care2 want2 target2) =
    if target == target2
    then if (care == care2) && (want == want2) then Some []
    else third_at care want care2 want2 target (lone (apart_on care want care2 want2) MOST_LINES)
    else None
paired (Swap care want a b) (Swap care2 want2 a2 b2) =
    if (care == care2) && (want == want2) && (((a == a2) && (b == b2)) || ((a == b2) && (b == a2))) then Some []
    else None
paired (Flip _ _ _) (Swap _ _ _ _) = None
paired (Flip _ _ _) (Peres _ _ _) = None
paired (Swap _ _ _ _) (Flip _ _ _) = None
paired (Swap _ _ _ _) (Peres _ _ _) = None
paired (Peres _ _ _) h = None

-- the gates after others
abbrev pub after_gates : List Shape → Option (List Shape) → Option (List Shape)
after_gates before None = None
after_gates before (Some gates) = Some (before ++ gates)

-- a list after its first gate made a pair with the nearest gate that it can
unfoldable pub partner : Shape → List Shape → Option (List Shape)
partner g [] = None
partner g (h ∷ rest) =
    option_or (after_gates [] (option_map (λ m. m ++ rest) (paired g h)))
    (if rule g h then after_gates (h ∷ []) (partner g rest) else None)

-- a list after the pair with the least first place, then the least second place
unfoldable pub pair_step : List Shape → Option (List Shape)
pair_step [] = None
pair_step (g ∷ rest) = option_or (partner g rest) (after_gates (g ∷ []) (pair_step rest))

-- the places a < b are a pair: the gate at a commutes with all between, and both join
abbrev pub IsPair : List Shape → ℕ → ℕ → Type 0
IsPair gates a b =
    (a < b) × (b < length gates) × ((k : ℕ) → a < k → k < b → rule (gate_in gates a) (gate_in gates k) ≡ true)
    × (m : List Shape) × (paired (gate_in gates a) (gate_in gates b) ≡ Some m)

-- no pair anywhere
abbrev pub NoPair : List Shape → Type 0
NoPair gates = (a b : ℕ) → IsPair gates a b → ⊥

-- a pair, and none comes before it: none with a lesser first place, and none with this one and a lesser second place
pub record IsFirstPair (gates : List Shape) (a b : ℕ) : Type 0 where
  pub pair : IsPair gates a b
  pub earlier : (c d : ℕ) → c < a → IsPair gates c d → ⊥
  pub nearer : (d : ℕ) → d < b → IsPair gates a d → ⊥

-- the list after its first pair was made: the gate at a is gone, and at b stands what both come to
pub record IsPairMade (gates out : List Shape) : Type 0 where
  pub a : ℕ
  pub b : ℕ
  pub first : IsFirstPair gates a b
  pub come : List Shape
  pub joins : paired (gate_in gates a) (gate_in gates b) ≡ Some come
  pub is : out ≡ take a gates ++ (drop (suc a) (take b gates) ++ (come ++ drop (suc b) gates))
