-- The transformation-based synthesis of Miller, Maslov and Dueck (2003).
use Rattle.std.specs.Prelude.{ℕ, zero, suc, ◌+◌, ◌^◌, Bool, false, not, ◌&&◌, List, [], ◌∷◌, ◌++◌, map, length, reverse, ◌==◌, nat_lt, if◌then◌else◌, slice_index, bit_xor, count_ones}
use Rattle.rv_gate.specs.Word.{bit_of, number_of, word_of, ones_of}
use Rattle.rv_gate.specs.Gate.{flip, run, act_on_number, run_on_number}
use Rattle.rv_gate.specs.Circuit.{Cascade}
use Rattle.rv_gate.specs.declared.gate.Shape.{Shape}
use Rattle.rv_gate.specs.declared.gate.Shape.TheVariants.{Flip}
use Rattle.rv_perm.specs.Perm.{preimage_of, reindexed}
use Rattle.rv_perm.specs.Marked.{Marked}
use Rattle.rv_perm.specs.Lines.{circuit_on}
use Rattle.rv_tbs.specs.declared.method.Method.{Method}
use Rattle.rv_tbs.specs.declared.method.Method.TheVariants.{Out, Both, Best}

-- for each of the m lines from `line` on that is due, in ascending order, a flip with positive controls
unfoldable pub due_flips : (ℕ → Bool → Bool) → (List Bool → ℕ → ℕ) → ℕ → ℕ → List Bool → List Shape
due_flips due controls line zero word = []
due_flips due controls line (suc m) word =
    if due line (bit_of word line)
    then Flip (controls word line) (controls word line) line ∷ due_flips due controls (line + 1) m (flip word line)
    else due_flips due controls (line + 1) m word

-- a line is set that is 1 in the goal and 0 in the word
abbrev pub is_set_due : List Bool → ℕ → Bool → Bool
is_set_due goal line bit = bit_of goal line && not bit

-- its controls are all lines that are 1 at that moment
abbrev pub set_controls : List Bool → ℕ → ℕ
set_controls word line = ones_of word

-- a line is cleared that is 1 in the word and 0 in the goal
abbrev pub is_clear_due : List Bool → ℕ → Bool → Bool
is_clear_due goal line bit = bit && not (bit_of goal line)

-- its controls are all other lines that are 1 at that moment, and none for the goal 0
abbrev pub clear_controls : List Bool → List Bool → ℕ → ℕ
clear_controls goal word line = if number_of goal == 0 then 0 else ones_of (flip word line)

-- the flips that set lines of the word
unfoldable pub set_flips : List Bool → List Bool → List Shape
set_flips goal word = due_flips (is_set_due goal) set_controls 0 (length goal) word

-- the flips that clear lines of the word
unfoldable pub clear_flips : List Bool → List Bool → List Shape
clear_flips goal word = due_flips (is_clear_due goal) (clear_controls goal) 0 (length goal) word

-- the gates that turn a word into the goal: lines are set, then lines are cleared
unfoldable pub turning : List Bool → List Bool → List Shape
turning goal word = set_flips goal word ++ clear_flips goal (run (set_flips goal word) word)

-- the gates of step k: they turn the image of k into k
abbrev pub step_gates : ℕ → ℕ → List ℕ → List Shape
step_gates n k images = turning (word_of n k) (word_of n (slice_index images k))

-- the gates of step k on the inputs: they turn the word that goes to k into k
abbrev pub in_step_gates : ℕ → ℕ → List ℕ → List Shape
in_step_gates n k images = turning (word_of n k) (word_of n (preimage_of images k))

-- the images after the gates are applied to the inputs, one after the other
unfoldable pub applied_in : List Shape → ℕ → List ℕ → List ℕ
applied_in [] n images = images
applied_in (g ∷ gates) n images = applied_in gates n (reindexed (act_on_number g n) images)

-- the number of lines in which the words of two numbers differ
abbrev pub hamming_distance : ℕ → ℕ → ℕ
hamming_distance x y = count_ones (bit_xor x y)

-- the word that goes to k differs from k in fewer lines than the image of k
abbrev pub is_inward : ℕ → List ℕ → Bool
is_inward k images = nat_lt (hamming_distance (preimage_of images k) k) (hamming_distance (slice_index images k) k)

-- what steps have found: the images that are left, the gates of the inputs and those of the outputs
pub record Sides : Type 0 where
  pub images : List ℕ
  pub ins : List Shape
  pub outs : List Shape

abbrev pub sides : List ℕ → List Shape → List Shape → Sides
sides images ins outs = record { images = images; ins = ins; outs = outs }

-- step k: the gates go to the inputs where a test of k and the images says so, else to the outputs
unfoldable pub step : (ℕ → List ℕ → Bool) → ℕ → ℕ → Sides → Sides
step inward n k s =
    if inward k s.images
    then sides (applied_in (in_step_gates n k s.images) n s.images) (s.ins ++ in_step_gates n k s.images) s.outs
    else sides (map (run_on_number (step_gates n k s.images) n) s.images) s.ins (s.outs ++ step_gates n k s.images)

-- what the first k steps find
unfoldable pub after : (ℕ → List ℕ → Bool) → ℕ → List ℕ → ℕ → Sides
after inward n images zero = sides images [] []
after inward n images (suc k) = step inward n k (after inward n images k)

-- no step goes to the inputs
abbrev pub never : ℕ → List ℕ → Bool
never k images = false

-- the gates on the outputs alone: those that are found, reversed
unfoldable pub out_gates : ℕ → List ℕ → List Shape
out_gates n images = reverse (after never n images (2 ^ n)).outs

-- the gates of both sides: those of the inputs as found, then those of the outputs reversed
unfoldable pub both_gates : ℕ → List ℕ → List Shape
both_gates n images = (after is_inward n images (2 ^ n)).ins ++ reverse (after is_inward n images (2 ^ n)).outs

-- the first list where it has fewer gates, else the second
abbrev pub fewer : List Shape → List Shape → List Shape
fewer first second = if nat_lt (length first) (length second) then first else second

-- the gates by each method
abbrev pub gates_of : Method → ℕ → List ℕ → List Shape
gates_of Out n images = out_gates n images
gates_of Both n images = both_gates n images
gates_of Best n images = fewer (both_gates n images) (out_gates n images)

-- the circuit by each method, on lines named x0, x1, and so on, with the permutation's marks
abbrev pub synthesis_of : Method → Marked → Cascade
synthesis_of method m = circuit_on m (gates_of method m.table.lines m.table.images)
