-- `resynth`: a circuit that a search finds for a circuit.
use Rattle.std.specs.Prelude.{◌≡◌, ℕ, Bool, true, false, List, [], Option, Some, None, Ok}
use Rattle.rv_gate.specs.Circuit.{Cascade}
use Rattle.rv_resynth.specs.Resynthesis.{IsResynthesis, IsResynthesisByMarks}
use Rattle.rv_search.specs.declared.goal.Goal.{Goal}
use Rattle.rv_search.specs.declared.goal.Goal.TheVariants.{Gates, Quantum, T}
use Rattle.rv_words.specs.declared.command.Goal.TheVariants as wish
use Rattle.rv_words.specs.declared.command.Goal as wishes
use Rattle.rv_real.specs.Reading.{real_of}
use Rattle.rv_real.specs.Text.{text_of}
use Rattle.rv_inputs.specs.Formats.{circuit}
use Rattle.rv_cmd.specs.Limits.{Limit}
use Rattle.rv_cmd.specs.Row.{ReadsFirst, always, finds}

-- what the arguments ask to make small: quantum cost, if nothing else is asked
abbrev pub resynth_goal : Option wishes.Goal → Goal
resynth_goal (Some wish.Gates) = Gates
resynth_goal (Some wish.T) = T
resynth_goal _ = Quantum

-- nothing is refused
abbrev pub resynth_limits : Cascade → List Limit
resynth_limits c = []

-- Read back, the text is a circuit with the names, labels and marks of the one that was read. It makes the same of
-- every word, and the goal counts no more of it. Without effort it is the one that was read.
pub record IsResynthesized (goal : Goal) (effort : ℕ) (c : Cascade) (text : List ℕ) : Type 0 where
  pub new : Cascade
  pub is : text ≡ text_of new
  pub read_back : real_of text ≡ Ok new
  pub resynthesis : IsResynthesis goal c new
  pub idle : effort ≡ 0 → new ≡ c

-- By the marks it gives the same at each word of the inputs: with constants put in, and garbage left out.
pub record IsResynthesizedByMarks (goal : Goal) (effort : ℕ) (c : Cascade) (text : List ℕ) : Type 0 where
  pub new : Cascade
  pub is : text ≡ text_of new
  pub read_back : real_of text ≡ Ok new
  pub resynthesis : IsResynthesisByMarks goal c new
  pub idle : effort ≡ 0 → new ≡ c

abbrev pub IsResynthReport : Bool → Goal → ℕ → Cascade → List ℕ → Type 0
IsResynthReport true goal effort = IsResynthesizedByMarks goal effort
IsResynthReport false goal effort = IsResynthesized goal effort

abbrev pub resynth_row : Goal → ℕ → Bool → ReadsFirst
resynth_row goal effort marks = finds circuit resynth_limits always (IsResynthReport marks goal effort)
