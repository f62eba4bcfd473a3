-- The commands: a row each. All else that is said of a command's arguments follows from its row.
use Rattle.std.specs.Prelude.{ℕ, Bool, false, List, [], ◌∷◌, ◌==◌, ◌||◌, Option, codes, find}
use Rattle.std.specs.List.{list_any}
use Rattle.std.specs.Str.{bytes_eq}
use Rattle.rv_words.specs.declared.command.Command.{Command}
use Rattle.rv_words.specs.declared.command.Command.TheVariants.{Synth, Embed, Esop, Templates, Decompose, Map, Cost, Simulate, ToReal, Flow, Demo, Fold, Reduce, Check, Single, Route, Draw, Compare, Resynth, Compute, Optimal, Realize}
use Rattle.rv_words.specs.declared.options.TheConstants.{METHOD, TO, FROM, LIBRARY, AUX, LINES, SEED, ALL, SIMPLIFY, WRAP, GOAL, EFFORT, MARKS, BLOCKS, AS, GATES, BY, NODES, CURVE, CONSTANTS}

-- a command's name, how many inputs it takes at the least and at the most, and the places of the options that it uses
pub record Usage : Type 0 where
  pub name : List ℕ
  pub least : ℕ
  pub most : ℕ
  pub options : List ℕ

abbrev row : List ℕ → ℕ → ℕ → List ℕ → Usage
row name least most options = record { name = name; least = least; most = most; options = options }

abbrev pub usage_of : Command → Usage
usage_of Synth = row (codes "synth") 0 1 (METHOD ∷ [])
usage_of Embed = row (codes "embed") 0 1 []
usage_of Esop = row (codes "esop") 0 1 (TO ∷ GOAL ∷ EFFORT ∷ SEED ∷ [])
usage_of Templates = row (codes "templates") 0 1 (LIBRARY ∷ [])
usage_of Decompose = row (codes "decompose") 0 1 (AUX ∷ [])
usage_of Map = row (codes "map") 0 1 (AUX ∷ BLOCKS ∷ [])
usage_of Cost = row (codes "cost") 0 1 (FROM ∷ AS ∷ [])
usage_of Simulate = row (codes "simulate") 1 2 (ALL ∷ [])
usage_of ToReal = row (codes "toreal") 0 1 []
usage_of Flow = row (codes "flow") 0 1 (METHOD ∷ FROM ∷ AUX ∷ SIMPLIFY ∷ BLOCKS ∷ [])
usage_of Demo = row (codes "demo") 0 0 (LINES ∷ SEED ∷ [])
usage_of Fold = row (codes "fold") 0 1 []
usage_of Reduce = row (codes "reduce") 0 1 (GOAL ∷ EFFORT ∷ SEED ∷ [])
usage_of Check = row (codes "check") 1 2 (BY ∷ FROM ∷ CONSTANTS ∷ [])
usage_of Single = row (codes "single") 0 1 []
usage_of Route = row (codes "route") 0 1 []
usage_of Draw = row (codes "draw") 0 1 (FROM ∷ WRAP ∷ AS ∷ [])
usage_of Compare = row (codes "compare") 1 2 (FROM ∷ ALL ∷ NODES ∷ [])
usage_of Resynth = row (codes "resynth") 0 1 (GOAL ∷ EFFORT ∷ SEED ∷ MARKS ∷ [])
usage_of Compute = row (codes "compute") 0 1 (LINES ∷ GOAL ∷ EFFORT ∷ SEED ∷ CURVE ∷ [])
usage_of Optimal = row (codes "optimal") 0 1 (GATES ∷ [])
usage_of Realize = row (codes "realize") 0 1 (FROM ∷ LINES ∷ GOAL ∷ EFFORT ∷ SEED ∷ CURVE ∷ [])

abbrev pub commands : List Command
commands =
    Synth ∷ Embed ∷ Esop ∷ Templates ∷ Decompose ∷ Map ∷ Cost ∷ Simulate ∷ ToReal ∷ Flow ∷ Demo ∷ Fold ∷ Reduce ∷ Check
    ∷ Single ∷ Route ∷ Draw
    ∷ Compare ∷ Resynth ∷ Compute ∷ Optimal ∷ Realize ∷ []

-- the command of this name
abbrev pub command_of : List ℕ → Option Command
command_of name = find (λ command. bytes_eq name (usage_of command).name) commands

abbrev pub is_used : Command → ℕ → Bool
is_used command place = list_any (λ used. used == place) (usage_of command).options

-- how long and from which numbers on `esop` and `reduce` search is asked only of a search, which `--goal` asks for
abbrev pub needs_goal : Command → ℕ → Bool
needs_goal Esop place = place == EFFORT || place == SEED
needs_goal Reduce place = place == EFFORT || place == SEED
needs_goal command place = false
