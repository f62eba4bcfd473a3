-- What the arguments ask a search of circuits to make small.
use Rattle.std.specs.Prelude.{Option, Some}
use Rattle.rv_price.specs.declared.goal.Goal.{Goal}
use Rattle.rv_price.specs.declared.goal.Goal.TheVariants.{Lines, T, Cx, Quantum, Gates}
use Rattle.rv_words.specs.declared.command.Goal as asked
use Rattle.rv_words.specs.declared.command.Goal.TheVariants as asks

abbrev pub search_goal : Option asked.Goal → Goal
search_goal (Some asks.Lines) = Lines
search_goal (Some asks.Cx) = Cx
search_goal (Some asks.Quantum) = Quantum
search_goal (Some asks.Gates) = Gates
search_goal _ = T
