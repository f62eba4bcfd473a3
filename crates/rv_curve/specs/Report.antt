-- The report of circuits on more and more lines: a line of names, and one for each circuit.
use Rattle.std.specs.Prelude.{ℕ, List, ◌++◌, Option, Some, None, codes, decimal, flat_map}
use Rattle.rv_price.specs.declared.goal.Goal.{Goal}
use Rattle.rv_price.specs.declared.goal.Goal.TheVariants.{Lines, T, Cx, Quantum, Gates}
use Rattle.rv_curve.specs.declared.report.Search.{Search}
use Rattle.rv_curve.specs.declared.report.Search.TheVariants.{Realize, Compute}
use Rattle.rv_curve.specs.declared.row.Counts.{Counts}
use Rattle.rv_curve.specs.declared.row.Row.{Row}

abbrev pub search_words : Search → List ℕ
search_words Realize = codes "rev realize --lines "
search_words Compute = codes "rev compute --lines "

abbrev pub goal_word : Goal → List ℕ
goal_word Lines = codes "lines"
goal_word T = codes "t"
goal_word Cx = codes "cx"
goal_word Quantum = codes "quantum"
goal_word Gates = codes "gates"

-- T and CNOT, or that there is no such network
abbrev pub counts_text : Option Counts → List ℕ
counts_text None = codes "- -"
counts_text (Some counts) = decimal counts.t ++ (codes " " ++ decimal counts.cnot)

-- the call by which the circuit was asked for
abbrev pub call_text : Search → Goal → ℕ → Row → List ℕ
call_text search goal seed row =
    search_words search ++ (decimal row.most
    ++ (codes " --goal " ++ (goal_word goal
    ++ (codes " --effort " ++ (decimal row.effort
    ++ (codes " --seed " ++ decimal seed))))))

-- numbers apart by a blank, and the call after them
abbrev pub row_text : Search → Goal → ℕ → Row → List ℕ
row_text search goal seed row =
    decimal row.lines ++ (codes " "
    ++ (counts_text row.counts ++ (codes " "
    ++ (decimal row.quantum ++ (codes " "
    ++ (decimal row.gates ++ (codes " "
    ++ (call_text search goal seed row ++ codes "\n"))))))))

abbrev pub curve_text : Search → Goal → ℕ → List Row → List ℕ
curve_text search goal seed rows = codes "lines t cnot quantum gates call\n" ++ flat_map (row_text search goal seed) rows
