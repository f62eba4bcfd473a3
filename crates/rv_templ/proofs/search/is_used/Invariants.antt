use Rattle.std.proofs.Common.{◌≡◌, ◌≢◌, ℕ, ◌<◌, true}
use Rattle.rv_gate.specs.Word.{has}
use Rattle.rv_templ.specs.Images.{new_line}
use Rattle.rv_templ.proofs.search.is_used.Given as goal

abbrev pub invariant-loop-j : goal.invariant-loop-j
invariant-loop-j l = (k : ℕ) → k < l.j → has l.own k ≡ true → new_line l.to k ≢ l.v
