use Rattle.std.proofs.Common.{arith}
use Rattle.rv_templ.proofs.LinkedGates.{all_fit}
use Rattle.rv_templ.proofs.inside.LinkedWindows.{takes_it}
use Rattle.rv_templ.proofs.windows.set_window.Goals as goal

pub overflow_cast-len : goal.overflow_cast-len
overflow_cast-len c = omega (arith, c.recall_spot.ensures.count, c.len.ensures)

pub replace_window-requires-clause-fits : goal.replace_window-requires-clause-fits
replace_window-requires-clause-fits c = rw c.write_new-count.ensures.gates (all_fit _ _ c.recall_spot.ensures.good)

pub returns : goal.returns
returns c =
    let done = c.replace_window.ensures.done (c.replace_window.ensures.answer.1 (rw (c.write_new-count.ensures.gates, c.len.ensures) (takes_it _ _ _ _ c.recall_spot.ensures))) in
    rw (← c.write_new-count.ensures.gates, ← c.len.ensures) done
