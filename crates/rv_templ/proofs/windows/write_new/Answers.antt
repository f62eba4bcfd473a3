use Rattle.std.proofs.Common.{arith}
use Rattle.rv_templ.proofs.inside.ChoiceLemmas.{length-templates}
use Rattle.rv_templ.proofs.windows.write_new.Goals as goal

pub fill_found-requires-clause-place : goal.fill_found-requires-clause-place
fill_found-requires-clause-place c = omega (arith, c.recall_spot.ensures.template, length-templates c.args.templates.now)

pub fill_found-requires-clause-window : goal.fill_found-requires-clause-window
fill_found-requires-clause-window c = rw (c.copy_from-n.ensures.gates, c.len.ensures) c.recall_spot.ensures.replaced

pub returns-clause-count : goal.returns-clause-count
returns-clause-count c = rw (← c.len.ensures, ← c.copy_from-n.ensures.gates) c.fill_found.ensures.count

pub returns-clause-gates : goal.returns-clause-gates
returns-clause-gates c = rw (← c.len.ensures, ← c.copy_from-n.ensures.gates) c.fill_found.ensures.gates
