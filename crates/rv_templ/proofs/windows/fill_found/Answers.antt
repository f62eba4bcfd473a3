use Rattle.rv_templ.proofs.windows.fill_found.Goals as goal

pub fill-requires-clause-window : goal.fill-requires-clause-window
fill-requires-clause-window c = rw c.template_of-template.ensures.value (rw (← c.found.view_is) at c.requires.window)

pub returns-clause-count : goal.returns-clause-count
returns-clause-count c = rw (← c.found.view_is, ← c.template_of-template.ensures.value) c.fill.ensures.count

pub returns-clause-gates : goal.returns-clause-gates
returns-clause-gates c = rw (← c.found.view_is, ← c.template_of-template.ensures.value) c.fill.ensures.gates
