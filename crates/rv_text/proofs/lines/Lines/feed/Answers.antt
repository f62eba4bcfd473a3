use Rattle.std.proofs.Common.{◌∙◌, sym, true, false}
use Rattle.rv_text.proofs.inside.Taking.{takes_line, takes_all, takes_on}
use Rattle.rv_text.proofs.lines.Lines.feed.Goals as goal

pub returns-in_ok-hold-in-Some-clause-ok : goal.returns-in_ok-hold-in-Some-clause-ok
returns-in_ok-hold-in-Some-clause-ok c = takes_line _ _ _ _ (sym c.line_end.ensures ∙ c.in-Some.is) (c.self.view_is ∙ c.in_ok-hold-in-Some.ensures.ok)

pub returns-in_ok-hold-in-Some-clause-text : goal.returns-in_ok-hold-in-Some-clause-text
returns-in_ok-hold-in-Some-clause-text c = takes_on _ _ _ _ true (takes_line _ _ _ _ (sym c.line_end.ensures ∙ c.in-Some.is) (c.self.view_is ∙ c.in_ok-hold-in-Some.ensures.ok)) c.requires.not_ready

pub returns-in_ok-hold-in-None-clause-ok : goal.returns-in_ok-hold-in-None-clause-ok
returns-in_ok-hold-in-None-clause-ok c = takes_all _ _ _ (sym c.line_end.ensures ∙ c.in-None.is) c.requires.not_ready c.in_ok-hold-in-None.ensures.ok

pub returns-in_ok-hold-in-None-clause-text : goal.returns-in_ok-hold-in-None-clause-text
returns-in_ok-hold-in-None-clause-text c = takes_on _ _ _ _ false (takes_all _ _ _ (sym c.line_end.ensures ∙ c.in-None.is) c.requires.not_ready c.in_ok-hold-in-None.ensures.ok) c.requires.not_ready
