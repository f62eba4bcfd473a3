use Rattle.std.proofs.Common.{◌≡◌, sym, refl, ◌∙◌}
use Rattle.std.specs.Prelude.{Option, Some, None, IfSome, IfNone}
use Rattle.rv_templ.specs.inside.Library.{templates_in}
use Rattle.rv_templ.specs.Windows.{NoWindow}
use Rattle.rv_templ.specs.Choices.{Found}
use Rattle.rv_templ.proofs.MeaningLaws.{no_window}
use Rattle.rv_templ.proofs.inside.KeepingLaws.{chosen, here, kept, is_window}
use Rattle.rv_templ.proofs.search.find_window.Goals as goal

if_some : (o : Option Found) (P : Found → Type 0) → ((f : Found) → o ≡ Some f → P f) → IfSome o P
if_some None P h = tt
if_some (Some f) P h = h f refl

if_none : (o : Option Found) (P : Type 0) → (o ≡ None → P) → IfNone o P
if_none None P h = h refl
if_none (Some f) P h = tt

pub returns-clause-window : goal.returns-clause-window
returns-clause-window c =
    if_some c.search.result _ (λ f e n most good.
    is_window n c.args.gates.now (templates_in c.args.templates.now) f (chosen c.args.gates.now (templates_in c.args.templates.now) f (sym c.search.ensures ∙ e))
    (here n (templates_in c.args.templates.now) c.args.gates.now f c.requires.templates most good (sym c.search.ensures ∙ e)))

pub returns-clause-keeps : goal.returns-clause-keeps
returns-clause-keeps c =
    if_some c.search.result _ (λ f e n most good.
    kept n c.args.gates.now (templates_in c.args.templates.now) f good (here n (templates_in c.args.templates.now) c.args.gates.now f c.requires.templates most good (sym c.search.ensures ∙ e)))

pub returns-clause-none : goal.returns-clause-none
returns-clause-none c =
    if_none c.search.result (NoWindow c.args.gates.now (templates_in c.args.templates.now))
    (λ e. no_window c.args.gates.now (templates_in c.args.templates.now) c.requires.templates (sym c.search.ensures ∙ e))
