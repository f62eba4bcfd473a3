use Rattle.std.proofs.Common.{◌∙◌, ap}
use Rattle.rv_perm.specs.Marked.{unmarked}
use Rattle.rv_tbs.specs.Synthesis.{synthesis_of}
use Rattle.rv_tbs.specs.declared.method.Method.TheVariants.{Best}
use Rattle.rv_flow.proofs.inside.Summaries.{found-few}
use Rattle.rv_flow.proofs.summary.circuits.Goals as goal

pub returns-clause-found : goal.returns-clause-found
returns-clause-found c = c.in_ok-found.ensures.circuit ∙ ap (synthesis_of Best) (c.new-spec.ensures ∙ ap unmarked c.in_ok-generate.ensures)

pub returns-clause-few : goal.returns-clause-few
returns-clause-few c =
    found-few c.args.lines c.args.seed c.new-spec.result c.in_ok-found.found c.in_ok-simpler.simpler c.requires.some c.requires.few
    (c.new-spec.ensures ∙ ap unmarked c.in_ok-generate.ensures) c.in_ok-found.ensures.circuit c.in_ok-simpler.ensures
