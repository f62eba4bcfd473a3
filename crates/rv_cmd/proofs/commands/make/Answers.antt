use Rattle.rv_words.specs.declared.command.Command.{Command}
use Rattle.rv_words.specs.declared.command.Command.TheVariants as command
use Rattle.rv_words.specs.Values.{IsLineCount}
use Rattle.rv_cmd.proofs.Laws.Demo.{demo-makes}
use Rattle.rv_cmd.proofs.inside.Naming.{names_read-by, names_read-nothing}
use Rattle.rv_cmd.proofs.commands.make.Goals as goal
use Rattle.std.proofs.Common.{refl, subst}

pub of_one-requires : goal.of_one-requires
of_one-requires g c = names_read-by c.args.settings.now command.Synth c.requires.asked c.in-Synth.is refl

pub of_one-requires-in-Embed : goal.of_one-requires-in-Embed
of_one-requires-in-Embed g c = names_read-by c.args.settings.now command.Embed c.requires.asked c.in-Embed.is refl

pub esop-requires : goal.esop-requires
esop-requires g c = names_read-by c.args.settings.now command.Esop c.requires.asked c.in-Esop.is refl

pub of_one-requires-in-Decompose : goal.of_one-requires-in-Decompose
of_one-requires-in-Decompose g c = names_read-by c.args.settings.now command.Decompose c.requires.asked c.in-Decompose.is refl

pub map-requires : goal.map-requires
map-requires g c = names_read-by c.args.settings.now command.Map c.requires.asked c.in-Map.is refl

pub of_one-requires-in-ToReal : goal.of_one-requires-in-ToReal
of_one-requires-in-ToReal g c = names_read-by c.args.settings.now command.ToReal c.requires.asked c.in-ToReal.is refl

pub of_one-requires-in-Fold : goal.of_one-requires-in-Fold
of_one-requires-in-Fold g c = names_read-by c.args.settings.now command.Fold c.requires.asked c.in-Fold.is refl

pub of_one-requires-in-Single : goal.of_one-requires-in-Single
of_one-requires-in-Single g c = names_read-by c.args.settings.now command.Single c.requires.asked c.in-Single.is refl

pub of_one-requires-in-Route : goal.of_one-requires-in-Route
of_one-requires-in-Route g c = names_read-by c.args.settings.now command.Route c.requires.asked c.in-Route.is refl

pub draw-requires : goal.draw-requires
draw-requires g c = names_read-by c.args.settings.now command.Draw c.requires.asked c.in-Draw.is refl

pub reduce-requires : goal.reduce-requires
reduce-requires g c = names_read-by c.args.settings.now command.Reduce c.requires.asked c.in-Reduce.is refl

pub check-requires : goal.check-requires
check-requires g c = names_read-by c.args.settings.now command.Check c.requires.asked c.in-Check.is refl

pub compare-requires : goal.compare-requires
compare-requires g c = names_read-by c.args.settings.now command.Compare c.requires.asked c.in-Compare.is refl

pub resynth-requires : goal.resynth-requires
resynth-requires g c = names_read-by c.args.settings.now command.Resynth c.requires.asked c.in-Resynth.is refl

pub compute-requires-clause-input : goal.compute-requires-clause-input
compute-requires-clause-input g c = names_read-by c.args.settings.now command.Compute c.requires.asked c.in-Compute.is refl

pub compute-requires-clause-lines : goal.compute-requires-clause-lines
compute-requires-clause-lines g c =
    let Few : Command → Type 0 = λ doing. IsLineCount doing c.args.settings.now.lines in (subst Few c.in-Compute.is c.requires.asked.lines).1

pub optimal-requires : goal.optimal-requires
optimal-requires g c = names_read-by c.args.settings.now command.Optimal c.requires.asked c.in-Optimal.is refl

pub realize-requires-clause-input : goal.realize-requires-clause-input
realize-requires-clause-input g c = names_read-by c.args.settings.now command.Realize c.requires.asked c.in-Realize.is refl

pub realize-requires-clause-lines : goal.realize-requires-clause-lines
realize-requires-clause-lines g c =
    let Few : Command → Type 0 = λ doing. IsLineCount doing c.args.settings.now.lines in (subst Few c.in-Realize.is c.requires.asked.lines).1

pub cost-requires : goal.cost-requires
cost-requires g c = names_read-by c.args.settings.now command.Cost c.requires.asked c.in-Cost.is refl

pub flow-requires : goal.flow-requires
flow-requires g c = names_read-by c.args.settings.now command.Flow c.requires.asked c.in-Flow.is refl

pub demo-requires-clause-some : goal.demo-requires-clause-some
demo-requires-clause-some g c =
    let Few : Command → Type 0 = λ doing. IsLineCount doing c.args.settings.now.lines in (subst Few c.in-Demo.is c.requires.asked.lines).0

pub demo-requires-clause-few : goal.demo-requires-clause-few
demo-requires-clause-few g c =
    let Few : Command → Type 0 = λ doing. IsLineCount doing c.args.settings.now.lines in (subst Few c.in-Demo.is c.requires.asked.lines).1

pub returns-in-Demo : goal.returns-in-Demo
returns-in-Demo g c =
    let settings = c.args.settings.now in
    let view = g.F.Files.view c.args.files.now in
    demo-makes settings view c.demo.result c.in-Demo.is (names_read-nothing settings command.Demo c.requires.asked c.in-Demo.is refl refl) (c.demo.ensures view)
