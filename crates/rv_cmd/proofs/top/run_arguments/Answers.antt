use Rattle.rv_words.specs.Settings.{texts}
use Rattle.rv_cmd.proofs.inside.Naming.{names_an_input}
use Rattle.rv_cmd.proofs.top.run_arguments.Goals as goal

pub report-requires : goal.report-requires
report-requires g c =
    names_an_input (texts c.args.arguments.now) c.run_unreported-end.result
    (record { files = g.F.Files.view c.args.files.now; out = g.O.Sink.view c.args.out.now })
    (record { files = g.F.Files.view c.run_unreported-end.new.files; out = g.O.Sink.view c.run_unreported-end.new.out }) c.run_unreported-end.ensures.ends
