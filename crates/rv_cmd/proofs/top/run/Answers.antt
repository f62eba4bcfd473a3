use Rattle.rv_words.specs.Settings.{texts}
use Rattle.rv_cmd.specs.Headline.{Scene}
use Rattle.rv_cmd.proofs.Completeness as completeness
use Rattle.rv_cmd.proofs.Laws.Check.{check-kept}
use Rattle.rv_cmd.proofs.inside.Taken.{operations-kept, template-kept}
use Rattle.rv_cmd.proofs.top.run.Goals as goal

pub returns-clause-complete : goal.returns-clause-complete
returns-clause-complete g c =
    completeness.complete (texts c.args.arguments.now)
    (record { files = g.F.Files.view c.args.files.now; out = g.O.Sink.view c.args.out.now })
    (record { files = g.F.Files.view c.run_arguments.new.files; out = g.O.Sink.view c.run_arguments.new.out })
    (g.E.Sink.view c.args.errs.now) (g.E.Sink.view c.run_arguments.new.errs) c.run_arguments.result c.run_arguments.ensures

pub returns-clause-exact : goal.returns-clause-exact
returns-clause-exact g c =
    let arguments = texts c.args.arguments.now in
    let old : Scene = record { files = g.F.Files.view c.args.files.now; out = g.O.Sink.view c.args.out.now } in
    let new : Scene = record { files = g.F.Files.view c.run_arguments.new.files; out = g.O.Sink.view c.run_arguments.new.out } in
    completeness.exact arguments old new c.run_arguments.result
    (completeness.complete arguments old new (g.E.Sink.view c.args.errs.now) (g.E.Sink.view c.run_arguments.new.errs) c.run_arguments.result c.run_arguments.ensures)

pub returns-clause-differing : goal.returns-clause-differing
returns-clause-differing g c =
    completeness.only-compared (texts c.args.arguments.now)
    (record { files = g.F.Files.view c.args.files.now; out = g.O.Sink.view c.args.out.now })
    (record { files = g.F.Files.view c.run_arguments.new.files; out = g.O.Sink.view c.run_arguments.new.out })
    (g.E.Sink.view c.args.errs.now) (g.E.Sink.view c.run_arguments.new.errs) c.run_arguments.result c.run_arguments.ensures

pub returns-clause-uncounted : goal.returns-clause-uncounted
returns-clause-uncounted g c =
    completeness.uncounted (texts c.args.arguments.now)
    (record { files = g.F.Files.view c.args.files.now; out = g.O.Sink.view c.args.out.now })
    (record { files = g.F.Files.view c.run_arguments.new.files; out = g.O.Sink.view c.run_arguments.new.out })
    (g.E.Sink.view c.args.errs.now) (g.E.Sink.view c.run_arguments.new.errs) c.run_arguments.result c.run_arguments.ensures

pub returns-clause-written : goal.returns-clause-written
returns-clause-written g c =
    completeness.written (texts c.args.arguments.now)
    (record { files = g.F.Files.view c.args.files.now; out = g.O.Sink.view c.args.out.now })
    (record { files = g.F.Files.view c.run_arguments.new.files; out = g.O.Sink.view c.run_arguments.new.out })
    (g.E.Sink.view c.args.errs.now) (g.E.Sink.view c.run_arguments.new.errs) c.run_arguments.result c.run_arguments.ensures

pub returns-clause-terms : goal.returns-clause-terms
returns-clause-terms g c = record { template = template-kept; operations = operations-kept; check = check-kept }
