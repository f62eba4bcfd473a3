use Rattle.std.proofs.Common.{refl}
use Rattle.rv_words.specs.Settings.{settings_of, texts}
use Rattle.rv_cmd.specs.Safe.{scene_of}
use Rattle.rv_cmd.proofs.Statuses.{never_4, safe_by}
use Rattle.rv_cmd.proofs.safe.run_safely.Goals as goal

pub returns-clause-unfailing : goal.returns-clause-unfailing
returns-clause-unfailing g c =
    never_4 (texts c.args.arguments.now) c.args.files.now c.run.new.files c.args.out.now c.run.new.out (g.E.Sink.view c.args.errs.now) (g.E.Sink.view c.run.new.errs) c.run.result
    c.run.ensures.headline

pub returns-clause-safe : goal.returns-clause-safe
returns-clause-safe g c =
    safe_by (settings_of (texts c.args.arguments.now)) (scene_of c.args.files.now c.args.out.now) (scene_of c.run.new.files c.run.new.out) c.run.result c.run.ensures.complete
    (never_4 (texts c.args.arguments.now) c.args.files.now c.run.new.files c.args.out.now c.run.new.out (g.E.Sink.view c.args.errs.now) (g.E.Sink.view c.run.new.errs) c.run.result
    c.run.ensures.headline) refl
