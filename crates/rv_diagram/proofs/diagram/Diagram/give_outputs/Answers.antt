use Rattle.std.proofs.Common.{[]}
use Rattle.rv_diagram.proofs.inside.Copying.{still_on, still_self, still_then}
use Rattle.rv_diagram.proofs.diagram.Diagram.give_outputs.Goals as goal

pub returns-clause-kept : goal.returns-clause-kept
returns-clause-kept c =
    let start = c.args.self.now in
    let put = c.put_in.new.self in
    let kept = c.args.kept.now in
    still_then start put c.run_gates.new.self kept kept c.run_gates.new.kept [] (still_on start start put kept kept (still_self start kept c.requires.kept) c.in_ok-put_in.ensures.keeps)
    c.in_ok-run_gates.ensures.kept
