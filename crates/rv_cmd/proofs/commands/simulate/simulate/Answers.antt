use Rattle.std.proofs.Common.{Err, sym, subst}
use Rattle.rv_inputs.specs.Formats.{circuit}
use Rattle.rv_faults.specs.declared.fault.Fault.{Fault}
use Rattle.std.proofs.Common.{[], ◌∷◌}
use Rattle.rv_cmd.specs.Headline.{LeavesCounts, Performs}
use Rattle.rv_cmd.proofs.Laws.Simulate as law
use Rattle.rv_cmd.proofs.inside.Counts.{counts_then, counts_unread}
use Rattle.rv_cmd.proofs.commands.simulate.simulate.Goals as goal

pub returns-in-Ok-clause-performs : goal.returns-in-Ok-clause-performs
returns-in-Ok-clause-performs g c =
    law.performs_ready c.args.all c.args.circuit.now c.args.words.now c.in-Ok.object (g.F.Files.view c.args.files.now) (g.F.Files.view c.read_input.new.files) (g.F.Files.view c.answer.new.files)
    (g.O.Sink.view c.args.out.now) (g.O.Sink.view c.answer.new.out) c.answer.result c.in-Ok.ensures.read c.in-Ok.ensures.keeps c.answer.ensures.performs

pub returns-in-Err-clause-performs : goal.returns-in-Err-clause-performs
returns-in-Err-clause-performs g c =
    let old = g.F.Files.view c.args.files.now in
    let new = g.F.Files.view c.read_input.new.files in
    let out = g.O.Sink.view c.args.out.now in
    let P : Fault → Type 0 = λ fault. Performs (law.row c.args.all) (c.args.circuit.now ∷ c.args.words.now ∷ []) (record { files = old; out = out }) (record { files = new; out = out }) (Err fault) in
    subst P (sym c.fault.ensures) (law.performs_unready c.args.all c.args.circuit.now c.args.words.now old new out c.in-Err.unmade c.read_input.ensures.stays c.in-Err.ensures.unread)

pub returns-in-Ok-clause-counts : goal.returns-in-Ok-clause-counts
returns-in-Ok-clause-counts g c =
    counts_then c.answer.result (g.F.Files.view c.args.files.now) (g.F.Files.view c.read_input.new.files) (g.F.Files.view c.answer.new.files)
    (g.O.Sink.view c.args.out.now) (g.O.Sink.view c.answer.new.out) c.in-Ok.ensures.read.uncounted c.answer.ensures.counts

pub returns-in-Err-clause-counts : goal.returns-in-Err-clause-counts
returns-in-Err-clause-counts g c =
    let old = g.F.Files.view c.args.files.now in
    let new = g.F.Files.view c.read_input.new.files in
    let out = g.O.Sink.view c.args.out.now in
    let P : Fault → Type 0 = λ fault. LeavesCounts (Err fault) (record { files = old; out = out }) (record { files = new; out = out }) in
    subst P (sym c.fault.ensures) (counts_unread circuit 0 c.args.circuit.now old new out c.in-Err.unmade c.in-Err.ensures.unread)
