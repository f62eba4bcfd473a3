use Rattle.std.proofs.Common.{Err, sym, subst}
use Rattle.rv_faults.specs.declared.fault.Fault.{Fault}
use Rattle.rv_cmd.specs.Commands.{row_of}
use Rattle.rv_cmd.specs.Headline.{LeavesCounts, Performs}
use Rattle.rv_cmd.specs.Names.{names_read}
use Rattle.rv_cmd.proofs.inside.Counts.{counts_unmade, counts_written}
use Rattle.rv_cmd.proofs.inside.Performing.{performs_unmade, performs_written}
use Rattle.rv_cmd.proofs.top.convert.Goals as goal

pub returns-in-Ok-clause-performs : goal.returns-in-Ok-clause-performs
returns-in-Ok-clause-performs g c =
    let settings = c.args.settings.now in
    performs_written (row_of settings) (names_read settings) (g.F.Files.view c.args.files.now) (g.F.Files.view c.make.new.files)
    (g.O.Sink.view c.args.out.now) (g.O.Sink.view c.write.new.out) c.in-Ok.made c.write.result c.in-Ok.ensures c.write.ensures.whole c.write.ensures.broken

pub returns-in-Err-clause-performs : goal.returns-in-Err-clause-performs
returns-in-Err-clause-performs g c =
    let settings = c.args.settings.now in
    let old = g.F.Files.view c.args.files.now in
    let new = g.F.Files.view c.make.new.files in
    let out = g.O.Sink.view c.args.out.now in
    let P : Fault → Type 0 = λ fault. Performs (row_of settings) (names_read settings) (record { files = old; out = out }) (record { files = new; out = out }) (Err fault) in
    subst P (sym c.fault.ensures) (performs_unmade (row_of settings) (names_read settings) old new out c.in-Err.unmade c.in-Err.ensures)

pub returns-in-Ok-clause-counts : goal.returns-in-Ok-clause-counts
returns-in-Ok-clause-counts g c =
    let settings = c.args.settings.now in
    counts_written (row_of settings) (names_read settings) (g.F.Files.view c.args.files.now) (g.F.Files.view c.make.new.files)
    (g.O.Sink.view c.args.out.now) (g.O.Sink.view c.write.new.out) c.in-Ok.made c.write.result c.in-Ok.ensures c.write.ensures.whole c.write.ensures.broken

pub returns-in-Err-clause-counts : goal.returns-in-Err-clause-counts
returns-in-Err-clause-counts g c =
    let settings = c.args.settings.now in
    let old = g.F.Files.view c.args.files.now in
    let new = g.F.Files.view c.make.new.files in
    let out = g.O.Sink.view c.args.out.now in
    let P : Fault → Type 0 = λ fault. LeavesCounts (Err fault) (record { files = old; out = out }) (record { files = new; out = out }) in
    subst P (sym c.fault.ensures) (counts_unmade (row_of settings) (names_read settings) old new out c.in-Err.unmade c.in-Err.ensures)
