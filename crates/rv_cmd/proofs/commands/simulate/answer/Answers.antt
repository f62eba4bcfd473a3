use Rattle.rv_cmd.proofs.Laws.Simulate as law
use Rattle.rv_cmd.proofs.commands.simulate.answer.Goals as goal

pub returns-in-Ok-clause-performs : goal.returns-in-Ok-clause-performs
returns-in-Ok-clause-performs g c = λ first start ready.
    law.performs_done c.args.all c.args.circuit.now first c.args.name.now start (g.F.Files.view c.args.files.now) (g.F.Files.view c.simulate_words.new.files)
    (g.O.Sink.view c.args.out.now) (g.O.Sink.view c.simulate_words.new.out) ready (g.O.Sink.view c.flush.new.out) c.in-Done.ensures.named c.in-Done.ensures.ends c.in-Ok.ensures.flushed

pub returns-in-Err-clause-performs : goal.returns-in-Err-clause-performs
returns-in-Err-clause-performs g c = λ first start ready.
    law.performs_unflushed c.args.all c.args.circuit.now first c.args.name.now start (g.F.Files.view c.args.files.now) (g.F.Files.view c.simulate_words.new.files)
    (g.O.Sink.view c.args.out.now) (g.O.Sink.view c.simulate_words.new.out) ready (g.O.Sink.view c.flush.new.out) c.in-Done.ensures.later c.in-Done.ensures.named c.in-Done.ensures.ends c.in-Err.ensures.unflushed

pub returns-in-Wrong-clause-performs : goal.returns-in-Wrong-clause-performs
returns-in-Wrong-clause-performs g c = λ first start ready.
    law.performs_wrong c.args.all c.args.circuit.now first c.args.name.now start (g.F.Files.view c.args.files.now) (g.F.Files.view c.simulate_words.new.files)
    (g.O.Sink.view c.args.out.now) (g.O.Sink.view c.simulate_words.new.out) ready c.in-Wrong.line c.in-Wrong.ensures.named c.in-Wrong.ensures.ends

pub returns-in-Read-clause-performs : goal.returns-in-Read-clause-performs
returns-in-Read-clause-performs g c = λ first start ready.
    law.performs_cut c.args.all c.args.circuit.now first c.args.name.now start (g.F.Files.view c.args.files.now) (g.F.Files.view c.simulate_words.new.files)
    (g.O.Sink.view c.args.out.now) (g.O.Sink.view c.simulate_words.new.out) ready c.in-Read.ensures.named c.in-Read.ensures.ends

pub returns-in-TooLong-clause-performs : goal.returns-in-TooLong-clause-performs
returns-in-TooLong-clause-performs g c = λ first start ready.
    law.performs_too_long c.args.all c.args.circuit.now first c.args.name.now start (g.F.Files.view c.args.files.now) (g.F.Files.view c.simulate_words.new.files)
    (g.O.Sink.view c.args.out.now) (g.O.Sink.view c.simulate_words.new.out) ready c.in-TooLong.ensures.named c.in-TooLong.ensures.ends

pub returns-in-Write-clause-performs : goal.returns-in-Write-clause-performs
returns-in-Write-clause-performs g c = λ first start ready.
    law.performs_unsent c.args.all c.args.circuit.now first c.args.name.now start (g.F.Files.view c.args.files.now) (g.F.Files.view c.simulate_words.new.files)
    (g.O.Sink.view c.args.out.now) (g.O.Sink.view c.simulate_words.new.out) ready c.in-Write.ensures.named c.in-Write.ensures.ends
