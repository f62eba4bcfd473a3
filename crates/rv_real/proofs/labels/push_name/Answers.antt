use Rattle.std.proofs.Common.{ap, Err}
use Rattle.rv_real.proofs.NameLemmas.{name_added, name_taken}
use Rattle.rv_real.proofs.labels.push_name.Goals as goal

pub returns-in-Ok-clause-gives : goal.returns-in-Ok-clause-gives
returns-in-Ok-clause-gives c = λ closed.
    rw (c.if-quoted.false, c.in-Ok.ensures.ok)
    (name_added c.args.names.now c.args.name.now closed
    (λ no. let refused = c.in-Ok.ensures.not_a_name.1 no in absurd (cc))
    (λ line is at. let refused = (c.in-Ok.ensures.taken line).1 (is, at) in absurd (cc)))

pub returns-in-Err-Taken-clause-gives : goal.returns-in-Err-Taken-clause-gives
returns-in-Err-Taken-clause-gives c = λ closed.
    let why = (c.in-Err-Taken.ensures.taken c.in-Err-Taken.field-0-0).0 (ap Err c.in-Err-Taken.field-0-is) in
    rw c.if-quoted.false (name_taken c.args.names.now c.args.name.now c.in-Err-Taken.field-0-0 closed why.0 why.1)
