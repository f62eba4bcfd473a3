use Rattle.std.proofs.Common.{◌+◌}
use Rattle.rv_qasm.specs.Back.{classical_length}
use Rattle.rv_qasm.specs.declared.back.BackFault.TheVariants as fault
use Rattle.rv_qasm.proofs.BackFaults.{not-classical, too-many}
use Rattle.rv_cmd.proofs.inside.Common.{[], ◌∷◌, IsNetwork, MOST_GATES, ap, at_most, few-unless, length, of_gates, refl, subst}
use Rattle.rv_cmd.proofs.Laws.ToReal.{toreal-answers}
use Rattle.rv_faults.specs.declared.fault.InputFault.TheVariants.{NotClassical}
use Rattle.rv_cmd.proofs.commands.toreal.ToRealOneInput.make.Goals as goal

pub returns-in-Ok-clause-made : goal.returns-in-Ok-clause-made
returns-in-Ok-clause-made c =
    let ops = c.args.program.now.net.ops in
    let e = rw c.net-net.ensures.value at c.in-Ok.ensures in
    let all = few-unless c.in-Ok.circuit (fault.NotClassical (classical_length ops + 1)) (length ops) (classical_length ops) (λ less. (e.not_classical _).1 ((not-classical ops _).1 (refl, less))) in
    let few = few-unless c.in-Ok.circuit (fault.TooManyGates (length ops)) (length ops) MOST_GATES (λ many. (e.too_many _).1 ((too-many ops _).1 (all, refl, many))) in
    toreal-answers c.args.program.now c.in-Ok.circuit (subst IsNetwork c.net-net.ensures.value c.recall_invariant.ensures) (all, (few, tt)) e.circuit c.recall_invariant-in-Ok.ensures

pub returns-in-Err-NotClassical-clause-unmade : goal.returns-in-Err-NotClassical-clause-unmade
returns-in-Err-NotClassical-clause-unmade c =
    let ops = c.args.program.now.net.ops in
    let e = rw c.net-net.ensures.value at c.in-Err-NotClassical.ensures in
    let why = (not-classical ops c.in-Err-NotClassical.place).0 ((e.not_classical _).0 (rw c.in-Err-NotClassical.field-0-is refl)) in
    c.passed.ensures (length ops) (classical_length ops) _ [] (of_gates (length ops) ∷ []) tt (ap (λ n. NotClassical n) why.0, why.1)

pub returns-in-Err-TooManyGates-clause-unmade : goal.returns-in-Err-TooManyGates-clause-unmade
returns-in-Err-TooManyGates-clause-unmade c =
    let ops = c.args.program.now.net.ops in
    let e = rw c.net-net.ensures.value at c.in-Err-TooManyGates.ensures in
    let why = (too-many ops c.in-Err-TooManyGates.count).0 ((e.too_many _).0 (rw c.in-Err-TooManyGates.field-0-is refl)) in
    c.too_many_gates.ensures (length ops) (at_most 0 (length ops) (classical_length ops) (NotClassical (classical_length ops + 1)) ∷ []) [] (why.0, tt) (why.1, why.2)
