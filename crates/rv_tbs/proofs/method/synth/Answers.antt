use Rattle.std.proofs.Common.{◌≡◌, ◌*◌, ◌^◌, ◌≤◌, List, length, ap, sym, subst, arith}
use Rattle.std.proofs.lemmas.Result.{IfOk-weaker}
use Rattle.rv_gate.specs.Circuit.{Cascade}
use Rattle.rv_gate.specs.declared.gate.Shape.{Shape}
use Rattle.rv_perm.specs.Perm.{Table, IsPerm, Computes}
use Rattle.rv_tbs.specs.declared.method.Method.{Method}
use Rattle.rv_tbs.specs.Synthesis.{gates_of}
use Rattle.rv_tbs.proofs.inside.Loops.{flips_at, gates_at, gates_bound}
use Rattle.rv_tbs.proofs.inside.BothSides.{Synthesizes}
use Rattle.rv_tbs.proofs.Methods.{gates_of-synthesizes}
use Rattle.rv_tbs.proofs.Turned.{AreTurning-turning}
use Rattle.rv_tbs.proofs.method.synth.Goals as goal

-- the gates that were found are those of the method, for the table of the permutation
good_gates : (method : Method) (t want : Table) (gates : List Shape) → t ≡ want → gates ≡ gates_of method t.lines t.images → IsPerm want.lines want.images
    → Synthesizes want.lines want.images gates
good_gates method t want gates same is valid =
    let P : Table → Type 0 = λ v. gates ≡ gates_of method v.lines v.images in
    rw (subst P same is) (gates_of-synthesizes method want.lines want.images valid)

-- they are flips on the lines of the permutation, and few
pub circuit_on-requires-clause-valid : goal.circuit_on-requires-clause-valid
circuit_on-requires-clause-valid c k d h =
    let good = good_gates c.args.method _ c.args.spec.now.table c.in_ok-gates.gates.items c.perm.ensures.value c.in_ok-gates.ensures c.perm.ensures.valid.permutes in
    gates_at c.args.spec.now.table.lines c.in_ok-gates.gates.items good.flips k d h

pub circuit_on-requires-clause-fits : goal.circuit_on-requires-clause-fits
circuit_on-requires-clause-fits c k d h =
    let good = good_gates c.args.method _ c.args.spec.now.table c.in_ok-gates.gates.items c.perm.ensures.value c.in_ok-gates.ensures c.perm.ensures.valid.permutes in
    (flips_at c.args.spec.now.table.lines c.in_ok-gates.gates.items good.flips k d h).1

pub circuit_on-requires-clause-room : goal.circuit_on-requires-clause-room
circuit_on-requires-clause-room c =
    let good = good_gates c.args.method _ c.args.spec.now.table c.in_ok-gates.gates.items c.perm.ensures.value c.in_ok-gates.ensures c.perm.ensures.valid.permutes in
    omega (arith, good.few, gates_bound c.args.spec.now.table.lines c.perm.ensures.valid.permutes.1)

-- the circuit has no other gates
pub returns-clause-computes : goal.returns-clause-computes
returns-clause-computes c =
    let t : Table = c.args.spec.now.table in
    let good = good_gates c.args.method _ c.args.spec.now.table c.in_ok-gates.gates.items c.perm.ensures.value c.in_ok-gates.ensures c.perm.ensures.valid.permutes in
    let P : List Shape → Type 0 = λ gates. Computes t.lines gates t.images in
    IfOk-weaker c.circuit_on.result _ _ (λ made is. subst P (sym (ap (λ (v : Cascade). v.gates) is)) good.computes) c.circuit_on.ensures

pub returns-clause-bound : goal.returns-clause-bound
returns-clause-bound c =
    let t : Table = c.args.spec.now.table in
    let good = good_gates c.args.method _ c.args.spec.now.table c.in_ok-gates.gates.items c.perm.ensures.value c.in_ok-gates.ensures c.perm.ensures.valid.permutes in
    let P : List Shape → Type 0 = λ gates. length gates ≤ t.lines * 2 ^ t.lines in
    IfOk-weaker c.circuit_on.result _ _ (λ made is. subst P (sym (ap (λ (v : Cascade). v.gates) is)) good.few) c.circuit_on.ensures

-- the flips of a turning are those that are due, and no others
pub returns-clause-flips : goal.returns-clause-flips
returns-clause-flips c = AreTurning-turning

pub returns-in_err-gates-clause-flips : goal.returns-in_err-gates-clause-flips
returns-in_err-gates-clause-flips c = AreTurning-turning
