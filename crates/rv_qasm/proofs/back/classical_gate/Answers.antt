use Rattle.std.proofs.Common.{refl}
use Rattle.rv_net.specs.declared.op.Op.TheVariants.{Cx, Ccx, Cswap}
use Rattle.rv_qasm.proofs.BackLaws.{moves, made}
use Rattle.rv_qasm.proofs.back.classical_gate.Goals as goal

pub returns-in-Cx : goal.returns-in-Cx
returns-in-Cx c =
    let fits = rw c.in-Cx.is at c.requires.fits in
    let is = rw (c.set_of.ensures, c.set_of-in-Cx.ensures) at c.flip-in-Cx.ensures in
    rw c.in-Cx.is (made c.flip-in-Cx.result _ _ is ((moves (Cx c.in-Cx.a c.in-Cx.b) c.args.lines fits _ refl).gate c.requires.few))

pub returns-in-Ccx : goal.returns-in-Ccx
returns-in-Ccx c =
    let fits = rw c.in-Ccx.is at c.requires.fits in
    let is = rw (c.set_of-in-Ccx.ensures, c.set_of-in-Ccx-2.ensures, c.set_of-in-Ccx-3.ensures, c.set_of-in-Ccx-4.ensures) at c.flip-in-Ccx.ensures in
    rw c.in-Ccx.is (made c.flip-in-Ccx.result _ _ is ((moves (Ccx c.in-Ccx.a c.in-Ccx.b c.in-Ccx.c) c.args.lines fits _ refl).gate c.requires.few))

pub returns-in-Cswap : goal.returns-in-Cswap
returns-in-Cswap c =
    let fits = rw c.in-Cswap.is at c.requires.fits in
    let is = rw (c.set_of-in-Cswap.ensures, c.set_of-in-Cswap-2.ensures) at c.swap-in-Cswap.ensures in
    rw c.in-Cswap.is (made c.swap-in-Cswap.result _ _ is ((moves (Cswap c.in-Cswap.c c.in-Cswap.a c.in-Cswap.b) c.args.lines fits _ refl).gate c.requires.few))
