use Rattle.std.proofs.Common.{ap, codes, refl, sym}
use Rattle.rv_io.proofs.Adding.{adds_as}
use Rattle.rv_qasm.specs.Text.{statement}
use Rattle.rv_qasm.proofs.write.put_statement.Goals as goal

pub returns-in-X : goal.returns-in-X
returns-in-X g c = adds_as (ap statement (sym c.in-X.is)) (c.put_one.ensures (codes "x") c.requires.texts.x)

pub returns-in-Y : goal.returns-in-Y
returns-in-Y g c = adds_as (ap statement (sym c.in-Y.is)) (c.put_named_one.ensures (codes "y") refl)

pub returns-in-Z : goal.returns-in-Z
returns-in-Z g c = adds_as (ap statement (sym c.in-Z.is)) (c.put_named_one-in-Z.ensures (codes "z") refl)

pub returns-in-H : goal.returns-in-H
returns-in-H g c = adds_as (ap statement (sym c.in-H.is)) (c.put_one-in-H.ensures (codes "h") c.requires.texts.h)

pub returns-in-S : goal.returns-in-S
returns-in-S g c = adds_as (ap statement (sym c.in-S.is)) (c.put_named_one-in-S.ensures (codes "s") refl)

pub returns-in-Sdg : goal.returns-in-Sdg
returns-in-Sdg g c = adds_as (ap statement (sym c.in-Sdg.is)) (c.put_named_one-in-Sdg.ensures (codes "sdg") refl)

pub returns-in-T : goal.returns-in-T
returns-in-T g c = adds_as (ap statement (sym c.in-T.is)) (c.put_one-in-T.ensures (codes "t") c.requires.texts.t)

pub returns-in-Tdg : goal.returns-in-Tdg
returns-in-Tdg g c = adds_as (ap statement (sym c.in-Tdg.is)) (c.put_one-in-Tdg.ensures (codes "tdg") c.requires.texts.tdg)

pub returns-in-Cx : goal.returns-in-Cx
returns-in-Cx g c = adds_as (ap statement (sym c.in-Cx.is)) (c.put_two.ensures (codes "cx") c.requires.texts.cx)

pub returns-in-Cz : goal.returns-in-Cz
returns-in-Cz g c = adds_as (ap statement (sym c.in-Cz.is)) (c.put_named_two.ensures (codes "cz") refl)

pub returns-in-Ccx : goal.returns-in-Ccx
returns-in-Ccx g c = adds_as (ap statement (sym c.in-Ccx.is)) (c.put_named_three.ensures (codes "ccx") refl)

pub returns-in-Swap : goal.returns-in-Swap
returns-in-Swap g c = adds_as (ap statement (sym c.in-Swap.is)) (c.put_named_two-in-Swap.ensures (codes "swap") refl)

pub returns-in-Cswap : goal.returns-in-Cswap
returns-in-Cswap g c = adds_as (ap statement (sym c.in-Cswap.is)) (c.put_named_three-in-Cswap.ensures (codes "cswap") refl)
