-- Worked examples.
use Rattle.std.proofs.Common.{◌≡◌, ◌++◌, arith, refl}
use Rattle.std.proofs.lemmas.Fmt.{decimal_digit}
use Rattle.std.specs.Prelude.{codes}
use Rattle.rv_net.specs.Network.{toffoli}
use Rattle.rv_net.specs.declared.op.Op.TheVariants.{Cswap}
use Rattle.rv_qasm.specs.Text.{statement, text_of}

toffoli_text : text_of (record { lines = 3; ops = toffoli 0 1 2 })
    ≡ codes "OPENQASM 2.0;\ninclude \"qelib1.inc\";\nqreg q[3];\n" ++ (codes "h q[2];\ncx q[1],q[2];\ntdg q[2];\ncx q[0],q[2];\nt q[2];\n"
    ++ codes "cx q[1],q[2];\ntdg q[2];\ncx q[0],q[2];\nt q[1];\nt q[2];\nh q[2];\ncx q[0],q[1];\nt q[0];\ntdg q[1];\ncx q[0],q[1];\n")
unfolding text_of toffoli
toffoli_text = rw (decimal_digit 0 (omega arith), decimal_digit 1 (omega arith), decimal_digit 2 (omega arith), decimal_digit 3 (omega arith)) refl

controls_first : statement (Cswap 3 0 1) ≡ codes "cswap q[3],q[0],q[1];\n"
controls_first = rw (decimal_digit 0 (omega arith), decimal_digit 1 (omega arith), decimal_digit 3 (omega arith)) refl
