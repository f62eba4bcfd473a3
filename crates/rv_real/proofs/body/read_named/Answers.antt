use Rattle.std.proofs.Common.{◌≡◌, [], true, drop, arith, sym, ◌∙◌, Some}
use Rattle.rv_text.specs.Tokens.{tokens_of}
use Rattle.rv_real.specs.inside.Operands.{letter_in}
use Rattle.rv_real.proofs.inside.Placed.{IsMade, gate_made, as_many, wrong_count, repeated}
use Rattle.rv_real.proofs.body.read_named.Goals as goal

pub push-requires : goal.push-requires
push-requires c =
    let read = rw (c.from-controls.ensures, c.control_count.ensures) at c.in-Ok.ensures in
    let made : IsMade c.args.circuit.now c.args.name (tokens_of true [] (drop c.args.from c.args.line.now)) (Some c.in-Some.gate) =
    gate_made c.args.circuit.now c.args.name (tokens_of true [] (drop c.args.from c.args.line.now)) c.in-Ok.kept read.0 (Some c.in-Some.gate) (as_many _ _ _ _ read.0 _ read.1 read.2.count (c.if-kept-from.false ∙ c.from.ensures)) c.requires.takes (omega arith) read.1 read.2 c.if-kept.false c.in-Some.ensures in
    let same : c.in-Some.gate ≡ made.shape = let is = made.is in cc in
    rw same made.fits

pub returns-in-Some : goal.returns-in-Some
returns-in-Some c =
    let read = rw (c.from-controls.ensures, c.control_count.ensures) at c.in-Ok.ensures in
    let made : IsMade c.args.circuit.now c.args.name (tokens_of true [] (drop c.args.from c.args.line.now)) (Some c.in-Some.gate) =
    gate_made c.args.circuit.now c.args.name (tokens_of true [] (drop c.args.from c.args.line.now)) c.in-Ok.kept read.0 (Some c.in-Some.gate) (as_many _ _ _ _ read.0 _ read.1 read.2.count (c.if-kept-from.false ∙ c.from.ensures)) c.requires.takes (omega arith) read.1 read.2 c.if-kept.false c.in-Some.ensures in
    let same : c.in-Some.gate ≡ made.shape = let is = made.is in cc in
    rw (made.adds, ← same) c.push.ensures

pub returns-in-None : goal.returns-in-None
returns-in-None c =
    let read = rw (c.from-controls.ensures, c.control_count.ensures) at c.in-Ok.ensures in
    let made = gate_made c.args.circuit.now c.args.name (tokens_of true [] (drop c.args.from c.args.line.now)) c.in-Ok.kept read.0 _ (as_many _ _ _ _ read.0 _ read.1 read.2.count (c.if-kept-from.false ∙ c.from.ensures)) c.requires.takes (omega arith) read.1 read.2 c.if-kept.false c.in-None.ensures in
    let is = made.is in
    absurd (cc)

pub returns-then-kept-from : goal.returns-then-kept-from
returns-then-kept-from c =
    let read = rw (c.from-controls.ensures, c.control_count.ensures) at c.in-Ok.ensures in
    wrong_count c.args.circuit.now (letter_in c.args.name.kind) c.args.name.operands _ (tokens_of true [] (drop c.args.from c.args.line.now)) read.0 read.1 read.2.count
    (λ same. c.if-kept-from.true (same ∙ sym c.from.ensures))

pub returns-then-kept : goal.returns-then-kept
returns-then-kept c =
    let read = rw (c.from-controls.ensures, c.control_count.ensures) at c.in-Ok.ensures in
    repeated c.args.circuit.now (letter_in c.args.name.kind) c.args.name.operands (tokens_of true [] (drop c.args.from c.args.line.now)) read.0 read.1
    (as_many _ _ _ _ read.0 _ read.1 read.2.count (c.if-kept-from.false ∙ c.from.ensures)) (sym read.2.is_repeated ∙ c.if-kept.true)
