use Rattle.std.proofs.Common.{◌≡◌, ℕ, All, List, length, sym, ap, ◌∙◌, subst}
use Rattle.rv_gate.proofs.inside.GateLemmas.{length-run}
use Rattle.rv_gate.specs.inside.laws.WordLaws.{length-word_of}
use Rattle.rv_net.specs.Op.{OpFitsIn}
use Rattle.rv_net.specs.declared.op.Op.{Op}
use Rattle.rv_sums.proofs.inside.Words.{found_at}
use Rattle.rv_sums.proofs.by_paths.differs_at.Goals as goal

pub run-image-requires : goal.run-image-requires
run-image-requires c =
    ap length c.in-Some.ensures.1 ∙ length-word_of c.lines-lines.result c.args.number ∙ c.lines-lines.ensures.value ∙ sym c.requires

pub differs-requires-clause-image : goal.differs-requires-clause-image
differs-requires-clause-image c = ap length c.run-image.ensures ∙ length-run c.args.circuit.now.gates c.in-Some.word

pub differs-requires-clause-fits : goal.differs-requires-clause-fits
differs-requires-clause-fits c =
    let net = c.args.net.now in
    let len : length c.in-Some.word ≡ net.lines =
    ap length c.in-Some.ensures.1 ∙ length-word_of c.lines-lines.result c.args.number ∙ c.lines-lines.ensures.value in
    subst (λ (l : List Op). All (λ op. OpFitsIn op (length c.in-Some.word)) l) (sym c.ops.ensures)
    (subst (λ (n : ℕ). All (λ op. OpFitsIn op n) net.ops) (sym len) c.lines-lines.ensures.valid.fitting)

pub returns-in-Ok : goal.returns-in-Ok
returns-in-Ok c on =
    found_at c.args.marks.now c.args.circuit.now c.args.net.now c.lines-lines.result c.args.number c.in-Some.word c.run-image.result c.ops.result.now
    c.lines-lines.ensures.value c.in-Some.ensures.0.1 c.in-Some.ensures.1 c.run-image.ensures c.ops.ensures (c.has_constants.ensures c.if-not-has_constants.false)
    (c.in-Ok.ensures on)
