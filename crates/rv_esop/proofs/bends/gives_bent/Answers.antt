use Rattle.std.proofs.Common.{◌≡◌, ◌<◌, ◌*◌, ◌%◌, ◌^◌, length, ap, ◌∙◌, arith}
use Rattle.std.proofs.lemmas.Nat.{one_shl, pow_below}
use Rattle.rv_gate.specs.inside.laws.WordLaws.{length-word_of, number_of-lt}
use Rattle.rv_gate.proofs.inside.GateLemmas.{length-act}
use Rattle.rv_esop.proofs.inside.BentWords.{bend_fits, bent_by_number}
use Rattle.rv_esop.proofs.bends.gives_bent.Goals as goal

pub act-requires : goal.act-requires
act-requires c =
    let len : length c.in-Some.word ≡ c.args.old.now.inputs =
    ap length c.in-Some.ensures.1 ∙ length-word_of c.inputs-inputs.result c.from.result
    ∙ c.inputs-inputs.ensures.value in
    bend_fits c.args.from c.args.to (length c.in-Some.word) c.link_of-link.result c.link_of-link.ensures (omega arith)
    (omega arith)

pub overflow_cast-bent : goal.overflow_cast-bent
overflow_cast-bent c =
    let n = c.args.old.now.inputs in
    let len : length c.act.result ≡ n =
    ap length c.act.ensures ∙ length-act c.link_of-link.result c.in-Some.word ∙ ap length c.in-Some.ensures.1
    ∙ length-word_of c.inputs-inputs.result c.from.result ∙ c.inputs-inputs.ensures.value in
    let lt = number_of-lt c.act.result in
    let e : 2 ^ length c.act.result ≡ 2 ^ n = ap (λ k. 2 ^ k) len in
    let v = c.inputs-inputs.ensures.value in
    let few = c.inputs-inputs.ensures.few in
    let below : 2 ^ n < 2 ^ 32 = pow_below n 32 (omega arith) in
    let is = c.number-bent.ensures in
    omega arith

pub value-requires : goal.value-requires
value-requires c =
    let n = c.args.old.now.inputs in
    let len : length c.act.result ≡ n =
    ap length c.act.ensures ∙ length-act c.link_of-link.result c.in-Some.word ∙ ap length c.in-Some.ensures.1
    ∙ length-word_of c.inputs-inputs.result c.from.result ∙ c.inputs-inputs.ensures.value in
    let lt = number_of-lt c.act.result in
    let e : 2 ^ length c.act.result ≡ 2 ^ n = ap (λ k. 2 ^ k) len in
    let same : 2 ^ c.args.new.now.inputs ≡ 2 ^ n = ap (λ k. 2 ^ k) c.requires.inputs in
    let is = c.number-bent.ensures in
    omega arith

pub returns : goal.returns
returns c =
    λ on.
    let few = c.inputs-inputs.ensures.few in
    let e : 1 * 2 ^ c.inputs-inputs.result % 2 ^ 32 ≡ 2 ^ c.inputs-inputs.result =
    one_shl c.inputs-inputs.result 32 (omega arith) in
    let p : 2 ^ c.inputs-inputs.result ≡ 2 ^ c.args.old.now.inputs = ap (λ n. 2 ^ n) c.inputs-inputs.ensures.value in
    let t = c.loop-number-test.false in
    bent_by_number c.args.from c.args.to c.args.old.now c.args.new.now (λ x lt. c.loop-number.invariant x (omega arith))
