use Rattle.std.proofs.Common.{◌≡◌, ◌^◌, ◌∙◌, get_or, length, sym, ap, arith, subst}
use Rattle.std.proofs.lemmas.List.Elements.{All-same}
use Rattle.rv_gate.proofs.inside.GateLemmas.{length-run}
use Rattle.rv_gate.specs.inside.laws.WordLaws.{length-word_of}
use Rattle.rv_net.specs.Op.{OpFitsIn}
use Rattle.rv_check.proofs.checking.agrees_at.Goals as goal

pub run-requires : goal.run-requires
run-requires c = ap length c.in-Some.ensures.1 ∙ length-word_of c.lines-lines.result c.from.result ∙ c.lines-lines.ensures.value ∙ sym c.requires.lines

pub follow-requires-clause-fits : goal.follow-requires-clause-fits
follow-requires-clause-fits c =
    let len : length c.in-Some.word ≡ c.args.net.now.lines = ap length c.in-Some.ensures.1 ∙ length-word_of c.lines-lines.result c.from.result ∙ c.lines-lines.ensures.value in
    All-same (λ op. OpFitsIn op (length c.in-Some.word)) c.ops.result.now c.args.net.now.ops c.ops.ensures
    (λ k d lt. subst (λ n. OpFitsIn (get_or c.args.net.now.ops k d) n) (sym len) (c.lines-lines.ensures.valid.fitting k d lt))

pub follow-requires-clause-lines : goal.follow-requires-clause-lines
follow-requires-clause-lines c =
    let len : length c.in-Some.word ≡ c.args.net.now.lines = ap length c.in-Some.ensures.1 ∙ length-word_of c.lines-lines.result c.from.result ∙ c.lines-lines.ensures.value in
    omega (arith, len, c.requires.few)

pub follow-requires-clause-room : goal.follow-requires-clause-room
follow-requires-clause-room c =
    let len : length c.in-Some.word ≡ c.args.net.now.lines = ap length c.in-Some.ensures.1 ∙ length-word_of c.lines-lines.result c.from.result ∙ c.lines-lines.ensures.value in
    (c.requires.room.0 ∙ ap (λ n. 2 ^ n) (sym len), c.requires.room.1 ∙ ap (λ n. 2 ^ n) (sym len))

pub follow-requires-clause-image : goal.follow-requires-clause-image
follow-requires-clause-image c = ap length c.run.ensures ∙ length-run c.args.circuit.now.gates c.in-Some.word

pub returns-in-Ok-Agrees-clause-room : goal.returns-in-Ok-Agrees-clause-room
returns-in-Ok-Agrees-clause-room c =
    let len : length c.in-Some.word ≡ c.args.net.now.lines = ap length c.in-Some.ensures.1 ∙ length-word_of c.lines-lines.result c.from.result ∙ c.lines-lines.ensures.value in
    (c.in-Ok-Agrees.ensures.room.0 ∙ ap (λ n. 2 ^ n) len, c.in-Ok-Agrees.ensures.room.1 ∙ ap (λ n. 2 ^ n) len)
