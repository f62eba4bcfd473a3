use Rattle.std.proofs.Common.{below_more, length, refl, ap, arith}
use Rattle.std.proofs.lemmas.List.Elements.{Contains-get_or}
use Rattle.rv_optimal.proofs.inside.Ahead.{none_ahead, none_counted, one_leads, one_whole}
use Rattle.rv_optimal.proofs.inside.Growing.{none_here}
use Rattle.rv_optimal.proofs.search.last_gate.Goals as goal

pub loop-key-preserved : goal.loop-key-preserved
loop-key-preserved c =
    below_more _ _ c.loop-key.invariant
    (none_counted c.args.alike c.lines.result c.args.perm.now.lines c.word_count-count.result c.args.moves.now c.args.front.now _ c.lines.ensures.value c.word_count-count.ensures.value (c.in_default.ensures.none refl))

pub returns-clause-longer : goal.returns-clause-longer
returns-clause-longer c =
    none_ahead c.args.library c.args.perm.now.lines c.args.alike c.args.depths.front c.args.depths.back _ c.loop-key.key-index c.args.perm.now.images c.args.gates.now c.args.moves.now c.args.front.now c.args.back.now
    c.requires.few c.recall_invariant.ensures c.requires.moves c.requires.front c.requires.back c.requires.apart c.loop-key-test.false c.loop-key.invariant (omega (arith, c.requires.one))

pub returns-in-Some-clause-whole : goal.returns-in-Some-clause-whole
returns-in-Some-clause-whole c =
    one_whole c.args.library c.lines.result c.args.perm.now.lines c.word_count-count.result c.args.gates.now c.args.moves.now c.in-Some.place _ c.composed.result c.requires.few c.requires.moves c.in-Some.ensures.within
    c.lines.ensures.value c.word_count-count.ensures.value c.composed.ensures.value
    (c.requires.back.whole _ (Contains-get_or c.args.back.now c.loop-key.key-index 0 c.loop-key-test.true))

pub returns-in-Some-clause-leads : goal.returns-in-Some-clause-leads
returns-in-Some-clause-leads c =
    one_leads c.args.library c.lines.result c.args.perm.now.lines c.word_count-count.result c.args.gates.now c.args.moves.now c.in-Some.place _ c.composed.result c.requires.few c.requires.moves c.in-Some.ensures.within
    c.lines.ensures.value c.word_count-count.ensures.value c.composed.ensures.value
    c.index-gates-place.result _ (c.requires.back.whole _ (Contains-get_or c.args.back.now c.loop-key.key-index 0 c.loop-key-test.true)) c.index-gates-place.is
    c.in_ok-from_slice.ensures.items

pub returns-in-Some-clause-least : goal.returns-in-Some-clause-least
returns-in-Some-clause-least c =
    none_here c.args.library c.args.perm.now.lines c.args.alike c.args.depths.front c.args.depths.back _ c.args.perm.now.images _ _ c.recall_invariant.ensures
    c.requires.front c.requires.back c.requires.apart (omega (arith, ap length c.in_ok-from_slice.ensures.items))
