use Rattle.std.proofs.Common.{ap, sym, ◌∙◌, ◌∷◌, [], true, false, arith, length-set}
use Rattle.std.proofs.lemmas.Option.{get_or_from_slice_get}
use Rattle.rv_real.proofs.inside.ShortTexts.{one_more, joined_is}
use Rattle.rv_real.proofs.texts.Texts.of.Goals as goal

pub loop-line-init : goal.loop-line-init
loop-line-init c = c.none-texts.ensures c.args.names.now

pub loop-line-preserved : goal.loop-line-preserved
loop-line-preserved c =
    let names = c.args.names.now in
    let before = c.loop-line.invariant in
    let name = sym (get_or_from_slice_get names c.loop-line.line c.name-name.result.now [] c.name-name.ensures) in
    rw (c.from.ensures, c.from-in-loop-line.ensures) (record {
      plain_sized = length-set _ _ _ ∙ before.plain_sized;
      negated_sized = length-set _ _ _ ∙ before.negated_sized;
      plain = one_more names true _ c.loop-line.line _ (omega (arith, before.plain_sized)) before.plain (joined_is _ _ _ _ c.joined.ensures (ap (λ word. 32 ∷ word) name));
      negated = one_more names false _ c.loop-line.line _ (omega (arith, before.negated_sized)) before.negated (joined_is _ _ _ _ c.joined-in-loop-line.ensures (ap (λ word. 32 ∷ 45 ∷ word) name));
    })
