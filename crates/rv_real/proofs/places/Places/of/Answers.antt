use Rattle.std.proofs.Common.{◌≡◌, [], arith, sym, ap, ◌∙◌}
use Rattle.std.proofs.lemmas.Option.{get_or_from_slice_get}
use Rattle.rv_real.specs.Text.{name_at}
use Rattle.rv_real.specs.inside.Places.{key_of}
use Rattle.rv_real.proofs.inside.Keys.{one_more}
use Rattle.rv_real.proofs.places.Places.of.Goals as goal

pub loop-line-init : goal.loop-line-init
loop-line-init c = c.none-places.ensures c.args.names.now

pub loop-line-preserved : goal.loop-line-preserved
loop-line-preserved c =
    let names = c.args.names.now in
    let same : name_at names c.loop-line.line ≡ c.name.result.now = get_or_from_slice_get names c.loop-line.line c.name.result.now [] c.name.ensures in
    one_more names c.loop-line.places c.place_of-place.result c.key_of-key.result c.loop-line.line c.place_of-place.ensures c.loop-line.invariant
    (λ some. record {
      within = omega (arith, c.loop-line-test.true, c.len-line-end.ensures.len);
      bytes = rw same (c.key_of-key.ensures.bytes some);
      same = ap key_of same ∙ sym c.key_of-key.ensures.key;
    })
