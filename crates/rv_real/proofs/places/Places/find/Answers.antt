use Rattle.std.proofs.Common.{◌<◌, arith, sym}
use Rattle.rv_real.proofs.inside.Keys.{found_by_key}
use Rattle.rv_real.proofs.places.Places.find.Goals as goal

pub returns-then-self-place-clause-exact : goal.returns-then-self-place-clause-exact
returns-then-self-place-clause-exact c =
    let key = c.key_of-key.ensures.key in
    let held = c.if-self-place.true in
    let some : 0 < c.key_of-key.result = omega (arith, c.if-key-ne0.true) in
    sym (found_by_key c.args.names.now _ c.args.name.now c.recall_invariant.ensures (c.key_of-key.ensures.bytes some) (omega (arith, key, some))
    (rw (← key, ← held) (c.requires.each c.place_of-place.result c.place_of-place.ensures (omega (arith, held, some)))))
