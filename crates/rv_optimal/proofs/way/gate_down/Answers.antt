use Rattle.std.proofs.Common.{ℕ, Contains, refl, subst}
use Rattle.rv_optimal.specs.inside.Packed.{composed}
use Rattle.rv_optimal.specs.inside.Alike.{least}
use Rattle.rv_optimal.proofs.inside.Growing.{goes_down}
use Rattle.rv_optimal.proofs.inside.Searching.{not_at}
use Rattle.rv_optimal.proofs.way.gate_down.Goals as goal

pub unreachable-requires : goal.unreachable-requires
unreachable-requires c =
    let None : ℕ → Type 0 = λ count. (step : ℕ) → Contains c.args.moves.now step → Contains c.args.level.now (least c.args.alike (composed count step c.args.key)) → ⊥ in
    goes_down c.args.library c.args.lines c.args.alike c.args.gates.now c.args.moves.now c.args.level.now c.args.key c.requires.few c.requires.moves c.requires.suits c.requires.whole c.requires.least
    c.requires.key c.requires.next (not_at _ _ _ c.least.ensures (c.holds.ensures.not_there c.if-holds.false)) (subst None c.word_count.ensures.value (c.in-None.ensures.none refl))
