use Rattle.std.proofs.Common.{◌≡◌, ◌^◌, rules}
use Rattle.std.proofs.lemmas.List.Elements.{All-same}
use Rattle.rv_check.specs.inside.Kept.{mixed}
use Rattle.rv_check.specs.inside.Small.{AreSmall}
use Rattle.rv_check.proofs.inside.Growing.{within-mixed}
use Rattle.rv_check.proofs.following.KeptVector.turn.Goals as goal

pub reduce-self-requires : goal.reduce-self-requires
reduce-self-requires c =
    let is : c.deref_mut-2.result.now ≡ mixed c.args.line c.args.self.now.members.items = search rules in
    All-same (λ m. AreSmall (2 ^ 120) m.value) _ _ is (within-mixed c.args.line c.args.self.now.members.items c.requires.small c.requires.few)
