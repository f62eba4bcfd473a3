use Rattle.std.proofs.Common.{All, [], ◌∷◌, ◌<◌, length, subst}
use Rattle.std.proofs.lemmas.List.Elements.{All-head}
use Rattle.rv_check.specs.inside.Units.{member_of, units_of}
use Rattle.rv_check.proofs.units.Units.after_h.Goals as goal

pub split-requires : goal.split-requires
split-requires c =
    All-head (λ m. c.args.line < length m.word) (member_of c.in-One.unit) []
    (subst (λ u. All (λ m. c.args.line < length m.word) (units_of u).members) c.in-One.is c.requires)

pub joined-requires : goal.joined-requires
joined-requires c =
    All-head (λ m. c.args.line < length m.word) (member_of c.in-Two.first) (member_of c.in-Two.second ∷ [])
    (subst (λ u. All (λ m. c.args.line < length m.word) (units_of u).members) c.in-Two.is c.requires)
