use Rattle.std.proofs.Common.{All, [], ◌∷◌, length, subst}
use Rattle.std.proofs.lemmas.List.Elements.{All-head, All-tail}
use Rattle.rv_net.specs.Op.{OpFitsIn}
use Rattle.rv_check.specs.inside.Units.{member_of, units_of}
use Rattle.rv_check.proofs.units.Units.move_each.Goals as goal

pub move_unit-requires : goal.move_unit-requires
move_unit-requires c =
    let fits = subst (λ u. All (λ m. OpFitsIn c.args.op (length m.word)) (units_of u).members) c.in-One.is c.requires in
    All-head (λ m. OpFitsIn c.args.op (length m.word)) (member_of c.in-One.unit) [] fits

pub move_unit-requires-in-Two : goal.move_unit-requires-in-Two
move_unit-requires-in-Two c =
    let fits = subst (λ u. All (λ m. OpFitsIn c.args.op (length m.word)) (units_of u).members) c.in-Two.is c.requires in
    All-head (λ m. OpFitsIn c.args.op (length m.word)) (member_of c.in-Two.first) (member_of c.in-Two.second ∷ []) fits

pub move_unit-requires-in-Two-2 : goal.move_unit-requires-in-Two-2
move_unit-requires-in-Two-2 c =
    let fits = subst (λ u. All (λ m. OpFitsIn c.args.op (length m.word)) (units_of u).members) c.in-Two.is c.requires in
    All-head (λ m. OpFitsIn c.args.op (length m.word)) (member_of c.in-Two.second) []
    (All-tail (λ m. OpFitsIn c.args.op (length m.word)) (member_of c.in-Two.first) (member_of c.in-Two.second ∷ []) fits)
