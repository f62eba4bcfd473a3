use Rattle.std.proofs.Common.{◌∙◌, length, map, ap}
use Rattle.std.proofs.lemmas.List.Elements.{All-map, All-same}
use Rattle.rv_net.specs.Op.{OpFitsIn}
use Rattle.rv_check.specs.inside.Kept.{carried, turned}
use Rattle.rv_check.proofs.inside.Members.{map_carried-turned}
use Rattle.rv_check.proofs.member.move_all.Goals as goal

pub carry_all-requires : goal.carry_all-requires
carry_all-requires c =
    All-same (λ m. OpFitsIn c.args.op (length m.word)) _ _ c.turn_all.ensures
    (All-map (λ m. OpFitsIn c.args.op (length m.word)) (turned c.args.op) c.args.members.now c.requires.fits)

pub returns : goal.returns
returns c = c.carry_all.ensures ∙ ap (map (carried c.args.op)) c.turn_all.ensures ∙ map_carried-turned c.args.op c.args.members.now
