-- What operations make of members.
use Rattle.std.proofs.Common.{◌≡◌, List, [], ◌∷◌, map, refl, ap}
use Rattle.rv_net.specs.Cyclotomic.{times_w_power}
use Rattle.rv_net.specs.Op.{goes_to, phase_of}
use Rattle.rv_net.specs.declared.op.Op.{Op}
use Rattle.rv_check.specs.declared.member.Member.{Member}
use Rattle.rv_check.specs.inside.Kept.{carried, moved, turned}

pub turned_still : (op : Op) (m : Member) → phase_of op m.word ≡ 0 → turned op m ≡ m
unfolding times_w_power
turned_still op m e = ap (λ p. record m { value = times_w_power p m.value }) e

pub carried_still : (op : Op) (m : Member) → goes_to op m.word ≡ m.word → carried op m ≡ m
carried_still op m e = ap (λ w. record m { word = w }) e

pub map_carried-turned : (op : Op) (ms : List Member) → map (carried op) (map (turned op) ms) ≡ map (moved op) ms
map_carried-turned op [] = refl
map_carried-turned op (m ∷ ms) = ap (λ l. moved op m ∷ l) (map_carried-turned op ms)
