-- Vectors of one or two words whose values are powers of w, as the code keeps them.
use Rattle.std.specs.Prelude.{[], ◌∷◌, map}
use Rattle.rv_net.specs.Cyclotomic.{unity, times_w_power}
use Rattle.rv_net.specs.declared.op.Op.{Op}
use Rattle.rv_check.specs.declared.member.Member.{Member}
use Rattle.rv_check.specs.declared.units.Unit.{Unit}
use Rattle.rv_check.specs.declared.units.Units.{Units}
use Rattle.rv_check.specs.declared.units.Units.TheVariants.{One, Two}
use Rattle.rv_check.specs.inside.Kept.{Kept, moved}

-- the member with the power of w as its value
abbrev pub member_of : Unit → Member
member_of u = record { word = u.word; value = times_w_power u.power unity }

-- one word alone, or two over a root of two
abbrev pub units_of : Units → Kept
units_of (One u) = record { members = member_of u ∷ []; exponent = 0 }
units_of (Two u v) = record { members = member_of u ∷ member_of v ∷ []; exponent = 1 }

-- each member moved
abbrev pub moved_all : Op → Kept → Kept
moved_all op k = record k { members = map (moved op) k.members }
