-- What following a network from a word answers.
use Rattle.std.specs.Prelude.{ℕ, List, Bool, not, ◌&&◌, ◌||◌, Option, Some, None}
use Rattle.std.specs.List.{list_all, list_any}
use Rattle.rv_net.specs.Amplitude.{same_word}
use Rattle.rv_net.specs.Cyclotomic.{unity}
use Rattle.rv_net.specs.declared.op.Op.{Op}
use Rattle.rv_check.specs.Check.{agrees, are_same}
use Rattle.rv_check.specs.Reduced.{first_large_place}
use Rattle.rv_check.specs.declared.following.Followed.{Followed}
use Rattle.rv_check.specs.declared.following.Followed.TheVariants.{TooLarge, Agrees}
use Rattle.rv_check.specs.declared.member.Member.{Member}
use Rattle.rv_check.specs.inside.Kept.{is_present}

-- the image, with the value 1
abbrev pub is_image : List Bool → Member → Bool
is_image image m = same_word m.word image && are_same m.value unity

-- the vector is the image alone
unfoldable pub is_only : List Bool → List Member → Bool
is_only image members =
    list_all (λ m. not (is_present m) || is_image image m) members && list_any (is_image image) members

-- a coefficient beyond the limit comes first
abbrev pub answer : Option ℕ → Bool → Followed
answer None agreed = Agrees agreed
answer (Some place) agreed = TooLarge place

-- what following operations from the word x answers, for the image that a circuit gives it
abbrev pub followed : List Op → List Bool → List Bool → Followed
followed ops x image = answer (first_large_place ops x) (agrees ops x image)
