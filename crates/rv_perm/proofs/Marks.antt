-- The marks of the lines, as the front of a longer list.
use Rattle.std.proofs.Common.{◌≡◌, ℕ, ◌<◌, ◌≤◌, List, length, get_or, take, Some, slice_get, arith}
use Rattle.std.proofs.lemmas.List.{get_or-take, length-take-le}
use Rattle.std.proofs.lemmas.Option.{slice_get-get_or}

pub read_mark : {A : Type 0} → (n : ℕ) (marks : List A) (line at : ℕ) (d : A) → at ≡ line → line < n → n ≤ length marks → slice_get (take n marks) line ≡ Some (get_or marks at d)
read_mark n marks line at d e lt few = grind (arith, slice_get-get_or, length-take-le, get_or-take)
