-- A vector whose elements are all written.
use Rattle.std.proofs.Common.{◌≡◌, ℕ, List, ◌++◌, take, drop, length, arith, append-nil}
use Rattle.std.proofs.lemmas.List.{take_all, drop_all}

-- the whole list written, as a slice of it is seen
pub written_whole : {X : Type 0} (len : ℕ) (xs ys : List X) → len ≡ length xs → length ys ≡ length xs → take len (ys ++ drop (length ys) xs) ≡ ys
written_whole len xs ys e g = grind (arith, drop_all, append-nil, take_all)
