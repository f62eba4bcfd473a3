-- A network followed from a word, at a place where the kept vector stands for the first operations.
use Rattle.std.proofs.Common.{◌≡◌, ℕ, ◌+◌, ◌<◌, ◌≤◌, true, false, ◌&&◌, ◌==◌, List, length, take, get_or, All, sym, ◌∙◌, arith}
use Rattle.std.proofs.lemmas.List.{take_all, take_more}
use Rattle.std.specs.List.{list_any}
use Rattle.rv_net.specs.Op.{OpFitsIn}
use Rattle.rv_net.specs.declared.op.Op.{Op}
use Rattle.rv_check.specs.Reduced.{is_large}
use Rattle.rv_check.specs.declared.following.Followed.TheVariants.{TooLarge, Agrees}
use Rattle.rv_check.specs.inside.Dense.{NoneLargeIn}
use Rattle.rv_check.specs.inside.Followed.{followed, is_only}
use Rattle.rv_check.specs.inside.Kept.{Kept, NotLarge, has_large, kept_after, kept_more}
use Rattle.rv_check.specs.inside.Stands.{Stands}
use Rattle.rv_check.proofs.inside.Deciding.{agrees_is, large_is}
use Rattle.rv_check.proofs.inside.Places.{followed_done, followed_large, stands_at}
use Rattle.rv_check.proofs.inside.Sparse.{Word}
use Rattle.rv_check.proofs.inside.Stands.{stands_after, stands_more}

pub stands_next : (ops : List Op) (x : Word) (place : ℕ) (k next : Kept) (d : Op) → All (λ op. OpFitsIn op (length x)) ops → place < length ops → next ≡ kept_more k (get_or ops place d) → Stands (take place ops) x k
    → Stands (take (place + 1) ops) x next
stands_next ops x place k next d fits lt is s =
    rw (is, take_more ops place d lt) (stands_more (get_or ops place d) (take place ops) x k (fits place d lt) s)

same_large : (ops : List Op) (x : Word) (place : ℕ) (k : Kept) → All (λ op. OpFitsIn op (length x)) ops → Stands (take place ops) x k
    → has_large (kept_after (take place ops) x).members ≡ list_any (λ m. is_large m.value) k.members
unfolding has_large
same_large ops x place k fits s = sym (large_is (take place ops) x (kept_after (take place ops) x) (stands_at ops x place fits)) ∙ large_is (take place ops) x k s

pub none_large_at : (ops : List Op) (x : Word) (place : ℕ) (k : Kept) → All (λ op. OpFitsIn op (length x)) ops → Stands (take place ops) x k → NotLarge ops x place → list_any (λ m. is_large m.value) k.members ≡ false
unfolding NotLarge
none_large_at ops x place k fits s none = sym (same_large ops x place k fits s) ∙ none

pub not_large_here : (ops : List Op) (x : Word) (place : ℕ) (k : Kept) → All (λ op. OpFitsIn op (length x)) ops → Stands (take place ops) x k → list_any (λ m. is_large m.value) k.members ≡ false → NotLarge ops x place
unfolding NotLarge
not_large_here ops x place k fits s none = same_large ops x place k fits s ∙ none

pub too_large_here : (ops : List Op) (x image : Word) (place : ℕ) (k : Kept) → All (λ op. OpFitsIn op (length x)) ops → Stands (take (place + 1) ops) x k → ((p : ℕ) → p ≤ place → NotLarge ops x p) → place < length ops
    → list_any (λ m. is_large m.value) k.members ≡ true → followed ops x image ≡ TooLarge (place + 1)
too_large_here ops x image place k fits s before lt large = followed_large ops x image place fits before lt (same_large ops x (place + 1) k fits s ∙ large)

pub done_here : (ops : List Op) (x image : Word) (place : ℕ) (k : Kept) → All (λ op. OpFitsIn op (length x)) ops → Stands (take place ops) x k → length ops ≤ place → ((p : ℕ) → p ≤ place → NotLarge ops x p)
    → length image ≡ length x → followed ops x image ≡ Agrees ((k.exponent == 0) && is_only image k.members)
done_here ops x image place k fits s end before lines =
    grind (arith, take_all, followed_done, agrees_is, kept_after, stands_after)

-- after one operation, and more
pub not_large_on : (ops : List Op) (x : Word) (place next : ℕ) → ((p : ℕ) → p ≤ place → NotLarge ops x p) → NotLarge ops x (place + 1) → NoneLargeIn ops x (place + 1) next → (p : ℕ) → p ≤ next → NotLarge ops x p
not_large_on ops x place next before here after p le = grind (arith)
