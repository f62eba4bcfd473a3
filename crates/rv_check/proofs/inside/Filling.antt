-- Values that are filled in, and members that are collected.
use Rattle.std.proofs.Common.{◌≡◌, ℕ, zero, suc, ◌+◌, ◌<◌, List, [], ◌∷◌, ◌++◌, filter, map, length, take, drop, get_or, All, refl, sym, arith, subst, append_assoc}
use Rattle.std.proofs.lemmas.List.{drop_more}
use Rattle.rv_gate.specs.Word.{number_of, word_of}
use Rattle.rv_net.specs.Cyclotomic.{Cyclotomic, nought}
use Rattle.rv_net.specs.declared.op.Op.{Op}
use Rattle.rv_check.specs.Reduced.{words}
use Rattle.rv_check.specs.declared.member.Member.{Member}
use Rattle.rv_check.specs.inside.Dense.{NoneLargeIn, Shows, ShowsAt, members_from}
use Rattle.rv_check.specs.inside.Kept.{Kept, is_present}
use Rattle.rv_check.specs.inside.Small.{AreSmall}
use Rattle.rv_check.specs.inside.Stands.{Apart, Stands, value_at}
use Rattle.rv_check.proofs.inside.Collected.{Taken, stands_collected}
use Rattle.rv_check.proofs.inside.Sparse.{Word}

erased_at : (vs : List Cyclotomic) (k : ℕ) → get_or (map (λ u. nought) vs) k nought ≡ nought
erased_at (v ∷ vs) (suc k) = erased_at vs k
erased_at o u = refl

pub erased_taken : (n : ℕ) (vs : List Cyclotomic) (ms : List Member) → Taken n (map (λ u. nought) vs) (take 0 ms)
unfolding value_at
erased_taken n vs ms z l = erased_at vs (number_of z)

nought_small : (p : ℕ) → AreSmall p nought
unfolding nought
nought_small p = record { a = omega arith; b = omega arith; c = omega arith; d = omega arith }

pub erased_small : (p : ℕ) (vs : List Cyclotomic) → All (AreSmall p) (map (λ u. nought) vs)
erased_small p [] k d lt = absurd (omega (arith, lt))
erased_small p (v ∷ vs) zero d lt = nought_small p
erased_small p (v ∷ vs) (suc k) d lt = erased_small p vs k d (omega (arith, lt))

pub collected_more : (n i : ℕ) (vs : List Cyclotomic) (ms os : List Member) (d : Cyclotomic) → i < length vs
    → os ≡ ms ++ record { word = word_of n i; value = get_or vs i d } ∷ [] → ms ++ members_from n i (drop i vs) ≡ members_from n 0 vs
    → os ++ members_from n (i + 1) (drop (i + 1) vs) ≡ members_from n 0 vs
unfolding members_from
collected_more n i vs ms os d lt is before = grind (arith, word_of, drop_more, members_from, append_assoc)

-- the members taken over, and made again
pub filled_shows : (ops : List Op) (x : Word) (n start : ℕ) (vs : List Cyclotomic) (k : Kept) → length x ≡ n → (Apart k.members → vs ≡ map (value_at k.members) (words n)) → Stands (take start ops) x k
    → ShowsAt ops x start vs k.exponent
filled_shows ops x n start vs k len filled s = record {
  kept = k;
  stands = s;
  shows = subst (λ m. Shows m vs k.exponent k) (sym len) (record { values_are = filled s.apart; exponent_is = refl });
}

pub followed_all : (ops : List Op) (x : Word) (n start place : ℕ) (vs ws : List Cyclotomic) (k l : Kept) → length x ≡ n → (Apart k.members → vs ≡ map (value_at k.members) (words n))
    → (ShowsAt ops x start vs k.exponent → ShowsAt ops x place ws l.exponent × NoneLargeIn ops x start place) → l.members ≡ filter is_present (members_from n 0 ws) → Stands (take start ops) x k
    → Stands (take place ops) x l × NoneLargeIn ops x start place
followed_all ops x n start place vs ws k l len filled walked is s =
    let r = walked (filled_shows ops x n start vs k len filled s) in
    (stands_collected ops x n place ws l len r.0 is, r.1)
