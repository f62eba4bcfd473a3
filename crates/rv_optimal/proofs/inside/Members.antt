-- What is in a list that is mapped, joined or grown.
use Rattle.std.proofs.Common.{◌≡◌, ℕ, zero, suc, ◌+◌, ◌<◌, ◌≤◌, ◌⊎◌, List, [], ◌∷◌, ◌++◌, Contains, length, map, flat_map, get_or, take, sym, ◌∙◌, ap, eqb, subst, inl, inr, arith}
use Rattle.std.specs.List.{dedup}
use Rattle.std.specs.List.Sorted.{IsPermutation}
use Rattle.std.proofs.lemmas.List.{flat_map_more, take_all, take_more}
use Rattle.std.proofs.lemmas.List.Elements.{Contains-append_cases, Contains-append_left, Contains-append_right}
use Rattle.std.proofs.lemmas.List.Kept.{Contains-dedup_nat, Contains-from_dedup}
use Rattle.std.proofs.lemmas.List.Sorted.{Contains-permutation, IsPermutation-sym}
use Rattle.rv_optimal.specs.inside.Packed.{composed}
use Rattle.rv_optimal.specs.inside.Alike.{least}
use Rattle.rv_optimal.specs.declared.alike.Alike.{Alike}
use Rattle.rv_optimal.specs.inside.Levels.{grown_from, HaveSame}
use Rattle.rv_optimal.proofs.inside.Contained.{Contains-head, Contains-tail}

pub record IsImage {X Y : Type 0} (f : X → Y) (xs : List X) (y : Y) : Type 0 where
  pub from : X
  pub there : Contains xs from
  pub is : y ≡ f from

pub image_of : {X Y : Type 0} (f : X → Y) (xs : List X) (y : Y) → Contains (map f xs) y → IsImage f xs y
image_of f [] y c = absurd (omega (arith, c.1))
image_of f (x ∷ xs) y (zero, l, e) = record { from = x; there = Contains-head x xs; is = sym e }
image_of f (x ∷ xs) y (suc k, l, e) =
    let l' : k < length (map f xs) = omega (arith, l) in
    let r : IsImage f xs y = image_of f xs y (k, l', e) in
    record { from = r.from; there = Contains-tail x xs r.from r.there; is = r.is }

pub record IsJoined {X Y : Type 0} (f : X → List Y) (xs : List X) (y : Y) : Type 0 where
  pub from : X
  pub there : Contains xs from
  pub made : Contains (f from) y

pub joined_of : {X Y : Type 0} (f : X → List Y) (xs : List X) (y : Y) → Contains (flat_map f xs) y → IsJoined f xs y
joined_of f [] y c = absurd (omega (arith, c.1))
joined_of {X} {Y} f (x ∷ xs) y c =
    elim (Contains-append_cases (f x) (flat_map f xs) y c) as (λ _. IsJoined f (x ∷ xs) y) [
      | inl here ↦ record { from = x; there = Contains-head x xs; made = here }
      | inr later ↦
          let r : IsJoined f xs y = joined_of f xs y later in
          record { from = r.from; there = Contains-tail x xs r.from r.there; made = r.made }
    ]

pub grown_cases : (alike : Alike) (count : ℕ) (moves : List ℕ) (key new : ℕ) → Contains (grown_from alike count moves key) new
    → (new ≡ key) ⊎ IsImage (λ move. least alike (composed count move key)) moves new
grown_cases alike count moves key new (zero, l, e) = inl (sym e)
grown_cases alike count moves key new (suc k, l, e) =
    let l' : k < length (map (λ move. least alike (composed count move key)) moves) = omega (arith, l) in
    inr (image_of (λ move. least alike (composed count move key)) moves new (k, l', e))

pub one_of : {X : Type 0} (x y : X) → Contains (x ∷ []) y → y ≡ x
one_of x y (zero, l, e) = sym e
one_of x y (suc k, l, e) = absurd (omega (arith, l))

-- ---- the same members

-- sorted, and each once
pub same_ordered : (keys sorted once : List ℕ) → IsPermutation keys sorted → once ≡ dedup eqb sorted → HaveSame keys once
same_ordered keys sorted once moved is key = (
  λ c. subst (λ l. Contains l key) (sym is) (Contains-dedup_nat sorted key (Contains-permutation keys sorted key moved c)),
  λ c. Contains-permutation sorted keys key (IsPermutation-sym keys sorted moved)
      (Contains-from_dedup eqb sorted key (subst (λ l. Contains l key) is c)),
)

pub same_at : (keys made passed next : List ℕ) → HaveSame made keys → HaveSame keys passed → next ≡ passed → HaveSame made next
same_at keys made passed next first second is key = (
  λ c. subst (λ l. Contains l key) (sym is) ((second key).0 ((first key).0 c)),
  λ c. (first key).1 ((second key).1 (subst (λ l. Contains l key) is c)),
)

pub same_here : (keys : List ℕ) → HaveSame keys keys
same_here keys key = (λ c. c, λ c. c)

pub same_none : (f : ℕ → List ℕ) (level keys : List ℕ) → keys ≡ [] → HaveSame (flat_map f (take 0 level)) keys
same_none f level keys is key =
    (λ c. absurd (omega (arith, c.1)), λ c. absurd (let n : length keys ≡ 0 = ap length is in omega (arith, n, c.1)))

-- what one key more brings, after what came is put in order
pub same_more : (f : ℕ → List ℕ) (level : List ℕ) (i : ℕ) (old mid new : List ℕ) → i < length level → HaveSame (flat_map f (take i level)) old → HaveSame old mid
    → new ≡ mid ++ f (get_or level i 0) → HaveSame (flat_map f (take (i + 1) level)) new
same_more f level i old mid new within first second is key =
    let made : List ℕ = flat_map f (take i level) in
    let more : List ℕ = f (get_or level i 0) in
    let all : made ++ more ≡ flat_map f (take (i + 1) level) =
    flat_map_more f [] (take i level) (get_or level i 0) ∙ ap (flat_map f) (sym (take_more level i 0 within)) in (
      λ c. subst (λ l. Contains l key) (sym is)
          (elim (Contains-append_cases made more key (subst (λ l. Contains l key) (sym all) c)) as (λ _. Contains (mid ++ more) key) [
            | inl a ↦ Contains-append_left mid more key ((second key).0 ((first key).0 a))
            | inr b ↦ Contains-append_right mid more key b
          ]),
      λ c. subst (λ l. Contains l key) all
          (elim (Contains-append_cases mid more key (subst (λ l. Contains l key) is c)) as (λ _. Contains (made ++ more) key) [
            | inl a ↦ Contains-append_left made more key ((first key).1 ((second key).1 a))
            | inr b ↦ Contains-append_right made more key b
          ]),
    )

pub same_all : (f : ℕ → List ℕ) (level : List ℕ) (i : ℕ) (keys mid next : List ℕ) → length level ≤ i → HaveSame (flat_map f (take i level)) keys → HaveSame keys mid → next ≡ mid
    → HaveSame (flat_map f level) next
same_all f level i keys mid next past first second is =
    subst (λ l. HaveSame (flat_map f l) next) (take_all i level past) (same_at keys (flat_map f (take i level)) mid next first second is)
