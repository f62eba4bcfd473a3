-- Laws of exchanges of two neighbouring lines.
use Rattle.std.proofs.Common.{◌≡◌, ℕ, zero, suc, ◌^◌, ◌<◌, ◌≤◌, ◌&&◌, ◌||◌, Bool, true, false, eqb, min, List, [], ◌∷◌, Contains, length, refl, sym, ◌∙◌, ap, ap₂, subst, inl, inr, arith}
use Rattle.std.specs.List.{range_with_len}
use Rattle.std.proofs.lemmas.Bool.{and_parts, cases_Bool, eqb-true, false≢true}
use Rattle.std.proofs.Math.Nat.{min-le_left, min-le_right, le_antisymm}
use Rattle.rv_gate.specs.Gate.{all_below}
use Rattle.rv_gate.proofs.AllBelow.{all_below-at}
use Rattle.rv_optimal.specs.inside.Packed.{packed, at, composed}
use Rattle.rv_optimal.specs.inside.Alike.{exchange, swapped, walk, least_on}
use Rattle.rv_optimal.proofs.inside.Keys.{at-small, at-composed, composed-small, composed-assoc, same_key}
use Rattle.rv_optimal.proofs.inside.Contained.{Contains-head, Contains-tail}

abbrev is_back : ℕ → ℕ → Bool
is_back line v = eqb (at (exchange line) (at (exchange line) v)) v

all_back : (line : ℕ) → all_below (is_back line) 16 ≡ true
unfolding at exchange
all_back zero = refl
all_back (suc zero) = refl
all_back (suc (suc line)) = refl

pub exchange_twice : (line v : ℕ) → v < 16 → at (exchange line) (at (exchange line) v) ≡ v
exchange_twice line v lt = eqb-true _ _ (all_below-at (is_back line) 16 v (all_back line) lt)

pub at-swapped : (line key place : ℕ) → place < 16 → at (swapped line key) place ≡ at (exchange line) (at key (at (exchange line) place))
unfolding swapped
at-swapped line key place lt =
    at-composed 16 (exchange line) (composed 16 key (exchange line)) place lt ∙ ap (at (exchange line)) (at-composed 16 key (exchange line) place lt)

pub swapped-small : (line key : ℕ) → swapped line key < 2 ^ 64
unfolding swapped
swapped-small line key = composed-small 16 (exchange line) (composed 16 key (exchange line))

pub swapped-twice : (line key : ℕ) → key < 2 ^ 64 → swapped line (swapped line key) ≡ key
swapped-twice line key less =
    same_key 16 _ _ (swapped-small line (swapped line key)) less (λ place lt.
    let e : ℕ = at (exchange line) place in
    at-swapped line (swapped line key) place lt
    ∙ ap (at (exchange line)) (at-swapped line key e (at-small (exchange line) place))
    ∙ exchange_twice line _ (at-small key _)
    ∙ ap (at key) (exchange_twice line place lt))

-- an exchange goes through a step
pub swapped-composed : (line step key : ℕ) → swapped line (composed 16 step key) ≡ composed 16 (swapped line step) (swapped line key)
swapped-composed line step key =
    same_key 16 _ _ (swapped-small line (composed 16 step key)) (composed-small 16 (swapped line step) (swapped line key)) (λ place lt.
    let inner : ℕ = at key (at (exchange line) place) in
    at-swapped line (composed 16 step key) place lt
    ∙ ap (at (exchange line)) (at-composed 16 step key (at (exchange line) place) (at-small (exchange line) place) ∙ sym (ap (at step) (exchange_twice line inner (at-small key _))))
    ∙ sym (at-composed 16 (swapped line step) (swapped line key) place lt
    ∙ ap (at (swapped line step)) (at-swapped line key place lt)
    ∙ at-swapped line step (at (exchange line) inner) (at-small (exchange line) inner)))

pub swapped-identity : (line : ℕ) → swapped line (packed (range_with_len 0 16)) ≡ packed (range_with_len 0 16)
unfolding swapped composed at exchange packed
swapped-identity zero = refl
swapped-identity (suc zero) = refl
swapped-identity (suc (suc line)) = refl

-- ---- the least key of a walk

-- one key before and one after a third
abbrev between : ℕ × ℕ → ℕ → ℕ
between way key = composed 16 way.0 (composed 16 key way.1)

abbrev way_more : ℕ → ℕ × ℕ → ℕ × ℕ
way_more line way = (composed 16 (exchange line) way.0, composed 16 way.1 (exchange line))

swapped-between : (line : ℕ) (way : ℕ × ℕ) (key : ℕ) → swapped line (between way key) ≡ between (way_more line way) key
unfolding swapped
swapped-between line way key =
    ap (composed 16 (exchange line)) (composed-assoc way.0 (composed 16 key way.1) (exchange line) ∙ ap (composed 16 way.0) (composed-assoc key way.1 (exchange line)))
    ∙ sym (composed-assoc (exchange line) way.0 (composed 16 key (composed 16 way.1 (exchange line))))

abbrev ways : List ℕ → ℕ × ℕ → List (ℕ × ℕ)
ways [] way = []
ways (line ∷ rest) way = way_more line way ∷ ways rest (way_more line way)

abbrev least_of : ℕ → ℕ → List (ℕ × ℕ) → ℕ
least_of key best [] = best
least_of key best (way ∷ rest) = least_of key (min best (between way key)) rest

least_on-ways : (lines : List ℕ) (way : ℕ × ℕ) (key best : ℕ) → least_on lines best (between way key) ≡ least_of key best (ways lines way)
unfolding least_on
least_on-ways [] way key best = refl
least_on-ways (line ∷ rest) way key best =
    ap (λ k. least_on rest (min best k) k) (swapped-between line way key) ∙ least_on-ways rest (way_more line way) key (min best (between (way_more line way) key))

least_of-best : (key best : ℕ) (list : List (ℕ × ℕ)) → least_of key best list ≤ best
least_of-best key best [] = omega arith
least_of-best key best (way ∷ rest) = omega (arith, least_of-best key (min best (between way key)) rest, min-le_left best (between way key))

least_of-each : (key best : ℕ) (list : List (ℕ × ℕ)) (way : ℕ × ℕ) → Contains list way → least_of key best list ≤ between way key
least_of-each key best [] way c = absurd (omega (arith, c.1))
least_of-each key best (first ∷ rest) way (zero, l, e) =
    let bound : least_of key (min best (between first key)) rest ≤ min best (between first key) = least_of-best key (min best (between first key)) rest in
    let same : between first key ≡ between way key = ap (λ w. between w key) e in
    omega (arith, bound, min-le_right best (between first key), same)
least_of-each key best (first ∷ rest) way (suc k, l, e) =
    let l' : k < length rest = omega (arith, l) in
    least_of-each key (min best (between first key)) rest way (k, l', e)

-- the least of the keys of some ways, which is not above `low` if none of the keys is
least_of-above : (key best low : ℕ) (list : List (ℕ × ℕ)) → low ≤ best → ((way : ℕ × ℕ) → Contains list way → low ≤ between way key) → low ≤ least_of key best list
least_of-above key best low [] first each = first
least_of-above key best low (way ∷ rest) first each =
    let here : low ≤ between way key = each way (Contains-head way rest) in
    let both : low ≤ min best (between way key) = omega (arith, first, here) in
    least_of-above key (min best (between way key)) low rest both (λ other c. each other (Contains-tail way rest other c))

abbrev same_way : ℕ × ℕ → ℕ × ℕ → Bool
same_way a b = eqb a.0 b.0 && eqb a.1 b.1

abbrev has_way : List (ℕ × ℕ) → ℕ × ℕ → Bool
has_way [] way = false
has_way (first ∷ rest) way = same_way first way || has_way rest way

abbrev has_ways : List (ℕ × ℕ) → List (ℕ × ℕ) → Bool
has_ways list [] = true
has_ways list (way ∷ rest) = has_way list way && has_ways list rest

way_there : (list : List (ℕ × ℕ)) (way : ℕ × ℕ) → has_way list way ≡ true → Contains list way
way_there [] way h = absurd (false≢true h)
way_there (first ∷ rest) way h =
    elim (cases_Bool (same_way first way)) [
      | inl here ↦
          let parts = and_parts (eqb first.0 way.0) (eqb first.1 way.1) here in
          let same : first ≡ way = ap₂ (λ a b. (a, b)) (eqb-true _ _ parts.0) (eqb-true _ _ parts.1) in
          subst (Contains (first ∷ rest)) same (Contains-head first rest)
      | inr other ↦ Contains-tail first rest way (way_there rest way (sym (ap (λ b. b || has_way rest way) other) ∙ h))
    ]

ways_there : (list more : List (ℕ × ℕ)) → has_ways list more ≡ true → (way : ℕ × ℕ) → Contains more way → Contains list way
ways_there list [] h way c = absurd (omega (arith, c.1))
ways_there list (first ∷ rest) h way (zero, l, e) =
    subst (Contains list) e (way_there list first (and_parts (has_way list first) (has_ways list rest) h).0)
ways_there list (first ∷ rest) h way (suc k, l, e) =
    let l' : k < length rest = omega (arith, l) in
    ways_there list rest (and_parts (has_way list first) (has_ways list rest) h).1 way (k, l', e)

abbrev none_yet : ℕ × ℕ
none_yet = (0xfedcba9876543210, 0xfedcba9876543210)

-- the walk from an exchange goes where the walk goes
all_there : (line : ℕ) → has_ways (none_yet ∷ ways walk none_yet) (way_more line none_yet ∷ ways walk (way_more line none_yet)) ≡ true
unfolding walk composed at exchange
all_there zero = refl
all_there (suc zero) = refl
all_there (suc (suc line)) = refl

is_itself : ℕ → Bool
is_itself v = eqb (at 0xfedcba9876543210 v) v

all_itself : all_below is_itself 16 ≡ true
unfolding is_itself at
all_itself = refl

at-identity : (v : ℕ) → v < 16 → at 0xfedcba9876543210 v ≡ v
unfolding is_itself
at-identity v lt = eqb-true _ _ (all_below-at is_itself 16 v all_itself lt)

between-none : (key : ℕ) → key < 2 ^ 64 → between none_yet key ≡ key
between-none key less =
    let id : ℕ = 0xfedcba9876543210 in
    same_key 16 _ _ (composed-small 16 id (composed 16 key id)) less (λ place lt.
    at-composed 16 id (composed 16 key id) place lt
    ∙ at-identity (at (composed 16 key id) place) (at-small (composed 16 key id) place)
    ∙ at-composed 16 key id place lt
    ∙ ap (at key) (at-identity place lt))

not_above : (line key : ℕ) → key < 2 ^ 64 → least_on walk key key ≤ least_on walk (swapped line key) (swapped line key)
not_above line key less =
    let e : between none_yet key ≡ key = between-none key less in
    let more : ℕ × ℕ = way_more line none_yet in
    let new : ℕ = between more key in
    let least : ℕ = least_of key key (ways walk none_yet) in
    let is : least_on walk key key ≡ least = ap (least_on walk key) (sym e) ∙ least_on-ways walk none_yet key key in
    let swapped_is : swapped line key ≡ new = ap (swapped line) (sym e) ∙ swapped-between line none_yet key in
    let new_is : least_on walk (swapped line key) (swapped line key) ≡ least_of key new (ways walk more) =
    ap (λ k. least_on walk k k) swapped_is ∙ least_on-ways walk more key new in
    let each : (way : ℕ × ℕ) → Contains (none_yet ∷ ways walk none_yet) way → least ≤ between way key = below_each least key e (least_of-best key key (ways walk none_yet)) (least_of-each key key (ways walk none_yet)) in
    let there : (way : ℕ × ℕ) → Contains (more ∷ ways walk more) way → Contains (none_yet ∷ ways walk none_yet) way = ways_there (none_yet ∷ ways walk none_yet) (more ∷ ways walk more) (all_there line) in
    let above : least ≤ least_of key new (ways walk more) =
    least_of-above key new least (ways walk more) (each more (there more (Contains-head more (ways walk more))))
    (λ way c. each way (there way (Contains-tail more (ways walk more) way c))) in
    omega (arith, is, new_is, above)
  where
    below_each : (least key : ℕ) → between none_yet key ≡ key → least ≤ key → ((way : ℕ × ℕ) → Contains (ways walk none_yet) way → least ≤ between way key)
        → (way : ℕ × ℕ) → Contains (none_yet ∷ ways walk none_yet) way → least ≤ between way key
    below_each least key e first rest way (zero, l, same) =
        let f : between none_yet key ≡ between way key = ap (λ w. between w key) same in omega (arith, first, e, f)
    below_each least key e first rest way (suc k, l, same) =
        let l' : k < length (ways walk none_yet) = omega (arith, l) in rest way (k, l', same)

-- an exchange leaves the least key of the walk
pub least_swapped : (line key : ℕ) → key < 2 ^ 64 → least_on walk (swapped line key) (swapped line key) ≡ least_on walk key key
least_swapped line key less =
    let new : ℕ = swapped line key in
    let back : least_on walk new new ≤ least_on walk (swapped line new) (swapped line new) = not_above line new (swapped-small line key) in
    let same : least_on walk (swapped line new) (swapped line new) ≡ least_on walk key key = ap (λ k. least_on walk k k) (swapped-twice line key less) in
    let down : least_on walk new new ≤ least_on walk key key = omega (arith, back, same) in
    le_antisymm down (not_above line key less)
