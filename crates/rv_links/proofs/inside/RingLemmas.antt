-- Links and the orders that they hold.
use Rattle.std.proofs.lemmas.Grind.{common_steps}
use Rattle.std.proofs.Common.{◌≡◌, ◌≢◌, ℕ, zero, suc, ◌+◌, ◌^◌, ◌<◌, ◌≤◌, Bool, true, false, not, cond, ◌||◌, eqb, List, [], ◌∷◌, ◌++◌, length, get_or, set, refl, sym, ◌∙◌, ap, inl, inr, arith, length-set, length-append, get_or-set_same, get_or-set_other, eq-eqb, ne_eqb}
use Rattle.std.specs.Prelude.{◌⊎◌, Some, None, slice_index}
use Rattle.std.specs.List.{IsDistinct, AllByRecursion}
use Rattle.std.proofs.lemmas.Bool.{cases_eq, cases_lt, cases_Bool, cond-true, cond-false, false≢true, false_from_ne_true}
use Rattle.std.proofs.lemmas.List.{get_or_past, get_or_read, get_or_push, get_or_append_left}
use Rattle.std.proofs.lemmas.List.Elements.{recursion_from_All}
use Rattle.std.proofs.lemmas.Map.Steps.{length-le_from_distinct_below}
use Rattle.rv_links.specs.Order.{lists, head, next_in, prev_from, prev_in, NoTwice, Rising}
use Rattle.rv_links.specs.inside.Ring.{Order, without, Joined, walk, IsChain, ids_of, IsRing}

-- ---- lists of numbers

pub lists_here : (x : ℕ) (ys : List ℕ) → lists x (x ∷ ys) ≡ true
lists_here x ys = rw (eq-eqb x x refl) refl

pub lists_more : (x y : ℕ) (ys : List ℕ) → lists x ys ≡ true → lists x (y ∷ ys) ≡ true
lists_more x y ys h = elim (cases_Bool (eqb x y)) [ inl t ↦ rw t refl | inr f ↦ rw f h ]

pub lists_cases : (x y : ℕ) (ys : List ℕ) → lists x (y ∷ ys) ≡ true → (x ≡ y) ⊎ (lists x ys ≡ true)
lists_cases x y ys h = grind arith

pub lists_not : (x y : ℕ) (ys : List ℕ) → lists x (y ∷ ys) ≡ false → (x ≢ y) × (lists x ys ≡ false)
lists_not x y ys h = grind arith

pub not_lists : (x y : ℕ) (ys : List ℕ) → x ≢ y → lists x ys ≡ false → lists x (y ∷ ys) ≡ false
not_lists x y ys ne h = rw (ne_eqb x y ne) h

pub differ_from : (x y : ℕ) (ys : List ℕ) → lists x ys ≡ false → lists y ys ≡ true → x ≢ y
differ_from x y ys off is e = false≢true (sym off ∙ ap (λ n. lists n ys) e ∙ is)

-- ---- links

-- links that agree with others along the numbers
frame : (N P M Q : ℕ → ℕ) (a : ℕ) (zs : List ℕ) (z : ℕ) → Joined N P a zs z
    → M a ≡ N a → ((k : ℕ) → lists k zs ≡ true → M k ≡ N k)
    → Q z ≡ P z → ((k : ℕ) → lists k zs ≡ true → Q k ≡ P k)
    → Joined M Q a zs z
frame N P M Q a [] z j ma m qz q = (ma ∙ j.0, qz ∙ j.1)
frame N P M Q a (w ∷ ws) z j ma m qz q = (
  ma ∙ j.0,
  q w (lists_here w ws) ∙ j.1,
  frame N P M Q w ws z j.2 (m w (lists_here w ws)) (λ k h. m k (lists_more k w ws h)) qz (λ k h. q k (lists_more k w ws h)),
)

-- where the links of a number lead
next_of_first : (N P : ℕ → ℕ) (a : ℕ) (zs : List ℕ) (z : ℕ) → Joined N P a zs z → (lists (N a) zs ≡ true) ⊎ (N a ≡ z)
next_of_first N P a [] z j = inr j.0
next_of_first N P a (w ∷ ws) z j = inl (ap (λ n. lists n (w ∷ ws)) j.0 ∙ lists_here w ws)

next_within : (N P : ℕ → ℕ) (a : ℕ) (zs : List ℕ) (z x : ℕ) → Joined N P a zs z → lists x zs ≡ true → (lists (N x) zs ≡ true) ⊎ (N x ≡ z)
next_within N P a [] z x j h = absurd (false≢true h)
next_within N P a (w ∷ ws) z x j h =
    elim (lists_cases x w ws h) [
      | inl e ↦
          (elim (next_of_first N P w ws z j.2) [
            | inl l ↦ inl (lists_more (N x) w ws (ap (λ n. lists (N n) ws) e ∙ l))
            | inr l ↦ inr (ap N e ∙ l)
          ])
      | inr l ↦ (elim (next_within N P w ws z x j.2 l) [ inl i ↦ inl (lists_more (N x) w ws i) | inr i ↦ inr i ])
    ]

prev_within : (N P : ℕ → ℕ) (a : ℕ) (zs : List ℕ) (z x : ℕ) → Joined N P a zs z → lists x zs ≡ true → (P x ≡ a) ⊎ (lists (P x) zs ≡ true)
prev_within N P a [] z x j h = absurd (false≢true h)
prev_within N P a (w ∷ ws) z x j h =
    elim (lists_cases x w ws h) [
      | inl e ↦ inl (ap P e ∙ j.1)
      | inr l ↦
          (elim (prev_within N P w ws z x j.2 l) [
            | inl i ↦ inr (ap (λ n. lists n (w ∷ ws)) i ∙ lists_here w ws)
            | inr i ↦ inr (lists_more (P x) w ws i)
          ])
    ]

-- ---- what the links say

first_at : (N P : ℕ → ℕ) (a : ℕ) (zs : List ℕ) (z : ℕ) → Joined N P a zs z → lists z zs ≡ false → cond (eqb (N a) z) None (Some (N a)) ≡ head zs
first_at N P a zs z h h1 = grind arith

pub next_at : (N P : ℕ → ℕ) (a : ℕ) (zs : List ℕ) (z x : ℕ) → Joined N P a zs z → lists z zs ≡ false → lists x zs ≡ true → cond (eqb (N x) z) None (Some (N x)) ≡ next_in x zs
unfolding next_in
next_at N P a [] z x j h on = absurd (false≢true on)
next_at N P a (w ∷ ws) z x j h on =
    let rest : lists z ws ≡ false = (lists_not z w ws h).1 in
    elim (cases_eq x w) [
      | inl e ↦ rw (e, eq-eqb w w refl) (first_at N P w ws z j.2 rest)
      | inr ne ↦
          (elim (lists_cases x w ws on) [
            | inl e ↦ absurd (ne e)
            | inr l ↦ rw (ne_eqb x w ne) (next_at N P w ws z x j.2 rest l)
          ])
    ]

pub prev_at : (N P : ℕ → ℕ) (a : ℕ) (zs : List ℕ) (z x : ℕ) → Joined N P a zs z → lists z zs ≡ false → lists x zs ≡ true
    → cond (eqb (P x) z) None (Some (P x)) ≡ prev_from (cond (eqb a z) None (Some a)) x zs
unfolding prev_from
prev_at N P a [] z x j h on = absurd (false≢true on)
prev_at N P a (w ∷ ws) z x j h on =
    let off = lists_not z w ws h in
    elim (cases_eq x w) [
      | inl e ↦ rw (e, eq-eqb w w refl, j.1) refl
      | inr ne ↦
          (elim (lists_cases x w ws on) [
            | inl e ↦ absurd (ne e)
            | inr l ↦
                let wz : cond (eqb w z) None (Some w) ≡ Some w = cond-false (eqb w z) _ _ (ne_eqb w z (λ e. off.0 (sym e))) in
                rw (ne_eqb x w ne) (prev_at N P w ws z x j.2 off.1 l ∙ ap (λ p. prev_from p x ws) wz)
          ])
    ]

pub walk_is : (N P : ℕ → ℕ) (n a : ℕ) (zs : List ℕ) (z : ℕ) → Joined N P a zs z → lists z zs ≡ false → length zs ≤ n → walk N n a z ≡ zs
unfolding walk
walk_is N P zero a [] z j h le = refl
walk_is N P (suc n) a [] z j h le = rw (eq-eqb (N a) z j.0) refl
walk_is N P zero a (w ∷ ws) z j h le = absurd (omega arith)
walk_is N P (suc n) a (w ∷ ws) z j h le =
    let off = lists_not z w ws h in
    let ne : N a ≢ z = λ e. off.0 (sym e ∙ j.0) in
    let r = walk_is N P n w ws z j.2 off.1 (omega arith) in
    rw (ne_eqb (N a) z ne, j.0) (ap (λ l. w ∷ l) r)

-- ---- one number less, one number more

pub record Cut (N P M Q : ℕ → ℕ) (x : ℕ) : Type 0 where
  pub over : M (P x) ≡ N x
  pub back : Q (N x) ≡ P x
  pub keeps_next : (k : ℕ) → k ≢ P x → k ≢ x → M k ≡ N k
  pub keeps_prev : (k : ℕ) → k ≢ N x → Q k ≡ P k

cut_first : (N P M Q : ℕ → ℕ) (x : ℕ) → Cut N P M Q x → (a : ℕ) (ws : List ℕ) (z : ℕ) → Joined N P a (x ∷ ws) z
    → NoTwice (x ∷ ws) → lists a (x ∷ ws) ≡ false → lists z (x ∷ ws) ≡ false → Joined M Q a ws z
cut_first N P M Q x c a [] z j d na nz =
    (ap M (sym j.1) ∙ c.over ∙ j.2.0, ap Q (sym j.2.0) ∙ c.back ∙ j.1)
cut_first N P M Q x c a (v ∷ vs) z j d na nz =
    let nx : N x ≡ v = j.2.0 in
    let oa = (lists_not a x (v ∷ vs) na).1 in
    let oz = (lists_not z v vs (lists_not z x (v ∷ vs) nz).1) in
    let ox = d.0 in
    let kn : (k : ℕ) → lists k (v ∷ vs) ≡ true → M k ≡ N k =
    λ k l. c.keeps_next k (λ e. differ_from a k (v ∷ vs) oa l (sym (e ∙ j.1))) (λ e. differ_from x k (v ∷ vs) ox l (sym e)) in (
      ap M (sym j.1) ∙ c.over ∙ nx,
      ap Q (sym nx) ∙ c.back ∙ j.1,
      frame N P M Q v vs z j.2.2 (kn v (lists_here v vs)) (λ k l. kn k (lists_more k v vs l))
          (c.keeps_prev z (λ e. oz.0 (e ∙ nx))) (λ k l. c.keeps_prev k (λ e. differ_from v k vs d.1.0 l (sym (e ∙ nx)))),
    )

pub cut : (N P M Q : ℕ → ℕ) (x : ℕ) → Cut N P M Q x → (a : ℕ) (zs : List ℕ) (z : ℕ) → Joined N P a zs z
    → NoTwice zs → lists a zs ≡ false → lists z zs ≡ false → lists x zs ≡ true → Joined M Q a (without x zs) z
unfolding without
cut N P M Q x c a [] z j d na nz on = absurd (false≢true on)
cut N P M Q x c a (w ∷ ws) z j d na nz on =
    elim (cases_eq x w) as (λ _. Joined M Q a (cond (eqb x w) ws (w ∷ without x ws)) z) [
      | inl e ↦ rw (eq-eqb x w e) (cut_first N P M Q x c a ws z (rw e j) (rw e d) (rw e na) (rw e nz))
      | inr ne ↦
          rw (ne_eqb x w ne)
          (elim (lists_cases x w ws on) [
            | inl e ↦ absurd (ne e)
            | inr l ↦
                let oa = lists_not a w ws na in
                let oz = lists_not z w ws nz in
                let ax : a ≢ x = differ_from a x ws oa.1 l in
                let apx : a ≢ P x = elim (prev_within N P w ws z x j.2 l) [ inl i ↦ (λ e. oa.0 (e ∙ i)) | inr i ↦ differ_from a (P x) ws oa.1 i ] in
                let wnx : w ≢ N x = elim (next_within N P w ws z x j.2 l) [ inl i ↦ differ_from w (N x) ws d.0 i | inr i ↦ (λ e. oz.0 (sym (e ∙ i))) ] in
                (c.keeps_next a apx ax ∙ j.0, c.keeps_prev w wnx ∙ j.1, cut N P M Q x c w ws z j.2 d.1 d.0 oz.1 l)
          ])
    ]

pub record Put (N P M Q : ℕ → ℕ) (x b n : ℕ) : Type 0 where
  pub over : M b ≡ x
  pub from : M x ≡ n
  pub back : Q n ≡ x
  pub to : Q x ≡ b
  pub keeps_next : (k : ℕ) → k ≢ b → k ≢ x → M k ≡ N k
  pub keeps_prev : (k : ℕ) → k ≢ n → k ≢ x → Q k ≡ P k

last_within : (N P : ℕ → ℕ) (a : ℕ) (zs : List ℕ) (z : ℕ) → Joined N P a zs z → (P z ≡ a) ⊎ (lists (P z) zs ≡ true)
last_within N P a [] z j = inl j.1
last_within N P a (w ∷ ws) z j =
    elim (last_within N P w ws z j.2) [
      | inl e ↦ inr (ap (λ n. lists n (w ∷ ws)) e ∙ lists_here w ws)
      | inr i ↦ inr (lists_more (P z) w ws i)
    ]

-- x at the end
pub put_last : (N P M Q : ℕ → ℕ) (x z : ℕ) → Put N P M Q x (P z) z → (a : ℕ) (zs : List ℕ) → Joined N P a zs z
    → NoTwice zs → lists a zs ≡ false → lists z zs ≡ false → x ≢ a → lists x zs ≡ false → Joined M Q a (zs ++ x ∷ []) z
put_last N P M Q x z p a [] j d na nz xa nx = (ap M (sym j.1) ∙ p.over, p.to ∙ j.1, (p.from, p.back))
put_last N P M Q x z p a (w ∷ ws) j d na nz xa nx =
    let oa = lists_not a w ws na in
    let oz = lists_not z w ws nz in
    let ox = lists_not x w ws nx in
    let al : a ≢ P z = elim (last_within N P w ws z j.2) [ inl e ↦ (λ q. oa.0 (q ∙ e)) | inr i ↦ differ_from a (P z) ws oa.1 i ] in (
      p.keeps_next a al (λ q. xa (sym q)) ∙ j.0,
      p.keeps_prev w (λ q. oz.0 (sym q)) (λ q. ox.0 (sym q)) ∙ j.1,
      put_last N P M Q x z p w ws j.2 d.1 d.0 oz.1 ox.0 ox.1,
    )

-- no number links to itself
pub next_not_self : (N P : ℕ → ℕ) (a : ℕ) (zs : List ℕ) (z x : ℕ) → Joined N P a zs z → NoTwice zs → lists z zs ≡ false → lists x zs ≡ true → N x ≢ x
next_not_self N P a [] z x j d nz on = absurd (false≢true on)
next_not_self N P a (w ∷ ws) z x j d nz on =
    let oz = lists_not z w ws nz in
    elim (lists_cases x w ws on) [
      | inl e ↦
          (elim (next_of_first N P w ws z j.2) [
            | inl i ↦ (λ q. differ_from w (N w) ws d.0 i (sym (ap N (sym e) ∙ q ∙ e)))
            | inr i ↦ (λ q. oz.0 (sym i ∙ ap N (sym e) ∙ q ∙ e))
          ])
      | inr l ↦ next_not_self N P w ws z x j.2 d.1 oz.1 l
    ]

prev_not_self : (N P : ℕ → ℕ) (a : ℕ) (zs : List ℕ) (z x : ℕ) → Joined N P a zs z → NoTwice zs → lists a zs ≡ false → lists x zs ≡ true → P x ≢ x
prev_not_self N P a [] z x j d na on = absurd (false≢true on)
prev_not_self N P a (w ∷ ws) z x j d na on =
    elim (lists_cases x w ws on) [
      | inl e ↦ (λ q. (lists_not a w ws na).0 (sym j.1 ∙ ap P (sym e) ∙ q ∙ e))
      | inr l ↦ prev_not_self N P w ws z x j.2 d.1 d.0 l
    ]

-- ---- lists with one number less or more

pub lists_without : (x y : ℕ) (zs : List ℕ) → lists y (without x zs) ≡ true → lists y zs ≡ true
unfolding without
lists_without x y [] h = h
lists_without x y (w ∷ ws) h =
    elim (cases_eq x w) [
      | inl e ↦ lists_more y w ws (ap (λ b. lists y (cond b ws (w ∷ without x ws))) (sym (eq-eqb x w e)) ∙ h)
      | inr ne ↦
          (elim (lists_cases y w (without x ws) (ap (λ b. lists y (cond b ws (w ∷ without x ws))) (sym (ne_eqb x w ne)) ∙ h)) [
            | inl e ↦ ap (λ n. lists n (w ∷ ws)) e ∙ lists_here w ws
            | inr l ↦ lists_more y w ws (lists_without x y ws l)
          ])
    ]

pub kept_without : (x y : ℕ) (zs : List ℕ) → y ≢ x → lists y zs ≡ true → lists y (without x zs) ≡ true
unfolding without
kept_without x y [] ne h = h
kept_without x y (w ∷ ws) ne h =
    elim (cases_eq x w) [
      | inl e ↦
          rw (eq-eqb x w e)
          (elim (lists_cases y w ws h) [ inl q ↦ absurd (ne (q ∙ sym e)) | inr l ↦ l ])
      | inr other ↦
          rw (ne_eqb x w other)
          (elim (lists_cases y w ws h) [
            | inl q ↦ ap (λ n. lists n (w ∷ without x ws)) q ∙ lists_here w (without x ws)
            | inr l ↦ lists_more y w (without x ws) (kept_without x y ws ne l)
          ])
    ]

pub NoTwice-without : (x : ℕ) (zs : List ℕ) → NoTwice zs → NoTwice (without x zs)
unfolding without
NoTwice-without x [] d = d
NoTwice-without x (w ∷ ws) d =
    elim (cases_Bool (eqb x w)) as (λ _. NoTwice (cond (eqb x w) ws (w ∷ without x ws))) [
      | inl t ↦ rw t d.1
      | inr f ↦ rw f (false_from_ne_true _ (λ l. false≢true (sym d.0 ∙ lists_without x w ws l)), NoTwice-without x ws d.1)
    ]

or_turn : (p q r : Bool) → (p || (q || r)) ≡ (q || (p || r))
or_turn p q r = grind arith

pub lists_push : (x y : ℕ) (zs : List ℕ) → lists y (zs ++ x ∷ []) ≡ (eqb y x || lists y zs)
lists_push x y [] = refl
lists_push x y (w ∷ ws) = ap (λ r. eqb y w || r) (lists_push x y ws) ∙ or_turn (eqb y w) (eqb y x) (lists y ws)

pub NoTwice-push : (x : ℕ) (zs : List ℕ) → lists x zs ≡ false → NoTwice zs → NoTwice (zs ++ x ∷ [])
NoTwice-push x [] nx d = (refl, tt)
NoTwice-push x (w ∷ ws) nx d =
    let ox = lists_not x w ws nx in
    (lists_push x w ws ∙ not_lists w x ws (λ q. ox.0 (sym q)) d.0, NoTwice-push x ws ox.1 d.1)

-- ---- links in lists

set_in_room : (xs : List ℕ) (room j v : ℕ) → ((i : ℕ) → get_or xs i 0 ≤ room) → j < length xs → v ≤ room → (i : ℕ) → get_or (set xs j v) i 0 ≤ room
set_in_room xs room j v h lt le i = grind (arith, cases_eq, get_or-set_same, get_or-set_other)

pub get_lists : (ys : List ℕ) (k d : ℕ) → k < length ys → lists (get_or ys k d) ys ≡ true
get_lists [] k d h = absurd (omega arith)
get_lists (y ∷ ys) zero d h = lists_here y ys
get_lists (y ∷ ys) (suc k) d h = lists_more _ y ys (get_lists ys k d (omega arith))

apart_by : (x : ℕ) (ys : List ℕ) → lists x ys ≡ false → AllByRecursion (λ y. eqb x y ≡ false) ys
apart_by x ys h = recursion_from_All (λ y. eqb x y ≡ false) ys (λ k d lt. ne_eqb x _ (differ_from x _ ys h (get_lists ys k d lt)))

distinct : (zs : List ℕ) → NoTwice zs → IsDistinct eqb zs
unfolding IsDistinct
distinct [] d = tt
distinct (w ∷ ws) d = (apart_by w ws d.0, distinct ws d.1)

pub end_outside : (next prev : List ℕ) (room : ℕ) (ids : List ℕ) → IsChain next prev room ids → lists room ids ≡ false
end_outside next prev room ids k = false_from_ne_true _ (λ l. let lt = k.below room l in absurd (omega arith))

pub ids_are : (next prev : List ℕ) (room : ℕ) (ids : List ℕ) → IsChain next prev room ids → ids_of next room ≡ ids
ids_are next prev room ids k =
    walk_is (λ i. slice_index next i) (λ i. slice_index prev i) room room ids room k.joined (end_outside next prev room ids k)
    (length-le_from_distinct_below ids room (distinct ids k.once) k.below)

pub is_ring : (next prev : List ℕ) (room : ℕ) (ids : List ℕ) → IsChain next prev room ids → IsRing next prev room
is_ring next prev room ids k = rw (ids_are next prev room ids k) k

pub remove_chain : (next prev : List ℕ) (room : ℕ) (ids : List ℕ) (x : ℕ) → IsChain next prev room ids → lists x ids ≡ true
    → IsChain (set (set next (get_or prev x 0) (get_or next x 0)) x x) (set prev (get_or next x 0) (get_or prev x 0)) room (without x ids)
remove_chain next prev room ids x k on =
    let p : ℕ = get_or prev x 0 in
    let n : ℕ = get_or next x 0 in
    let lx = k.below x on in
    let lp : p ≤ room = k.prev_in_room x in
    let ln : n ≤ room = k.next_in_room x in
    let pl : p < length next = omega (arith, k.long_next) in
    let nl : n < length prev = omega (arith, k.long_prev) in
    let xl : x < length (set next p n) = omega (arith, k.long_next, length-set next p n) in
    let out = end_outside next prev room ids k in
    let px : p ≢ x = prev_not_self (λ i. get_or next i 0) (λ i. get_or prev i 0) room ids room x k.joined k.once out on in
    let over : Cut (λ i. get_or next i 0) (λ i. get_or prev i 0) (λ i. get_or (set (set next p n) x x) i 0) (λ i. get_or (set prev n p) i 0) x =
    record {
      over = get_or-set_other (set next p n) x p x 0 px ∙ get_or-set_same next p n 0 pl;
      back = get_or-set_same prev n p 0 nl;
      keeps_next = λ i ip ix. get_or-set_other (set next p n) x i x 0 ix ∙ get_or-set_other next p i n 0 ip;
      keeps_prev = λ i i_n. get_or-set_other prev n i p 0 i_n;
    } in
    record {
      long_next = length-set (set next p n) x x ∙ length-set next p n ∙ k.long_next;
      long_prev = length-set prev n p ∙ k.long_prev;
      small = k.small;
      next_in_room = set_in_room (set next p n) room x x (set_in_room next room p n k.next_in_room pl ln) xl (omega arith);
      prev_in_room = set_in_room prev room n p k.prev_in_room nl lp;
      joined = cut _ _ _ _ x over room ids room k.joined k.once out out on;
      once = NoTwice-without x ids k.once;
      below = λ y l. k.below y (lists_without x y ids l);
      absent = λ y lt l.
          elim (cases_eq y x) [
            | inl e ↦ rw e (get_or-set_same (set next p n) x x 0 xl)
            | inr ne ↦
                let off : lists y ids ≡ false = false_from_ne_true _ (λ t. false≢true (sym l ∙ kept_without x y ids ne t)) in
                let yp : y ≢ p =
                elim (prev_within (λ i. get_or next i 0) (λ i. get_or prev i 0) room ids room x k.joined on) [
                  | inl e ↦ (λ q. omega arith)
                  | inr i ↦ differ_from y p ids off i
                ] in
                get_or-set_other (set next p n) x y x 0 ne ∙ get_or-set_other next p y n 0 yp ∙ k.absent y lt off
          ];
    }

pub push_back_chain : (next prev : List ℕ) (room : ℕ) (ids : List ℕ) (x : ℕ) → IsChain next prev room ids → x < room → lists x ids ≡ false
    → IsChain (set (set next x room) (get_or prev room 0) x) (set (set prev x (get_or prev room 0)) room x) room (ids ++ x ∷ [])
push_back_chain next prev room ids x k lx nx =
    let b : ℕ = get_or prev room 0 in
    let lb : b ≤ room = k.prev_in_room room in
    let xr : x ≢ room = λ e. omega arith in
    let out = end_outside next prev room ids k in
    let last = last_within (λ i. get_or next i 0) (λ i. get_or prev i 0) room ids room k.joined in
    let differ : (y : ℕ) → y < room → lists y ids ≡ false → y ≢ b = λ y lt off. elim last [ inl e ↦ (λ q. omega arith) | inr i ↦ differ_from y b ids off i ] in
    let xl : x < length next = omega (arith, k.long_next) in
    let xl2 : x < length prev = omega (arith, k.long_prev) in
    let bl : b < length (set next x room) = omega (arith, k.long_next, length-set next x room) in
    let nl : room < length (set prev x b) = omega (arith, k.long_prev, length-set prev x b) in
    let put : Put (λ i. get_or next i 0) (λ i. get_or prev i 0) (λ i. get_or (set (set next x room) b x) i 0) (λ i. get_or (set (set prev x b) room x) i 0) x b room =
    record {
      over = get_or-set_same (set next x room) b x 0 bl;
      from = get_or-set_other (set next x room) b x x 0 (differ x lx nx) ∙ get_or-set_same next x room 0 xl;
      back = get_or-set_same (set prev x b) room x 0 nl;
      to = get_or-set_other (set prev x b) room x x 0 xr ∙ get_or-set_same prev x b 0 xl2;
      keeps_next = λ i ib ix. get_or-set_other (set next x room) b i x 0 ib ∙ get_or-set_other next x i room 0 ix;
      keeps_prev = λ i i_n ix. get_or-set_other (set prev x b) room i x 0 i_n ∙ get_or-set_other prev x i b 0 ix;
    } in
    record {
      long_next = length-set (set next x room) b x ∙ length-set next x room ∙ k.long_next;
      long_prev = length-set (set prev x b) room x ∙ length-set prev x b ∙ k.long_prev;
      small = k.small;
      next_in_room = set_in_room (set next x room) room b x (set_in_room next room x room k.next_in_room xl (omega arith)) bl (omega arith);
      prev_in_room = set_in_room (set prev x b) room room x (set_in_room prev room x b k.prev_in_room xl2 lb) nl (omega arith);
      joined = put_last (λ i. get_or next i 0) (λ i. get_or prev i 0) _ _ x room put room ids k.joined k.once out out xr nx;
      once = NoTwice-push x ids nx k.once;
      below = λ y l. elim (lists_cases y x ids (sym (lists_push x y ids) ∙ l)) [ inl e ↦ omega arith | inr i ↦ k.below y i ];
      absent = λ y lt l.
          let o = lists_not y x ids (sym (lists_push x y ids) ∙ l) in
          get_or-set_other (set next x room) b y x 0 (differ y lt o.1) ∙ get_or-set_other next x y room 0 o.0 ∙ k.absent y lt o.1;
    }

within : (xs : List ℕ) (room : ℕ) → length xs ≡ room + 1 → ((i : ℕ) → i < room + 1 → get_or xs i 0 ≡ i) → (i : ℕ) → get_or xs i 0 ≤ room
within xs room len f i = grind (arith, cases_lt, get_or_past)

pub new_chain : (next prev : List ℕ) (room : ℕ) → length next ≡ room + 1 → length prev ≡ room + 1 → room < 2 ^ 32
    → ((i : ℕ) → i < room + 1 → get_or next i 0 ≡ i) → ((i : ℕ) → i < room + 1 → get_or prev i 0 ≡ i) → IsChain next prev room []
new_chain next prev room ln lp small fn fp =
    record {
      long_next = ln;
      long_prev = lp;
      small = small;
      next_in_room = within next room ln fn;
      prev_in_room = within prev room lp fp;
      joined = (fn room (omega arith), fp room (omega arith));
      once = tt;
      below = λ y l. absurd (false≢true l);
      absent = λ y lt _. fn y (omega arith);
    }

-- ---- what the first and the last link say

pub contains_at : (next prev : List ℕ) (room : ℕ) (ids : List ℕ) (x : ℕ) → IsChain next prev room ids → x < room → not (eqb (get_or next x 0) x) ≡ lists x ids
contains_at next prev room ids x k lt = grind (arith, cases_Bool, ne_eqb, next_not_self, end_outside, eq-eqb)

pub next_is : (next prev : List ℕ) (room : ℕ) (ids : List ℕ) (x : ℕ) → IsChain next prev room ids → lists x ids ≡ true
    → cond (eqb (get_or next x 0) room) None (Some (get_or next x 0)) ≡ next_in x ids
next_is next prev room ids x k on =
    next_at (λ i. get_or next i 0) (λ i. get_or prev i 0) room ids room x k.joined (end_outside next prev room ids k) on

pub prev_is : (next prev : List ℕ) (room : ℕ) (ids : List ℕ) (x : ℕ) → IsChain next prev room ids → lists x ids ≡ true
    → cond (eqb (get_or prev x 0) room) None (Some (get_or prev x 0)) ≡ prev_in x ids
prev_is next prev room ids x k on =
    prev_at (λ i. get_or next i 0) (λ i. get_or prev i 0) room ids room x k.joined (end_outside next prev room ids k) on
    ∙ ap (λ p. prev_from p x ids) (cond-true (eqb room room) None (Some room) (eq-eqb room room refl))

pub first_is : (next prev : List ℕ) (room : ℕ) (ids : List ℕ) → IsChain next prev room ids
    → cond (eqb (get_or next room 0) room) None (Some (get_or next room 0)) ≡ head ids
first_is next prev room ids k =
    first_at (λ i. get_or next i 0) (λ i. get_or prev i 0) room ids room k.joined (end_outside next prev room ids k)

-- the view of links that hold an order
pub order_is : (next prev : List ℕ) (room : ℕ) (ids : List ℕ) → IsChain next prev room ids
    → (let o : Order = record { room = room; ids = ids_of next room } in o) ≡ (let o : Order = record { room = room; ids = ids } in o)
order_is next prev room ids k = ap (λ l. let o : Order = record { room = room; ids = l } in o) (ids_are next prev room ids k)

-- ---- the same at values that the code read: a read gives `v ≡ get_or xs i v`

read : (xs : List ℕ) (room i v : ℕ) → length xs ≡ room + 1 → i ≤ room → v ≡ get_or xs i v → v ≡ get_or xs i 0
read xs room i v len le e = get_or_read xs i v (omega arith) e 0

pub remove_by : (next prev : List ℕ) (room : ℕ) (ids : List ℕ) (x p n : ℕ) → IsChain next prev room ids → lists x ids ≡ true
    → p ≡ get_or prev x p → n ≡ get_or next x n → IsChain (set (set next p n) x x) (set prev n p) room (without x ids)
remove_by next prev room ids x p n k on ep en =
    let lx = k.below x on in
    rw (read prev room x p k.long_prev (omega arith) ep, read next room x n k.long_next (omega arith) en) (remove_chain next prev room ids x k on)

pub push_back_by : (next prev : List ℕ) (room : ℕ) (ids : List ℕ) (x b : ℕ) → IsChain next prev room ids → x < room → lists x ids ≡ false
    → b ≡ get_or prev room b → IsChain (set (set next x room) b x) (set (set prev x b) room x) room (ids ++ x ∷ [])
push_back_by next prev room ids x b k lx nx e =
    rw (read prev room room b k.long_prev (omega arith) e) (push_back_chain next prev room ids x k lx nx)

pub contains_by : (next prev : List ℕ) (room : ℕ) (ids : List ℕ) (x v : ℕ) → IsChain next prev room ids → x < room → v ≡ get_or next x v → not (eqb v x) ≡ lists x ids
contains_by next prev room ids x v k lt e = rw (read next room x v k.long_next (omega arith) e) (contains_at next prev room ids x k lt)

pub next_by : (next prev : List ℕ) (room : ℕ) (ids : List ℕ) (x v : ℕ) → IsChain next prev room ids → lists x ids ≡ true → v ≡ get_or next x v
    → cond (eqb v room) None (Some v) ≡ next_in x ids
next_by next prev room ids x v k on e = grind (arith, common_steps, read, next_is)

pub prev_by : (next prev : List ℕ) (room : ℕ) (ids : List ℕ) (x v : ℕ) → IsChain next prev room ids → lists x ids ≡ true → v ≡ get_or prev x v
    → cond (eqb v room) None (Some v) ≡ prev_in x ids
prev_by next prev room ids x v k on e = grind (arith, common_steps, read, prev_is)

-- where they rise, the last one is the greatest
prev_end : (N P : ℕ → ℕ) (a : ℕ) (zs : List ℕ) (z : ℕ) → Joined N P a zs z → (P z ≡ a) ⊎ (lists (P z) zs ≡ true)
prev_end N P a [] z j = inl j.1
prev_end N P a (w ∷ ws) z j =
    elim (prev_end N P w ws z j.2) [
      | inl e ↦ inr (ap (λ n. lists n (w ∷ ws)) e ∙ lists_here w ws)
      | inr l ↦ inr (lists_more (P z) w ws l)
    ]

last_most : (N P : ℕ → ℕ) (a : ℕ) (zs : List ℕ) (z x : ℕ) → Joined N P a zs z → Rising zs → lists x zs ≡ true → x ≤ P z
last_most N P a [] z x j r h = absurd (false≢true h)
last_most N P a (w ∷ ws) z x j r h =
    elim (lists_cases x w ws h) [
      | inl e ↦
          (elim (prev_end N P w ws z j.2) [
            | inl is ↦ omega (arith, e, is)
            | inr on ↦ let lt = r.0 (P z) on in omega (arith, e, lt)
          ])
      | inr l ↦ last_most N P w ws z x j.2 r.1 l
    ]

pub greatest_by : (next prev : List ℕ) (room : ℕ) (ids : List ℕ) (v x : ℕ) → IsChain next prev room ids → Rising ids → v ≡ get_or prev room v → lists x ids ≡ true → x ≤ v
greatest_by next prev room ids v x k r e on =
    let is : v ≡ get_or prev room 0 = read prev room room v k.long_prev (omega arith) e in
    let le : x ≤ get_or prev room 0 = last_most (slice_index next) (slice_index prev) room ids room x k.joined r on in
    omega (arith, is, le)

-- ---- a new ring

counted : (xs : List ℕ) (room : ℕ) → length xs ≡ room → ((k : ℕ) → k < room → get_or xs k 0 ≡ k) → (k : ℕ) → k < room + 1 → get_or (xs ++ room ∷ []) k 0 ≡ k
counted xs room len f k lt = grind (arith, cases_eq, get_or_push, get_or_append_left)

pub new_by : (next prev xs : List ℕ) (room i : ℕ) → next ≡ xs ++ room ∷ [] → prev ≡ next → i ≡ room → room < 2 ^ 32 → (length xs ≡ i) × ((k : ℕ) → k < i → get_or xs k 0 ≡ k) → IsChain next prev room []
new_by next prev xs room i en ep ei small inv =
    let kept = rw ei at inv in
    let long : length (xs ++ room ∷ []) ≡ room + 1 = omega (arith, length-append xs (room ∷ []), kept.0) in
    rw (en, ep ∙ en) (new_chain (xs ++ room ∷ []) (xs ++ room ∷ []) room long long small (counted xs room kept.0 kept.1) (counted xs room kept.0 kept.1))

pub ids_few : (ids : List ℕ) (n : ℕ) → NoTwice ids → ((x : ℕ) → lists x ids ≡ true → x < n) → length ids ≤ n
ids_few ids n d b = length-le_from_distinct_below ids n (distinct ids d) b
