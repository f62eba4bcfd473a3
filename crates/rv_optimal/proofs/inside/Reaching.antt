-- Levels have the keys of all lists of so many gates.
use Rattle.std.proofs.Common.{◌≡◌, ℕ, ◌+◌, ◌^◌, ◌<◌, ◌≤◌, ◌⊎◌, List, [], ◌∷◌, ◌++◌, All, Contains, length, get_or, refl, sym, ◌∙◌, ap, subst, inl, inr, arith}
use Rattle.std.proofs.lemmas.Bool.{cases_lt}
use Rattle.std.proofs.lemmas.List.{get_or_append_left, get_or_at, length_push, nil_from_length}
use Rattle.std.proofs.lemmas.List.Elements.{All-same}
use Rattle.rv_gate.specs.Gate.{IsFlipOn}
use Rattle.rv_gate.specs.declared.gate.Shape.{Shape}
use Rattle.rv_optimal.specs.Library.{IsIn, AreIn}
use Rattle.rv_optimal.specs.declared.library.Library.{Library}
use Rattle.rv_optimal.specs.declared.library.Library.TheVariants.{Positive, Mixed}
use Rattle.rv_optimal.specs.inside.Packed.{composed, move_of}
use Rattle.rv_optimal.specs.inside.Alike.{least, Suits}
use Rattle.rv_optimal.specs.inside.Levels.{key_after, HasAll, HasMoves, IsWhole, grown_from}
use Rattle.rv_optimal.specs.declared.alike.Alike.{Alike}
use Rattle.rv_optimal.proofs.inside.After.{whole_more}
use Rattle.rv_optimal.proofs.inside.Renaming.{followed, like_least, same_least}
use Rattle.rv_optimal.proofs.inside.Running.{key_more}
use Rattle.rv_optimal.proofs.inside.Contained.{Contains-head, Contains-map, Contains-tail}

pub is_flip_on : (library : Library) (n : ℕ) (g : Shape) → IsIn library n g → IsFlipOn n g
is_flip_on Positive n g h = h.0
is_flip_on Mixed n g h = h

pub are_flips : (library : Library) (n : ℕ) (gates : List Shape) → AreIn library n gates → All (IsFlipOn n) gates
are_flips library n gates are = λ k d l. is_flip_on library n (get_or gates k d) (are k d l)

-- ---- the last gate

pub record EndsIn {X : Type 0} (xs : List X) : Type 0 where
  pub front : List X
  pub last : X
  pub is : xs ≡ front ++ last ∷ []

pub ends : {X : Type 0} (xs : List X) → 0 < length xs → EndsIn xs
ends [] h = absurd (omega (arith, h))
ends (x ∷ []) h = record { front = []; last = x; is = refl }
ends (x ∷ y ∷ xs) h =
    let rest : EndsIn (y ∷ xs) = ends (y ∷ xs) (omega arith) in
    record { front = x ∷ rest.front; last = rest.last; is = ap (λ l. x ∷ l) rest.is }

front_all : {X : Type 0} (P : X → Type 0) (front : List X) (last : X) → All P (front ++ last ∷ []) → All P front
front_all P front last a = λ k d l.
    let m : k < length (front ++ last ∷ []) = omega (arith, l, length_push front last) in
    subst P (get_or_append_left front (last ∷ []) d k l) (a k d m)

last_all : {X : Type 0} (P : X → Type 0) (front : List X) (last : X) → All P (front ++ last ∷ []) → P last
last_all P front last a =
    let m : length front < length (front ++ last ∷ []) = omega (arith, length_push front last) in
    subst P (get_or_at front last [] last (length front) refl) (a (length front) last m)

-- ---- levels

pub has_none : (library : Library) (n : ℕ) (numbers : List ℕ) (alike : Alike) (keys : List ℕ) → Contains keys (least alike (key_after n numbers [])) → HasAll library n numbers alike 0 keys
has_none library n numbers alike keys c gates are few =
    let e : gates ≡ [] = nil_from_length gates (omega (arith, few)) in
    subst (λ g. Contains keys (least alike (key_after n numbers g))) (sym e) c

pub has_more : (library : Library) (n : ℕ) (numbers : List ℕ) (alike : Alike) (moves keys next : List ℕ) (k : ℕ) → n ≤ 4 → length numbers ≡ 2 ^ n → HasMoves library n moves → Suits alike n moves
    → ((key new : ℕ) → Contains keys key → Contains (grown_from alike (2 ^ n) moves key) new → Contains next new) → HasAll library n numbers alike k keys → HasAll library n numbers alike (k + 1) next
has_more library n numbers alike moves keys next k few count has suits grown all gates are most =
    elim (split k (length gates) most) [
      | inl less ↦ (let key : ℕ = least alike (key_after n numbers gates) in grown key key (all gates are less) (Contains-head _ _))
      | inr more ↦
          let e = ends gates more.0 in
          let both : AreIn library n (e.front ++ e.last ∷ []) = All-same (IsIn library n) _ gates (sym e.is) are in
          let short : length e.front ≤ k = omega (arith, more.1, ap length e.is, length_push e.front e.last) in
          let key : ℕ = key_after n numbers e.front in
          let step : ℕ = move_of n e.last in
          let from : ℕ = least alike key in
          let old : Contains keys from = all e.front (front_all (IsIn library n) e.front e.last both) short in
          let moved : Contains moves step = has e.last (last_all (IsIn library n) e.front e.last both) in
          let whole : IsWhole n key = record { numbers = numbers; gates = e.front; all = count; is = refl } in
          let f = followed alike n moves step key from suits moved (like_least alike key) in
          let new : ℕ = composed (2 ^ n) step key in
          let new_is : new ≡ key_after n numbers gates =
          ap (λ c. composed c step key) (sym count) ∙ sym (key_more n numbers e.front e.last few) ∙ ap (key_after n numbers) (sym e.is) in
          let same : least alike (composed (2 ^ n) f.step from) ≡ least alike new =
          same_least alike n moves new (composed (2 ^ n) f.step from) suits (whole_more n key e.last few whole) f.like in
          let there : Contains (grown_from alike (2 ^ n) moves from) (least alike (composed (2 ^ n) f.step from)) =
          Contains-tail from _ _ (Contains-map (λ move. least alike (composed (2 ^ n) move from)) moves f.step f.there) in
          subst (Contains next) (same ∙ ap (least alike) new_is) (grown from _ old there)
    ]
  where
    split : (k m : ℕ) → m ≤ k + 1 → (m ≤ k) ⊎ ((0 < m) × (m ≤ k + 1))
    split k m h = elim (cases_lt k m) [ inl g ↦ (let p : 0 < m = omega (arith, g) in inr (p, h)) | inr l ↦ inl l ]
