-- A level that is not kept: one gate from a key of the permutation's side.
use Rattle.std.proofs.Common.{◌≡◌, ℕ, ◌+◌, ◌^◌, ◌<◌, ◌≤◌, List, [], ◌∷◌, Contains, length, flat_map, get_or, sym, ◌∙◌, ap, subst, inl, inr, arith}
use Rattle.std.specs.List.{range_with_len}
use Rattle.std.proofs.lemmas.List.{get_or_default}
use Rattle.std.proofs.lemmas.List.Elements.{All-cons, All-get_or, All-nil, Contains-get_or}
use Rattle.rv_gate.specs.declared.gate.Shape.{Shape}
use Rattle.rv_perm.specs.Perm.{IsPerm}
use Rattle.rv_optimal.specs.Library.{AreIn, IsIn}
use Rattle.rv_optimal.specs.Shortest.{TakesAtLeast}
use Rattle.rv_optimal.specs.declared.library.Library.{Library}
use Rattle.rv_optimal.specs.declared.alike.Alike.{Alike}
use Rattle.rv_optimal.specs.declared.alike.Alike.TheVariants.{Equal}
use Rattle.rv_optimal.specs.inside.Packed.{composed, move_of}
use Rattle.rv_optimal.specs.inside.Alike.{least}
use Rattle.rv_optimal.specs.inside.Levels.{after, grown_from, AreApart, AreMoves, IsLevel, IsWhole}
use Rattle.rv_optimal.proofs.inside.After.{after-first, after-none}
use Rattle.rv_optimal.proofs.inside.Contained.{Contains-flat_map}
use Rattle.rv_optimal.proofs.inside.Growing.{move_at, place_within, twice_moved, whole_moved}
use Rattle.rv_optimal.proofs.inside.Meeting.{none_so_short}
use Rattle.rv_optimal.proofs.inside.Members.{IsJoined, grown_cases, joined_of}
use Rattle.rv_optimal.proofs.inside.Reaching.{has_more}

-- no move leads from a key to a level
abbrev pub NoneLeads : Alike → ℕ → List ℕ → List ℕ → ℕ → Type 0
NoneLeads alike count moves level key = (step : ℕ) → Contains moves step → Contains level (least alike (composed count step key)) → ⊥

pub none_counted : (alike : Alike) (m n count : ℕ) (moves level : List ℕ) (key : ℕ) → m ≡ n → count ≡ 2 ^ m → NoneLeads alike count moves level key → NoneLeads alike (2 ^ n) moves level key
none_counted alike m n count moves level key lines_is count_is none =
    let None : ℕ → Type 0 = λ c. NoneLeads alike c moves level key in
    subst None (count_is ∙ ap (λ l. 2 ^ l) lines_is) none

pub none_ahead : (library : Library) (n : ℕ) (alike : Alike) (a b k i : ℕ) (images : List ℕ) (gates : List Shape) (moves front back : List ℕ) → n ≤ 4 → IsPerm n images → AreMoves library n gates moves
    → IsLevel library n (range_with_len 0 (2 ^ n)) alike a front → IsLevel library n images Equal b back → AreApart alike front back → length back ≤ i
    → ((j : ℕ) → j < i → NoneLeads alike (2 ^ n) moves front (get_or back j 0)) → a + b + 2 ≡ k → TakesAtLeast library n images k
none_ahead library n alike a b k i images gates moves front back few perm m f b_level apart past none is =
    let grow : ℕ → List ℕ = grown_from Equal (2 ^ n) moves in
    let next : List ℕ = flat_map grow back in
    let e : a + (b + 1) + 1 ≡ k = omega (arith, is) in
    subst (TakesAtLeast library n images) e
    (none_so_short library n images alike a (b + 1) front next perm f.has
    (has_more library n images Equal moves back next b few perm.2 m.all tt (λ key new in_keys in_grown. Contains-flat_map grow back key new in_keys in_grown) b_level.has)
    (λ key in_front in_next.
    let j : IsJoined grow back key = joined_of grow back key in_next in
    elim (grown_cases Equal (2 ^ n) moves j.from key j.made) as (λ _. ⊥) [
      | inl same ↦ apart key in_front (subst (Contains back) (sym same) j.there)
      | inr more ↦
          let at : get_or back j.there.0 0 ≡ j.from = get_or_default back j.there.0 0 j.from j.there.1 ∙ j.there.2 in
          none j.there.0 (omega (arith, j.there.1, past)) more.from more.there
          (subst (λ x. Contains front (least alike x)) (more.is ∙ ap (composed (2 ^ n) more.from) (sym at)) in_front)
    ]))

module _ (library : Library) (m n count : ℕ) (gates : List Shape) (moves : List ℕ) (place key from : ℕ) (few : n ≤ 4) (are : AreMoves library n gates moves) (within : place < length moves)
    (lines_is : m ≡ n) (count_is : count ≡ 2 ^ m) (from_is : from ≡ composed count (get_or moves place 0) key) where
  from_counted : from ≡ composed (2 ^ n) (get_or moves place 0) key
  from_counted = from_is ∙ ap (λ c. composed c (get_or moves place 0) key) (count_is ∙ ap (λ l. 2 ^ l) lines_is)

  pub one_whole : IsWhole n key → IsWhole n from
  one_whole whole =
      subst (IsWhole n) (sym from_counted) (whole_moved library n gates moves (get_or moves place 0) key few are (Contains-get_or moves place 0 within) whole)

  pub one_leads : (g : Shape) (items : List Shape) → IsWhole n key → g ≡ get_or gates place g → items ≡ g ∷ [] → after n items from ≡ key
  one_leads g items whole at is =
      let step : ℕ = get_or moves place 0 in
      let move_is : step ≡ move_of n g = move_at library n gates moves place g are within at in
      ap (λ l. after n l from) is ∙ after-first n g [] from ∙ after-none n (composed (2 ^ n) (move_of n g) from)
      ∙ ap (λ v. composed (2 ^ n) v from) (sym move_is) ∙ ap (composed (2 ^ n) step) from_counted
      ∙ twice_moved library n gates moves step key few are (Contains-get_or moves place 0 within) whole

  pub one_allowed : (g : Shape) (items : List Shape) → g ≡ get_or gates place g → items ≡ g ∷ [] → AreIn library n items
  one_allowed g items at is =
      let isin : IsIn library n (get_or gates place g) = All-get_or (IsIn library n) gates place g (place_within library n gates moves place are within) are.allowed in
      subst (AreIn library n) (sym is) (All-cons (IsIn library n) g [] (subst (IsIn library n) (sym at) isin) (All-nil (IsIn library n)))
