-- How levels grow, and how a key of the next level leads down.
use Rattle.std.proofs.Common.{◌≡◌, ℕ, ◌+◌, ◌^◌, ◌<◌, ◌≤◌, List, [], ◌∷◌, ◌++◌, Contains, length, flat_map, get_or, sym, ◌∙◌, ap, subst, inl, inr, arith}
use Rattle.std.specs.List.{range_with_len}
use Rattle.std.specs.List.Sorted.{IsNonDecreasing}
use Rattle.std.proofs.lemmas.List.{get_or-map, length-map}
use Rattle.std.proofs.lemmas.List.Elements.{All-contains}
use Rattle.rv_gate.specs.Gate.{IsFlipOn}
use Rattle.rv_gate.specs.declared.gate.Shape.{Shape}
use Rattle.rv_perm.specs.Perm.{IsPerm}
use Rattle.rv_optimal.specs.Library.{IsIn}
use Rattle.rv_optimal.specs.Shortest.{TakesAtLeast}
use Rattle.rv_optimal.specs.declared.library.Library.{Library}
use Rattle.rv_optimal.specs.inside.Packed.{composed, move_of}
use Rattle.rv_optimal.specs.inside.Alike.{least, Suits}
use Rattle.rv_optimal.specs.inside.Levels.{after, grown_from, AreApart, AreLeast, AreMoves, AreWhole, HaveSame, IsLevel, IsWhole}
use Rattle.rv_optimal.specs.declared.alike.Alike.{Alike}
use Rattle.rv_optimal.specs.declared.alike.Alike.TheVariants.{Equal}
use Rattle.rv_optimal.proofs.inside.After.{after-first, after-last, twice, whole_more}
use Rattle.rv_optimal.proofs.inside.Members.{IsImage, IsJoined, grown_cases, image_of, joined_of}
use Rattle.rv_optimal.proofs.inside.Meeting.{none_so_short}
use Rattle.rv_optimal.proofs.inside.Contained.{Contains-flat_map}
use Rattle.rv_optimal.proofs.inside.Reaching.{has_more, is_flip_on}
use Rattle.rv_optimal.proofs.inside.Renaming.{IsRenaming, carried, least_least, least_whole, like_back, like_least, like_like, like_whole, same_least}

-- a move is that of a gate
pub gate_of_move : (library : Library) (n : ℕ) (gates : List Shape) (moves : List ℕ) (step : ℕ) → AreMoves library n gates moves → Contains moves step → IsImage (move_of n) gates step
gate_of_move library n gates moves step m c = image_of (move_of n) gates step (subst (λ l. Contains l step) m.are c)

pub whole_moved : (library : Library) (n : ℕ) (gates : List Shape) (moves : List ℕ) (step key : ℕ) → n ≤ 4 → AreMoves library n gates moves → Contains moves step → IsWhole n key → IsWhole n (composed (2 ^ n) step key)
whole_moved library n gates moves step key few m there whole =
    let g : IsImage (move_of n) gates step = gate_of_move library n gates moves step m there in
    subst (λ v. IsWhole n (composed (2 ^ n) v key)) (sym g.is) (whole_more n key g.from few whole)

pub twice_moved : (library : Library) (n : ℕ) (gates : List Shape) (moves : List ℕ) (step key : ℕ) → n ≤ 4 → AreMoves library n gates moves → Contains moves step → IsWhole n key
    → composed (2 ^ n) step (composed (2 ^ n) step key) ≡ key
twice_moved library n gates moves step key few m there whole =
    let g : IsImage (move_of n) gates step = gate_of_move library n gates moves step m there in
    let flip : IsFlipOn n g.from = is_flip_on library n g.from (All-contains (IsIn library n) gates g.from m.allowed g.there) in
    ap (λ v. composed (2 ^ n) v (composed (2 ^ n) v key)) g.is ∙ twice n key g.from few flip whole

whole_grown : (library : Library) (n : ℕ) (alike : Alike) (gates : List Shape) (moves keys : List ℕ) (new : ℕ) → n ≤ 4 → AreMoves library n gates moves → Suits alike n moves → AreWhole n keys
    → Contains (flat_map (grown_from alike (2 ^ n) moves) keys) new → IsWhole n new
whole_grown library n alike gates moves keys new few m suits whole c =
    let j : IsJoined (grown_from alike (2 ^ n) moves) keys new = joined_of (grown_from alike (2 ^ n) moves) keys new c in
    elim (grown_cases alike (2 ^ n) moves j.from new j.made) as (λ _. IsWhole n new) [
      | inl same ↦ subst (IsWhole n) (sym same) (whole j.from j.there)
      | inr more ↦
          subst (IsWhole n) (sym more.is) (least_whole alike n moves _ suits (whole_moved library n gates moves more.from j.from few m more.there (whole j.from j.there)))
    ]

least_grown : (library : Library) (n : ℕ) (alike : Alike) (gates : List Shape) (moves keys : List ℕ) (new : ℕ) → n ≤ 4 → AreMoves library n gates moves → Suits alike n moves → AreWhole n keys → AreLeast alike keys
    → Contains (flat_map (grown_from alike (2 ^ n) moves) keys) new → least alike new ≡ new
least_grown library n alike gates moves keys new few m suits whole least_ones c =
    let j : IsJoined (grown_from alike (2 ^ n) moves) keys new = joined_of (grown_from alike (2 ^ n) moves) keys new c in
    elim (grown_cases alike (2 ^ n) moves j.from new j.made) as (λ _. least alike new ≡ new) [
      | inl same ↦ ap (least alike) same ∙ least_ones j.from j.there ∙ sym same
      | inr more ↦
          ap (least alike) more.is ∙ least_least alike n moves _ suits (whole_moved library n gates moves more.from j.from few m more.there (whole j.from j.there)) ∙ sym more.is
    ]

pub level_grows : (library : Library) (n k : ℕ) (numbers : List ℕ) (alike : Alike) (gates : List Shape) (moves keys next : List ℕ) → n ≤ 4 → length numbers ≡ 2 ^ n → AreMoves library n gates moves → Suits alike n moves
    → HaveSame (flat_map (grown_from alike (2 ^ n) moves) keys) next → IsNonDecreasing next → IsLevel library n numbers alike k keys → IsLevel library n numbers alike (k + 1) next
level_grows library n k numbers alike gates moves keys next few all m suits same rising level = record {
  has = has_more library n numbers alike moves keys next k few all m.all suits
      (λ key new in_keys in_grown. (same new).0 (Contains-flat_map (grown_from alike (2 ^ n) moves) keys key new in_keys in_grown))
      level.has;
  whole = λ new c. whole_grown library n alike gates moves keys new few m suits level.whole ((same new).1 c);
  least_ones = λ new c. least_grown library n alike gates moves keys new few m suits level.whole level.least_ones ((same new).1 c);
  rising = rising;
}

-- from a key that is like one of the next level and not like one of the level a move leads there
pub goes_down : (library : Library) (n : ℕ) (alike : Alike) (gates : List Shape) (moves level : List ℕ) (key : ℕ) → n ≤ 4 → AreMoves library n gates moves → Suits alike n moves → AreWhole n level → AreLeast alike level
    → IsWhole n key → Contains (flat_map (grown_from alike (2 ^ n) moves) level) (least alike key) → (Contains level (least alike key) → ⊥)
    → ((step : ℕ) → Contains moves step → Contains level (least alike (composed (2 ^ n) step key)) → ⊥) → ⊥
goes_down library n alike gates moves level key few m suits whole least_ones whole_key next not_there none =
    let j : IsJoined (grown_from alike (2 ^ n) moves) level (least alike key) = joined_of (grown_from alike (2 ^ n) moves) level (least alike key) next in
    elim (grown_cases alike (2 ^ n) moves j.from (least alike key) j.made) as (λ _. ⊥) [
      | inl same ↦ not_there (subst (Contains level) (sym same) j.there)
      | inr more ↦
          let low : IsWhole n j.from = whole j.from j.there in
          let made : ℕ = composed (2 ^ n) more.from j.from in
          let up : IsRenaming alike made (least alike key) = subst (IsRenaming alike made) (sym more.is) (like_least alike made) in
          let like : IsRenaming alike made key =
          like_like alike made (least alike key) key up (like_back alike n moves key (least alike key) suits whole_key (like_least alike key)) in
          let c = carried alike n moves more.from j.from key suits more.there like in
          let down : IsWhole n c.from = like_whole alike n moves j.from c.from suits low c.like in
          let back : composed (2 ^ n) c.step key ≡ c.from = ap (composed (2 ^ n) c.step) c.is ∙ twice_moved library n gates moves c.step c.from few m c.there down in
          let same : least alike (composed (2 ^ n) c.step key) ≡ j.from =
          ap (least alike) back ∙ same_least alike n moves j.from c.from suits low c.like ∙ least_ones j.from j.there in
          none c.step c.there (subst (Contains level) (sym same) j.there)
    ]

pub place_within : (library : Library) (n : ℕ) (gates : List Shape) (moves : List ℕ) (place : ℕ) → AreMoves library n gates moves → place < length moves → place < length gates
place_within library n gates moves place m within = omega (arith, within, ap length m.are, length-map gates (move_of n))

pub move_at : (library : Library) (n : ℕ) (gates : List Shape) (moves : List ℕ) (place : ℕ) (g : Shape) → AreMoves library n gates moves → place < length moves → g ≡ get_or gates place g
    → get_or moves place 0 ≡ move_of n g
move_at library n gates moves place g m within is =
    ap (λ l. get_or l place 0) m.are
    ∙ get_or-map (move_of n) gates place g 0 (place_within library n gates moves place m within)
    ∙ ap (move_of n) (sym is)

-- ---- ways

pub begin_leads : (library : Library) (n key from count move : ℕ) (old : List Shape) (g : Shape) (new : List Shape) → n ≤ 4 → IsIn library n g → IsWhole n key
    → count ≡ 2 ^ n → move ≡ move_of n g → from ≡ composed count move key → new ≡ g ∷ old → after n new from ≡ after n old key
begin_leads library n key from count move old g new few isin whole count_is move_is from_is new_is =
    let moved : from ≡ composed (2 ^ n) (move_of n g) key =
    from_is ∙ ap (λ c. composed c move key) count_is ∙ ap (λ m. composed (2 ^ n) m key) move_is in
    ap (λ l. after n l from) new_is ∙ after-first n g old from
    ∙ ap (after n old) (ap (composed (2 ^ n) (move_of n g)) moved ∙ twice n key g few (is_flip_on library n g isin) whole)

pub begin_whole : (n key from count move : ℕ) (g : Shape) → n ≤ 4 → IsWhole n key → count ≡ 2 ^ n → move ≡ move_of n g → from ≡ composed count move key → IsWhole n from
begin_whole n key from count move g few whole count_is move_is from_is =
    let moved : from ≡ composed (2 ^ n) (move_of n g) key =
    from_is ∙ ap (λ c. composed c move key) count_is ∙ ap (λ m. composed (2 ^ n) m key) move_is in
    subst (IsWhole n) (sym moved) (whole_more n key g few whole)

pub end_leads : (n from key to count move : ℕ) (old : List Shape) (g : Shape) (new : List Shape) → count ≡ 2 ^ n → move ≡ move_of n g → to ≡ composed count move key
    → new ≡ old ++ g ∷ [] → after n old from ≡ key → after n new from ≡ to
end_leads n from key to count move old g new count_is move_is to_is new_is leads =
    ap (λ l. after n l from) new_is ∙ after-last n old g from ∙ ap (composed (2 ^ n) (move_of n g)) leads
    ∙ sym (to_is ∙ ap (λ c. composed c move key) count_is ∙ ap (λ m. composed (2 ^ n) m key) move_is)

-- ---- both sides, where the next level was made on as many lines and is passed on

module _ (m n count : ℕ) (alike : Alike) (moves keys next passed : List ℕ) (same_lines : m ≡ n) (count_is : count ≡ 2 ^ m) (passed_is : passed ≡ next)
    (same : HaveSame (flat_map (grown_from alike count moves) keys) next) where
  pub from_next : (x : ℕ) → Contains passed x → Contains (flat_map (grown_from alike (2 ^ m) moves) keys) x
  from_next x there =
      subst (λ c. Contains (flat_map (grown_from alike c moves) keys) x) count_is ((same x).1 (subst (λ l. Contains l x) passed_is there))

  pub next_level : (library : Library) (k : ℕ) (numbers : List ℕ) (gates : List Shape) → n ≤ 4 → length numbers ≡ 2 ^ n → AreMoves library n gates moves → Suits alike n moves → IsNonDecreasing next
      → IsLevel library n numbers alike k keys → IsLevel library n numbers alike (k + 1) passed
  next_level library k numbers gates few all are suits rising level =
      let Same : ℕ → Type 0 = λ c. HaveSame (flat_map (grown_from alike c moves) keys) next in
      subst (IsLevel library n numbers alike (k + 1)) (sym passed_is)
      (level_grows library n k numbers alike gates moves keys next few all are suits (subst Same (count_is ∙ ap (λ l. 2 ^ l) same_lines) same) rising level)

pub none_here : (library : Library) (n : ℕ) (alike : Alike) (a b k : ℕ) (images front back : List ℕ) → IsPerm n images → IsLevel library n (range_with_len 0 (2 ^ n)) alike a front
    → IsLevel library n images Equal b back → AreApart alike front back → a + b + 1 ≡ k → TakesAtLeast library n images k
none_here library n alike a b k images front back perm f b_level apart is =
    subst (TakesAtLeast library n images) is (none_so_short library n images alike a b front back perm f.has b_level.has apart)
