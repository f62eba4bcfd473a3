-- How both sides start and grow.
use Rattle.std.proofs.Common.{◌≡◌, ℕ, ◌^◌, ◌<◌, ◌≤◌, List, [], ◌∷◌, All, map, length, refl, sym, ◌∙◌, ap, subst, arith}
use Rattle.std.specs.List.{range_with_len}
use Rattle.std.proofs.lemmas.List.FromFn.{get_or-range_with_len, length-range_with_len}
use Rattle.std.proofs.lemmas.List.Sorted.{IsNonDecreasingBy-short}
use Rattle.rv_gate.specs.Gate.{AllFit}
use Rattle.rv_gate.specs.declared.gate.Shape.{Shape}
use Rattle.rv_perm.specs.Perm.{IsPerm, Computes}
use Rattle.rv_optimal.specs.Library.{AreIn}
use Rattle.rv_optimal.specs.declared.library.Library.{Library}
use Rattle.rv_optimal.specs.inside.Packed.{packed, move_of}
use Rattle.rv_optimal.specs.inside.Alike.{least, Suits}
use Rattle.rv_optimal.specs.inside.Levels.{after, key_after, AreMoves, HasAll, HasBelow, HasMoves, IsLevel, IsWhole}
use Rattle.rv_optimal.specs.declared.alike.Alike.{Alike}
use Rattle.rv_optimal.specs.declared.alike.Alike.TheVariants.{Equal}
use Rattle.rv_optimal.proofs.inside.After.{after-key}
use Rattle.rv_optimal.proofs.inside.Members.{one_of}
use Rattle.rv_optimal.proofs.inside.Running.{key_none}
use Rattle.rv_optimal.proofs.inside.Reaching.{has_none, are_flips}
use Rattle.rv_optimal.proofs.inside.Contained.{Contains-head}
use Rattle.rv_optimal.proofs.inside.Renaming.{identity_alone, least_identity}
use Rattle.rv_optimal.proofs.inside.Meeting.{computes_by_key, images_below}
use Rattle.rv_optimal.proofs.inside.Codes.{all_moves}
use Rattle.std.proofs.Common.{Contains}

pub all_fit : (library : Library) (n : ℕ) (gates : List Shape) → AreIn library n gates → AllFit n gates
all_fit library n gates are = λ k d l. (are_flips library n gates are k d l).2

pub range_below : (m : ℕ) → All (λ x. x < m) (range_with_len 0 m)
range_below m = λ k d l.
    let within : k < m = omega (arith, l, length-range_with_len 0 m) in
    omega (arith, within, get_or-range_with_len 0 m k d within)

has_start : (library : Library) (n : ℕ) (numbers : List ℕ) (alike : Alike) (keys : List ℕ) (key : ℕ) → All (λ x. x < 2 ^ n) numbers → key ≡ packed numbers → least alike key ≡ key → keys ≡ key ∷ []
    → HasAll library n numbers alike 0 keys
has_start library n numbers alike keys key below is least_one one =
    has_none library n numbers alike keys
    (subst (λ l. Contains l (least alike (key_after n numbers []))) (sym one)
    (subst (Contains (key ∷ [])) (sym least_one ∙ ap (least alike) (is ∙ sym (key_none n numbers below))) (Contains-head key [])))

-- the level of no gates, from so many numbers
pub level_starts : (library : Library) (n : ℕ) (numbers : List ℕ) (alike : Alike) (keys : List ℕ) (key : ℕ) → All (λ x. x < 2 ^ n) numbers → length numbers ≡ 2 ^ n → key ≡ packed numbers → least alike key ≡ key
    → keys ≡ key ∷ [] → IsLevel library n numbers alike 0 keys
level_starts library n numbers alike keys key below all is least_one one =
    let start : key ≡ key_after n numbers [] = is ∙ sym (key_none n numbers below) in
    record {
      has = has_start library n numbers alike keys key below is least_one one;
      whole = λ k c. record {
        numbers = numbers;
        gates = [];
        all = all;
        is = one_of key k (subst (λ l. Contains l k) one c) ∙ start;
      };
      least_ones = λ k c. let e : k ≡ key = one_of key k (subst (λ l. Contains l k) one c) in ap (least alike) e ∙ least_one ∙ sym e;
      rising = IsNonDecreasingBy-short (λ x. x) keys (omega (arith, ap length one));
    }

pub front_starts : (library : Library) (n : ℕ) (alike : Alike) (moves : List ℕ) (key : ℕ) (keys : List ℕ) → Suits alike n moves → key ≡ packed (range_with_len 0 (2 ^ n)) → keys ≡ key ∷ []
    → IsLevel library n (range_with_len 0 (2 ^ n)) alike 0 keys
front_starts library n alike moves key keys suits is one =
    level_starts library n (range_with_len 0 (2 ^ n)) alike keys key (range_below (2 ^ n)) (length-range_with_len 0 (2 ^ n)) is (least_identity alike n key moves suits is) one

pub back_starts : (library : Library) (n key : ℕ) (images keys : List ℕ) → IsPerm n images → key ≡ packed images → keys ≡ key ∷ [] → IsLevel library n images Equal 0 keys
back_starts library n key images keys perm is one = level_starts library n images Equal keys key (images_below n images perm) perm.2 is refl one

pub suits_passed : (alike : Alike) (m n : ℕ) (moves read passed : List ℕ) → m ≡ n → read ≡ moves → passed ≡ moves → Suits alike m read → Suits alike n passed
suits_passed alike m n moves read passed lines_is read_is passed_is suits =
    subst (λ k. Suits alike k passed) lines_is (subst (Suits alike m) (read_is ∙ sym passed_is) suits)

-- the moves of all gates of a library, found on as many lines
pub moves_ready : (library : Library) (m n : ℕ) (gates read : List Shape) (moves passed : List ℕ) → m ≡ n → n ≤ 4 → HasBelow library m 1024 gates → AreIn library m gates → read ≡ gates
    → moves ≡ map (move_of m) read → passed ≡ moves → AreMoves library n read passed
moves_ready library m n gates read moves passed e few have are read_is moves_is passed_is =
    subst (λ k. AreMoves library k read passed) e (record {
      allowed = subst (AreIn library m) (sym read_is) are;
      are = passed_is ∙ moves_is;
      all = subst (HasMoves library m) (sym passed_is) (all_moves library m gates moves (omega (arith, e, few)) have (moves_is ∙ ap (map (move_of m)) read_is));
    })

-- a way from the identity's key to that of a permutation
pub way_computes : (library : Library) (n : ℕ) (alike : Alike) (images : List ℕ) (gates : List Shape) (from to first last : ℕ) (moves front back : List ℕ) → n ≤ 4 → IsPerm n images → Suits alike n moves
    → first ≡ packed (range_with_len 0 (2 ^ n)) → last ≡ packed images → front ≡ first ∷ [] → back ≡ last ∷ [] → IsWhole n from → Contains front (least alike from) → Contains back to
    → after n gates from ≡ to → Computes n gates images
way_computes library n alike images gates from to first last moves front back few perm suits first_is last_is front_is back_is whole begins ends leads =
    let range : List ℕ = range_with_len 0 (2 ^ n) in
    let least_is : least alike from ≡ packed range = one_of first (least alike from) (subst (λ l. Contains l (least alike from)) front_is begins) ∙ first_is in
    let start : key_after n range [] ≡ from = key_none n range (range_below (2 ^ n)) ∙ sym (identity_alone alike n from moves suits whole least_is) in
    computes_by_key n images gates few perm
    (sym (after-key n range [] gates few (length-range_with_len 0 (2 ^ n))) ∙ ap (after n gates) start ∙ leads ∙ one_of last to (subst (λ l. Contains l to) back_is ends) ∙ last_is)
