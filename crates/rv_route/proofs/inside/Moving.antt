-- Moves of lines: what they do to the places, and which swaps they are.
use Rattle.std.proofs.lemmas.Grind.{common_steps}
use Rattle.std.proofs.Common.{◌≡◌, ◌≢◌, ℕ, zero, suc, ◌+◌, ◌-◌, ◌*◌, ◌<◌, ◌≤◌, List, [], ◌∷◌, ◌++◌, length, get_or, take, drop, reverse, map, All, refl, sym, ◌∙◌, ap, inl, inr, arith, subst, append_assoc, length-append}
use Rattle.std.proofs.lemmas.Bool.{cases_eq, cases_lt}
use Rattle.std.proofs.Math.Nat.{mul-le-mul_left}
use Rattle.std.proofs.lemmas.List.{append-nil, take_more, at_drop_all, drop_more, get_or-take, length-take, length-reverse, reverse-append, map-append, get_or-reverse, length-take-le, length-drop}
use Rattle.std.proofs.lemmas.List.FromFn.{length-range_with_len, get_or-range_with_len}
use Rattle.std.proofs.lemmas.List.Elements.{All-nil, All-cons, All-append, All-head, All-tail}
use Rattle.std.proofs.lemmas.List.Edits.{length-swap}
use Rattle.std.specs.List.{range_with_len, swap}
use Rattle.rv_gate.proofs.Ranges.{range-suc}
use Rattle.rv_gate.specs.declared.gate.Shape.{Shape}
use Rattle.rv_route.specs.Placement.{position_of}
use Rattle.rv_route.specs.Moves.{swaps_up, swaps_down, swapped, neighbours, moves_up, moves_down, middle, gathering}
use Rattle.rv_route.specs.declared.moves.Move.{Move}
use Rattle.rv_route.specs.inside.Standing.{IsPlacement, IsSwap, Stands, AreAscending, AreMoves, shifted, swaps_of, swaps_by}
use Rattle.rv_route.proofs.inside.Shifts.{twin, twin_low, twin_high, twin_other, twin-twin, twin-lt, get_or-swap, IsPlacement-swap, IsPlacement-swapped, swapped-append, swapped_none}
use Rattle.rv_route.proofs.inside.Running.{position_is, stands}

-- ---- where a line stands after swaps

position-swap : (n : ℕ) (s : List ℕ) (p line : ℕ) → p + 1 < n → line < n → IsPlacement n s → position_of (swap s p (p + 1)) line ≡ twin p (position_of s line)
position-swap n s p line h lt i =
    let t : List ℕ = swap s p (p + 1) in
    let j = IsPlacement-swap n s p h i in
    let w = stands n s i line lt in
    let q : ℕ = twin p (position_of s line) in
    let at : get_or t q 0 ≡ line = get_or-swap s p q (omega (arith, i.len)) ∙ ap (λ k. get_or s k 0) (twin-twin p (position_of s line)) ∙ w.1 in
    position_is n t j line lt ∙ ap j.place (sym at) ∙ (j.line q (twin-lt n p (position_of s line) h w.0)).1

unfoldable pub travels : List ℕ → ℕ → ℕ
travels [] q = q
travels (p ∷ ps) q = travels ps (twin p q)

pub position-swapped : (n : ℕ) (ps s : List ℕ) (line : ℕ) → line < n → All (IsSwap n) ps → IsPlacement n s → position_of (swapped ps s) line ≡ travels ps (position_of s line)
unfolding swapped travels
position-swapped n [] s line lt w i = refl
position-swapped n (p ∷ ps) s line lt w i =
    let h : p + 1 < n = All-head (IsSwap n) p ps w in
    position-swapped n ps (swap s p (p + 1)) line lt (All-tail (IsSwap n) p ps w) (IsPlacement-swap n s p h i)
    ∙ ap (travels ps) (position-swap n s p line h lt i)

pub travels-append : (ps qs : List ℕ) (q : ℕ) → travels (ps ++ qs) q ≡ travels qs (travels ps q)
unfolding travels
travels-append [] qs q = refl
travels-append (p ∷ ps) qs q = travels-append ps qs (twin p q)

-- a line is found where it went
pub moved_on : (n : ℕ) (ps s : List ℕ) (q : ℕ) → length s ≡ n → All (IsSwap n) ps → get_or (swapped ps s) (travels ps q) 0 ≡ get_or s q 0
unfolding swapped travels
moved_on n [] s q len w = refl
moved_on n (p ∷ ps) s q len w =
    moved_on n ps (swap s p (p + 1)) (twin p q) (length-swap s p (p + 1) ∙ len) (All-tail (IsSwap n) p ps w)
    ∙ get_or-swap s p (twin p q) (let h = All-head (IsSwap n) p ps w in omega arith) ∙ ap (λ k. get_or s k 0) (twin-twin p q)

stays : (a q : ℕ) → shifted a a q ≡ q
stays a q = grind arith

up_other : (a d q : ℕ) → q ≢ a → q ≢ a + 1 → shifted (a + 1) (a + 1 + d) q ≡ shifted a (a + suc d) q
up_other a d q n m =
    elim (cases_lt q a) [
      | inl low ↦ grind arith
      | inr ge ↦ (elim (cases_lt (a + 1 + d) q) [ inl high ↦ grind arith | inr le ↦ grind arith ])
    ]

-- one line passes from the first of two neighbours to the second before it goes up from the second
up_one : (a d q : ℕ) → shifted (a + 1) (a + 1 + d) (twin a q) ≡ shifted a (a + suc d) q
up_one a d q =
    elim (cases_eq q a) [
      | inl at ↦ ap (shifted (a + 1) (a + 1 + d)) (twin_low a q at) ∙ grind arith
      | inr n ↦
          (elim (cases_eq q (a + 1)) [
            | inl next ↦ ap (shifted (a + 1) (a + 1 + d)) (twin_high a q next) ∙ grind arith
            | inr m ↦ ap (shifted (a + 1) (a + 1 + d)) (twin_other a q n m) ∙ up_other a d q n m
          ])
    ]

-- one line passes from the second of two neighbours to the first after it came down to the second
down_one : (a d q : ℕ) → twin a (shifted (a + 1 + d) (a + 1) q) ≡ shifted (a + suc d) a q
down_one a d q =
    elim (cases_eq q (a + 1 + d)) [
      | inl at ↦ twin_high a _ (grind arith) ∙ grind arith
      | inr m ↦
          (elim (cases_eq q a) [
            | inl low ↦ twin_low a _ (grind arith) ∙ grind arith
            | inr n ↦ twin_other a _ (λ e. grind arith) (λ e. grind arith) ∙ grind arith
          ])
    ]

travels_up : (a d q : ℕ) → travels (range_with_len a d) q ≡ shifted a (a + d) q
unfolding travels
travels_up a zero q = let e : a ≡ a + 0 = omega arith in sym (stays a q) ∙ ap (λ b. shifted a b q) e
travels_up a (suc d) q = travels_up (a + 1) d (twin a q) ∙ up_one a d q

travels_down : (a d q : ℕ) → travels (reverse (range_with_len a d)) q ≡ shifted (a + d) a q
unfolding travels
travels_down a zero q = let e : a ≡ a + 0 = omega arith in sym (stays a q) ∙ ap (λ b. shifted b a q) e
travels_down a (suc d) q =
    ap (λ l. travels l q) (reverse-append (a ∷ []) (range_with_len (a + 1) d)) ∙ travels-append (reverse (range_with_len (a + 1) d)) (a ∷ []) q
    ∙ ap (twin a) (travels_down (a + 1) d q) ∙ down_one a d q

-- ---- the swaps of a move

none : (a b : ℕ) → b ≤ a → range_with_len a (b - a) ≡ []
none a b le = let z : b - a ≡ 0 = omega arith in ap (range_with_len a) z

pub swaps_of-up : (a b : ℕ) → a ≤ b → swaps_of a b ≡ swaps_up a b
swaps_of-up a b le = ap (λ l. swaps_up a b ++ reverse l) (none b a le) ∙ append-nil (swaps_up a b)

pub swaps_of-down : (a b : ℕ) → b ≤ a → swaps_of a b ≡ swaps_down a b
swaps_of-down a b le = ap (λ l. l ++ swaps_down a b) (none a b le)

pub length-swaps_of : (a b : ℕ) → length (swaps_of a b) ≡ (b - a) + (a - b)
length-swaps_of a b = grind (arith, length-append, length-range_with_len, length-reverse)

pub swaps_up-within : (n a b : ℕ) → b < n → All (IsSwap n) (swaps_up a b)
swaps_up-within n a b lt i d h = let l = length-range_with_len a (b - a) in let e = get_or-range_with_len a (b - a) i d (omega arith) in omega arith

pub swaps_down-within : (n a b : ℕ) → a < n → All (IsSwap n) (swaps_down a b)
swaps_down-within n a b lt i d h = grind (arith, length-range_with_len, length-reverse, get_or-reverse, get_or-range_with_len)

pub swaps_of-within : (n a b : ℕ) → a < n → b < n → All (IsSwap n) (swaps_of a b)
swaps_of-within n a b la lb = All-append (IsSwap n) (swaps_up a b) (swaps_down a b) (swaps_up-within n a b lb) (swaps_down-within n a b la)

pub travels_rise : (a b q : ℕ) → a ≤ b → travels (swaps_up a b) q ≡ shifted a b q
travels_rise a b q le = let e : a + (b - a) ≡ b = omega arith in travels_up a (b - a) q ∙ ap (λ k. shifted a k q) e

pub travels_fall : (a b q : ℕ) → b ≤ a → travels (swaps_down a b) q ≡ shifted a b q
travels_fall a b q le = let e : b + (a - b) ≡ a = omega arith in travels_down b (a - b) q ∙ ap (λ k. shifted k b q) e

travels_of : (a b q : ℕ) → travels (swaps_of a b) q ≡ shifted a b q
travels_of a b q = grind (arith, swaps_of-down, travels_fall, swaps_of-up, travels_rise)

-- ---- one move

pub Stands-moved : (from to : ℕ) (row old new : List ℕ) → from < length old → to < length old → length new ≡ length old
    → ((line : ℕ) → line < length old → get_or new line 0 ≡ shifted from to (get_or old line 0)) → Stands row old
    → Stands (swapped (swaps_of from to) row) new
Stands-moved from to row old new lf lt len are s =
    let within = swaps_of-within (length old) from to lf lt in
    let P : ℕ → Type 0 = λ n. IsPlacement n (swapped (swaps_of from to) row) in
    record {
      placement = subst P (sym len) (IsPlacement-swapped (length old) (swaps_of from to) row within s.placement);
      at = λ line l.
          (let below : line < length old = omega arith in
          are line below ∙ ap (shifted from to) (s.at line below) ∙ sym (travels_of from to (position_of row line))
          ∙ sym (position-swapped (length old) (swaps_of from to) row line below within s.placement));
    }

-- a line's place
pub place_of : (row places : List ℕ) (line : ℕ) → Stands row places → line < length places → get_or places line 0 < length places
place_of row places line s lt = let e = s.at line lt in let w = (stands (length places) row s.placement line lt).0 in omega arith

-- ---- many moves

pub swaps_by_none : swaps_by [] ≡ []
unfolding swaps_by
swaps_by_none = refl

pub swaps_by-append : (moves others : List Move) → swaps_by (moves ++ others) ≡ swaps_by moves ++ swaps_by others
unfolding swaps_by
swaps_by-append [] others = refl
swaps_by-append (m ∷ moves) others = ap (λ l. swaps_of m.from m.to ++ l) (swaps_by-append moves others) ∙ sym (append_assoc (swaps_of m.from m.to) (swaps_by moves) (swaps_by others))

pub swaps_by-one : (m : Move) → swaps_by (m ∷ []) ≡ swaps_of m.from m.to
unfolding swaps_by
swaps_by-one m = append-nil (swaps_of m.from m.to)

pub swaps_by-more : (moves next : List Move) (m : Move) → next ≡ moves ++ m ∷ [] → swaps_by next ≡ swaps_by moves ++ swaps_of m.from m.to
swaps_by-more moves next m e = ap swaps_by e ∙ swaps_by-append moves (m ∷ []) ∙ ap (λ l. swaps_by moves ++ l) (swaps_by-one m)

pub swaps_by-next : (moves : List Move) (k : ℕ) (d : Move) → k < length moves
    → swaps_by (take (k + 1) moves) ≡ swaps_by (take k moves) ++ swaps_of (get_or moves k d).from (get_or moves k d).to
swaps_by-next moves k d lt = swaps_by-more (take k moves) (take (k + 1) moves) (get_or moves k d) (take_more moves k d lt)

pub Stands-first : (moves : List Move) (row places : List ℕ) → moves ≡ [] → Stands row places → Stands (swapped (swaps_by moves) row) places
Stands-first moves row places e s = grind (arith, swaps_by_none, swapped_none)

pub Stands-next : (moves : List Move) (k : ℕ) (d : Move) (row old new : List ℕ) → k < length moves → AreMoves (length old) moves → length new ≡ length old
    → ((line : ℕ) → line < length old → get_or new line 0 ≡ shifted (get_or moves k d).from (get_or moves k d).to (get_or old line 0))
    → Stands (swapped (swaps_by (take k moves)) row) old → Stands (swapped (swaps_by (take (k + 1) moves)) row) new
Stands-next moves k d row old new lt within len are s =
    let P : List ℕ → Type 0 = λ r. Stands r new in
    let m : Move = get_or moves k d in
    let on = within k d lt in
    subst P (sym (ap (λ l. swapped l row) (swaps_by-next moves k d lt) ∙ swapped-append (swaps_by (take k moves)) (swaps_of m.from m.to) row))
    (Stands-moved m.from m.to (swapped (swaps_by (take k moves)) row) old new on.0 on.1 len are s)

-- ---- their gates

rising-more : (a p : ℕ) → a ≤ p → swaps_up a (p + 1) ≡ swaps_up a p ++ p ∷ []
rising-more a p le = grind (arith, range_with_len, range-suc)

falling-more : (a p : ℕ) → 0 < p → p ≤ a → swaps_down a (p - 1) ≡ swaps_down a p ++ (p - 1) ∷ []
falling-more a p some le = grind (arith, common_steps, range_with_len, reverse-append)

gates_more : (ps qs : List ℕ) (p : ℕ) (old now next : List Shape) (g : Shape) → now ≡ old ++ map neighbours ps → g ≡ neighbours p → next ≡ now ++ g ∷ [] → qs ≡ ps ++ p ∷ [] → next ≡ old ++ map neighbours qs
gates_more ps qs p old now next g so_far is pushed more = grind (arith, append_assoc, map-append)

pub up_more : (a p : ℕ) (old now next : List Shape) (g : Shape) → a ≤ p → now ≡ old ++ map neighbours (swaps_up a p) → g ≡ neighbours p → next ≡ now ++ g ∷ [] → next ≡ old ++ map neighbours (swaps_up a (p + 1))
up_more a p old now next g le so_far is pushed = gates_more (swaps_up a p) (swaps_up a (p + 1)) p old now next g so_far is pushed (rising-more a p le)

pub down_more : (a b p : ℕ) (old now next : List Shape) (g : Shape) → 0 < p → p ≤ a → now ≡ old ++ map neighbours (swaps_up a b ++ swaps_down a p) → g ≡ neighbours (p - 1) → next ≡ now ++ g ∷ []
    → next ≡ old ++ map neighbours (swaps_up a b ++ swaps_down a (p - 1))
down_more a b p old now next g some le so_far is pushed =
    gates_more (swaps_up a b ++ swaps_down a p) (swaps_up a b ++ swaps_down a (p - 1)) (p - 1) old now next g so_far is pushed
    (ap (λ l. swaps_up a b ++ l) (falling-more a p some le) ∙ sym (append_assoc (swaps_up a b) (swaps_down a p) ((p - 1) ∷ [])))

pub down_all : (a b p : ℕ) → p ≤ b → a - p ≤ a - b → swaps_down a p ≡ swaps_down a b
down_all a b p le few = grind (arith, reverse, none)

pub down_none : (a : ℕ) → swaps_down a a ≡ []
down_none a = ap reverse (none a a (omega arith))

-- ---- gathering

ascending_from : (low n k : ℕ) (ps : List ℕ) → k < length ps → AreAscending low n ps → (low + k ≤ get_or ps k 0) × (get_or ps k 0 < n)
ascending_from low n k [] lt h = absurd (omega arith)
ascending_from low n zero (p ∷ rest) lt h = (omega (arith, h.0), h.1)
ascending_from low n (suc k) (p ∷ rest) lt h = let r = ascending_from (p + 1) n k rest (omega arith) h.2 in (omega (arith, h.0, r.0), r.1)

-- positions are as far apart as in their list, or further
pub apart : (low n j k : ℕ) (ps : List ℕ) → j ≤ k → k < length ps → AreAscending low n ps → get_or ps j 0 + (k - j) ≤ get_or ps k 0
apart low n j k [] le lt h = absurd (omega arith)
apart low n zero zero (p ∷ rest) le lt h = omega arith
apart low n zero (suc k) (p ∷ rest) le lt h = let r = (ascending_from (p + 1) n k rest (omega arith) h.2).0 in omega arith
apart low n (suc j) zero (p ∷ rest) le lt h = absurd (omega arith)
apart low n (suc j) (suc k) (p ∷ rest) le lt h = let r = apart (p + 1) n j k rest (omega arith) (omega arith) h.2 in omega arith

pub ascending_below : (low n k : ℕ) (ps : List ℕ) → k < length ps → AreAscending low n ps → get_or ps k 0 < n
ascending_below low n k ps lt h = (ascending_from low n k ps lt h).1

pub moves_up_none : (top : ℕ) → moves_up [] top ≡ []
unfolding moves_up
moves_up_none top = refl

moves_up_first : (p top : ℕ) (rest : List ℕ) → moves_up (p ∷ rest) top ≡ moves_up rest top ++ swaps_up p (top - length (p ∷ rest))
unfolding moves_up
moves_up_first p top rest = refl

pub moves_down_none : (bottom : ℕ) → moves_down [] bottom ≡ []
unfolding moves_down
moves_down_none bottom = refl

-- the line at place j - 1 of those below the middle one
pub one_up : (ps : List ℕ) (m j c to : ℕ) → 0 < j → j ≤ m → m ≤ length ps → to ≡ c - (m - (j - 1)) → get_or ps (j - 1) 0 ≤ to
    → moves_up (drop (j - 1) (take m ps)) c ≡ moves_up (drop j (take m ps)) c ++ swaps_of (get_or ps (j - 1) 0) to
one_up ps m j c to some le few is up = grind (arith, length-take-le, length-drop, drop_more, get_or-take, swaps_of-up, moves_up_first)

pub up_start : (ps : List ℕ) (m c : ℕ) → moves_up (drop m (take m ps)) c ≡ []
up_start ps m c = at_drop_all (λ l. moves_up l c) (take m ps) m (omega (arith, length-take m ps)) ∙ moves_up_none c

pub AreMoves-more : (n : ℕ) (moves next : List Move) (m : Move) → next ≡ moves ++ m ∷ [] → m.from < n → m.to < n → AreMoves n moves → AreMoves n next
AreMoves-more n moves next m e lf lt are =
    let P : Move → Type 0 = λ x. (x.from < n) × (x.to < n) in
    let Q : List Move → Type 0 = All P in
    subst Q (sym e) (All-append P moves (m ∷ []) are (All-cons P m [] (lf, lt) (All-nil P)))

pub one_down : (ps : List ℕ) (j b : ℕ) → j < length ps → b + 1 ≤ get_or ps j 0
    → moves_down (drop j ps) b ≡ swaps_of (get_or ps j 0) (b + 1) ++ moves_down (drop (j + 1) ps) (b + 1)
unfolding moves_down
one_down ps j b lt down = rw (drop_more ps j 0 lt, swaps_of-down (get_or ps j 0) (b + 1) down) refl

pub AreAscending-wider : (low n m : ℕ) (ps : List ℕ) → n ≤ m → AreAscending low n ps → AreAscending low m ps
AreAscending-wider low n m [] le h = tt
AreAscending-wider low n m (p ∷ rest) le h = (h.0, omega (arith, h.1), AreAscending-wider (p + 1) n m rest le h.2)

-- ---- how many swaps

length-moves_up : (ps : List ℕ) (top : ℕ) → length (moves_up ps top) ≤ length ps * top
unfolding moves_up
length-moves_up [] top = omega arith
length-moves_up (p ∷ rest) top = let i0 = length-moves_up rest top in grind (arith, i0, length-append, length-range_with_len)

length-moves_down : (low b : ℕ) (ps : List ℕ) → AreAscending low 64 ps → length (moves_down ps b) ≤ length ps * (63 - b)
unfolding moves_down
length-moves_down low b [] h = omega arith
length-moves_down low b (p ∷ rest) h = let i0 = length-moves_down (p + 1) (b + 1) rest h.2 in grind (arith, i0, length-append, length-reverse, length-range_with_len, mul-le-mul_left)

-- no more than 31 positions from below, no more than 32 from above
few_in_all : (below above centre one two : ℕ) → below ≤ 31 → above ≤ 32 → centre ≤ 63 → one ≤ below * centre → two ≤ above * (63 - centre) → one + two ≤ 2016
few_in_all below above centre one two lb la lc h k = grind arith

pub AreAscending-drop : (low n k : ℕ) (ps : List ℕ) → AreAscending low n ps → (from : ℕ) × AreAscending from n (drop k ps)
AreAscending-drop low n zero ps h = (low, h)
AreAscending-drop low n (suc k) [] h = (low, tt)
AreAscending-drop low n (suc k) (p ∷ rest) h = AreAscending-drop (p + 1) n k rest h.2

pub length-gathering : (ps : List ℕ) → 0 < length ps → AreAscending 0 64 ps → length (gathering ps) ≤ 2016
length-gathering ps some h =
    let m : ℕ = middle (length ps) in
    let c : ℕ = get_or ps m 0 in
    let lt : m < length ps = omega arith in
    let last = ascending_from 0 64 (length ps - 1) ps (omega arith) h in
    let below = length-take-le m ps (omega arith) in
    let above = length-drop (m + 1) ps in
    let d = AreAscending-drop 0 64 (m + 1) ps h in
    let e = length-append (moves_up (take m ps) c) (moves_down (drop (m + 1) ps) c) in
    let all = few_in_all (length (take m ps)) (length (drop (m + 1) ps)) c _ _ (omega arith) (omega arith) (omega (arith, ascending_below 0 64 m ps lt h))
    (length-moves_up (take m ps) c) (length-moves_down d.0 c (drop (m + 1) ps) d.1) in
    omega arith

-- ---- where a move leads

pub shifted-at : (a b : ℕ) → shifted a b a ≡ b
shifted-at a b = grind arith

pub shifted-below : (a b q : ℕ) → q < a → q < b → shifted a b q ≡ q
shifted-below a b q l m = grind arith

pub shifted-above : (a b q : ℕ) → a < q → b < q → shifted a b q ≡ q
shifted-above a b q l m = grind arith

pub shifted-up : (a b q : ℕ) → a < q → q ≤ b → shifted a b q ≡ q - 1
shifted-up a b q l m = grind arith

pub shifted-down : (a b q : ℕ) → b ≤ q → q < a → shifted a b q ≡ q + 1
shifted-down a b q l m = grind arith

-- ---- the swaps of gathering

pub moves_up-within : (n top : ℕ) (ps : List ℕ) → top < n → All (IsSwap n) (moves_up ps top)
unfolding moves_up
moves_up-within n top [] lt = All-nil (IsSwap n)
moves_up-within n top (p ∷ rest) lt =
    All-append (IsSwap n) (moves_up rest top) (swaps_up p (top - length (p ∷ rest))) (moves_up-within n top rest lt) (swaps_up-within n p (top - length (p ∷ rest)) (omega arith))

pub moves_down-within : (n low b : ℕ) (ps : List ℕ) → AreAscending low n ps → All (IsSwap n) (moves_down ps b)
unfolding moves_down
moves_down-within n low b [] h = All-nil (IsSwap n)
moves_down-within n low b (p ∷ rest) h =
    All-append (IsSwap n) (swaps_down p (b + 1)) (moves_down rest (b + 1)) (swaps_down-within n p (b + 1) h.1) (moves_down-within n (p + 1) (b + 1) rest h.2)

pub gathering-within : (n : ℕ) (ps : List ℕ) → 0 < length ps → AreAscending 0 n ps → All (IsSwap n) (gathering ps)
gathering-within n ps some h =
    let m : ℕ = middle (length ps) in
    let d = AreAscending-drop 0 n (m + 1) ps h in
    All-append (IsSwap n) _ _ (moves_up-within n (get_or ps m 0) (take m ps) (ascending_below 0 n m ps (omega arith) h)) (moves_down-within n d.0 (get_or ps m 0) (drop (m + 1) ps) d.1)
