-- One more line of a set, one more line home, one more gate.
use Rattle.std.proofs.Common.{◌≡◌, ℕ, zero, suc, ◌+◌, ◌-◌, ◌<◌, ◌≤◌, Bool, false, List, [], ◌∷◌, ◌++◌, ◌*◌, ◌^◌, ◌%◌, ◌||◌, eqb, eq-eqb, ne_eqb, bit_or, length, get_or, map, take, drop, refl, sym, ◌∙◌, ap, subst, arith, append_assoc, length-append, ext_get_or}
use Rattle.std.proofs.lemmas.List.{append-nil, drop_more, at_drop_all, length-map, length-take-le, get_or-take, get_or-map}
use Rattle.std.proofs.lemmas.List.FromFn.{length-range_with_len, get_or-range_with_len}
use Rattle.std.specs.List.{filter, range_with_len}
use Rattle.rv_gate.proofs.Bits.{or_assoc, or_off}
use Rattle.rv_gate.proofs.inside.Ones.{ones_of-is}
use Rattle.rv_gate.proofs.LowestLine.{IsLowest}
use Rattle.rv_gate.proofs.LineSets.{has-or_one_shl, has-none}
use Rattle.rv_gate.proofs.Ranges.{filter-suc}
use Rattle.rv_gate.specs.Word.{has}
use Rattle.rv_gate.specs.Gate.{touches}
use Rattle.rv_gate.specs.declared.gate.Shape.{Shape}
use Rattle.rv_route.specs.Placement.{home, position_of, positions_of, gate_on}
use Rattle.rv_route.specs.Moves.{swaps_down, swapped, neighbours, gathering, touched_positions, way_home}
use Rattle.rv_route.specs.Routed.{routed_from}
use Rattle.rv_route.specs.declared.moves.Move.{Move}
use Rattle.rv_route.specs.inside.Standing.{IsPlacement, Stands, shifted, swaps_by, swaps_of}
use Rattle.rv_route.proofs.inside.Running.{stands, eqb-position, has-positions_of}
use Rattle.rv_route.proofs.inside.Gathers.{few}
use Rattle.rv_route.proofs.inside.Routes.{IsPlacement-home, home_at, routed_none, routed_first, AreHome, one_home}
use Rattle.rv_route.proofs.inside.Shifts.{swapped_none, swapped-append}
use Rattle.rv_route.proofs.inside.Moving.{swaps_of-down, swaps_by_none, Stands-moved, place_of}

-- ---- positions

-- what is left of a set, and the lowest line of it
left_of : (left line rest k : ℕ) → IsLowest left line rest → k < 64 → has left k ≡ (eqb k line || has rest k)
left_of left line rest k l lt = grind (arith, eq-eqb, ne_eqb)

-- the positions of the lines of a set that were passed, where some are left
pub record Placing (row : List ℕ) (n set left positions : ℕ) : Type 0 where
  pub each : (p : ℕ) → p < n → (has positions p || has left (get_or row p 0)) ≡ has set (get_or row p 0)
  pub past : (p : ℕ) → n ≤ p → has positions p ≡ false

pub placing_more : (row places : List ℕ) (set left line rest positions : ℕ) → Stands row places → length places ≤ 64 → line < length places → IsLowest left line rest
    → Placing row (length places) set left positions → Placing row (length places) set rest (bit_or positions (1 * 2 ^ get_or places line 0 % 2 ^ 64))
placing_more row places set left line rest positions s few lt l w =
    let n : ℕ = length places in
    let place : ℕ = get_or places line 0 in
    let at : place ≡ position_of row line = s.at line lt in
    let within = (stands n row s.placement line lt).0 in
    let is : (p : ℕ) → has (bit_or positions (1 * 2 ^ place % 2 ^ 64)) p ≡ (has positions p || eqb p place) = λ p. has-or_one_shl positions place p (omega arith) in
    record {
      each = λ p lp.
          (let k : ℕ = get_or row p 0 in
          let here : eqb p place ≡ eqb k line = ap (eqb p) at ∙ eqb-position n row s.placement p line lp lt in
          ap (λ b. b || has rest k) (is p ∙ ap (λ b. has positions p || b) here) ∙ sym (or_assoc (has positions p) (eqb k line) (has rest k))
          ∙ ap (λ b. has positions p || b) (sym (left_of left line rest k l (let v = (s.placement.line p lp).0 in omega arith))) ∙ w.each p lp);
      past = λ p out. is p ∙ or_off (has positions p) (eqb p place) (ne_eqb p place (omega arith)) ∙ w.past p out;
    }

pub placed_all : (row places : List ℕ) (set left positions : ℕ) → Stands row places → left ≡ 0 → Placing row (length places) set left positions → positions ≡ positions_of row set
placed_all row places set left positions s z w =
    let len : length (map (has set) row) ≡ length places = length-map row (has set) ∙ s.placement.len in
    ones_of-is positions (map (has set) row)
    (λ p lt.
    let off : has left (get_or row p 0) ≡ false = ap (λ k. has k (get_or row p 0)) z ∙ has-none (get_or row p 0) in
    sym (or_off (has positions p) (has left (get_or row p 0)) off) ∙ w.each p (omega arith) ∙ sym (get_or-map (has set) row p 0 false (let e = s.placement.len in omega arith)))
    (λ p past. w.past p (omega arith))

-- ---- the lines that a gate touches

same_pass : (p q : ℕ → Bool) (n : ℕ) → ((k : ℕ) → k < n → q k ≡ p k) → filter q (range_with_len 0 n) ≡ filter p (range_with_len 0 n)
same_pass p q zero same = refl
same_pass p q (suc n) same = let i0 = same_pass p q n in grind (arith, i0, filter-suc)

pub touched_all : (row places : List ℕ) (g : Shape) (set positions : ℕ) → Stands row places → ((line : ℕ) → has set line ≡ touches g line) → positions ≡ positions_of row set
    → filter (has positions) (range_with_len 0 (length places)) ≡ touched_positions row g
touched_all row places g set positions s lines is =
    let n : ℕ = length places in
    same_pass (λ p. touches g (get_or row p 0)) (has positions) n
    (λ p lt. ap (λ x. has x p) is ∙ has-positions_of n row s.placement set p lt ∙ lines (get_or row p 0))
    ∙ ap (λ k. filter (λ p. touches g (get_or row p 0)) (range_with_len 0 k)) (sym s.placement.len)

-- ---- home

take_home : (n m : ℕ) → n ≤ m → take n (home m) ≡ home n
take_home n m le =
    let len : length (take n (home m)) ≡ n = length-take-le n (home m) (let e = length-range_with_len 0 m in omega arith) in
    ext_get_or 0 (take n (home m)) (home n) (len ∙ sym (length-range_with_len 0 n))
    (λ i lt.
    get_or-take n (home m) i 0 (omega arith) ∙ get_or-range_with_len 0 m i 0 (omega arith) ∙ sym (get_or-range_with_len 0 n i 0 (omega arith)))

-- the table at the start
pub Stands-home : (n m : ℕ) → n ≤ m → (length (take n (home m)) ≡ n) × Stands (home n) (take n (home m))
Stands-home n m le =
    let i = IsPlacement-home n in
    let len : length (home n) ≡ n = i.len in
    rw (take_home n m le) (
      len,
      record {
        placement = rw len i;
        at = λ line lt.
            (let l : line < n = omega (arith, len) in
            let w = stands n (home n) i line l in
            home_at n line l ∙ sym w.1 ∙ home_at n (position_of (home n) line) w.0);
      },
    )

-- the lines before l are home, and the others are to go
pub record Going (n l : ℕ) (s places : List ℕ) (moves : List Move) : Type 0 where
  pub swaps : swaps_by moves ++ way_home (range_with_len l (n - l)) (swapped (swaps_by moves) s) ≡ way_home (home n) s
  pub stands : Stands (swapped (swaps_by moves) s) places
  pub home : AreHome l (swapped (swaps_by moves) s)

pub home_next : (n l : ℕ) (now next all s t : List ℕ) → l < n → now ++ way_home (range_with_len l (n - l)) s ≡ all → next ≡ now ++ swaps_down (position_of s l) l → t ≡ swapped (swaps_down (position_of s l) l) s
    → next ++ way_home (range_with_len (l + 1) (n - (l + 1))) t ≡ all
unfolding way_home
home_next n l now next all s t lt so_far added made =
    let e : n - l ≡ suc (n - (l + 1)) = omega arith in
    grind (arith, append_assoc, way_home, range_with_len)

pub home_end : (n l : ℕ) (s now all : List ℕ) → n ≤ l → now ++ way_home (range_with_len l (n - l)) s ≡ all → now ≡ all
unfolding way_home
home_end n l s now all le so_far = grind (arith, append-nil, way_home, range_with_len)

pub going_none : (s places : List ℕ) (moves : List Move) → moves ≡ [] → Stands s places → Going (length places) 0 s places moves
going_none s places moves e w = grind (arith, swaps_by_none, swapped_none, stands)

pub going_more : (n l : ℕ) (s old new : List ℕ) (moves next : List Move) (m : Move) → l < n → n ≡ length old → length new ≡ length old → m.to ≡ l → m.from ≡ get_or old l 0
    → swaps_by next ≡ swaps_by moves ++ swaps_of m.from m.to → ((line : ℕ) → line < length old → get_or new line 0 ≡ shifted m.from m.to (get_or old line 0)) → Going n l s old moves → Going n (l + 1) s new next
going_more n l s old new moves next m lt len same to from added are w =
    let t : List ℕ = swapped (swaps_by moves) s in
    let u : List ℕ = swapped (swaps_by next) s in
    let i = w.stands in
    let P : ℕ → Type 0 = λ k. IsPlacement k t in
    let o = one_home n t l lt (subst P (sym len) i.placement) w.home in
    let at : m.from ≡ position_of t l = from ∙ i.at l (omega arith) in
    let down = o.down in
    let is : swaps_of m.from m.to ≡ swaps_down (position_of t l) l = ap (λ k. swaps_of k m.to) at ∙ ap (swaps_of (position_of t l)) to ∙ swaps_of-down (position_of t l) l down in
    let made : u ≡ swapped (swaps_of m.from m.to) t = ap (λ k. swapped k s) added ∙ swapped-append (swaps_by moves) (swaps_of m.from m.to) s in
    let Q : List ℕ → Type 0 = λ k. Stands k new in
    let H : List ℕ → Type 0 = AreHome (l + 1) in
    let place = place_of t old l i (omega arith) in
    record {
      swaps = home_next n l (swaps_by moves) (swaps_by next) (way_home (home n) s) t u lt w.swaps (added ∙ ap (λ k. swaps_by moves ++ k) is) (made ∙ ap (λ k. swapped k t) is);
      stands = subst Q (sym made) (Stands-moved m.from m.to t old new (omega arith) (omega arith) same are i);
      home = subst H (sym (made ∙ ap (λ k. swapped k t) is)) o.home;
    }

-- ---- gates

-- the gates for the way home, which are the last
pub homeward : (row places : List ℕ) (swaps : List ℕ) (gates : List Shape) (k : ℕ) → Stands row places → length gates ≤ k → swaps ≡ way_home (home (length places)) row
    → routed_from row (drop k gates) ≡ map neighbours swaps
homeward row places swaps gates k s le e =
    at_drop_all (routed_from row) gates k le ∙ routed_none row ∙ ap (λ n. map neighbours (way_home (home n) row)) s.placement.len ∙ ap (map neighbours) (sym e)

pub routed_next : (gates : List Shape) (k : ℕ) (g : Shape) (s t ps : List ℕ) → k < length gates → g ≡ get_or gates k g → ps ≡ gathering (touched_positions s g) → t ≡ swapped ps s
    → routed_from s (drop k gates) ≡ map neighbours ps ++ (gate_on t g ∷ routed_from t (drop (k + 1) gates))
routed_next gates k g s t ps lt at is there = grind (arith, routed_from, drop_more, routed_first, gate_on)

pub length_routed : (ps : List ℕ) (g : Shape) (whole rest : List Shape) → whole ≡ map neighbours ps ++ (g ∷ rest) → length whole ≡ length ps + 1 + length rest
length_routed ps g whole rest e = grind (arith, length-append, length-map)

pub pushed_gates : (now mid next more whole rest all : List Shape) (g : Shape) → mid ≡ now ++ more → next ≡ mid ++ g ∷ [] → whole ≡ more ++ (g ∷ rest) → now ++ whole ≡ all → next ++ rest ≡ all
pushed_gates now mid next more whole rest all g first second is so_far = grind (arith, append_assoc)
