-- A routed circuit does what the circuit does, and each of its gates is near.
use Rattle.std.proofs.Common.{◌≡◌, ℕ, zero, suc, ◌+◌, ◌<◌, ◌≤◌, Bool, true, false, ◌||◌, eqb, List, [], ◌∷◌, ◌++◌, length, get_or, map, All, refl, sym, ◌∙◌, ap, inl, inr, arith, eq-eqb, subst, ext_get_or}
use Rattle.std.proofs.lemmas.Bool.{cases_Bool, cases_eq, cases_lt, false≢true, or_left, or_right}
use Rattle.std.proofs.lemmas.List.FromFn.{length-range_with_len, get_or-range_with_len}
use Rattle.std.proofs.lemmas.List.{length-map}
use Rattle.std.proofs.lemmas.List.Elements.{All-nil, All-cons, All-append, All-head, All-map, All-tail, All-weaker}
use Rattle.std.specs.List.{range_with_len}
use Rattle.rv_gate.specs.Word.{has, bit_of}
use Rattle.rv_gate.specs.Gate.{act, run, touches, FitsIn, IsGate}
use Rattle.rv_gate.specs.Circuit.{Cascade, IsCascade}
use Rattle.rv_gate.specs.declared.gate.Shape.{Shape}
use Rattle.rv_gate.specs.declared.gate.Shape.TheVariants.{Flip, Swap, Peres}
use Rattle.rv_gate.proofs.LineSets.{has-none}
use Rattle.rv_gate.proofs.inside.GateLemmas.{length-act, run-append}
use Rattle.rv_route.specs.Placement.{home, position_of, word_on, gate_on, IsNear}
use Rattle.rv_route.specs.Moves.{swaps_down, swapped, neighbours, gathering, touched_positions, way_home}
use Rattle.rv_route.specs.Routed.{routed_from, routed}
use Rattle.rv_route.specs.inside.Standing.{IsPlacement, IsSwap, AreAscending, shifted}
use Rattle.rv_route.proofs.inside.Shifts.{IsPlacement-swapped, swapped_none, swapped-append}
use Rattle.rv_route.proofs.inside.Moving.{travels, travels_fall, moved_on, position-swapped, swaps_down-within, gathering-within, shifted-at, shifted-below}
use Rattle.rv_route.proofs.inside.Gathers.{gathered, passing_ascend, some_pass}
use Rattle.rv_route.proofs.inside.Running.{stands, position_is, bit_of-word_on, run_swaps, act-on, touches-gate_on, FitsIn-gate_on, IsGate-gate_on}

-- ---- home

pub home_at : (n p : ℕ) → p < n → get_or (home n) p 0 ≡ p
home_at n p lt = let e = get_or-range_with_len 0 n p 0 lt in omega (arith, e)

pub IsPlacement-home : (n : ℕ) → IsPlacement n (home n)
IsPlacement-home n = record {
  len = length-range_with_len 0 n;
  place = λ line. line;
  line = λ p lt. (omega (arith, home_at n p lt, lt), home_at n p lt);
  stands = λ line lt. (lt, home_at n line lt);
}

pub is_home : (n : ℕ) (s : List ℕ) → length s ≡ n → ((i : ℕ) → i < n → get_or s i 0 ≡ i) → s ≡ home n
is_home n s len h =
    ext_get_or 0 s (home n) (len ∙ sym (length-range_with_len 0 n))
    (λ i lt. h i (omega (arith, lt, len)) ∙ sym (home_at n i (omega (arith, lt, len))))

pub word_on-home : (word : List Bool) → word_on (home (length word)) word ≡ word
word_on-home word =
    let n : ℕ = length word in
    let i = IsPlacement-home n in
    ext_get_or false _ word (length-map (home n) (bit_of word) ∙ i.len)
    (λ p lt.
    let lp : p < n = omega (arith, lt, length-map (home n) (bit_of word), i.len) in
    bit_of-word_on n (home n) i word p lp ∙ ap (bit_of word) (home_at n p lp))

-- the lines before l are home
abbrev pub AreHome : ℕ → List ℕ → Type 0
AreHome l s = (k : ℕ) → k < l → get_or s k 0 ≡ k

-- the line l goes home
pub record OneHome (n : ℕ) (s : List ℕ) (l : ℕ) : Type 0 where
  pub down : l ≤ position_of s l
  pub within : All (IsSwap n) (swaps_down (position_of s l) l)
  pub placement : IsPlacement n (swapped (swaps_down (position_of s l) l) s)
  pub home : AreHome (l + 1) (swapped (swaps_down (position_of s l) l) s)

pub one_home : (n : ℕ) (s : List ℕ) (l : ℕ) → l < n → IsPlacement n s → AreHome l s → OneHome n s l
one_home n s l ll i before =
    let p : ℕ = position_of s l in
    let w = stands n s i l ll in
    let le : l ≤ p = (elim (cases_lt p l) [ inl lt ↦ absurd (omega (arith, before p lt, w.1, lt)) | inr ge ↦ ge ]) in
    let within : All (IsSwap n) (swaps_down p l) = swaps_down-within n p l w.0 in
    let at : (q to : ℕ) → shifted p l q ≡ to → get_or (swapped (swaps_down p l) s) to 0 ≡ get_or s q 0 =
    λ q to e. ap (λ k. get_or (swapped (swaps_down p l) s) k 0) (sym (travels_fall p l q le ∙ e)) ∙ moved_on n (swaps_down p l) s q i.len within in
    record {
      down = le;
      within = within;
      placement = IsPlacement-swapped n (swaps_down p l) s within i;
      home = λ k h.
          (elim (cases_eq k l) [
            | inl same ↦ at p k (shifted-at p l ∙ sym same) ∙ w.1 ∙ sym same
            | inr ne ↦ at k k (shifted-below p l k (omega arith) (omega arith)) ∙ before k (omega arith)
          ]);
    }

-- all lines go home
pub record GoesHome (n : ℕ) (s ps : List ℕ) : Type 0 where
  pub within : All (IsSwap n) ps
  pub home : swapped ps s ≡ home n

pub go_home : (n d l : ℕ) (s : List ℕ) → l + d ≡ n → IsPlacement n s → AreHome l s → GoesHome n s (way_home (range_with_len l d) s)
unfolding way_home
go_home n zero l s e i before =
    record { within = All-nil (IsSwap n); home = swapped_none s ∙ is_home n s i.len (λ k lt. before k (omega (arith, lt, e))) }
go_home n (suc d) l s e i before =
    let ps : List ℕ = swaps_down (position_of s l) l in
    let w = one_home n s l (omega (arith, e)) i before in
    let r = go_home n d (l + 1) (swapped ps s) (omega (arith, e)) w.placement w.home in
    record {
      within = All-append (IsSwap n) ps (way_home (range_with_len (l + 1) d) (swapped ps s)) w.within r.within;
      home = swapped-append ps (way_home (range_with_len (l + 1) d) (swapped ps s)) s ∙ r.home;
    }

pub goes_home : (n : ℕ) (s : List ℕ) → IsPlacement n s → GoesHome n s (way_home (home (length s)) s)
goes_home n s i =
    let P : ℕ → Type 0 = λ k. GoesHome n s (way_home (home k) s) in
    subst P (sym i.len) (go_home n n 0 s (omega arith) i (λ k lt. absurd (omega (arith, lt))))

-- ---- one gate

touched_line : (g : Shape) (n : ℕ) → FitsIn g n → (line : ℕ) × (touches g line ≡ true) × (line < n)
touched_line (Flip care want t) n fits = let on = or_right (has care t) _ (eq-eqb t t refl) in (t, on, fits t on)
touched_line (Swap care want a b) n fits = let on = or_right (has care b || eqb b a) _ (eq-eqb b b refl) in (b, on, fits b on)
touched_line (Peres a b d) n fits = let on = or_right (eqb d a || eqb d b) _ (eq-eqb d d refl) in (d, on, fits d on)

-- what gathering for a gate keeps
pub record Gathers (n : ℕ) (s : List ℕ) (g : Shape) : Type 0 where
  pub some : 0 < length (touched_positions s g)
  pub ascending : AreAscending 0 n (touched_positions s g)
  pub within : All (IsSwap n) (gathering (touched_positions s g))
  pub placement : IsPlacement n (swapped (gathering (touched_positions s g)) s)
  pub near : IsNear (gate_on (swapped (gathering (touched_positions s g)) s) g)

pub gathers : (n : ℕ) (s : List ℕ) (g : Shape) → IsPlacement n s → FitsIn g n → Gathers n s g
gathers n s g i fits =
    let f : ℕ → Bool = λ p. touches g (get_or s p 0) in
    let ps : List ℕ = touched_positions s g in
    let len = i.len in
    let o = touched_line g n fits in
    let v = i.stands o.0 o.2 in
    let some : 0 < length ps = some_pass f 0 (length s) (i.place o.0) (omega arith) (omega (arith, v.0)) (ap (touches g) v.1 ∙ o.1) in
    let ascending : AreAscending 0 n ps = passing_ascend f 0 (length s) n (omega arith) in
    let within : All (IsSwap n) (gathering ps) = gathering-within n ps some ascending in
    let t : List ℕ = swapped (gathering ps) s in
    let placement : IsPlacement n t = IsPlacement-swapped n (gathering ps) s within i in
    let block = gathered f (length s) some in
    -- the line at a position after the swaps, and where it was before
    let was : (k : ℕ) → k < n → (q : ℕ) × (q < length s) × (get_or s q 0 ≡ get_or t k 0) × (travels (gathering ps) q ≡ k) = λ k lk.
    (let x = placement.line k lk in
    let w = stands n s i (get_or t k 0) x.0 in (
      position_of s (get_or t k 0),
      omega (arith, w.0),
      w.1,
      sym (position-swapped n (gathering ps) s (get_or t k 0) x.0 within i) ∙ position_is n t placement (get_or t k 0) x.0 ∙ x.1,
    )) in
    let inside : (k : ℕ) → touches (gate_on t g) k ≡ true → (k < n) × (block.0 ≤ k) × (k ≤ block.1) = λ k on.
    (let lk : k < n = FitsIn-gate_on n t placement g fits k on in
    let q = was k lk in
    let b = block.2.on q.0 q.1 (ap (touches g) q.2 ∙ sym (touches-gate_on n t placement g k fits lk) ∙ on) in
    let at = q.3 in
    (lk, omega (arith, b.0), omega (arith, b.1))) in
    record {
      some = some;
      ascending = ascending;
      within = within;
      placement = placement;
      near = λ first line last a b lo hi.
          (let x = inside first a in
          let y = inside last b in
          let lk : line < n = omega (arith, y.0) in
          let q = was line lk in
          let at = q.3 in
          elim (cases_Bool (touches g (get_or s q.0 0))) [
            | inl on ↦ touches-gate_on n t placement g line fits lk ∙ ap (touches g) (sym q.2) ∙ on
            | inr off ↦ absurd (elim (block.2.off q.0 q.1 off) [ inl under ↦ omega (arith, x.1) | inr over ↦ omega (arith, y.2) ])
          ]);
    }

-- ---- all gates

pub routed_none : (s : List ℕ) → routed_from s [] ≡ map neighbours (way_home (home (length s)) s)
unfolding routed_from
routed_none s = refl

pub routed_first : (s : List ℕ) (g : Shape) (rest : List Shape)
    → routed_from s (g ∷ rest)
    ≡ map neighbours (gathering (touched_positions s g))
    ++ (gate_on (swapped (gathering (touched_positions s g)) s) g ∷ routed_from (swapped (gathering (touched_positions s g)) s) rest)
unfolding routed_from
routed_first s g rest = refl

-- the word on the positions is the word of the lines under the placement, after each step: and so in the end
pub run_routed : (n : ℕ) (gates : List Shape) (s : List ℕ) (word : List Bool) → IsPlacement n s → All (λ g. FitsIn g n) gates
    → length word ≡ n → run (routed_from s gates) (word_on s word) ≡ run gates word
run_routed n [] s word i fit len =
    let h = goes_home n s i in
    ap (λ l. run l (word_on s word)) (routed_none s)
    ∙ run_swaps n (way_home (home (length s)) s) s word i.len h.within
    ∙ ap (λ t. word_on t word) (h.home ∙ ap home (sym len))
    ∙ word_on-home word
run_routed n (g ∷ rest) s word i fit len =
    let fits : FitsIn g n = All-head (λ h. FitsIn h n) g rest fit in
    let w = gathers n s g i fits in
    let ps : List ℕ = gathering (touched_positions s g) in
    let t : List ℕ = swapped ps s in
    ap (λ l. run l (word_on s word)) (routed_first s g rest)
    ∙ run-append (map neighbours ps) (gate_on t g ∷ routed_from t rest) (word_on s word)
    ∙ ap (run (gate_on t g ∷ routed_from t rest)) (run_swaps n ps s word i.len w.within)
    ∙ ap (run (routed_from t rest)) (act-on n t w.placement g word fits len)
    ∙ run_routed n rest t (act g word) w.placement (All-tail (λ h. FitsIn h n) g rest fit) (length-act g word ∙ len)

-- ---- what each gate of a routed circuit keeps

neighbours_touch : (p k : ℕ) → touches (neighbours p) k ≡ true → (p ≤ k) × (k ≤ p + 1)
neighbours_touch p k on = grind arith

near_neighbours : (p : ℕ) → IsNear (neighbours p)
near_neighbours p first line last a b lo hi = grind (arith, neighbours_touch, or_left, or_right, eq-eqb)

-- near, a gate, and on n lines
pub record IsPlaced (n : ℕ) (g : Shape) : Type 0 where
  pub near : IsNear g
  pub valid : IsGate g
  pub fits : FitsIn g n

neighbours_placed : (n p : ℕ) → n ≤ 64 → p + 1 < n → IsPlaced n (neighbours p)
neighbours_placed n p few h =
    record {
      near = near_neighbours p;
      valid = (
        omega arith,
        omega arith,
        λ e. absurd (omega arith),
        has-none p,
        has-none (p + 1),
        λ line on. absurd
            (false≢true (sym (has-none line) ∙ on)),
      );
      fits = λ k on. (let w = (neighbours_touch p k on).1 in omega arith);
    }

swaps_placed : (n : ℕ) (ps : List ℕ) → n ≤ 64 → All (IsSwap n) ps → All (IsPlaced n) (map neighbours ps)
swaps_placed n ps few w = All-map (IsPlaced n) neighbours ps (λ k d lt. neighbours_placed n (get_or ps k d) few (w k d lt))

pub routed_placed : (n : ℕ) (gates : List Shape) (s : List ℕ) → n ≤ 64 → IsPlacement n s → All (λ g. FitsIn g n) gates
    → All IsGate gates → All (IsPlaced n) (routed_from s gates)
routed_placed n [] s few i fit valid =
    let P : List Shape → Type 0 = All (IsPlaced n) in
    subst P (sym (routed_none s)) (swaps_placed n (way_home (home (length s)) s) few (goes_home n s i).within)
routed_placed n (g ∷ rest) s few i fit valid =
    let fits : FitsIn g n = All-head (λ h. FitsIn h n) g rest fit in
    let w = gathers n s g i fits in
    let ps : List ℕ = gathering (touched_positions s g) in
    let t : List ℕ = swapped ps s in
    let placed : IsPlaced n (gate_on t g) = record {
      near = w.near;
      valid = IsGate-gate_on n t w.placement g few fits (All-head IsGate g rest valid);
      fits = FitsIn-gate_on n t w.placement g fits;
    } in
    let P : List Shape → Type 0 = All (IsPlaced n) in
    subst P (sym (routed_first s g rest))
    (All-append (IsPlaced n) (map neighbours ps) _ (swaps_placed n ps few w.within)
    (All-cons (IsPlaced n) (gate_on t g) (routed_from t rest) placed
    (routed_placed n rest t few w.placement (All-tail (λ h. FitsIn h n) g rest fit) (All-tail IsGate g rest valid))))

-- ---- circuits

pub placed : (c : Cascade) → IsCascade c → All (IsPlaced (length c.names)) (routed c).gates
placed c kept = routed_placed (length c.names) c.gates (home (length c.names)) kept.names.few
    (IsPlacement-home (length c.names)) kept.fitting kept.valid

pub near : (c : Cascade) → IsCascade c → All IsNear (routed c).gates
near c kept = All-weaker (IsPlaced (length c.names)) IsNear (λ g p. p.near) (routed c).gates (placed c kept)

pub same_run : (c : Cascade) → IsCascade c → (word : List Bool) → length word ≡ length c.names
    → run (routed c).gates word ≡ run c.gates word
same_run c kept word len =
    let n : ℕ = length c.names in
    ap (run (routed c).gates) (sym (ap (λ k. word_on (home k) word) (sym len) ∙ word_on-home word))
    ∙ run_routed n c.gates (home n) word (IsPlacement-home n) kept.fitting len
