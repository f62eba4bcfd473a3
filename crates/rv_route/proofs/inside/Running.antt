-- The word on the positions is the word of the lines under the placement: before a gate and after it.
use Rattle.std.proofs.Common.{◌≡◌, ◌≢◌, ℕ, ◌+◌, ◌<◌, ◌≤◌, Bool, true, false, eqb, List, [], ◌∷◌, length, get_or, map, set, All, refl, sym, ◌∙◌, ap, inl, inr, arith, ne_eqb, eq-eqb, subst, ext_get_or}
use Rattle.std.proofs.lemmas.Bool.{cases_lt, false≢true, eqb-true}
use Rattle.std.proofs.lemmas.List.{length-map, get_or-map, map-set, get_or_past}
use Rattle.std.proofs.lemmas.List.Edits.{length-swap, swap_is}
use Rattle.std.proofs.lemmas.List.Elements.{All-head, All-tail}
use Rattle.std.proofs.lemmas.List.Sums.{position_or_len_is}
use Rattle.std.specs.List.{swap}
use Rattle.rv_gate.specs.Word.{has, bit_of}
use Rattle.rv_gate.specs.Gate.{holds, act, run, touches, FitsIn, IsGate, WantsControls}
use Rattle.rv_gate.specs.declared.gate.Shape.{Shape}
use Rattle.rv_gate.specs.declared.gate.Shape.TheVariants.{Flip, Swap, Peres}
use Rattle.rv_gate.proofs.inside.Ones.{has-ones_of}
use Rattle.rv_gate.proofs.inside.GateLemmas.{fits_peres_a, holds_Decides, length-act, holds_none}
use Rattle.rv_gate.proofs.Acting.{acts, bit_after, bit_of-act, TargetsBelow, TargetsBelow-fits}
use Rattle.rv_route.specs.Placement.{position_of, positions_of, word_on, gate_on}
use Rattle.rv_route.specs.Moves.{swapped, neighbours}
use Rattle.rv_route.specs.inside.Standing.{IsPlacement, IsSwap}
use Rattle.rv_route.proofs.inside.Shifts.{swapped_none, swapped_first}
use Rattle.rv_gate.proofs.Bits.{same_bool}

-- ---- swaps of neighbours

pub map-swap : {Y : Type 0} (f : ℕ → Y) (s : List ℕ) (i j : ℕ) (d : Y) → i < length s → j < length s
    → map f (swap s i j) ≡ swap (map f s) i j
map-swap f s i j d hi hj = grind (arith, length-map, swap_is, map-set, get_or-map)

run_swap : (p : ℕ) (s : List ℕ) (word : List Bool) → p + 1 < length s
    → act (neighbours p) (word_on s word) ≡ word_on (swap s p (p + 1)) word
run_swap p s word h = grind (arith, word_on, length-map, bit_of, holds_none, swap_is, map-swap)

pub run_swaps : (n : ℕ) (ps s : List ℕ) (word : List Bool) → length s ≡ n → All (IsSwap n) ps
    → run (map neighbours ps) (word_on s word) ≡ word_on (swapped ps s) word
run_swaps n [] s word e w = ap (λ t. word_on t word) (sym (swapped_none s))
run_swaps n (p ∷ ps) s word e w =
    ap (run (map neighbours ps)) (run_swap p s word (omega (arith, e, All-head (IsSwap n) p ps w)))
    ∙ run_swaps n ps (swap s p (p + 1)) word (length-swap s p (p + 1) ∙ e) (All-tail (IsSwap n) p ps w)
    ∙ ap (λ t. word_on t word) (sym (swapped_first p ps s))

-- ---- positions

module _ (n : ℕ) (s : List ℕ) (i : IsPlacement n s) where
  -- a line is found at its place
  pub position_is : (line : ℕ) → line < n → position_of s line ≡ i.place line
  position_is line lt =
      let w = i.stands line lt in
      position_or_len_is (λ x. eqb x line) s (i.place line) 0 (omega (arith, w.0, i.len))
      (λ k h. ne_eqb (get_or s k 0) line
      (λ e. (let same : i.place line ≡ k = ap i.place (sym e)
      ∙ (i.line k (omega (arith, h, w.0))).1 in omega (arith, h, same))))
      (λ _. eq-eqb (get_or s (i.place line) 0) line w.1)

  pub stands : (line : ℕ) → line < n → (position_of s line < n) × (get_or s (position_of s line) 0 ≡ line)
  stands line lt =
      let w = i.stands line lt in
      let e = position_is line lt in
      (omega (arith, e, w.0), ap (λ k. get_or s k 0) e ∙ w.1)

  -- a position is that of a line exactly where the line stands there
  pub eqb-position : (p line : ℕ) → p < n → line < n → eqb p (position_of s line) ≡ eqb (get_or s p 0) line
  eqb-position p line lp ll =
      let e = position_is line ll in
      let back : i.place (get_or s p 0) ≡ p = (i.line p lp).1 in
      same_bool _ _
      (λ at. eq-eqb (get_or s p 0) line (ap (λ k. get_or s k 0) (eqb-true p (position_of s line) at) ∙ (stands line ll).1))
      (λ at. eq-eqb p (position_of s line) (sym back ∙ ap i.place (eqb-true (get_or s p 0) line at) ∙ sym e))

  pub bit_of-word_on : (word : List Bool) (p : ℕ) → p < n → bit_of (word_on s word) p ≡ bit_of word (get_or s p 0)
  bit_of-word_on word p h = get_or-map (bit_of word) s p 0 false (omega (arith, h, i.len))

  bit_at_position : (word : List Bool) (line : ℕ) → line < n → bit_of (word_on s word) (position_of s line) ≡ bit_of word line
  bit_at_position word line lt = let w = stands line lt in bit_of-word_on word (position_of s line) w.0 ∙ ap (bit_of word) w.1

  pub has-positions_of : (set p : ℕ) → p < n → has (positions_of s set) p ≡ has set (get_or s p 0)
  has-positions_of set p h = has-ones_of (map (has set) s) p ∙ get_or-map (has set) s p 0 false (omega (arith, h, i.len))

  -- what is off past the row is on it
  on_row : (test : ℕ → Bool) → ((p : ℕ) → n ≤ p → test p ≡ false) → (p : ℕ) → test p ≡ true → p < n
  on_row test off p on = elim (cases_lt p n) [ inl lt ↦ lt | inr past ↦ absurd (false≢true (sym (off p past) ∙ on)) ]

  off_positions : (set p : ℕ) → n ≤ p → has (positions_of s set) p ≡ false
  off_positions set p past = has-ones_of (map (has set) s) p ∙ get_or_past (map (has set) s) p false (omega (arith, i.len, length-map s (has set)))

  off_line : (p line : ℕ) → line < n → n ≤ p → eqb p (position_of s line) ≡ false
  off_line p line lt past = ne_eqb p (position_of s line) (let w = (stands line lt).0 in omega arith)

  -- ---- gates

  -- what a gate touches on the positions, it touches on the lines
  pub touches-gate_on : (g : Shape) (p : ℕ) → FitsIn g n → p < n → touches (gate_on s g) p ≡ touches g (get_or s p 0)
  touches-gate_on (Flip care want t) p fits h =
      rw (has-positions_of care p h, eqb-position p t h (TargetsBelow-fits (Flip care want t) n fits)) refl
  touches-gate_on (Swap care want a b) p fits h =
      let lt = TargetsBelow-fits (Swap care want a b) n fits in
      rw (has-positions_of care p h, eqb-position p a h lt.0, eqb-position p b h lt.1) refl
  touches-gate_on (Peres a b d) p fits h =
      let lt = TargetsBelow-fits (Peres a b d) n fits in
      rw (eqb-position p a h (fits_peres_a (Peres a b d) a b d n refl fits), eqb-position p b h lt.0, eqb-position p d h lt.1) refl

  touches-past : (g : Shape) → FitsIn g n → (p : ℕ) → n ≤ p → touches (gate_on s g) p ≡ false
  touches-past (Flip care want t) fits p past =
      rw (off_positions care p past, off_line p t (TargetsBelow-fits (Flip care want t) n fits) past) refl
  touches-past (Swap care want a b) fits p past =
      let lt = TargetsBelow-fits (Swap care want a b) n fits in
      rw (off_positions care p past, off_line p a lt.0 past, off_line p b lt.1 past) refl
  touches-past (Peres a b d) fits p past =
      let lt = TargetsBelow-fits (Peres a b d) n fits in
      rw (off_line p a (fits_peres_a (Peres a b d) a b d n refl fits) past, off_line p b lt.0 past, off_line p d lt.1 past) refl

  pub FitsIn-gate_on : (g : Shape) → FitsIn g n → FitsIn (gate_on s g) n
  FitsIn-gate_on g fits = on_row (touches (gate_on s g)) (touches-past g fits)

  holds-on : (care want : ℕ) (word : List Bool) → length word ≡ n
      → holds (positions_of s care) (positions_of s want) (word_on s word) ≡ holds care want word
  holds-on care want word len =
      let lv : length (word_on s word) ≡ n = length-map s (bit_of word) ∙ i.len in
      let there = holds_Decides (positions_of s care) (positions_of s want) (word_on s word) in
      let here = holds_Decides care want word in
      same_bool _ _
      (λ e. here.1 (λ line lt on.
      (let w = stands line (omega (arith, lt, len)) in
      sym (bit_at_position word line (omega (arith, lt, len)))
      ∙ there.0 e (position_of s line) (omega (arith, w.0, lv))
      (has-positions_of care (position_of s line) w.0 ∙ ap (has care) w.1 ∙ on)
      ∙ has-positions_of want (position_of s line) w.0 ∙ ap (has want) w.1)))
      (λ e. there.1 (λ p lt on.
      (let lp : p < n = omega (arith, lt, lv) in
      bit_of-word_on word p lp
      ∙ here.0 e (get_or s p 0) (omega (arith, (i.line p lp).0, len)) (sym (has-positions_of care p lp) ∙ on)
      ∙ sym (has-positions_of want p lp))))

  acts-on : (g : Shape) (word : List Bool) → length word ≡ n → acts (gate_on s g) (word_on s word) ≡ acts g word
  unfolding acts
  acts-on (Flip care want t) word len = holds-on care want word len
  acts-on (Swap care want a b) word len = holds-on care want word len
  acts-on (Peres a b d) word len = refl

  bit_after-on : (g : Shape) (word : List Bool) (h : Bool) (p : ℕ) → FitsIn g n → p < n
      → bit_after (gate_on s g) (bit_of (word_on s word)) h p ≡ bit_after g (bit_of word) h (get_or s p 0)
  unfolding bit_after
  bit_after-on (Flip care want t) word h p fits lp =
      let lt = TargetsBelow-fits (Flip care want t) n fits in
      rw (eqb-position p t lp lt, bit_at_position word t lt, bit_of-word_on word p lp) refl
  bit_after-on (Swap care want a b) word h p fits lp =
      let lt = TargetsBelow-fits (Swap care want a b) n fits in
      rw (eqb-position p a lp lt.0, eqb-position p b lp lt.1, bit_at_position word a lt.0, bit_at_position word b lt.1, bit_of-word_on word p lp) refl
  bit_after-on (Peres a b d) word h p fits lp =
      let lt = TargetsBelow-fits (Peres a b d) n fits in
      let la = fits_peres_a (Peres a b d) a b d n refl fits in
      rw (eqb-position p d lp lt.1, eqb-position p b lp lt.0, bit_at_position word a la, bit_at_position word b lt.0, bit_at_position word d lt.1, bit_of-word_on word p lp) refl

  -- a gate on the positions does what the gate does on the lines
  pub act-on : (g : Shape) (word : List Bool) → FitsIn g n → length word ≡ n
      → act (gate_on s g) (word_on s word) ≡ word_on s (act g word)
  act-on g word fits len =
      let v : List Bool = word_on s word in
      let lv : length v ≡ n = length-map s (bit_of word) ∙ i.len in
      let P : ℕ → Type 0 = TargetsBelow (gate_on s g) in
      let Q : ℕ → Type 0 = TargetsBelow g in
      let there : TargetsBelow (gate_on s g) (length v) =
      subst P (sym lv) (TargetsBelow-fits (gate_on s g) n (FitsIn-gate_on g fits)) in
      let here : TargetsBelow g (length word) = subst Q (sym len) (TargetsBelow-fits g n fits) in
      ext_get_or false _ _ (length-act (gate_on s g) v ∙ lv ∙ sym i.len ∙ sym (length-map s (bit_of (act g word))))
      (λ p lt.
      let lp : p < n = omega (arith, lt, length-act (gate_on s g) v, lv) in
      bit_of-act (gate_on s g) v p there
      ∙ ap (λ h. bit_after (gate_on s g) (bit_of v) h p) (acts-on g word len)
      ∙ bit_after-on g word (acts g word) p fits lp
      ∙ sym (bit_of-act g word (get_or s p 0) here)
      ∙ sym (bit_of-word_on (act g word) p lp))

  -- ---- gates stay gates

  wants_controls : (care want : ℕ) → WantsControls care want → WantsControls (positions_of s care) (positions_of s want)
  wants_controls care want w p on = let lp = on_row (has (positions_of s want)) (off_positions want) p on in has-positions_of care p lp
      ∙ w (get_or s p 0) (sym (has-positions_of want p lp) ∙ on)

  apart : (a b : ℕ) → a < n → b < n → a ≢ b → position_of s a ≢ position_of s b
  apart a b la lb ne e = ne (sym (stands a la).1 ∙ ap (λ k. get_or s k 0) e ∙ (stands b lb).1)

  free : (care line : ℕ) → line < n → has care line ≡ false → has (positions_of s care) (position_of s line) ≡ false
  free care line lt off = let w = stands line lt in has-positions_of care (position_of s line) w.0 ∙ ap (has care) w.1 ∙ off

  pub IsGate-gate_on : (g : Shape) → n ≤ 64 → FitsIn g n → IsGate g → IsGate (gate_on s g)
  IsGate-gate_on (Flip care want t) few fits v =
      let lt = TargetsBelow-fits (Flip care want t) n fits in
      (omega (arith, (stands t lt).0, few), free care t lt v.1, wants_controls care want v.2)
  IsGate-gate_on (Swap care want a b) few fits v =
      let lt = TargetsBelow-fits (Swap care want a b) n fits in (
        omega (arith, (stands a lt.0).0, few),
        omega
            (arith, (stands b lt.1).0, few),
        apart a b lt.0 lt.1 v.2,
        free care a lt.0 v.3,
        free care b lt.1 v.4,
        wants_controls care want v.5,
      )
  IsGate-gate_on (Peres a b d) few fits v =
      let lt = TargetsBelow-fits (Peres a b d) n fits in
      let la = fits_peres_a (Peres a b d) a b d n refl fits in (
        omega (arith, (stands a la).0, few),
        omega (arith, (stands b lt.0).0, few),
        omega
            (arith, (stands d lt.1).0, few),
        apart a b la lt.0 v.3,
        apart a d la lt.1 v.4,
        apart b d lt.0 lt.1 v.5,
      )
