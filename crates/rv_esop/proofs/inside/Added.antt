-- What gates add to the outputs.
use Rattle.std.proofs.Common.{◌≡◌, ◌≢◌, ℕ, zero, suc, ◌+◌, ◌<◌, ◌≤◌, ◌*◌, ◌^◌, w64, bit_and, inl, inr, Bool, true, false, cond, ◌&&◌, List, [], ◌∷◌, ◌++◌, length, get_or, set, take, drop, ◌%◌, append-nil, refl, sym, ◌∙◌, ap, subst, arith, append_assoc, length-append, eq-eqb, ne_eqb}
use Rattle.std.specs.Prelude.{map, bit_xor, All}
use Rattle.std.specs.Int.{bit_at, bit_not, trailing_zeros}
use Rattle.std.specs.Int.Bits.{xor_zero_l, xor_zero_r}
use Rattle.std.specs.List.{sum_by}
use Rattle.std.specs.List.Sorted.{IsPermutation}
use Rattle.std.proofs.Math.Seq.{take-add}
use Rattle.std.proofs.lemmas.Bool.{cases_eq, true≢false, or_cases, eqb-true}
use Rattle.std.proofs.lemmas.Nat.{pow_below, pow_pos, xor_lt, xor_comm}
use Rattle.std.proofs.lemmas.Nat.Bits.{bit_at-lt, bit_at-zero, bit_at_xor, same_from_bits}
use Rattle.std.proofs.lemmas.List.Elements.{All-head, All-tail, All-cons, All-nil}
use Rattle.std.proofs.lemmas.List.Sorted.{sum_by-IsPermutation, All-permutation}
use Rattle.std.proofs.lemmas.List.Sums.{sum_by-cons}
use Rattle.rv_gate.specs.Word.{has, bit_of}
use Rattle.rv_gate.specs.Gate.{holds, flip, act, run, xor, FitsIn}
use Rattle.rv_gate.specs.Circuit.{Cascade}
use Rattle.rv_gate.specs.declared.gate.Shape.{Shape}
use Rattle.rv_gate.specs.declared.gate.Shape.TheVariants.{Flip}
use Rattle.rv_gate.proofs.inside.GateLemmas.{run-append}
use Rattle.rv_gate.proofs.InverseLemmas.{holds_one_line}
use Rattle.rv_gate.proofs.LineSets.{has-line, has-cond, has-none, has-xor, same_lines, same_lines_below, Within-below}
use Rattle.rv_gate.proofs.LowestLine.{IsLowest, lowest_line}
use Rattle.rv_gate.proofs.Bits.{xor_false, xor_true, xor_assoc}
use Rattle.rv_pla.specs.Cube.{matches, IsCube}
use Rattle.rv_pla.proofs.inside.Matching.{matches-holds}
use Rattle.rv_pla.specs.declared.cube.Cube.{Cube}
use Rattle.rv_cube.specs.Esop.{share, esop_value, IsTerm}
use Rattle.rv_cube.specs.declared.list.TheConstants.{MOST_CUBES}
use Rattle.rv_cube.proofs.Symbols.{matches-same}
use Rattle.rv_exorlink.specs.Lists.{IsSameBut}
use Rattle.rv_cube.proofs.Sums.{share-xor, share-outs, xor_pairs}
use Rattle.rv_esop.specs.Cascade.{xor_from, xor_set, esop_lines}
use Rattle.rv_esop.specs.Shared.{Adds, Appends, is_odd, given}
use Rattle.rv_esop.specs.inside.Basis.{linked, linked_cube, AreLinked, IsTurned}
use Rattle.rv_esop.specs.inside.Flips.{IsLowestOf}
use Rattle.rv_esop.proofs.Marks.{with_gates}
use Rattle.rv_esop.proofs.inside.Flips.{xor-twice, xor-nothing, length-xor_from, holds-append}

-- ---- one bit is turned

xor-past : (i : ℕ) (v : List Bool) (s : ℕ) → ((k : ℕ) → i ≤ k → has s k ≡ false) → xor_from i v s ≡ v
unfolding xor_from
xor-past i [] s h = refl
xor-past i (b ∷ v) s h =
    ap (λ t. xor b t ∷ xor_from (i + 1) v s) (h i (omega arith))
    ∙ ap (λ w. xor b false ∷ w) (xor-past (i + 1) v s (λ k l. h k (omega arith)))
    ∙ ap (λ t. t ∷ v) (xor_false b)

turned : (i : ℕ) (v : List Bool) (j at : ℕ) → at ≡ i + j → j < length v → flip v j ≡ xor_from i v (2 ^ at)
unfolding xor_from
turned i [] j at e h = absurd (omega arith)
turned i (b ∷ v) zero at e h =
    let here : has (2 ^ at) i ≡ true = has-line at i ∙ eq-eqb i at (omega arith) in
    let past : xor_from (i + 1) v (2 ^ at) ≡ v =
    xor-past (i + 1) v (2 ^ at) (λ k l. has-line at k ∙ ne_eqb k at (λ z. absurd (omega arith))) in
    sym (ap (λ t. xor b t ∷ xor_from (i + 1) v (2 ^ at)) here ∙ ap (λ w. xor b true ∷ w) past
    ∙ ap (λ t. t ∷ v) (xor_true b))
turned i (b ∷ v) (suc j) at e h =
    let off : has (2 ^ at) i ≡ false = has-line at i ∙ ne_eqb i at (λ z. absurd (omega arith)) in
    sym
    (ap (λ t. xor b t ∷ xor_from (i + 1) v (2 ^ at)) off
    ∙ ap (λ t. t ∷ xor_from (i + 1) v (2 ^ at)) (xor_false b)
    ∙ ap (λ w. b ∷ w) (sym (turned (i + 1) v j at (omega arith) (omega arith))))

flip-after : (x v : List Bool) (j k : ℕ) → k ≡ length x + j → flip (x ++ v) k ≡ x ++ flip v j
flip-after [] v j k e = let z : k ≡ j = omega arith in ap (flip v) z
flip-after (b ∷ x) v j zero e = absurd (omega arith)
flip-after (b ∷ x) v j (suc k) e = ap (λ w. b ∷ w) (flip-after x v j k (omega arith))

bit-after : (x v : List Bool) (j k : ℕ) → k ≡ length x + j → bit_of (x ++ v) k ≡ bit_of v j
bit-after [] v j k e = let z : k ≡ j = omega arith in ap (bit_of v) z
bit-after (b ∷ x) v j zero e = absurd (omega arith)
bit-after (b ∷ x) v j (suc k) e = bit-after x v j k (omega arith)

bit-xor_from : (i : ℕ) (v : List Bool) (s j : ℕ) → j < length v
    → bit_of (xor_from i v s) j ≡ xor (bit_of v j) (has s (i + j))
unfolding xor_from
bit-xor_from i [] s j h = absurd (omega arith)
bit-xor_from i (b ∷ v) s zero h = let e : i ≡ i + 0 = omega arith in ap (λ k. xor b (has s k)) e
bit-xor_from i (b ∷ v) s (suc j) h =
    let e : i + 1 + j ≡ i + suc j = omega arith in
    bit-xor_from (i + 1) v s j (omega arith) ∙ ap (λ k. xor (bit_of v j) (has s k)) e

-- ---- one flip

flip_adds : (n j care want : ℕ) (x v : List Bool) (on : Bool) → length x ≡ n → j < length v
    → holds care want (x ++ v) ≡ on
    → act (Flip care want (n + j)) (x ++ v) ≡ x ++ xor_set v (cond on (2 ^ j) 0)
flip_adds n j care want x v on len h is =
    ap (λ t. cond t (flip (x ++ v) (n + j)) (x ++ v)) is ∙ choose on
  where
    choose : (t : Bool) → cond t (flip (x ++ v) (n + j)) (x ++ v) ≡ x ++ xor_set v (cond t (2 ^ j) 0)
    choose true = flip-after x v j (n + j) (omega arith) ∙ ap (λ w. x ++ w) (turned 0 v j j (omega arith) h)
    choose false = sym (ap (λ w. x ++ w) (xor-nothing 0 v))

pub adds_flip : (n o j care want : ℕ) (on : List Bool → Bool) → j < o
    → ((x v : List Bool) → length x ≡ n → length v ≡ o → holds care want (x ++ v) ≡ on x)
    → Adds n o (λ x. cond (on x) (2 ^ j) 0) (Flip care want (n + j) ∷ [])
adds_flip n o j care want on h is =
    record { adds = λ x v lx lv. flip_adds n j care want x v (on x) lx (omega arith) (is x v lx lv) }

-- ---- lists of gates

pub adds_nothing : (n o : ℕ) → Adds n o (λ x. 0) []
adds_nothing n o = record { adds = λ x v lx lv. ap (λ w. x ++ w) (sym (xor-nothing 0 v)) }

pub adds_append : (n o : ℕ) (f f' : List Bool → ℕ) (g g' : List Shape) → Adds n o f g → Adds n o f' g'
    → Adds n o (λ x. bit_xor (f x) (f' x)) (g ++ g')
adds_append n o f f' g g' a b = record {
  adds = λ x v lx lv.
      run-append g g' (x ++ v)
      ∙ ap (run g') (a.adds x v lx lv)
      ∙ b.adds x (xor_set v (f x)) lx (length-xor_from 0 v (f x) ∙ lv)
      ∙ ap (λ w. x ++ w) (xor-twice 0 v (f x) (f' x));
}

pub adds_same : (n o : ℕ) (f f' : List Bool → ℕ) (g : List Shape) → ((x : List Bool) → length x ≡ n → f x ≡ f' x)
    → Adds n o f g → Adds n o f' g
adds_same n o f f' g e a = record { adds = λ x v lx lv. a.adds x v lx lv ∙ ap (λ s. x ++ xor_set v s) (e x lx) }

-- ---- between two links

abbrev pub link : ℕ → ℕ → ℕ → Shape
link n a b = Flip (2 ^ (n + a)) (2 ^ (n + a)) (n + b)

link_acts : (n a b : ℕ) (x v : List Bool) → length x ≡ n → a < length v → b < length v
    → act (link n a b) (x ++ v) ≡ x ++ xor_set v (cond (bit_of v a) (2 ^ b) 0)
link_acts n a b x v len ha hb =
    flip_adds n b (2 ^ (n + a)) (2 ^ (n + a)) x v (bit_of v a) len hb
    (holds_one_line (n + a) (x ++ v) (omega (arith, length-append x v)) ∙ bit-after x v a (n + a) (omega arith))

around : (c h : Bool) (B F : ℕ) → bit_xor (bit_xor (cond c B 0) F) (cond (xor c h) B 0) ≡ bit_xor F (cond h B 0)
around c h B F =
    let s : ℕ = cond c B 0 in
    let t : ℕ = cond h B 0 in
    ap (bit_xor (bit_xor s F)) (share-xor c h B)
    ∙ same_from_bits _ _ (λ i.
    let p = bit_at_xor (bit_xor s F) (bit_xor s t) i in
    let q = bit_at_xor s F i in
    let r = bit_at_xor s t i in
    let u = bit_at_xor F t i in
    omega arith)

pub adds_linked : (n o a b : ℕ) (f : List Bool → ℕ) (g : List Shape) → a < o → b < o → a ≢ b → Adds n o f g
    → Adds n o (λ x. linked a b (f x)) (link n a b ∷ g ++ link n a b ∷ [])
adds_linked n o a b f g ha hb apart h = record {
  adds = λ x v lx lv.
      let gate : Shape = link n a b in
      let c : Bool = bit_of v a in
      let F : ℕ = f x in
      let v1 : List Bool = xor_set v (cond c (2 ^ b) 0) in
      let v2 : List Bool = xor_set v1 F in
      let l1 : length v1 ≡ o = length-xor_from 0 v (cond c (2 ^ b) 0) ∙ lv in
      let l2 : length v2 ≡ o = length-xor_from 0 v1 F ∙ l1 in
      let other : has (cond c (2 ^ b) 0) a ≡ false =
      has-cond c (2 ^ b) a ∙ ap (λ t. c && t) (has-line b a ∙ ne_eqb a b apart) ∙ and_none c in
      let z : 0 + a ≡ a = omega arith in
      let bit1 : bit_of v1 a ≡ c =
      bit-xor_from 0 v (cond c (2 ^ b) 0) a (omega arith) ∙ ap (λ k. xor c (has (cond c (2 ^ b) 0) k)) z
      ∙ ap (xor c) other ∙ xor_false c in
      let bit2 : bit_of v2 a ≡ xor c (has F a) =
      bit-xor_from 0 v1 F a (omega arith) ∙ ap (λ k. xor (bit_of v1 a) (has F k)) z ∙ ap (λ t. xor t (has F a)) bit1 in
      ap (run (g ++ gate ∷ [])) (link_acts n a b x v lx (omega arith) (omega arith))
      ∙ run-append g (gate ∷ []) (x ++ v1)
      ∙ ap (act gate) (h.adds x v1 lx l1)
      ∙ link_acts n a b x v2 lx (omega arith) (omega arith)
      ∙ ap (λ t. x ++ xor_set v2 (cond t (2 ^ b) 0)) bit2
      ∙ ap (λ w. x ++ w)
      (ap (λ w. xor_set w (cond (xor c (has F a)) (2 ^ b) 0)) (xor-twice 0 v (cond c (2 ^ b) 0) F)
      ∙ xor-twice 0 v (bit_xor (cond c (2 ^ b) 0) F) (cond (xor c (has F a)) (2 ^ b) 0)
      ∙ ap (xor_set v) (around c (has F a) (2 ^ b) F));
}
  where
    and_none : (c : Bool) → (c && false) ≡ false
    and_none true = refl
    and_none false = refl

-- ---- circuits

pub appends_none : (n o : ℕ) (c : Cascade) → Appends n o (λ x. 0) c c
appends_none n o c = record { block = []; is = ap (with_gates c) (sym (append-nil c.gates)); added = adds_nothing n o }

pub appends_more : (n o : ℕ) (f f' : List Bool → ℕ) (old mid new : Cascade) → Appends n o f old mid
    → Appends n o f' mid new
    → Appends n o (λ x. bit_xor (f x) (f' x)) old new
appends_more n o f f' old mid new a b = record {
  block = a.block ++ b.block;
  is =
      b.is ∙ ap (λ (t : Cascade). with_gates t (t.gates ++ b.block)) a.is
      ∙ ap (with_gates old) (append_assoc old.gates a.block b.block);
  added = adds_append n o f f' a.block b.block a.added b.added;
}

pub appends_same : (n o : ℕ) (f f' : List Bool → ℕ) (old new : Cascade) → ((x : List Bool) → length x ≡ n → f x ≡ f' x)
    → Appends n o f old new → Appends n o f' old new
appends_same n o f f' old new e a = record { block = a.block; is = a.is; added = adds_same n o f f' a.block e a.added }

pub appends_gate : (n o : ℕ) (f : List Bool → ℕ) (old new : Cascade) (gate : Shape)
    → new ≡ record old { gates = old.gates ++ gate ∷ [] }
    → Adds n o f (gate ∷ []) → Appends n o f old new
appends_gate n o f old new gate is a = record { block = gate ∷ []; is = is; added = a }

pub appends_linked : (n o a b : ℕ) (f : List Bool → ℕ) (old first mid new : Cascade) (gate : Shape) → a < o → b < o
    → a ≢ b → gate ≡ link n a b
    → first ≡ record old { gates = old.gates ++ gate ∷ [] } → Appends n o f first mid
    → new ≡ record mid { gates = mid.gates ++ gate ∷ [] }
    → Appends n o (λ x. linked a b (f x)) old new
appends_linked n o a b f old first mid new gate ha hb apart e pushed h last = record {
  block = gate ∷ h.block ++ gate ∷ [];
  is =
      last ∙ ap (λ (t : Cascade). with_gates t (t.gates ++ gate ∷ [])) h.is
      ∙ ap (λ (t : Cascade). with_gates t ((t.gates ++ h.block) ++ gate ∷ [])) pushed
      ∙ ap (with_gates old)
      (append_assoc (old.gates ++ gate ∷ []) h.block (gate ∷ [])
      ∙ append_assoc old.gates (gate ∷ []) (h.block ++ gate ∷ []));
  added =
      (let P : Shape → Type 0 = λ g. Adds n o (λ x. linked a b (f x)) (g ∷ h.block ++ g ∷ []) in
      subst P (sym e) (adds_linked n o a b f h.block ha hb apart h.added));
}

pub still_lines : (n o m : ℕ) (f : List Bool → ℕ) (old new : Cascade) → Appends n o f old new → length old.names ≡ m
    → length new.names ≡ m
still_lines n o m f old new a e = ap (λ (t : Cascade). length t.names) a.is ∙ e

-- ---- cubes of one set of outputs

pub is_odd-push : (cubes : List Cube) (c : Cube) (x : List Bool)
    → is_odd (cubes ++ c ∷ []) x ≡ xor (is_odd cubes x) (matches c x)
unfolding is_odd
is_odd-push [] c x = xor_false (matches c x) ∙ sym (xor_left (matches c x))
  where
    xor_left : (b : Bool) → xor false b ≡ b
    xor_left true = refl
    xor_left false = refl
is_odd-push (d ∷ rest) c x =
    ap (xor (matches d x)) (is_odd-push rest c x) ∙ sym (xor_assoc (matches d x) (is_odd rest x) (matches c x))

pub given-push : (s : ℕ) (cubes : List Cube) (c : Cube) (x : List Bool)
    → bit_xor (given s cubes x) (cond (matches c x) s 0) ≡ given s (cubes ++ c ∷ []) x
given-push s cubes c x = sym (ap (λ b. cond b s 0) (is_odd-push cubes c x) ∙ share-xor (is_odd cubes x) (matches c x) s)

pub given-both : (s t u : ℕ) (cubes : List Cube) (x : List Bool) → bit_xor s t ≡ u
    → bit_xor (given s cubes x) (given t cubes x) ≡ given u cubes x
given-both s t u cubes x e = sym (share-outs (is_odd cubes x) s t) ∙ ap (λ k. cond (is_odd cubes x) k 0) e

pub given-linked : (a b s u : ℕ) (cubes : List Cube) (x : List Bool) → has s a ≡ true → bit_xor s (2 ^ b) ≡ u
    → linked a b (given s cubes x) ≡ given u cubes x
given-linked a b s u cubes x on e =
    ap (λ t. bit_xor (given s cubes x) (cond t (2 ^ b) 0))
    (has-cond (is_odd cubes x) s a ∙ ap (λ t. is_odd cubes x && t) on ∙ and_one (is_odd cubes x))
    ∙ given-both s (2 ^ b) u cubes x e
  where
    and_one : (c : Bool) → (c && true) ≡ c
    and_one true = refl
    and_one false = refl

pub given-none : (s : ℕ) (x : List Bool) → given s [] x ≡ 0
unfolding is_odd
given-none s x = refl

pub value-given : (s : ℕ) (cubes : List Cube) (x : List Bool) → All (λ cube. cube.outs ≡ s) cubes
    → given s cubes x ≡ esop_value cubes x
unfolding is_odd esop_value
value-given s [] x all = refl
value-given s (c ∷ rest) x all =
    share-xor (matches c x) (is_odd rest x) s
    ∙ ap (bit_xor (cond (matches c x) s 0)) (value-given s rest x (All-tail (λ (c : Cube). c.outs ≡ s) c rest all))
    ∙ ap (λ k. bit_xor (cond (matches c x) k 0) (esop_value rest x))
    (sym (All-head (λ (c : Cube). c.outs ≡ s) c rest all))

-- ---- lists

pub value-append : (a b : List Cube) (x : List Bool) → esop_value (a ++ b) x ≡ bit_xor (esop_value a x) (esop_value b x)
unfolding esop_value
value-append [] b x = sym (xor_zero_l (esop_value b x))
value-append (c ∷ a) b x =
    ap (bit_xor (share c x)) (value-append a b x)
    ∙ same_from_bits _ _ (λ i.
    let p = bit_at_xor (share c x) (bit_xor (esop_value a x) (esop_value b x)) i in
    let q = bit_at_xor (esop_value a x) (esop_value b x) i in
    let r = bit_at_xor (bit_xor (share c x) (esop_value a x)) (esop_value b x) i in
    let s = bit_at_xor (share c x) (esop_value a x) i in
    omega arith)

pub value-taken : (cubes : List Cube) (n m : ℕ) (x : List Bool)
    → bit_xor (esop_value (take n cubes) x) (esop_value (take m (drop n cubes)) x) ≡ esop_value (take (n + m) cubes) x
value-taken cubes n m x =
    sym (ap (λ l. esop_value l x) (take-add n m cubes) ∙ value-append (take n cubes) (take m (drop n cubes)) x)

parity : (cubes : List Cube) (x : List Bool) (i : ℕ)
    → bit_at (esop_value cubes x) i ≡ sum_by (λ c. bit_at (share c x) i) cubes % 2
unfolding esop_value
parity [] x i = bit_at-zero i
parity (c ∷ rest) x i =
    let p = bit_at_xor (share c x) (esop_value rest x) i in
    let s = sum_by-cons (λ (c : Cube). bit_at (share c x) i) c rest in
    let lt = bit_at-lt (share c x) i in
    omega (arith, parity rest x i)

-- the order doesn't matter
pub value-permuted : (xs ys : List Cube) (x : List Bool) → IsPermutation xs ys → esop_value ys x ≡ esop_value xs x
value-permuted xs ys x p =
    same_from_bits _ _ (λ i.
    parity ys x i ∙ ap (λ k. k % 2) (sum_by-IsPermutation (λ (c : Cube). bit_at (share c x) i) xs ys p)
    ∙ sym (parity xs x i))

-- ---- the lowest output of a set

xor_without : (left line rest : ℕ) → left < 2 ^ 64 → IsLowest left line rest → bit_xor (2 ^ line) rest ≡ left
xor_without left line rest small lowest =
    let within = lowest.within in
    let fewer = lowest.fewer in
    let bit : 2 ^ line < 2 ^ 64 = pow_below line 64 within in
    same_lines_below 64 (bit_xor (2 ^ line) rest) left (xor_lt 64 (2 ^ line) rest bit (omega arith)) small (λ k below.
    has-xor (2 ^ line) rest k
    ∙ (elim (cases_eq k line) [
      | inl here ↦
          ap (λ t. xor t (has rest k)) (has-line line k ∙ eq-eqb k line here) ∙ ap (λ j. xor true (has rest j)) here
          ∙ ap (xor true) lowest.gone
          ∙ sym (ap (has left) here ∙ lowest.there)
      | inr other ↦ ap (λ t. xor t (has rest k)) (has-line line k ∙ ne_eqb k line other)
          ∙ ap (xor false) (lowest.same k below other) ∙ xor_left (has left k)
    ]))
  where
    xor_left : (b : Bool) → xor false b ≡ b
    xor_left true = refl
    xor_left false = refl

pub lowest_is : (outputs set : ℕ) → outputs ≤ 16 → 0 < set → set < 2 ^ outputs
    → IsLowestOf outputs set (trailing_zeros w64 set)
    (bit_and set (bit_not w64 (1 * 2 ^ trailing_zeros w64 set % 2 ^ 64)))
lowest_is outputs set few some small =
    let top : 2 ^ outputs < 2 ^ 64 = pow_below outputs 64 (omega arith) in
    let line : ℕ = trailing_zeros w64 set in
    let rest : ℕ = bit_and set (bit_not w64 (1 * 2 ^ trailing_zeros w64 set % 2 ^ 64)) in
    let lowest : IsLowest set line rest = lowest_line set some (omega arith) in
    record {
      within = Within-below set outputs small line lowest.there;
      there = lowest.there;
      gone = lowest.gone;
      fewer = lowest.fewer;
      sum = xor_without set line rest (omega arith) lowest;
    }

-- an output of the rest is another one
pub other_output : (outputs set output rest other more : ℕ) → IsLowestOf outputs set output rest
    → IsLowestOf outputs rest other more → other ≢ output
other_output outputs set output rest other more a b e = true≢false (sym b.there ∙ ap (has rest) e ∙ a.gone)

pub sum_back : (outputs set output rest : ℕ) → IsLowestOf outputs set output rest → bit_xor rest (2 ^ output) ≡ set
sum_back outputs set output rest l = xor_comm rest (2 ^ output) ∙ l.sum

-- the last one
pub only_output : (outputs set output rest : ℕ) → IsLowestOf outputs set output rest → rest ≡ 0 → 2 ^ output ≡ set
only_output outputs set output rest l none =
    sym (xor_zero_r (2 ^ output)) ∙ ap (bit_xor (2 ^ output)) (sym none) ∙ l.sum

-- the flip of a cube at one output
pub adds_cube : (n o j : ℕ) (cube : Cube) → j < o → IsCube n o cube
    → Adds n o (λ x. cond (matches cube x) (2 ^ j) 0) (Flip cube.care cube.want (n + j) ∷ [])
adds_cube n o j cube h v =
    adds_flip n o j cube.care cube.want (matches cube) h
    (λ x w lx lw. holds-append cube.care cube.want n x w lx v.asked ∙ sym (matches-holds cube x))

pub link_fits : (n o a b m : ℕ) (gate : Shape) → gate ≡ link n a b → a < o → b < o → m ≡ n + o → FitsIn gate m
link_fits n o a b m gate e ha hb len =
    let P : Shape → Type 0 = λ g. FitsIn g m in
    subst P (sym e) (λ line on.
    elim (or_cases _ _ on) [
      | inl care ↦ let at = eqb-true line (n + a) (sym (has-line (n + a) line) ∙ care) in omega arith
      | inr target ↦ let at = eqb-true line (n + b) target in omega arith
    ])

-- the first cube alone
pub first_alone : (cubes : List Cube) (d : Cube) → 0 < length cubes
    → All (λ cube. cube.outs ≡ (get_or cubes 0 d).outs) (take 1 cubes)
first_alone [] d h = absurd (omega arith)
first_alone (c ∷ rest) d h = let P : Cube → Type 0 = λ cube. cube.outs ≡ c.outs in All-cons P c [] refl (All-nil P)

pub value-none : (x : List Bool) → esop_value [] x ≡ 0
unfolding esop_value
value-none x = refl

-- ---- the whole circuit

pub sorted_terms : (n o : ℕ) (cubes sorted read : List Cube) → IsPermutation cubes sorted → read ≡ sorted
    → All (IsTerm n o) cubes → All (IsTerm n o) read
sorted_terms n o cubes sorted read p same all =
    let P : List Cube → Type 0 = λ l. All (IsTerm n o) l in
    subst P (sym same) (All-permutation (IsTerm n o) cubes sorted p all)

-- on lines without gates
pub from_lines : (n o : ℕ) (f f' : List Bool → ℕ) (old new : Cascade) → old ≡ esop_lines n o
    → ((x : List Bool) → length x ≡ n → f x ≡ f' x)
    → Appends n o f old new → Adds n o f' new.gates
from_lines n o f f' old new empty e a =
    let P : List Shape → Type 0 = Adds n o f' in
    subst P (sym (ap (λ (t : Cascade). t.gates) a.is ∙ ap (λ (t : Cascade). t.gates ++ a.block) empty))
    (adds_same n o f f' a.block e a.added)

-- ---- another basis

linked_share : (a b : ℕ) (m : Bool) (outs : ℕ) → cond m (linked a b outs) 0 ≡ linked a b (cond m outs 0)
linked_share a b true outs = refl
linked_share a b false outs = sym (ap (λ t. bit_xor 0 (cond t (2 ^ b) 0)) (has-none a) ∙ xor_zero_l 0)

linked_xor : (a b x y : ℕ) → linked a b (bit_xor x y) ≡ bit_xor (linked a b x) (linked a b y)
linked_xor a b x y =
    ap (λ t. bit_xor (bit_xor x y) (cond t (2 ^ b) 0)) (has-xor x y a)
    ∙ ap (bit_xor (bit_xor x y)) (share-xor (has x a) (has y a) (2 ^ b))
    ∙ xor_pairs x y (cond (has x a) (2 ^ b) 0) (cond (has y a) (2 ^ b) 0)

value-linked : (a b : ℕ) (cubes : List Cube) (x : List Bool)
    → esop_value (map (linked_cube a b) cubes) x ≡ linked a b (esop_value cubes x)
unfolding esop_value
value-linked a b [] x = sym (ap (λ t. bit_xor 0 (cond t (2 ^ b) 0)) (has-none a) ∙ xor_zero_l 0)
value-linked a b (c ∷ rest) x =
    ap (bit_xor (cond (matches (linked_cube a b c) x) (linked a b c.outs) 0)) (value-linked a b rest x)
    ∙ ap (λ t. bit_xor (cond t (linked a b c.outs) 0) (linked a b (esop_value rest x)))
    (matches-same (linked_cube a b c) c x (λ i l. refl))
    ∙ ap (λ s. bit_xor s (linked a b (esop_value rest x))) (linked_share a b (matches c x) c.outs)
    ∙ sym (linked_xor a b (share c x) (esop_value rest x))

-- twice is not at all
linked_twice : (a b s : ℕ) → a ≢ b → linked a b (linked a b s) ≡ s
linked_twice a b s apart =
    let t : ℕ = cond (has s a) (2 ^ b) 0 in
    let off : has t a ≡ false =
    has-cond (has s a) (2 ^ b) a ∙ ap (λ k. has s a && k) (has-line b a ∙ ne_eqb a b apart) ∙ and_none (has s a) in
    let same : has (bit_xor s t) a ≡ has s a = has-xor s t a ∙ ap (xor (has s a)) off ∙ xor_false (has s a) in
    ap (λ k. bit_xor (bit_xor s t) (cond k (2 ^ b) 0)) same
    ∙ same_from_bits _ _ (λ i.
    let p = bit_at_xor (bit_xor s t) t i in
    let q = bit_at_xor s t i in
    let r = bit_at-lt s i in
    let u = bit_at-lt t i in
    omega arith)
  where
    and_none : (c : Bool) → (c && false) ≡ false
    and_none true = refl
    and_none false = refl

-- an output stays
some_output : (a b s : ℕ) → a ≢ b → 0 < s → 0 < linked a b s
some_output a b s apart some =
    elim (cases_eq (linked a b s) 0) [
      | inl none ↦
          (let e : s ≡ 0 = sym (linked_twice a b s apart) ∙ ap (linked a b) none
          ∙ ap (λ t. bit_xor 0 (cond t (2 ^ b) 0)) (has-none a) ∙ xor_zero_l 0 in absurd (omega arith))
      | inr other ↦ omega arith
    ]

linked_term : (n o a b : ℕ) (c : Cube) → b < o → a ≢ b → IsTerm n o c → IsTerm n o (linked_cube a b c)
linked_term n o a b c h apart t = record {
  is_cube = record {
    asked = t.is_cube.asked;
    wanted = t.is_cube.wanted;
    carried = xor_lt o c.outs (cond (has c.outs a) (2 ^ b) 0) t.is_cube.carried (small (has c.outs a));
  };
  some = some_output a b c.outs apart t.some;
}
  where
    small : (k : Bool) → cond k (2 ^ b) 0 < 2 ^ o
    small true = pow_below b o h
    small false = pow_pos o

linked_terms : (n o a b : ℕ) (cubes : List Cube) → b < o → a ≢ b → All (IsTerm n o) cubes
    → All (IsTerm n o) (map (linked_cube a b) cubes)
linked_terms n o a b [] h apart all = All-nil (IsTerm n o)
linked_terms n o a b (c ∷ rest) h apart all =
    All-cons (IsTerm n o) (linked_cube a b c) (map (linked_cube a b) rest)
    (linked_term n o a b c h apart (All-head (IsTerm n o) c rest all))
    (linked_terms n o a b rest h apart (All-tail (IsTerm n o) c rest all))

-- after a search that keeps the value
pub turned_list : (n o a b : ℕ) (cubes mid new : List Cube) → b < o → a ≢ b → AreLinked a b cubes mid
    → IsSameBut n [] mid new → length new ≤ MOST_CUBES
    → All (IsTerm n o) cubes → IsTurned n o a b cubes new
turned_list n o a b cubes mid new h apart is s few all =
    let P : List Cube → Type 0 = λ l. All (IsTerm n o) l in
    record {
      value = λ word len.
          ap (linked a b) (same_lines _ _ (λ output. s.value word len output (has-none output))
          ∙ ap (λ l. esop_value l word) is ∙ value-linked a b cubes word)
          ∙ linked_twice a b (esop_value cubes word) apart;
      terms = s.terms o (subst P (sym is) (linked_terms n o a b cubes h apart all));
      few = few;
    }
