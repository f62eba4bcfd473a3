-- The loop over the numbers that have all bits of a mask, and what it exchanges.
use Rattle.std.proofs.Common.{◌≡◌, ◌≢◌, ℕ, ◌+◌, ◌%◌, ◌^◌, ◌<◌, ◌≤◌, eqb, List, length, get_or, set, refl, sym, ◌∙◌, ap, inl, inr, arith, length-set, get_or-set_same, get_or-set_other, eq-eqb, ne_eqb}
use Rattle.std.specs.Prelude.{bit_and, bit_or, bit_xor, ◌⊎◌}
use Rattle.std.proofs.lemmas.Bool.{cases_eq, cases_lt, cond-true, cond-false}
use lib.Bits.{xor_self, xor_assoc, xor_zero_r}
use Rattle.std.proofs.lemmas.Nat.{pow_below, xor_lt, le_or_l, and_or_self, and_le_l}
use Rattle.std.proofs.lemmas.Nat.Bits.{bit_at-lt, bit_at_and, bit_at_or, bit_at_xor, bit_at-pow_same, bit_at-pow_other, same_from_bits}
use Rattle.std.specs.Int.{bit_at}
use Rattle.rv_perm.specs.inside.Walk.{counterpart}
use Rattle.rv_perm.proofs.Masks.{next_least}

-- ---- masks by their bits

-- v has all bits of the mask
abbrev pub HasAll : ℕ → ℕ → Type 0
HasAll mask v = bit_and v mask ≡ mask

pub bits_of : (mask v i : ℕ) → HasAll mask v → bit_at mask i ≤ bit_at v i
bits_of mask v i h = grind (arith, bit_at, bit_at_and)

pub has_all : (mask v : ℕ) → ((i : ℕ) → bit_at mask i ≤ bit_at v i) → HasAll mask v
has_all mask v h = same_from_bits _ _ (λ i. let b = h i in bit_at_and v mask i ∙ (omega arith))

pub back : (v p : ℕ) → bit_xor (bit_xor v p) p ≡ v
back v p = xor_assoc v p p ∙ ap (bit_xor v) (xor_self p) ∙ xor_zero_r v

-- the bit at k of v with the place changed
changed_bit : (v k : ℕ) → bit_at (bit_xor v (2 ^ k)) k ≡ (bit_at v k + 1) % 2
changed_bit v k = bit_at_xor v (2 ^ k) k ∙ ap (λ b. (bit_at v k + b) % 2) (bit_at-pow_same k)

kept_bit : (v k i : ℕ) → i ≢ k → bit_at (bit_xor v (2 ^ k)) i ≡ bit_at v i
kept_bit v k i ne = let small = bit_at-lt v i in bit_at_xor v (2 ^ k) i ∙ ap (λ b. (bit_at v i + b) % 2) (bit_at-pow_other k i ne) ∙ (omega arith)

mask_bit : (care k : ℕ) → bit_at (bit_or care (2 ^ k)) k ≡ 1
mask_bit care k = let small = bit_at-lt care k in let p = bit_at-pow_same k in bit_at_or care (2 ^ k) k ∙ (omega arith)

mask_rest : (care k i : ℕ) → i ≢ k → bit_at (bit_or care (2 ^ k)) i ≡ bit_at care i
mask_rest care k i ne = let p = bit_at-pow_other k i ne in bit_at_or care (2 ^ k) i ∙ (omega arith)

-- of two numbers that differ in bit k, only one has all bits of a mask with this bit
pub other_lacks : (care k v : ℕ) → HasAll (bit_or care (2 ^ k)) v → HasAll (bit_or care (2 ^ k)) (bit_xor v (2 ^ k)) → ⊥
other_lacks care k v h g =
    let a = bits_of (bit_or care (2 ^ k)) v k h in
    let b = bits_of (bit_or care (2 ^ k)) (bit_xor v (2 ^ k)) k g in
    let m = mask_bit care k in
    let c = changed_bit v k in
    let s = bit_at-lt v k in
    omega arith

-- and one of them has, where they have all other bits
pub one_has : (care k v : ℕ) → bit_at care k ≡ 0 → HasAll care v → HasAll (bit_or care (2 ^ k)) v ⊎ HasAll (bit_or care (2 ^ k)) (bit_xor v (2 ^ k))
one_has care k v free h =
    let s = bit_at-lt v k in
    elim (cases_eq (bit_at v k) 1) [
      | inl on ↦
          inl
          (has_all (bit_or care (2 ^ k)) v (λ i. elim (cases_eq i k) [
            | inl at ↦ rw at (let m = mask_bit care k in omega arith)
            | inr ne ↦ (let m = mask_rest care k i ne in let b = bits_of care v i h in omega arith)
          ]))
      | inr off ↦
          inr
          (has_all (bit_or care (2 ^ k)) (bit_xor v (2 ^ k)) (λ i. elim (cases_eq i k) [
            | inl at ↦ rw at (let m = mask_bit care k in let c = changed_bit v k in omega arith)
            | inr ne ↦ (let m = mask_rest care k i ne in let c = kept_bit v k i ne in let b = bits_of care v i h in omega arith)
          ]))
    ]

pub care_has : (care k v : ℕ) → HasAll (bit_or care (2 ^ k)) v → HasAll care v
care_has care k v h =
    has_all care v (λ i. let b = bits_of (bit_or care (2 ^ k)) v i h in let o = bit_at_or care (2 ^ k) i in omega arith)

pub care_other : (care k v : ℕ) → bit_at care k ≡ 0 → HasAll care v → HasAll care (bit_xor v (2 ^ k))
care_other care k v free h = grind (arith, has_all, kept_bit, bits_of)

-- ---- what the loop keeps

-- of the pairs v and v with the place changed, where v has all bits of the mask, those with v below y are exchanged
pub record Visited (n mask negative place y : ℕ) (old new : List ℕ) : Type 0 where
  pub len : length new ≡ length old
  pub has : HasAll mask y
  pub done : (v : ℕ) → v < 2 ^ n → HasAll mask v → v < y
      → (get_or new (bit_xor v negative) 0 ≡ get_or old (bit_xor (bit_xor v place) negative) 0)
      × (get_or new (bit_xor (bit_xor v place) negative) 0 ≡ get_or old (bit_xor v negative) 0)
  pub open_ : (v : ℕ) → v < 2 ^ n → HasAll mask v → y ≤ v
      → (get_or new (bit_xor v negative) 0 ≡ get_or old (bit_xor v negative) 0)
      × (get_or new (bit_xor (bit_xor v place) negative) 0 ≡ get_or old (bit_xor (bit_xor v place) negative) 0)
  pub other : (v : ℕ) → v < 2 ^ n → ¬ HasAll mask v → ¬ HasAll mask (bit_xor v place)
      → get_or new (bit_xor v negative) 0 ≡ get_or old (bit_xor v negative) 0

pub visit_none : (n mask negative place : ℕ) (old : List ℕ) → HasAll mask mask → Visited n mask negative place mask old old
visit_none n mask negative place old self = record {
  len = refl;
  has = self;
  done = λ v vn vm lt. absurd (omega (arith, and_le_l v mask));
  open_ = λ v vn vm le. (refl, refl);
  other = λ v vn a b. refl;
}

-- ^ is one to one
pub same_xor : (a b x : ℕ) → bit_xor a x ≡ bit_xor b x → a ≡ b
same_xor a b x e = sym (back a x) ∙ ap (λ v. bit_xor v x) e ∙ back b x

pub visit_pair : (n care k negative y : ℕ) (old mid new : List ℕ) → k < n → negative < 2 ^ n → y < 2 ^ n → length old ≡ 2 ^ n
    → new
    ≡ set
    (set mid (bit_xor y negative) (get_or mid (bit_xor (bit_xor y (2 ^ k)) negative) 0))
    (bit_xor (bit_xor y (2 ^ k)) negative)
    (get_or mid (bit_xor y negative) 0)
    → Visited n (bit_or care (2 ^ k)) negative (2 ^ k) y old mid
    → Visited n (bit_or care (2 ^ k)) negative (2 ^ k) (bit_or (y + 1) (bit_or care (2 ^ k))) old new
visit_pair n care k negative y old mid new kn nn yn len is t =
    let mask : ℕ = bit_or care (2 ^ k) in
    let p : ℕ = 2 ^ k in
    let a : ℕ = bit_xor y negative in
    let b : ℕ = bit_xor (bit_xor y p) negative in
    let first : ℕ = get_or mid a 0 in
    let second : ℕ = get_or mid b 0 in
    let pn : p < 2 ^ n = pow_below k n kn in
    let a_in : a < 2 ^ n = xor_lt n y negative yn nn in
    let b_in : b < 2 ^ n = xor_lt n (bit_xor y p) negative (xor_lt n y p yn pn) nn in
    let ne : a ≢ b = λ e. other_lacks care k y t.has (let q = same_xor y (bit_xor y p) negative e in ap (λ v. bit_and v mask) (sym q) ∙ t.has) in
    let at_b : get_or new b 0 ≡ first = ap (λ l. get_or l b 0) is ∙ get_or-set_same (set mid a second) b first 0 (omega (arith, length-set mid a second, t.len)) in
    let at_a : get_or new a 0 ≡ second =
    ap (λ l. get_or l a 0) is ∙ get_or-set_other (set mid a second) b a first 0 ne ∙ get_or-set_same mid a second 0 (omega (arith, t.len)) in
    let rest : (v : ℕ) → v ≢ a → v ≢ b → get_or new v 0 ≡ get_or mid v 0 = λ v va vb.
    ap (λ l. get_or l v 0) is ∙ get_or-set_other (set mid a second) b v first 0 vb ∙ get_or-set_other mid a v second 0 va in
    let olds = t.open_ y yn t.has (omega arith) in
    let not_a : (v : ℕ) → v ≢ y → bit_xor v negative ≢ a = λ v vy e. vy (same_xor v y negative e) in
    let not_b : (v : ℕ) → bit_xor v p ≢ y → bit_xor v negative ≢ b = λ v vy e. vy (ap (λ x. bit_xor x p) (same_xor v (bit_xor y p) negative e) ∙ back y p) in
    let lower : (v : ℕ) → HasAll mask v → bit_xor v p ≢ y = λ v vm e. other_lacks care k v vm (ap (λ x. bit_and x mask) e ∙ t.has) in
    let apart : (v : ℕ) → HasAll mask v → v ≢ y →
    (get_or new (bit_xor v negative) 0 ≡ get_or mid (bit_xor v negative) 0)
    × (get_or new (bit_xor (bit_xor v p) negative) 0 ≡ get_or mid (bit_xor (bit_xor v p) negative) 0) = λ v vm vy. (
      rest (bit_xor v negative) (not_a v vy) (not_b v (lower v vm)),
      rest (bit_xor (bit_xor v p) negative) (not_a (bit_xor v p) (lower v vm)) (not_b (bit_xor v p) (λ e. vy (sym (back v p) ∙ e))),
    ) in
    record {
      len = ap length is ∙ length-set (set mid a second) b first ∙ length-set mid a second ∙ t.len;
      has = and_or_self mask (y + 1);
      done = λ v vn vm lt.
          elim (cases_eq v y) [
            | inl e ↦ rw e (at_a ∙ olds.1, at_b ∙ olds.0)
            | inr vy ↦
                let before : v < y =
                elim (cases_lt v y) [
                  | inl below ↦ below
                  | inr above ↦ absurd (let l = next_least n y v mask yn vn t.has vm (omega arith) in omega arith)
                ] in
                let d = t.done v vn vm before in
                let q = apart v vm vy in
                (q.0 ∙ d.0, q.1 ∙ d.1)
          ];
      open_ = λ v vn vm le.
          let l = le_or_l (y + 1) mask in
          let vy : v ≢ y = λ e. omega arith in
          let d = t.open_ v vn vm (omega arith) in
          let q = apart v vm vy in
          (q.0 ∙ d.0, q.1 ∙ d.1);
      other = λ v vn lacks not_pair.
          let vy : v ≢ y = λ e. lacks (ap (λ x. bit_and x mask) e ∙ t.has) in
          let py : bit_xor v p ≢ y = λ e. not_pair (ap (λ x. bit_and x mask) e ∙ t.has) in
          rest (bit_xor v negative) (not_a v vy) (not_b v py) ∙ t.other v vn lacks not_pair;
    }

pub visit_all : (n care k negative y : ℕ) (old new : List ℕ) → k < n → negative < 2 ^ n → bit_at care k ≡ 0 → 2 ^ n ≤ y
    → Visited n (bit_or care (2 ^ k)) negative (2 ^ k) y old new
    → (v : ℕ) → v < 2 ^ n → get_or new v 0 ≡ get_or old (counterpart care negative (2 ^ k) v) 0
visit_all n care k negative y old new kn nn free past t v vn =
    let mask : ℕ = bit_or care (2 ^ k) in
    let p : ℕ = 2 ^ k in
    let u : ℕ = bit_xor v negative in
    let un : u < 2 ^ n = xor_lt n v negative vn nn in
    let wn : bit_xor u p < 2 ^ n = xor_lt n u p un (pow_below k n kn) in
    let at : bit_xor u negative ≡ v = back v negative in
    let to : bit_xor (bit_xor u p) negative ≡ bit_xor v p =
    xor_assoc u p negative ∙ ap (bit_xor u) (swapped p negative) ∙ sym (xor_assoc u negative p) ∙ ap (λ x. bit_xor x p) at in
    elim (cases_eq (bit_and u care) care) [
      | inl h ↦
          let is : counterpart care negative p v ≡ bit_xor v p = cond-true (eqb (bit_and u care) care) _ _ (eq-eqb _ _ h) in
          rw (is, ← to)
          (elim (one_has care k u free h) [
            | inl up ↦ ap (λ x. get_or new x 0) (sym at) ∙ (t.done u un up (omega arith)).0
            | inr down ↦
                let d = (t.done (bit_xor u p) wn down (omega arith)).1 in
                ap (λ x. get_or new x 0) (sym at ∙ ap (λ x. bit_xor x negative) (sym (back u p))) ∙ d
          ])
      | inr lacks ↦
          let is : counterpart care negative p v ≡ v = cond-false (eqb (bit_and u care) care) _ _ (ne_eqb _ _ lacks) in
          let a : ¬ HasAll mask u = λ h. lacks (care_has care k u h) in
          let b : ¬ HasAll mask (bit_xor u p) = λ h. lacks (ap (λ x. bit_and x care) (sym (back u p)) ∙ care_other care k (bit_xor u p) free (care_has care k (bit_xor u p) h)) in
          rw is
          (ap (λ x. get_or new x 0) (sym at) ∙ t.other u un a b ∙ ap (λ x. get_or old x 0) at)
    ]
  where
    swapped : (a b : ℕ) → bit_xor a b ≡ bit_xor b a
    swapped a b = same_from_bits _ _ (λ i. bit_at_xor a b i ∙ (omega arith) ∙ sym (bit_at_xor b a i))
