-- Three lines with none between them that isn't one of them are a row.
use Rattle.std.proofs.Common.{◌≡◌, ◌≢◌, ◌∙◌, ℕ, ◌+◌, ◌<◌, ◌≤◌, Bool, true, false, ◌&&◌, ◌||◌, eqb, ◌⊎◌, inl, inr, refl, sym, ap, ap₂, arith, eq-eqb}
use Rattle.std.proofs.lemmas.Bool.{and_parts, cases_order, eqb-true}
use Rattle.rv_near.specs.Near.{is_row}

pub row-up : (a b c : ℕ) → a + 1 ≡ b → b + 1 ≡ c → is_row a b c ≡ true
row-up a b c ab bc = ap₂ (λ (s t : Bool). (s && t) || ((eqb (c + 1) b) && (eqb (b + 1) a))) (eq-eqb (a + 1) b ab) (eq-eqb (b + 1) c bc)

pub row-down : (a b c : ℕ) → c + 1 ≡ b → b + 1 ≡ a → is_row a b c ≡ true
row-down a b c cb ba = ap₂ (λ (s t : Bool). ((eqb (a + 1) b) && (eqb (b + 1) c)) || (s && t)) (eq-eqb (c + 1) b cb) (eq-eqb (b + 1) a ba) ∙ or_true ((eqb (a + 1) b) && (eqb (b + 1) c))
  where
    or_true : (s : Bool) → (s || true) ≡ true
    or_true true = refl
    or_true false = refl

-- the neighbours in a row
abbrev pub AreNext : ℕ → ℕ → Type 0
AreNext a b = (a + 1 ≡ b) ⊎ (b + 1 ≡ a)

pub row-next : (a b c : ℕ) → is_row a b c ≡ true → AreNext a b × AreNext b c
row-next a b c = go ((eqb (a + 1) b) && (eqb (b + 1) c)) refl
  where
    go : (s : Bool) → ((eqb (a + 1) b) && (eqb (b + 1) c)) ≡ s → (s || ((eqb (c + 1) b) && (eqb (b + 1) a))) ≡ true → AreNext a b × AreNext b c
    go true up on = let p = and_parts (eqb (a + 1) b) (eqb (b + 1) c) up in (inl (eqb-true (a + 1) b p.0), inl (eqb-true (b + 1) c p.1))
    go false up on = let p = and_parts (eqb (c + 1) b) (eqb (b + 1) a) on in (inr (eqb-true (b + 1) a p.1), inr (eqb-true (c + 1) b p.0))

-- ---- none between that isn't one of them

abbrev pub OneOf : ℕ → ℕ → ℕ → ℕ → Type 0
OneOf a b c x = (x ≡ a) ⊎ ((x ≡ b) ⊎ (x ≡ c))

next-is : (a b c p q : ℕ) → OneOf a b c (p + 1) → (p + 1 ≡ a → p + 1 ≡ q) → (p + 1 ≡ b → p + 1 ≡ q) → (p + 1 ≡ c → p + 1 ≡ q) → p + 1 ≡ q
next-is a b c p q (inl e) f g h = f e
next-is a b c p q (inr (inl e)) f g h = g e
next-is a b c p q (inr (inr e)) f g h = h e

module _ (a b c : ℕ) (closed : (first line last : ℕ) → OneOf a b c first → OneOf a b c last → first ≤ line → line ≤ last → OneOf a b c line) where
  in_order : (p q r : ℕ) → OneOf a b c p → OneOf a b c r → p < q → q < r → (p + 1 ≡ a → p + 1 ≡ q) × (p + 1 ≡ b → p + 1 ≡ q) × (p + 1 ≡ c → p + 1 ≡ q)
      → (q + 1 ≡ a → q + 1 ≡ r) × (q + 1 ≡ b → q + 1 ≡ r) × (q + 1 ≡ c → q + 1 ≡ r) → (p + 1 ≡ q) × (q + 1 ≡ r)
  in_order p q r first last pq qr low high = (
    next-is a b c p q (closed p (p + 1) r first last (omega arith) (omega (arith, pq, qr))) low.0 low.1 low.2,
    next-is a b c q r (closed p (q + 1) r first last (omega (arith, pq)) (omega (arith, qr))) high.0 high.1 high.2,
  )

  abbrev Row : Type 0
  Row = (is_row a b c ≡ true) ⊎ ((is_row a c b ≡ true) ⊎ (is_row b a c ≡ true))

  pub are-row : a ≢ b → a ≢ c → b ≢ c → Row
  are-row ab ac bc = go (cases_order a b) (cases_order b c) (cases_order a c)
    where
      go : (a ≡ b) ⊎ ((a < b) ⊎ (b < a)) → (b ≡ c) ⊎ ((b < c) ⊎ (c < b)) → (a ≡ c) ⊎ ((a < c) ⊎ (c < a)) → Row
      go (inl e) s t = absurd (ab e)
      go r (inl e) t = absurd (bc e)
      go r s (inl e) = absurd (ac e)
      go (inr (inl p)) (inr (inl q)) t =
          let n = in_order a b c (inl refl) (inr (inr refl)) p q ((λ e. omega (arith, e, p, q)), (λ e. omega (arith, e, p, q)), (λ e. omega (arith, e, p, q))) ((λ e. omega (arith, e, p, q)), (λ e. omega (arith, e, p, q)), (λ e. omega (arith, e, p, q))) in inl (row-up a b c n.0 n.1)
      go (inr (inl p)) (inr (inr q)) (inr (inl r)) =
          let n = in_order a c b (inl refl) (inr (inl refl)) r q ((λ e. omega (arith, e, r, q)), (λ e. omega (arith, e, r, q)), (λ e. omega (arith, e, r, q))) ((λ e. omega (arith, e, r, q)), (λ e. omega (arith, e, r, q)), (λ e. omega (arith, e, r, q))) in inr (inl (row-up a c b n.0 n.1))
      go (inr (inl p)) (inr (inr q)) (inr (inr r)) =
          let n = in_order c a b (inr (inr refl)) (inr (inl refl)) r p ((λ e. omega (arith, e, r, p)), (λ e. omega (arith, e, r, p)), (λ e. omega (arith, e, r, p))) ((λ e. omega (arith, e, r, p)), (λ e. omega (arith, e, r, p)), (λ e. omega (arith, e, r, p))) in inr (inr (row-down b a c n.0 n.1))
      go (inr (inr p)) (inr (inl q)) (inr (inl r)) =
          let n = in_order b a c (inr (inl refl)) (inr (inr refl)) p r ((λ e. omega (arith, e, p, r)), (λ e. omega (arith, e, p, r)), (λ e. omega (arith, e, p, r))) ((λ e. omega (arith, e, p, r)), (λ e. omega (arith, e, p, r)), (λ e. omega (arith, e, p, r))) in inr (inr (row-up b a c n.0 n.1))
      go (inr (inr p)) (inr (inl q)) (inr (inr r)) =
          let n = in_order b c a (inr (inl refl)) (inl refl) q r ((λ e. omega (arith, e, q, r)), (λ e. omega (arith, e, q, r)), (λ e. omega (arith, e, q, r))) ((λ e. omega (arith, e, q, r)), (λ e. omega (arith, e, q, r)), (λ e. omega (arith, e, q, r))) in inr (inl (row-down a c b n.0 n.1))
      go (inr (inr p)) (inr (inr q)) t =
          let n = in_order c b a (inr (inr refl)) (inl refl) q p ((λ e. omega (arith, e, q, p)), (λ e. omega (arith, e, q, p)), (λ e. omega (arith, e, q, p))) ((λ e. omega (arith, e, q, p)), (λ e. omega (arith, e, q, p)), (λ e. omega (arith, e, q, p))) in inl (row-down a b c n.0 n.1)
