-- Pairs of gates: the words stay, and the gates become fewer.
use Rattle.std.proofs.Common.{◌≡◌, ◌≢◌, ℕ, zero, suc, ◌^◌, ◌<◌, Bool, true, false, not, cond, ◌&&◌, ◌||◌, eqb, List, [], ◌∷◌, length, set, refl, sym, ◌∙◌, ap, inl, inr, arith, eq-eqb, ne_eqb}
use Rattle.std.specs.Prelude.{bit_xor, ◌⊎◌, Option, Some, None}
use Rattle.std.proofs.lemmas.Option.{none-some, same_Some}
use Rattle.std.proofs.lemmas.Bool.{cases_eq, cases_Bool, cond-true, cond-false, eqb-true, false≢true, false_from_ne_true, or_cases, and_parts, and_from, or_left, or_parts}
use Rattle.std.proofs.lemmas.List.{set_comm}
use Rattle.rv_gate.proofs.LineSets.{has-line, has-or, has-xor}
use Rattle.rv_templ.specs.Gates.{AreGates}
use Rattle.rv_gate.specs.declared.word.TheConstants.{MOST_LINES}
use Rattle.rv_gate.specs.Word.{has, bit_of}
use Rattle.rv_gate.specs.Gate.{same, holds, flip, xor, exchanged, act, run, inverse, is_flip, FitsIn, IsGate}
use Rattle.rv_gate.specs.declared.gate.Shape.{Shape}
use Rattle.rv_gate.specs.declared.gate.Shape.TheVariants.{Flip, Swap, Peres}
use Rattle.rv_gate.proofs.inside.GateLemmas.{holds_Decides, flip-flip, fits_flip}
use Rattle.rv_gate.proofs.Commuting.{two_flips}
use Rattle.rv_gate.proofs.InverseLemmas.{run-undoing}
use Rattle.rv_templ.specs.Pairs.{lone, with_line, apart_on, third_flip, third_at, paired}
use Rattle.rv_gate.proofs.Bits.{same_true, same_from, same_bool, xor_same, or_true, eqb_refl, or_false}

-- ---- one line of a set

pub lone_is : (set n line : ℕ) → lone set n ≡ Some line → set ≡ 2 ^ line
unfolding lone
lone_is set zero line e = absurd (none-some line e)
lone_is set (suc n) line e = let i0 = lone_is set n line in grind (arith, i0, same_Some, cond-true, eq-eqb, cond-false, ne_eqb)

pub lone_below : (set n line : ℕ) → lone set n ≡ Some line → line < n
unfolding lone
lone_below set zero line e = absurd (none-some line e)
lone_below set (suc n) line e = let i0 = lone_below set n line in grind (arith, i0, same_Some, cond-true, cond-false)

xor_true : (b : Bool) → b ≡ true → not (same b true) ≡ false
xor_true b e = rw e refl

same_false : (b : Bool) → not (same b false) ≡ b
same_false true = refl
same_false false = refl

pub with_line_here : (set line : ℕ) (b : Bool) → has (with_line set line b) line ≡ b
unfolding with_line
with_line_here set line b = grind (arith, has-or, has-line, eq-eqb, or_true, cases_Bool, has-xor, xor_true)

pub with_line_other : (set line : ℕ) (b : Bool) (k : ℕ) → k ≢ line → has (with_line set line b) k ≡ has set k
unfolding with_line
with_line_other set line b k h = grind (arith, has-or, has-line, ne_eqb, or_false, cases_Bool, has-xor, same_false)

-- the lines of a set without one
with_line_less : (set line k : ℕ) → has (with_line set line false) k ≡ true → (has set k ≡ true) × (k ≢ line)
with_line_less set line k on = grind (arith, with_line_here, with_line_other)

-- ---- controls, one line apart from the others

-- the symbol on a line admits a bit
admits : Bool → Bool → Bool → Bool
admits care want b = cond care (same b want) true

admits_to : (c w b : Bool) → admits c w b ≡ true → c ≡ true → b ≡ w
unfolding admits
admits_to true w b h t = same_true b w h
admits_to false w b h t = absurd (false≢true t)

admits_from : (c w b : Bool) → (c ≡ true → b ≡ w) → admits c w b ≡ true
unfolding admits
admits_from true w b h = same_from b w (h refl)
admits_from false w b h = refl

-- the controls hold where the others do and the symbol on the line admits its bit
holds_split : (care want line : ℕ) (word : List Bool) → line < length word
    → holds care want word ≡ (holds (with_line care line false) want word && admits (has care line) (has want line) (bit_of word line))
holds_split care want line word lt = grind (arith, same_bool, and_from, holds_Decides, with_line_less, admits_from, admits_to, with_line_other)

-- the other lines are alike
AlikeBut : ℕ → ℕ → ℕ → ℕ → ℕ → Type 0
AlikeBut care want care2 want2 line = (k : ℕ) → k ≢ line → (has care k ≡ has care2 k) × (has want k ≡ has want2 k)

others_hold : (c w c2 w2 line : ℕ) (word : List Bool) → AlikeBut c w c2 w2 line → holds (with_line c line false) w word ≡ true → holds (with_line c2 line false) w2 word ≡ true
unfolding AlikeBut
others_hold c w c2 w2 line word a h = grind (arith, holds_Decides, with_line_less, with_line_other)

others_alike : (c w c2 w2 line : ℕ) (word : List Bool) → AlikeBut c w c2 w2 line → holds (with_line c2 line false) w2 word ≡ holds (with_line c line false) w word
unfolding AlikeBut
others_alike c w c2 w2 line word a =
    same_bool _ _ (others_hold c2 w2 c w line word (λ k ne. let s = a k ne in (sym s.0, sym s.1))) (others_hold c w c2 w2 line word a)

-- three symbols of which each is where the other two differ
symbols : (r c w c2 w2 b : Bool) → (w ≡ true → c ≡ true) → (w2 ≡ true → c2 ≡ true) → ((c ≡ c2) → (w ≡ w2) → ⊥)
    → (r && admits (xor c c2) (xor c c2 && not (w || w2)) b) ≡ xor (r && admits c w b) (r && admits c2 w2 b)
unfolding admits
symbols r c w c2 w2 b h h2 d = grind arith

xor_cond : (x y : Bool) (u v w : List Bool) → u ≡ w → cond x (cond y u v) (cond y v w) ≡ cond (xor x y) v w
xor_cond x y u v w h = grind arith

out_same : (x y : Bool) → not (same x y) ≡ false → x ≡ y
out_same x y h = grind arith

alike_but : (c w c2 w2 line : ℕ) → apart_on c w c2 w2 ≡ 2 ^ line → AlikeBut c w c2 w2 line
unfolding AlikeBut
alike_but c w c2 w2 line e k ne =
    let z : has (apart_on c w c2 w2) k ≡ false = ap (λ s. has s k) e ∙ has-line line k ∙ ne_eqb k line ne in
    let p = or_parts _ _ (sym (has-or (bit_xor c c2) (bit_xor w w2) k) ∙ z) in
    (out_same _ _ (sym (has-xor c c2 k) ∙ p.0), out_same _ _ (sym (has-xor w w2 k) ∙ p.1))

-- on the line itself they are not
pub differ_on : (c w c2 w2 line : ℕ) → apart_on c w c2 w2 ≡ 2 ^ line → has c line ≡ has c2 line → has w line ≡ has w2 line → ⊥
differ_on c w c2 w2 line e p q =
    let off : has (apart_on c w c2 w2) line ≡ false = has-or (bit_xor c c2) (bit_xor w w2) line ∙ rw (has-xor c c2 line, has-xor w w2 line, p, q) (rw (xor_same (has c2 line), xor_same (has w2 line)) refl) in
    false≢true (sym off ∙ ap (λ s. has s line) e ∙ has-line line line ∙ eqb_refl line)

third_holds : (c w c2 w2 line : ℕ) (word : List Bool) → line < length word → apart_on c w c2 w2 ≡ 2 ^ line
    → ((k : ℕ) → has w k ≡ true → has c k ≡ true) → ((k : ℕ) → has w2 k ≡ true → has c2 k ≡ true)
    → holds (with_line c line (xor (has c line) (has c2 line))) (with_line w line (xor (has c line) (has c2 line) && not (has w line || has w2 line))) word
    ≡ xor (holds c w word) (holds c2 w2 word)
unfolding AlikeBut
third_holds c w c2 w2 line word lt e v v2 =
    let b1 : Bool = xor (has c line) (has c2 line) in
    let b2 : Bool = xor (has c line) (has c2 line) && not (has w line || has w2 line) in
    let to3 : AlikeBut c w (with_line c line b1) (with_line w line b2) line = λ k ne. (sym (with_line_other c line b1 k ne), sym (with_line_other w line b2 k ne)) in
    holds_split (with_line c line b1) (with_line w line b2) line word lt
    ∙ rw (others_alike c w (with_line c line b1) (with_line w line b2) line word to3, with_line_here c line b1, with_line_here w line b2, holds_split c w line word lt, holds_split c2 w2 line word lt, others_alike c w c2 w2 line word (alike_but c w c2 w2 line e))
    (symbols _ (has c line) (has w line) (has c2 line) (has w2 line) (bit_of word line) (v line) (v2 line) (differ_on c w c2 w2 line e))

-- ---- joined gates do the same

three_and : (p q r : Bool) → ((p && q) && r) ≡ true → (p ≡ true) × (q ≡ true) × (r ≡ true)
three_and p q r h = grind arith

pub cond_some : (b : Bool) (m : List Shape) (o : Option (List Shape)) → cond b o None ≡ Some m → (b ≡ true) × (o ≡ Some m)
cond_some true m o e = (refl, e)
cond_some false m o e = absurd (none-some m e)

-- what is known of two gates that join
pub record Sound (n : ℕ) (g h : Shape) (m : List Shape) : Type 0 where
  pub words : (word : List Bool) → length word ≡ n → run m word ≡ act h (act g word)
  pub shorter : length m < 2
  pub good : AreGates n m

-- the line on which the cubes differ is a control of one
pub line_used : (c w c2 w2 line : ℕ) → apart_on c w c2 w2 ≡ 2 ^ line
    → ((k : ℕ) → has w k ≡ true → has c k ≡ true) → ((k : ℕ) → has w2 k ≡ true → has c2 k ≡ true)
    → (has c line ≡ true) ⊎ (has c2 line ≡ true)
line_used c w c2 w2 line e v v2 = grind (arith, false_from_ne_true, differ_on)

pub third_gate : (c w c2 w2 t line : ℕ) → IsGate (Flip c w t) → IsGate (Flip c2 w2 t) → apart_on c w c2 w2 ≡ 2 ^ line → IsGate (third_flip c w c2 w2 t line)
unfolding third_flip
third_gate c w c2 w2 t line v v2 e = grind (arith, line_used, with_line_other, with_line_here)

third_sound : (c w c2 w2 t n line : ℕ) → IsGate (Flip c w t) → IsGate (Flip c2 w2 t) → FitsIn (Flip c w t) n → FitsIn (Flip c2 w2 t) n
    → apart_on c w c2 w2 ≡ 2 ^ line → Sound n (Flip c w t) (Flip c2 w2 t) (third_flip c w c2 w2 t line ∷ [])
unfolding third_flip
third_sound c w c2 w2 t n line v v2 f f2 e =
    let b1 : Bool = xor (has c line) (has c2 line) in
    let used = line_used c w c2 w2 line e v.2 v2.2 in
    let lt : line < n = elim used [ inl u ↦ f line (or_left (has c line) (eqb line t) u) | inr u ↦ f2 line (or_left (has c2 line) (eqb line t) u) ] in
    let tn : t < n = fits_flip (Flip c w t) c w t n refl f in
    record {
      words = λ word len.
          ap (λ b. cond b (flip word t) word) (third_holds c w c2 w2 line word (omega arith) e v.2 v2.2)
          ∙ sym (two_flips t c w c2 w2 word v2.1
          ∙ xor_cond (holds c w word) (holds c2 w2 word) (flip (flip word t) t) (flip word t) word (flip-flip word t (omega arith)));
      shorter = omega arith;
      good = (
        third_gate c w c2 w2 t line v v2 e,
        λ k h.
            elim (or_cases (has (with_line c line b1) k) (eqb k t) h) [
              | inl u ↦
                  (elim (cases_eq k line) [
                    | inl q ↦ omega arith
                    | inr ne ↦ f k (or_left (has c k) (eqb k t) (sym (with_line_other c line b1 k ne) ∙ u))
                  ])
              | inr u ↦ let at : k ≡ t = eqb-true k t u in omega arith
            ],
        tt,
      );
    }

third_some : (c w c2 w2 t : ℕ) (o : Option ℕ) (m : List Shape) → third_at c w c2 w2 t o ≡ Some m → (line : ℕ) × (o ≡ Some line) × (third_flip c w c2 w2 t line ∷ [] ≡ m)
third_some c w c2 w2 t None m e = absurd (none-some m e)
third_some c w c2 w2 t (Some line) m e = (line, refl, same_Some _ m e)

exchanged_turned : (word : List Bool) (a b : ℕ) → a ≢ b → exchanged word b a ≡ exchanged word a b
exchanged_turned word a b ne = set_comm word b a (bit_of word a) (bit_of word b) (λ e. ne (sym e))

-- ---- which gates join

-- both go: each is its own inverse, and they do the same
pub record Undone (g h : Shape) (m : List Shape) : Type 0 where
  pub none : m ≡ []
  pub own : inverse g ≡ g ∷ []
  pub alike : IsGate g → (word : List Bool) → act h word ≡ act g word
  pub kind : is_flip g ≡ is_flip h
  pub flips : is_flip g ≡ true → h ≡ g

-- flips of one target whose cubes differ on one line
pub record Third (g h : Shape) (m : List Shape) : Type 0 where
  pub care : ℕ
  pub want : ℕ
  pub care2 : ℕ
  pub want2 : ℕ
  pub target : ℕ
  pub line : ℕ
  pub first : g ≡ Flip care want target
  pub second : h ≡ Flip care2 want2 target
  pub apart : apart_on care want care2 want2 ≡ 2 ^ line
  pub below : line < MOST_LINES
  pub come : m ≡ third_flip care want care2 want2 target line ∷ []

pub paired_as : (g h : Shape) (m : List Shape) → paired g h ≡ Some m → Undone g h m ⊎ Third g h m
unfolding paired
paired_as (Flip c w t) (Flip c2 w2 t2) m e =
    let outer = cond_some (eqb t t2) m _ e in
    elim (cases_Bool (eqb c c2 && eqb w w2)) [
      | inl same ↦
          let p = and_parts _ _ same in
          rw (← eqb-true t t2 outer.0, ← eqb-true c c2 p.0, ← eqb-true w w2 p.1)
          (inl (record { none = sym (same_Some [] m (sym (cond-true (eqb c c2 && eqb w w2) (Some []) _ same) ∙ outer.1)); own = refl; alike = λ _ word. refl; kind = refl; flips = λ _. refl }))
      | inr other ↦
          let o = third_some c w c2 w2 t (lone (apart_on c w c2 w2) MOST_LINES) m (sym (cond-false (eqb c c2 && eqb w w2) (Some []) _ other) ∙ outer.1) in
          inr (record {
            care = c;
            want = w;
            care2 = c2;
            want2 = w2;
            target = t;
            line = o.0;
            first = refl;
            second = ap (Flip c2 w2) (sym (eqb-true t t2 outer.0));
            apart = lone_is _ MOST_LINES o.0 o.1;
            below = lone_below _ MOST_LINES o.0 o.1;
            come = sym o.2;
          })
    ]
paired_as (Swap c w a b) (Swap c2 w2 a2 b2) m e =
    let outer = cond_some _ m (Some []) e in
    let t = three_and (eqb c c2) (eqb w w2) _ outer.0 in
    rw (← eqb-true c c2 t.0, ← eqb-true w w2 t.1)
    (inl (record {
      none = sym (same_Some [] m outer.1);
      own = refl;
      alike = λ is word.
          elim (or_cases (eqb a a2 && eqb b b2) (eqb a b2 && eqb b a2) t.2) [
            | inl same ↦ let p = and_parts _ _ same in rw (← eqb-true a a2 p.0, ← eqb-true b b2 p.1) refl
            | inr turned ↦ let p = and_parts _ _ turned in rw (← eqb-true a b2 p.0, ← eqb-true b a2 p.1) (ap (λ v. cond (holds c w word) v word) (exchanged_turned word a b is.2))
          ];
      kind = refl;
      flips = λ f. absurd (false≢true f);
    }))
paired_as (Flip _ _ _) (Swap _ _ _ _) m e = absurd (none-some m e)
paired_as (Flip _ _ _) (Peres _ _ _) m e = absurd (none-some m e)
paired_as (Swap _ _ _ _) (Flip _ _ _) m e = absurd (none-some m e)
paired_as (Swap _ _ _ _) (Peres _ _ _) m e = absurd (none-some m e)
paired_as (Peres _ _ _) h m e = absurd (none-some m e)

pub joined_sound : (g h : Shape) (n : ℕ) (m : List Shape) → IsGate g → IsGate h → FitsIn g n → FitsIn h n → paired g h ≡ Some m → Sound n g h m
joined_sound g h n m v v2 f f2 e =
    elim (paired_as g h m e) [
      | inl u ↦
          rw u.none
          (record {
            words = λ word len. sym (u.alike v (act g word) ∙ run-undoing g (g ∷ []) (sym u.own) v word (rw len f));
            shorter = omega arith;
            good = tt;
          })
      | inr k ↦
          rw (k.first, k.second, k.come)
          (third_sound k.care k.want k.care2 k.want2 k.target n k.line (rw k.first at v) (rw k.second at v2) (rw k.first at f) (rw k.second at f2) k.apart)
    ]

-- ---- what the code's `join_flips` needs

pub join_both : (c w c2 w2 t : ℕ) → (eqb c c2 && eqb w w2) ≡ true → Some [] ≡ paired (Flip c w t) (Flip c2 w2 t)
unfolding paired
join_both c w c2 w2 t e = rw (eq-eqb t t refl, e) refl

pub join_none : (c w c2 w2 t : ℕ) → (eqb c c2 && eqb w w2) ≡ false → None ≡ lone (apart_on c w c2 w2) MOST_LINES → None ≡ paired (Flip c w t) (Flip c2 w2 t)
unfolding paired
join_none c w c2 w2 t e l = rw (eq-eqb t t refl, e) (ap (third_at c w c2 w2 t) l)

pub join_third : (c w c2 w2 t line : ℕ) → (eqb c c2 && eqb w w2) ≡ false → Some line ≡ lone (apart_on c w c2 w2) MOST_LINES
    → (let o : Option (List Shape) = Some (third_flip c w c2 w2 t line ∷ []) in o) ≡ paired (Flip c w t) (Flip c2 w2 t)
unfolding paired
join_third c w c2 w2 t line e l = rw (eq-eqb t t refl, e) (ap (third_at c w c2 w2 t) l)

pub third_built : (c w c2 w2 t line : ℕ) (control value : Bool) (c3 w3 : ℕ) → control ≡ xor (has c line) (has c2 line)
    → value ≡ (control && not (has w line || has w2 line)) → c3 ≡ with_line c line control → w3 ≡ with_line w line value
    → Flip c3 w3 t ≡ third_flip c w c2 w2 t line
unfolding third_flip
third_built c w c2 w2 t line control value c3 w3 e1 e2 e3 e4 = rw (e3, e4, e2, e1) refl
