-- The step by pairs makes the first pair.
use Rattle.std.proofs.Common.{◌≡◌, ℕ, zero, suc, ◌<◌, true, List, [], ◌∷◌, ◌++◌, length, take, drop, get_or, sym, refl, ◌∙◌, ap, arith, if◌then◌else◌}
use Rattle.std.specs.Option.{option_or}
use Rattle.std.specs.Prelude.{Option, Some, None, option_map}
use Rattle.std.proofs.lemmas.Option.{none-some, same_Some}
use Rattle.rv_gate.specs.Commuting.{rule}
use Rattle.rv_gate.specs.declared.gate.Shape.{Shape}
use Rattle.rv_templ.specs.Gates.{no_gate}
use Rattle.rv_templ.specs.Pairs.{paired, after_gates, partner, pair_step, IsPair, IsPairMade}
use Rattle.rv_templ.proofs.JoinLaws.{cond_some}
use Rattle.rv_templ.proofs.Options.{after_some}
use Rattle.rv_templ.proofs.SettledPairs.{no_partner}

-- ---- the partner of the first gate

-- the gate passes those before the place b of the rest and joins with none of them, and with the one at b it does
record IsPartner (g : Shape) (rest out : List Shape) : Type 0 where
  b : ℕ
  within : b < length rest
  passes : (k : ℕ) → k < b → rule g (get_or rest k no_gate) ≡ true
  misses : (k : ℕ) → k < b → paired g (get_or rest k no_gate) ≡ None
  come : List Shape
  joins : paired g (get_or rest b no_gate) ≡ Some come
  is : out ≡ take b rest ++ (come ++ drop (suc b) rest)

-- what holds of the gate at each place below b, and of one before them
one_more : (P : Shape → Type 0) (h : Shape) (rest : List Shape) (b : ℕ) → P h → ((k : ℕ) → k < b → P (get_or rest k no_gate)) → (k : ℕ) → k < suc b → P (get_or (h ∷ rest) k no_gate)
one_more P h rest b here more zero lt = here
one_more P h rest b here more (suc k) lt = more k (omega (arith, lt))

partner_is : (g : Shape) (rest out : List Shape) → partner g rest ≡ Some out → IsPartner g rest out
unfolding partner
partner_is g [] out e = absurd (none-some out e)
partner_is g (h ∷ rest) out e = by (paired g h) refl e (λ o is. partner_is g rest o is)
  where
    by : (p : Option (List Shape)) → paired g h ≡ p
        → option_or (after_gates [] (option_map (λ m. m ++ rest) p)) (if rule g h then after_gates (h ∷ []) (partner g rest) else None) ≡ Some out
        → ((o : List Shape) → partner g rest ≡ Some o → IsPartner g rest o) → IsPartner g (h ∷ rest) out
    by (Some come) joins is rec = record {
      b = 0;
      within = omega arith;
      passes = λ k lt. absurd (omega (arith, lt));
      misses = λ k lt. absurd (omega (arith, lt));
      come = come;
      joins = joins;
      is = sym (same_Some _ _ is);
    }
    by None misses is rec =
        let c = cond_some (rule g h) out (after_gates (h ∷ []) (partner g rest)) is in
        let l = after_some (h ∷ []) (partner g rest) out c.1 in
        let r = rec l.0 l.1 in record {
          b = suc r.b;
          within = let lt = r.within in omega (arith, lt);
          passes = one_more (λ x. rule g x ≡ true) h rest r.b c.0 r.passes;
          misses = one_more (λ x. paired g x ≡ None) h rest r.b misses r.misses;
          come = r.come;
          joins = r.joins;
          is = sym l.2 ∙ ap (λ more. h ∷ more) r.is;
        }

-- ---- pairs of a list, and of the list after its first gate

pair_down : (g : Shape) (rest : List Shape) (a b : ℕ) → IsPair (g ∷ rest) (suc a) (suc b) → IsPair rest a b
pair_down g rest a b p = (omega (arith, p.0), omega (arith, p.1), λ k l l2. p.2 (suc k) (omega arith) (omega arith), p.3, p.4)

up_between : (g : Shape) (rest : List Shape) (a b : ℕ) → ((k : ℕ) → a < k → k < b → rule (get_or rest a no_gate) (get_or rest k no_gate) ≡ true) → (k : ℕ) → suc a < k → k < suc b
    → rule (get_or (g ∷ rest) (suc a) no_gate) (get_or (g ∷ rest) k no_gate) ≡ true
up_between g rest a b between zero l l2 = absurd (omega (arith, l))
up_between g rest a b between (suc k) l l2 = between k (omega (arith, l)) (omega (arith, l2))

pair_up : (g : Shape) (rest : List Shape) (a b : ℕ) → IsPair rest a b → IsPair (g ∷ rest) (suc a) (suc b)
pair_up g rest a b p = (omega (arith, p.0), omega (arith, p.1), up_between g rest a b p.2, p.3, p.4)

first_between : (g : Shape) (rest : List Shape) (b : ℕ) → ((k : ℕ) → k < b → rule g (get_or rest k no_gate) ≡ true) → (k : ℕ) → 0 < k → k < suc b
    → rule g (get_or (g ∷ rest) k no_gate) ≡ true
first_between g rest b passes zero l l2 = absurd (omega (arith, l))
first_between g rest b passes (suc k) l l2 = passes k (omega (arith, l2))

-- the first gate has no partner at a place before b
not_nearer : (g : Shape) (rest : List Shape) (b : ℕ) → ((k : ℕ) → k < b → paired g (get_or rest k no_gate) ≡ None) → (d : ℕ) → d < suc b → IsPair (g ∷ rest) 0 d → ⊥
not_nearer g rest b misses zero lt p = let l = p.0 in omega (arith, l)
not_nearer g rest b misses (suc d) lt p = none-some p.3 (sym (misses d (omega (arith, lt))) ∙ p.4)

-- nor at any
not_first : (g : Shape) (rest : List Shape) (d : ℕ) → partner g rest ≡ None → IsPair (g ∷ rest) 0 d → ⊥
not_first g rest zero none p = let l = p.0 in omega (arith, l)
not_first g rest (suc d) none p = no_partner g rest d p.3 none (omega (arith, p.1)) (λ k l. p.2 (suc k) (omega arith) (omega (arith, l))) p.4

not_earlier : (g : Shape) (rest : List Shape) (a : ℕ) → partner g rest ≡ None → ((c d : ℕ) → c < a → IsPair rest c d → ⊥) → (c d : ℕ) → c < suc a → IsPair (g ∷ rest) c d → ⊥
not_earlier g rest a none earlier zero d lt p = not_first g rest d none p
not_earlier g rest a none earlier (suc c) zero lt p = let l = p.0 in omega (arith, l)
not_earlier g rest a none earlier (suc c) (suc d) lt p = earlier c d (omega (arith, lt)) (pair_down g rest c d p)

not_nearer_up : (g : Shape) (rest : List Shape) (a b : ℕ) → ((d : ℕ) → d < b → IsPair rest a d → ⊥) → (d : ℕ) → d < suc b → IsPair (g ∷ rest) (suc a) d → ⊥
not_nearer_up g rest a b nearer zero lt p = let l = p.0 in omega (arith, l)
not_nearer_up g rest a b nearer (suc d) lt p = nearer d (omega (arith, lt)) (pair_down g rest a d p)

-- ---- the law

pub pair_step-first : (gates out : List Shape) → pair_step gates ≡ Some out → IsPairMade gates out
unfolding pair_step
pair_step-first [] out e = absurd (none-some out e)
pair_step-first (g ∷ rest) out e = by (partner g rest) refl e (λ o is. pair_step-first rest o is)
  where
    by : (p : Option (List Shape)) → partner g rest ≡ p → option_or p (after_gates (g ∷ []) (pair_step rest)) ≡ Some out
        → ((o : List Shape) → pair_step rest ≡ Some o → IsPairMade rest o) → IsPairMade (g ∷ rest) out
    by (Some made) here is rec =
        let p = partner_is g rest made here in record {
          a = 0;
          b = suc p.b;
          first = record {
            pair = (omega arith, (let lt = p.within in omega (arith, lt)), first_between g rest p.b p.passes, p.come, p.joins);
            earlier = λ c d lt pair. absurd (omega (arith, lt));
            nearer = not_nearer g rest p.b p.misses;
          };
          come = p.come;
          joins = p.joins;
          is = sym (same_Some _ _ is) ∙ p.is;
        }
    by None none is rec =
        let l = after_some (g ∷ []) (pair_step rest) out is in
        let r = rec l.0 l.1 in record {
          a = suc r.a;
          b = suc r.b;
          first = record {
            pair = pair_up g rest r.a r.b r.first.pair;
            earlier = not_earlier g rest r.a none r.first.earlier;
            nearer = not_nearer_up g rest r.a r.b r.first.nearer;
          };
          come = r.come;
          joins = r.joins;
          is = sym l.2 ∙ ap (λ more. g ∷ more) r.is;
        }
