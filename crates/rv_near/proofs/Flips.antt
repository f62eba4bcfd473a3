-- A network with blocks on rows moves each word as the usual one does, by as many H.
use Rattle.std.proofs.Common.{◌≡◌, ◌∙◌, ℕ, ◌+◌, ◌<◌, ◌≤◌, Bool, true, false, cond, eqb, List, [], ◌∷◌, ◌++◌, length, refl, sym, ap, ap₂, arith, subst}
use Rattle.std.proofs.lemmas.Bool.{or_left}
use Rattle.std.proofs.lemmas.List.{length-append}
use Rattle.std.proofs.lemmas.List.Elements.{All-head, All-tail}
use Rattle.rv_gate.specs.Gate.{FitsIn, IsGate, run, same_word}
use Rattle.rv_gate.specs.Word.{has}
use Rattle.rv_gate.specs.declared.gate.Shape.{Shape}
use Rattle.rv_gate.specs.declared.gate.Shape.TheVariants.{Flip, Swap as SwapGate, Peres}
use Rattle.rv_gate.specs.declared.word.TheConstants.{MOST_LINES}
use Rattle.rv_gate.proofs.inside.GateLemmas.{fits_flip}
use Rattle.rv_mct.specs.Blocks.{controls_of}
use Rattle.rv_mct.specs.Extends.{IsPlain}
use Rattle.rv_mct.specs.declared.control.Control.{Control}
use Rattle.rv_net.specs.Amplitude.{count_h}
use Rattle.rv_net.specs.Cyclotomic.{Cyclotomic, nought, power, root2}
use Rattle.rv_net.specs.Denotes.{Carries, CarriesExtended, Denotes, amplitude_of_map}
use Rattle.rv_net.specs.Network.{flip_ops, network_of, on_zero, toffoli}
use Rattle.rv_net.specs.declared.op.Op.{Op}
use Rattle.rv_net.proofs.Frame.{through, through-append, through-local}
use Rattle.rv_net.proofs.Step.{Word, delta, same_amp}
use Rattle.rv_net.proofs.inside.Network.{ArePlain, Fits, amp-through, count_h-append, denotes-network, fits_controls}
use Rattle.rv_near.specs.Near.{is_row, near_block, near_flip, near_gate, near_ops, row_block}
use Rattle.rv_near.proofs.Blocks.{through-near}

-- ---- a flip

pub through-near-flip : (k : Word → Cyclotomic) (x : Word) (cs : List Control) (t : ℕ) → Fits (length x) cs t → through (near_flip cs t) k x ≡ through (flip_ops cs t) k x
unfolding near_flip flip_ops Fits
through-near-flip k x [] t h = refl
through-near-flip k x (a ∷ []) t h = refl
through-near-flip k x (a ∷ b ∷ []) t h =
    through-append zeros (near_block a.line b.line t ++ zeros) k x
    ∙ through-local zeros (λ v. through (near_block a.line b.line t ++ zeros) k v) (λ v. through (toffoli a.line b.line t ++ zeros) k v) x same
    ∙ sym (through-append zeros (toffoli a.line b.line t ++ zeros) k x)
  where
    zeros : List Op
    zeros = on_zero a ++ on_zero b

    same : (v : Word) → length v ≡ length x → through (near_block a.line b.line t ++ zeros) k v ≡ through (toffoli a.line b.line t ++ zeros) k v
    same v e =
        let below : (line : ℕ) → line < length x → line < length v = λ line lt. subst (λ n. line < n) (sym e) lt in
        through-append (near_block a.line b.line t) zeros k v
        ∙ through-near (λ u. through zeros k u) v a.line b.line t (below a.line h.0) (below b.line h.1) (below t h.2) h.3 h.4 h.5
        ∙ sym (through-append (toffoli a.line b.line t) zeros k v)
through-near-flip k x (a ∷ b ∷ c ∷ more) t h = refl

row-h : (p q r t : ℕ) → count_h (row_block p q r t) ≡ 2
unfolding count_h row_block
row-h p q r t = refl

toffoli-h : (a b c : ℕ) → count_h (toffoli a b c) ≡ 2
unfolding count_h toffoli
toffoli-h a b c = refl

block-h : (a b c : ℕ) → count_h (near_block a b c) ≡ count_h (toffoli a b c)
block-h a b c = go (is_row a b c) (is_row a c b) (is_row b a c) ∙ sym (toffoli-h a b c)
  where
    go : (s t u : Bool) → count_h (cond s (row_block a b c c) (cond t (row_block a c b c) (cond u (row_block b a c c) (toffoli a b c)))) ≡ 2
    go true t u = row-h a b c c
    go false true u = row-h a c b c
    go false false true = row-h b a c c
    go false false false = toffoli-h a b c

flip-h : (cs : List Control) (t : ℕ) → count_h (near_flip cs t) ≡ count_h (flip_ops cs t)
unfolding near_flip flip_ops
flip-h [] t = refl
flip-h (a ∷ []) t = refl
flip-h (a ∷ b ∷ []) t =
    let zeros : List Op = on_zero a ++ on_zero b in
    omega (
      arith,
      count_h-append zeros (near_block a.line b.line t ++ zeros),
      count_h-append (near_block a.line b.line t) zeros,
      count_h-append zeros (toffoli a.line b.line t ++ zeros),
      count_h-append (toffoli a.line b.line t) zeros,
      block-h a.line b.line t,
    )
flip-h (a ∷ b ∷ c ∷ more) t = refl

-- ---- the gates of a circuit

pub parts_of : (n care want t : ℕ) (gates : List Shape) → ArePlain n (Flip care want t ∷ gates) → Fits n (controls_of care want) t
parts_of n care want t gates h =
    let own = All-head IsGate (Flip care want t) gates h.0 in
    let fits = All-head (λ g. FitsIn g n) (Flip care want t) gates h.1 in
    fits_controls n care want t (λ line on. fits line (or_left (has care line) (eqb line t) on)) (fits_flip (Flip care want t) care want t n refl fits) own.1
    (All-head IsPlain (Flip care want t) gates h.2)

pub tail_of : (n : ℕ) (g : Shape) (gates : List Shape) → ArePlain n (g ∷ gates) → ArePlain n gates
tail_of n g gates h = (All-tail IsGate g gates h.0, All-tail (λ g. FitsIn g n) g gates h.1, All-tail IsPlain g gates h.2)

same-through : (n : ℕ) (gates : List Shape) (k : Word → Cyclotomic) (x : Word) → length x ≡ n → ArePlain n gates → through (near_ops gates) k x ≡ through (network_of gates) k x
unfolding network_of
same-through n [] k x lx h = refl
same-through n (Flip care want t ∷ gates) k x lx h =
    let cs : List Control = controls_of care want in
    through-append (near_flip cs t) (near_ops gates) k x
    ∙ through-near-flip (λ v. through (near_ops gates) k v) x cs t (subst (λ m. Fits m cs t) (sym lx) (parts_of n care want t gates h))
    ∙ through-local (flip_ops cs t) (λ v. through (near_ops gates) k v) (λ v. through (network_of gates) k v) x
    (λ v e. same-through n gates k v (e ∙ lx) (tail_of n (Flip care want t) gates h))
    ∙ sym (through-append (flip_ops cs t) (network_of gates) k x)
same-through n (SwapGate care want a b ∷ gates) k x lx h = absurd (All-head IsPlain (SwapGate care want a b) gates h.2)
same-through n (Peres a b c ∷ gates) k x lx h = absurd (All-head IsPlain (Peres a b c) gates h.2)

same-h : (gates : List Shape) → count_h (near_ops gates) ≡ count_h (network_of gates)
unfolding network_of
same-h [] = refl
same-h (Flip care want t ∷ gates) =
    let cs : List Control = controls_of care want in
    omega (arith, count_h-append (near_flip cs t) (near_ops gates), count_h-append (flip_ops cs t) (network_of gates), flip-h cs t, same-h gates)
same-h (SwapGate care want a b ∷ gates) = same-h gates
same-h (Peres a b c ∷ gates) = same-h gates

module _ (n : ℕ) (gates : List Shape) (few : n ≤ MOST_LINES) (plain : ArePlain n gates) where
  pub denotes-near : Denotes n (near_ops gates) (run gates)
  unfolding Denotes
  denotes-near x y ex ey =
      sym (same_amp (near_ops gates) x y)
      ∙ amp-through (near_ops gates) x y
      ∙ same-through n gates (λ v. delta v y) x ex plain
      ∙ sym (amp-through (network_of gates) x y)
      ∙ same_amp (network_of gates) x y
      ∙ denotes-network n gates few plain x y ex ey
      ∙ ap (λ h. cond (same_word (run gates x) y) (power root2 h) nought) (sym (same-h gates))

  pub carries-near : CarriesExtended n (near_ops gates) gates
  unfolding CarriesExtended Carries Denotes
  carries-near aux m extra extended all extends word held y lw lh may ly =
      denotes-near (word ++ held) y (length-append word held ∙ ap₂ (λ p q. p + q) lw lh ∙ all) (ly ∙ all)
      ∙ ap (λ image. amplitude_of_map (near_ops gates) image y) (extends word held lw lh may)
