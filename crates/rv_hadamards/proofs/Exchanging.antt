-- An H and an operation after it: the operation that stands for it before the H.
use Rattle.std.proofs.Common.{◌≡◌, ◌≢◌, ℕ, ◌<◌, ◌^◌, Bool, true, false, cond, eqb, ◌||◌, List, [], ◌∷◌, map, length, Some, None, ne_eqb, refl, sym, ap, ◌∙◌, arith, subst, not-suc-le-zero}
use Rattle.std.proofs.lemmas.Bool.{eqb-true, or_parts}
use Rattle.std.proofs.lemmas.List.{set-get_or}
use Rattle.std.proofs.lemmas.Int.{ints}
use Rattle.std.proofs.lemmas.Option.{same_Some, none-some}
use Rattle.rv_gate.specs.Word.{has}
use Rattle.rv_gate.proofs.LineSets.{has-line, has-lines, has-none, has-with_line}
use Rattle.rv_net.specs.declared.op.Op.{Op}
use Rattle.rv_net.specs.declared.op.Op.TheVariants.{X, Y, Z, H, S, Sdg, T, Tdg, Cx, Cz, Ccx, Swap, Cswap}
use Rattle.rv_net.specs.Cyclotomic.{Cyclotomic, plus, times_w, times_w_power}
use Rattle.rv_net.specs.Op.{OpFitsIn}
use Rattle.rv_net.proofs.Step.{Word, bit, step}
use Rattle.rv_net.proofs.Cyclotomic.{same_cyclotomic}
use Rattle.rv_net.proofs.Frame.{through, puts, relabel, AllWithin, frame-through, step-local, two_apart}
use Rattle.rv_pairs.specs.Commuting.{commute, reads, writes}
use Rattle.rv_pairs.proofs.inside.Meeting.{commute_from}
use Rattle.rv_pairs.proofs.Passing.{passing}
use Rattle.rv_pairs.proofs.Undoing.{mirrored_same}
use Rattle.rv_hadamards.specs.Turned.{exchanged, is_on, turned}

-- ---- on one line and on two

one_line : (net : List Op) (k : Word → Cyclotomic) (x : Word) (q : ℕ) → q < length x → AllWithin 1 net
    → through (map (relabel (q ∷ [])) net) k x ≡ through net (λ u. k (puts x (q ∷ []) u)) (bit x q ∷ [])
one_line net k x q h w =
    ap (through (map (relabel (q ∷ [])) net) k) (sym (set-get_or x q false))
    ∙ frame-through x (q ∷ []) ((λ i g. absurd (not-suc-le-zero g)), tt) (h, tt) net k (bit x q ∷ []) refl w

two_lines : (net : List Op) (k : Word → Cyclotomic) (x : Word) (a b : ℕ) → a < length x → b < length x → a ≢ b → AllWithin 2 net
    → through (map (relabel (a ∷ b ∷ [])) net) k x ≡ through net (λ u. k (puts x (a ∷ b ∷ []) u)) (bit x a ∷ bit x b ∷ [])
two_lines net k x a b ha hb ab w =
    ap (through (map (relabel (a ∷ b ∷ [])) net) k) (sym (let own : puts x (a ∷ b ∷ []) (bit x a ∷ bit x b ∷ []) ≡ x = simp set-get_or in own))
    ∙ frame-through x (a ∷ b ∷ []) (two_apart a b ab) (ha, (hb, tt)) net k (bit x a ∷ bit x b ∷ []) refl w

h_x : (k : Word → Cyclotomic) (b : Bool) → through (H 0 ∷ X 0 ∷ []) k (b ∷ []) ≡ through (Z 0 ∷ H 0 ∷ []) k (b ∷ [])
unfolding through plus times_w_power times_w
h_x k true = same_cyclotomic _ _ (omega (arith, ints)) (omega (arith, ints)) (omega (arith, ints)) (omega (arith, ints))
h_x k false = same_cyclotomic _ _ (omega (arith, ints)) (omega (arith, ints)) (omega (arith, ints)) (omega (arith, ints))

h_z : (k : Word → Cyclotomic) (b : Bool) → through (H 0 ∷ Z 0 ∷ []) k (b ∷ []) ≡ through (X 0 ∷ H 0 ∷ []) k (b ∷ [])
unfolding through plus times_w_power times_w
h_z k true = same_cyclotomic _ _ (omega (arith, ints)) (omega (arith, ints)) (omega (arith, ints)) (omega (arith, ints))
h_z k false = same_cyclotomic _ _ (omega (arith, ints)) (omega (arith, ints)) (omega (arith, ints)) (omega (arith, ints))

h_cx : (k : Word → Cyclotomic) (a b : Bool) → through (H 1 ∷ Cx 0 1 ∷ []) k (a ∷ b ∷ []) ≡ through (Cz 0 1 ∷ H 1 ∷ []) k (a ∷ b ∷ [])
unfolding through plus times_w_power times_w
h_cx k true true = same_cyclotomic _ _ (omega (arith, ints)) (omega (arith, ints)) (omega (arith, ints)) (omega (arith, ints))
h_cx k true false = same_cyclotomic _ _ (omega (arith, ints)) (omega (arith, ints)) (omega (arith, ints)) (omega (arith, ints))
h_cx k false true = same_cyclotomic _ _ (omega (arith, ints)) (omega (arith, ints)) (omega (arith, ints)) (omega (arith, ints))
h_cx k false false = same_cyclotomic _ _ (omega (arith, ints)) (omega (arith, ints)) (omega (arith, ints)) (omega (arith, ints))

h_cz : (k : Word → Cyclotomic) (a b : Bool) → through (H 1 ∷ Cz 0 1 ∷ []) k (a ∷ b ∷ []) ≡ through (Cx 0 1 ∷ H 1 ∷ []) k (a ∷ b ∷ [])
unfolding through plus times_w_power times_w
h_cz k true true = same_cyclotomic _ _ (omega (arith, ints)) (omega (arith, ints)) (omega (arith, ints)) (omega (arith, ints))
h_cz k true false = same_cyclotomic _ _ (omega (arith, ints)) (omega (arith, ints)) (omega (arith, ints)) (omega (arith, ints))
h_cz k false true = same_cyclotomic _ _ (omega (arith, ints)) (omega (arith, ints)) (omega (arith, ints)) (omega (arith, ints))
h_cz k false false = same_cyclotomic _ _ (omega (arith, ints)) (omega (arith, ints)) (omega (arith, ints)) (omega (arith, ints))

-- ---- on any lines

abbrev Exchanges : ℕ → Op → Op → Type 0
Exchanges line op other = (k : Word → Cyclotomic) (x : Word) → OpFitsIn op (length x) → step (H line) (λ v. step op k v) x ≡ step other (λ v. step (H line) k v) x

x_law : (q : ℕ) → Exchanges q (X q) (Z q)
unfolding through relabel
x_law q k x h =
    one_line (H 0 ∷ X 0 ∷ []) k x q h (omega arith) ∙ h_x (λ u. k (puts x (q ∷ []) u)) (bit x q)
    ∙ sym (one_line (Z 0 ∷ H 0 ∷ []) k x q h (omega arith))

z_law : (q : ℕ) → Exchanges q (Z q) (X q)
unfolding through relabel
z_law q k x h =
    one_line (H 0 ∷ Z 0 ∷ []) k x q h (omega arith) ∙ h_z (λ u. k (puts x (q ∷ []) u)) (bit x q)
    ∙ sym (one_line (X 0 ∷ H 0 ∷ []) k x q h (omega arith))

cx_law : (a b : ℕ) → Exchanges b (Cx a b) (Cz a b)
unfolding through relabel
cx_law a b k x h =
    two_lines (H 1 ∷ Cx 0 1 ∷ []) k x a b h.0 h.1 h.2 (omega arith) ∙ h_cx (λ u. k (puts x (a ∷ b ∷ []) u)) (bit x a) (bit x b)
    ∙ sym (two_lines (Cz 0 1 ∷ H 1 ∷ []) k x a b h.0 h.1 h.2 (omega arith))

cz_law : (a b : ℕ) → Exchanges b (Cz a b) (Cx a b)
unfolding through relabel
cz_law a b k x h =
    two_lines (H 1 ∷ Cz 0 1 ∷ []) k x a b h.0 h.1 h.2 (omega arith) ∙ h_cz (λ u. k (puts x (a ∷ b ∷ []) u)) (bit x a) (bit x b)
    ∙ sym (two_lines (Cx 0 1 ∷ H 1 ∷ []) k x a b h.0 h.1 h.2 (omega arith))

fits_back : (a b n : ℕ) → OpFitsIn (Cz a b) n → OpFitsIn (Cz b a) n
fits_back a b n h = (h.1, h.0, (λ e. h.2 (sym e)))

zc_law : (a b : ℕ) → Exchanges a (Cz a b) (Cx b a)
zc_law a b k x h =
    step-local (H a) (λ v. step (Cz a b) k v) (λ v. step (Cz b a) k v) x
    (λ v e. sym (mirrored_same (Cz a b) k v (subst (OpFitsIn (Cz a b)) (sym e) h)))
    ∙ cz_law b a k x (fits_back a b (length x) h)

pub taken : (b : Bool) (u other : Op) → cond b (Some u) None ≡ Some other → (b ≡ true) × (other ≡ u)
taken true u other e = (refl, sym (same_Some _ _ e))
taken false u other e = absurd (none-some _ e)

-- where the line is the operation's own
here : (line q : ℕ) (op u other : Op) → Exchanges q op u → cond (eqb line q) (Some u) None ≡ Some other → Exchanges line op other
here line q op u other law e =
    let is = taken (eqb line q) u other e in
    subst (λ (o : Op). Exchanges line op o) (sym is.1) (subst (λ (l : ℕ). Exchanges l op u) (sym (eqb-true line q is.0)) law)

exchanges : (line : ℕ) (op other : Op) → exchanged line op ≡ Some other → Exchanges line op other
exchanges line (X q) other e = here line q (X q) (Z q) other (x_law q) e
exchanges line (Z q) other e = here line q (Z q) (X q) other (z_law q) e
exchanges line (Cx a b) other e = here line b (Cx a b) (Cz a b) other (cx_law a b) e
exchanges line (Cz a b) other e = by (eqb line b) refl e
  where
    by : (c : Bool) → eqb line b ≡ c → cond c (Some (Cx a b)) (cond (eqb line a) (Some (Cx b a)) None) ≡ Some other → Exchanges line (Cz a b) other
    by true same f =
        subst (λ (o : Op). Exchanges line (Cz a b) o) (same_Some _ _ f) (subst (λ (l : ℕ). Exchanges l (Cz a b) (Cx a b)) (sym (eqb-true line b same)) (cz_law a b))
    by false same f = here line a (Cz a b) (Cx b a) other (zc_law a b) f
exchanges line (Y q) other e = absurd (none-some _ e)
exchanges line (H q) other e = absurd (none-some _ e)
exchanges line (S q) other e = absurd (none-some _ e)
exchanges line (Sdg q) other e = absurd (none-some _ e)
exchanges line (T q) other e = absurd (none-some _ e)
exchanges line (Tdg q) other e = absurd (none-some _ e)
exchanges line (Ccx a b c) other e = absurd (none-some _ e)
exchanges line (Swap a b) other e = absurd (none-some _ e)
exchanges line (Cswap c a b) other e = absurd (none-some _ e)

-- ---- on other lines

unread : (line : ℕ) (op : Op) → is_on line op ≡ false → has (reads op) line ≡ false
unread line (X q) h = has-none line
unread line (Y q) h = has-line q line ∙ h
unread line (Z q) h = has-line q line ∙ h
unread line (H q) h = has-line q line ∙ h
unread line (S q) h = has-line q line ∙ h
unread line (Sdg q) h = has-line q line ∙ h
unread line (T q) h = has-line q line ∙ h
unread line (Tdg q) h = has-line q line ∙ h
unread line (Cx a b) h = has-line a line ∙ (or_parts _ _ h).0
unread line (Cz a b) h = has-lines a b line ∙ h
unread line (Swap a b) h = has-lines a b line ∙ h
unread line (Ccx a b c) h = has-lines a b line ∙ (or_parts _ _ h).0
unread line (Cswap c a b) h = has-with_line _ c line ∙ ap (λ s. s || eqb line c) (has-lines a b line) ∙ h

unwritten : (line : ℕ) (op : Op) → is_on line op ≡ false → has (writes op) line ≡ false
unwritten line (X q) h = has-line q line ∙ h
unwritten line (Y q) h = has-line q line ∙ h
unwritten line (Z q) h = has-none line
unwritten line (H q) h = has-line q line ∙ h
unwritten line (S q) h = has-none line
unwritten line (Sdg q) h = has-none line
unwritten line (T q) h = has-none line
unwritten line (Tdg q) h = has-none line
unwritten line (Cx a b) h = has-line b line ∙ (or_parts _ _ h).1
unwritten line (Cz a b) h = has-none line
unwritten line (Swap a b) h = has-lines a b line ∙ h
unwritten line (Ccx a b c) h = has-line c line ∙ (or_parts _ _ h).1
unwritten line (Cswap c a b) h = has-lines a b line ∙ (or_parts _ _ h).0

apart : (line : ℕ) (op : Op) → is_on line op ≡ false → commute (H line) op ≡ true
apart line op off = commute_from (H line) op (λ l on. other l (writes op) (unwritten line op off) on) (λ l on. other l (reads op) (unread line op off) on)
  where
    both : (b : Bool) → b ≡ true → b ≡ false → ⊥
    both b e f = cc

    other : (l set : ℕ) → has set line ≡ false → has set l ≡ true → has (2 ^ line) l ≡ false
    other l set none on = has-line line l ∙ ne_eqb l line (λ e. both (has set l) on (ap (has set) e ∙ none))

pub turns : (line : ℕ) (op other : Op) → turned line op ≡ Some other → (k : Word → Cyclotomic) (x : Word) → line < length x → OpFitsIn op (length x)
    → step (H line) (λ v. step op k v) x ≡ step other (λ v. step (H line) k v) x
turns line op other e k x below fits = by (is_on line op) refl e
  where
    by : (b : Bool) → is_on line op ≡ b → cond b (exchanged line op) (Some op) ≡ Some other → step (H line) (λ v. step op k v) x ≡ step other (λ v. step (H line) k v) x
    by true on f = exchanges line op other f k x fits
    by false off f =
        subst (λ (o : Op). step (H line) (λ v. step op k v) x ≡ step o (λ v. step (H line) k v) x) (same_Some _ _ f) (passing (H line) op k x (apart line op off) below fits)
