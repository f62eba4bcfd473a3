-- A wire that was written is read back.
use Rattle.std.proofs.Common.{◌≡◌, ℕ, zero, suc, ◌<◌, Bool, true, false, List, [], ◌∷◌, ◌++◌, length, map, take, drop}
use Rattle.std.proofs.Common.{Some, refl, ap, ◌∙◌, arith, length-append}
use Rattle.std.specs.Prelude.{replicate}
use Rattle.std.specs.List.{flat_map, list_all}
use Rattle.std.proofs.lemmas.Bool.{and_from}
use Rattle.std.proofs.lemmas.List.Folds.{list_all-append}
use Rattle.rv_text.specs.inside.Writable.{is_word_byte, IsPlainWord}
use Rattle.rv_gate.specs.declared.circuit.Mark.{Mark}
use Rattle.rv_gate.specs.declared.circuit.Mark.TheVariants.{Input, Zero, One}
use Rattle.rv_draw.specs.declared.symbol.Symbol.{Symbol}
use Rattle.rv_draw.specs.declared.symbol.Symbol.TheVariants as symbols
use Rattle.rv_draw.specs.Symbols.{glyph}
use Rattle.rv_draw.specs.Drawing.{first_symbol, last_symbol, cells_on, wire}
use Rattle.rv_draw.specs.Reading.{is_wire, before, symbols_after, constant_of, with_symbol, gates_and_end, strip_of}
use Rattle.std.specs.Option.{option_map}

-- ---- symbols

glyph_back : (s : Symbol) (rest : List ℕ) → symbols_after 0 (glyph s ++ rest) ≡ before (Some s) (symbols_after 0 rest)
glyph_back symbols.Wire rest = refl
glyph_back symbols.Crossing rest = refl
glyph_back symbols.Positive rest = refl
glyph_back symbols.Negative rest = refl
glyph_back symbols.Target rest = refl
glyph_back symbols.Exchanged rest = refl
glyph_back symbols.Middle rest = refl
glyph_back symbols.Zero rest = refl
glyph_back symbols.One rest = refl
glyph_back symbols.Wall rest = refl
glyph_back symbols.H rest = refl
glyph_back symbols.T rest = refl
glyph_back symbols.Tdg rest = refl
glyph_back symbols.S rest = refl
glyph_back symbols.Sdg rest = refl
glyph_back symbols.Z rest = refl
glyph_back symbols.Y rest = refl

pub symbols_back : (ss : List Symbol) → symbols_after 0 (flat_map glyph ss) ≡ Some ss
symbols_back [] = refl
symbols_back (s ∷ ss) = glyph_back s (flat_map glyph ss) ∙ ap (before (Some s)) (symbols_back ss)

glyph_bytes : (s : Symbol) → list_all (is_word_byte []) (glyph s) ≡ true
glyph_bytes symbols.Wire = refl
glyph_bytes symbols.Crossing = refl
glyph_bytes symbols.Positive = refl
glyph_bytes symbols.Negative = refl
glyph_bytes symbols.Target = refl
glyph_bytes symbols.Exchanged = refl
glyph_bytes symbols.Middle = refl
glyph_bytes symbols.Zero = refl
glyph_bytes symbols.One = refl
glyph_bytes symbols.Wall = refl
glyph_bytes symbols.H = refl
glyph_bytes symbols.T = refl
glyph_bytes symbols.Tdg = refl
glyph_bytes symbols.S = refl
glyph_bytes symbols.Sdg = refl
glyph_bytes symbols.Z = refl
glyph_bytes symbols.Y = refl

glyph_some : (s : Symbol) → 0 < length (glyph s)
glyph_some symbols.Wire = omega arith
glyph_some symbols.Crossing = omega arith
glyph_some symbols.Positive = omega arith
glyph_some symbols.Negative = omega arith
glyph_some symbols.Target = omega arith
glyph_some symbols.Exchanged = omega arith
glyph_some symbols.Middle = omega arith
glyph_some symbols.Zero = omega arith
glyph_some symbols.One = omega arith
glyph_some symbols.Wall = omega arith
glyph_some symbols.H = omega arith
glyph_some symbols.T = omega arith
glyph_some symbols.Tdg = omega arith
glyph_some symbols.S = omega arith
glyph_some symbols.Sdg = omega arith
glyph_some symbols.Z = omega arith
glyph_some symbols.Y = omega arith

glyphs_bytes : (ss : List Symbol) → list_all (is_word_byte []) (flat_map glyph ss) ≡ true
glyphs_bytes [] = refl
glyphs_bytes (s ∷ ss) = list_all-append (is_word_byte []) (glyph s) (flat_map glyph ss) ∙ and_from _ _ (glyph_bytes s) (glyphs_bytes ss)

-- symbols are a word without quotes
pub glyphs_word : (s : Symbol) (ss : List Symbol) → IsPlainWord [] (flat_map glyph (s ∷ ss))
glyphs_word s ss = (omega (arith, glyph_some s, length-append (glyph s) (flat_map glyph ss)), glyphs_bytes (s ∷ ss))

-- ---- a wire

constant_back : (mark : Mark) → constant_of (first_symbol mark) ≡ Some mark
constant_back Input = refl
constant_back Zero = refl
constant_back One = refl

pad_taken : (n : ℕ) (ss : List Symbol) → list_all is_wire (take n (replicate n symbols.Wire ++ ss)) ≡ true
pad_taken zero ss = refl
pad_taken (suc n) ss = pad_taken n ss

pad_dropped : (n : ℕ) (ss : List Symbol) → drop n (replicate n symbols.Wire ++ ss) ≡ ss
pad_dropped zero ss = refl
pad_dropped (suc n) ss = pad_dropped n ss

gates_back : {G : Type 0} (draws : G → ℕ → Symbol) (mark : Mark) (line : ℕ) (gates : List G) (is_garbage : Bool)
    → gates_and_end mark (cells_on draws line gates ++ last_symbol is_garbage ∷ [])
    ≡ Some (record { constant = mark; symbols = map (λ gate. draws gate line) gates; is_garbage = is_garbage })
gates_back draws mark line [] true = refl
gates_back draws mark line [] false = refl
gates_back draws mark line (gate ∷ gates) is_garbage = ap (option_map (with_symbol (draws gate line))) (gates_back draws mark line gates is_garbage)

pub wire_back : {G : Type 0} (draws : G → ℕ → Symbol) (mark : Mark) (pad line : ℕ) (gates : List G) (is_garbage : Bool)
    → strip_of pad (wire mark pad (cells_on draws line gates) is_garbage)
    ≡ Some (record { constant = mark; symbols = map (λ gate. draws gate line) gates; is_garbage = is_garbage })
wire_back draws mark pad line gates is_garbage =
    rw (
      pad_taken pad (cells_on draws line gates ++ last_symbol is_garbage ∷ []),
      constant_back mark,
      pad_dropped pad (cells_on draws line gates ++ last_symbol is_garbage ∷ []),
    ) (gates_back draws mark line gates is_garbage)
