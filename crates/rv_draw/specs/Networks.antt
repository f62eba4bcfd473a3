-- What a column of a network's drawing denotes.
use Rattle.std.specs.Prelude.{ℕ, ◌+◌, List, [], ◌∷◌, ◌++◌, Option, Some, None, map, nat_lt, if◌then◌else◌}
use Rattle.rv_net.specs.declared.op.Op.{Op}
use Rattle.rv_net.specs.declared.op.Op.TheVariants.{X, Y, Z, H, S, Sdg, T, Tdg, Cx, Cz, Ccx, Swap, Cswap}
use Rattle.rv_draw.specs.declared.symbol.Symbol.{Symbol}
use Rattle.rv_draw.specs.declared.symbol.Symbol.TheVariants as symbols
use Rattle.rv_draw.specs.Reading.{Picture, are_right, is_touched, lines_with, picture_on, shown_by}
use Rattle.rv_gate.specs.Circuit.{Cascade}

-- the lines from `line` on that an operation touches, and the symbols there
abbrev pub marks_from : ℕ → List Symbol → List (ℕ × Symbol)
marks_from line [] = []
marks_from line (symbol ∷ column) =
    (if is_touched symbol then (line, symbol) ∷ [] else []) ++ marks_from (line + 1) column

-- the operation with these symbols, from the top
abbrev pub op_of_marks : List (ℕ × Symbol) → Option Op
op_of_marks ((q, symbols.Target) ∷ []) = Some (X q)
op_of_marks ((q, symbols.Y) ∷ []) = Some (Y q)
op_of_marks ((q, symbols.Z) ∷ []) = Some (Z q)
op_of_marks ((q, symbols.H) ∷ []) = Some (H q)
op_of_marks ((q, symbols.S) ∷ []) = Some (S q)
op_of_marks ((q, symbols.Sdg) ∷ []) = Some (Sdg q)
op_of_marks ((q, symbols.T) ∷ []) = Some (T q)
op_of_marks ((q, symbols.Tdg) ∷ []) = Some (Tdg q)
op_of_marks ((a, symbols.Positive) ∷ (b, symbols.Target) ∷ []) = Some (Cx a b)
op_of_marks ((a, symbols.Target) ∷ (b, symbols.Positive) ∷ []) = Some (Cx b a)
op_of_marks ((a, symbols.Positive) ∷ (b, symbols.Positive) ∷ []) = Some (Cz a b)
op_of_marks ((a, symbols.Exchanged) ∷ (b, symbols.Exchanged) ∷ []) = Some (Swap a b)
op_of_marks ((a, symbols.Positive) ∷ (b, symbols.Positive) ∷ (c, symbols.Target) ∷ []) = Some (Ccx a b c)
op_of_marks ((a, symbols.Positive) ∷ (b, symbols.Target) ∷ (c, symbols.Positive) ∷ []) = Some (Ccx a c b)
op_of_marks ((a, symbols.Target) ∷ (b, symbols.Positive) ∷ (c, symbols.Positive) ∷ []) = Some (Ccx b c a)
op_of_marks ((a, symbols.Positive) ∷ (b, symbols.Exchanged) ∷ (c, symbols.Exchanged) ∷ []) = Some (Cswap a b c)
op_of_marks ((a, symbols.Exchanged) ∷ (b, symbols.Positive) ∷ (c, symbols.Exchanged) ∷ []) = Some (Cswap b a c)
op_of_marks ((a, symbols.Exchanged) ∷ (b, symbols.Exchanged) ∷ (c, symbols.Positive) ∷ []) = Some (Cswap c a b)
op_of_marks other = None

-- the operation that a column shows; `┼` stands on the lines between those that it touches
abbrev pub op_of : List Symbol → Option Op
op_of column = if are_right (lines_with is_touched column) 0 column then op_of_marks (marks_from 0 column) else None

-- what a text shows, if it is the drawing of a network
abbrev pub network_shown : List ℕ → Option (Picture Op)
network_shown text = shown_by op_of text

-- lines that may be exchanged are shown from the top: both controls of `ccx`, both lines of `cz` and of a swap
abbrev pub op_from_top : Op → Op
op_from_top (Cz a b) = if nat_lt a b then Cz a b else Cz b a
op_from_top (Ccx a b c) = if nat_lt a b then Ccx a b c else Ccx b a c
op_from_top (Swap a b) = if nat_lt a b then Swap a b else Swap b a
op_from_top (Cswap c a b) = if nat_lt a b then Cswap c a b else Cswap c b a
op_from_top op = op

-- the operations on a circuit's lines
abbrev pub network_picture : Cascade → List Op → Picture Op
network_picture c ops = picture_on c (map op_from_top ops)
