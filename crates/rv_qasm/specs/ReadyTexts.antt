-- Ready texts: what is written of a usual operation, for each of its lines.
use Rattle.std.specs.Prelude.{◌≡◌, ℕ, ◌<◌, List, [], ◌++◌, codes, slice_get, IfSome}
use Rattle.rv_io.specs.Writer.{short_bytes}
use Rattle.rv_qasm.specs.Text.{qubit}
use Rattle.rv_qasm.specs.declared.texts.Texts.{Texts}
use Rattle.rv_qasm.specs.declared.texts.OpTexts.{OpTexts}

-- for each of so many lines its qubit between two texts
abbrev pub AreBetween : ℕ → List ℕ → List ℕ → Texts → Type 0
AreBetween lines before after texts =
    (line : ℕ) → line < lines
    → IfSome (slice_get texts.texts line) (λ text. short_bytes text ≡ before ++ (qubit line ++ after))

-- the name of a gate on one line, with its qubit
abbrev pub AreStatements : ℕ → List ℕ → Texts → Type 0
AreStatements lines gate texts = AreBetween lines (gate ++ codes " ") (codes ";\n") texts

-- the name of a gate on more lines, with the first qubit
abbrev pub AreBegun : ℕ → List ℕ → Texts → Type 0
AreBegun lines gate texts = AreBetween lines (gate ++ codes " ") (codes ",") texts

-- those of the usual operations on so many lines
pub record AreOpTexts (lines : ℕ) (texts : OpTexts) : Type 0 where
  pub x : AreStatements lines (codes "x") texts.x
  pub h : AreStatements lines (codes "h") texts.h
  pub t : AreStatements lines (codes "t") texts.t
  pub tdg : AreStatements lines (codes "tdg") texts.tdg
  pub cx : AreBegun lines (codes "cx") texts.cx
  pub listed : AreBetween lines [] (codes ",") texts.listed
  pub last : AreBetween lines [] (codes ";\n") texts.last
