-- What `draw` writes: by the definitions alone, it shows the circuit or the network.
use Rattle.std.proofs.Common.{◌≡◌, ◌<◌, ◌≤◌, ◌^◌, ℕ, List, zero, suc, refl, sym, subst, arith, ne_eqb}
use Rattle.std.specs.Prelude.{Option, Some, length, map}
use Rattle.rv_gate.specs.Circuit.{Cascade, IsCascade}
use Rattle.rv_gate.specs.Names.{numbered}
use Rattle.rv_gate.proofs.NameLemmas.{length-numbered}
use Rattle.rv_gate.proofs.inside.CircuitLemmas.{IsCascade-fresh}
use Rattle.rv_mct.proofs.Names.{AreNames-numbered}
use Rattle.rv_net.specs.Op.{IsNetwork, Network}
use Rattle.rv_draw.specs.declared.symbol.Symbol.{Symbol}
use Rattle.rv_draw.specs.Networks.{op_from_top, op_of}
use Rattle.rv_draw.specs.Reading.{from_top, gate_of, picture_on}
use Rattle.rv_draw.specs.Symbols.{op_symbol_on, symbol_on}
use Rattle.rv_draw.proofs.Meaning.{same_run}
use Rattle.rv_draw.proofs.NetworkMeaning.{same_amplitude}
use Rattle.rv_draw.proofs.OperationsShown.{ops_read}
use Rattle.rv_draw.proofs.inside.CircuitBack.{gates_read}
use Rattle.rv_draw.proofs.inside.LaidOut.{laid_out}
use Rattle.rv_draw.proofs.inside.ReadBack.{AreRead, read_back}
use Rattle.rv_picture.specs.Lines.{network_lines}
use Rattle.rv_picture.proofs.LatexBack.{latex_back}
use Rattle.rv_picture.specs.Titles.{gate_title, op_title}
use Rattle.rv_picture.proofs.SvgBack.{AreOneLine, svg_back}
use Rattle.rv_picture.proofs.TitleLines.{gate_titles, op_titles}
use Rattle.rv_qasm.specs.Reading.{Listing}
use Rattle.rv_words.specs.declared.command.PictureForm.{PictureForm}
use Rattle.rv_words.specs.declared.command.PictureForm.TheVariants.{Text, Svg, Latex}
use Rattle.rv_cmd.specs.declared.product.Product.TheVariants.{Drawing, NetDrawing}
use Rattle.rv_cmd.specs.Commands.Draw.{IsDrawing, IsNetworkDrawing, StandsInRows, draw_report, network_report}
use Rattle.rv_cmd.specs.Commands.Draw.{per_block, picture_text, shown_in}
use Rattle.rv_cmd.specs.inside.Products.{IsProductOf}

some-per_block : (wrap : ℕ) → 1 ≤ per_block wrap
some-per_block zero = omega arith
some-per_block (suc n) = rw (ne_eqb (suc n) 0 (λ e. omega (arith, e))) (omega arith)

-- the lines on which a network is drawn are those of a circuit
lines_are : (lines : ℕ) → 1 ≤ lines → lines ≤ 64 → IsCascade (network_lines lines)
lines_are lines some few =
    IsCascade-fresh (numbered 113 lines) (omega (arith, some, length-numbered 113 lines)) (AreNames-numbered 113 lines (omega arith, omega arith) few)

-- in each form the text shows what was drawn
text-shows : {G K : Type 0} (picture : PictureForm) (draws : G → ℕ → Symbol) (title : List (List ℕ) → G → List ℕ) (read : List Symbol → Option K) (kept : G → K) (wrap : ℕ) (c : Cascade) (gates : List G)
    → AreOneLine title → IsCascade c → length gates < 2 ^ 50 → AreRead draws read kept (length c.names) gates
    → shown_in picture read (picture_text picture draws title wrap c gates) ≡ Some (picture_on c (map kept gates))
text-shows Text draws title read kept wrap c gates lack is few are = read_back draws read kept (per_block wrap) c gates (some-per_block wrap) is are
text-shows Svg draws title read kept wrap c gates lack is few are = svg_back draws title read kept (per_block wrap) c gates lack (some-per_block wrap) is few are
text-shows Latex draws title read kept wrap c gates lack is few are = latex_back draws read kept (per_block wrap) c gates (some-per_block wrap) is are

text-stands : {G : Type 0} (picture : PictureForm) (draws : G → ℕ → Symbol) (title : List (List ℕ) → G → List ℕ) (wrap : ℕ) (c : Cascade) (gates : List G) → IsCascade c
    → StandsInRows picture wrap (picture_text picture draws title wrap c gates)
text-stands Text draws title wrap c gates is = laid_out draws (per_block wrap) c gates is
text-stands Svg draws title wrap c gates is = tt
text-stands Latex draws title wrap c gates is = tt

-- the laws; nothing is refused
pub draw-answers : (picture : PictureForm) (wrap : ℕ) (c : Cascade) → IsCascade c → IsProductOf (draw_report picture wrap c) (IsDrawing picture wrap c) (Drawing c picture wrap)
draw-answers picture wrap c given =
    let bounded = given.bounded in record {
      kept = tt;
      is = refl;
      means = record {
        shows = text-shows picture symbol_on gate_title gate_of from_top wrap c c.gates gate_titles given (omega (arith, bounded)) (gates_read (length c.names) c.gates given.valid given.fitting);
        same = λ word. same_run c.gates word given.valid;
        laid_out = text-stands picture symbol_on gate_title wrap c c.gates given;
      };
    }

pub network-drawing : (picture : PictureForm) (wrap : ℕ) (listing : Listing) → IsNetwork listing.net
    → IsProductOf (network_report picture wrap listing) (IsNetworkDrawing picture wrap listing) (NetDrawing (network_lines listing.net.lines) listing.net picture wrap)
network-drawing picture wrap listing given =
    let net : Network = listing.net in
    let bounded = given.bounded in
    let lines : Cascade = network_lines net.lines in
    let is : IsCascade lines = lines_are net.lines given.some given.few in
    let same : net.lines ≡ length lines.names = sym (length-numbered 113 net.lines) in record {
      kept = tt;
      is = refl;
      means = record {
        shows = text-shows picture op_symbol_on op_title op_of op_from_top wrap lines net.ops op_titles is (omega (arith, bounded))
            (subst (λ (n : ℕ). AreRead op_symbol_on op_of op_from_top n net.ops) same (ops_read net.lines net.ops given.few given.fitting));
        same = λ x y. same_amplitude net.ops net.lines x y given.fitting;
        laid_out = text-stands picture op_symbol_on op_title wrap lines net.ops is;
      };
    }
