use Rattle.std.proofs.Common.{◌++◌, ◌<◌, ◌≤◌, List, ℕ, length, take, sym, ap, subst, ◌∙◌, append_assoc, arith}
use Rattle.std.specs.List.{flat_map}
use Rattle.std.proofs.lemmas.Option.{get_or_from_slice_get}
use Rattle.std.proofs.lemmas.List.Elements.{All-from_recursion}
use Rattle.rel_format.proofs.Fronts.{prints_more}
use Rattle.hera_code_file.specs.Printing.{word, instr_bytes}
use Rattle.hera_code_file.specs.Fitting.{InstrFits}
use Rattle.hera_code_writer.specs.Writable.{InstrStands}
use Rattle.hera_code_writer.proofs.Stands.{all_at, all_done}
use Rattle.hera_code_writer.proofs.writing.put_instrs.Goals as goal

pub put_instr-requires : goal.put_instr-requires
put_instr-requires c =
    let x = c.at.result.now in
    let lt : c.loop-at.at < length c.args.instrs.now = omega (arith, c.loop-at-test.true, c.len-at-end.ensures) in
    subst InstrStands (get_or_from_slice_get c.args.instrs.now c.loop-at.at x x c.at.ensures) (All-from_recursion InstrStands c.args.instrs.now c.requires.1 c.loop-at.at x lt)

pub loop-at-preserved : goal.loop-at-preserved
loop-at-preserved c =
    let all = c.args.instrs.now in
    let x = c.at.result.now in
    let front = c.args.out.now.items in
    let done = word (length all) ++ flat_map instr_bytes (take c.loop-at.at all) in
    record {
      text = c.in_ok-put_instr.ensures.text ∙ ap (λ (t : List ℕ). t ++ instr_bytes x) c.loop-at.invariant.text
          ∙ append_assoc front done (instr_bytes x)
          ∙ ap (λ (t : List ℕ). front ++ (word (length all) ++ t)) (sym (prints_more instr_bytes all c.loop-at.at x c.at.ensures));
      fits = all_at InstrFits all c.loop-at.at x c.at.ensures c.loop-at.invariant.fits c.in_ok-put_instr.ensures.fits;
    }

pub returns-clause-fits : goal.returns-clause-fits
returns-clause-fits c =
    let le : length c.args.instrs.now ≤ c.loop-at.at = omega (arith, c.loop-at-test.false, c.len-at-end.ensures) in
    (c.requires.0, all_done InstrFits c.args.instrs.now c.loop-at.at le c.loop-at.invariant.fits)
