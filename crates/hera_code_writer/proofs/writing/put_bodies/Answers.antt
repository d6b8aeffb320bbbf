use Rattle.std.proofs.Common.{◌≡◌, ◌≤◌, ◌++◌, List, ℕ, length, take, sym, ap, ◌∙◌, append_assoc, arith}
use Rattle.std.specs.List.{flat_map}
use Rattle.std.proofs.lemmas.List.{take_all}
use Rattle.rel_format.proofs.Fronts.{prints_more}
use Rattle.hera_code_file.specs.Printing.{word, File_body, body_bytes}
use Rattle.hera_code_file.specs.Fitting.{BodyFits}
use Rattle.hera_code_writer.specs.Writable.{BodyStands}
use Rattle.hera_code_file.specs.Files.{file_body, file_bodies}
use Rattle.hera_code_writer.proofs.Noted.{bodies_length, past, each_at}
use Rattle.hera_code_writer.proofs.Stands.{all_at, all_done}
use Rattle.hera_code_writer.proofs.writing.put_bodies.Goals as goal

pub put_place-requires : goal.put_place-requires
put_place-requires c =
    let n = bodies_length c.args.bodies.now c.args.notes.now c.requires.noted in
    let lt = c.requires.stands.0 in
    omega (arith, n, lt, c.len.ensures)

pub loop-k-init : goal.loop-k-init
loop-k-init c =
    let n : c.len.result ≡ length (file_bodies c.args.bodies.now c.args.notes.now) = c.len.ensures ∙ sym (bodies_length c.args.bodies.now c.args.notes.now c.requires.noted) in
    record { text = c.in_ok-put_place.ensures ∙ ap (λ (m : ℕ). c.args.out.now.items ++ word m) n; fits = tt }

pub unreachable-requires : goal.unreachable-requires
unreachable-requires c =
    let le = past (file_bodies c.args.bodies.now c.args.notes.now) c.loop-k.k c.in_default.ensures.none in
    let n = bodies_length c.args.bodies.now c.args.notes.now c.requires.noted in
    omega (arith, le, n, c.loop-k-test.true, c.len-k-end.ensures)

pub put_body-requires : goal.put_body-requires
put_body-requires c = each_at BodyStands (file_bodies c.args.bodies.now c.args.notes.now) c.loop-k.k (file_body c.in-Some.found.0 c.in-Some.found.1.now) c.requires.stands.1 c.in-Some.ensures.some

pub loop-k-preserved : goal.loop-k-preserved
loop-k-preserved c =
    let all = file_bodies c.args.bodies.now c.args.notes.now in
    let body = file_body c.in-Some.found.0 c.in-Some.found.1.now in
    let front = c.args.out.now.items in
    let done = word (length all) ++ flat_map body_bytes (take c.loop-k.k all) in
    record {
      text = c.in_ok-put_body.ensures.text ∙ ap (λ (t : List ℕ). t ++ body_bytes body) c.loop-k.invariant.text
          ∙ append_assoc front done (body_bytes body)
          ∙ ap (λ (t : List ℕ). front ++ (word (length all) ++ t)) (sym (prints_more body_bytes all c.loop-k.k body c.in-Some.ensures.some));
      fits = all_at BodyFits all c.loop-k.k body c.in-Some.ensures.some c.loop-k.invariant.fits c.in_ok-put_body.ensures.fits;
    }

pub returns-clause-text : goal.returns-clause-text
returns-clause-text c =
    let all = file_bodies c.args.bodies.now c.args.notes.now in
    let n = bodies_length c.args.bodies.now c.args.notes.now c.requires.noted in
    let end : length all ≤ c.loop-k.k = omega (arith, n, c.loop-k-test.false, c.len-k-end.ensures) in
    c.loop-k.invariant.text ∙ ap (λ (t : List File_body). c.args.out.now.items ++ (word (length all) ++ flat_map body_bytes t)) (take_all c.loop-k.k all end)

pub returns-clause-fits : goal.returns-clause-fits
returns-clause-fits c =
    let all = file_bodies c.args.bodies.now c.args.notes.now in
    let n = bodies_length c.args.bodies.now c.args.notes.now c.requires.noted in
    let end : length all ≤ c.loop-k.k = omega (arith, n, c.loop-k-test.false, c.len-k-end.ensures) in
    (c.requires.stands.0, all_done BodyFits all c.loop-k.k end c.loop-k.invariant.fits)
